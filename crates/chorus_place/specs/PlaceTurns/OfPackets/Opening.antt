-- What is so of a packet that is worked off.
-- m is a message, d its destination, q a port, x an id, t the turn; `from` is the place that the packet came from.
use Rattle.std.specs.Prelude.{ℕ, ◌≡◌, ◌≤◌, true, None}
use Rattle.chorus_ui.specs.declared.limits.TheConstants.{MEMBERS_LIMIT}
use Rattle.chorus_ui.specs.Layout.{has_place}
use Rattle.chorus_entry.specs.declared.dest.Dest.{Dest}
use Rattle.chorus_entry.specs.declared.message.Message.{Message}
use Rattle.chorus_entry.specs.declared.packet.Cargo.{Cargo}
use Rattle.chorus_entry.specs.Dest.{port_in}
use Rattle.law_machine.specs.PlaceState.{Turn}
use Rattle.chorus_place.specs.PlaceTables.Tables.{IsSound}
use Rattle.chorus_place.specs.PlaceTables.Ports.{MayArrive}
use Rattle.chorus_place.specs.PlaceTables.Allowed.{MayTry, MayTell}

-- members may be chosen here for a post of another place
pub record MayAsk (from : ℕ) (m : Message) (d : Dest) (t : Turn) : Type 0 where
  pub group : port_in d ≡ None
  pub place : has_place t.place.layout from ≡ true
  pub sound : IsSound m

-- what a lawful packet with this cargo says, whatever the clock; of a port that it brings the clock says more
abbrev pub MayHear : ℕ → Cargo → Turn → Type 0
MayHear from (Cargo.Try m q route only tried) t = MayTry from m q t
MayHear from (Cargo.Verdict x q route answer) t = MayTell (record { port = q; route = route }) answer t
MayHear from (Cargo.Transfer port) t = Unit {0}
MayHear from (Cargo.Ask m d) t = MayAsk from m d t
MayHear from (Cargo.Report x answer) t = x.copy ≤ MEMBERS_LIMIT

-- a packet with this cargo may be worked off
abbrev pub MayOpen : ℕ → Cargo → Turn → Type 0
MayOpen from (Cargo.Transfer port) t = MayArrive port t
MayOpen from cargo t = MayHear from cargo t
