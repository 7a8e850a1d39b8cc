-- What is ready for a packet before it changes anything: the room, and what it chooses.
-- k is a port and route, p the tables of a place; `from` is the place that the packet came from.
use Rattle.std.specs.Prelude.{ℕ, ◌≡◌, ◌+◌, ◌<◌, ◌≤◌, ◌^◌, Option, None, length}
use Rattle.chorus_entry.specs.declared.answer.Answer.{Answer}
use Rattle.chorus_entry.specs.declared.answer.Answer.TheVariants as A
use Rattle.chorus_entry.specs.declared.packet.Cargo.{Cargo}
use Rattle.place_unsettled.specs.declared.wait.Key.{Key}
use Rattle.place_unsettled.specs.declared.wait.Wait.{Wait}
use Rattle.chorus_place.specs.PlaceTables.Tables.{Tables}
use Rattle.chorus_place.specs.PlaceTables.Going.{waits_for, reports_for, leaving_after}
use Rattle.chorus_place.specs.PlaceTurns.WithGroups.GroupTurns.{IsAskReady}
use Rattle.chorus_place.specs.declared.turns.of_packets.readiness.Ready.{Ready}

-- how many messages an answer settles
abbrev pub settled_by : Answer → ℕ
settled_by (A.Stale to hop) = 0
settled_by _ = 1

-- the first message of k may hear the answer and the others may go: `again` is the one that is tried at another place
-- then
pub record IsVerdictReady (k : Key) (answer : Answer) (again : Option Wait) (p : Tables) : Type 0 where
  pub leaves : again ≡ leaving_after k answer (settled_by answer) None p
  pub few : length (waits_for k p) < 2 ^ 63
  pub spare : length (waits_for k p) + 1 ≤ p.journal.spare
  pub room : reports_for k p + 1 ≤ p.room

-- all is ready for a packet with this cargo
abbrev pub IsReady : ℕ → Cargo → Ready → Tables → Type 0
IsReady from (Cargo.Try m q route only tried) ready p = (1 ≤ p.journal.spare) × (1 ≤ p.room)
IsReady from (Cargo.Verdict x q route answer) (Ready.Verdict again) p =
    IsVerdictReady (record { port = q; route = route }) answer again p
IsReady from (Cargo.Transfer port) ready p = (1 ≤ p.journal.spare) × (0 < p.ports.spare)
IsReady from (Cargo.Ask m d) (Ready.Ask chosen) p = IsAskReady from m d chosen p
IsReady from (Cargo.Report x answer) ready p = 1 ≤ p.journal.spare
IsReady from cargo ready p = ⊥
