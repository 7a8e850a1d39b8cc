-- What a command puts, and what becomes of a packet that is in hand.
-- c is the command, r its reply; k is the packet, from the place that it came from; os are the packets that were put;
-- old and new are the desk, before and after the caller.
use Rattle.std.specs.Prelude.{ℕ, ◌≡◌, ◌+◌, ◌≤◌, ◌<◌, ◌⊎◌, true, false, List, length, map, Some, None}
use Rattle.chorus_ui.specs.declared.limits.TheConstants.{CLOCK_LIMIT}
use Rattle.chorus_ui.specs.Layout.{has_place}
use Rattle.chorus_entry.specs.declared.command.Command.{Command}
use Rattle.chorus_entry.specs.declared.packet.Packet.{Packet}
use Rattle.chorus_calls.specs.Callers.{Seated}
use Rattle.law_machine.specs.declared.outgoing.Outgoing.{Outgoing}
use Rattle.law_machine.specs.PlaceState.{Turn, greatest_clock}
use Rattle.law_machine.specs.PlaceMachine.{begun, begun_by, act, work}
use Rattle.law_machine.specs.declared.reply.Reply.{Reply}
use Rattle.law_machine.specs.Lawful.{is_lawful}
use Rattle.chorus_place.specs.Calls.{state, Called}
use Rattle.chorus_io.specs.Count.{raised}
use Rattle.chorus_serve.specs.declared.served.Pump.{Pump}
use Rattle.chorus_serve.specs.declared.served.Pump.TheVariants as pumps
use Rattle.chorus_serve.specs.Desks.{DeskState}
use Rattle.law_history.specs.Turns.{puts_to}
use Rattle.law_history.specs.PlaceTurns.{as_sent}
use Rattle.chorus_serve.specs.Flows.{GoesOut}

-- a turn with the packet begins so
abbrev pub begins_with : Packet → DeskState → Seated → Turn
begins_with k d caller = begun_by (state d.place) caller k

-- what was put, and no other packet, waits behind what waited, or was sent
abbrev pub GoOut : List Outgoing → DeskState → DeskState → Type 0
GoOut os old new =
    (p : ℕ) → has_place old.place.layout p ≡ true
    → GoesOut p (puts_to p (map as_sent os)) old.place.out.lists new.place.out.lists old.links new.links

-- the packets that were put are counted, and no more room is taken than that of the entries and packets
pub record AreCounted (os : List Outgoing) (old new : DeskState) : Type 0 where
  pub puts : new.place.out.puts ≡ old.place.out.puts + length os
  pub spare : old.place.spare + length old.place.journal ≤ new.place.spare + length new.place.journal + length os

-- the command was performed as the machine does it; what it put waits behind what waited
pub record Performs (c : Command) (r : Reply) (old new : DeskState) (before after : Seated) : Type 0 where
  pub called : Called old.place new.place before after c r
  pub out : GoOut (act c (begun (state old.place) before)).puts old new

-- the packet stays in hand, and nothing else changes
pub record Holds (from : ℕ) (k : Packet) (old new : DeskState) (before after : Seated) : Type 0 where
  pub state : state new.place ≡ state old.place
  pub waits : new.place.out.lists ≡ old.place.out.lists
  pub puts : new.place.out.puts ≡ old.place.out.puts
  pub spare : old.place.spare ≤ new.place.spare
  pub links : new.links ≡ old.links
  pub hand : new.hand ≡ Some (from, k)
  pub last : new.last ≡ old.last
  pub worked : new.worked ≡ old.worked
  pub caller : after ≡ before

-- the packet was worked off as the machine does it
pub record IsWorkedOff (from : ℕ) (k : Packet) (old new : DeskState) (before after : Seated) : Type 0 where
  pub lawful : is_lawful from k (state old.place) ≡ true
  pub state : state new.place ≡ (work k (begins_with k old before)).place
  pub caller : after ≡ (work k (begins_with k old before)).caller
  pub out : GoOut (work k (begins_with k old before)).puts old new
  pub counted : AreCounted (work k (begins_with k old before)).puts old new
  pub links : new.links ≡ old.links
  pub hand : new.hand ≡ None
  pub last : new.last ≡ old.last
  pub worked : new.worked ≡ raised old.worked

-- the packet is unlawful
pub record IsHeldBack (from : ℕ) (k : Packet) (old new : DeskState) (before after : Seated) : Type 0 where
  pub unlawful : is_lawful from k (state old.place) ≡ false
  pub holds : Holds from k old new before after

-- what was done, by the answer
abbrev pub HandlesPacket : Pump → ℕ → Packet → DeskState → DeskState → Seated → Seated → Type 0
HandlesPacket (pumps.Served served) from k old new before after =
    (served ≡ from) × (greatest_clock (begins_with k old before) < CLOCK_LIMIT)
    × (IsWorkedOff from k old new before after ⊎ IsHeldBack from k old new before after)
HandlesPacket (pumps.Idle put worked) from k old new before after = ⊥

-- the clock is the greatest that the packet, the place and the caller compare, from 2^62 on
pub record IsWornAt (clock : ℕ) (k : Packet) (old : DeskState) (before : Seated) : Type 0 where
  pub greatest : clock ≡ greatest_clock (begins_with k old before)
  pub worn : CLOCK_LIMIT ≤ clock
