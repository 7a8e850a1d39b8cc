-- What a call of `serve` does.
-- old and new are the desk, before and after the caller, k is a packet, from the place that it came from.
use Rattle.std.specs.Prelude.{ℕ, ◌≡◌, ◌≤◌, ◌<◌, ◌⊎◌, true, false, List, [], ◌++◌, Option, Some, None, option_to_list}
use Rattle.chorus_ui.specs.declared.limits.TheConstants.{CLOCK_LIMIT}
use Rattle.chorus_entry.specs.declared.packet.Packet.{Packet}
use Rattle.chorus_calls.specs.Callers.{Seated}
use Rattle.law_machine.specs.declared.outgoing.Outgoing.{Outgoing}
use Rattle.law_machine.specs.PlaceState.{greatest_clock}
use Rattle.law_machine.specs.PlaceMachine.{work}
use Rattle.law_machine.specs.Lawful.{is_lawful}
use Rattle.chorus_place.specs.Calls.{state}
use Rattle.chorus_io.specs.Count.{raised}
use Rattle.chorus_ends.specs.Links.{Counts}
use Rattle.chorus_serve.specs.declared.served.Pump.{Pump}
use Rattle.chorus_serve.specs.declared.served.Pump.TheVariants as pumps
use Rattle.law_history.specs.Turns.{from_place}
use Rattle.chorus_serve.specs.Flows.{IsOther, GoesOut, EmptiesOrFull, Takes, WasEmpty, ComesNext, last_from}
use Rattle.chorus_serve.specs.Desks.{DeskState}
use Rattle.chorus_serve.specs.Working.{begins_with, GoOut, AreCounted}

-- what the call moved: each packet that was put, and no other, waits or was sent, in order; at most one packet was
-- received, of the next place that had one; and what was worked off, if anything, followed by what is then in hand, is
-- what was in hand followed by what was received
pub record Moved (done : Option (ℕ × Packet)) (puts : List Outgoing) (old new : DeskState) : Type 0 where
  pub out : GoOut puts old new
  pub popped : Option (ℕ × Packet)
  pub received : (p : ℕ) → new.links.received p ≡ old.links.received p ++ from_place p (option_to_list popped)
  pub hand : option_to_list done ++ option_to_list new.hand ≡ option_to_list old.hand ++ option_to_list popped
  pub next : ComesNext old.place.layout old.place.number old.last popped old.links new.links
  pub last : new.last ≡ last_from old.last popped
  pub counted : AreCounted puts old new
  pub counts : Counts old.links new.links

-- no entry was appended, no table changed, and the caller is as it was
pub record Rests (old new : DeskState) (before after : Seated) : Type 0 where
  pub state : state new.place ≡ state old.place
  pub caller : after ≡ before
  pub moved : Moved None [] old new
  pub worked : new.worked ≡ old.worked

-- the packet was lawful, and was worked off as the machine does it
pub record WorksOff (from : ℕ) (k : Packet) (old new : DeskState) (before after : Seated) : Type 0 where
  pub lawful : is_lawful from k (state old.place) ≡ true
  pub unworn : greatest_clock (begins_with k old before) < CLOCK_LIMIT
  pub state : state new.place ≡ (work k (begins_with k old before)).place
  pub caller : after ≡ (work k (begins_with k old before)).caller
  pub moved : Moved (Some (from, k)) (work k (begins_with k old before)).puts old new
  pub hand : new.hand ≡ None
  pub worked : new.worked ≡ raised old.worked

-- the packet is unlawful, and stays in hand
pub record KeepsInHand (from : ℕ) (k : Packet) (old new : DeskState) (before after : Seated) : Type 0 where
  pub unlawful : is_lawful from k (state old.place) ≡ false
  pub unworn : greatest_clock (begins_with k old before) < CLOCK_LIMIT
  pub rests : Rests old new before after
  pub hand : new.hand ≡ Some (from, k)

-- nothing was in hand, and each link was found empty
pub record IsIdle (old new : DeskState) (before after : Seated) : Type 0 where
  pub rests : Rests old new before after
  pub had_none : old.hand ≡ None
  pub has_none : new.hand ≡ None
  pub empties : (p : ℕ) → IsOther old.place.layout old.place.number p → WasEmpty p old.links new.links

-- what was done, by the answer
abbrev pub Answers : Pump → DeskState → DeskState → Seated → Seated → Type 0
Answers (pumps.Served from) old new before after =
    (k : Packet) × (WorksOff from k old new before after ⊎ KeepsInHand from k old new before after)
Answers (pumps.Idle put worked) old new before after =
    IsIdle old new before after × (put ≡ new.place.out.puts) × (worked ≡ new.worked)

-- all that waited for a place was sent, and maybe more, or a link to it was found full
abbrev pub AreEmptied : DeskState → DeskState → Type 0
AreEmptied old new =
    (p : ℕ) → IsOther old.place.layout old.place.number p
    → EmptiesOrFull p old.place.out.lists old.links new.links

-- the packet in hand, with the place and the caller, compares this clock, from 2^62 on; what waited was sent before
pub record IsWornBy (clock : ℕ) (old new : DeskState) (before : Seated) : Type 0 where
  pub from : ℕ
  pub packet : Packet
  pub hand : new.hand ≡ Some (from, packet)
  pub greatest : clock ≡ greatest_clock (begins_with packet old before)
  pub worn : CLOCK_LIMIT ≤ clock
  pub emptied : AreEmptied old new

-- The parts of a call, one after the other.

-- what waited was sent, as far as the links had room
pub record SendsOut (old new : DeskState) : Type 0 where
  pub state : state new.place ≡ state old.place
  pub out : (p : ℕ) → GoesOut p [] old.place.out.lists new.place.out.lists old.links new.links
  pub received : (p : ℕ) → new.links.received p ≡ old.links.received p
  pub counts : Counts old.links new.links
  pub puts : new.place.out.puts ≡ old.place.out.puts
  pub spare : old.place.spare ≤ new.place.spare
  pub hand : new.hand ≡ old.hand
  pub last : new.last ≡ old.last
  pub worked : new.worked ≡ old.worked

-- at most one packet was received, and is in hand
pub record TakesUp (old new : DeskState) : Type 0 where
  pub place : new.place ≡ old.place
  pub popped : Option (ℕ × Packet)
  pub takes : Takes popped old.links new.links
  pub next : ComesNext old.place.layout old.place.number old.last popped old.links new.links
  pub last : new.last ≡ last_from old.last popped
  pub hand : option_to_list new.hand ≡ option_to_list old.hand ++ option_to_list popped
  pub worked : new.worked ≡ old.worked

-- nothing was in hand, and each link was found empty
pub record FindsNone (old new : DeskState) : Type 0 where
  pub had_none : old.hand ≡ None
  pub empties : (p : ℕ) → IsOther old.place.layout old.place.number p → WasEmpty p old.links new.links

-- only what is in hand may have changed
pub record LaysDown (old new : DeskState) : Type 0 where
  pub place : new.place ≡ old.place
  pub links : new.links ≡ old.links
  pub last : new.last ≡ old.last
  pub worked : new.worked ≡ old.worked
