-- What a job asks of a place, and what one run of it did.
-- w and x are the caller before and after, d and e the desk before and after, c a command, m the mark of the place.
use Rattle.std.specs.Prelude.{ℕ, ◌≡◌, ◌<◌, ◌≤◌, ◌^◌, ◌-◌, nat_le, if◌then◌else◌, Bool, true, false, Option, Some, None, Result, Ok, Err, IsErrOf, OnOk}
use Rattle.std.specs.declared.alloc.AllocError.{AllocError}
use Rattle.std.specs.declared.snapshot.Snapshot.{Snapshot}
use Rattle.chorus_ui.specs.declared.limits.TheConstants.{CLOCK_LIMIT}
use Rattle.chorus_ui.specs.Layout.{has_place}
use Rattle.chorus_entry.specs.declared.command.Command.{Command}
use Rattle.chorus_entry.specs.declared.packet.Packet.{Packet}
use Rattle.chorus_entry.specs.Command.{meets_conditions, has_body_in_limit, is_post}
use Rattle.chorus_entry.specs.Places.{place_for}
use Rattle.chorus_world.specs.Places.{last_clock}
use Rattle.chorus_calls.specs.Callers.{Seated, raised}
use Rattle.law_machine.specs.declared.reply.Reply.{Reply}
use Rattle.law_machine.specs.PlaceState.{greatest_clock}
use Rattle.law_machine.specs.PlaceMachine.{begun}
use Rattle.law_machine.specs.Replies.{reply}
use Rattle.chorus_place.specs.Calls.{Place, state, is_call}
use Rattle.chorus_place.specs.declared.fault.PlaceFault.{PlaceFault}
use Rattle.chorus_place.specs.declared.fault.PlaceFault.TheVariants as faults
use Rattle.chorus_serve.specs.declared.served.Pump.{Pump}
use Rattle.chorus_serve.specs.declared.served.Pump.TheVariants as pumps
use Rattle.chorus_serve.specs.Desks.{DeskState}
use Rattle.chorus_serve.specs.Serving.{WorksOff, KeepsInHand, IsIdle, Rests, IsWornBy, AreEmptied}
use Rattle.chorus_nucleus.specs.declared.site_turns.site.SiteMark.{SiteMark}

-- the caller may give the command there
pub record MayAct (w : Seated) (c : Command) (m : SiteMark) : Type 0 where
  pub conditions : meets_conditions c ≡ true
  pub here : place_for m.layout w.actor c ≡ m.number
  pub place : has_place m.layout m.number ≡ true
  pub body : has_body_in_limit c ≡ true
  pub posts : is_post c ≡ true → w.posts < 2 ^ 32 - 1
  pub given : is_call c ≡ true → w.client.given < 2 ^ 32 - 1

-- the caller is that of the pass with this number, and may give the command there
abbrev pub AcceptsAct : Seated → Command → SiteMark → ℕ → Type 0
AcceptsAct w c m seat = (w.seat ≡ seat) × MayAct w c m

-- the entries of the place were shown to the caller
abbrev pub HasSeen : DeskState → Seated → Seated → Type 0
HasSeen d w x = x ≡ raised (last_clock d.place.journal) w

-- Where the command was performed the job kept the place before it, the clocks were not worn, and it has the machine's
-- reply. Where it was not, the place was shown; the greatest of the clocks is at the limit where it was worn, and below
-- where there was no memory.
abbrev pub Acted : Command → Option (Snapshot Place) → Result Reply PlaceFault → Seated → Seated → DeskState → Type 0
Acted c (Some z) (Ok r) w x d =
    (z.value ≡ d.place) × (r ≡ reply c (begun (state d.place) w))
    × (greatest_clock (begun (state d.place) w) < CLOCK_LIMIT)
Acted c None (Err (faults.Memory none)) w x d =
    HasSeen d w x × (greatest_clock (begun (state d.place) w) < CLOCK_LIMIT)
Acted c None (Err (faults.Worn clock)) w x d =
    HasSeen d w x × (CLOCK_LIMIT ≤ clock) × (clock ≡ greatest_clock (begun (state d.place) w))
Acted c _ _ w x d = ⊥

-- the caller has seen the entry with this clock, unless a packet was worked off
abbrev pub seen_unless : Option ℕ → ℕ → Seated → Seated
seen_unless None clock w = raised clock w
seen_unless (Some a) clock w = w

-- why a command was not performed for whose copy there was no memory: a worn clock is told first
abbrev pub uncopied : ℕ → AllocError → PlaceFault
uncopied clock none = if nat_le CLOCK_LIMIT clock then faults.Worn clock else faults.Memory none

-- from where the packet came that was worked off: served, and none is in hand then
abbrev pub worked_from : Result Pump PlaceFault → Bool → Option ℕ
worked_from (Ok (pumps.Served from)) false = Some from
worked_from _ _ = None

-- what was done, where a packet was worked off from there, or none was
abbrev pub HasWorked : Option ℕ → Result Pump PlaceFault → Seated → Seated → DeskState → DeskState → Type 0
HasWorked (Some a) (Ok (pumps.Served from)) w x d e = (a ≡ from) × (k : Packet) × WorksOff from k d e w x
HasWorked None (Ok (pumps.Served from)) w x d e = HasSeen d w x × (k : Packet) × KeepsInHand from k d e w w
HasWorked None (Ok (pumps.Idle put worked)) w x d e =
    HasSeen d w x × IsIdle d e w w × (put ≡ d.place.out.puts) × (worked ≡ d.worked)
HasWorked None (Err f) w x d e = HasSeen d w x × Rests d e w w
HasWorked _ _ w x d e = ⊥

-- the job kept the place before, and did this; what waited was sent, or a link was found full; a worn clock is that of
-- what is in hand
abbrev pub Served : Option ℕ → Place → Result Pump PlaceFault → Seated → Seated → DeskState → DeskState → Type 0
Served a z r w x d e =
    (z ≡ d.place) × HasWorked a r w x d e × ((clock : ℕ) → IsErrOf r (faults.Worn clock) → IsWornBy clock d e w)
    × OnOk r (AreEmptied d e)

abbrev pub ServedAt : Option ℕ → Option (Snapshot Place) → Result Pump PlaceFault → Seated → Seated → DeskState
    → DeskState → Type 0
ServedAt a None r w x d e = ⊥
ServedAt a (Some z) r w x d e = Served a z.value r w x d e
