-- Clocks fall along the journal of a place, which has its newest entry first, and the caller of a turn has then the clock of the last one.
use Rattle.std.proofs.Common.{ℕ, ◌≡◌, ◌<◌, ◌≤◌, ◌==◌, true, ◌&&◌, not, List, [], ◌∷◌, ◌++◌, refl, subst, arith}
use Rattle.std.specs.List.{All}
use Rattle.std.proofs.lemmas.Bool.{and_parts}
use Rattle.std.proofs.lemmas.List.Elements.{All-nil, All-cons, All-head, All-tail, All-weaker}
use Rattle.chorus_ui.specs.declared.layout.Layout.{Layout}
use Rattle.chorus_ui.specs.Layout.{has_place}
use Rattle.chorus_entry.specs.declared.act.Act.{Act}
use Rattle.chorus_entry.specs.declared.entry.Entry.{Entry}
use Rattle.chorus_entry.specs.declared.command.Command.{Command}
use Rattle.chorus_entry.specs.declared.packet.Packet.{Packet}
use Rattle.chorus_world.specs.Places.{last_clock}
use Rattle.chorus_calls.specs.Callers.{Seated}
use Rattle.law_machine.specs.PlaceState.{PlaceState, Turn, Change, started, next_clock, say}
use Rattle.law_machine.specs.PlaceMachine.{begun, begun_by}
use Rattle.law_machine.proofs.Machine.Chains.{act-gives, act-keeps, work-keeps}
use Rattle.law_history.specs.Turns.{Input}
use Rattle.law_history.specs.Histories.{Takes}
use Rattle.law_history.specs.PlaceTurns.{turn, brings_entry, may_come, may_take, machine}
use Rattle.law_history.specs.Journals.{PlaceTurn}
use Rattle.law_history.specs.Entries.{ClocksFall, JournalsFall, TurnsClimb}
use Rattle.law_history.proofs.Working.{work-gives}

-- no clock is above the last one
pub falls-last : (es : List Entry) → ClocksFall es → All (λ (e : Entry). e.clock ≤ last_clock es) es
falls-last [] h = All-nil (λ (e : Entry). e.clock ≤ 0)
falls-last (e ∷ es) h =
    All-cons (λ (f : Entry). f.clock ≤ e.clock) e es (omega arith)
    (All-weaker (λ (f : Entry). f.clock < e.clock) (λ (f : Entry). f.clock ≤ e.clock) (λ f lt. omega (arith, lt)) es h.0)

said : (a : Act) (c : Change) (t : Turn) → ClocksFall t.place.journal → ClocksFall (say a c t).place.journal
said a c t h = (
  All-weaker (λ (e : Entry). e.clock ≤ last_clock t.place.journal) (λ (e : Entry). e.clock < next_clock t) (λ e le. omega (arith, le)) t.place.journal
      (falls-last t.place.journal h),
  h,
)

pub turn-falls : (i : Input Command Packet) (s : PlaceState) (w : Seated) → ClocksFall s.journal → ClocksFall (turn i s w).place.journal
turn-falls (Input.Command c) s w h = act-keeps (λ u. ClocksFall u.place.journal) (λ a x u _ k. said a x u k) c (begun s w) h
turn-falls (Input.Packet a k) s w h = work-keeps (λ u. ClocksFall u.place.journal) (λ a x u _ k. said a x u k) k (begun_by s w k) h

abbrev AtLast : Turn → Type 0
AtLast u = u.caller.last ≡ last_clock u.place.journal

pub turn-last : (l : Layout) (p : ℕ) (i : Input Command Packet) (s : PlaceState) (w : Seated) → may_take l p i s w ≡ true
    → (turn i s w).caller.last ≡ last_clock (turn i s w).place.journal
turn-last l p (Input.Command c) s w m = act-gives AtLast (λ a x u _ h. refl) c (begun s w) (λ a x _. refl)
turn-last l p (Input.Packet a k) s w m =
    let comes = (and_parts (has_place l p) (may_come l p (Input.Packet a k) w) m).1 in
    work-gives AtLast (λ a x u _ h. refl) (begun_by s w k) (λ a x _. refl) k (and_parts (has_place l a && not (a == p)) (brings_entry k.cargo) comes).1

pub turns-climb : TurnsClimb
turns-climb l p i s w m = record { falls = turn-falls i s w; last = turn-last l p i s w m }

turns-fall : (l : Layout) (p : ℕ) (ts : List PlaceTurn) (x y : PlaceState) → Takes (machine l) p x ts y → ClocksFall x.journal → ClocksFall y.journal
turns-fall l p [] x y h f = subst (λ (z : PlaceState). ClocksFall z.journal) h f
turns-fall l p (t ∷ ts) x y h f = turns-fall l p ts (turn t.input x t.before).place y h.1 (turn-falls t.input x t.before f)

pub journals-fall : JournalsFall
journals-fall l p ts s h = turns-fall l p ts (started l p) s h tt

pub falls-rest : (xs ys : List Entry) → ClocksFall (xs ++ ys) → ClocksFall ys
falls-rest [] ys h = h
falls-rest (x ∷ xs) ys h = falls-rest xs ys h.1

in-middle : (P : Entry → Type 0) (xs : List Entry) (e : Entry) (ys : List Entry) → All P (xs ++ e ∷ ys) → P e
in-middle P [] e ys h = All-head P e ys h
in-middle P (x ∷ xs) e ys h = in-middle P xs e ys (All-tail P x (xs ++ e ∷ ys) h)

-- what stands before an entry is above it
pub falls-above : (xs : List Entry) (e : Entry) (ys : List Entry) → ClocksFall (xs ++ e ∷ ys) → All (λ (f : Entry). e.clock < f.clock) xs
falls-above [] e ys h = All-nil (λ (f : Entry). e.clock < f.clock)
falls-above (x ∷ xs) e ys h =
    All-cons (λ (f : Entry). e.clock < f.clock) x xs (in-middle (λ (f : Entry). f.clock < x.clock) xs e ys h.0) (falls-above xs e ys h.1)
