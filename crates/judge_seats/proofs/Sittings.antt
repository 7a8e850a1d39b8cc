-- What is known of a caller after an entry more.
use Rattle.std.proofs.Common.{ℕ, ◌≡◌, ◌==◌, Bool, true, false, ◌&&◌, ◌||◌, cond, List, [], ◌∷◌, Option, Some, None, refl, ◌∙◌, ap}
use Rattle.std.proofs.lemmas.Bool.{eqb-true}
use Rattle.std.specs.Option.{option_or}
use Rattle.chorus_ui.specs.declared.ui.Ui.{Ui}
use Rattle.chorus_ui.specs.declared.layout.Layout.{Layout}
use Rattle.chorus_entry.specs.declared.entry.Entry.{Entry}
use Rattle.chorus_world.specs.Views.{by}
use Rattle.chorus_world.specs.Places.{last_clock}
use Rattle.judge_seats.specs.declared.seats.Sitting.{Sitting}
use Rattle.judge_seats.specs.Berths.{needed, missed}
use Rattle.judge_seats.specs.Seats.{actor_of, clock_of, is_it, is_out, sits, sits_by, sitting, sitting_here}

-- The caller of the entry, and others.

pub sitting_own : (past : List Entry) (e : Entry) (s : ℕ) → (e.seat == s) ≡ true → sitting (e ∷ past) s ≡ Some (sitting_here (needed past e) e (sitting past s))
sitting_own past e s h =
    ap (λ b. cond b (Some (sitting_here (needed past e) e (sitting past e.seat))) (sitting past s)) h
    ∙ ap (λ n. Some (sitting_here (needed past e) e (sitting past n))) (eqb-true e.seat s h)

pub sitting_other : (past : List Entry) (e : Entry) (s : ℕ) → (e.seat == s) ≡ false → sitting (e ∷ past) s ≡ sitting past s
sitting_other past e s h = ap (λ b. cond b (Some (sitting_here (needed past e) e (sitting past e.seat))) (sitting past s)) h

pub out_own : (past : List Entry) (e : Entry) (s : ℕ) (a : Ui) → (e.seat == s) ≡ true → is_out (e ∷ past) s a ≡ (is_it a (missed past e) || is_out past s a)
out_own past e s a h = ap (λ b. (b && is_it a (missed past e)) || is_out past s a) h

pub out_other : (past : List Entry) (e : Entry) (s : ℕ) (a : Ui) → (e.seat == s) ≡ false → is_out (e ∷ past) s a ≡ is_out past s a
out_other past e s a h = ap (λ b. (b && is_it a (missed past e)) || is_out past s a) h

pub sits_other : (l : Layout) (past : List Entry) (e : Entry) (s : ℕ) → (e.seat == s) ≡ false → sits l (e ∷ past) s ≡ sits l past s
sits_other l past e s h = λ i. sits_by l (λ a. out_other past e s a h i) (sitting_other past e s h i)

-- its clock is that of its last entry
here-clock : (a : Option Ui) (e : Entry) (r : Option Sitting) → clock_of (Some (sitting_here a e r)) ≡ e.clock
here-clock a e None = refl
here-clock a e (Some r) = refl

clock-case : (e : Entry) (past : List Entry) (s : ℕ) (b : Bool) → clock_of (sitting past s) ≡ last_clock (by s past) → clock_of (cond b (Some (sitting_here (needed past e) e (sitting past e.seat))) (sitting past s)) ≡ last_clock (cond b (e ∷ by s past) (by s past))
clock-case e past s true h = here-clock (needed past e) e (sitting past e.seat)
clock-case e past s false h = h

pub clock_is : (past : List Entry) (s : ℕ) → clock_of (sitting past s) ≡ last_clock (by s past)
clock_is [] s = refl
clock_is (e ∷ past) s = clock-case e past s (e.seat == s) (clock_is past s)

-- the actor in which it was put
pub here_actor : (a : Option Ui) (e : Entry) (r : Option Sitting) → actor_of (Some (sitting_here a e r)) ≡ option_or a (actor_of r)
here_actor None e None = refl
here_actor (Some b) e None = refl
here_actor a e (Some r) = refl

pub actor_own : (past : List Entry) (e : Entry) (s : ℕ) → (e.seat == s) ≡ true → actor_of (sitting (e ∷ past) s) ≡ option_or (needed past e) (actor_of (sitting past s))
actor_own past e s h = ap actor_of (sitting_own past e s h) ∙ here_actor (needed past e) e (sitting past s)

pub actor_other : (past : List Entry) (e : Entry) (s : ℕ) → (e.seat == s) ≡ false → actor_of (sitting (e ∷ past) s) ≡ actor_of (sitting past s)
actor_other past e s h = ap actor_of (sitting_other past e s h)
