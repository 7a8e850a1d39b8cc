-- A run for callers is one for more callers.
use Rattle.std.proofs.Common.{ℕ, ◌≡◌, ◌==◌, nat_lt, Bool, true, false, ◌&&◌, cond, List, [], ◌∷◌, Option, Some, None, refl, sym, ◌∙◌, ap}
use Rattle.std.proofs.lemmas.Bool.{and_parts, false≢true, eqb-true}
use Rattle.chorus_ui.specs.declared.ui.Ui.{Ui}
use Rattle.chorus_ui.specs.declared.layout.Layout.{Layout}
use Rattle.chorus_entry.specs.declared.entry.Entry.{Entry}
use Rattle.chorus_entry.specs.declared.act.Act.{Act}
use Rattle.chorus_world.specs.Views.{by}
use Rattle.chorus_world.specs.Places.{last_clock}
use Rattle.chorus_world.specs.Steps.{may}
use Rattle.chorus_world.specs.Runs.{is_run, may_run, fits_callers}

-- More callers.

fits-more : (past : List Entry) (p : ℕ) (o n : Option Ui) (act : Act) → ((a : Ui) → o ≡ Some a → n ≡ Some a) → fits_callers past p o act ≡ true → fits_callers past p n act ≡ true
fits-more past p None n act more h = absurd (false≢true h)
fits-more past p (Some a) n act more h = ap (λ z. fits_callers past p z act) (more a refl) ∙ h

-- a run for callers is a run for more callers
pub run-more : (l : Layout) (f g : ℕ → Option Ui) → ((k : ℕ) (a : Ui) → f k ≡ Some a → g k ≡ Some a) → (past : List Entry) → is_run l f past ≡ true → is_run l g past ≡ true
run-more l f g more [] h = refl
run-more l f g more (e ∷ past) h =
    let outer = and_parts (may l past e && may_run f past e) (is_run l f past) h in
    let inner = and_parts (may l past e) (may_run f past e) outer.0 in
    let runs = and_parts (nat_lt (last_clock (by e.seat past)) e.clock) (fits_callers past e.place (f e.seat) e.act) inner.1 in
    let fits = fits-more past e.place (f e.seat) (g e.seat) e.act (more e.seat) runs.1 in
    let rest = run-more l f g more past outer.1 in
    λ i. (inner.0 i && (runs.0 i && fits i)) && rest i

-- and has no entry of a seat that is not given
run-case : (l : Layout) (f : ℕ → Option Ui) (k : ℕ) (e : Entry) (past : List Entry) (b : Bool) → (e.seat == k) ≡ b → may_run f past e ≡ true → f k ≡ None → by k past ≡ [] → cond b (e ∷ by k past) (by k past) ≡ []
run-case l f k e past true same h none rest =
    let runs = and_parts (nat_lt (last_clock (by e.seat past)) e.clock) (fits_callers past e.place (f e.seat) e.act) h in
    let not : fits_callers past e.place (f e.seat) e.act ≡ false = ap (λ z. fits_callers past e.place (f z) e.act) (eqb-true e.seat k same) ∙ ap (λ z. fits_callers past e.place z e.act) none in
    absurd (false≢true (sym not ∙ runs.1))
run-case l f k e past false other h none rest = rest

pub run-ungiven : (l : Layout) (f : ℕ → Option Ui) (k : ℕ) (past : List Entry) → is_run l f past ≡ true → f k ≡ None → by k past ≡ []
run-ungiven l f k [] h none = refl
run-ungiven l f k (e ∷ past) h none =
    let outer = and_parts (may l past e && may_run f past e) (is_run l f past) h in
    let inner = and_parts (may l past e) (may_run f past e) outer.0 in
    run-case l f k e past (e.seat == k) refl inner.1 none (run-ungiven l f k past outer.1 none)
