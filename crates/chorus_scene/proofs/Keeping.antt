-- What a caller takes from the limits, for one line, command or step.
use Rattle.std.proofs.Common.{◌≡◌, ℕ, zero, suc, ◌<◌, Bool, true, List, [], ◌∷◌, ◌++◌, length, get_or, set, refl, sym, arith, subst, append_assoc}
use Rattle.std.specs.List.{list_all}
use Rattle.std.proofs.lemmas.List.{append-nil}
use Rattle.chorus_ui.specs.declared.layout.Layout.{Layout}
use Rattle.chorus_scene.specs.declared.scenario.SetupLine.{SetupLine}
use Rattle.chorus_scene.specs.declared.scenario.Step as step
use Rattle.chorus_scene.specs.Scene.{Script}
use Rattle.chorus_scene.specs.Limits.{setup_line_keeps, setup_keeps, step_keeps, schedule_keeps}
use Rattle.chorus_scene.proofs.Again.{and_join}
use Rattle.chorus_scene.proofs.Spelled.{both}

pub all_at : {X : Type 0} (p : X → Bool) (xs : List X) (i : ℕ) (d : X) → list_all p xs ≡ true → i < length xs → p (get_or xs i d) ≡ true
all_at p [] i d h lt = absurd (omega arith)
all_at p (y ∷ ys) zero d h lt = (both (p y) (list_all p ys) h).0
all_at p (y ∷ ys) (suc i) d h lt = all_at p ys i d (both (p y) (list_all p ys) h).1 (omega arith)

-- lists that grow
pub all_more : {X : Type 0} (p : X → Bool) (xs : List X) (x : X) → list_all p xs ≡ true → p x ≡ true → list_all p (xs ++ x ∷ []) ≡ true
all_more p [] x h k = and_join _ _ k refl
all_more p (y ∷ ys) x h k = let q = both (p y) (list_all p ys) h in and_join _ _ q.0 (all_more p ys x q.1 k)

pub all_set : {X : Type 0} (p : X → Bool) (xs : List X) (i : ℕ) (x : X) → list_all p xs ≡ true → p x ≡ true → list_all p (set xs i x) ≡ true
all_set p [] i x h k = h
all_set p (y ∷ ys) zero x h k = and_join _ _ k (both (p y) (list_all p ys) h).1
all_set p (y ∷ ys) (suc i) x h k = let q = both (p y) (list_all p ys) h in and_join _ _ q.0 (all_set p ys i x q.1 k)

module _ (l : Layout) (n : ℕ) where
  -- what is left keeps the limits too
  pub setup_behind : (before front rest : List SetupLine) → setup_keeps l n before (front ++ rest) ≡ true → setup_keeps l n (before ++ front) rest ≡ true
  setup_behind before [] rest h = subst (λ xs. setup_keeps l n xs rest ≡ true) (sym (append-nil before)) h
  setup_behind before (line ∷ front) rest h = subst (λ xs. setup_keeps l n xs rest ≡ true) (append_assoc before (line ∷ []) front) (setup_behind (before ++ line ∷ []) front rest (both (setup_line_keeps l n before line) (setup_keeps l n (before ++ line ∷ []) (front ++ rest)) h).1)

  pub setup_at : (front rest : List SetupLine) (line : SetupLine) → setup_keeps l n [] (front ++ line ∷ rest) ≡ true → setup_line_keeps l n front line ≡ true
  setup_at front rest line h = (both (setup_line_keeps l n front line) (setup_keeps l n (front ++ line ∷ []) rest) (setup_behind [] front (line ∷ rest) h)).0

  module _ (scripts : List Script) where
    pub schedule_behind : (before front rest : List step.Step) → schedule_keeps l n scripts before (front ++ rest) ≡ true → schedule_keeps l n scripts (before ++ front) rest ≡ true
    schedule_behind before [] rest h = subst (λ xs. schedule_keeps l n scripts xs rest ≡ true) (sym (append-nil before)) h
    schedule_behind before (step ∷ front) rest h = subst (λ xs. schedule_keeps l n scripts xs rest ≡ true) (append_assoc before (step ∷ []) front) (schedule_behind (before ++ step ∷ []) front rest (both (step_keeps l n scripts before step) (schedule_keeps l n scripts (before ++ step ∷ []) (front ++ rest)) h).1)

    pub step_at : (front rest : List step.Step) (step : step.Step) → schedule_keeps l n scripts [] (front ++ step ∷ rest) ≡ true → step_keeps l n scripts front step ≡ true
    step_at front rest step h = (both (step_keeps l n scripts front step) (schedule_keeps l n scripts (front ++ step ∷ []) rest) (schedule_behind [] front (step ∷ rest) h)).0
