-- That a pass is one of a queue has one proof at most, so an end of a link can keep it.
use Rattle.std.specs.Prelude.{◌≡◌, Option, List, [], ◌∷◌, length}
use Rattle.std.proofs.Common.{refl, sym, ap, ◌∙◌}
use base.Stored.{Coded-set}
use mathlib.Core.Path.{path_j'}
use native.Mathlib.Nat.{ℕ_set, suc-ne-zero}
use Rattle.atomic_table.specs.Seated.{table_id_coded}
use Rattle.crossbeam_queue.specs.declared.array_queue.Doing.{Doing}
use Rattle.crossbeam_queue.specs.declared.array_queue.Slotted.{Slotted}
use Rattle.crossbeam_queue.specs.Passes.{Pass, IsPassOf}

abbrev nil_of : {A : Type 0} (xs : List A) → length xs ≡ 0 → xs ≡ []
nil_of [] e = refl
nil_of (x ∷ xs) e = absurd (suc-ne-zero (length xs) e)

nil_of_nil : {A : Type 0} (xs : List A) (e : xs ≡ []) → nil_of xs (ap length e) ≡ e
nil_of_nil {A} xs e = path_j' (λ (ys : List A) (e : ys ≡ []). nil_of ys (ap length e) ≡ e) refl e

nil_prop : {A : Type 0} (xs : List A) → IsProp (xs ≡ [])
nil_prop xs a b = sym (nil_of_nil xs a) ∙ ap (nil_of xs) (ℕ_set _ _ (ap length a) (ap length b)) ∙ nil_of_nil xs b

pub pass_of_prop : {T V Q A : Type 0} (queue : Slotted (Option T) (Doing T V) Q A) (pass : Pass T V) →
    IsProp (IsPassOf queue pass)
pass_of_prop queue pass a b = λ i. (Coded-set table_id_coded _ _ a.0 b.0 i, nil_prop pass.me.1 a.1 b.1 i)
