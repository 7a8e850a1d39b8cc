-- Lemmas on what holds of the view of each pass, by its number.
use Rattle.std.proofs.Common.{◌≡◌, ◌≢◌, ℕ, zero, suc, List, [], ◌∷◌, ◌++◌, length, set, sym, refl, ap, subst, ◌⊎◌, inl, inr, ⊎_elim}
use mathlib.Core.Option.{some, some-injective, some-ne-none}
use lib.ListN.{get_elem?}
use Rattle.crossbeam_queue.proofs.Lists.{at_set}

module _ {V : Type 0} where
  abbrev pub AllViews : (ℕ → V → Type 0) → List V → Type 0
  AllViews F views = (pass : ℕ) (v : V) → get_elem? views pass ≡ some v → F pass v

  carried : (F : ℕ → V → Type 0) (i j : ℕ) (w u : V) → F i w → j ≡ i → w ≡ u → F j u
  carried F i j w u here same_pass same_view = subst (λ (y : ℕ × V). F y.0 y.1) (λ at. (sym same_pass at, same_view at)) here

  -- after a change of one view: it holds of the new view, and of each of the others
  pub all_set : (F : ℕ → V → Type 0) (views : List V) (pass : ℕ) (w : V) → F pass w
      → ((j : ℕ) (u : V) → j ≢ pass → get_elem? views j ≡ some u → F j u) → AllViews F (set views pass w)
  all_set F views pass w here others j u e =
      ⊎_elim (λ (at : (j ≡ pass) × (w ≡ u)). carried F pass j w u here at.0 at.1)
      (λ (at : (j ≢ pass) × (get_elem? views j ≡ some u)). others j u at.0 at.1) (at_set views pass j w u e)

  at_end : (views : List V) (last u : V) (j : ℕ) → get_elem? (views ++ last ∷ []) j ≡ some u
      → (get_elem? views j ≡ some u) ⊎ ((j ≡ length views) × (last ≡ u))
  at_end [] last u zero e = inr (refl, some-injective last u e)
  at_end [] last u (suc j) e = absurd (some-ne-none u (sym e))
  at_end (x ∷ xs) last u zero e = inl e
  at_end (x ∷ xs) last u (suc j) e =
      ⊎_elim (λ (at : get_elem? xs j ≡ some u). inl at) (λ (at : (j ≡ length xs) × (last ≡ u)). inr (ap suc at.0, at.1)) (at_end xs last u j e)

  -- with one view more: it holds of the earlier ones, and of the new one, whose number is the next
  pub all_more : (F : ℕ → V → Type 0) (views : List V) (last : V) → AllViews F views → F (length views) last → AllViews F (views ++ last ∷ [])
  all_more F views last before here j u e =
      ⊎_elim (λ (at : get_elem? views j ≡ some u). before j u at)
      (λ (at : (j ≡ length views) × (last ≡ u)). carried F (length views) j last u here at.0 at.1) (at_end views last u j e)

  -- of one view alone, whose number is 0
  pub all_one : (F : ℕ → V → Type 0) (v : V) → F 0 v → AllViews F (v ∷ [])
  all_one F v here = all_more F [] v (λ j u e. absurd (some-ne-none u (sym e))) here
