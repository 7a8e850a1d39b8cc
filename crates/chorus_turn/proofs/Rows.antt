-- States in a row, each in a `Some`.
use Rattle.std.proofs.Common.{◌≡◌, ℕ, zero, suc, ◌+◌, ◌<◌, List, [], ◌∷◌, ◌++◌, reverse, take, drop, length, sym, refl, ap, ◌∙◌, arith, append_assoc}
use Rattle.std.proofs.lemmas.List.{map-append, reverse-append, length-map}
use Rattle.std.proofs.lemmas.List.Elements.{All-head, All-tail}
use mathlib.Core.Option.{some, some-injective, some-ne-none}
use lib.ListN.{get_elem?}
use Rattle.std.specs.List.{All}
use Rattle.std.specs.Prelude.{Option, Some, None, slice_get}
use Rattle.chorus_turn.specs.Lists.{somes}

module _ {S : Type 0} where
  pub length-somes : (xs : List S) → length (somes xs) ≡ length xs
  length-somes xs = length-map xs (λ x. Some x)

  abbrev unsomes : List (Option S) → List S
  unsomes [] = []
  unsomes (Some x ∷ xs) = x ∷ unsomes xs
  unsomes (None ∷ xs) = unsomes xs

  unsomes-somes : (xs : List S) → unsomes (somes xs) ≡ xs
  unsomes-somes [] = refl
  unsomes-somes (x ∷ xs) = ap (λ l. x ∷ l) (unsomes-somes xs)

  pub somes_injective : (xs ys : List S) → somes xs ≡ somes ys → xs ≡ ys
  somes_injective xs ys e = sym (unsomes-somes xs) ∙ (ap unsomes e ∙ unsomes-somes ys)

  none_some : (x : S) → Some x ≡ None → ⊥
  none_some x e = cc

  -- a state at an index, between the forms of the logic and of std
  pub somes_at : (xs : List S) (k : ℕ) (x : S) → get_elem? (somes xs) k ≡ some (Some x) → slice_get xs k ≡ Some x
  somes_at [] k x e = absurd (some-ne-none (Some x) (sym e))
  somes_at (y ∷ xs) zero x e = some-injective (Some y) (Some x) e
  somes_at (y ∷ xs) (suc k) x e = somes_at xs k x e

  pub somes_each : (P : S → Type 0) (xs : List S) (k : ℕ) → k < length xs → All P xs → (x : S) × (get_elem? (somes xs) k ≡ some (Some x)) × (slice_get xs k ≡ Some x) × P x
  somes_each P [] k lt all = absurd (omega arith)
  somes_each P (x ∷ xs) zero lt all = (x, refl, refl, All-head P x xs all)
  somes_each P (x ∷ xs) (suc k) lt all = somes_each P xs k (omega arith) (All-tail P x xs all)

  pub slice_get_inside : (xs : List S) (k : ℕ) (x : S) → slice_get xs k ≡ Some x → k < length xs
  slice_get_inside [] k x e = absurd (none_some x (sym e))
  slice_get_inside (y ∷ xs) zero x e = omega arith
  slice_get_inside (y ∷ xs) (suc k) x e = let more = slice_get_inside xs k x e in omega arith

  abbrev value_or : S → Option S → S
  value_or d (Some y) = y
  value_or d None = d

  pub somes_same : (xs : List S) (k : ℕ) (x y : S) → get_elem? (somes xs) k ≡ some (Some x) → slice_get xs k ≡ Some y → x ≡ y
  somes_same xs k x y a b = ap (value_or x) (sym (somes_at xs k x a) ∙ b)

  -- no slot of the row is empty
  pub somes_full : (xs : List S) (k : ℕ) → get_elem? (somes xs) k ≡ some None → ⊥
  somes_full [] k e = absurd (some-ne-none None (sym e))
  somes_full (x ∷ xs) zero e = none_some x (some-injective (Some x) None e)
  somes_full (x ∷ xs) (suc k) e = somes_full xs k e

  -- one state more is out of the slots, which are emptied from the end of the turned row
  off_end : (old new : List (Option S)) (o : Option S) (xs : List S) → old ≡ new ++ o ∷ [] → reverse old ≡ somes xs → o ∷ reverse new ≡ somes xs
  off_end old new o xs is e = sym (reverse-append new (o ∷ [])) ∙ ap reverse (sym is) ∙ e

  pub off_end_full : (old new : List (Option S)) (xs : List S) → old ≡ new ++ None ∷ [] → reverse old ≡ somes xs → ⊥
  off_end_full old new xs is e = somes_full xs 0 (ap (λ (l : List (Option S)). get_elem? l 0) (sym (off_end old new None xs is e)))

  rest_somes : (o : Option S) (rest : List (Option S)) (xs : List S) → o ∷ rest ≡ somes xs → (ys : List S) × (rest ≡ somes ys)
  rest_somes o rest [] e = let l = ap (λ (m : List (Option S)). length m) e in absurd (omega arith)
  rest_somes o rest (x ∷ xs) e = (xs, ap (λ (l : List (Option S)). drop 1 l) e)

  pub off_end_rest : (old new : List (Option S)) (x : S) (xs : List S) → old ≡ new ++ Some x ∷ [] → reverse old ≡ somes xs → (ys : List S) × (reverse new ≡ somes ys)
  off_end_rest old new x xs is e = rest_somes (Some x) (reverse new) xs (off_end old new (Some x) xs is e)

  pub off_end_moves : (out : List S) (old new : List (Option S)) (x : S) (all : List (Option S)) → somes out ++ reverse old ≡ all → old ≡ new ++ Some x ∷ [] → somes (out ++ x ∷ []) ++ reverse new ≡ all
  off_end_moves out old new x all e is = ap (λ l. l ++ reverse new) (map-append (λ x. Some x) out (x ∷ []))
      ∙ (append_assoc (somes out) (Some x ∷ []) (reverse new) ∙ (ap (λ (l : List (Option S)). somes out ++ l) (sym (reverse-append new (Some x ∷ []))) ∙ (ap (λ (l : List (Option S)). somes out ++ reverse l) (sym is) ∙ e)))

  -- one state more is out of the front of the slots
  take_next : (l : List (Option S)) (k : ℕ) (o : Option S) → get_elem? l k ≡ some o → take (suc k) l ≡ take k l ++ o ∷ []
  take_next [] k o e = absurd (some-ne-none o (sym e))
  take_next (x ∷ xs) zero o e = ap (λ (y : Option S). y ∷ []) (some-injective x o e)
  take_next (x ∷ xs) (suc k) o e = ap (λ (m : List (Option S)). x ∷ m) (take_next xs k o e)

  pub off_front : (l : List (Option S)) (k : ℕ) (x : S) (out : List S) → get_elem? l k ≡ some (Some x) → somes out ≡ take k l → somes (out ++ x ∷ []) ≡ take (k + 1) l
  off_front l k x out e is = let next : suc k ≡ k + 1 = omega arith in
      map-append (λ x. Some x) out (x ∷ []) ∙ ap (λ (m : List (Option S)). m ++ Some x ∷ []) is ∙ sym (take_next l k (Some x) e) ∙ ap (λ (n : ℕ). take n l) next

  -- a row of which no slot is empty is states in a row
  pub somes_of_all : (l : List (Option S)) → ((k : ℕ) → k < length l → (x : S) × (get_elem? l k ≡ some (Some x))) → (xs : List S) × (l ≡ somes xs)
  somes_of_all [] h = ([], refl)
  somes_of_all (Some x ∷ l) h = let more = somes_of_all l (λ k lt. h (suc k) (omega arith)) in (x ∷ more.0, ap (λ (m : List (Option S)). Some x ∷ m) more.1)
  somes_of_all (None ∷ l) h = let o = h 0 (omega arith) in absurd (none_some o.0 (sym (some-injective None (Some o.0) o.1)))
