-- Lines of lists, one element more.
use Rattle.std.proofs.Common.{ℕ, zero, suc, ◌≡◌, ◌+◌, ◌<◌, List, [], ◌∷◌, ◌++◌, length, map, take, drop, Some, None, slice_get, refl, ◌∙◌, ap, arith}
use Rattle.std.specs.List.{flat_map}
use Rattle.std.proofs.lemmas.List.{map-append, append-nil}
use Rattle.std.proofs.lemmas.List.Concat.{flat_map-append}
use Rattle.chorus_entry.specs.declared.message.Message.{Message}
use Rattle.chorus_show.specs.Phrases.{spaced, id_text}
use Rattle.explore_report.specs.Facts.{waiting_in}

pub take-next : {X : Type 0} (xs : List X) (i : ℕ) (x : X) → slice_get xs i ≡ Some x → take (i + 1) xs ≡ take i xs ++ x ∷ []
take-next [] i x h = absurd (cc)
take-next (y ∷ ys) zero x h = (let e : y ≡ x = cc in ap (λ z. z ∷ []) e)
take-next (y ∷ ys) (suc i) x h = ap (λ m. take m (y ∷ ys)) (up i) ∙ ap (λ z. y ∷ z) (take-next ys i x h)
  where
    up : (i : ℕ) → suc i + 1 ≡ suc (i + 1)
    up i = omega arith

-- an element that is there
pub within-some : {X : Type 0} (xs : List X) (i : ℕ) → i < length xs → slice_get xs i ≡ None → ⊥
within-some [] i l e = omega (arith, l)
within-some (x ∷ xs) zero l e = cc
within-some (x ∷ xs) (suc i) l e = within-some xs i (omega (arith, l)) e

pub flat-next : {X : Type 0} (f : X → List ℕ) (xs : List X) (i : ℕ) (x : X) → slice_get xs i ≡ Some x → flat_map f (take (i + 1) xs) ≡ flat_map f (take i xs) ++ f x
flat-next f xs i x h =
    ap (flat_map f) (take-next xs i x h) ∙ flat_map-append f (take i xs) (x ∷ []) ∙ ap (λ ys. flat_map f (take i xs) ++ ys) (append-nil (f x))

pub waiting-next : (ms : List Message) (i : ℕ) (m : Message) → slice_get ms i ≡ Some m → spaced (map id_text (waiting_in (take (i + 1) ms))) ≡ spaced (map id_text (waiting_in (take i ms))) ++ 32 ∷ id_text m.id
waiting-next ms i m h =
    ap (λ xs. spaced (map id_text (waiting_in xs))) (take-next ms i m h)
    ∙ ap (λ xs. spaced (map id_text xs)) (map-append (λ (o : Message). o.id) (take i ms) (m ∷ []))
    ∙ ap spaced (map-append id_text (waiting_in (take i ms)) (m.id ∷ []))
    ∙ flat_map-append (λ (field : List ℕ). 32 ∷ field) (map id_text (waiting_in (take i ms))) (id_text m.id ∷ [])
    ∙ ap (λ ys. spaced (map id_text (waiting_in (take i ms))) ++ ys) (append-nil (32 ∷ id_text m.id))

pub drop-some : {X : Type 0} (xs : List X) (i : ℕ) → i < length xs → (x : X) × (drop i xs ≡ x ∷ drop (i + 1) xs)
drop-some [] i lt = absurd (omega (arith, lt))
drop-some (x ∷ xs) zero lt = (x, refl)
drop-some (x ∷ xs) (suc i) lt =
    let rest = drop-some xs i (omega (arith, lt)) in
    let n : suc (i + 1) ≡ suc i + 1 = omega arith in
    (rest.0, rest.1 ∙ ap (λ (k : ℕ). rest.0 ∷ drop k (x ∷ xs)) n)
