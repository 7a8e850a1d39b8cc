-- What a writer leaves: what stood there before, and in a loop one more thing than before.
use Rattle.std.proofs.Common.{◌≡◌, ℕ, ◌+◌, ◌<◌, List, [], ◌∷◌, ◌++◌, length, take, drop, Some, None, Result, Ok, Err, sym, ap, ◌∙◌, append_assoc, arith, inl, inr, OnErr}
use Rattle.std.specs.List.{flat_map, AllByRecursion, slice_get}
use Rattle.std.proofs.Math.Seq.{take-append_seam}
use Rattle.std.proofs.lemmas.List.{append-nil, take-append-drop, take_more}
use Rattle.std.proofs.lemmas.List.Concat.{flat_map-cons}
use Rattle.std.proofs.lemmas.Grind.{flat_map-append}
use Rattle.std.proofs.lemmas.Option.{slice_get_cases, slice_get_within, get_or_from_slice_get}

-- what is kept after something was appended was kept before
pub kept_after : (old more mid new : List ℕ) → mid ≡ old ++ more → take (length mid) new ≡ mid → take (length old) new ≡ old
kept_after old more mid new appended kept =
    let behind = drop (length mid) new in
    let whole : new ≡ old ++ (more ++ behind) = sym (take-append-drop (length mid) new) ∙ ap (λ (front : List ℕ). front ++ behind) (kept ∙ appended) ∙ append_assoc old more behind in
    ap (take (length old)) whole ∙ take-append_seam old (more ++ behind)

pub on_err : {T E Q : Type 0} (r : Result T E) → Q → OnErr r Q
on_err (Ok x) q = tt
on_err (Err e) q = q

pub got_none : {X : Type 0} (xs : List X) (i : ℕ) → i < length xs → slice_get xs i ≡ None → ⊥
got_none xs i lt none =
    elim (slice_get_cases xs i).1 [
      | inl within ↦ let e = within.2 in absurd (cc)
      | inr past ↦ absurd (omega arith)
    ]

take_got : {X : Type 0} (xs : List X) (i : ℕ) (x : X) → slice_get xs i ≡ Some x → take (i + 1) xs ≡ take i xs ++ x ∷ []
take_got {X} xs i x got =
    take_more xs i x (slice_get_within xs i x got) ∙ ap (λ (y : X). take i xs ++ y ∷ []) (get_or_from_slice_get xs i x x got)

flat_map-last : {X : Type 0} (f : X → List ℕ) (xs : List X) (x : X) → flat_map f (xs ++ x ∷ []) ≡ flat_map f xs ++ f x
flat_map-last f xs x =
    flat_map-append f xs (x ∷ []) ∙ ap (λ (ys : List ℕ). flat_map f xs ++ ys) (flat_map-cons f x [] ∙ append-nil (f x))

pub written_more : {X : Type 0} (f : X → List ℕ) (old head : List ℕ) (xs : List X) (i : ℕ) (x : X) (mid new : List ℕ) → slice_get xs i ≡ Some x → mid ≡ old ++ (head ++ flat_map f (take i xs)) → new ≡ mid ++ f x → new ≡ old ++ (head ++ flat_map f (take (i + 1) xs))
written_more f old head xs i x mid new got so_far added =
    let more : flat_map f (take (i + 1) xs) ≡ flat_map f (take i xs) ++ f x = ap (flat_map f) (take_got xs i x got) ∙ flat_map-last f (take i xs) x in
    rw (more, added, so_far) (simp append_assoc)

pub all_last : {X : Type 0} (P : X → Type 0) (xs : List X) (x : X) → AllByRecursion P xs → P x → AllByRecursion P (xs ++ x ∷ [])
all_last P [] x all p = (p, tt)
all_last P (y ∷ xs) x all p = (all.0, all_last P xs x all.1 p)

pub held_more : {X : Type 0} (P : X → Type 0) (xs : List X) (i : ℕ) (x : X) → slice_get xs i ≡ Some x → AllByRecursion P (take i xs) → P x → AllByRecursion P (take (i + 1) xs)
held_more P xs i x got all p = rw (take_got xs i x got) (all_last P (take i xs) x all p)

-- one thing behind another
pub appended : (old a mid b new : List ℕ) → mid ≡ old ++ a → new ≡ mid ++ b → new ≡ old ++ (a ++ b)
appended old a mid b new first second =
    second ∙ ap (λ (front : List ℕ). front ++ b) first ∙ append_assoc old a b
