-- A list of which one item is written, by what a function shows of the items.
use Rattle.std.proofs.Common.{ℕ, zero, suc, ◌≡◌, ◌≢◌, ◌<◌, ◌≤◌, ◌==◌, Bool, true, false, cond, List, [], ◌∷◌, length, map, get_or, set, Option, Some, None, is_some, Result, Ok, Err, OnOk, OnErr, IfSome, IfNone, refl, sym, ◌∙◌, ap, subst, arith}
use Rattle.std.proofs.Math.Seq.{map-set_same}
use Rattle.std.proofs.lemmas.Bool.{eqb-true, eqb-false, false≢true}
use Rattle.std.proofs.lemmas.List.{get_or-set_same, get_or-set_other}

module _ {A X : Type 0} (f : A → X) (xs : List A) (i : ℕ) (x d : A) (lt : i < length xs) where
  pub shown : (p : ℕ) → f (get_or (set xs i x) p d) ≡ cond (p == i) (f x) (f (get_or xs p d))
  shown p = by (p == i) refl
    where
      by : (t : Bool) → (p == i) ≡ t → f (get_or (set xs i x) p d) ≡ cond t (f x) (f (get_or xs p d))
      by true t = ap (λ q. f (get_or (set xs i x) q d)) (eqb-true p i t) ∙ ap f (get_or-set_same xs i x d lt)
      by false t = ap f (get_or-set_other xs i p x d (eqb-false p i t))

  pub shown-kept : f x ≡ f (get_or xs i d) → (p : ℕ) → f (get_or (set xs i x) p d) ≡ f (get_or xs p d)
  shown-kept e p = shown p ∙ by (p == i) refl
    where
      by : (t : Bool) → (p == i) ≡ t → cond t (f x) (f (get_or xs p d)) ≡ f (get_or xs p d)
      by true t = e ∙ sym (ap (λ q. f (get_or xs q d)) (eqb-true p i t))
      by false t = refl

  pub all-kept : f x ≡ f (get_or xs i d) → map f (set xs i x) ≡ map f xs
  all-kept e = map-set_same f xs i x d e

-- a count at one place rose, or none did
pub most-kept : {A : Type 0} (f : A → ℕ) (xs : List A) (i : ℕ) (x d : A) → i < length xs → f (get_or xs i d) ≤ f x → (p : ℕ) → f (get_or xs p d) ≤ f (get_or (set xs i x) p d)
most-kept f xs i x d lt le p = subst (λ n. f (get_or xs p d) ≤ n) (sym (shown f xs i x d lt p)) (by (p == i) refl)
  where
    by : (t : Bool) → (p == i) ≡ t → f (get_or xs p d) ≤ cond t (f x) (f (get_or xs p d))
    by true t = subst (λ q. f (get_or xs q d) ≤ f x) (sym (eqb-true p i t)) le
    by false t = omega arith

-- where something stands at an index, there is such an index
pub within : {A : Type 0} (xs : List (Option A)) (i : ℕ) → is_some (get_or xs i None) ≡ true → i < length xs
within [] i e = absurd (false≢true e)
within (x ∷ xs) zero e = omega arith
within (x ∷ xs) (suc i) e = (let h = within xs i e in omega (arith, h))

-- a clause on an answer, by what another one says of it
pub on-ok : {A E : Type 0} {P Q : Type 0} (r : Result A E) → (P → Q) → OnOk r P → OnOk r Q
on-ok (Ok x) f h = f h
on-ok (Err e) f h = tt

pub on-err : {A E : Type 0} {P Q : Type 0} (r : Result A E) → (P → Q) → OnErr r P → OnErr r Q
on-err (Ok x) f h = tt
on-err (Err e) f h = f h

pub if-some : {A : Type 0} {P Q : A → Type 0} (o : Option A) → ((x : A) → P x → Q x) → IfSome o P → IfSome o Q
if-some None f h = tt
if-some (Some x) f h = f x h

pub if-none : {A : Type 0} {P Q : Type 0} (o : Option A) → (P → Q) → IfNone o P → IfNone o Q
if-none None f h = f h
if-none (Some x) f h = tt
