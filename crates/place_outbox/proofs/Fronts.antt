-- Packets that were put back, in front of the others of their places.
use Rattle.std.proofs.Common.{◌≡◌, ℕ, zero, suc, ◌+◌, ◌<◌, ◌≤◌, true, false, Option, Some, None, is_none, List, [], ◌∷◌, ◌++◌, length, drop, get_or, set, replicate, refl, sym, ◌∙◌, ap, arith, append_assoc, length-append, slice_get}
use Rattle.std.proofs.lemmas.Bool.{false≢true}
use Rattle.chorus_entry.specs.declared.packet.Packet.{Packet}
use Rattle.place_outbox.specs.Chains.{listed}
use Rattle.place_outbox.specs.Waiting.{list_to, with_last, with_first, without_first, count, first_place}
use Rattle.place_outbox.specs.Fronts.{with_fronts, fronts, are_free, is_filled}

pub count-fronts : (os : List (Option Packet)) (ls : List (List Packet)) → length os ≡ length ls → count (with_fronts os ls) ≡ fronts os + count ls
count-fronts [] [] e = refl
count-fronts [] (l ∷ ls) e = absurd (omega (arith, e))
count-fronts (o ∷ os) [] e = absurd (omega (arith, e))
count-fronts (o ∷ os) (l ∷ ls) e =
    let rest = count-fronts os ls (omega (arith, e)) in
    let here = length-append (listed o) l in
    omega (arith, rest, here)

pub length-fronts : (os : List (Option Packet)) (ls : List (List Packet)) → length os ≡ length ls → length (with_fronts os ls) ≡ length os
length-fronts [] ls e = refl
length-fronts (o ∷ os) [] e = absurd (omega (arith, e))
length-fronts (o ∷ os) (l ∷ ls) e = ap suc (length-fronts os ls (omega (arith, e)))

pub fronts-last : (os : List (Option Packet)) (ls : List (List Packet)) (p : ℕ) (x : Packet) → with_fronts os (with_last p x ls) ≡ with_last p x (with_fronts os ls)
fronts-last [] ls p x = refl
fronts-last (o ∷ os) [] p x = refl
fronts-last (o ∷ os) (l ∷ ls) zero x = ap (λ k. k ∷ with_fronts os ls) (sym (append_assoc (listed o) l (x ∷ [])))
fronts-last (o ∷ os) (l ∷ ls) (suc p) x = ap (λ ks. (listed o ++ l) ∷ ks) (fronts-last os ls p x)

-- a front that is taken, and one that is put
pub front-list : (os : List (Option Packet)) (ls : List (List Packet)) (p : ℕ) (v : Packet) → length os ≡ length ls → get_or os p None ≡ Some v
    → list_to p (with_fronts os ls) ≡ v ∷ list_to p ls
front-list [] ls p v e h = absurd (cc)
front-list (o ∷ os) [] p v e h = absurd (omega (arith, e))
front-list (o ∷ os) (l ∷ ls) zero v e h = ap (λ x. listed x ++ l) h
front-list (o ∷ os) (l ∷ ls) (suc p) v e h = front-list os ls p v (omega (arith, e)) h

pub front-taken : (os : List (Option Packet)) (ls : List (List Packet)) (p : ℕ) (v : Packet) → length os ≡ length ls → get_or os p None ≡ Some v
    → with_fronts (set os p None) ls ≡ without_first p (with_fronts os ls)
front-taken [] ls p v e h = refl
front-taken (o ∷ os) [] p v e h = absurd (omega (arith, e))
front-taken (o ∷ os) (l ∷ ls) zero v e h = ap (λ x. drop 1 (listed x ++ l) ∷ with_fronts os ls) (sym h)
front-taken (o ∷ os) (l ∷ ls) (suc p) v e h = ap (λ ks. (listed o ++ l) ∷ ks) (front-taken os ls p v (omega (arith, e)) h)

pub front-less : (os : List (Option Packet)) (p : ℕ) (v : Packet) → get_or os p None ≡ Some v → fronts (set os p None) + 1 ≡ fronts os
front-less [] p v h = absurd (cc)
front-less (o ∷ os) zero v h = (let e : length (listed o) ≡ 1 = ap (λ x. length (listed x)) h in omega (arith, e))
front-less (o ∷ os) (suc p) v h = (let rest = front-less os p v h in omega (arith, rest))

pub none-list : (os : List (Option Packet)) (ls : List (List Packet)) (p : ℕ) → length os ≡ length ls → get_or os p None ≡ None
    → list_to p (with_fronts os ls) ≡ list_to p ls
none-list [] [] p e h = refl
none-list [] (l ∷ ls) p e h = absurd (omega (arith, e))
none-list (o ∷ os) [] p e h = refl
none-list (o ∷ os) (l ∷ ls) zero e h = ap (λ x. listed x ++ l) h
none-list (o ∷ os) (l ∷ ls) (suc p) e h = none-list os ls p (omega (arith, e)) h

pub none-taken : (os : List (Option Packet)) (ls : List (List Packet)) (p : ℕ) → get_or os p None ≡ None
    → with_fronts os (without_first p ls) ≡ without_first p (with_fronts os ls)
none-taken [] ls p h = refl
none-taken (o ∷ os) [] p h = refl
none-taken (o ∷ os) (l ∷ ls) zero h = ap (λ x. (listed x ++ drop 1 l) ∷ with_fronts os ls) h ∙ ap (λ x. drop 1 (listed x ++ l) ∷ with_fronts os ls) (sym h)
none-taken (o ∷ os) (l ∷ ls) (suc p) h = ap (λ ks. (listed o ++ l) ∷ ks) (none-taken os ls p h)

free-none : (o : Option Packet) → is_none o ≡ true → o ≡ None
free-none None h = refl
free-none (Some v) h = absurd (false≢true h)

pub free-front : (os : List (Option Packet)) (p : ℕ) → get_or (are_free os) p false ≡ true → (get_or os p None ≡ None) × (p < length os)
free-front [] p h = absurd (false≢true h)
free-front (o ∷ os) zero h = (free-none o h, omega arith)
free-front (o ∷ os) (suc p) h = (let rest = free-front os p h in (rest.0, (let l = rest.1 in omega (arith, l))))

pub front-put : (os : List (Option Packet)) (ls : List (List Packet)) (p : ℕ) (v : Packet) → length os ≡ length ls → get_or os p None ≡ None
    → with_fronts (set os p (Some v)) ls ≡ with_first p v (with_fronts os ls)
front-put [] ls p v e h = refl
front-put (o ∷ os) [] p v e h = absurd (omega (arith, e))
front-put (o ∷ os) (l ∷ ls) zero v e h = ap (λ x. (v ∷ (listed x ++ l)) ∷ with_fronts os ls) (sym h)
front-put (o ∷ os) (l ∷ ls) (suc p) v e h = ap (λ ks. (listed o ++ l) ∷ ks) (front-put os ls p v (omega (arith, e)) h)

pub front-more : (os : List (Option Packet)) (p : ℕ) (v : Packet) → p < length os → get_or os p None ≡ None → fronts (set os p (Some v)) ≡ fronts os + 1
front-more [] p v l h = absurd (omega (arith, l))
front-more (o ∷ os) zero v l h = (let e : length (listed o) ≡ 0 = ap (λ x. length (listed x)) h in omega (arith, e))
front-more (o ∷ os) (suc p) v l h = (let rest = front-more os p v (omega (arith, l)) h in omega (arith, rest))

-- where a front was taken or none stood, one may be put back
pub free-at : (os : List (Option Packet)) (p : ℕ) → p < length os → get_or os p None ≡ None → get_or (are_free os) p false ≡ true
free-at [] p l h = absurd (omega (arith, l))
free-at (o ∷ os) zero l h = ap is_none h
free-at (o ∷ os) (suc p) l h = free-at os p (omega (arith, l)) h

pub none-at : (os : List (Option Packet)) (p : ℕ) → get_or (set os p None) p None ≡ None
none-at [] p = refl
none-at (o ∷ os) zero = refl
none-at (o ∷ os) (suc p) = none-at os p

none-of : (o : Option Packet) → length (listed o) ≡ 0 → o ≡ None
none-of None h = refl
none-of (Some v) h = absurd (omega (arith, h))

-- where none was put back, none stands in front
pub no-front : (os : List (Option Packet)) (p : ℕ) → fronts os ≡ 0 → get_or os p None ≡ None
no-front [] p h = refl
no-front (o ∷ os) zero h = none-of o (omega (arith, h))
no-front (o ∷ os) (suc p) h = no-front os p (omega (arith, h))

-- one fewer waits after a packet was taken
pub count-without : (ls : List (List Packet)) (p : ℕ) (v : Packet) → slice_get (list_to p ls) 0 ≡ Some v → count (without_first p ls) + 1 ≡ count ls
count-without [] p v h = absurd (cc)
count-without (l ∷ ls) zero v h = (let e = one l h in omega (arith, e))
  where
    one : (l : List Packet) → slice_get l 0 ≡ Some v → length (drop 1 l) + 1 ≡ length l
    one [] h = absurd (cc)
    one (x ∷ l) h = omega arith
count-without (l ∷ ls) (suc p) v h = (let rest = count-without ls p v h in omega (arith, rest))

pub count-less : (ls : List (List Packet)) (p : ℕ) → count (without_first p ls) ≤ count ls
count-less [] p = omega arith
count-less (l ∷ ls) zero = (let e = one l in omega (arith, e))
  where
    one : (l : List Packet) → length (drop 1 l) ≤ length l
    one [] = omega arith
    one (x ∷ l) = omega arith
count-less (l ∷ ls) (suc p) = (let rest = count-less ls p in omega (arith, rest))

pub count-last : (ls : List (List Packet)) (p : ℕ) (x : Packet) → count (with_last p x ls) ≤ count ls + 1
count-last [] p x = omega arith
count-last (l ∷ ls) zero x = (let e = length-append l (x ∷ []) in omega (arith, e))
count-last (l ∷ ls) (suc p) x = (let rest = count-last ls p x in omega (arith, rest))

-- nothing was put back
pub no-fronts : (n : ℕ) → with_fronts (replicate n None) (replicate n []) ≡ replicate n []
no-fronts zero = refl
no-fronts (suc n) = ap (λ ks. [] ∷ ks) (no-fronts n)

pub fronts-none : (n : ℕ) → fronts (replicate n None) ≡ 0
fronts-none zero = refl
fronts-none (suc n) = (let rest = fronts-none n in omega (arith, rest))

pub count-none : (n : ℕ) → count (replicate n []) ≡ 0
count-none zero = refl
count-none (suc n) = (let rest = count-none n in omega (arith, rest))

-- whether some wait
pub filled-front : (os : List (Option Packet)) (ls : List (List Packet)) (p : ℕ) (v : Packet) → length os ≡ length ls → get_or os p None ≡ Some v
    → true ≡ is_filled (list_to p (with_fronts os ls))
filled-front os ls p v e h = ap is_filled (sym (front-list os ls p v e h))

pub first-later : (ls : List (List Packet)) (p : ℕ) → p < length ls → is_filled (list_to p ls) ≡ false → first_place (drop p ls) ≡ first_place (drop (suc p) ls) + 1
first-later [] p l h = absurd (omega (arith, l))
first-later ([] ∷ ls) zero l h = refl
first-later ((x ∷ k) ∷ ls) zero l h = absurd (false≢true (sym h))
first-later (k ∷ ls) (suc p) l h = first-later ls p (omega (arith, l)) h
