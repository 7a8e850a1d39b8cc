-- A window's places, and the numbers that a receiver knows.
use Rattle.std.proofs.Common.{◌≡◌, ℕ, zero, suc, one-add, ◌+◌, ◌-◌, ◌<◌, ◌≤◌, ◌⊎◌, inl, inr, Bool, ◌||◌, nat_lt, true, false, IsTrue, List, [], ◌∷◌, ◌++◌, length, length-append, append_assoc, replicate, get_or, set, Option, None, Some, is_some, refl, sym, ◌∙◌, ap, subst, ⊎_elim, arith}
use Rattle.std.specs.List.{prefix_len}
use Rattle.std.proofs.lemmas.Bool.{both_ways, cases_lt, lt-ltb, le-ltb, lt-leb, cond-false, or_left, or_right, or_from}
use Rattle.std.proofs.lemmas.List.{length-replicate, length-set, replicate-append-replicate, set-append_left}
use Rattle.std.proofs.lemmas.List.Sums.{prefix_len_passes}
use Rattle.chorus_transport.specs.declared.chunk.Chunk.{Chunk}
use Rattle.chorus_transport.specs.declared.receiver.Got.{Got}
use Rattle.chorus_transport.specs.declared.receiver.Got.TheVariants as got
use Rattle.chorus_transport.specs.Receiving.{Receiving, padded, is_known, answer_to, ack_of, kept, after_arrival}

abbrev none : (A : Type 0) → Option A
none A = None

abbrev pub receiving : ℕ → List (Option Chunk) → Receiving
receiving delivered ahead = record { delivered = delivered; ahead = ahead }

-- empty places fill none
prefix_len-replicate_none : (A : Type 0) (n : ℕ) → prefix_len (is_some {T = A}) (replicate n None) ≡ 0
prefix_len-replicate_none A zero = refl
prefix_len-replicate_none A (suc n) = refl

-- empty places behind fill no more
pub prefix_len-padded : {A : Type 0} (n : ℕ) (xs : List (Option A)) → prefix_len is_some (xs ++ replicate n None) ≡ prefix_len is_some xs
prefix_len-padded n [] = prefix_len-replicate_none _ n
prefix_len-padded n (None ∷ xs) = refl
prefix_len-padded n (Some x ∷ xs) = ap (λ k. 1 + k) (prefix_len-padded n xs)

-- what is below the acknowledgement was delivered or is kept
pub known_below_ack : (r : Receiving) (number : ℕ) → number < ack_of r → IsTrue (is_known r number)
known_below_ack r number below =
    ⊎_elim
    (λ (l : number < r.delivered). or_left _ _ (lt-ltb number r.delivered l))
    (λ (g : r.delivered ≤ number). or_right _ _ (prefix_len_passes is_some r.ahead (number - r.delivered) None (omega arith)))
    (cases_lt number r.delivered)

-- no place is filled where the filled ones end
end_is_empty : {A : Type 0} (xs : List (Option A)) → is_some (get_or xs (prefix_len is_some xs) None) ≡ false
end_is_empty [] = refl
end_is_empty (None ∷ xs) = refl
end_is_empty (Some x ∷ xs) = rw one-add (end_is_empty xs)

-- and the acknowledgement itself was not
pub ack_not_known : (r : Receiving) → is_known r (ack_of r) ≡ false
ack_not_known r =
    or_from _ _
    (le-ltb (ack_of r) r.delivered (omega arith))
    (let at : (r.delivered + prefix_len is_some r.ahead) - r.delivered ≡ prefix_len is_some r.ahead = omega arith in rw at (end_is_empty r.ahead))

-- a filled place behind filled ones
pub one_more_filled : {A : Type 0} (xs : List (Option A)) (n : ℕ) → n ≤ prefix_len is_some xs → is_some (get_or xs n None) ≡ true → n + 1 ≤ prefix_len is_some xs
one_more_filled xs n le filled =
    ⊎_elim
    (λ (l : n < prefix_len is_some xs). omega arith)
    (λ (g : prefix_len is_some xs ≤ n).
    let e : n ≡ prefix_len is_some xs = omega arith in
    absurd (both_ways _ (end_is_empty xs) (rw e at filled)))
    (cases_lt n (prefix_len is_some xs))

-- an empty place behind filled ones
pub no_more_filled : {A : Type 0} (xs : List (Option A)) (n : ℕ) → n ≤ prefix_len is_some xs → is_some (get_or xs n None) ≡ false → n ≡ prefix_len is_some xs
no_more_filled xs n le empty =
    ⊎_elim
    (λ (l : n < prefix_len is_some xs). absurd (both_ways _ empty (prefix_len_passes is_some xs n None l)))
    (λ (g : prefix_len is_some xs ≤ n). omega arith)
    (cases_lt n (prefix_len is_some xs))

-- filling a place fills no fewer from the front on
pub prefix_len-le-set : {A : Type 0} (xs : List (Option A)) (k : ℕ) (x : A) → prefix_len is_some xs ≤ prefix_len is_some (set xs k (Some x))
prefix_len-le-set [] k x = omega arith
prefix_len-le-set (None ∷ xs) k x = omega arith
prefix_len-le-set (Some y ∷ xs) zero x = omega arith
prefix_len-le-set (Some y ∷ xs) (suc k) x = omega (arith, prefix_len-le-set xs k x)

-- also where places were added
pub filled_stay : {A : Type 0} (xs ws : List (Option A)) (m k : ℕ) (x : A) → ws ≡ xs ++ replicate m None → prefix_len is_some xs ≤ prefix_len is_some (set ws k (Some x))
filled_stay xs ws m k x widened = omega (arith, ap (λ ys. prefix_len is_some ys) widened, prefix_len-padded m xs, prefix_len-le-set ws k x)

-- nothing is at an empty place
pub get_or-replicate_none : (A : Type 0) (n k : ℕ) → get_or (replicate n (none A)) k None ≡ None
get_or-replicate_none A zero k = refl
get_or-replicate_none A (suc n) zero = refl
get_or-replicate_none A (suc n) (suc k) = get_or-replicate_none A n k

-- empty places behind hold nothing
pub get_or-padded : {A : Type 0} (n : ℕ) (xs : List (Option A)) (k : ℕ) → get_or (xs ++ replicate n None) k None ≡ get_or xs k None
get_or-padded n [] k = get_or-replicate_none _ n k
get_or-padded n (x ∷ xs) zero = refl
get_or-padded n (x ∷ xs) (suc k) = get_or-padded n xs k

-- a window is as wide, however many of its places are there
length-padded : (window : ℕ) (xs : List (Option Chunk)) → length xs ≤ window → length (padded window xs) ≡ window
length-padded window xs fits = length-append xs _ ∙ ap (λ n. length xs + n) (length-replicate (window - length xs) None) ∙ omega arith

padded-widened : (window m : ℕ) (xs : List (Option Chunk)) → length xs + m ≤ window → padded window (xs ++ replicate m None) ≡ padded window xs
padded-widened window m xs fits =
    let wide : m + (window - length (xs ++ replicate m None)) ≡ window - length xs = rw (length-append, length-replicate) (omega arith) in
    append_assoc xs (replicate m None) _ ∙ ap (λ ys. xs ++ ys) (replicate-append-replicate m _ None ∙ ap (λ n. replicate n None) wide)

padded-set : (window : ℕ) (ys : List (Option Chunk)) (k : ℕ) (x : Option Chunk) → k < length ys → padded window (set ys k x) ≡ set (padded window ys) k x
padded-set window ys k x within = rw length-set (sym (set-append_left ys (replicate (window - length ys) None) k x within))

-- a chunk that is neither known nor past the window is kept
after_arrival-kept : (r : Receiving) (number : ℕ) (chunk : Chunk) → r.delivered ≤ number → number < r.delivered + length r.ahead → is_some (get_or r.ahead (number - r.delivered) None) ≡ false → after_arrival r number chunk ≡ record r { ahead = set r.ahead (number - r.delivered) (Some chunk) }
after_arrival-kept r number chunk from below empty =
    ap (kept r number chunk)
    (cond-false _ _ _ (or_from _ _ (le-ltb number r.delivered from) empty) ∙ cond-false _ _ _ (lt-leb (r.delivered + length r.ahead) number below))

-- what `arrived` does with one
pub places_after_arrival : (window delivered number : ℕ) (xs ws : List (Option Chunk)) (chunk : Chunk) → delivered ≤ number → number - delivered < window → length xs ≤ window → is_some (get_or xs (number - delivered) None) ≡ false → ws ≡ xs ++ replicate (number - delivered + 1 - length xs) None → receiving delivered (padded window (set ws (number - delivered) (Some chunk))) ≡ after_arrival (receiving delivered (padded window xs)) number chunk
places_after_arrival window delivered number xs ws chunk from within fits empty widened =
    let k = number - delivered in
    let more = k + 1 - length xs in
    let wide : length (xs ++ replicate more (none Chunk)) ≡ length xs + more = rw (length-append, length-replicate) refl in
    let full : length (padded window xs) ≡ window = length-padded window xs fits in
    ap (λ ys. receiving delivered (padded window (set ys k (Some chunk)))) widened
    ∙ ap (receiving delivered) (padded-set window _ k (Some chunk) (omega arith) ∙ ap (λ ys. set ys k (Some chunk)) (padded-widened window more xs (omega arith)))
    ∙ sym (after_arrival-kept (receiving delivered (padded window xs)) number chunk from (omega arith) (ap is_some (get_or-padded (window - length xs) xs k) ∙ empty))

-- what arrives within the window is known, and stays so

set_stays : (xs : List (Option Chunk)) (k j : ℕ) (chunk : Chunk) → is_some (get_or xs j None) ≡ true → is_some (get_or (set xs k (Some chunk)) j None) ≡ true
set_stays [] k j chunk e = e
set_stays (x ∷ xs) zero zero chunk e = refl
set_stays (x ∷ xs) zero (suc j) chunk e = e
set_stays (x ∷ xs) (suc k) zero chunk e = e
set_stays (x ∷ xs) (suc k) (suc j) chunk e = set_stays xs k j chunk e

set_fills : (xs : List (Option Chunk)) (k : ℕ) (chunk : Chunk) → k < length xs → is_some (get_or (set xs k (Some chunk)) k None) ≡ true
set_fills [] k chunk lt = absurd (omega (arith, lt))
set_fills (x ∷ xs) zero chunk lt = refl
set_fills (x ∷ xs) (suc k) chunk lt = set_fills xs k chunk (omega (arith, lt))

or_cases : (x y : Bool) → (x || y) ≡ true → (x ≡ true) ⊎ (y ≡ true)
or_cases true y e = inl refl
or_cases false y e = inr e

pub kept_stays : (r : Receiving) (number i : ℕ) (chunk : Chunk) (answer : Got) → is_known r i ≡ true → is_known (kept r number chunk answer) i ≡ true
kept_stays r number i chunk got.Old e = e
kept_stays r number i chunk got.Far e = e
kept_stays r number i chunk got.Kept e =
    ⊎_elim (λ a. or_left _ _ a) (λ b. or_right _ _ (set_stays r.ahead (number - r.delivered) (i - r.delivered) chunk b))
    (or_cases (nat_lt i r.delivered) (is_some (get_or r.ahead (i - r.delivered) None)) e)

pub arrived_known : (r : Receiving) (number : ℕ) (chunk : Chunk) → number < r.delivered + length r.ahead → is_known (after_arrival r number chunk) number ≡ true
arrived_known r number chunk lt = by (is_known r number) refl
  where
    by : (b : Bool) → is_known r number ≡ b → is_known (after_arrival r number chunk) number ≡ true
    by true e = kept_stays r number number chunk (answer_to r number) e
    by false e =
        ⊎_elim
        (λ (l : number < r.delivered). absurd (both_ways _ e (or_left _ (is_some (get_or r.ahead (number - r.delivered) None)) (lt-ltb number r.delivered l))))
        (λ (g : r.delivered ≤ number).
        let is : answer_to r number ≡ got.Kept = cond-false _ _ _ e ∙ cond-false _ _ _ (lt-leb (r.delivered + length r.ahead) number lt) in
        subst (λ a. is_known (kept r number chunk a) number ≡ true) (sym is) (or_right _ _ (set_fills r.ahead (number - r.delivered) chunk (omega (arith, lt, g)))))
        (cases_lt number r.delivered)

-- what is known below a number is acknowledged
pub acknowledges : (r : Receiving) (n : ℕ) → ((i : ℕ) → i < n → is_known r i ≡ true) → n ≤ ack_of r
acknowledges r n each =
    ⊎_elim
    (λ (l : ack_of r < n). absurd (both_ways _ (ack_not_known r) (each (ack_of r) l)))
    (λ (g : n ≤ ack_of r). g)
    (cases_lt (ack_of r) n)
