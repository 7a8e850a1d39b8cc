-- Lists of ports, where one of them is chosen, leaves or joins: what is in turn then.
use Rattle.std.proofs.Common.{ℕ, zero, suc, ◌≡◌, ◌⊎◌, ◌+◌, ◌-◌, ◌≤◌, nat_lt, Bool, true, false, ◌||◌, cond, if◌then◌else◌, List, [], ◌∷◌, ◌++◌, length, take, drop, Some, refl, sym, ◌∙◌, ap, subst, arith, inl, inr, append_assoc}
use Rattle.std.specs.Prelude.{remove}
use Rattle.std.specs.Option.{unwrap_or}
use Rattle.std.proofs.lemmas.Bool.{lt-ltb, le-ltb, ltb-false, false≢true, true≢false}
use Rattle.std.proofs.lemmas.List.{length-append, append-nil}
use Rattle.std.proofs.lemmas.List.Folds.{list_any-append}
use Rattle.chorus_ui.specs.declared.ui.Ui.{Ui}
use Rattle.chorus_ui.specs.Name.{same_ui}
use Rattle.chorus_ui.proofs.Names.{from_same_ui, same_ui-self}
use Rattle.chorus_entry.specs.Members.{index_of, is_member, without, IsPosition, wrapped, round_from, turned, turned_back, first_of}
use Rattle.chorus_world.proofs.Groups.MemberLemmas.{AreDistinct}

-- Parts of lists.

take-front : {X : Type 0} → (xs ys : List X) → take (length xs) (xs ++ ys) ≡ xs
take-front [] ys = refl
take-front (x ∷ xs) ys = ap (λ zs. x ∷ zs) (take-front xs ys)

drop-front : {X : Type 0} → (xs ys : List X) → drop (length xs) (xs ++ ys) ≡ ys
drop-front [] ys = refl
drop-front (x ∷ xs) ys = drop-front xs ys

-- a list is what stands before a position, and the rest
pub parts : {X : Type 0} → (i : ℕ) (xs : List X) → xs ≡ take i xs ++ drop i xs
parts zero xs = refl
parts (suc i) [] = refl
parts (suc i) (x ∷ xs) = ap (λ zs. x ∷ zs) (parts i xs)

pub length-take : {X : Type 0} → (i : ℕ) (xs : List X) → i ≤ length xs → length (take i xs) ≡ i
length-take zero xs le = refl
length-take (suc i) [] le = absurd (omega (arith, le))
length-take (suc i) (x ∷ xs) le = ap (λ n. suc n) (length-take i xs (omega (arith, le)))

drop-all : {X : Type 0} → (xs : List X) → drop (length xs) xs ≡ []
drop-all [] = refl
drop-all (x ∷ xs) = drop-all xs

take-all : {X : Type 0} → (xs : List X) → take (length xs) xs ≡ xs
take-all [] = refl
take-all (x ∷ xs) = ap (λ zs. x ∷ zs) (take-all xs)

-- round a list, from behind its front
round-front : {X : Type 0} → (xs ys : List X) → round_from (length xs) (xs ++ ys) ≡ ys ++ xs
round-front xs ys = λ i. drop-front xs ys i ++ take-front xs ys i

-- the end of the list is its beginning
round-wrapped : {X : Type 0} → (k : ℕ) (xs : List X) → k ≤ length xs → round_from (wrapped (length xs) k) xs ≡ round_from k xs
round-wrapped {X = X} k xs le = by (nat_lt k (length xs)) refl
  where
    by : (b : Bool) → nat_lt k (length xs) ≡ b → round_from (if b then k else 0) xs ≡ round_from k xs
    by true h = refl
    by false h =
        let ge = ltb-false k (length xs) h in
        let end : k ≡ length xs = omega (arith, le, ge) in
        append-nil xs ∙ sym ((λ i. drop (end i) xs ++ take (end i) xs) ∙ (λ i. drop-all xs i ++ take-all xs i))

-- Where a port stands.

-- the first place of a member
pub record StandsAt (q : Ui) (qs : List Ui) : Type 0 where
  pub before : List Ui
  pub after : List Ui
  pub is : qs ≡ before ++ q ∷ after
  pub new : is_member q before ≡ false

pub member-stands : (q : Ui) (qs : List Ui) → is_member q qs ≡ true → StandsAt q qs
member-stands q [] h = absurd (false≢true h)
member-stands q (r ∷ rs) h = go (same_ui r q) refl h (member-stands q rs)
  where
    go : (b : Bool) → same_ui r q ≡ b → b || is_member q rs ≡ true → (is_member q rs ≡ true → StandsAt q rs) → StandsAt q (r ∷ rs)
    go true t k ih = record { before = []; after = rs; is = ap (λ z. z ∷ rs) (from_same_ui r q t); new = refl }
    go false t k ih =
        let s = ih k in
        record { before = r ∷ s.before; after = s.after; is = ap (λ zs. r ∷ zs) s.is; new = ap (λ b. b || is_member q s.before) t ∙ s.new }

index-at : (q : Ui) (xs ys : List Ui) → is_member q xs ≡ false → index_of q (xs ++ q ∷ ys) ≡ length xs
index-at q [] ys h = ap (λ b. cond b 0 (index_of q ys + 1)) (same_ui-self q)
index-at q (x ∷ xs) ys h = go (same_ui x q) h (index-at q xs ys)
  where
    go : (b : Bool) → b || is_member q xs ≡ false → (is_member q xs ≡ false → index_of q (xs ++ q ∷ ys) ≡ length xs) → cond b 0 (index_of q (xs ++ q ∷ ys) + 1) ≡ suc (length xs)
    go true k ih = absurd (true≢false k)
    go false k ih = let e = ih k in omega (arith, e)

-- without it
pub without-at : (q : Ui) (xs ys : List Ui) → is_member q xs ≡ false → without q (xs ++ q ∷ ys) ≡ xs ++ ys
without-at q xs ys h = ap (remove (xs ++ q ∷ ys)) (index-at q xs ys h) ∙ gone xs
  where
    gone : (zs : List Ui) → remove (zs ++ q ∷ ys) (length zs) ≡ zs ++ ys
    gone [] = refl
    gone (z ∷ zs) = ap (λ us. z ∷ us) (gone zs)

second : (a b : Bool) → b ≡ true → a || b ≡ true
second true b e = refl
second false b e = e

stands-inside : (q : Ui) (xs ys : List Ui) → is_member q (xs ++ q ∷ ys) ≡ true
stands-inside q [] ys = ap (λ b. b || is_member q ys) (same_ui-self q)
stands-inside q (x ∷ xs) ys = second (same_ui x q) (is_member q (xs ++ q ∷ ys)) (stands-inside q xs ys)

-- of distinct ports, none stands before itself, and none behind
distinct-new : (q : Ui) (xs ys : List Ui) → AreDistinct (xs ++ q ∷ ys) → is_member q xs ≡ false
distinct-new q [] ys d = refl
distinct-new q (x ∷ xs) ys d = go (same_ui x q) refl (distinct-new q xs ys d.1)
  where
    go : (b : Bool) → same_ui x q ≡ b → is_member q xs ≡ false → b || is_member q xs ≡ false
    go true t ih = absurd (true≢false (sym (stands-inside q xs ys) ∙ (ap (λ z. is_member z (xs ++ q ∷ ys)) (sym (from_same_ui x q t)) ∙ d.0)))
    go false t ih = ih

pub distinct-behind : (q : Ui) (xs ys : List Ui) → AreDistinct (xs ++ q ∷ ys) → is_member q ys ≡ false
distinct-behind q [] ys d = d.0
distinct-behind q (x ∷ xs) ys d = distinct-behind q xs ys d.1

-- where one element stands in two lists
split-append : {X : Type 0} → (xs ys zs us : List X) (x : X) → xs ++ ys ≡ zs ++ x ∷ us
    → ((vs : List X) × (xs ≡ zs ++ x ∷ vs) × (us ≡ vs ++ ys)) ⊎ ((vs : List X) × (zs ≡ xs ++ vs) × (ys ≡ vs ++ x ∷ us))
split-append [] ys zs us x h = inr (zs, refl, h)
split-append (a ∷ xs) ys [] us x h = let same : a ≡ x = cc in let rest : xs ++ ys ≡ us = cc in inl (xs, ap (λ z. z ∷ xs) same, sym rest)
split-append (a ∷ xs) ys (b ∷ zs) us x h =
    let same : a ≡ b = cc in
    let rest : xs ++ ys ≡ zs ++ x ∷ us = cc in
    elim (split-append xs ys zs us x rest) [
      | inl s ↦ inl (s.0, (λ i. same i ∷ s.1 i), s.2)
      | inr s ↦ inr (s.0, (λ i. sym same i ∷ s.1 i), s.2)
    ]

-- Turns.

-- round the list from behind a port
behind-at : (q : Ui) (xs ys qs : List Ui) → qs ≡ xs ++ q ∷ ys → is_member q xs ≡ false → round_from (wrapped (length qs) (index_of q qs + 1)) qs ≡ ys ++ (xs ++ q ∷ [])
behind-at q xs ys qs e new =
    subst (λ zs. round_from (wrapped (length zs) (index_of q zs + 1)) zs ≡ ys ++ (xs ++ q ∷ [])) (sym e)
    (let whole = xs ++ q ∷ ys in
    let front = xs ++ q ∷ [] in
    let index : index_of q whole + 1 ≡ length front = (let i = index-at q xs ys new in let n = length-append xs (q ∷ []) in omega (arith, i, n)) in
    let split : whole ≡ front ++ ys = sym (append_assoc xs (q ∷ []) ys) in
    let long : length whole ≡ length front + length ys = ap length split ∙ length-append front ys in
    round-wrapped (index_of q whole + 1) whole (omega (arith, index, long))
    ∙ ((λ i. drop (index i) (split i) ++ take (index i) (split i)) ∙ round-front front ys))

-- one is chosen: it is the last in turn
pub turn-chosen : (q : Ui) (front rest before after : List Ui) → AreDistinct (front ++ rest) → rest ++ front ≡ before ++ q ∷ after → round_from (turned (front ++ rest) (q ∷ []) (length front)) (front ++ rest) ≡ after ++ before ++ q ∷ []
turn-chosen q front rest before after d h =
    elim (split-append rest front before after q h) [
      | inl s ↦ (
          let vs = s.0 in
          let is : front ++ rest ≡ (front ++ before) ++ q ∷ vs = ap (λ zs. front ++ zs) s.1 ∙ sym (append_assoc front before (q ∷ vs)) in
          let new = distinct-new q (front ++ before) vs (subst AreDistinct is d) in
          behind-at q (front ++ before) vs (front ++ rest) is new
          ∙ (sym (append_assoc vs (front ++ before) (q ∷ []))
          ∙ ap (λ zs. zs ++ q ∷ []) (sym (append_assoc vs front before) ∙ ap (λ zs. zs ++ before) (sym s.2))))
      | inr s ↦ (
          let vs = s.0 in
          let is : front ++ rest ≡ vs ++ q ∷ (after ++ rest) = ap (λ zs. zs ++ rest) s.2 ∙ append_assoc vs (q ∷ after) rest in
          let new = distinct-new q vs (after ++ rest) (subst AreDistinct is d) in
          behind-at q vs (after ++ rest) (front ++ rest) is new
          ∙ (sym (append_assoc (after ++ rest) vs (q ∷ []))
          ∙ ap (λ zs. zs ++ q ∷ []) (append_assoc after rest vs ∙ ap (λ zs. after ++ zs) (sym s.1))))
    ]

-- one leaves that stands before the first in turn, or from it on
left-front : (q : Ui) (front rest : List Ui) → AreDistinct (front ++ rest) → StandsAt q front → round_from (turned_back (front ++ rest) q (length front)) (without q (front ++ rest)) ≡ without q (rest ++ front)
left-front q front rest d s =
    let xs = s.before in
    let ys = s.after in
    let is : front ++ rest ≡ xs ++ q ∷ (ys ++ rest) = ap (λ zs. zs ++ rest) s.is ∙ append_assoc xs (q ∷ ys) rest in
    let index : index_of q (front ++ rest) ≡ length xs = ap (index_of q) is ∙ index-at q xs (ys ++ rest) s.new in
    let long : length front ≡ length xs + length (q ∷ ys) = ap length s.is ∙ length-append xs (q ∷ ys) in
    let less : nat_lt (index_of q (front ++ rest)) (length front) ≡ true = lt-ltb (index_of q (front ++ rest)) (length front) (let l : length front ≡ length xs + suc (length ys) = long in omega (arith, index, l)) in
    let out : without q (front ++ rest) ≡ (xs ++ ys) ++ rest = ap (without q) is ∙ (without-at q xs (ys ++ rest) s.new ∙ sym (append_assoc xs ys rest)) in
    let back : length front - 1 ≡ length (xs ++ ys) = (let l : length front ≡ length xs + suc (length ys) = long in let n = length-append xs ys in omega (arith, l, n)) in
    let fits : length (xs ++ ys) ≤ length ((xs ++ ys) ++ rest) = (let n = length-append (xs ++ ys) rest in omega (arith, n)) in
    let absent : is_member q (rest ++ xs) ≡ false = list_any-append (λ r. same_ui r q) rest xs ∙ (λ i. rest-absent i || s.new i) in
    let other : rest ++ front ≡ (rest ++ xs) ++ q ∷ ys = ap (λ zs. rest ++ zs) s.is ∙ sym (append_assoc rest xs (q ∷ ys)) in
    let turn : round_from (turned_back (front ++ rest) q (length front)) (without q (front ++ rest)) ≡ rest ++ (xs ++ ys) =
    (λ i. round_from (wrapped (length (out i)) (if less i then back i else length front)) (out i))
    ∙ (round-wrapped (length (xs ++ ys)) ((xs ++ ys) ++ rest) fits ∙ round-front (xs ++ ys) rest) in
    turn ∙ (sym (append_assoc rest xs ys) ∙ sym (ap (without q) other ∙ without-at q (rest ++ xs) ys absent))
  where
    behind : is_member q (s.after ++ rest) ≡ false
    behind =
        distinct-behind q s.before (s.after ++ rest) (subst AreDistinct (ap (λ zs. zs ++ rest) s.is ∙ append_assoc s.before (q ∷ s.after) rest) d)

    rest-absent : is_member q rest ≡ false
    rest-absent = last-part (is_member q s.after) (is_member q rest) (sym (list_any-append (λ r. same_ui r q) s.after rest) ∙ behind)
      where
        last-part : (a b : Bool) → a || b ≡ false → b ≡ false
        last-part true b e = absurd (true≢false e)
        last-part false b e = e

left-rest : (q : Ui) (front rest : List Ui) → is_member q front ≡ false → StandsAt q rest → round_from (turned_back (front ++ rest) q (length front)) (without q (front ++ rest)) ≡ without q (rest ++ front)
left-rest q front rest absent s =
    let xs = s.before in
    let ys = s.after in
    let is : front ++ rest ≡ (front ++ xs) ++ q ∷ ys = ap (λ zs. front ++ zs) s.is ∙ sym (append_assoc front xs (q ∷ ys)) in
    let new : is_member q (front ++ xs) ≡ false = list_any-append (λ r. same_ui r q) front xs ∙ (λ i. absent i || s.new i) in
    let index : index_of q (front ++ rest) ≡ length (front ++ xs) = ap (index_of q) is ∙ index-at q (front ++ xs) ys new in
    let less : nat_lt (index_of q (front ++ rest)) (length front) ≡ false = le-ltb (index_of q (front ++ rest)) (length front) (let n = length-append front xs in omega (arith, index, n)) in
    let out : without q (front ++ rest) ≡ front ++ (xs ++ ys) = ap (without q) is ∙ (without-at q (front ++ xs) ys new ∙ append_assoc front xs ys) in
    let fits : length front ≤ length (front ++ (xs ++ ys)) = (let n = length-append front (xs ++ ys) in omega (arith, n)) in
    let other : rest ++ front ≡ xs ++ q ∷ (ys ++ front) = ap (λ zs. zs ++ front) s.is ∙ append_assoc xs (q ∷ ys) front in
    let turn : round_from (turned_back (front ++ rest) q (length front)) (without q (front ++ rest)) ≡ (xs ++ ys) ++ front =
    (λ i. round_from (wrapped (length (out i)) (if less i then length front - 1 else length front)) (out i))
    ∙ (round-wrapped (length front) (front ++ (xs ++ ys)) fits ∙ round-front front (xs ++ ys)) in
    turn ∙ (append_assoc xs ys front ∙ sym (ap (without q) other ∙ without-at q xs (ys ++ front) s.new))

-- one leaves: the others keep their turn
pub turn-left : (q : Ui) (front rest : List Ui) → AreDistinct (front ++ rest) → is_member q (front ++ rest) ≡ true → round_from (turned_back (front ++ rest) q (length front)) (without q (front ++ rest)) ≡ without q (rest ++ front)
turn-left q front rest d h = go (is_member q front) refl
  where
    go : (b : Bool) → is_member q front ≡ b → round_from (turned_back (front ++ rest) q (length front)) (without q (front ++ rest)) ≡ without q (rest ++ front)
    go true t = left-front q front rest d (member-stands q front t)
    go false f =
        left-rest q front rest f
        (member-stands q rest (ap (λ b. b || is_member q rest) (sym f) ∙ (sym (list_any-append (λ r. same_ui r q) front rest) ∙ h)))

-- one joins behind the last: the first in turn stays the first
pub turn-joined : (q : Ui) (front rest : List Ui) → IsPosition (length front) (length (front ++ rest)) → first_of (round_from (length front) ((front ++ rest) ++ q ∷ [])) ≡ Some (unwrap_or (first_of (rest ++ front)) q)
turn-joined q front rest h =
    ap first_of (ap (round_from (length front)) (append_assoc front rest (q ∷ [])) ∙ round-front front (rest ++ q ∷ [])) ∙ by front rest h
  where
    by : (xs ys : List Ui) → IsPosition (length xs) (length (xs ++ ys)) → first_of ((ys ++ q ∷ []) ++ xs) ≡ Some (unwrap_or (first_of (ys ++ xs)) q)
    by xs (y ∷ ys) k = refl
    by [] [] k = refl
    by (x ∷ xs) [] k =
        absurd (let n : length ((x ∷ xs) ++ []) ≡ length (x ∷ xs) = ap length (append-nil (x ∷ xs)) in let m : suc (length xs) ≤ length ((x ∷ xs) ++ []) - 1 = k in let o : length ((x ∷ xs) ++ []) ≡ suc (length xs) = n in omega (arith, m, o))
