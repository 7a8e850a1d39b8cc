-- The merge of the parts of a past, one for each place from 1 on, is the past sorted by clock and place.
use Rattle.std.proofs.Common.{ℕ, zero, suc, ◌≡◌, ◌≢◌, ◌<◌, ◌≤◌, ◌+◌, ◌==◌, Bool, true, false, List, [], ◌∷◌, ◌++◌, map, reverse, refl, sym, ◌∙◌, ap, subst, inl, inr, arith}
use Rattle.std.specs.List.{All, filter}
use Rattle.std.proofs.lemmas.Bool.{cases_Bool, eqb-true, eqb-false, eq-eqb, ne_eqb}
use Rattle.std.proofs.lemmas.List.{append-nil, reverse-append}
use Rattle.std.proofs.lemmas.List.Elements.{All-nil, All-cons, All-head, All-tail, All-push, All-weaker, filter-append, filter_passes}
use Rattle.chorus_entry.specs.declared.entry.Entry.{Entry}
use Rattle.chorus_world.specs.Views.{at}
use Rattle.chorus_world.specs.Order as world
use Rattle.chorus_world.proofs.Sorted.Exchange.{keeps_views, sorts_in_order}
use Rattle.chorus_entry.specs.Order.{comes_before, IsRising, IsInOrder, is_at}
use Rattle.chorus_merge.specs.Order.{ClocksRise}
use Rattle.chorus_merge.specs.Merge.{all_entries, merged}
use Rattle.chorus_merge.specs.Laws.{ShareNoPlace, AreOfPlaces}
use Rattle.chorus_merge.proofs.Order.{comes_before-true}
use Rattle.chorus_merge.proofs.Kept.{filter_skip, filter_takes, filter_none, filter_all}
use Rattle.chorus_merge.proofs.Places.{keeps_places, gives_journals_back}
use Rattle.chorus_merge.proofs.Sorted.{sorted_once, is_sorted}
use Rattle.law_network.specs.Network.{numbers}

-- the parts of the places p to p + n - 1, each in order
abbrev pub part : List Entry → ℕ → List Entry
part past p = reverse (at p past)

abbrev pub parts : List Entry → ℕ → ℕ → List (List Entry)
parts past n p = map (part past) (numbers n p)

-- Reading a list from its other end.

last-first : {X : Type 0} → (x : X) (xs : List X) → reverse (x ∷ xs) ≡ reverse xs ++ x ∷ []
last-first x xs = reverse-append (x ∷ []) xs

pub All-reverse : {X : Type 0} → (P : X → Type 0) (xs : List X) → All P xs → All P (reverse xs)
All-reverse P [] h = h
All-reverse P (x ∷ xs) h =
    subst (All P) (sym (last-first x xs)) (All-push P (reverse xs) x (All-reverse P xs (All-tail P x xs h)) (All-head P x xs h))

one-more : {X : Type 0} → (p : X → Bool) (x : X) (xs : List X) (b : Bool) → p x ≡ b → reverse (filter p xs) ++ filter p (x ∷ []) ≡ reverse (filter p (x ∷ xs))
one-more p x xs true h =
    ap (λ ys. reverse (filter p xs) ++ ys) (filter_takes p x [] h) ∙ sym (ap reverse (filter_takes p x xs h) ∙ last-first x (filter p xs))
one-more p x xs false h =
    ap (λ ys. reverse (filter p xs) ++ ys) (filter_skip p x [] h) ∙ append-nil (reverse (filter p xs)) ∙ sym (ap reverse (filter_skip p x xs h))

pub filter-reverse : {X : Type 0} → (p : X → Bool) (xs : List X) → filter p (reverse xs) ≡ reverse (filter p xs)
filter-reverse p [] = refl
filter-reverse p (x ∷ xs) =
    ap (filter p) (last-first x xs) ∙ filter-append p (reverse xs) (x ∷ []) ∙ ap (λ ys. ys ++ filter p (x ∷ [])) (filter-reverse p xs)
    ∙ one-more p x xs (p x) refl

-- The order.

in-order-push : (xs : List Entry) (e : Entry) → IsInOrder xs → All (λ (f : Entry). comes_before f e ≡ true) xs → IsInOrder (xs ++ e ∷ [])
in-order-push [] e h a = (All-nil (λ (f : Entry). comes_before e f ≡ true), tt)
in-order-push (x ∷ xs) e h a =
    let P : Entry → Type 0 = λ f. comes_before f e ≡ true in (
      All-push (λ (f : Entry). comes_before x f ≡ true) xs e h.0 (All-head P x xs a),
      in-order-push xs e h.1 (All-tail P x xs a),
    )

-- the oldest first, a list whose clocks and places rise is in order
pub in-order-reverse : (past : List Entry) → IsRising past → IsInOrder (reverse past)
in-order-reverse [] h = tt
in-order-reverse (e ∷ past) h =
    let P : Entry → Type 0 = λ f. comes_before f e ≡ true in
    subst IsInOrder (sym (last-first e past)) (in-order-push (reverse past) e (in-order-reverse past h.1) (All-reverse P past h.0))

clock-rises : (e f : Entry) (p : ℕ) → e.place ≡ p → f.place ≡ p → comes_before e f ≡ true → e.clock < f.clock
clock-rises e f p a b h =
    let means = comes_before-true e f h in
    elim (cases_Bool (e.clock == f.clock)) [
      | inl same ↦ (let less = means.1 (eqb-true e.clock f.clock same) in absurd (omega (arith, less)))
      | inr other ↦ (let le = means.0 in let ne : e.clock ≢ f.clock = eqb-false e.clock f.clock other in omega (arith, le, ne))
    ]

-- at one place clocks alone rise
rising-from : (p : ℕ) (xs : List Entry) → All (λ (e : Entry). e.place ≡ p) xs → IsInOrder xs → ClocksRise xs
rising-from p [] a h = tt
rising-from p (x ∷ xs) a h =
    let Here : Entry → Type 0 = λ e. e.place ≡ p in (
      both xs (All-tail Here x xs a) h.0,
      rising-from p xs (All-tail Here x xs a) h.1,
    )
  where
    both : (ys : List Entry) → All (λ (e : Entry). e.place ≡ p) ys → All (λ (f : Entry). comes_before x f ≡ true) ys → All (λ (f : Entry). x.clock < f.clock) ys
    both [] b k = All-nil (λ (f : Entry). x.clock < f.clock)
    both (y ∷ ys) b k =
        let Here : Entry → Type 0 = λ e. e.place ≡ p in
        let After : Entry → Type 0 = λ f. comes_before x f ≡ true in
        All-cons (λ (f : Entry). x.clock < f.clock) y ys
        (clock-rises x y p (All-head Here x xs a) (All-head Here y ys b) (All-head After y ys k))
        (both ys (All-tail Here y ys b) (All-tail After y ys k))

-- The parts.

places-here : (past : List Entry) (p : ℕ) → All (λ (e : Entry). e.place ≡ p) (at p past)
places-here past p = All-weaker (λ (e : Entry). is_at p e ≡ true) (λ (e : Entry). e.place ≡ p) (λ e h. eqb-true e.place p h) (at p past) (filter_passes (is_at p) past)

part-here : (past : List Entry) (p : ℕ) → All (λ (e : Entry). e.place ≡ p) (part past p)
part-here past p = All-reverse (λ (e : Entry). e.place ≡ p) (at p past) (places-here past p)

parts-places : (past : List Entry) (n p : ℕ) → AreOfPlaces p (parts past n p)
parts-places past zero p = tt
parts-places past (suc n) p =
    let next : p + 1 ≡ suc p = omega arith in
    (part-here past p, subst (λ k. AreOfPlaces k (parts past n (p + 1))) next (parts-places past n (p + 1)))

parts-rise : (past : List Entry) (n p : ℕ) → world.IsCausal past → All ClocksRise (parts past n p)
parts-rise past zero p c = All-nil ClocksRise
parts-rise past (suc n) p c =
    All-cons ClocksRise (part past p) (parts past n (p + 1)) (rising-from p (part past p) (part-here past p) (in-order-reverse (at p past) (c.places p))) (parts-rise past n (p + 1) c)

elsewhere : (past : List Entry) (p q : ℕ) → p ≢ q → filter (is_at q) (part past p) ≡ []
elsewhere past p q ne =
    filter_none (is_at q) (part past p)
    (All-weaker (λ (e : Entry). e.place ≡ p) (λ (e : Entry). is_at q e ≡ false) (λ e h. ne_eqb e.place q (λ same. ne (sym h ∙ same))) (part past p) (part-here past p))

-- the entries of a place before the first one
none-before : (past : List Entry) (n p q : ℕ) → q < p → filter (is_at q) (all_entries (parts past n p)) ≡ []
none-before past zero p q lt = refl
none-before past (suc n) p q lt =
    filter-append (is_at q) (part past p) (all_entries (parts past n (p + 1)))
    ∙ ap (λ ys. ys ++ filter (is_at q) (all_entries (parts past n (p + 1)))) (elsewhere past p q (λ same. omega (arith, lt, same)))
    ∙ none-before past n (p + 1) q (omega (arith, lt))

-- and of each other one
part-of : (past : List Entry) (n p q : ℕ) → p ≤ q → (p + n ≤ q → at q past ≡ []) → filter (is_at q) (all_entries (parts past n p)) ≡ part past q
part-of past zero p q le out = sym (ap reverse (out (omega (arith, le))))
part-of past (suc n) p q le out =
    elim (cases_Bool (p == q)) [
      | inl here ↦ (
          let same : p ≡ q = eqb-true p q here in
          filter-append (is_at q) (part past p) (all_entries (parts past n (p + 1)))
          ∙ ap (λ ys. filter (is_at q) (part past p) ++ ys) (none-before past n (p + 1) q (omega (arith, same)))
          ∙ append-nil (filter (is_at q) (part past p))
          ∙ ap (λ k. filter (is_at q) (part past k)) same
          ∙ filter_all (is_at q) (part past q) (All-weaker (λ (e : Entry). e.place ≡ q) (λ (e : Entry). is_at q e ≡ true) (λ e h. eq-eqb e.place q h) (part past q) (part-here past q)))
      | inr other ↦ (
          let ne : p ≢ q = eqb-false p q other in
          filter-append (is_at q) (part past p) (all_entries (parts past n (p + 1)))
          ∙ ap (λ ys. ys ++ filter (is_at q) (all_entries (parts past n (p + 1)))) (elsewhere past p q ne)
          ∙ part-of past n (p + 1) q (omega (arith, le, ne)) (λ far. out (omega (arith, far))))
    ]

-- where the past has entries of the places 1 to n alone
pub merged-parts : (past : List Entry) (n : ℕ) → world.IsCausal past → at 0 past ≡ [] → ((q : ℕ) → n < q → at q past ≡ []) → merged (parts past n 1) ≡ reverse (world.sort past)
merged-parts past n c none out =
    let js = parts past n 1 in
    let views = keeps_views past c in
    let apart : ShareNoPlace js = (gives_journals_back js 0 (parts-places past n 1)).0 in
    sym (sorted_once (reverse (world.sort past)) (merged js)
    (in-order-reverse (world.sort past) (sorts_in_order past c))
    (is_sorted js apart (parts-rise past n 1 c))
    (λ q. filter-reverse (is_at q) (world.sort past) ∙ ap reverse (views.places q) ∙ sym (keeps_places js q apart ∙ of q)))
  where
    of : (q : ℕ) → filter (is_at q) (all_entries (parts past n 1)) ≡ part past q
    of zero = none-before past n 1 0 (omega arith) ∙ sym (ap reverse none)
    of (suc q) = part-of past n 1 (suc q) (omega arith) (λ far. out (suc q) (omega (arith, far)))
