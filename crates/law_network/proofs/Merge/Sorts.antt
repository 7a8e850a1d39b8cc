-- The merge of the journals of a past is the past sorted by clock and place. The clocks of the journals alone say that clock and
-- place rise along what the past has at each place, and this is enough for the sorted past to keep it and to be in order.
use Rattle.std.proofs.Common.{ℕ, ◌≡◌, Bool, true, false, cond, List, [], ◌∷◌, ◌++◌, reverse, refl, sym, ◌∙◌, ap, subst, inl, inr, arith}
use Rattle.std.specs.List.{All, filter}
use Rattle.std.proofs.lemmas.Bool.{cases_Bool, eqb-true, eq-eqb, false≢true}
use Rattle.std.proofs.lemmas.List.{reverse-append, reverse-reverse}
use Rattle.std.proofs.lemmas.List.Elements.{All-nil, All-cons, All-head, All-tail, All-push, All-weaker, All-filter}
use Rattle.chorus_entry.specs.declared.entry.Entry.{Entry}
use Rattle.chorus_entry.specs.Order.{comes_before, IsInOrder, IsRising, is_at}
use Rattle.chorus_world.specs.Views.{at}
use Rattle.chorus_world.specs.Order.{insert, sort}
use Rattle.chorus_world.proofs.Sorted.Exchange.{before_parts, all_sort}
use Rattle.chorus_merge.specs.Merge.{merged}
use Rattle.chorus_merge.specs.Laws.{ShareNoPlace}
use Rattle.chorus_merge.proofs.Order.{comes_before-levelled}
use Rattle.chorus_merge.proofs.Places.{gives_journals_back, keeps_places}
use Rattle.chorus_merge.proofs.Sorted.{is_sorted, sorted_once, other_way}
use Rattle.law_network.specs.Merging.{MergesAsSorted}
use Rattle.law_network.proofs.Merge.Parts.{All-reverse, filter-reverse, in-order-reverse}

-- Each part of the merge rises.

rising-push : (xs : List Entry) (e : Entry) → IsRising xs → All (λ (f : Entry). comes_before e f ≡ true) xs → IsRising (xs ++ e ∷ [])
rising-push [] e h a = (All-nil (λ (f : Entry). comes_before f e ≡ true), tt)
rising-push (x ∷ xs) e h a =
    let P : Entry → Type 0 = λ f. comes_before e f ≡ true in (
      All-push (λ (f : Entry). comes_before f x ≡ true) xs e h.0 (All-head P x xs a),
      rising-push xs e h.1 (All-tail P x xs a),
    )

-- the newest first, a list in order rises
rising-reverse : (xs : List Entry) → IsInOrder xs → IsRising (reverse xs)
rising-reverse [] h = tt
rising-reverse (e ∷ xs) h =
    let P : Entry → Type 0 = λ f. comes_before e f ≡ true in
    subst IsRising (sym (reverse-append (e ∷ []) xs)) (rising-push (reverse xs) e (rising-reverse xs h.1) (All-reverse P xs h.0))

in-order-filter : (t : Entry → Bool) (xs : List Entry) → IsInOrder xs → IsInOrder (filter t xs)
in-order-filter t [] h = h
in-order-filter t (e ∷ xs) h = go (t e) (in-order-filter t xs h.1)
  where
    go : (b : Bool) → IsInOrder (filter t xs) → IsInOrder (cond b (e ∷ filter t xs) (filter t xs))
    go true ih = (All-filter t (λ (f : Entry). comes_before e f ≡ true) xs h.0, ih)
    go false ih = ih

-- What is inserted behind all of its place.

-- f comes before e, where it is of e's place
abbrev IsBehind : Entry → Entry → Type 0
IsBehind e f = is_at e.place f ≡ true → comes_before f e ≡ true

from-filter : (P : Entry → Type 0) (t : Entry → Bool) (past : List Entry) → All P (filter t past) → All (λ (f : Entry). t f ≡ true → P f) past
from-filter P t [] h = All-nil (λ (f : Entry). t f ≡ true → P f)
from-filter P t (f ∷ past) h = go (t f) refl h (from-filter P t past)
  where
    go : (b : Bool) → t f ≡ b → All P (cond b (f ∷ filter t past) (filter t past)) → (All P (filter t past) → All (λ (g : Entry). t g ≡ true → P g) past) → All (λ (g : Entry). t g ≡ true → P g) (f ∷ past)
    go true e k ih = All-cons (λ (g : Entry). t g ≡ true → P g) f past (λ s. All-head P f (filter t past) k) (ih (All-tail P f (filter t past) k))
    go false e k ih = All-cons (λ (g : Entry). t g ≡ true → P g) f past (λ s. absurd (false≢true (sym e ∙ s))) (ih k)

never-both : (e f : Entry) → comes_before e f ≡ true → comes_before f e ≡ true → ⊥
never-both e f a b =
    elim (before_parts e f a) [
      | inl x ↦ elim (before_parts f e b) [ inl y ↦ omega arith | inr y ↦ omega arith ]
      | inr x ↦ elim (before_parts f e b) [ inl y ↦ omega arith | inr y ↦ omega arith ]
    ]

all-insert : (P : Entry → Type 0) (e : Entry) (past : List Entry) → P e → All P past → All P (insert e past)
all-insert P e [] x h = All-cons P e [] x h
all-insert P e (f ∷ past) x h = go (comes_before e f) (all-insert P e past x (All-tail P f past h))
  where
    go : (b : Bool) → All P (insert e past) → All P (cond b (f ∷ insert e past) (e ∷ f ∷ past))
    go true ih = All-cons P f (insert e past) (All-head P f past h) ih
    go false ih = All-cons P e (f ∷ past) x h

exchange : (b c : Bool) (e f : Entry) (xs : List Entry) → (b ≡ true → c ≡ true → ⊥) → cond c (f ∷ cond b (e ∷ xs) xs) (cond b (e ∷ xs) xs) ≡ cond b (e ∷ cond c (f ∷ xs) xs) (cond c (f ∷ xs) xs)
exchange true true e f xs h = absurd (h refl refl)
exchange true false e f xs h = refl
exchange false true e f xs h = refl
exchange false false e f xs h = refl

insert-at : (p : ℕ) (e : Entry) (past : List Entry) → All (IsBehind e) past → at p (insert e past) ≡ at p (e ∷ past)
insert-at p e [] h = refl
insert-at p e (f ∷ past) h = go (comes_before e f) refl (insert-at p e past (All-tail (IsBehind e) f past h))
  where
    not-both : comes_before e f ≡ true → is_at p e ≡ true → is_at p f ≡ true → ⊥
    not-both k a b =
        never-both e f k (All-head (IsBehind e) f past h (eq-eqb f.place e.place (eqb-true f.place p b ∙ sym (eqb-true e.place p a))))

    go : (b : Bool) → comes_before e f ≡ b → at p (insert e past) ≡ at p (e ∷ past) → at p (cond b (f ∷ insert e past) (e ∷ f ∷ past)) ≡ at p (e ∷ f ∷ past)
    go true k ih = ap (λ xs. cond (is_at p f) (f ∷ xs) xs) ih ∙ exchange (is_at p e) (is_at p f) e f (at p past) (not-both k)
    go false k ih = refl

insert-rising : (e : Entry) (past : List Entry) → All (IsBehind e) past → IsRising past → IsRising (insert e past)
insert-rising e [] h r = (All-nil (λ (f : Entry). comes_before f e ≡ true), tt)
insert-rising e (f ∷ past) h r = go (comes_before e f) refl (insert-rising e past (All-tail (IsBehind e) f past h) r.1)
  where
    after : comes_before e f ≡ false → comes_before f e ≡ true
    after k =
        elim (cases_Bool (is_at e.place f)) [
          | inl here ↦ All-head (IsBehind e) f past h here
          | inr away ↦ other_way f e (λ same. false≢true (sym away ∙ eq-eqb f.place e.place same)) k
        ]

    go : (b : Bool) → comes_before e f ≡ b → IsRising (insert e past) → IsRising (cond b (f ∷ insert e past) (e ∷ f ∷ past))
    go true k ih = (all-insert (λ (g : Entry). comes_before g f ≡ true) e past k r.0, ih)
    go false k ih =
        let one = after k in (
          All-cons (λ (g : Entry). comes_before g e ≡ true) f past one
              (All-weaker (λ (g : Entry). comes_before g f ≡ true) (λ (g : Entry). comes_before g e ≡ true) (λ g j. comes_before-levelled.on g f e j one) past r.0),
          r,
        )

-- The sorted past.

abbrev RiseAt : List Entry → Type 0
RiseAt past = (p : ℕ) → IsRising (at p past)

rise-rest : (e : Entry) (past : List Entry) → RiseAt (e ∷ past) → RiseAt past
rise-rest e past h p = go (is_at p e) (h p)
  where
    go : (b : Bool) → IsRising (cond b (e ∷ at p past) (at p past)) → IsRising (at p past)
    go true k = k.1
    go false k = k

behind-all : (e : Entry) (past : List Entry) → RiseAt (e ∷ past) → All (IsBehind e) (sort past)
behind-all e past h =
    all_sort (IsBehind e) past
    (from-filter (λ (f : Entry). comes_before f e ≡ true) (is_at e.place) past
    (subst (λ b. IsRising (cond b (e ∷ at e.place past) (at e.place past))) (eq-eqb e.place e.place refl) (h e.place)).0)

sort-at : (past : List Entry) → RiseAt past → (p : ℕ) → at p (sort past) ≡ at p past
sort-at [] h p = refl
sort-at (e ∷ past) h p =
    insert-at p e (sort past) (behind-all e past h) ∙ ap (λ xs. cond (is_at p e) (e ∷ xs) xs) (sort-at past (rise-rest e past h) p)

sort-rising : (past : List Entry) → RiseAt past → IsRising (sort past)
sort-rising [] h = tt
sort-rising (e ∷ past) h = insert-rising e (sort past) (behind-all e past h) (sort-rising past (rise-rest e past h))

pub merges-as-sorted : MergesAsSorted
merges-as-sorted past journals of =
    sym (sorted_once (reverse (sort past)) (merged journals)
    (in-order-reverse (sort past) (sort-rising past rise))
    sorted
    (λ p. filter-reverse (is_at p) (sort past) ∙ (ap reverse (sort-at past rise p) ∙ sym (keeps_places journals p apart ∙ of.entries p))))
  where
    apart : ShareNoPlace journals
    apart = (gives_journals_back journals 0 of.places).0

    sorted : IsInOrder (merged journals)
    sorted = is_sorted journals apart of.rise

    rise : RiseAt past
    rise p =
        subst IsRising (ap reverse (keeps_places journals p apart ∙ of.entries p) ∙ reverse-reverse (at p past))
        (rising-reverse (filter (is_at p) (merged journals)) (in-order-filter (is_at p) (merged journals) sorted))
