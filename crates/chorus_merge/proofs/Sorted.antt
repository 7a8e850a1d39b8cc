-- Where clocks rise along each journal and no two share a place, the merge is the one sorted list with these entries.
use Rattle.std.proofs.Common.{ℕ, ◌≡◌, ◌≢◌, ◌<◌, Bool, true, false, cond, List, [], ◌∷◌, eqb, refl, sym, ◌∙◌, ap, subst, inl, inr, arith}
use Rattle.std.specs.List.{All, filter}
use Rattle.std.proofs.lemmas.Bool.{cases_eq, cond_both, eq-eqb, ne_eqb}
use Rattle.std.proofs.lemmas.List.Elements.{All-nil, All-cons, All-head, All-tail, All-weaker, All-filter}
use Rattle.chorus_entry.specs.declared.entry.Entry.{Entry}
use Rattle.chorus_merge.specs.Order.{AreApart, ClocksRise}
use Rattle.chorus_entry.specs.Order.{comes_before, IsInOrder, is_at}
use Rattle.chorus_merge.specs.Merge.{all_entries, merged}
use Rattle.chorus_merge.specs.Steps.{put_in, merge_by}
use Rattle.chorus_merge.specs.Laws.{ShareNoPlace, IsSortedMerge, IsOnlyOne}
use Rattle.chorus_merge.proofs.Order.{comes_before-true, comes_before-false, comes_before-from, comes_before-levelled}
use Rattle.chorus_merge.proofs.Kept.{All-merge_by, filter_skip, filter_takes}
use Rattle.chorus_merge.proofs.Folds.{folded, merged_is}
use Rattle.chorus_merge.proofs.Places.{All-folded, keeps_places}

abbrev pub After : Entry → Entry → Type 0
After e f = comes_before e f ≡ true

-- of two entries of different places one comes before the other
pub other_way : (e f : Entry) → e.place ≢ f.place → comes_before f e ≡ false → After e f
other_way e f apart h =
    let means = comes_before-false f e h in
    comes_before-from e f means.0 (λ same. let le = means.1 (sym same) in omega arith)

pub after_all : (e f : Entry) (fs : List Entry) → After e f → All (After f) fs → All (After e) fs
after_all e f fs h = All-weaker (After f) (After e) (λ g k. comes_before-levelled.on e f g h k) fs

apart_behind : (xs : List Entry) (y : Entry) (ys : List Entry) → AreApart xs (y ∷ ys) → AreApart xs ys
apart_behind xs y ys =
    All-weaker (λ (e : Entry). All (λ (f : Entry). e.place ≢ f.place) (y ∷ ys)) (λ (e : Entry). All (λ (f : Entry). e.place ≢ f.place) ys)
    (λ e h. All-tail (λ (f : Entry). e.place ≢ f.place) y ys h) xs

in_order-cons : (x : Entry) (xs : List Entry) → All (After x) xs → ((ys : List Entry) → IsInOrder ys → AreApart xs ys → IsInOrder (merge_by comes_before xs ys)) → (ys : List Entry) → IsInOrder ys → AreApart (x ∷ xs) ys → IsInOrder (merge_by comes_before (x ∷ xs) ys)
unfolding merge_by put_in
in_order-cons x xs hx ih [] o a =
    (All-merge_by comes_before (After x) xs [] hx (All-nil (After x)), ih [] o (All-tail (λ (e : Entry). All (λ (f : Entry). e.place ≢ f.place) []) x xs a))
in_order-cons x xs hx ih (y ∷ ys) o a =
    let Apart : Entry → Type 0 = λ e. All (λ (f : Entry). e.place ≢ f.place) (y ∷ ys) in
    let apart = All-head (λ (f : Entry). x.place ≢ f.place) y ys (All-head Apart x xs a) in
    cond_both (comes_before y x) (y ∷ merge_by comes_before (x ∷ xs) ys) (x ∷ merge_by comes_before xs (y ∷ ys)) IsInOrder
    (λ h. (
      All-merge_by comes_before (After y) (x ∷ xs) ys (All-cons (After y) x xs h (after_all y x xs h hx)) o.0,
      in_order-cons x xs hx ih ys o.1 (apart_behind (x ∷ xs) y ys a),
    ))
    (λ h. let first = other_way x y apart h in (
      All-merge_by comes_before (After x) xs (y ∷ ys) hx (All-cons (After x) y ys first (after_all x y ys first o.0)),
      ih (y ∷ ys) o (All-tail Apart x xs a),
    ))

in_order-merge : (xs ys : List Entry) → IsInOrder xs → IsInOrder ys → AreApart xs ys → IsInOrder (merge_by comes_before xs ys)
unfolding merge_by
in_order-merge [] ys h o a = o
in_order-merge (x ∷ xs) ys h o a = in_order-cons x xs h.0 (λ zs p q. in_order-merge xs zs h.1 p q) ys o a

-- where clocks rise, a list is in order
in_order-rising : (xs : List Entry) → ClocksRise xs → IsInOrder xs
in_order-rising [] h = tt
in_order-rising (x ∷ xs) h = (
  All-weaker (λ (f : Entry). x.clock < f.clock) (After x) (λ f lt. comes_before-from x f (omega arith) (λ same. absurd (omega arith))) xs h.0,
  in_order-rising xs h.1,
)

pub in_order-folded : (js : List (List Entry)) → ShareNoPlace js → All ClocksRise js → IsInOrder (folded js)
in_order-folded [] s r = tt
in_order-folded (xs ∷ js) s r =
    in_order-merge xs (folded js) (in_order-rising xs (All-head ClocksRise xs js r)) (in_order-folded js s.1 (All-tail ClocksRise xs js r))
    (All-weaker (λ (e : Entry). All (λ (f : Entry). e.place ≢ f.place) (all_entries js)) (λ (e : Entry). All (λ (f : Entry). e.place ≢ f.place) (folded js))
    (λ e h. All-folded (λ f. e.place ≢ f.place) js h) xs s.0)

pub is_sorted : IsSortedMerge
is_sorted js s r = subst IsInOrder (sym (merged_is js)) (in_order-folded js s r)

-- the same entries at each place
abbrev pub SamePlaces : List Entry → List Entry → Type 0
SamePlaces xs ys = (place : ℕ) → filter (is_at place) xs ≡ filter (is_at place) ys

here : (e : Entry) (es : List Entry) → filter (is_at e.place) (e ∷ es) ≡ e ∷ filter (is_at e.place) es
here e es = filter_takes (is_at e.place) e es (eq-eqb e.place e.place refl)

-- the first entry of one list stands behind the first of the other, where their places differ
behind : (x y : Entry) (xs ys : List Entry) → SamePlaces (x ∷ xs) (y ∷ ys) → All (After y) ys → x.place ≢ y.place → After y x
behind x y xs ys same o differ =
    let found : filter (is_at x.place) ys ≡ x ∷ filter (is_at x.place) xs =
    sym (sym (here x xs) ∙ same x.place ∙ filter_skip (is_at x.place) y ys (ne_eqb y.place x.place (λ e. differ (sym e)))) in
    All-head (After y) x (filter (is_at x.place) xs) (subst (All (After y)) found (All-filter (is_at x.place) (After y) ys o))

never_both : (x y : Entry) → After x y → After y x → ⊥
never_both x y h k =
    let a = comes_before-true x y h in
    let b = comes_before-true y x k in
    let same : x.clock ≡ y.clock = omega arith in
    let lt = a.1 same in
    let gt = b.1 (sym same) in
    omega arith

first_same : (x y : Entry) (xs ys : List Entry) → SamePlaces (x ∷ xs) (y ∷ ys) → All (After x) xs → All (After y) ys → x ≡ y
first_same x y xs ys same ox oy =
    elim (cases_eq x.place y.place) [
      | inl level ↦
          (let left = here x xs in
          let right = filter_takes (is_at x.place) y ys (eq-eqb y.place x.place (sym level)) in
          let both = same x.place in
          let joined : x ∷ filter (is_at x.place) xs ≡ y ∷ filter (is_at x.place) ys = sym left ∙ both ∙ right in
          cc)
      | inr differ ↦
          absurd (never_both x y (behind y x ys xs (λ p. sym (same p)) ox (λ e. differ (sym e))) (behind x y xs ys same oy differ))
    ]

rest_same-choice : (x : Entry) (us vs : List Entry) (b : Bool) → cond b (x ∷ us) us ≡ cond b (x ∷ vs) vs → us ≡ vs
rest_same-choice x us vs true h = cc
rest_same-choice x us vs false h = h

rest_same : (x y : Entry) (xs ys : List Entry) → x ≡ y → SamePlaces (x ∷ xs) (y ∷ ys) → SamePlaces xs ys
rest_same x y xs ys e same place =
    rest_same-choice x (filter (is_at place) xs) (filter (is_at place) ys) (eqb x.place place)
    (same place ∙ ap (λ w. filter (is_at place) (w ∷ ys)) (sym e))

-- two lists in order with the same entries at each place are the same
pub sorted_once : (xs ys : List Entry) → IsInOrder xs → IsInOrder ys → SamePlaces xs ys → xs ≡ ys
sorted_once [] [] ox oy same = refl
sorted_once [] (y ∷ ys) ox oy same = (let both = same y.place ∙ here y ys in cc)
sorted_once (x ∷ xs) [] ox oy same = (let both = sym (here x xs) ∙ same x.place in cc)
sorted_once (x ∷ xs) (y ∷ ys) ox oy same =
    let first = first_same x y xs ys same ox.0 oy.0 in
    let rest = sorted_once xs ys ox.1 oy.1 (rest_same x y xs ys first same) in
    cc

pub is_only_one : IsOnlyOne
is_only_one js es s r o same = sorted_once es (merged js) o (is_sorted js s r) (λ place. same place ∙ sym (keeps_places js place s))
