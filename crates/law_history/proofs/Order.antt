-- The order of turns by the clock of the first entry and by place.
use Rattle.std.proofs.Common.{ℕ, ◌≡◌, ◌≢◌, ◌<◌, ◌≤◌, Bool, true, false, ◌&&◌, cond, List, [], ◌∷◌, eqb, ltb, refl, sym, ◌∙◌, ap, subst, inl, inr, arith}
use Rattle.std.specs.List.{All, filter}
use Rattle.std.proofs.lemmas.Bool.{and_parts, and_cases, or_cases, or_parts, eqb-true, eqb-false, eq-eqb, ne_eqb, ltb-true, ltb-false, cases_Bool, cases_eq, cond_both}
use Rattle.std.proofs.lemmas.List.Elements.{All-head, All-weaker, All-filter}
use Rattle.law_history.specs.Turns.{Turn, is_at, before, IsInOrder}
use Rattle.law_history.proofs.Lists.{filter_skip, filter_takes, eqb_same}

module _ {C M K : Type 0} where
  pub before-true : (e f : Turn C M K) → before e f ≡ true → (e.first ≤ f.first) × (e.first ≡ f.first → e.place < f.place)
  before-true e f h =
      elim (or_cases (ltb e.first f.first) (eqb e.first f.first && ltb e.place f.place) h) [
        | inl less ↦ (let lt = ltb-true e.first f.first less in (omega arith, λ same. absurd (omega arith)))
        | inr both ↦
            (let parts = and_parts (eqb e.first f.first) (ltb e.place f.place) both in
            let same = eqb-true e.first f.first parts.0 in
            let lt = ltb-true e.place f.place parts.1 in
            (omega arith, λ _. lt))
      ]

  before-false : (e f : Turn C M K) → before e f ≡ false → (f.first ≤ e.first) × (e.first ≡ f.first → f.place ≤ e.place)
  before-false e f h =
      let parts = or_parts (ltb e.first f.first) (eqb e.first f.first && ltb e.place f.place) h in (
        ltb-false e.first f.first parts.0,
        λ same. elim (and_cases (eqb e.first f.first) (ltb e.place f.place) parts.1) [
          | inl other ↦ absurd (eqb-false e.first f.first other same)
          | inr le ↦ ltb-false e.place f.place le
        ],
      )

  pub before-from : (e f : Turn C M K) → e.first ≤ f.first → (e.first ≡ f.first → e.place < f.place) → before e f ≡ true
  before-from e f clock place =
      elim (cases_Bool (before e f)) [
        | inl h ↦ h
        | inr h ↦ (let back = before-false e f h in
            let same : e.first ≡ f.first = omega arith in
            let lt = place same in
            let le = back.1 same in
            absurd (omega arith))
      ]

  pub before-less : (e f : Turn C M K) → e.first < f.first → before e f ≡ true
  before-less e f lt = before-from e f (omega arith) (λ same. absurd (omega arith))

  pub before_on : (x y z : Turn C M K) → before x y ≡ true → before y z ≡ true → before x z ≡ true
  before_on x y z h k =
      let first = before-true x y h in
      let second = before-true y z k in
      before-from x z (omega arith) (λ same. omega arith)

  pub other_way : (e f : Turn C M K) → e.place ≢ f.place → before e f ≡ false → before f e ≡ true
  other_way e f apart h =
      let means = before-false e f h in
      before-from f e means.0 (λ same. let le = means.1 (sym same) in omega arith)

  abbrev pub After : Turn C M K → Turn C M K → Type 0
  After e f = before e f ≡ true

  pub after_all : (e f : Turn C M K) (fs : List (Turn C M K)) → After e f → All (After f) fs → All (After e) fs
  after_all e f fs h = All-weaker (After f) (After e) (λ g k. before_on e f g h k) fs

  pub in_order-filter : (p : Turn C M K → Bool) (ts : List (Turn C M K)) → IsInOrder ts → IsInOrder (filter p ts)
  in_order-filter p [] o = tt
  in_order-filter p (t ∷ ts) o =
      cond_both (p t) (t ∷ filter p ts) (filter p ts) IsInOrder
      (λ _. (All-filter p (After t) ts o.0, in_order-filter p ts o.1))
      (λ _. in_order-filter p ts o.1)

  -- where the clocks of the first entries rise, turns are in order
  abbrev pub IsRising : List (Turn C M K) → Type 0
  IsRising [] = Unit {0}
  IsRising (t ∷ ts) = All (λ (u : Turn C M K). t.first < u.first) ts × IsRising ts

  pub in_order-rising : (ts : List (Turn C M K)) → IsRising ts → IsInOrder ts
  in_order-rising [] h = tt
  in_order-rising (t ∷ ts) h = (All-weaker (λ (u : Turn C M K). t.first < u.first) (After t) (λ u lt. before-less t u lt) ts h.0, in_order-rising ts h.1)

  -- Two lists in order with the same turns at each place are the same.
  abbrev SamePlaces : List (Turn C M K) → List (Turn C M K) → Type 0
  SamePlaces ts us = (p : ℕ) → filter (is_at p) ts ≡ filter (is_at p) us

  here : (t : Turn C M K) (ts : List (Turn C M K)) → filter (is_at t.place) (t ∷ ts) ≡ t ∷ filter (is_at t.place) ts
  here t ts = filter_takes (is_at t.place) t ts (eqb_same t.place)

  behind : (x y : Turn C M K) (xs ys : List (Turn C M K)) → SamePlaces (x ∷ xs) (y ∷ ys) → All (After y) ys → x.place ≢ y.place → After y x
  behind x y xs ys same o differ =
      let found : filter (is_at x.place) ys ≡ x ∷ filter (is_at x.place) xs =
      sym (sym (here x xs) ∙ same x.place ∙ filter_skip (is_at x.place) y ys (ne_eqb y.place x.place (λ e. differ (sym e)))) in
      All-head (After y) x (filter (is_at x.place) xs) (subst (All (After y)) found (All-filter (is_at x.place) (After y) ys o))

  never_both : (x y : Turn C M K) → After x y → After y x → ⊥
  never_both x y h k =
      let a = before-true x y h in
      let b = before-true y x k in
      let same : x.first ≡ y.first = omega arith in
      let lt = a.1 same in
      let gt = b.1 (sym same) in
      omega arith

  first_same : (x y : Turn C M K) (xs ys : List (Turn C M K)) → SamePlaces (x ∷ xs) (y ∷ ys) → All (After x) xs → All (After y) ys → x ≡ y
  first_same x y xs ys same ox oy =
      elim (cases_eq x.place y.place) [
        | inl level ↦
            (let left = here x xs in
            let right = filter_takes (is_at x.place) y ys (eq-eqb y.place x.place (sym level)) in
            let both = same x.place in
            let joined : x ∷ filter (is_at x.place) xs ≡ y ∷ filter (is_at x.place) ys = sym left ∙ both ∙ right in
            cc)
        | inr differ ↦
            absurd (never_both x y (behind y x ys xs (λ p. sym (same p)) ox (λ e. differ (sym e))) (behind x y xs ys same oy differ))
      ]

  rest_same-choice : (x : Turn C M K) (us vs : List (Turn C M K)) (b : Bool) → cond b (x ∷ us) us ≡ cond b (x ∷ vs) vs → us ≡ vs
  rest_same-choice x us vs true h = cc
  rest_same-choice x us vs false h = h

  rest_same : (x y : Turn C M K) (xs ys : List (Turn C M K)) → x ≡ y → SamePlaces (x ∷ xs) (y ∷ ys) → SamePlaces xs ys
  rest_same x y xs ys e same place =
      rest_same-choice x (filter (is_at place) xs) (filter (is_at place) ys) (eqb x.place place)
      (same place ∙ ap (λ w. filter (is_at place) (w ∷ ys)) (sym e))

  pub same_in_order : (xs ys : List (Turn C M K)) → IsInOrder xs → IsInOrder ys → ((p : ℕ) → filter (is_at p) xs ≡ filter (is_at p) ys) → xs ≡ ys
  same_in_order [] [] ox oy same = refl
  same_in_order [] (y ∷ ys) ox oy same = (let both = same y.place ∙ here y ys in cc)
  same_in_order (x ∷ xs) [] ox oy same = (let both = sym (here x xs) ∙ same x.place in cc)
  same_in_order (x ∷ xs) (y ∷ ys) ox oy same =
      let first = first_same x y xs ys same ox.0 oy.0 in
      let rest = same_in_order xs ys ox.1 oy.1 (rest_same x y xs ys first same) in
      cc
