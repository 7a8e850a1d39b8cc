-- Turns put in order, where those of each place rise: the turns of each place stay as they were.
use Rattle.std.proofs.Common.{ℕ, zero, suc, ◌≡◌, ◌≢◌, ◌<◌, ◌≤◌, Bool, true, false, cond, List, [], ◌∷◌, ◌++◌, eqb, refl, sym, ◌∙◌, ap, subst, inl, inr, arith}
use Rattle.std.specs.List.{All, filter}
use Rattle.std.proofs.lemmas.Bool.{eqb-true, eq-eqb, ne_eqb, cases_Bool, cases_eq, cases_lt, cond_both, both_ways}
use Rattle.std.proofs.lemmas.List.{append-nil}
use Rattle.std.proofs.lemmas.List.Elements.{All-nil, All-cons, All-head, All-tail, All-weaker, filter-append}
use Rattle.law_history.specs.Turns.{Turn, is_at, before, IsInOrder}
use Rattle.law_history.proofs.Lists.{filter_skip, filter_takes, filter_none, filter_all, All_where, eqb_same}
use Rattle.law_history.proofs.Order.{After, after_all, other_way, before-less, IsRising}

module _ {C M K : Type 0} where
  -- the turn put in before the first that it comes before
  abbrev put : Turn C M K → List (Turn C M K) → List (Turn C M K)
  put t [] = t ∷ []
  put t (u ∷ us) = cond (before t u) (t ∷ u ∷ us) (u ∷ put t us)

  abbrev pub sort : List (Turn C M K) → List (Turn C M K)
  sort [] = []
  sort (t ∷ ts) = put t (sort ts)

  -- u comes behind t, if they are of one place
  abbrev Behind : Turn C M K → Turn C M K → Type 0
  Behind t u = u.place ≡ t.place → t.first < u.first

  All-put : (P : Turn C M K → Type 0) (t : Turn C M K) (us : List (Turn C M K)) → P t → All P us → All P (put t us)
  All-put P t [] h a = All-cons P t [] h a
  All-put P t (u ∷ us) h a =
      cond_both (before t u) (t ∷ u ∷ us) (u ∷ put t us) (All P)
      (λ _. All-cons P t (u ∷ us) h a)
      (λ _. All-cons P u (put t us) (All-head P u us a) (All-put P t us h (All-tail P u us a)))

  All-sort : (P : Turn C M K → Type 0) (ts : List (Turn C M K)) → All P ts → All P (sort ts)
  All-sort P [] a = a
  All-sort P (t ∷ ts) a = All-put P t (sort ts) (All-head P t ts a) (All-sort P ts (All-tail P t ts a))

  -- t does not come before u, so u is of another place
  apart : (t u : Turn C M K) → Behind t u → before t u ≡ false → t.place ≢ u.place
  apart t u h not_so same = both_ways (before t u) not_so (before-less t u (h (sym same)))

  in_order-put : (t : Turn C M K) (us : List (Turn C M K)) → All (Behind t) us → IsInOrder us → IsInOrder (put t us)
  in_order-put t [] h o = (All-nil (After t), tt)
  in_order-put t (u ∷ us) h o =
      cond_both (before t u) (t ∷ u ∷ us) (u ∷ put t us) IsInOrder
      (λ is. (All-cons (After t) u us is (after_all t u us is o.0), o))
      (λ not_so. (
        All-put (After u) t us (other_way t u (apart t u (All-head (Behind t) u us h) not_so) not_so) o.0,
        in_order-put t us (All-tail (Behind t) u us h) o.1,
      ))

  -- the turns of a place are those before, and t in front of them if it is there
  filter-put : (p : ℕ) (t : Turn C M K) (us : List (Turn C M K)) → All (Behind t) us → filter (is_at p) (put t us) ≡ filter (is_at p) (t ∷ us)
  filter-put p t [] h = refl
  filter-put p t (u ∷ us) h =
      cond_both (before t u) (t ∷ u ∷ us) (u ∷ put t us) (λ ws. filter (is_at p) ws ≡ filter (is_at p) (t ∷ u ∷ us))
      (λ _. refl)
      (λ not_so.
      let differ = apart t u (All-head (Behind t) u us h) not_so in
      let ih = filter-put p t us (All-tail (Behind t) u us h) in
      elim (cases_Bool (eqb t.place p)) [
        | inl at ↦
            (let away : is_at p u ≡ false = ne_eqb u.place p (λ e. differ (eqb-true t.place p at ∙ sym e)) in
            filter_skip (is_at p) u (put t us) away ∙ ih ∙ filter_takes (is_at p) t us at ∙ ap (λ ws. t ∷ ws) (sym (filter_skip (is_at p) u us away))
            ∙ sym (filter_takes (is_at p) t (u ∷ us) at))
        | inr away ↦
            ap (λ ws. cond (is_at p u) (u ∷ ws) ws) (ih ∙ filter_skip (is_at p) t us away) ∙ sym (filter_skip (is_at p) t (u ∷ us) away)
      ])

  -- each turn comes before those behind it that are of its place
  abbrev AreApart : List (Turn C M K) → Type 0
  AreApart [] = Unit {0}
  AreApart (t ∷ ts) = All (Behind t) ts × AreApart ts

  in_order-sort : (ts : List (Turn C M K)) → AreApart ts → IsInOrder (sort ts)
  in_order-sort [] a = tt
  in_order-sort (t ∷ ts) a = in_order-put t (sort ts) (All-sort (Behind t) ts a.0) (in_order-sort ts a.1)

  filter-sort : (p : ℕ) (ts : List (Turn C M K)) → AreApart ts → filter (is_at p) (sort ts) ≡ filter (is_at p) ts
  filter-sort p [] a = refl
  filter-sort p (t ∷ ts) a =
      filter-put p t (sort ts) (All-sort (Behind t) ts a.0) ∙ ap (λ ws. cond (is_at p t) (t ∷ ws) ws) (filter-sort p ts a.1)

  -- they are, where the turns of each place rise
  rising_rest : (t : Turn C M K) (us : List (Turn C M K)) (b : Bool) → IsRising (cond b (t ∷ us) us) → IsRising us
  rising_rest t us true r = r.1
  rising_rest t us false r = r

  are_apart : (ts : List (Turn C M K)) → ((p : ℕ) → IsRising (filter (is_at p) ts)) → AreApart ts
  are_apart [] r = tt
  are_apart (t ∷ ts) r =
      let own : IsRising (t ∷ filter (is_at t.place) ts) = subst IsRising (filter_takes (is_at t.place) t ts (eqb_same t.place)) (r t.place) in (
        All-weaker (λ (u : Turn C M K). is_at t.place u ≡ true → t.first < u.first) (Behind t) (λ u h same. h (eq-eqb u.place t.place same)) ts
            (All_where (λ (u : Turn C M K). t.first < u.first) (is_at t.place) ts own.0),
        are_apart ts (λ p. rising_rest t (filter (is_at p) ts) (is_at p t) (r p)),
      )

  -- the turns of the first n places
  abbrev gathered : ℕ → (ℕ → List (Turn C M K)) → List (Turn C M K)
  gathered zero f = []
  gathered (suc n) f = gathered n f ++ f n

  abbrev AreAt : ℕ → List (Turn C M K) → Type 0
  AreAt p ts = All (λ (t : Turn C M K). t.place ≡ p) ts

  only_here : (p : ℕ) (ts : List (Turn C M K)) → AreAt p ts → filter (is_at p) ts ≡ ts
  only_here p ts a = filter_all (is_at p) ts (All-weaker (λ (t : Turn C M K). t.place ≡ p) (λ (t : Turn C M K). is_at p t ≡ true) (λ t e. eq-eqb t.place p e) ts a)

  none_here : (p q : ℕ) (ts : List (Turn C M K)) → p ≢ q → AreAt q ts → filter (is_at p) ts ≡ []
  none_here p q ts differ a =
      filter_none (is_at p) ts
      (All-weaker (λ (t : Turn C M K). t.place ≡ q) (λ (t : Turn C M K). is_at p t ≡ false) (λ t e. ne_eqb t.place p (λ h. differ (sym h ∙ e))) ts a)

  gathered_past : (n p : ℕ) (f : ℕ → List (Turn C M K)) → ((q : ℕ) → AreAt q (f q)) → n ≤ p → filter (is_at p) (gathered n f) ≡ []
  gathered_past zero p f a le = refl
  gathered_past (suc n) p f a le =
      let early = gathered_past n p f a (omega arith) in
      let late = none_here p n (f n) (λ e. omega arith) (a n) in
      filter-append (is_at p) (gathered n f) (f n) ∙ ap (λ ws. ws ++ filter (is_at p) (f n)) early ∙ late

  gathered_at : (n p : ℕ) (f : ℕ → List (Turn C M K)) → ((q : ℕ) → AreAt q (f q)) → p < n → filter (is_at p) (gathered n f) ≡ f p
  gathered_at zero p f a lt = absurd (omega arith)
  gathered_at (suc n) p f a lt =
      elim (cases_eq p n) [
        | inl same ↦
            filter-append (is_at p) (gathered n f) (f n) ∙ ap (λ ws. ws ++ filter (is_at p) (f n)) (gathered_past n p f a (omega arith))
            ∙ subst (λ r. filter (is_at p) (f r) ≡ f p) same (only_here p (f p) (a p))
        | inr differ ↦
            (let late = none_here p n (f n) differ (a n) in
            filter-append (is_at p) (gathered n f) (f n) ∙ ap (λ ws. filter (is_at p) (gathered n f) ++ ws) late ∙ append-nil (filter (is_at p) (gathered n f))
            ∙ gathered_at n p f a (omega arith))
      ]

  -- what is found of the turns of n places, where the others have none
  gathered_all : (n : ℕ) (f : ℕ → List (Turn C M K)) → ((q : ℕ) → AreAt q (f q)) → ((q : ℕ) → n ≤ q → f q ≡ []) → (p : ℕ) → filter (is_at p) (gathered n f) ≡ f p
  gathered_all n f a few p =
      elim (cases_lt p n) [
        | inl lt ↦ gathered_at n p f a lt
        | inr le ↦ gathered_past n p f a le ∙ sym (few p le)
      ]

  -- so there is one list of all, in order, in which the turns of each place are as they were
  pub one_order : (n : ℕ) (f : ℕ → List (Turn C M K)) → ((q : ℕ) → All (λ (t : Turn C M K). t.place ≡ q) (f q)) → ((q : ℕ) → n ≤ q → f q ≡ []) → ((q : ℕ) → IsRising (f q)) → (ts : List (Turn C M K)) × IsInOrder ts × ((p : ℕ) → filter (is_at p) ts ≡ f p)
  one_order n f a few rising =
      let all = gathered_all n f a few in
      let fit = are_apart (gathered n f) (λ p. subst IsRising (sym (all p)) (rising p)) in
      (sort (gathered n f), in_order-sort (gathered n f) fit, λ p. filter-sort p (gathered n f) fit ∙ all p)
