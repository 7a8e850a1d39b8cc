-- One more entry at the end of a journal goes into the merge at its place.
use Rattle.std.proofs.Common.{ℕ, ◌≡◌, ◌≢◌, ◌<◌, Bool, true, false, cond, List, [], ◌∷◌, ◌++◌, refl, sym, ◌∙◌, ap, subst, inl, inr, append_assoc, arith}
use Rattle.std.specs.List.{All, filter}
use Rattle.std.proofs.lemmas.Bool.{cases_Bool, cases_eq, cond_both, eqb-true, ne_eqb}
use Rattle.std.proofs.lemmas.List.{append-nil}
use Rattle.std.proofs.lemmas.List.Elements.{All-nil, All-cons, All-head, All-tail, All-append, All-weaker, filter-append}
use Rattle.chorus_entry.specs.declared.entry.Entry.{Entry}
use Rattle.chorus_merge.specs.Order.{put, ClocksRise}
use Rattle.chorus_entry.specs.Order.{comes_before, IsInOrder, is_at}
use Rattle.chorus_merge.specs.Merge.{all_entries, merged}
use Rattle.chorus_merge.specs.Laws.{ShareNoPlace, PutsNextEntry}
use Rattle.chorus_merge.proofs.Order.{comes_before-true, comes_before-false, comes_before-from}
use Rattle.chorus_merge.proofs.Kept.{filter_skip, filter_takes, filter_none}
use Rattle.chorus_merge.proofs.Folds.{merged_is}
use Rattle.chorus_merge.proofs.Places.{All-append_parts, All-folded, NotAt, keeps_places}
use Rattle.chorus_merge.proofs.Sorted.{After, after_all, is_sorted, is_only_one}

-- f, where it is of the place of e, is earlier
abbrev Past : Entry → Entry → Type 0
Past e f = f.place ≡ e.place → f.clock < e.clock

goes_first : (e f : Entry) → Past e f → comes_before e f ≡ false → After f e
goes_first e f past h =
    let means = comes_before-false e f h in
    comes_before-from f e means.0
    (λ same.
    let le = means.1 (sym same) in
    elim (cases_eq f.place e.place) [
      | inl level ↦ (let lt = past level in absurd (omega arith))
      | inr differ ↦ omega arith
    ])

All-put : (P : Entry → Type 0) (e : Entry) (fs : List Entry) → P e → All P fs → All P (put e fs)
All-put P e [] p h = All-cons P e [] p h
All-put P e (f ∷ fs) p h =
    cond_both (comes_before e f) (e ∷ f ∷ fs) (f ∷ put e fs) (All P)
    (λ _. All-cons P e (f ∷ fs) p h)
    (λ _. All-cons P f (put e fs) (All-head P f fs h) (All-put P e fs p (All-tail P f fs h)))

in_order-put : (e : Entry) (fs : List Entry) → IsInOrder fs → All (Past e) fs → IsInOrder (put e fs)
in_order-put e [] o h = (All-nil (After e), tt)
in_order-put e (f ∷ fs) o h =
    cond_both (comes_before e f) (e ∷ f ∷ fs) (f ∷ put e fs) IsInOrder
    (λ first. (All-cons (After e) f fs first (after_all e f fs first o.0), o))
    (λ behind. (All-put (After f) e fs (goes_first e f (All-head (Past e) f fs h) behind) o.0, in_order-put e fs o.1 (All-tail (Past e) f fs h)))

-- a test that finds e finds nothing in the list, so e may stand before it or behind it
moves : (t : Entry → Bool) (e : Entry) (gs : List Entry) → (t e ≡ true → All (λ g. t g ≡ false) gs) → filter t (e ∷ gs) ≡ filter t (gs ++ e ∷ [])
moves t e gs h =
    elim (cases_Bool (t e)) [
      | inl finds ↦
          (let none = filter_none t gs (h finds) in
          filter_takes t e gs finds ∙ ap (λ ws. e ∷ ws) none
          ∙ sym (filter-append t gs (e ∷ []) ∙ ap (λ ws. ws ++ filter t (e ∷ [])) none ∙ filter_takes t e [] finds))
      | inr misses ↦
          filter_skip t e gs misses
          ∙ sym (filter-append t gs (e ∷ []) ∙ ap (λ ws. filter t gs ++ ws) (filter_skip t e [] misses) ∙ append-nil (filter t gs))
    ]

-- an entry behind e is not of its place, where those of its place are earlier
not_here : (place : ℕ) (e g : Entry) → is_at place e ≡ true → After e g → Past e g → NotAt place g
not_here place e g here after past =
    ne_eqb g.place place
    (λ same.
    let means = comes_before-true e g after in
    let level : g.place ≡ e.place = same ∙ sym (eqb-true e.place place here) in
    let lt = past level in
    omega arith)

none_behind : (place : ℕ) (e : Entry) (gs : List Entry) → is_at place e ≡ true → All (After e) gs → All (Past e) gs → All (NotAt place) gs
none_behind place e [] here a p = All-nil (NotAt place)
none_behind place e (g ∷ gs) here a p =
    All-cons (NotAt place) g gs (not_here place e g here (All-head (After e) g gs a) (All-head (Past e) g gs p))
    (none_behind place e gs here (All-tail (After e) g gs a) (All-tail (Past e) g gs p))

one_more : (t : Entry → Bool) (f : Entry) (us vs : List Entry) → filter t us ≡ filter t vs → filter t (f ∷ us) ≡ filter t (f ∷ vs)
one_more t f us vs same = ap (λ ws. cond (t f) (f ∷ ws) ws) same

filter-put : (place : ℕ) (e : Entry) (fs : List Entry) → IsInOrder fs → All (Past e) fs → filter (is_at place) (put e fs) ≡ filter (is_at place) (fs ++ e ∷ [])
filter-put place e [] o h = refl
filter-put place e (f ∷ fs) o h =
    cond_both (comes_before e f) (e ∷ f ∷ fs) (f ∷ put e fs) (λ ws. filter (is_at place) ws ≡ filter (is_at place) ((f ∷ fs) ++ e ∷ []))
    (λ first. moves (is_at place) e (f ∷ fs) (λ here. none_behind place e (f ∷ fs) here (All-cons (After e) f fs first (after_all e f fs first o.0)) h))
    (λ behind. one_more (is_at place) f (put e fs) (fs ++ e ∷ []) (filter-put place e fs o.1 (All-tail (Past e) f fs h)))

all_entries-append : (js ks : List (List Entry)) → all_entries (js ++ ks) ≡ all_entries js ++ all_entries ks
all_entries-append [] ks = refl
all_entries-append (xs ∷ js) ks =
    ap (λ ws. xs ++ ws) (all_entries-append js ks) ∙ sym (append_assoc xs (all_entries js) (all_entries ks))

module _ (xs : List Entry) (e : Entry) (back : List (List Entry)) where
  abbrev more : List (List Entry) → List (List Entry)
  more front = front ++ ((xs ++ e ∷ []) ∷ back)

  abbrev less : List (List Entry) → List (List Entry)
  less front = front ++ (xs ∷ back)

  all-more : (front : List (List Entry)) → all_entries (more front) ≡ (all_entries front ++ xs) ++ (e ∷ all_entries back)
  all-more front =
      all_entries-append front ((xs ++ e ∷ []) ∷ back)
      ∙ ap (λ ws. all_entries front ++ ws) (append_assoc xs (e ∷ []) (all_entries back))
      ∙ sym (append_assoc (all_entries front) xs (e ∷ all_entries back))

  all-less : (front : List (List Entry)) → all_entries (less front) ≡ (all_entries front ++ xs) ++ all_entries back
  all-less front =
      all_entries-append front (xs ∷ back) ∙ sym (append_assoc (all_entries front) xs (all_entries back))

  -- what holds of all entries holds of e, and of the others
  All-less : (P : Entry → Type 0) (front : List (List Entry)) → All P (all_entries (more front)) → All P (all_entries (less front)) × P e
  All-less P front h =
      let parts = All-append_parts P (all_entries front ++ xs) (e ∷ all_entries back) (subst (All P) (all-more front) h) in (
        subst (All P) (sym (all-less front))
            (All-append P (all_entries front ++ xs) (all_entries back) parts.0 (All-tail P e (all_entries back) parts.1)),
        All-head P e (all_entries back) parts.1,
      )

  record Before (front : List (List Entry)) : Type 0 where
    share : ShareNoPlace (less front)
    rising : All ClocksRise (less front)
    past : All (Past e) (all_entries (less front))
    behind : All (λ (f : Entry). e.place ≢ f.place) (all_entries back)

  abbrev ApartFrom : List Entry → Entry → Type 0
  ApartFrom ys x = All (λ (f : Entry). x.place ≢ f.place) ys

  rising_front : (ys : List Entry) → ClocksRise (ys ++ e ∷ []) → ClocksRise ys
  rising_front [] h = tt
  rising_front (y ∷ ys) h =
      ((All-append_parts (λ (f : Entry). y.clock < f.clock) ys (e ∷ []) h.0).0, rising_front ys h.1)

  below_last : (ys : List Entry) → ClocksRise (ys ++ e ∷ []) → All (λ (f : Entry). f.clock < e.clock) ys
  below_last [] h = All-nil (λ (f : Entry). f.clock < e.clock)
  below_last (y ∷ ys) h =
      All-cons (λ (f : Entry). f.clock < e.clock) y ys
      (All-head (λ (f : Entry). y.clock < f.clock) e [] (All-append_parts (λ (f : Entry). y.clock < f.clock) ys (e ∷ []) h.0).1)
      (below_last ys h.1)

  before : (front : List (List Entry)) → ShareNoPlace (more front) → All ClocksRise (more front) → Before front
  before [] s r =
      let parts = All-append_parts (ApartFrom (all_entries back)) xs (e ∷ []) s.0 in
      let apart = All-head (ApartFrom (all_entries back)) e [] parts.1 in
      let rising = All-head ClocksRise (xs ++ e ∷ []) back r in
      record {
        share = (parts.0, s.1);
        rising = All-cons ClocksRise xs back (rising_front xs rising) (All-tail ClocksRise (xs ++ e ∷ []) back r);
        past =
            All-append (Past e) xs (all_entries back)
            (All-weaker (λ (f : Entry). f.clock < e.clock) (Past e) (λ f lt _. lt) xs (below_last xs rising))
            (All-weaker (λ (f : Entry). e.place ≢ f.place) (Past e) (λ f differ same. absurd (differ (sym same))) (all_entries back) apart);
        behind = apart;
      }
  before (js ∷ front) s r =
      let ih = before front s.1 (All-tail ClocksRise js (more front) r) in
      record {
        share = (
          All-weaker (ApartFrom (all_entries (more front))) (ApartFrom (all_entries (less front)))
              (λ x h. (All-less (λ (f : Entry). x.place ≢ f.place) front h).0) js s.0,
          ih.share,
        );
        rising = All-cons ClocksRise js (less front) (All-head ClocksRise js (more front) r) ih.rising;
        past =
            All-append (Past e) js (all_entries (less front))
            (All-weaker (ApartFrom (all_entries (more front))) (Past e)
            (λ x h same. absurd ((All-less (λ (f : Entry). x.place ≢ f.place) front h).1 same)) js s.0)
            ih.past;
        behind = ih.behind;
      }

  same_views : (front : List (List Entry)) (place : ℕ) → All (λ (f : Entry). e.place ≢ f.place) (all_entries back) → filter (is_at place) (all_entries (more front)) ≡ filter (is_at place) (all_entries (less front) ++ e ∷ [])
  same_views front place apart =
      let known = all_entries front ++ xs in
      ap (filter (is_at place)) (all-more front)
      ∙ filter-append (is_at place) known (e ∷ all_entries back)
      ∙ ap (λ ws. filter (is_at place) known ++ ws)
      (moves (is_at place) e (all_entries back)
      (λ here. All-weaker (λ (f : Entry). e.place ≢ f.place) (NotAt place)
      (λ f differ. ne_eqb f.place place (λ same. differ (eqb-true e.place place here ∙ sym same))) (all_entries back) apart))
      ∙ sym (filter-append (is_at place) known (all_entries back ++ e ∷ []))
      ∙ ap (filter (is_at place)) (sym (append_assoc known (all_entries back) (e ∷ [])) ∙ ap (λ ws. ws ++ e ∷ []) (sym (all-less front)))

  next : (front : List (List Entry)) → ShareNoPlace (more front) → All ClocksRise (more front) → merged (more front) ≡ put e (merged (less front))
  next front s r =
      let b = before front s r in
      let order = is_sorted (less front) b.share b.rising in
      let past = subst (All (Past e)) (sym (merged_is (less front))) (All-folded (Past e) (less front) b.past) in
      sym (is_only_one (more front) (put e (merged (less front))) s r (in_order-put e (merged (less front)) order past)
      (λ place.
      filter-put place e (merged (less front)) order past
      ∙ filter-append (is_at place) (merged (less front)) (e ∷ [])
      ∙ ap (λ ws. ws ++ filter (is_at place) (e ∷ [])) (keeps_places (less front) place b.share)
      ∙ sym (filter-append (is_at place) (all_entries (less front)) (e ∷ []))
      ∙ sym (same_views front place b.behind)))

pub puts_next : PutsNextEntry
puts_next front xs e back s r = next xs e back front s r
