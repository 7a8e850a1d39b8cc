-- Where no two journals share a place, the entries of each place stand in the merge as in the journals.
use Rattle.std.proofs.Common.{ℕ, zero, suc, ◌≡◌, ◌≢◌, ◌+◌, ◌≤◌, true, false, List, [], ◌∷◌, ◌++◌, eqb, get_or, refl, sym, ◌∙◌, ap, inl, inr, ◌⊎◌, arith}
use Rattle.std.specs.List.{All, filter}
use Rattle.std.proofs.lemmas.Bool.{cases_Bool, eqb-true, eq-eqb, ne_eqb}
use Rattle.std.proofs.lemmas.List.{append-nil}
use Rattle.std.proofs.lemmas.List.Elements.{All-nil, All-cons, All-head, All-tail, All-append, All-weaker, filter-append}
use Rattle.chorus_entry.specs.declared.entry.Entry.{Entry}
use Rattle.chorus_merge.specs.Order.{AreApart}
use Rattle.chorus_entry.specs.Order.{comes_before, is_at}
use Rattle.chorus_merge.specs.Merge.{all_entries}
use Rattle.chorus_merge.specs.Laws.{ShareNoPlace, KeepsPlaces, AreOfPlaces, GivesJournalsBack}
use Rattle.chorus_merge.proofs.Folds.{folded, merged_is}
use Rattle.chorus_merge.proofs.Kept.{All-merge_by, filter_first, filter_second, filter_all, filter_none}

pub All-append_parts : {X : Type 0} → (P : X → Type 0) (xs ys : List X) → All P (xs ++ ys) → All P xs × All P ys
All-append_parts P [] ys h = (All-nil P, h)
All-append_parts P (x ∷ xs) ys h =
    let rest = All-append_parts P xs ys (All-tail P x (xs ++ ys) h) in
    (All-cons P x xs (All-head P x (xs ++ ys) h) rest.0, rest.1)

-- what holds of each entry of the journals holds of each entry of the merge
pub All-folded : (P : Entry → Type 0) (js : List (List Entry)) → All P (all_entries js) → All P (folded js)
All-folded P [] h = h
All-folded P (xs ∷ js) h =
    let parts = All-append_parts P xs (all_entries js) h in
    All-merge_by comes_before P xs (folded js) parts.0 (All-folded P js parts.1)

abbrev pub NotAt : ℕ → Entry → Type 0
NotAt place e = is_at place e ≡ false

-- of two lists that share no place, one has no entry of this place
one_side : (place : ℕ) (xs ys : List Entry) → AreApart xs ys → All (NotAt place) xs ⊎ All (NotAt place) ys
one_side place [] ys h = inl (All-nil (NotAt place))
one_side place (e ∷ es) ys h =
    let Apart : Entry → Type 0 = λ x. All (λ (f : Entry). x.place ≢ f.place) ys in
    elim (cases_Bool (eqb e.place place)) [
      | inl here ↦
          inr (All-weaker (λ f. e.place ≢ f.place) (NotAt place)
          (λ f ne. ne_eqb f.place place (λ same. ne (eqb-true e.place place here ∙ sym same)))
          ys (All-head Apart e es h))
      | inr elsewhere ↦ elim (one_side place es ys (All-tail Apart e es h)) [
        | inl none ↦ inl (All-cons (NotAt place) e es elsewhere none)
        | inr none ↦ inr none
      ]
    ]

pub folded_keeps_places : (js : List (List Entry)) (place : ℕ) → ShareNoPlace js → filter (is_at place) (folded js) ≡ filter (is_at place) (all_entries js)
folded_keeps_places [] place h = refl
folded_keeps_places (xs ∷ js) place h =
    let joined = filter-append (is_at place) xs (all_entries js) in
    elim (one_side place xs (all_entries js) h.0) [
      | inl none ↦
          filter_second comes_before (is_at place) xs (folded js) none
          ∙ folded_keeps_places js place h.1
          ∙ sym (joined ∙ ap (λ ws. ws ++ filter (is_at place) (all_entries js)) (filter_none (is_at place) xs none))
      | inr none ↦
          filter_first comes_before (is_at place) xs (folded js) (All-folded (NotAt place) js none)
          ∙ sym (joined
          ∙ ap (λ ws. filter (is_at place) xs ++ ws) (filter_none (is_at place) (all_entries js) none)
          ∙ append-nil (filter (is_at place) xs))
    ]

pub keeps_places : KeepsPlaces
keeps_places js place h = ap (filter (is_at place)) (merged_is js) ∙ folded_keeps_places js place h

abbrev From : ℕ → Entry → Type 0
From n e = n ≤ e.place

later : (n : ℕ) (e : Entry) → From (suc n) e → From n e
later n e h = omega arith

places_from : (n : ℕ) (js : List (List Entry)) → AreOfPlaces n js → All (From n) (all_entries js)
places_from n [] h = All-nil (From n)
places_from n (xs ∷ js) h =
    All-append (From n) xs (all_entries js)
    (All-weaker (λ e. e.place ≡ n) (From n) (λ e same. omega arith) xs h.0)
    (All-weaker (From (suc n)) (From n) (later n) (all_entries js) (places_from (suc n) js h.1))

share_none : (n : ℕ) (js : List (List Entry)) → AreOfPlaces n js → ShareNoPlace js
share_none n [] h = tt
share_none n (xs ∷ js) h = (
  All-weaker (λ e. e.place ≡ n) (λ e. All (λ (f : Entry). e.place ≢ f.place) (all_entries js))
      (λ e here. All-weaker (From (suc n)) (λ f. e.place ≢ f.place) (λ f le same. omega arith) (all_entries js) (places_from (suc n) js h.1))
      xs h.0,
  share_none (suc n) js h.1,
)

journal_at : (n i : ℕ) (js : List (List Entry)) → AreOfPlaces n js → filter (is_at (n + i)) (all_entries js) ≡ get_or js i []
journal_at n i [] h = refl
journal_at n zero (xs ∷ js) h =
    filter-append (is_at (n + 0)) xs (all_entries js)
    ∙ ap (λ ws. ws ++ filter (is_at (n + 0)) (all_entries js))
    (filter_all (is_at (n + 0)) xs (All-weaker (λ e. e.place ≡ n) (λ e. is_at (n + 0) e ≡ true) (λ e same. eq-eqb e.place (n + 0) (omega arith)) xs h.0))
    ∙ ap (λ ws. xs ++ ws)
    (filter_none (is_at (n + 0)) (all_entries js)
    (All-weaker (From (suc n)) (NotAt (n + 0)) (λ e le. ne_eqb e.place (n + 0) (λ same. omega arith)) (all_entries js) (places_from (suc n) js h.1)))
    ∙ append-nil xs
journal_at n (suc i) (xs ∷ js) h =
    filter-append (is_at (n + suc i)) xs (all_entries js)
    ∙ ap (λ ws. ws ++ filter (is_at (n + suc i)) (all_entries js))
    (filter_none (is_at (n + suc i)) xs
    (All-weaker (λ e. e.place ≡ n) (NotAt (n + suc i)) (λ e here. ne_eqb e.place (n + suc i) (λ same. omega arith)) xs h.0))
    ∙ (let same : n + suc i ≡ suc n + i = omega arith in ap (λ m. filter (is_at m) (all_entries js)) same)
    ∙ journal_at (suc n) i js h.1

pub gives_journals_back : GivesJournalsBack
gives_journals_back js k h =
    let share = share_none 1 js h in
    let same : suc k ≡ 1 + k = omega arith in
    (share, keeps_places js (suc k) share ∙ ap (λ m. filter (is_at m) (all_entries js)) same ∙ journal_at 1 k js h)
