-- The merge of the journals is their fold by the merge of two lists, so the journals may be merged by halves.
use Rattle.std.proofs.Common.{ℕ, zero, suc, ◌≡◌, ◌<◌, ◌≤◌, get_or, Bool, true, false, not, cond, Some, List, [], ◌∷◌, ◌++◌, length, take, drop, refl, sym, ◌∙◌, ap, subst, arith, length-append}
use Rattle.std.specs.Prelude.{option_to_list, slice_get}
use Rattle.std.specs.Global.{Vec}
use Rattle.std.proofs.lemmas.List.{map-append, take-append-drop}
use Rattle.chorus_entry.specs.declared.entry.Entry.{Entry}
use Rattle.chorus_entry.specs.Order.{comes_before}
use Rattle.chorus_merge.specs.Merge.{leads, least_head, without_least_head, taken, all_entries, merged}
use Rattle.chorus_merge.specs.Steps.{put_in, merge_by, merge_two, journals_of}
use Rattle.chorus_merge.proofs.Order.{comes_before-levelled}
use Rattle.chorus_merge.proofs.Merges.{merge_by-nil_left, merge_by-nil, length-merge_by, merge_by-assoc}

abbrev pub folded : List (List Entry) → List Entry
folded [] = []
folded (xs ∷ js) = merge_two xs (folded js)

-- fs begins with the least head, and the rest of it is the fold of the journals without that
record Begins (js : List (List Entry)) (fs : List Entry) : Type 0 where
  first : least_head js ≡ slice_get fs 0
  rest : folded (without_least_head js) ≡ drop 1 fs

first_of : (e f : Entry) (us vs : List Entry) (b : Bool) → cond (not b) (Some e) (Some f) ≡ slice_get (cond b (f ∷ us) (e ∷ vs)) 0
first_of e f us vs true = refl
first_of e f us vs false = refl

rest_of : (e f : Entry) (us vs : List Entry) (js ks : List (List Entry)) (b : Bool) → folded js ≡ vs → folded ks ≡ us → folded (cond (not b) js ks) ≡ drop 1 (cond b (f ∷ us) (e ∷ vs))
rest_of e f us vs js ks true p q = q
rest_of e f us vs js ks false p q = p

begins_cons : (e : Entry) (es : List Entry) (js : List (List Entry)) (fs : List Entry) → folded js ≡ fs → Begins js fs → Begins ((e ∷ es) ∷ js) (merge_two (e ∷ es) fs)
unfolding merge_by put_in
begins_cons e es js [] q s =
    record {
      first = ap (λ h. cond (leads e h) (Some e) h) s.first;
      rest =
          ap (λ h. folded (cond (leads e h) (es ∷ js) ((e ∷ es) ∷ without_least_head js))) s.first ∙ ap (merge_two es) q;
    }
begins_cons e es js (f ∷ fs) q s =
    record {
      first =
          ap (λ h. cond (leads e h) (Some e) h) s.first
          ∙ first_of e f (merge_two (e ∷ es) fs) (merge_two es (f ∷ fs)) (comes_before f e);
      rest =
          ap (λ h. folded (cond (leads e h) (es ∷ js) ((e ∷ es) ∷ without_least_head js))) s.first
          ∙ rest_of e f (merge_two (e ∷ es) fs) (merge_two es (f ∷ fs)) (es ∷ js) ((e ∷ es) ∷ without_least_head js) (comes_before f e)
          (ap (merge_two es) q)
          (ap (merge_two (e ∷ es)) s.rest);
    }

begins : (js : List (List Entry)) → Begins js (folded js)
unfolding merge_by
begins [] = record { first = refl; rest = refl }
begins ([] ∷ js) = (let s = begins js in record { first = s.first; rest = s.rest })
begins ((e ∷ es) ∷ js) = begins_cons e es js (folded js) refl (begins js)

taken_is : (n : ℕ) (js : List (List Entry)) (fs : List Entry) → Begins js fs → length fs ≡ n → taken n js ≡ fs
taken_is zero js [] s l = refl
taken_is zero js (f ∷ fs) s l = absurd (omega (arith, l))
taken_is (suc n) js [] s l = absurd (omega (arith, l))
taken_is (suc n) js (f ∷ fs) s l =
    let P : List Entry → Type 0 = λ ws. Begins (without_least_head js) ws in
    ap (λ h. option_to_list h ++ taken n (without_least_head js)) s.first
    ∙ ap (λ ws. f ∷ ws) (taken_is n (without_least_head js) fs (subst P s.rest (begins (without_least_head js))) (omega (arith, l)))

length-folded : (js : List (List Entry)) → length (folded js) ≡ length (all_entries js)
length-folded [] = refl
length-folded (xs ∷ js) =
    let a = length-merge_by comes_before xs (folded js) in
    let b = length-append xs (all_entries js) in
    let c = length-folded js in
    omega (arith, a, b, c)

pub merged_is : (js : List (List Entry)) → merged js ≡ folded js
merged_is js = taken_is (length (all_entries js)) js (folded js) (begins js) (length-folded js)

folded-append : (js ks : List (List Entry)) → folded (js ++ ks) ≡ merge_two (folded js) (folded ks)
folded-append [] ks = sym (merge_by-nil_left comes_before (folded ks))
folded-append (xs ∷ js) ks =
    ap (merge_two xs) (folded-append js ks) ∙ merge_by-assoc comes_before comes_before-levelled xs (folded js) (folded ks)

pub merged-append : (js ks : List (List Entry)) → merged (js ++ ks) ≡ merge_two (merged js) (merged ks)
merged-append js ks =
    merged_is (js ++ ks) ∙ folded-append js ks
    ∙ sym (ap (λ ws. merge_two ws (merged ks)) (merged_is js) ∙ ap (merge_two (folded js)) (merged_is ks))

-- the merge of one journal is that journal
pub merged_one : (xs : List Entry) → merged (xs ∷ []) ≡ xs
merged_one xs = merged_is (xs ∷ []) ∙ merge_by-nil comes_before xs

pub merged_halves : (journals : List (Vec Entry)) (k : ℕ) → merge_two (merged (journals_of (take k journals))) (merged (journals_of (drop k journals))) ≡ merged (journals_of journals)
merged_halves journals k =
    let view : Vec Entry → List Entry = λ j. j.items in
    sym (merged-append (journals_of (take k journals)) (journals_of (drop k journals)))
    ∙ ap merged (sym (map-append view (take k journals) (drop k journals)) ∙ ap journals_of (take-append-drop k journals))

-- a list of one journal, as a pattern finds it
pub merged_single : (journals : List (Vec Entry)) (journal : Vec Entry) → 1 ≤ length journals → length journals < 2 → journal ≡ get_or journals 0 journal → journal.items ≡ merged (journals_of journals)
merged_single [] journal low high is = absurd (omega (arith, low))
merged_single (x ∷ []) journal low high is = (let view : Vec Entry → List Entry = λ j. j.items in ap view is ∙ sym (merged_one x.items))
merged_single (x ∷ y ∷ rest) journal low high is = absurd (omega (arith, high))
