-- The merge of the journals with their entries numbered by journal shows that each journal keeps its order.
use Rattle.std.proofs.Common.{ℕ, zero, suc, ◌≡◌, ◌+◌, ◌≤◌, Bool, false, true, List, [], ◌∷◌, map, eqb, get_or, refl, sym, ◌∙◌, ap, arith}
use Rattle.std.specs.List.{All, filter}
use Rattle.std.proofs.lemmas.Bool.{ne_eqb, eq-eqb}
use Rattle.std.proofs.lemmas.List.Elements.{All-nil, All-map, All-weaker}
use Rattle.chorus_entry.specs.declared.entry.Entry.{Entry}
use Rattle.chorus_entry.specs.Order.{comes_before}
use Rattle.chorus_merge.specs.Steps.{merge_by}
use Rattle.chorus_merge.specs.Laws.{Numbered, KeepsJournals}
use Rattle.chorus_merge.proofs.Folds.{folded, merged_is}
use Rattle.chorus_merge.proofs.Kept.{All-merge_by, filter_first, filter_second, filter_all, map-merge_by}

abbrev label : ℕ → Entry → Numbered
label k e = record { journal = k; entry = e }

abbrev shown : Numbered → Entry
shown n = n.entry

abbrev earlier : Numbered → Numbered → Bool
earlier a b = comes_before (shown a) (shown b)

-- the merge of numbered journals, the first of which has number k
abbrev numbered_from : ℕ → List (List Entry) → List Numbered
numbered_from k [] = []
numbered_from k (xs ∷ js) = merge_by earlier (map (label k) xs) (numbered_from (suc k) js)

shown-label : (k : ℕ) (xs : List Entry) → map shown (map (label k) xs) ≡ xs
shown-label k [] = refl
shown-label k (x ∷ xs) = ap (λ ws. x ∷ ws) (shown-label k xs)

shown-numbered : (k : ℕ) (js : List (List Entry)) → map shown (numbered_from k js) ≡ folded js
shown-numbered k [] = refl
shown-numbered k (xs ∷ js) =
    map-merge_by comes_before shown (map (label k) xs) (numbered_from (suc k) js)
    ∙ ap (λ ws. merge_by comes_before ws (map shown (numbered_from (suc k) js))) (shown-label k xs)
    ∙ ap (merge_by comes_before xs) (shown-numbered (suc k) js)

abbrev From : ℕ → Numbered → Type 0
From k n = k ≤ n.journal

later : (k : ℕ) (n : Numbered) → From (suc k) n → From k n
later k n h = omega arith

from_k : (k : ℕ) (js : List (List Entry)) → All (From k) (numbered_from k js)
from_k k [] = All-nil (From k)
from_k k (xs ∷ js) =
    All-merge_by earlier (From k) (map (label k) xs) (numbered_from (suc k) js)
    (All-map (From k) (label k) xs (λ i d lt. omega arith))
    (All-weaker (From (suc k)) (From k) (later k) (numbered_from (suc k) js) (from_k (suc k) js))

abbrev is_of : ℕ → Numbered → Bool
is_of k n = eqb n.journal k

not_of : (k m : ℕ) (n : Numbered) → m ≡ k → From (suc k) n → is_of m n ≡ false
not_of k m n e h = ne_eqb n.journal m (λ same. omega arith)

part : (k i : ℕ) (js : List (List Entry)) → map shown (filter (is_of (k + i)) (numbered_from k js)) ≡ get_or js i []
part k i [] = refl
part k zero (xs ∷ js) =
    ap (map shown)
    (filter_first earlier (is_of (k + 0)) (map (label k) xs) (numbered_from (suc k) js)
    (All-weaker (From (suc k)) (λ n. is_of (k + 0) n ≡ false) (λ n h. not_of k (k + 0) n (omega arith) h) (numbered_from (suc k) js) (from_k (suc k) js))
    ∙ filter_all (is_of (k + 0)) (map (label k) xs)
    (All-map (λ n. is_of (k + 0) n ≡ true) (label k) xs (λ i d lt. eq-eqb k (k + 0) (omega arith))))
    ∙ shown-label k xs
part k (suc i) (xs ∷ js) =
    ap (map shown)
    (filter_second earlier (is_of (k + suc i)) (map (label k) xs) (numbered_from (suc k) js)
    (All-map (λ n. is_of (k + suc i) n ≡ false) (label k) xs (λ j d lt. ne_eqb k (k + suc i) (λ same. omega arith))))
    ∙ (let same : k + suc i ≡ suc k + i = omega arith in ap (λ m. map shown (filter (is_of m) (numbered_from (suc k) js))) same)
    ∙ part (suc k) i js

pub keeps_journals : KeepsJournals
keeps_journals js =
    record {
      numbered = numbered_from 0 js;
      whole = shown-numbered 0 js ∙ sym (merged_is js);
      parts = λ k.
          let same : k ≡ 0 + k = omega arith in
          ap (λ m. map shown (filter (is_of m) (numbered_from 0 js))) same ∙ part 0 k js;
    }
