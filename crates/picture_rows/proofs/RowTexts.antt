-- What stands for the entries of a list is what stands for its front and for what stands behind that.
use Rattle.std.proofs.Common.{◌≡◌, ℕ, List, [], ◌∷◌, ◌++◌, reverse, refl, sym, ap, ◌∙◌, append_assoc, append-nil}
use Rattle.std.proofs.lemmas.List.{reverse-append}
use Rattle.chorus_entry.specs.declared.entry.Entry.{Entry}
use Rattle.picture_rows.specs.Shapes.{each_row}

turned : (e : Entry) (xs past : List Entry) → reverse xs ++ e ∷ past ≡ reverse (e ∷ xs) ++ past
turned e xs past = sym (ap (λ r. r ++ past) (reverse-append (e ∷ []) xs) ∙ append_assoc (reverse xs) (e ∷ []) past)

module _ (part : List Entry → Entry → List ℕ) where
  rows_more : (past xs ys : List Entry) → each_row part past (xs ++ ys) ≡ each_row part past xs ++ each_row part (reverse xs ++ past) ys
  rows_more past [] ys = refl
  rows_more past (e ∷ xs) ys =
      ap (λ t. part past e ++ t) (rows_more (e ∷ past) xs ys)
      ∙ sym (append_assoc (part past e) (each_row part (e ∷ past) xs) (each_row part (reverse xs ++ e ∷ past) ys))
      ∙ ap (λ p. (part past e ++ each_row part (e ∷ past) xs) ++ each_row part p ys) (turned e xs past)

  -- behind these entries one comes next
  pub rows_next : (xs : List Entry) (e : Entry) → each_row part [] (xs ++ e ∷ []) ≡ each_row part [] xs ++ part (reverse xs) e
  rows_next xs e =
      rows_more [] xs (e ∷ []) ∙ ap (λ p. each_row part [] xs ++ each_row part p (e ∷ [])) (append-nil (reverse xs))
      ∙ ap (λ t. each_row part [] xs ++ t) (append-nil (part (reverse xs) e))
