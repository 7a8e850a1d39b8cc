-- The merge of two lists: its steps, its length, and that merges may be grouped as one likes.
use Rattle.std.proofs.Common.{ℕ, suc, ◌≡◌, ◌+◌, Bool, true, false, List, [], ◌∷◌, length, refl, sym, ◌∙◌, ap, inl, inr, arith}
use Rattle.std.proofs.lemmas.Bool.{cond-true, cond-false, cond_both, cases_Bool}
use Rattle.chorus_merge.specs.Steps.{put_in, merge_by}
use Rattle.chorus_merge.proofs.Order.{IsLevelled}

module _ {X : Type 0} (before : X → X → Bool) where
  pub merge_by-nil_left : (ys : List X) → merge_by before [] ys ≡ ys
  unfolding merge_by
  merge_by-nil_left ys = refl

  pub merge_by-nil : (xs : List X) → merge_by before xs [] ≡ xs
  unfolding merge_by put_in
  merge_by-nil [] = refl
  merge_by-nil (x ∷ xs) = ap (λ ws. x ∷ ws) (merge_by-nil xs)

  pub merge_by-second : (x y : X) (xs ys : List X) → before y x ≡ true → merge_by before (x ∷ xs) (y ∷ ys) ≡ y ∷ merge_by before (x ∷ xs) ys
  unfolding merge_by put_in
  merge_by-second x y xs ys h = cond-true (before y x) (y ∷ merge_by before (x ∷ xs) ys) (x ∷ merge_by before xs (y ∷ ys)) h

  pub merge_by-first : (x y : X) (xs ys : List X) → before y x ≡ false → merge_by before (x ∷ xs) (y ∷ ys) ≡ x ∷ merge_by before xs (y ∷ ys)
  unfolding merge_by put_in
  merge_by-first x y xs ys h = cond-false (before y x) (y ∷ merge_by before (x ∷ xs) ys) (x ∷ merge_by before xs (y ∷ ys)) h

  length-put_in : (x : X) (after : List X → List X) (n : ℕ) → ((ys : List X) → length (after ys) ≡ n + length ys) → (ys : List X) → length (put_in before x after ys) ≡ suc n + length ys
  unfolding put_in
  length-put_in x after n h [] = (let e = h [] in omega (arith, e))
  length-put_in x after n h (y ∷ ys) =
      cond_both (before y x) (y ∷ put_in before x after ys) (x ∷ after (y ∷ ys)) (λ ws. length ws ≡ suc n + length (y ∷ ys))
      (λ _. let e = length-put_in x after n h ys in omega (arith, e))
      (λ _. let e = h (y ∷ ys) in omega (arith, e))

  pub length-merge_by : (xs ys : List X) → length (merge_by before xs ys) ≡ length xs + length ys
  unfolding merge_by
  length-merge_by [] ys = omega arith
  length-merge_by (x ∷ xs) ys = length-put_in x (merge_by before xs) (length xs) (length-merge_by xs) ys

  -- merging the last two of three lists first, or the first two
  abbrev Groups : List X → List X → List X → Type 0
  Groups xs ys zs = merge_by before xs (merge_by before ys zs) ≡ merge_by before (merge_by before xs ys) zs

  last_first : IsLevelled before → (x y z : X) (xs ys zs : List X) → before y x ≡ true → before z y ≡ true → Groups (x ∷ xs) (y ∷ ys) zs → Groups (x ∷ xs) (y ∷ ys) (z ∷ zs)
  last_first o x y z xs ys zs yx zy ih =
      let e1 = merge_by-second y z ys zs zy in
      let e2 = merge_by-second x z xs (merge_by before (y ∷ ys) zs) (o.on z y x zy yx) in
      let e3 = merge_by-second x y xs ys yx in
      let e4 = merge_by-second y z (merge_by before (x ∷ xs) ys) zs zy in
      cc

  middle_first : (x y z : X) (xs ys zs : List X) → before y x ≡ true → before z y ≡ false → Groups (x ∷ xs) ys (z ∷ zs) → Groups (x ∷ xs) (y ∷ ys) (z ∷ zs)
  middle_first x y z xs ys zs yx zy ih =
      let e1 = merge_by-first y z ys zs zy in
      let e2 = merge_by-second x y xs (merge_by before ys (z ∷ zs)) yx in
      let e3 = merge_by-second x y xs ys yx in
      let e4 = merge_by-first y z (merge_by before (x ∷ xs) ys) zs zy in
      cc

  last_before_first : (x y z : X) (xs ys zs : List X) → before y x ≡ false → before z y ≡ true → before z x ≡ true → Groups (x ∷ xs) (y ∷ ys) zs → Groups (x ∷ xs) (y ∷ ys) (z ∷ zs)
  last_before_first x y z xs ys zs yx zy zx ih =
      let e1 = merge_by-second y z ys zs zy in
      let e2 = merge_by-second x z xs (merge_by before (y ∷ ys) zs) zx in
      let e3 = merge_by-first x y xs ys yx in
      let e4 = merge_by-second x z (merge_by before xs (y ∷ ys)) zs zx in
      cc

  first_then_last : (x y z : X) (xs ys zs : List X) → before y x ≡ false → before z y ≡ true → before z x ≡ false → Groups xs (y ∷ ys) (z ∷ zs) → Groups (x ∷ xs) (y ∷ ys) (z ∷ zs)
  first_then_last x y z xs ys zs yx zy zx ih =
      let e1 = merge_by-second y z ys zs zy in
      let e2 = merge_by-first x z xs (merge_by before (y ∷ ys) zs) zx in
      let e3 = merge_by-first x y xs ys yx in
      let e4 = merge_by-first x z (merge_by before xs (y ∷ ys)) zs zx in
      cc

  first_then_middle : IsLevelled before → (x y z : X) (xs ys zs : List X) → before y x ≡ false → before z y ≡ false → Groups xs (y ∷ ys) (z ∷ zs) → Groups (x ∷ xs) (y ∷ ys) (z ∷ zs)
  first_then_middle o x y z xs ys zs yx zy ih =
      let e1 = merge_by-first y z ys zs zy in
      let e2 = merge_by-first x y xs (merge_by before ys (z ∷ zs)) yx in
      let e3 = merge_by-first x y xs ys yx in
      let e4 = merge_by-first x z (merge_by before xs (y ∷ ys)) zs (o.back z y x zy yx) in
      cc

  all_three : IsLevelled before → (x y z : X) (xs ys zs : List X) → Groups xs (y ∷ ys) (z ∷ zs) → Groups (x ∷ xs) ys (z ∷ zs) → Groups (x ∷ xs) (y ∷ ys) zs → Groups (x ∷ xs) (y ∷ ys) (z ∷ zs)
  all_three o x y z xs ys zs a b c =
      elim (cases_Bool (before y x)) [
        | inl yx ↦ elim (cases_Bool (before z y)) [
          | inl zy ↦ last_first o x y z xs ys zs yx zy c
          | inr zy ↦ middle_first x y z xs ys zs yx zy b
        ]
        | inr yx ↦ elim (cases_Bool (before z y)) [
          | inl zy ↦ elim (cases_Bool (before z x)) [
            | inl zx ↦ last_before_first x y z xs ys zs yx zy zx c
            | inr zx ↦ first_then_last x y z xs ys zs yx zy zx a
          ]
          | inr zy ↦ first_then_middle o x y z xs ys zs yx zy a
        ]
      ]

  along_last : IsLevelled before → (x y : X) (xs ys : List X) → ((ys zs : List X) → Groups xs ys zs) → ((zs : List X) → Groups (x ∷ xs) ys zs) → (zs : List X) → Groups (x ∷ xs) (y ∷ ys) zs
  along_last o x y xs ys a b [] =
      ap (merge_by before (x ∷ xs)) (merge_by-nil (y ∷ ys)) ∙ sym (merge_by-nil (merge_by before (x ∷ xs) (y ∷ ys)))
  along_last o x y xs ys a b (z ∷ zs) =
      all_three o x y z xs ys zs (a (y ∷ ys) (z ∷ zs)) (b (z ∷ zs)) (along_last o x y xs ys a b zs)

  along_middle : IsLevelled before → (x : X) (xs : List X) → ((ys zs : List X) → Groups xs ys zs) → (ys zs : List X) → Groups (x ∷ xs) ys zs
  along_middle o x xs a [] zs =
      ap (merge_by before (x ∷ xs)) (merge_by-nil_left zs) ∙ sym (ap (λ ws. merge_by before ws zs) (merge_by-nil (x ∷ xs)))
  along_middle o x xs a (y ∷ ys) zs = along_last o x y xs ys a (along_middle o x xs a ys) zs

  pub merge_by-assoc : IsLevelled before → (xs ys zs : List X) → Groups xs ys zs
  merge_by-assoc o [] ys zs =
      merge_by-nil_left (merge_by before ys zs) ∙ sym (ap (λ ws. merge_by before ws zs) (merge_by-nil_left ys))
  merge_by-assoc o (x ∷ xs) ys zs = along_middle o x xs (merge_by-assoc o xs) ys zs
