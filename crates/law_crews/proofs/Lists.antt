-- What stands in a list.
-- x and y are elements, xs and ys are lists, i is an index.
use Rattle.std.proofs.Common.{ℕ, zero, suc, ◌≡◌, ◌<◌, ◌⊎◌, inl, inr, Bool, true, false, cond, List, [], ◌∷◌, ◌++◌, map, length, reverse, Some, slice_get, slice_index_or, refl, sym, ◌∙◌, ap, subst, arith}
use Rattle.std.specs.List.{All, filter}
use Rattle.std.proofs.lemmas.List.{reverse-append}
use Rattle.std.proofs.lemmas.List.Elements.{All-head, All-tail}

module _ {X : Type 0} where
  abbrev pub In : X → List X → Type 0
  In x [] = ⊥
  In x (y ∷ ys) = (y ≡ x) ⊎ In x ys

  pub in-front : (x : X) (xs ys : List X) → In x xs → In x (xs ++ ys)
  in-front x [] ys a = absurd a
  in-front x (y ∷ xs) ys (inl is) = inl is
  in-front x (y ∷ xs) ys (inr a) = inr (in-front x xs ys a)

  pub in-back : (x : X) (xs ys : List X) → In x ys → In x (xs ++ ys)
  in-back x [] ys a = a
  in-back x (y ∷ xs) ys a = inr (in-back x xs ys a)

  pub in-filter-back : (p : X → Bool) (x : X) (xs : List X) → In x (filter p xs) → In x xs
  in-filter-back p x [] a = absurd a
  in-filter-back p x (y ∷ xs) a = go (p y) (in-filter-back p x xs) a
    where
      go : (b : Bool) → (In x (filter p xs) → In x xs) → In x (cond b (y ∷ filter p xs) (filter p xs)) → In x (y ∷ xs)
      go true back (inl is) = inl is
      go true back (inr more) = inr (back more)
      go false back more = inr (back more)

  pub in-filter-holds : (p : X → Bool) (x : X) (xs : List X) → In x (filter p xs) → p x ≡ true
  in-filter-holds p x [] a = absurd a
  in-filter-holds p x (y ∷ xs) a = go (p y) refl (in-filter-holds p x xs) a
    where
      go : (b : Bool) → p y ≡ b → (In x (filter p xs) → p x ≡ true) → In x (cond b (y ∷ filter p xs) (filter p xs)) → p x ≡ true
      go true h back (inl is) = ap p (sym is) ∙ h
      go true h back (inr more) = back more
      go false h back more = back more

  pub in-filter : (p : X → Bool) (x : X) (xs : List X) → p x ≡ true → In x xs → In x (filter p xs)
  in-filter p x [] h a = absurd a
  in-filter p x (y ∷ xs) h (inl is) = subst (λ b. In x (cond b (y ∷ filter p xs) (filter p xs))) (sym (ap p is ∙ h)) (inl is)
  in-filter p x (y ∷ xs) h (inr a) = go (p y) (in-filter p x xs h a)
    where
      go : (b : Bool) → In x (filter p xs) → In x (cond b (y ∷ filter p xs) (filter p xs))
      go true there = inr there
      go false there = there

  pub all-in : (P : X → Type 0) (x : X) (xs : List X) → All P xs → In x xs → P x
  all-in P x [] h a = absurd a
  all-in P x (y ∷ xs) h (inl is) = subst P is (All-head P y xs h)
  all-in P x (y ∷ xs) h (inr a) = all-in P x xs (All-tail P y xs h) a

  pub all-at : (P : X → Type 0) (newer older : List X) (x : X) → All P (newer ++ x ∷ older) → P x
  all-at P [] older x h = All-head P x older h
  all-at P (y ∷ newer) older x h = all-at P newer older x (All-tail P y (newer ++ x ∷ older) h)

  pub in-reverse : (x : X) (xs : List X) → In x xs → In x (reverse xs)
  in-reverse x [] a = absurd a
  in-reverse x (y ∷ xs) (inl is) = subst (λ zs. In x zs) (sym (reverse-append (y ∷ []) xs)) (in-back x (reverse xs) (y ∷ []) (inl is))
  in-reverse x (y ∷ xs) (inr a) = subst (λ zs. In x zs) (sym (reverse-append (y ∷ []) xs)) (in-front x (reverse xs) (y ∷ []) (in-reverse x xs a))

  -- By index.

  pub get-some : (xs : List X) (i : ℕ) → i < length xs → (x : X) × (slice_get xs i ≡ Some x)
  get-some [] i lt = absurd (omega (arith, lt))
  get-some (y ∷ xs) zero lt = (y, refl)
  get-some (y ∷ xs) (suc i) lt = get-some xs i (omega (arith, lt))

  pub get-or : (xs : List X) (i : ℕ) (x d : X) → slice_get xs i ≡ Some x → slice_index_or xs i d ≡ x
  get-or [] i x d h = absurd (cc)
  get-or (y ∷ xs) zero x d h = let is : y ≡ x = cc in is
  get-or (y ∷ xs) (suc i) x d h = get-or xs i x d h

  pub get-longer : (xs ys : List X) (i : ℕ) (x : X) → slice_get xs i ≡ Some x → slice_get (xs ++ ys) i ≡ Some x
  get-longer [] ys i x h = absurd (cc)
  get-longer (y ∷ xs) ys zero x h = h
  get-longer (y ∷ xs) ys (suc i) x h = get-longer xs ys i x h

pub in-map : {X Y : Type 0} (f : X → Y) (x : X) (xs : List X) → In x xs → In (f x) (map f xs)
in-map f x [] a = absurd a
in-map f x (y ∷ xs) (inl is) = inl (ap f is)
in-map f x (y ∷ xs) (inr a) = inr (in-map f x xs a)

pub in-map-back : {X Y : Type 0} (f : X → Y) (y : Y) (xs : List X) → In y (map f xs) → (x : X) × (f x ≡ y) × In x xs
in-map-back f y [] a = absurd a
in-map-back f y (x ∷ xs) (inl is) = (x, is, inl refl)
in-map-back f y (x ∷ xs) (inr a) = let more = in-map-back f y xs a in (more.0, more.1, inr more.2)
