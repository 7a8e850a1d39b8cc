-- What the merge of two lists keeps: what holds of each element, what a test finds, and what a view shows.
use Rattle.std.proofs.Common.{◌≡◌, Bool, true, false, cond, List, [], ◌∷◌, map, refl, ◌∙◌, ap}
use Rattle.std.specs.List.{All, filter}
use Rattle.std.proofs.lemmas.Bool.{cond_both}
use Rattle.std.proofs.lemmas.List.Elements.{All-cons, All-head, All-tail}
use Rattle.chorus_merge.specs.Steps.{put_in, merge_by}

-- one element passes over
pub filter_skip : {X : Type 0} → (p : X → Bool) (x : X) (xs : List X) → p x ≡ false → filter p (x ∷ xs) ≡ filter p xs
filter_skip p x xs h = ap (λ b. cond b (x ∷ filter p xs) (filter p xs)) h

pub filter_takes : {X : Type 0} → (p : X → Bool) (x : X) (xs : List X) → p x ≡ true → filter p (x ∷ xs) ≡ x ∷ filter p xs
filter_takes p x xs h = ap (λ b. cond b (x ∷ filter p xs) (filter p xs)) h

pub filter_none : {X : Type 0} → (p : X → Bool) (xs : List X) → All (λ x. p x ≡ false) xs → filter p xs ≡ []
filter_none p [] h = refl
filter_none {X} p (x ∷ xs) h =
    let No : X → Type 0 = λ y. p y ≡ false in
    filter_skip p x xs (All-head No x xs h) ∙ filter_none p xs (All-tail No x xs h)

pub filter_all : {X : Type 0} → (p : X → Bool) (xs : List X) → All (λ x. p x ≡ true) xs → filter p xs ≡ xs
filter_all p [] h = refl
filter_all {X} p (x ∷ xs) h =
    let Yes : X → Type 0 = λ y. p y ≡ true in
    filter_takes p x xs (All-head Yes x xs h) ∙ ap (λ ws. x ∷ ws) (filter_all p xs (All-tail Yes x xs h))

module _ {X : Type 0} (before : X → X → Bool) where
  All-put_in : (P : X → Type 0) (x : X) (after : List X → List X) → P x → ((ys : List X) → All P ys → All P (after ys)) → (ys : List X) → All P ys → All P (put_in before x after ys)
  unfolding put_in
  All-put_in P x after px ih [] h = All-cons P x (after []) px (ih [] h)
  All-put_in P x after px ih (y ∷ ys) h =
      cond_both (before y x) (y ∷ put_in before x after ys) (x ∷ after (y ∷ ys)) (All P)
      (λ _. All-cons P y (put_in before x after ys) (All-head P y ys h) (All-put_in P x after px ih ys (All-tail P y ys h)))
      (λ _. All-cons P x (after (y ∷ ys)) px (ih (y ∷ ys) h))

  pub All-merge_by : (P : X → Type 0) (xs ys : List X) → All P xs → All P ys → All P (merge_by before xs ys)
  unfolding merge_by
  All-merge_by P [] ys a b = b
  All-merge_by P (x ∷ xs) ys a b =
      All-put_in P x (merge_by before xs) (All-head P x xs a) (λ zs h. All-merge_by P xs zs (All-tail P x xs a) h) ys b

  first_put_in : (p : X → Bool) (x : X) (xs : List X) (after : List X → List X) → ((ys : List X) → All (λ y. p y ≡ false) ys → filter p (after ys) ≡ filter p xs) → (ys : List X) → All (λ y. p y ≡ false) ys → filter p (put_in before x after ys) ≡ filter p (x ∷ xs)
  unfolding put_in
  first_put_in p x xs after ih [] h = ap (λ ws. cond (p x) (x ∷ ws) ws) (ih [] h)
  first_put_in p x xs after ih (y ∷ ys) h =
      let No : X → Type 0 = λ w. p w ≡ false in
      cond_both (before y x) (y ∷ put_in before x after ys) (x ∷ after (y ∷ ys)) (λ ws. filter p ws ≡ filter p (x ∷ xs))
      (λ _. filter_skip p y (put_in before x after ys) (All-head No y ys h) ∙ first_put_in p x xs after ih ys (All-tail No y ys h))
      (λ _. ap (λ ws. cond (p x) (x ∷ ws) ws) (ih (y ∷ ys) h))

  -- a test that finds nothing in the second list finds in the merge what it finds in the first
  pub filter_first : (p : X → Bool) (xs ys : List X) → All (λ y. p y ≡ false) ys → filter p (merge_by before xs ys) ≡ filter p xs
  unfolding merge_by
  filter_first p [] ys h = filter_none p ys h
  filter_first p (x ∷ xs) ys h = first_put_in p x xs (merge_by before xs) (filter_first p xs) ys h

  second_put_in : (p : X → Bool) (x : X) (after : List X → List X) → p x ≡ false → ((ys : List X) → filter p (after ys) ≡ filter p ys) → (ys : List X) → filter p (put_in before x after ys) ≡ filter p ys
  unfolding put_in
  second_put_in p x after fails ih [] = filter_skip p x (after []) fails ∙ ih []
  second_put_in p x after fails ih (y ∷ ys) =
      cond_both (before y x) (y ∷ put_in before x after ys) (x ∷ after (y ∷ ys)) (λ ws. filter p ws ≡ filter p (y ∷ ys))
      (λ _. ap (λ ws. cond (p y) (y ∷ ws) ws) (second_put_in p x after fails ih ys))
      (λ _. filter_skip p x (after (y ∷ ys)) fails ∙ ih (y ∷ ys))

  -- and the other way round
  pub filter_second : (p : X → Bool) (xs ys : List X) → All (λ x. p x ≡ false) xs → filter p (merge_by before xs ys) ≡ filter p ys
  unfolding merge_by
  filter_second p [] ys h = refl
  filter_second p (x ∷ xs) ys h =
      let No : X → Type 0 = λ w. p w ≡ false in
      second_put_in p x (merge_by before xs) (All-head No x xs h) (λ zs. filter_second p xs zs (All-tail No x xs h)) ys

-- a view of a choice is the choice of the views
map_cond : {X Y : Type 0} → (f : X → Y) (b : Bool) (us vs : List X) (us' vs' : List Y) → map f us ≡ us' → map f vs ≡ vs' → map f (cond b us vs) ≡ cond b us' vs'
map_cond f true us vs us' vs' h k = h
map_cond f false us vs us' vs' h k = k

module _ {X Y : Type 0} (before : Y → Y → Bool) (f : X → Y) where
  map-put_in : (x : X) (after : List X → List X) (after' : List Y → List Y) → ((ys : List X) → map f (after ys) ≡ after' (map f ys)) → (ys : List X) → map f (put_in (λ a b. before (f a) (f b)) x after ys) ≡ put_in before (f x) after' (map f ys)
  unfolding put_in
  map-put_in x after after' ih [] = ap (λ ws. f x ∷ ws) (ih [])
  map-put_in x after after' ih (y ∷ ys) =
      map_cond f (before (f y) (f x)) (y ∷ put_in (λ a b. before (f a) (f b)) x after ys) (x ∷ after (y ∷ ys)) (f y ∷ put_in before (f x) after' (map f ys)) (f x ∷ after' (map f (y ∷ ys)))
      (ap (λ ws. f y ∷ ws) (map-put_in x after after' ih ys))
      (ap (λ ws. f x ∷ ws) (ih (y ∷ ys)))

  -- merging by what a view shows, and then looking, is merging what it shows
  pub map-merge_by : (xs ys : List X) → map f (merge_by (λ a b. before (f a) (f b)) xs ys) ≡ merge_by before (map f xs) (map f ys)
  unfolding merge_by
  map-merge_by [] ys = refl
  map-merge_by (x ∷ xs) ys = map-put_in x (merge_by (λ a b. before (f a) (f b)) xs) (merge_by before (map f xs)) (map-merge_by xs) ys
