-- Plain lists, tests and functions.
use Rattle.std.proofs.Common.{ℕ, ◌≡◌, Bool, true, false, ◌&&◌, cond, List, [], ◌∷◌, ◌++◌, reverse, flat_map, eqb, refl, sym, ◌∙◌, ap, subst, inl, inr}
use Rattle.std.specs.List.{All, filter}
use Rattle.std.proofs.lemmas.Bool.{cases_Bool, eq-eqb, both_ways}
use Rattle.std.proofs.lemmas.List.{append_assoc, append_cancel_left, reverse-append}
use Rattle.std.proofs.lemmas.List.Elements.{All-nil, All-cons, All-head, All-tail}
use Rattle.law_history.specs.Network.{set}

module _ {X : Type 0} where
  pub filter_skip : (p : X → Bool) (x : X) (xs : List X) → p x ≡ false → filter p (x ∷ xs) ≡ filter p xs
  filter_skip p x xs h = ap (λ b. cond b (x ∷ filter p xs) (filter p xs)) h

  pub filter_takes : (p : X → Bool) (x : X) (xs : List X) → p x ≡ true → filter p (x ∷ xs) ≡ x ∷ filter p xs
  filter_takes p x xs h = ap (λ b. cond b (x ∷ filter p xs) (filter p xs)) h

  pub filter_none : (p : X → Bool) (xs : List X) → All (λ x. p x ≡ false) xs → filter p xs ≡ []
  filter_none p [] h = refl
  filter_none p (x ∷ xs) h =
      let No : X → Type 0 = λ y. p y ≡ false in
      filter_skip p x xs (All-head No x xs h) ∙ filter_none p xs (All-tail No x xs h)

  pub filter_all : (p : X → Bool) (xs : List X) → All (λ x. p x ≡ true) xs → filter p xs ≡ xs
  filter_all p [] h = refl
  filter_all p (x ∷ xs) h =
      let Yes : X → Type 0 = λ y. p y ≡ true in
      filter_takes p x xs (All-head Yes x xs h) ∙ ap (λ ws. x ∷ ws) (filter_all p xs (All-tail Yes x xs h))

  -- a test of a list that is chosen by another test
  filter_choice : (p q : X → Bool) (x : X) (ys zs : List X) → filter p ys ≡ filter q zs → (b c : Bool) → cond b (cond c (x ∷ filter p ys) (filter p ys)) (filter p ys) ≡ cond c (cond b (x ∷ filter q zs) (filter q zs)) (filter q zs)
  filter_choice p q x ys zs e true true = ap (λ ws. x ∷ ws) e
  filter_choice p q x ys zs e true false = e
  filter_choice p q x ys zs e false true = e
  filter_choice p q x ys zs e false false = e

  filter-cond : (p : X → Bool) (b : Bool) (xs ys : List X) → filter p (cond b xs ys) ≡ cond b (filter p xs) (filter p ys)
  filter-cond p true xs ys = refl
  filter-cond p false xs ys = refl

  pub filter_swap : (p q : X → Bool) (xs : List X) → filter p (filter q xs) ≡ filter q (filter p xs)
  filter_swap p q [] = refl
  filter_swap p q (x ∷ xs) =
      filter-cond p (q x) (x ∷ filter q xs) (filter q xs) ∙ filter_choice p q x (filter q xs) (filter p xs) (filter_swap p q xs) (q x) (p x)
      ∙ sym (filter-cond q (p x) (x ∷ filter p xs) (filter p xs))

  -- what holds of each element that a test finds
  pub All_where : (P : X → Type 0) (p : X → Bool) (xs : List X) → All P (filter p xs) → All (λ x. p x ≡ true → P x) xs
  All_where P p [] h = All-nil (λ x. p x ≡ true → P x)
  All_where P p (x ∷ xs) h =
      elim (cases_Bool (p x)) [
        | inl is ↦
            (let both : All P (x ∷ filter p xs) = subst (All P) (filter_takes p x xs is) h in
            All-cons (λ x. p x ≡ true → P x) x xs (λ _. All-head P x (filter p xs) both) (All_where P p xs (All-tail P x (filter p xs) both)))
        | inr not_so ↦
            All-cons (λ x. p x ≡ true → P x) x xs (λ is. absurd (both_ways (p x) not_so is)) (All_where P p xs (subst (All P) (filter_skip p x xs not_so) h))
      ]

  pub flat_map-append : {Y : Type 0} (f : X → List Y) (xs ys : List X) → flat_map f (xs ++ ys) ≡ flat_map f xs ++ flat_map f ys
  flat_map-append f [] ys = refl
  flat_map-append f (x ∷ xs) ys = ap (λ ws. f x ++ ws) (flat_map-append f xs ys) ∙ sym (append_assoc (f x) (flat_map f xs) (flat_map f ys))

module _ {A : Type 0} where
  pub set_here : (p : ℕ) (x : A) (f : ℕ → A) (q : ℕ) → eqb p q ≡ true → set p x f q ≡ x
  set_here p x f q h = ap (λ b. cond b x (f q)) h

  pub set_else : (p : ℕ) (x : A) (f : ℕ → A) (q : ℕ) → eqb p q ≡ false → set p x f q ≡ f q
  set_else p x f q h = ap (λ b. cond b x (f q)) h

pub eqb_same : (p : ℕ) → eqb p p ≡ true
eqb_same p = eq-eqb p p refl

module _ {X : Type 0} where
  pub flat_map-cond : {Y : Type 0} (f : X → List Y) (b : Bool) (x : X) (xs : List X) → flat_map f (cond b (x ∷ xs) xs) ≡ cond b (f x) [] ++ flat_map f xs
  flat_map-cond f true x xs = refl
  flat_map-cond f false x xs = refl

  pub append_choice : (b : Bool) (l u r : List X) → cond b (l ++ u) l ++ r ≡ l ++ (cond b u [] ++ r)
  append_choice true l u r = append_assoc l u r
  append_choice false l u r = refl

  pub cancel_front : (g l u o c : List X) → (g ++ l) ++ u ≡ (g ++ o) ++ c → l ++ u ≡ o ++ c
  cancel_front g l u o c h = append_cancel_left g (l ++ u) (o ++ c) (sym (append_assoc g l u) ∙ h ∙ append_assoc g o c)

  -- a list of which one element is taken out of the front, if both tests say so
  pub split_choice : (u v : Bool) (k : X) (ks ls : List X) → (u ≡ true → v ≡ true → ls ≡ k ∷ ks) → ls ≡ cond u (cond v (k ∷ []) []) [] ++ cond (v && u) ks ls
  split_choice true true k ks ls h = h refl refl
  split_choice true false k ks ls h = refl
  split_choice false true k ks ls h = refl
  split_choice false false k ks ls h = refl

  pub nothing_choice : (b : Bool) (ls : List X) → ls ≡ cond b [] [] ++ ls
  nothing_choice true ls = refl
  nothing_choice false ls = refl

  -- the first element comes last in the reverse
  pub reverse-first : (x : X) (xs ys : List X) → reverse (x ∷ xs) ++ ys ≡ reverse xs ++ x ∷ ys
  reverse-first x xs ys = ap (λ zs. zs ++ ys) (reverse-append (x ∷ []) xs) ∙ append_assoc (reverse xs) (x ∷ []) ys
