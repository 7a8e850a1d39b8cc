-- Lists at a place, and beginnings of one list, of which the longest begins with the others.
use Rattle.std.proofs.Common.{◌≡◌, ◌≢◌, ℕ, zero, suc, eqb, true, false, cond, List, [], ◌∷◌, ◌++◌, sym, refl, ap, ◌∙◌, append-nil, append_assoc, eq-eqb, ne_eqb}
use Rattle.chorus_turn.specs.Lists.{StartsWith, list_at, list_put, is_longer, longer, all_longer}

module _ {A : Type 0} where
  pub list_at-nil : (k : ℕ) → list_at {A = A} k [] ≡ []
  list_at-nil zero = refl
  list_at-nil (suc k) = refl

  pub put_here : (k : ℕ) (l : List A) (row : List (List A)) → list_at k (list_put k l row) ≡ l
  put_here zero l [] = refl
  put_here zero l (x ∷ row) = refl
  put_here (suc k) l [] = put_here k l []
  put_here (suc k) l (x ∷ row) = put_here k l row

  pub put_elsewhere : (k j : ℕ) (l : List A) (row : List (List A)) → j ≢ k → list_at j (list_put k l row) ≡ list_at j row
  put_elsewhere zero zero l row apart = absurd (apart refl)
  put_elsewhere zero (suc j) l [] apart = list_at-nil j
  put_elsewhere zero (suc j) l (x ∷ row) apart = refl
  put_elsewhere (suc k) zero l [] apart = refl
  put_elsewhere (suc k) zero l (x ∷ row) apart = refl
  put_elsewhere (suc k) (suc j) l [] apart = put_elsewhere k j l [] (λ e. apart (ap suc e)) ∙ list_at-nil j
  put_elsewhere (suc k) (suc j) l (x ∷ row) apart = put_elsewhere k j l row (λ e. apart (ap suc e))

  pub starts_itself : (l : List A) → StartsWith l l
  starts_itself l = ([], sym (append-nil l))

  pub starts_empty : (k : ℕ) (l : List A) → StartsWith l (list_at k [])
  starts_empty k l = (l, ap (λ m. m ++ l) (sym (list_at-nil k)))

  pub starts_more : (all front more : List A) → StartsWith all front → StartsWith (all ++ more) front
  starts_more all front more s = (s.0 ++ more, ap (λ l. l ++ more) s.1 ∙ append_assoc front s.0 more)

  pub starts_same : (l m front : List A) → m ≡ l → StartsWith l front → StartsWith m front
  starts_same l m front e s = (s.0, e ∙ s.1)

  pub longer_starts : (all x y : List A) → StartsWith all x → StartsWith all y → StartsWith all (longer x y)
  longer_starts all x y a b = elim (is_longer y x) as (λ t. StartsWith all (cond t y x)) [ true ↦ b | false ↦ a ]

  longer-nil : (y : List A) → longer [] y ≡ y
  longer-nil [] = refl
  longer-nil (b ∷ y) = refl

  pub list_at-longer : (k : ℕ) (xs ys : List (List A)) → list_at k (all_longer xs ys) ≡ longer (list_at k xs) (list_at k ys)
  list_at-longer zero [] ys = sym (longer-nil (list_at zero ys))
  list_at-longer (suc k) [] ys = sym (longer-nil (list_at (suc k) ys))
  list_at-longer zero (x ∷ xs) [] = refl
  list_at-longer (suc k) (x ∷ xs) [] = refl
  list_at-longer zero (x ∷ xs) (y ∷ ys) = refl
  list_at-longer (suc k) (x ∷ xs) (y ∷ ys) = list_at-longer k xs ys

  abbrev head_of : A → List A → A
  head_of d [] = d
  head_of d (x ∷ xs) = x

  abbrev tail_of : List A → List A
  tail_of [] = []
  tail_of (x ∷ xs) = xs

  longer-cons : (a b : A) (x y : List A) → a ≡ b → longer (a ∷ x) (b ∷ y) ≡ a ∷ longer x y
  longer-cons a b x y e = elim (is_longer y x) as (λ t. cond t (b ∷ y) (a ∷ x) ≡ a ∷ cond t y x) [ true ↦ ap (λ c. c ∷ y) (sym e) | false ↦ refl ]

  starts_cons : (a c : A) (l front : List A) → a ≡ c → StartsWith l front → StartsWith (a ∷ l) (c ∷ front)
  starts_cons a c l front e s = (s.0, λ i. e i ∷ s.1 i)

  -- the longer of two beginnings of one list begins with both
  pub longer_of_fronts : (x y r t : List A) → x ++ r ≡ y ++ t → StartsWith (longer x y) x × StartsWith (longer x y) y
  longer_of_fronts [] y r t e = ((longer [] y, refl), starts_same y (longer [] y) y (longer-nil y) (starts_itself y))
  longer_of_fronts (a ∷ x) [] r t e = (starts_itself (a ∷ x), (a ∷ x, refl))
  longer_of_fronts (a ∷ x) (b ∷ y) r t e = let same : a ≡ b = ap (head_of a) e in let both = longer_of_fronts x y r t (ap tail_of e) in let is = longer-cons a b x y same in
      (starts_same (a ∷ longer x y) (longer (a ∷ x) (b ∷ y)) (a ∷ x) is (starts_cons a a (longer x y) x refl both.0), starts_same (a ∷ longer x y) (longer (a ∷ x) (b ∷ y)) (b ∷ y) is (starts_cons a b (longer x y) y same both.1))

  -- a function that is changed at one number
  abbrev pub changed : ℕ → A → (ℕ → A) → ℕ → A
  changed h x f q = cond (eqb q h) x (f q)

  pub changed_here : (h q : ℕ) (x : A) (f : ℕ → A) → q ≡ h → changed h x f q ≡ x
  changed_here h q x f e = ap (λ b. cond b x (f q)) (eq-eqb q h e)

  pub changed_elsewhere : (h q : ℕ) (x : A) (f : ℕ → A) → q ≢ h → changed h x f q ≡ f q
  changed_elsewhere h q x f apart = ap (λ b. cond b x (f q)) (ne_eqb q h apart)
