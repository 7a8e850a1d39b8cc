-- Lists, and rows of lists of which each is empty beyond the end.
use Rattle.std.specs.Prelude.{◌≡◌, ℕ, zero, suc, ◌+◌, ◌==◌, Bool, true, false, if◌then◌else◌, Option, Some, List, [], ◌∷◌, ◌++◌, map}

module _ {A : Type 0} where
  -- the list begins with the front
  abbrev pub StartsWith : List A → List A → Type 0
  StartsWith list front = (rest : List A) × (list ≡ front ++ rest)

  -- the list at k
  abbrev pub list_at : ℕ → List (List A) → List A
  list_at k [] = []
  list_at zero (l ∷ row) = l
  list_at (suc k) (l ∷ row) = list_at k row

  -- the row with another list at k
  abbrev pub list_put : ℕ → List A → List (List A) → List (List A)
  list_put zero new [] = new ∷ []
  list_put zero new (l ∷ row) = new ∷ row
  list_put (suc k) new [] = [] ∷ list_put k new []
  list_put (suc k) new (l ∷ row) = l ∷ list_put k new row

  -- the first has more elements
  abbrev pub is_longer : List A → List A → Bool
  is_longer [] ys = false
  is_longer (x ∷ xs) [] = true
  is_longer (x ∷ xs) (y ∷ ys) = is_longer xs ys

  abbrev pub longer : List A → List A → List A
  longer xs ys = if is_longer ys xs then ys else xs

  -- at each k the longer list
  abbrev pub all_longer : List (List A) → List (List A) → List (List A)
  all_longer [] ys = ys
  all_longer (x ∷ xs) [] = x ∷ xs
  all_longer (x ∷ xs) (y ∷ ys) = longer x y ∷ all_longer xs ys

  -- at each k the list of the row begins with the list of either front
  abbrev pub StartsWithBoth : List (List A) → List (List A) → List (List A) → Type 0
  StartsWithBoth row first second =
      (k : ℕ) → StartsWith (list_at k row) (list_at k first) × StartsWith (list_at k row) (list_at k second)

  -- slots that are all full
  abbrev pub somes : List A → List (Option A)
  somes xs = map (λ x. Some x) xs

  abbrev pub AreFull : List (Option A) → Type 0
  AreFull slots = (xs : List A) × (slots ≡ somes xs)

  abbrev pub first_or : A → List A → A
  first_or d [] = d
  first_or d (x ∷ xs) = x

  -- the sum of a number of each element
  abbrev pub total : (A → ℕ) → List A → ℕ
  total f [] = 0
  total f (x ∷ xs) = f x + total f xs

abbrev pub one : Bool → ℕ
one true = 1
one false = 0

-- how often x stands in the list
abbrev pub times : ℕ → List ℕ → ℕ
times x [] = 0
times x (y ∷ ys) = one (y == x) + times x ys
