-- Where a claim is met, by the relation of fitting.
-- ps are the words of a fact, ws those of a line, c and d are choices, k is a letter.
use Rattle.std.proofs.Common.{ℕ, ◌≡◌, Bool, true, false, not, ◌&&◌, cond, List, [], ◌∷◌, ◌++◌, Some, None, ◌⊎◌, inl, inr, refl, sym, ◌∙◌, ap, subst}
use Rattle.std.specs.List.{Contains, flat_map, list_all}
use Rattle.std.proofs.lemmas.Bool.{false≢true}
use Rattle.chorus_claims.specs.Pieces.{Piece, Word, Any, Rest, Letter, Choice, chosen, fits, choices, is_none, is_one_so}
use Rattle.chorus_claims.proofs.Lists.{none, here, there, which, in-flat, of-flat}
use Rattle.law_claims.proofs.Fitting.{put, LetterFits, Fit, of-fits, to-fits}

-- The first word of a line that fits.

pub record After (first : List ℕ) (P : List (List ℕ) → Type 0) (ws : List (List ℕ)) : Type 0 where
  pub rest : List (List ℕ)
  pub is : ws ≡ first ∷ rest
  pub so : P rest

pub record AfterAny (P : List ℕ → List (List ℕ) → Type 0) (ws : List (List ℕ)) : Type 0 where
  pub first : List ℕ
  pub rest : List (List ℕ)
  pub is : ws ≡ first ∷ rest
  pub so : P first rest

pub word-first : (v : List ℕ) (ps : List Piece) (ws : List (List ℕ)) (c d : List Choice) → Fit (Word v ∷ ps) ws c d → After v (λ rest. Fit ps rest c d) ws
word-first v ps [] c d h = absurd h
word-first v ps (w ∷ ws) c d h = record { rest = ws; is = ap (λ u. u ∷ ws) (sym h.0); so = h.1 }

pub any-first : (ps : List Piece) (ws : List (List ℕ)) (c d : List Choice) → Fit (Any ∷ ps) ws c d → AfterAny (λ w rest. Fit ps rest c d) ws
any-first ps [] c d h = absurd h
any-first ps (w ∷ ws) c d h = record { first = w; rest = ws; is = refl; so = h }

pub bound-first : (k : ℕ) (same : List ℕ) (ps : List Piece) (ws : List (List ℕ)) (c d : List Choice) → chosen k c ≡ Some same → Fit (Letter k ∷ ps) ws c d → After same (λ rest. Fit ps rest c d) ws
bound-first k same ps [] c d is h = absurd h
bound-first k same ps (w ∷ ws) c d is h =
    let g : (w ≡ same) × Fit ps ws c d = subst (λ o. LetterFits w o (Fit ps ws (put k w c) d) (Fit ps ws c d)) is h in
    record { rest = ws; is = ap (λ u. u ∷ ws) g.0; so = g.1 }

pub free-first : (k : ℕ) (ps : List Piece) (ws : List (List ℕ)) (c d : List Choice) → chosen k c ≡ None → Fit (Letter k ∷ ps) ws c d → AfterAny (λ w rest. Fit ps rest (put k w c) d) ws
free-first k ps [] c d is h = absurd h
free-first k ps (w ∷ ws) c d is h =
    record { first = w; rest = ws; is = refl; so = subst (λ o. LetterFits w o (Fit ps ws (put k w c) d) (Fit ps ws c d)) is h }

pub nothing-left : (ws : List (List ℕ)) (c d : List Choice) → Fit [] ws c d → (ws ≡ []) × (c ≡ d)
nothing-left [] c d h = (refl, h)
nothing-left (w ∷ ws) c d h = absurd h

append-none : (ws : List (List ℕ)) → ws ≡ ws ++ []
append-none [] = refl
append-none (w ∷ ws) = ap (λ vs. w ∷ vs) (append-none ws)

-- `..` at the end
pub to-end : (ws : List (List ℕ)) (c : List Choice) → Fit (Rest ∷ []) ws c c
to-end ws c = record { front = ws; behind = []; is = append-none ws; so = refl }

pub ends-same : (ws : List (List ℕ)) (c d : List Choice) → Fit (Rest ∷ []) ws c d → c ≡ d
ends-same ws c d h = (nothing-left h.behind c d h.so).1

-- All and one.

only-none : (x : List Choice) → Contains ([] ∷ []) x → [] ≡ x
only-none x h = by (which x [] [] h)
  where
    by : ([] ≡ x) ⊎ Contains [] x → [] ≡ x
    by (inl e) = e
    by (inr j) = absurd (none x j)

pub each-so : {X : Type 0} (p : X → Bool) (xs : List X) → list_all p xs ≡ true → (x : X) → Contains xs x → p x ≡ true
each-so p [] all x h = absurd (none x h)
each-so p (z ∷ xs) all x h = by (p z) refl all (which x z xs h) (each-so p xs)
  where
    by : (b : Bool) → p z ≡ b → (b && list_all p xs) ≡ true → (z ≡ x) ⊎ Contains xs x → (list_all p xs ≡ true → (y : _) → Contains xs y → p y ≡ true) → p x ≡ true
    by true e g (inl same) ih = ap p (sym same) ∙ e
    by true e g (inr j) ih = ih g x j
    by false e g w ih = absurd (false≢true g)

pub all-so : {X : Type 0} (p : X → Bool) (xs : List X) → ((x : X) → Contains xs x → p x ≡ true) → list_all p xs ≡ true
all-so p [] each = refl
all-so p (z ∷ xs) each = ap (λ b. b && list_all p xs) (each z (here z xs)) ∙ all-so p xs (λ x h. each x (there x z xs h))

module _ (lines : List (List (List ℕ))) where
  -- a line fits the fact
  pub record SoBy (c : List Choice) (fact : List Piece) : Type 0 where
    pub line : List (List ℕ)
    pub more : List Choice
    pub told : Contains lines line
    pub fit : Fit fact line c more

  abbrev pub OneOf : List Choice → List (List Piece) → Type 0
  OneOf c [] = ⊥
  OneOf c (fact ∷ facts) = SoBy c fact ⊎ OneOf c facts

  abbrev by-line : List Piece → List Choice → List (List Choice)
  by-line f c = flat_map (λ (line : List (List ℕ)). fits f line c) lines

  abbrev of-line : (f : List Piece) (c d : List Choice) → Contains (by-line f c) d → SoBy c f
  of-line f c d h =
      let r = of-flat (λ (line : List (List ℕ)). fits f line c) lines d h in
      record { line = r.0; more = d; told = r.1.0; fit = of-fits f r.0 c d r.1.1 }

  in-line : (f : List Piece) (c : List Choice) (s : SoBy c f) → Contains (by-line f c) s.more
  in-line f c s = in-flat (λ (line : List (List ℕ)). fits f line c) lines s.line s.more s.told (to-fits f s.line c s.more s.fit)

  some-one : (xs : List (List Choice)) → not (is_none xs) ≡ true → (d : List Choice) × Contains xs d
  some-one [] h = absurd (false≢true h)
  some-one (x ∷ xs) h = (x, here x xs)

  not-none : (xs : List (List Choice)) (d : List Choice) → Contains xs d → not (is_none xs) ≡ true
  not-none [] d h = absurd (none d h)
  not-none (x ∷ xs) d h = refl

  pub one-of : (c : List Choice) (facts : List (List Piece)) → is_one_so lines c facts ≡ true → OneOf c facts
  one-of c [] h = absurd (false≢true h)
  one-of c (f ∷ facts) h = by (not (is_none (by-line f c))) refl h (one-of c facts)
    where
      by : (b : Bool) → not (is_none (by-line f c)) ≡ b → cond b true (is_one_so lines c facts) ≡ true → (is_one_so lines c facts ≡ true → OneOf c facts) → SoBy c f ⊎ OneOf c facts
      by true e g ih = let r = some-one (by-line f c) e in inl (of-line f c r.0 r.1)
      by false e g ih = inr (ih g)

  pub is-one : (c : List Choice) (facts : List (List Piece)) → OneOf c facts → is_one_so lines c facts ≡ true
  is-one c [] h = absurd h
  is-one c (f ∷ facts) (inl s) =
      ap (λ b. cond b true (is_one_so lines c facts)) (not-none (by-line f c) s.more (in-line f c s))
  is-one c (f ∷ facts) (inr h) = by (not (is_none (by-line f c))) (is-one c facts h)
    where
      by : (b : Bool) → is_one_so lines c facts ≡ true → cond b true (is_one_so lines c facts) ≡ true
      by true g = refl
      by false g = g

  -- Claims of one fact on the left, and of two.
  module _ (right : List (List Piece)) where
    abbrev so : List Choice → Bool
    so c = is_one_so lines c right

    pub one-met : (f : List Piece) → list_all so (choices (f ∷ []) lines ([] ∷ [])) ≡ true → (s : SoBy [] f) → OneOf s.more right
    one-met f met s =
        one-of s.more right
        (each-so so (choices (f ∷ []) lines ([] ∷ [])) met s.more (in-flat (by-line f) ([] ∷ []) [] s.more (here [] []) (in-line f [] s)))

    abbrev of-none : (f : List Piece) (d : List Choice) → Contains (flat_map (by-line f) ([] ∷ [])) d → SoBy [] f
    of-none f d h =
        let r = of-flat (by-line f) ([] ∷ []) d h in
        of-line f [] d (subst (λ c. Contains (by-line f c) d) (sym (only-none r.0 r.1.0)) r.1.1)

    pub met-one : (f : List Piece) → ((s : SoBy [] f) → OneOf s.more right) → list_all so (choices (f ∷ []) lines ([] ∷ [])) ≡ true
    met-one f each = all-so so (choices (f ∷ []) lines ([] ∷ [])) (λ d h. is-one d right (each (of-none f d h)))

    pub two-met : (f g : List Piece) → list_all so (choices (f ∷ g ∷ []) lines ([] ∷ [])) ≡ true → (s : SoBy [] f) (t : SoBy s.more g) → OneOf t.more right
    two-met f g met s t =
        one-of t.more right
        (each-so so (choices (f ∷ g ∷ []) lines ([] ∷ [])) met t.more
        (in-flat (by-line g) (flat_map (by-line f) ([] ∷ [])) s.more t.more
        (in-flat (by-line f) ([] ∷ []) [] s.more (here [] []) (in-line f [] s)) (in-line g s.more t)))

    pub met-two : (f g : List Piece) → ((s : SoBy [] f) (t : SoBy s.more g) → OneOf t.more right) → list_all so (choices (f ∷ g ∷ []) lines ([] ∷ [])) ≡ true
    met-two f g each = all-so so (choices (f ∷ g ∷ []) lines ([] ∷ [])) (λ d h.
        let r = of-flat (by-line g) (flat_map (by-line f) ([] ∷ [])) d h in
        is-one d right (each (of-none f r.0 r.1.0) (of-line g r.0 d r.1.1)))
