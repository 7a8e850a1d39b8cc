-- In which way words fit, as a relation.
-- ps are the words of a fact, ws those of a line, c and d are choices, k is a letter.
use Rattle.std.proofs.Common.{ℕ, ◌≡◌, Bool, true, false, ◌&&◌, cond, List, [], ◌∷◌, ◌++◌, Option, Some, None, ◌⊎◌, inl, inr, refl, sym, ◌∙◌, ap, subst}
use Rattle.std.specs.List.{Contains, flat_map}
use Rattle.std.specs.Str.{bytes_eq}
use Rattle.chorus_claims.specs.Pieces.{Piece, Word, Any, Rest, Letter, Choice, chosen, with_word, tails, fits}
use Rattle.chorus_claims.proofs.Lists.{none, here, there, which, in-flat, of-flat, from-bytes, same-self}

abbrev pub put : ℕ → List ℕ → List Choice → List Choice
put k w c = record { letter = k; word = w } ∷ c

-- what is left behind some words
pub record Tail (P : List (List ℕ) → Type 0) (ws : List (List ℕ)) : Type 0 where
  pub front : List (List ℕ)
  pub behind : List (List ℕ)
  pub is : ws ≡ front ++ behind
  pub so : P behind

abbrev pub LetterFits : List ℕ → Option (List ℕ) → Type 0 → Type 0 → Type 0
LetterFits w None free bound = free
LetterFits w (Some same) free bound = (w ≡ same) × bound

abbrev pub Fit : List Piece → List (List ℕ) → List Choice → List Choice → Type 0
Fit [] [] c d = c ≡ d
Fit [] (w ∷ ws) c d = ⊥
Fit (Word v ∷ ps) [] c d = ⊥
Fit (Word v ∷ ps) (w ∷ ws) c d = (v ≡ w) × Fit ps ws c d
Fit (Any ∷ ps) [] c d = ⊥
Fit (Any ∷ ps) (w ∷ ws) c d = Fit ps ws c d
Fit (Letter k ∷ ps) [] c d = ⊥
Fit (Letter k ∷ ps) (w ∷ ws) c d = LetterFits w (chosen k c) (Fit ps ws (put k w c) d) (Fit ps ws c d)
Fit (Rest ∷ ps) ws c d = Tail (λ (behind : List (List ℕ)). Fit ps behind c d) ws

only : {X : Type 0} (x z : X) → Contains (z ∷ []) x → z ≡ x
only x z h = by (which x z [] h)
  where
    by : (z ≡ x) ⊎ Contains [] x → z ≡ x
    by (inl e) = e
    by (inr j) = absurd (none x j)

-- tails
tail-of : (ws t : List (List ℕ)) → Contains (tails ws) t → Tail (λ (behind : List (List ℕ)). behind ≡ t) ws
tail-of [] t h = record { front = []; behind = []; is = refl; so = only t [] h }
tail-of (w ∷ ws) t h = by (which t (w ∷ ws) (tails ws) h) (tail-of ws t)
  where
    by : ((w ∷ ws) ≡ t) ⊎ Contains (tails ws) t → (Contains (tails ws) t → Tail (λ (behind : List (List ℕ)). behind ≡ t) ws) → Tail (λ (behind : List (List ℕ)). behind ≡ t) (w ∷ ws)
    by (inl e) ih = record { front = []; behind = w ∷ ws; is = refl; so = e }
    by (inr j) ih = let r = ih j in record { front = w ∷ r.front; behind = r.behind; is = ap (λ vs. w ∷ vs) r.is; so = r.so }

tail-in : (front behind : List (List ℕ)) → Contains (tails (front ++ behind)) behind
tail-in [] [] = here [] []
tail-in [] (w ∷ ws) = here (w ∷ ws) (tails ws)
tail-in (v ∷ front) behind = there behind (v ∷ front ++ behind) (tails (front ++ behind)) (tail-in front behind)

pub of-fits : (ps : List Piece) (ws : List (List ℕ)) (c d : List Choice) → Contains (fits ps ws c) d → Fit ps ws c d
of-fits [] [] c d h = only d c h
of-fits [] (w ∷ ws) c d h = none d h
of-fits (Word v ∷ ps) [] c d h = none d h
of-fits (Word v ∷ ps) (w ∷ ws) c d h = by (bytes_eq v w) refl h (of-fits ps ws c d)
  where
    by : (b : Bool) → bytes_eq v w ≡ b → Contains (cond b (fits ps ws c) []) d → (Contains (fits ps ws c) d → Fit ps ws c d) → (v ≡ w) × Fit ps ws c d
    by true e g ih = (from-bytes v w e, ih g)
    by false e g ih = absurd (none d g)
of-fits (Any ∷ ps) [] c d h = none d h
of-fits (Any ∷ ps) (w ∷ ws) c d h = of-fits ps ws c d h
of-fits (Letter k ∷ ps) [] c d h = none d h
of-fits (Letter k ∷ ps) (w ∷ ws) c d h =
    let r = of-flat (λ (more : List Choice). fits ps ws more) (with_word k w (chosen k c) c) d h in
    by (chosen k c) r.0 r.1.0 (of-fits ps ws r.0 d r.1.1)
  where
    by : (o : Option (List ℕ)) (x : List Choice) → Contains (with_word k w o c) x → Fit ps ws x d → LetterFits w o (Fit ps ws (put k w c) d) (Fit ps ws c d)
    by None x g ih = subst (λ y. Fit ps ws y d) (sym (only x (put k w c) g)) ih
    by (Some same) x g ih = by-same (bytes_eq w same) refl x g ih
      where
        by-same : (b : Bool) → bytes_eq w same ≡ b → (x : List Choice) → Contains (cond b (c ∷ []) []) x → Fit ps ws x d → (w ≡ same) × Fit ps ws c d
        by-same true e x g ih = (from-bytes w same e, subst (λ y. Fit ps ws y d) (sym (only x c g)) ih)
        by-same false e x g ih = absurd (none x g)
of-fits (Rest ∷ ps) ws c d h =
    let r = of-flat (λ (rest : List (List ℕ)). fits ps rest c) (tails ws) d h in
    let t = tail-of ws r.0 r.1.0 in
    record { front = t.front; behind = t.behind; is = t.is; so = subst (λ y. Fit ps y c d) (sym t.so) (of-fits ps r.0 c d r.1.1) }

pub to-fits : (ps : List Piece) (ws : List (List ℕ)) (c d : List Choice) → Fit ps ws c d → Contains (fits ps ws c) d
to-fits [] [] c d h = subst (λ (y : List Choice). Contains (c ∷ []) y) h (here c [])
to-fits [] (w ∷ ws) c d h = absurd h
to-fits (Word v ∷ ps) [] c d h = absurd h
to-fits (Word v ∷ ps) (w ∷ ws) c d h =
    let same : bytes_eq v w ≡ true = subst (λ y. bytes_eq v y ≡ true) h.0 (same-self v) in
    subst (λ b. Contains (cond b (fits ps ws c) []) d) (sym same) (to-fits ps ws c d h.1)
to-fits (Any ∷ ps) [] c d h = absurd h
to-fits (Any ∷ ps) (w ∷ ws) c d h = to-fits ps ws c d h
to-fits (Letter k ∷ ps) [] c d h = absurd h
to-fits (Letter k ∷ ps) (w ∷ ws) c d h = by (chosen k c) h (λ x g. to-fits ps ws x d g)
  where
    by : (o : Option (List ℕ)) → LetterFits w o (Fit ps ws (put k w c) d) (Fit ps ws c d) → ((x : List Choice) → Fit ps ws x d → Contains (fits ps ws x) d) → Contains (flat_map (λ (more : List Choice). fits ps ws more) (with_word k w o c)) d
    by None g ih = in-flat (λ (more : List Choice). fits ps ws more) (put k w c ∷ []) (put k w c) d (here (put k w c) []) (ih (put k w c) g)
    by (Some same) g ih =
        let eq : bytes_eq w same ≡ true = subst (λ y. bytes_eq w y ≡ true) g.0 (same-self w) in
        subst (λ b. Contains (flat_map (λ (more : List Choice). fits ps ws more) (cond b (c ∷ []) [])) d) (sym eq)
        (in-flat (λ (more : List Choice). fits ps ws more) (c ∷ []) c d (here c []) (ih c g.1))
to-fits (Rest ∷ ps) ws c d h =
    in-flat (λ (rest : List (List ℕ)). fits ps rest c) (tails ws) h.behind d
    (subst (λ y. Contains (tails y) h.behind) (sym h.is) (tail-in h.front h.behind)) (to-fits ps h.behind c d h.so)
