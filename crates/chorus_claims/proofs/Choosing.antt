-- The choices are those by which all facts are so.
-- ps are the words of a fact, ws those of a line, c, d and e are choices, k is a letter.
use Rattle.std.proofs.Common.{ℕ, ◌≡◌, ◌==◌, Bool, true, false, cond, List, [], ◌∷◌, Option, Some, None, ◌⊎◌, inl, inr, refl, sym, ◌∙◌, ap, subst}
use Rattle.std.specs.List.{All, Contains, flat_map}
use Rattle.std.proofs.lemmas.Bool.{eqb-true, eq-eqb}
use Rattle.std.proofs.lemmas.List.Elements.{All-nil, All-cons, All-head, All-tail}
use Rattle.std.specs.Str.{bytes_eq}
use Rattle.chorus_claims.specs.Pieces.{Piece, Word, Any, Rest, Letter, Choice, chosen, with_word, tails, fits, choices, AllWaysAreChosen, ChoicesAreWays, Extends, IsSoBy, RestsAreOne}
use Rattle.chorus_claims.proofs.Lists.{none, here, there, which, in-flat, of-flat, same-self, from-bytes}

some-is : {X : Type 0} (x y : X) → Some x ≡ Some y → x ≡ y
some-is x y e = cc

only : {X : Type 0} (x z : X) → Contains (z ∷ []) x → z ≡ x
only x z h = by (which x z [] h)
  where
    by : (z ≡ x) ⊎ Contains [] x → z ≡ x
    by (inl e) = e
    by (inr j) = absurd (none x j)

both : (d c b : List Choice) → Extends d c → Extends c b → Extends d b
both d c b f g k w e = f k w (g k w e)

abbrev put : ℕ → List ℕ → List Choice → List Choice
put k w c = record { letter = k; word = w } ∷ c

-- one letter
with-extends : (k : ℕ) (w : List ℕ) (c d : List Choice) (o : Option (List ℕ)) → chosen k c ≡ o → Contains (with_word k w o c) d → Extends d c × (chosen k d ≡ Some w)
with-extends k w c d None o h =
    let is = only d (put k w c) h in
    let more : Extends (put k w c) c = λ j v e. other j v e (k == j) refl in
    (subst (λ (x : List Choice). Extends x c) is more, ap (chosen k) (sym is) ∙ ap (λ (b : Bool). cond b (Some w) (chosen k c)) (eq-eqb k k refl))
  where
    other : (j : ℕ) (v : List ℕ) → chosen j c ≡ Some v → (b : Bool) → (k == j) ≡ b → chosen j (put k w c) ≡ Some v
    other j v e true is = absurd (let bad : None ≡ Some v = sym o ∙ ap (λ (n : ℕ). chosen n c) (eqb-true k j is) ∙ e in cc)
    other j v e false is = ap (λ (b : Bool). cond b (Some w) (chosen j c)) is ∙ e
with-extends k w c d (Some same) o h = by (bytes_eq w same) refl h
  where
    by : (b : Bool) → bytes_eq w same ≡ b → Contains (cond b (c ∷ []) []) d → Extends d c × (chosen k d ≡ Some w)
    by true e g =
        let is = only d c g in
        (subst (λ (x : List Choice). Extends x c) is (λ j v f. f), ap (chosen k) (sym is) ∙ o ∙ ap (λ x. Some x) (sym (from-bytes w same e)))
    by false e g = absurd (none d g)

fits-extends : (ps : List Piece) (ws : List (List ℕ)) (c d : List Choice) → Contains (fits ps ws c) d → Extends d c
fits-extends [] [] c d h = subst (λ (x : List Choice). Extends x c) (only d c h) (λ j v f. f)
fits-extends [] (w ∷ ws) c d h = absurd (none d h)
fits-extends (Word v ∷ ps) [] c d h = absurd (none d h)
fits-extends (Word v ∷ ps) (w ∷ ws) c d h = by (bytes_eq v w) h (fits-extends ps ws c d)
  where
    by : (b : Bool) → Contains (cond b (fits ps ws c) []) d → (Contains (fits ps ws c) d → Extends d c) → Extends d c
    by true g ih = ih g
    by false g ih = absurd (none d g)
fits-extends (Any ∷ ps) [] c d h = absurd (none d h)
fits-extends (Any ∷ ps) (w ∷ ws) c d h = fits-extends ps ws c d h
fits-extends (Letter k ∷ ps) [] c d h = absurd (none d h)
fits-extends (Letter k ∷ ps) (w ∷ ws) c d h =
    let r = of-flat (λ (more : List Choice). fits ps ws more) (with_word k w (chosen k c) c) d h in
    both d r.0 c (fits-extends ps ws r.0 d r.1.1) (with-extends k w c r.0 (chosen k c) refl r.1.0).0
fits-extends (Rest ∷ ps) ws c d h =
    let r = of-flat (λ (rest : List (List ℕ)). fits ps rest c) (tails ws) d h in fits-extends ps r.0 c d r.1.1

-- what fits is found again by more
fits-again : (ps : List Piece) (ws : List (List ℕ)) (c d e : List Choice) → Contains (fits ps ws c) d → Extends e d → Contains (fits ps ws e) e
fits-again [] [] c d e h more = here e []
fits-again [] (w ∷ ws) c d e h more = absurd (none d h)
fits-again (Word v ∷ ps) [] c d e h more = absurd (none d h)
fits-again (Word v ∷ ps) (w ∷ ws) c d e h more = by (bytes_eq v w) h (λ g. fits-again ps ws c d e g more)
  where
    by : (b : Bool) → Contains (cond b (fits ps ws c) []) d → (Contains (fits ps ws c) d → Contains (fits ps ws e) e) → Contains (cond b (fits ps ws e) []) e
    by true g ih = ih g
    by false g ih = absurd (none d g)
fits-again (Any ∷ ps) [] c d e h more = absurd (none d h)
fits-again (Any ∷ ps) (w ∷ ws) c d e h more = fits-again ps ws c d e h more
fits-again (Letter k ∷ ps) [] c d e h more = absurd (none d h)
fits-again (Letter k ∷ ps) (w ∷ ws) c d e h more =
    let r = of-flat (λ (x : List Choice). fits ps ws x) (with_word k w (chosen k c) c) d h in
    let one = with-extends k w c r.0 (chosen k c) refl r.1.0 in
    let word : chosen k e ≡ Some w = more k w (fits-extends ps ws r.0 d r.1.1 k w one.1) in
    let mem : Contains (with_word k w (chosen k e) e) e =
    subst (λ (o : Option (List ℕ)). Contains (with_word k w o e) e) (sym word) (subst (λ (b : Bool). Contains (cond b (e ∷ []) []) e) (sym (same-self w)) (here e [])) in
    in-flat (λ (x : List Choice). fits ps ws x) (with_word k w (chosen k e) e) e e mem (fits-again ps ws r.0 d e r.1.1 more)
fits-again (Rest ∷ ps) ws c d e h more =
    let r = of-flat (λ (rest : List (List ℕ)). fits ps rest c) (tails ws) d h in
    in-flat (λ (rest : List (List ℕ)). fits ps rest e) (tails ws) r.0 e r.1.0 (fits-again ps r.0 c d e r.1.1 more)

-- what fits by more is found from less
fits-complete : (ps : List Piece) (ws : List (List ℕ)) (c e : List Choice) → Contains (fits ps ws e) e → Extends e c → (d : List Choice) × (Contains (fits ps ws c) d × Extends e d)
fits-complete [] [] c e h more = (c, (here c [], more))
fits-complete [] (w ∷ ws) c e h more = absurd (none e h)
fits-complete (Word v ∷ ps) [] c e h more = absurd (none e h)
fits-complete (Word v ∷ ps) (w ∷ ws) c e h more = by (bytes_eq v w) h (λ g. fits-complete ps ws c e g more)
  where
    by : (b : Bool) → Contains (cond b (fits ps ws e) []) e → (Contains (fits ps ws e) e → (d : List Choice) × (Contains (fits ps ws c) d × Extends e d))
        → (d : List Choice) × (Contains (cond b (fits ps ws c) []) d × Extends e d)
    by true g ih = ih g
    by false g ih = absurd (none e g)
fits-complete (Any ∷ ps) [] c e h more = absurd (none e h)
fits-complete (Any ∷ ps) (w ∷ ws) c e h more = fits-complete ps ws c e h more
fits-complete (Letter k ∷ ps) [] c e h more = absurd (none e h)
fits-complete (Letter k ∷ ps) (w ∷ ws) c e h more =
    let r = of-flat (λ (x : List Choice). fits ps ws x) (with_word k w (chosen k e) e) e h in
    let one = with-extends k w e r.0 (chosen k e) refl r.1.0 in
    let word : chosen k e ≡ Some w = fits-extends ps ws r.0 e r.1.1 k w one.1 in
    let mem = subst (λ (b : Bool). Contains (cond b (e ∷ []) []) r.0) (same-self w) (subst (λ (o : Option (List ℕ)). Contains (with_word k w o e) r.0) word r.1.0) in
    let inner : Contains (fits ps ws e) e = subst (λ (x : List Choice). Contains (fits ps ws x) e) (sym (only r.0 e mem)) r.1.1 in
    by word (chosen k c) refl (λ x g. fits-complete ps ws x e inner g)
  where
    other : chosen k e ≡ Some w → (j : ℕ) (v : List ℕ) → chosen j (put k w c) ≡ Some v → (b : Bool) → (k == j) ≡ b → chosen j e ≡ Some v
    other word j v f true is =
        let same : Some w ≡ Some v = sym (ap (λ (b : Bool). cond b (Some w) (chosen j c)) is) ∙ f in
        ap (λ (n : ℕ). chosen n e) (sym (eqb-true k j is)) ∙ word ∙ same
    other word j v f false is = more j v (sym (ap (λ (b : Bool). cond b (Some w) (chosen j c)) is) ∙ f)

    by : chosen k e ≡ Some w → (o : Option (List ℕ)) → chosen k c ≡ o → ((x : List Choice) → Extends e x → (d : List Choice) × (Contains (fits ps ws x) d × Extends e d))
        → (d : List Choice) × (Contains (flat_map (λ (x : List Choice). fits ps ws x) (with_word k w (chosen k c) c)) d × Extends e d)
    by word None o ih =
        let g = ih (put k w c) (λ j v f. other word j v f (k == j) refl) in
        let mem = subst (λ (z : Option (List ℕ)). Contains (with_word k w z c) (put k w c)) (sym o) (here (put k w c) []) in
        (g.0, (in-flat (λ (x : List Choice). fits ps ws x) (with_word k w (chosen k c) c) (put k w c) g.0 mem g.1.0, g.1.1))
    by word (Some s) o ih =
        let g = ih c more in
        let is : w ≡ s = some-is w s (sym word ∙ more k s o) in
        let same : bytes_eq w s ≡ true = ap (bytes_eq w) (sym is) ∙ same-self w in
        let mem = subst (λ (z : Option (List ℕ)). Contains (with_word k w z c) c) (sym o) (subst (λ (b : Bool). Contains (cond b (c ∷ []) []) c) (sym same) (here c [])) in
        (g.0, (in-flat (λ (x : List Choice). fits ps ws x) (with_word k w (chosen k c) c) c g.0 mem g.1.0, g.1.1))
fits-complete (Rest ∷ ps) ws c e h more =
    let r = of-flat (λ (rest : List (List ℕ)). fits ps rest e) (tails ws) e h in
    let g = fits-complete ps r.0 c e r.1.1 more in
    (g.0, (in-flat (λ (rest : List (List ℕ)). fits ps rest c) (tails ws) r.0 g.0 r.1.0 g.1.0, g.1.1))

module _ (lines : List (List (List ℕ))) where
  abbrev by-line : List Piece → List Choice → List (List Choice)
  by-line fact c = flat_map (λ (line : List (List ℕ)). fits fact line c) lines

  choices-extend : (facts : List (List Piece)) (so_far : List (List Choice)) (d : List Choice) → Contains (choices facts lines so_far) d → (c : List Choice) × (Contains so_far c × Extends d c)
  choices-extend [] so_far d h = (d, (h, λ k w e. e))
  choices-extend (f ∷ facts) so_far d h =
      let r = choices-extend facts (flat_map (by-line f) so_far) d h in
      let q = of-flat (by-line f) so_far r.0 r.1.0 in
      let t = of-flat (λ (line : List (List ℕ)). fits f line q.0) lines r.0 q.1.1 in
      (q.0, (q.1.0, both d r.0 q.0 r.1.1 (fits-extends f t.0 q.0 r.0 t.1.1)))

  ways : (facts : List (List Piece)) (so_far : List (List Choice)) (d : List Choice) → Contains (choices facts lines so_far) d → All (IsSoBy lines d) facts
  ways [] so_far d h = All-nil (IsSoBy lines d)
  ways (f ∷ facts) so_far d h =
      let r = choices-extend facts (flat_map (by-line f) so_far) d h in
      let q = of-flat (by-line f) so_far r.0 r.1.0 in
      let t = of-flat (λ (line : List (List ℕ)). fits f line q.0) lines r.0 q.1.1 in
      All-cons (IsSoBy lines d) f facts (t.0, (t.1.0, fits-again f t.0 q.0 r.0 d t.1.1 r.1.1)) (ways facts (flat_map (by-line f) so_far) d h)

module _ (lines : List (List (List ℕ))) where
  all-chosen : (facts : List (List Piece)) (so_far : List (List Choice)) (e : List Choice) → All (IsSoBy lines e) facts → (c : List Choice) → Contains so_far c → Extends e c
      → (d : List Choice) × (Contains (choices facts lines so_far) d × Extends e d)
  all-chosen [] so_far e all c there more = (c, (there, more))
  all-chosen (f ∷ facts) so_far e all c there more =
      let one = All-head (IsSoBy lines e) f facts all in
      let g = fits-complete f one.0 c e one.1.1 more in
      let new = in-flat (by-line lines f) so_far c g.0 there (in-flat (λ (line : List (List ℕ)). fits f line c) lines one.0 g.0 one.1.0 g.1.0) in
      all-chosen facts (flat_map (by-line lines f) so_far) e (All-tail (IsSoBy lines e) f facts all) g.0 new g.1.1

pub all-ways-are-chosen : AllWaysAreChosen
all-ways-are-chosen facts lines e all = all-chosen lines facts ([] ∷ []) e all [] (here [] []) (λ k w bad. absurd (cc))

pub choices-are-ways : ChoicesAreWays
choices-are-ways facts lines d h = ways lines facts ([] ∷ []) d h

-- Two `..` side by side.

all-tails : (ws : List (List ℕ)) → Contains (tails ws) ws
all-tails [] = here [] []
all-tails (w ∷ ws) = here (w ∷ ws) (tails ws)

tails-again : (ws t u : List (List ℕ)) → Contains (tails ws) t → Contains (tails t) u → Contains (tails ws) u
tails-again [] t u h k = subst (λ (x : List (List ℕ)). Contains (tails x) u) (sym (only t [] h)) k
tails-again (w ∷ ws) t u h k = by (which t (w ∷ ws) (tails ws) h) (λ j. tails-again ws t u j k)
  where
    by : ((w ∷ ws) ≡ t) ⊎ Contains (tails ws) t → (Contains (tails ws) t → Contains (tails ws) u) → Contains (tails (w ∷ ws)) u
    by (inl e) ih = subst (λ (x : List (List ℕ)). Contains (tails x) u) (sym e) k
    by (inr j) ih = there u (w ∷ ws) (tails ws) (ih j)

pub rests-are-one : RestsAreOne
rests-are-one ps ws c d = (to-one, to-two)
  where
    one : List (List ℕ) → List (List Choice)
    one rest = fits ps rest c

    two : List (List ℕ) → List (List Choice)
    two rest = flat_map one (tails rest)

    to-one : Contains (flat_map two (tails ws)) d → Contains (flat_map one (tails ws)) d
    to-one h =
        let t = of-flat two (tails ws) d h in
        let u = of-flat one (tails t.0) d t.1.1 in
        in-flat one (tails ws) u.0 d (tails-again ws t.0 u.0 t.1.0 u.1.0) u.1.1

    to-two : Contains (flat_map one (tails ws)) d → Contains (flat_map two (tails ws)) d
    to-two h = in-flat two (tails ws) ws d (all-tails ws) h
