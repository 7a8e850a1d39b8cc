-- Paths.
use Rattle.std.proofs.Common.{ℕ, ◌≡◌, ◌<◌, ◌-◌, List, [], ◌∷◌, length, Some, refl, sym, ◌∙◌, ap, arith}
use Rattle.std.specs.Prelude.{slice_get}
use Rattle.std.proofs.lemmas.Option.{slice_get_within}
use Rattle.chorus_world.specs.Ports.{last_of}

last_some : (p : ℕ) (ps : List ℕ) → slice_get (p ∷ ps) (length ps) ≡ Some (last_of p ps)
last_some p [] = refl
last_some p (q ∷ qs) = last_some q qs

-- the last place of a path is its last element
pub last_is : (ps : List ℕ) (p : ℕ) → slice_get ps (length ps - 1) ≡ Some p → p ≡ last_of 0 ps
last_is [] p h = absurd (let lt : 0 < 0 = slice_get_within {A = ℕ} [] 0 p h in omega (arith, lt))
last_is (q ∷ qs) p h =
    let n : length (q ∷ qs) - 1 ≡ length qs = omega arith in
    same p (last_of q qs) (sym h ∙ (ap (slice_get (q ∷ qs)) n ∙ last_some q qs))
  where
    same : (a b : ℕ) → Some a ≡ Some b → a ≡ b
    same a b e = cc
