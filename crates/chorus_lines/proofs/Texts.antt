-- Cutting a text, and testing its bytes, one byte after the other.
use Rattle.std.proofs.Common.{◌≡◌, ◌≢◌, ℕ, ◌+◌, ◌<◌, ◌≤◌, Bool, true, false, ◌&&◌, List, [], ◌∷◌, ◌++◌, length, get_or, take, drop, Option, Some, None, sym, ap, ◌∙◌, append_assoc, add-one, arith, drop-cons}
use Rattle.std.proofs.Math.Seq.{take-suc}
use Rattle.std.proofs.lemmas.Bool.Decides.{nat_tests}
use Rattle.std.proofs.lemmas.Grind.{common_steps}
use Rattle.chorus_lines.specs.Text.{cut, each_byte}

cut_cons_here : (mark c : ℕ) (cs : List ℕ) → c ≡ mark → cut mark (c ∷ cs) ≡ ([], Some cs)
unfolding cut
cut_cons_here mark c cs h = grind (arith, nat_tests)

cut_cons_on : (mark c : ℕ) (cs : List ℕ) → c ≢ mark → cut mark (c ∷ cs) ≡ (c ∷ (cut mark cs).0, (cut mark cs).1)
unfolding cut
cut_cons_on mark c cs h = grind (arith, nat_tests)

-- what stands before index i, and what the rest is cut into
abbrev pub cut_behind : List ℕ → List ℕ × Option (List ℕ) → List ℕ × Option (List ℕ)
cut_behind front pieces = (front ++ pieces.0, pieces.1)

module _ (mark : ℕ) (text : List ℕ) (i : ℕ) (total : List ℕ × Option (List ℕ)) (so_far : cut_behind (take i text) (cut mark (drop i text)) ≡ total) where
  pub cut_on : i < length text → get_or text i 0 ≢ mark → cut_behind (take (i + 1) text) (cut mark (drop (i + 1) text)) ≡ total
  cut_on lt h =
      let d : drop i text ≡ get_or text i 0 ∷ drop (i + 1) text = rw add-one (drop-cons text i 0 lt) in
      let t : take (i + 1) text ≡ take i text ++ get_or text i 0 ∷ [] = rw add-one (take-suc text i 0 lt) in
      let k = cut_cons_on mark (get_or text i 0) (drop (i + 1) text) h in
      rw (t, append_assoc) (sym (ap (cut_behind (take i text)) (ap (cut mark) d ∙ k)) ∙ so_far)

  pub cut_here : i < length text → get_or text i 0 ≡ mark → (take i text, Some (drop (i + 1) text)) ≡ total
  cut_here lt h =
      let d : drop i text ≡ get_or text i 0 ∷ drop (i + 1) text = rw add-one (drop-cons text i 0 lt) in
      let k = cut_cons_here mark (get_or text i 0) (drop (i + 1) text) h in
      let e : cut_behind (take i text) ([], Some (drop (i + 1) text)) ≡ (take i text, Some (drop (i + 1) text)) = ap (λ (front : List ℕ). (front, Some (drop (i + 1) text))) (grind (arith, common_steps)) in
      sym e ∙ (sym (ap (cut_behind (take i text)) (ap (cut mark) d ∙ k)) ∙ so_far)

  pub cut_end : length text ≤ i → (text, None) ≡ total
  unfolding cut
  cut_end le =
      let d : drop i text ≡ [] = grind (arith, common_steps) in
      let t : take i text ++ [] ≡ text = grind (arith, common_steps) in
      rw (d, t) at so_far

module _ (test : ℕ → Bool) (xs : List ℕ) (i : ℕ) (total : Bool) (so_far : each_byte test (drop i xs) ≡ total) where
  here : i < length xs → (test (get_or xs i 0) && each_byte test (drop (i + 1) xs)) ≡ total
  unfolding each_byte
  here lt =
      let d : drop i xs ≡ get_or xs i 0 ∷ drop (i + 1) xs = rw add-one (drop-cons xs i 0 lt) in
      sym (ap (each_byte test) d) ∙ so_far

  pub each_on : i < length xs → test (get_or xs i 0) ≡ true → each_byte test (drop (i + 1) xs) ≡ total
  each_on lt h = rw h at (here lt)

  pub each_off : i < length xs → test (get_or xs i 0) ≡ false → false ≡ total
  each_off lt h = rw h at (here lt)

  pub each_end : length xs ≤ i → true ≡ total
  unfolding each_byte
  each_end le =
      let d : drop i xs ≡ [] = grind (arith, common_steps) in
      rw d at so_far
