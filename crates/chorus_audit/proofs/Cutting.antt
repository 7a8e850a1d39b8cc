-- Where a text is cut, it is cut in one way.
use Rattle.std.proofs.Common.{◌≡◌, ℕ, ◌+◌, ◌-◌, ◌<◌, ◌≤◌, ◌==◌, nat_lt, cond, Bool, true, false, not, ◌&&◌, Some, None, List, [], ◌∷◌, ◌++◌, length, take, drop, get_or, refl, sym, ap, ◌∙◌, arith}
use Rattle.std.specs.List.{position, position_or_len, take_while}
use Rattle.std.proofs.lemmas.Grind.{common_steps}
use Rattle.std.proofs.lemmas.List.Sums.{split_at_first, passes_at_first, take_while-cons}
use Rattle.std.proofs.lemmas.Bool.{and_parts}
use Rattle.std.proofs.lemmas.Bool.Decides.{nat_tests}
use Rattle.chorus_show.specs.Reading.{lacks, parts}
use Rattle.chorus_show.proofs.LineBack.{first_part, one_part}

abbrev first_of : List ℕ → ℕ
first_of [] = 0
first_of (c ∷ cs) = c

abbrev tail_of : List ℕ → List ℕ
tail_of [] = []
tail_of (c ∷ cs) = cs

module _ (mark : ℕ) where
  is_it : (c : ℕ) → mark ≡ c → not (c == mark) ≡ true → ⊥
  is_it c same other = grind (arith, nat_tests)

  pub cut_once : (s t x y : List ℕ) → lacks mark s ≡ true → lacks mark t ≡ true → s ++ mark ∷ x ≡ t ++ mark ∷ y → (s ≡ t) × (x ≡ y)
  cut_once [] [] x y hs ht e = (refl, ap tail_of e)
  cut_once [] (c ∷ t) x y hs ht e = absurd (is_it c (ap first_of e) (and_parts (not (c == mark)) (lacks mark t) ht).0)
  cut_once (c ∷ s) [] x y hs ht e = absurd (is_it c (sym (ap first_of e)) (and_parts (not (c == mark)) (lacks mark s) hs).0)
  cut_once (c ∷ s) (d ∷ t) x y hs ht e =
      let more = cut_once s t x y (and_parts (not (c == mark)) (lacks mark s) hs).1 (and_parts (not (d == mark)) (lacks mark t) ht).1 (ap tail_of e) in
      ((λ i. ap first_of e i ∷ more.0 i), more.1)

  -- what stands before the first mark lacks it
  all_onto : (b : Bool) (c : ℕ) (cs : List ℕ) → not (c == mark) ≡ b → lacks mark cs ≡ true → lacks mark (cond b (c ∷ cs) []) ≡ true
  all_onto true c cs e h = both e h
    where
      both : not (c == mark) ≡ true → lacks mark cs ≡ true → (not (c == mark) && lacks mark cs) ≡ true
      both p q = rw p q
  all_onto false c cs e h = refl

  lacks_front : (text : List ℕ) → lacks mark (take_while (λ c. not (c == mark)) text) ≡ true
  lacks_front [] = refl
  lacks_front (c ∷ cs) =
      ap (lacks mark) (take_while-cons (λ d. not (d == mark)) c cs)
      ∙ all_onto (not (c == mark)) c (take_while (λ d. not (d == mark)) cs) refl (lacks_front cs)

  module _ (text : List ℕ) where
    found_by : (t : Bool) (p at : ℕ) → Some at ≡ cond t (Some p) None → (t ≡ true) × (at ≡ p)
    found_by true p at h = (refl, grind arith)
    found_by false p at h = grind arith

    missed_by : (t : Bool) (p : ℕ) → None ≡ cond t (Some p) None → t ≡ false
    missed_by true p h = grind arith
    missed_by false p h = refl

    abbrev place : ℕ
    place = position_or_len (λ c. c == mark) text

    found_at : (at : ℕ) → Some at ≡ position (λ c. c == mark) text → (nat_lt place (length text) ≡ true) × (at ≡ place)
    found_at at h = found_by (nat_lt place (length text)) place at h

    behind_all : (at : ℕ) → take (length text - (at + 1)) (drop (at + 1) text) ≡ drop (at + 1) text
    behind_all at = grind (arith, common_steps)

    pub found_before : (at : ℕ) → Some at ≡ position (λ c. c == mark) text → lacks mark (take at text) ≡ true
    found_before at h = rw (found_at at h).1 (lacks_front text)

    pub found_whole : (at : ℕ) → Some at ≡ position (λ c. c == mark) text → text ≡ take at text ++ mark ∷ take (length text - (at + 1)) (drop (at + 1) text)
    found_whole at h =
        let inside : place < length text = grind (arith, nat_tests, (found_at at h).0) in
        let passes = passes_at_first (λ c. c == mark) text 0 inside in
        let is : get_or text place 0 ≡ mark = grind (arith, nat_tests, passes) in
        rw (behind_all at, (found_at at h).1) (rw is at (split_at_first (λ c. c == mark) text 0 inside))

    pub found_parts : (at : ℕ) → Some at ≡ position (λ c. c == mark) text → parts mark text ≡ take at text ∷ parts mark (take (length text - (at + 1)) (drop (at + 1) text))
    found_parts at h = ap (parts mark) (found_whole at h) ∙ first_part mark (take at text) (take (length text - (at + 1)) (drop (at + 1) text)) (found_before at h)

    past_end : None ≡ position (λ c. c == mark) text → length text ≤ place
    past_end h = let t = missed_by (nat_lt place (length text)) place h in grind (arith, nat_tests)

    pub missed_before : None ≡ position (λ c. c == mark) text → lacks mark text ≡ true
    missed_before h = let all : take place text ≡ text = grind (arith, common_steps, past_end h) in ap (lacks mark) (sym all) ∙ lacks_front text

    pub missed_parts : None ≡ position (λ c. c == mark) text → parts mark text ≡ text ∷ []
    missed_parts h = one_part mark text (missed_before h)
