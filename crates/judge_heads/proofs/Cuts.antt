-- How the line of a head is cut.
use Rattle.std.proofs.Common.{◌≡◌, ℕ, ◌<◌, ◌^◌, Bool, true, false, not, eqb, List, [], ◌∷◌, ◌++◌, decimal, Option, Some, None, refl, ap, ◌∙◌, arith}
use Rattle.std.proofs.lemmas.Bool.{and_parts, and_from, eqb-true}
use Rattle.std.proofs.lemmas.Bool.Decides.{nat_tests}
use Rattle.std.specs.Char.{is_ascii_digit}
use Rattle.std.specs.List.{list_all}
use Rattle.chorus_ui.specs.Decimals.{all_digits}
use Rattle.chorus_ui.proofs.Decimals.{all_digits-decimal}
use Rattle.chorus_lines.specs.Text.{cut}

-- none of the bytes is this one
abbrev pub lacks : ℕ → List ℕ → Bool
lacks mark text = list_all (λ c. not (eqb c mark)) text

no-mark : (mark c : ℕ) → not (eqb c mark) ≡ true → eqb c mark ≡ false
no-mark mark c h = grind (arith, nat_tests)

pub cut_join : (mark : ℕ) (front rest : List ℕ) → lacks mark front ≡ true → cut mark (front ++ mark ∷ rest) ≡ (front, Some rest)
unfolding cut
cut_join mark [] rest h = let e : eqb mark mark ≡ true = grind (arith, nat_tests) in rw e refl
cut_join mark (c ∷ cs) rest h =
    let p = and_parts (not (eqb c mark)) (lacks mark cs) h in
    let e = no-mark mark c p.0 in
    rw (e, cut_join mark cs rest p.1) refl

-- the mark and what stands behind it
abbrev pub marked : ℕ → Option (List ℕ) → List ℕ
marked mark None = []
marked mark (Some rest) = mark ∷ rest

uncut-by : (mark c : ℕ) (cs : List ℕ) (b : Bool) → eqb c mark ≡ b → cs ≡ (cut mark cs).0 ++ marked mark (cut mark cs).1 → c ∷ cs ≡ (cut mark (c ∷ cs)).0 ++ marked mark (cut mark (c ∷ cs)).1
unfolding cut
uncut-by mark c cs true e h = let same : c ≡ mark = grind (arith, nat_tests) in rw e (ap (λ x. x ∷ cs) same)
uncut-by mark c cs false e h = rw e (ap (λ rest. c ∷ rest) h)

-- a text is what it was cut into
pub uncut : (mark : ℕ) (text : List ℕ) → text ≡ (cut mark text).0 ++ marked mark (cut mark text).1
unfolding cut
uncut mark [] = refl
uncut mark (c ∷ cs) = uncut-by mark c cs (eqb c mark) refl (uncut mark cs)

pub uncut_as : (mark : ℕ) (text front : List ℕ) (rest : Option (List ℕ)) → cut mark text ≡ (front, rest) → text ≡ front ++ marked mark rest
uncut_as mark text front rest h = uncut mark text ∙ ap (λ (p : List ℕ × Option (List ℕ)). p.0 ++ marked mark p.1) h

-- decimals have neither space nor LF
module _ (mark : ℕ) (other : is_ascii_digit mark ≡ false) where
  differs : (c : ℕ) → is_ascii_digit c ≡ true → not (eqb c mark) ≡ true
  differs c digit = by-test (eqb c mark) refl
    where
      by-test : (b : Bool) → eqb c mark ≡ b → not b ≡ true
      by-test true e = absurd (cc (ap is_ascii_digit (eqb-true c mark e)))
      by-test false e = refl

  lacks-digits : (ds : List ℕ) → all_digits ds ≡ true → lacks mark ds ≡ true
  lacks-digits [] h = refl
  lacks-digits (c ∷ ds) h =
      let both = and_parts (is_ascii_digit c) (all_digits ds) h in
      and_from (not (eqb c mark)) (lacks mark ds) (differs c both.0) (lacks-digits ds both.1)

  pub lacks_decimal : (n : ℕ) → n < 2 ^ 64 → lacks mark (decimal n) ≡ true
  lacks_decimal n h = lacks-digits (decimal n) (all_digits-decimal n h)

pub lacks_join : (mark : ℕ) (s t : List ℕ) → lacks mark s ≡ true → lacks mark t ≡ true → lacks mark (s ++ t) ≡ true
lacks_join mark [] t hs ht = ht
lacks_join mark (c ∷ s) t hs ht =
    let both = and_parts (not (eqb c mark)) (lacks mark s) hs in
    and_from (not (eqb c mark)) (lacks mark (s ++ t)) both.0 (lacks_join mark s t both.1 ht)
