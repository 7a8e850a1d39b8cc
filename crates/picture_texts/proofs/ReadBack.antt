-- What is written between tags is read as it was.
use Rattle.std.proofs.Common.{◌≡◌, ◌==◌, ℕ, Bool, true, false, cond, List, [], ◌∷◌, ◌++◌, map, codes, Some, refl, sym, subst}
use Rattle.std.proofs.lemmas.Bool.{eqb-true}
use Rattle.picture_texts.specs.Filling.{markup, markup_byte}
use Rattle.picture_texts.specs.Reading.{Reads, End, Plain, Entity, TextsAreRead, blank, entity}

module _ (cs text : List ℕ) (h : Reads cs text) where
  -- one of the five bytes
  named : (k c : ℕ) (name : List ℕ) → (c == k) ≡ true → entity k ≡ Some name → blank k ≡ k → Reads (38 ∷ (name ++ cs)) (blank c ∷ text)
  named k c name is known stays =
      subst (λ b. Reads (38 ∷ (name ++ cs)) (blank b ∷ text)) (sym (eqb-true c k is))
      (subst (λ b. Reads (38 ∷ (name ++ cs)) (b ∷ text)) (sym stays) (Entity k name cs text known h))

  byte : (c : ℕ) → Reads (markup_byte c ++ cs) (blank c ∷ text)
  byte c = lt (c == 60) refl
    where
      lf : (b : Bool) → (c == 10) ≡ b → (c == 60) ≡ false → (c == 62) ≡ false → (c == 38) ≡ false → (c == 39) ≡ false → (c == 34) ≡ false
          → Reads (cond b (codes " ") (c ∷ []) ++ cs) (cond b 32 c ∷ text)
      lf true is n60 n62 n38 n39 n34 = Plain 32 cs text refl h
      lf false is n60 n62 n38 n39 n34 = Plain c cs text (rw (n60, n62, n38, n39, n34) refl) h

      quot : (b : Bool) → (c == 34) ≡ b → (c == 60) ≡ false → (c == 62) ≡ false → (c == 38) ≡ false → (c == 39) ≡ false
          → Reads (cond b (codes "&quot;") (cond (c == 10) (codes " ") (c ∷ [])) ++ cs) (blank c ∷ text)
      quot true is n60 n62 n38 n39 = named 34 c (codes "quot;") is refl refl
      quot false is n60 n62 n38 n39 = lf (c == 10) refl n60 n62 n38 n39 is

      apos : (b : Bool) → (c == 39) ≡ b → (c == 60) ≡ false → (c == 62) ≡ false → (c == 38) ≡ false
          → Reads (cond b (codes "&#39;") (cond (c == 34) (codes "&quot;") (cond (c == 10) (codes " ") (c ∷ []))) ++ cs) (blank c ∷ text)
      apos true is n60 n62 n38 = named 39 c (codes "#39;") is refl refl
      apos false is n60 n62 n38 = quot (c == 34) refl n60 n62 n38 is

      amp : (b : Bool) → (c == 38) ≡ b → (c == 60) ≡ false → (c == 62) ≡ false
          → Reads (cond b (codes "&amp;") (cond (c == 39) (codes "&#39;") (cond (c == 34) (codes "&quot;") (cond (c == 10) (codes " ") (c ∷ [])))) ++ cs) (blank c ∷ text)
      amp true is n60 n62 = named 38 c (codes "amp;") is refl refl
      amp false is n60 n62 = apos (c == 39) refl n60 n62 is

      gt : (b : Bool) → (c == 62) ≡ b → (c == 60) ≡ false
          → Reads (cond b (codes "&gt;") (cond (c == 38) (codes "&amp;") (cond (c == 39) (codes "&#39;") (cond (c == 34) (codes "&quot;") (cond (c == 10) (codes " ") (c ∷ []))))) ++ cs) (blank c ∷ text)
      gt true is n60 = named 62 c (codes "gt;") is refl refl
      gt false is n60 = amp (c == 38) refl n60 is

      lt : (b : Bool) → (c == 60) ≡ b
          → Reads (cond b (codes "&lt;") (cond (c == 62) (codes "&gt;") (cond (c == 38) (codes "&amp;") (cond (c == 39) (codes "&#39;") (cond (c == 34) (codes "&quot;") (cond (c == 10) (codes " ") (c ∷ [])))))) ++ cs) (blank c ∷ text)
      lt true is = named 60 c (codes "lt;") is refl refl
      lt false is = gt (c == 62) refl is

pub texts_are_read : TextsAreRead
texts_are_read [] = End
texts_are_read (c ∷ cs) = byte (markup cs) (map blank cs) (texts_are_read cs) c
