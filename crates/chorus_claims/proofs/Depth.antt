-- What is found word by word is what the lists of choices say.
-- ps are the words of a fact, ws those of a line, c and d are choices, e says the same of the letters, k is a letter.
use Rattle.std.proofs.Common.{ℕ, ◌≡◌, ◌≢◌, ◌≤◌, ◌<◌, ◌-◌, ◌==◌, nat_le, Bool, true, false, not, ◌&&◌, ◌||◌, cond, List, [], ◌∷◌, length, replicate, Option, Some, None, refl, sym, ◌∙◌, ◌⊎◌, inl, inr, ap, ap₂, subst, arith}
use Rattle.std.specs.List.{flat_map, list_all}
use Rattle.std.specs.Str.{bytes_eq}
use Rattle.std.proofs.lemmas.Bool.{eqb-true, eqb-false}
use Rattle.std.proofs.lemmas.Bool.Decides.{nat_tests}
use Rattle.std.proofs.lemmas.List.{get_or-set_same, get_or-set_other, length-set, get_or-replicate}
use Rattle.chorus_claims.specs.Words.{is_middle, is_mark, is_any, is_rest, letter_in, words_in}
use Rattle.chorus_claims.specs.Pieces.{Piece, Word, Any, Rest, Letter, Choice, chosen, with_word, tails, fits, choices, is_none, is_one_so, Claim, meets}
use Rattle.chorus_claims.specs.Shapes.{piece_of, piece_or_word, in_fact, facts_in, behind_middle, form_in, facts_of, claim_in, claim_of_words, asked_by}
use Rattle.chorus_claims.specs.Ways.{letter_step, behind_step, meaning, with_meaning, way, one_right, all_left}
use Rattle.chorus_claims.specs.declared.letters.Step.TheVariants as steps
use Rattle.chorus_claims.specs.declared.form.Form.{Form}
use Rattle.chorus_claims.specs.declared.form.Form.TheVariants.{Never, Possible, Always, Implies, Before}
use Rattle.chorus_claims.proofs.Lists.{all-flat, all-one, all-same, and-true}

-- A letter of a claim is one of A (65) to Z (90).

abbrev IsFine : Piece → Type 0
IsFine (Word v) = Unit {0}
IsFine Any = Unit {0}
IsFine Rest = Unit {0}
IsFine (Letter k) = (65 ≤ k) × (k ≤ 90)

abbrev AreFine : List Piece → Type 0
AreFine [] = Unit {0}
AreFine (p ∷ ps) = IsFine p × AreFine ps

abbrev AllFine : List (List Piece) → Type 0
AllFine [] = Unit {0}
AllFine (f ∷ fs) = AreFine f × AllFine fs

letter-by : (b : Bool) (c k : ℕ) → (nat_le 65 c && nat_le c 90) ≡ b → cond b (Some c) None ≡ Some k → (65 ≤ k) × (k ≤ 90)
letter-by true c k h e = let same : c ≡ k = cc in (grind (arith, nat_tests), grind (arith, nat_tests))
letter-by false c k h e = absurd cc

fine-word : (w : List ℕ) (o : Option ℕ) → letter_in w ≡ o → IsFine (piece_or_word w o)
fine-word w None e = tt
fine-word [] (Some k) e = absurd cc
fine-word (c ∷ []) (Some k) e = letter-by (nat_le 65 c && nat_le c 90) c k refl e
fine-word (c ∷ d ∷ w) (Some k) e = absurd cc

fine-piece : (any rest : Bool) (w : List ℕ) → IsFine (cond any Any (cond rest Rest (piece_or_word w (letter_in w))))
fine-piece true rest w = tt
fine-piece false true w = tt
fine-piece false false w = fine-word w (letter_in w) refl

fine-in : (p : Piece) (fs : List (List Piece)) → IsFine p → AllFine fs → AllFine (in_fact p fs)
fine-in p [] h k = ((h, tt), tt)
fine-in p (f ∷ fs) h k = ((h, k.0), k.1)

pub facts-fine : (ws : List (List ℕ)) → AllFine (facts_in ws)
facts-fine [] = (tt, tt)
facts-fine (w ∷ ws) = by (is_middle w) (is_mark w) (facts-fine ws)
  where
    by : (arrow mark : Bool) → AllFine (facts_in ws) → AllFine (cond arrow ([] ∷ []) (cond mark ([] ∷ facts_in ws) (in_fact (piece_of w) (facts_in ws))))
    by true mark ih = (tt, tt)
    by false true ih = (tt, ih)
    by false false ih = fine-in (piece_of w) (facts_in ws) (fine-piece (is_any w) (is_rest w) w) ih

-- The same is said of the letters.

pub record Says (e : List (Option (List ℕ))) (c : List Choice) : Type 0 where
  pub all : length e ≡ 26
  pub says : (k : ℕ) → 65 ≤ k → k ≤ 90 → chosen k c ≡ meaning k e

abbrev put : ℕ → List ℕ → List Choice → List Choice
put k w c = record { letter = k; word = w } ∷ c

module _ (k : ℕ) (w : List ℕ) (e : List (Option (List ℕ))) (c : List Choice) (low : 65 ≤ k) (high : k ≤ 90) (s : Says e c) where
  says-by : (j : ℕ) → 65 ≤ j → j ≤ 90 → (b : Bool) → (k == j) ≡ b → cond b (Some w) (chosen j c) ≡ meaning j (with_meaning k w e)
  says-by j from to true is =
      let same : k ≡ j = eqb-true k j is in
      let here = s.all in
      subst (λ (i : ℕ). Some w ≡ meaning i (with_meaning k w e)) same (sym (get_or-set_same e (k - 65) (Some w) None (omega (arith, high, low, here))))
  says-by j from to false is =
      s.says j from to
      ∙ sym (get_or-set_other e (k - 65) (j - 65) (Some w) None (λ same. eqb-false k j is (omega (arith, same, from, low))))

  says-more : Says (with_meaning k w e) (put k w c)
  says-more = record {
    all = length-set e (k - 65) (Some w) ∙ s.all;
    says = λ j from to. says-by j from to (k == j) refl;
  }

says-none : Says (replicate 26 None) []
says-none = record {
  all = refl;
  says = λ k low high. sym (get_or-replicate 26 (k - 65) None None (omega (arith, low, high)));
}

-- Each way.

module _ (rest : List (Option (List ℕ)) → Bool) (ends : List Choice → Bool) (same : (e : List (Option (List ℕ))) (c : List Choice) → Says e c → rest e ≡ ends c) where
  way-is : (ps : List Piece) → AreFine ps → (ws : List (List ℕ)) (e : List (Option (List ℕ))) (c : List Choice) → Says e c → way rest ps ws e ≡ list_all ends (fits ps ws c)
  way-is [] fine [] e c s = same e c s ∙ sym (and-true (ends c))
  way-is [] fine (w ∷ ws) e c s = refl
  way-is (Word v ∷ ps) fine [] e c s = refl
  way-is (Word v ∷ ps) fine (w ∷ ws) e c s = by (bytes_eq v w) (way-is ps fine.1 ws e c s)
    where
      by : (b : Bool) → way rest ps ws e ≡ list_all ends (fits ps ws c) →
          behind_step (cond b steps.Fits steps.Misses) (way rest ps ws e) (λ k. way rest ps ws (with_meaning k w e)) ≡ list_all ends (cond b (fits ps ws c) [])
      by true ih = ih
      by false ih = refl
  way-is (Any ∷ ps) fine [] e c s = refl
  way-is (Any ∷ ps) fine (w ∷ ws) e c s = way-is ps fine.1 ws e c s
  way-is (Letter k ∷ ps) fine [] e c s = refl
  way-is (Letter k ∷ ps) fine (w ∷ ws) e c s =
      by (meaning k e) (s.says k fine.0.0 fine.0.1) (way-is ps fine.1 ws e c s)
      (way-is ps fine.1 ws (with_meaning k w e) (put k w c) (says-more k w e c fine.0.0 fine.0.1 s))
    where
      same-by : (b : Bool) → way rest ps ws e ≡ list_all ends (fits ps ws c) →
          behind_step (cond b steps.Fits steps.Misses) (way rest ps ws e) (λ k. way rest ps ws (with_meaning k w e))
          ≡ list_all ends (flat_map (λ (more : List Choice). fits ps ws more) (cond b (c ∷ []) []))
      same-by true ih = ih ∙ sym (all-one (λ (more : List Choice). fits ps ws more) ends c)
      same-by false ih = refl

      by : (o : Option (List ℕ)) → chosen k c ≡ o → way rest ps ws e ≡ list_all ends (fits ps ws c)
          → way rest ps ws (with_meaning k w e) ≡ list_all ends (fits ps ws (put k w c))
          → behind_step (letter_step k w o) (way rest ps ws e) (λ j. way rest ps ws (with_meaning j w e))
          ≡ list_all ends (flat_map (λ (more : List Choice). fits ps ws more) (with_word k w (chosen k c) c))
      by None is ih ih-put =
          subst (λ (o : Option (List ℕ)). way rest ps ws (with_meaning k w e) ≡ list_all ends (flat_map (λ (more : List Choice). fits ps ws more) (with_word k w o c))) (sym is)
          (ih-put ∙ sym (all-one (λ (more : List Choice). fits ps ws more) ends (put k w c)))
      by (Some word) is ih ih-put =
          subst (λ (o : Option (List ℕ)).
          behind_step (letter_step k w (Some word)) (way rest ps ws e) (λ j. way rest ps ws (with_meaning j w e))
          ≡ list_all ends (flat_map (λ (more : List Choice). fits ps ws more) (with_word k w o c))) (sym is)
          (same-by (bytes_eq w word) ih)
  way-is (Rest ∷ ps) fine ws e c s =
      all-same (λ (tail : List (List ℕ)). way rest ps tail e) (λ (tail : List (List ℕ)). list_all ends (fits ps tail c)) (tails ws)
      (λ tail. way-is ps fine.1 tail e c s)
      ∙ sym (all-flat (λ (tail : List (List ℕ)). fits ps tail c) ends (tails ws))

none-all : (xs : List (List Choice)) → is_none xs ≡ list_all (λ x. false) xs
none-all [] = refl
none-all (x ∷ xs) = refl

module _ (lines : List (List (List ℕ))) where
  abbrev by-line : List Piece → List Choice → List (List Choice)
  by-line f c = flat_map (λ (line : List (List ℕ)). fits f line c) lines

  abbrev found : List Piece → List (Option (List ℕ)) → Bool
  found f e = list_all (λ (line : List (List ℕ)). way (λ x. false) f line e) lines

  one-is : (right : List (List Piece)) → AllFine right → (e : List (Option (List ℕ))) (c : List Choice) → Says e c → one_right lines e right ≡ is_one_so lines c right
  one-is [] fine e c s = refl
  one-is (f ∷ fs) fine e c s =
      by (found f e) (is_none (by-line f c))
      (all-same (λ (line : List (List ℕ)). way (λ x. false) f line e) (λ (line : List (List ℕ)). list_all (λ x. false) (fits f line c)) lines
      (λ line. way-is (λ x. false) (λ x. false) (λ d b t. refl) f fine.0 line e c s)
      ∙ sym (all-flat (λ (line : List (List ℕ)). fits f line c) (λ x. false) lines)
      ∙ sym (none-all (by-line f c)))
      (one-is fs fine.1 e c s)
    where
      by : (a b : Bool) → a ≡ b → one_right lines e fs ≡ is_one_so lines c fs → (not a || one_right lines e fs) ≡ cond (not b) true (is_one_so lines c fs)
      by true b h ih = subst (λ (x : Bool). one_right lines e fs ≡ cond (not x) true (is_one_so lines c fs)) h ih
      by false b h ih = subst (λ (x : Bool). true ≡ cond (not x) true (is_one_so lines c fs)) h refl

  -- the choices of several are those of each
  choices-each : (ends : List Choice → Bool) (facts : List (List Piece)) (so_far : List (List Choice)) → list_all ends (choices facts lines so_far) ≡ list_all (λ (c : List Choice). list_all ends (choices facts lines (c ∷ []))) so_far
  choices-each ends [] so_far = all-same ends (λ (c : List Choice). list_all ends (c ∷ [])) so_far (λ c. sym (and-true (ends c)))
  choices-each ends (f ∷ fs) so_far =
      choices-each ends fs (flat_map (by-line f) so_far)
      ∙ all-flat (by-line f) later so_far
      ∙ all-same (λ (c : List Choice). list_all later (by-line f c)) (λ (c : List Choice). list_all ends (choices fs lines (flat_map (by-line f) (c ∷ [])))) so_far
      (λ c. sym (choices-each ends fs (flat_map (by-line f) (c ∷ [])) ∙ all-one (by-line f) later c))
    where
      later : List Choice → Bool
      later c = list_all ends (choices fs lines (c ∷ []))

  module _ (right : List (List Piece)) (fine-right : AllFine right) where
    abbrev so : List Choice → Bool
    so c = is_one_so lines c right

    left-is : (left : List (List Piece)) → AllFine left → (e : List (Option (List ℕ))) (c : List Choice) → Says e c → all_left lines right left e ≡ list_all so (choices left lines (c ∷ []))
    left-is [] fine e c s = one-is right fine-right e c s ∙ sym (and-true (so c))
    left-is (f ∷ fs) fine e c s =
        all-same (λ (line : List (List ℕ)). way (all_left lines right fs) f line e) (λ (line : List (List ℕ)). list_all (λ (d : List Choice). list_all so (choices fs lines (d ∷ []))) (fits f line c)) lines
        (λ line. way-is (all_left lines right fs) (λ (d : List Choice). list_all so (choices fs lines (d ∷ []))) (left-is fs fine.1) f fine.0 line e c s)
        ∙ sym (all-flat (λ (line : List (List ℕ)). fits f line c) (λ (d : List Choice). list_all so (choices fs lines (d ∷ []))) lines)
        ∙ sym (choices-each so fs (flat_map (by-line f) (c ∷ [])) ∙ all-one (by-line f) (λ (d : List Choice). list_all so (choices fs lines (d ∷ []))) c)

-- The claim.

pub implies-met : (ws : List (List ℕ)) (text : List ℕ) → all_left (words_in text) (facts_in (behind_middle ws)) (facts_in ws) (replicate 26 None) ≡ meets (claim_in Implies ws) text
unfolding meets
implies-met ws text = left-is (words_in text) (facts_in (behind_middle ws)) (facts-fine (behind_middle ws)) (facts_in ws) (facts-fine ws) (replicate 26 None) [] says-none

pub before-met : (ws : List (List ℕ)) (text : List ℕ) → all_left (words_in text) (facts_in ws) (facts_in (behind_middle ws)) (replicate 26 None) ≡ meets (claim_in Before ws) text
unfolding meets
before-met ws text = left-is (words_in text) (facts_in ws) (facts-fine ws) (facts_in (behind_middle ws)) (facts-fine (behind_middle ws)) (replicate 26 None) [] says-none

pub never-met : (ws : List (List ℕ)) (text : List ℕ) → all_left (words_in text) [] (facts_in ws) (replicate 26 None) ≡ meets (claim_in Never ws) text
unfolding meets
never-met ws text = left-is (words_in text) [] tt (facts_in ws) (facts-fine ws) (replicate 26 None) [] says-none

pub possible-met : (ws : List (List ℕ)) (text : List ℕ) → all_left (words_in text) [] (facts_in ws) (replicate 26 None) ≡ meets (claim_in Possible ws) text
unfolding meets
possible-met ws text = left-is (words_in text) [] tt (facts_in ws) (facts-fine ws) (replicate 26 None) [] says-none

pub always-met : (ws : List (List ℕ)) (text : List ℕ) → one_right (words_in text) (replicate 26 None) (facts_in ws) ≡ meets (claim_in Always ws) text
unfolding meets
always-met ws text = left-is (words_in text) (facts_in ws) (facts-fine ws) [] tt (replicate 26 None) [] says-none

-- When a claim is asked does not change what meets it.
asked-same : (b : Bool) (k : Claim) (text : List ℕ) → meets k text ≡ meets (asked_by b k) text
unfolding meets
asked-same b k text = refl

-- A claim that is taken apart in this form, with these words behind it.
pub as-claimed : (form : Form) (ws vs : List (List ℕ)) (claim : Claim) (text : List ℕ) → form ≡ form_in ws → vs ≡ facts_of ws → (b : Bool) × (asked_by b (claim_of_words ws) ≡ claim)
    → meets (claim_in form vs) text ≡ meets claim text
as-claimed form ws vs claim text forms facts is =
    ap (λ (k : Claim). meets k text) (ap₂ (λ (f : Form) (us : List (List ℕ)). claim_in f us) forms facts)
    ∙ asked-same is.0 (claim_of_words ws) text ∙ ap (λ (k : Claim). meets k text) is.1

pub never-or-possible : (form : Form) (vs : List (List ℕ)) (text : List ℕ) → (form ≡ Never) ⊎ (form ≡ Possible) → all_left (words_in text) [] (facts_in vs) (replicate 26 None) ≡ meets (claim_in form vs) text
never-or-possible form vs text (inl is) = never-met vs text ∙ ap (λ (f : Form). meets (claim_in f vs) text) (sym is)
never-or-possible form vs text (inr is) = possible-met vs text ∙ ap (λ (f : Form). meets (claim_in f vs) text) (sym is)
