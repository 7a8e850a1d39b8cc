-- What is so of a word of a claim at what is left of a line, by what that word is.
-- p is a word of the claim, ps are those behind it, w and ws those of the line, e says what letters stand for.
use Rattle.std.proofs.Common.{ℕ, ◌≡◌, ◌==◌, length, Bool, true, false, not, ◌&&◌, ◌||◌, cond, List, [], ◌∷◌, codes, Option, Some, None, refl, sym, ◌∙◌, ap, subst, arith}
use Rattle.std.specs.List.{list_all}
use Rattle.std.proofs.lemmas.Bool.{eqb-true}
use Rattle.chorus_claims.specs.Words.{not_empty, is_middle, is_mark, is_any, is_rest, letter_in, words_in}
use Rattle.chorus_claims.specs.Pieces.{Piece, Any, Rest, tails}
use Rattle.chorus_claims.specs.Shapes.{piece_of, piece_or_word, in_fact, facts_in}
use Rattle.chorus_claims.specs.Ways.{step_of, behind_step, with_meaning, way, one_right, all_left, first_fact, later_facts, goes_on, right_of, way_from, each_line, each_tail, behind_rests}
use Rattle.chorus_claims.specs.declared.matching.Asked.{Asked}
use Rattle.chorus_claims.specs.declared.matching.Ending.{Ending}
use Rattle.chorus_claims.specs.declared.matching.Ending.TheVariants.{Goes, Found}
use Rattle.chorus_lines.specs.Text as text_lines
use Rattle.chorus_claims.proofs.Lists.{all-same, and-true, from-bytes}

module _ (asked : Asked) (ending : Ending) where
  abbrev lines : List (List (List ℕ))
  lines = words_in asked.lines.now

  abbrev right : List (List Piece)
  right = right_of asked.right

  -- the same, of the facts that begin here
  abbrev from : List (List Piece) → List (List ℕ) → List (Option (List ℕ)) → Bool
  from facts ws e = way (goes_on ending lines right (later_facts facts)) (first_fact facts) ws e

  -- nothing is left of the claim
  pub at-end : (ps ws : List (List ℕ)) (e : List (Option (List ℕ))) → ps ≡ [] → way_from asked ending ps ws e ≡ (not_empty ws || goes_on ending lines right [] e)
  at-end ps ws e is = ap (λ (qs : List (List ℕ)). way_from asked ending qs ws e) is

  pub at-middle : (p : List ℕ) (ps ws : List (List ℕ)) (e : List (Option (List ℕ))) → is_middle p ≡ true → way_from asked ending (p ∷ ps) ws e ≡ (not_empty ws || goes_on ending lines right [] e)
  at-middle p ps ws e arrow =
      ap (λ (b : Bool). from (cond b ([] ∷ []) (cond (is_mark p) ([] ∷ facts_in ps) (in_fact (piece_of p) (facts_in ps)))) ws e) arrow

  pub at-mark : (p : List ℕ) (ps ws : List (List ℕ)) (e : List (Option (List ℕ))) → is_middle p ≡ false → is_mark p ≡ true → way_from asked ending (p ∷ ps) ws e ≡ (not_empty ws || goes_on ending lines right (facts_in ps) e)
  at-mark p ps ws e arrow mark =
      ap (λ (b : Bool). from (cond b ([] ∷ []) (cond (is_mark p) ([] ∷ facts_in ps) (in_fact (piece_of p) (facts_in ps)))) ws e) arrow
      ∙ ap (λ (b : Bool). from (cond b ([] ∷ facts_in ps) (in_fact (piece_of p) (facts_in ps))) ws e) mark

  -- a word that is no mark is a piece of its fact
  plain : (p : List ℕ) (ps ws : List (List ℕ)) (e : List (Option (List ℕ))) → is_middle p ≡ false → is_mark p ≡ false → way_from asked ending (p ∷ ps) ws e ≡ from (in_fact (piece_of p) (facts_in ps)) ws e
  plain p ps ws e arrow mark =
      ap (λ (b : Bool). from (cond b ([] ∷ []) (cond (is_mark p) ([] ∷ facts_in ps) (in_fact (piece_of p) (facts_in ps)))) ws e) arrow
      ∙ ap (λ (b : Bool). from (cond b ([] ∷ facts_in ps) (in_fact (piece_of p) (facts_in ps))) ws e) mark

  rest-in : (facts : List (List Piece)) (ws : List (List ℕ)) (e : List (Option (List ℕ))) → from (in_fact Rest facts) ws e ≡ list_all (λ (tail : List (List ℕ)). from facts tail e) (tails ws)
  rest-in [] ws e = refl
  rest-in (f ∷ facts) ws e = refl

  pub at-rest : (p : List ℕ) (ps ws : List (List ℕ)) (e : List (Option (List ℕ))) → is_rest p ≡ true → way_from asked ending (p ∷ ps) ws e ≡ each_tail asked ending ps ws e
  at-rest p ps ws e rest =
      ap (λ (q : List ℕ). way_from asked ending (q ∷ ps) ws e) (from-bytes p (codes "..") rest) ∙ rest-in (facts_in ps) ws e

  -- a piece that is not `..`
  module _ (ws : List (List ℕ)) (e : List (Option (List ℕ))) where
    none-in : (o : Option ℕ) (p : List ℕ) (facts : List (List Piece)) → from (in_fact (piece_or_word p o) facts) [] e ≡ true
    none-in None p [] = refl
    none-in None p (f ∷ facts) = refl
    none-in (Some k) p [] = refl
    none-in (Some k) p (f ∷ facts) = refl

    any-none : (facts : List (List Piece)) → from (in_fact Any facts) [] e ≡ true
    any-none [] = refl
    any-none (f ∷ facts) = refl

    abbrev piece_by : Bool → Bool → List ℕ → Piece
    piece_by any rest p = cond any Any (cond rest Rest (piece_or_word p (letter_in p)))

    none-by : (any rest : Bool) (p : List ℕ) (facts : List (List Piece)) → rest ≡ false → from (in_fact (piece_by any rest p) facts) [] e ≡ true
    none-by true rest p facts r = any-none facts
    none-by false true p facts r = absurd cc
    none-by false false p facts r = none-in (letter_in p) p facts

    abbrev stepped : Piece → List ℕ → List (List Piece) → Bool
    stepped piece w facts = behind_step (step_of piece w e) (from facts ws e) (λ k. from facts ws (with_meaning k w e))

    one-in : (o : Option ℕ) (p w : List ℕ) (facts : List (List Piece)) → from (in_fact (piece_or_word p o) facts) (w ∷ ws) e ≡ stepped (piece_or_word p o) w facts
    one-in None p w [] = refl
    one-in None p w (f ∷ facts) = refl
    one-in (Some k) p w [] = refl
    one-in (Some k) p w (f ∷ facts) = refl

    any-one : (w : List ℕ) (facts : List (List Piece)) → from (in_fact Any facts) (w ∷ ws) e ≡ stepped Any w facts
    any-one w [] = refl
    any-one w (f ∷ facts) = refl

    one-by : (any rest : Bool) (p w : List ℕ) (facts : List (List Piece)) → rest ≡ false → from (in_fact (piece_by any rest p) facts) (w ∷ ws) e ≡ stepped (piece_by any rest p) w facts
    one-by true rest p w facts r = any-one w facts
    one-by false true p w facts r = absurd cc
    one-by false false p w facts r = one-in (letter_in p) p w facts

  -- no word of the line is left
  pub at-none : (p : List ℕ) (ps ws : List (List ℕ)) (e : List (Option (List ℕ))) → is_rest p ≡ false → is_middle p ≡ false → is_mark p ≡ false → ws ≡ [] → way_from asked ending (p ∷ ps) ws e ≡ true
  at-none p ps ws e rest arrow mark none =
      plain p ps ws e arrow mark ∙ ap (λ (vs : List (List ℕ)). from (in_fact (piece_of p) (facts_in ps)) vs e) none
      ∙ none-by ws e (is_any p) (is_rest p) p (facts_in ps) rest

  -- a word of the line
  pub at-one : (p w : List ℕ) (ps ws : List (List ℕ)) (e : List (Option (List ℕ))) → is_rest p ≡ false → is_middle p ≡ false → is_mark p ≡ false
      → way_from asked ending (p ∷ ps) (w ∷ ws) e ≡ behind_step (step_of (piece_of p) w e) (way_from asked ending ps ws e) (λ k. way_from asked ending ps ws (with_meaning k w e))
  at-one p w ps ws e rest arrow mark =
      plain p ps (w ∷ ws) e arrow mark ∙ one-by ws e (is_any p) (is_rest p) p w (facts_in ps) rest

-- there is a fact on each side
some-facts : (ws : List (List ℕ)) → facts_in ws ≡ first_fact (facts_in ws) ∷ later_facts (facts_in ws)
some-facts [] = refl
some-facts (w ∷ ws) = by (is_middle w) (is_mark w) (piece_of w) (facts_in ws)
  where
    by : (arrow mark : Bool) (p : Piece) (fs : List (List Piece)) →
        cond arrow ([] ∷ []) (cond mark ([] ∷ fs) (in_fact p fs))
        ≡ first_fact (cond arrow ([] ∷ []) (cond mark ([] ∷ fs) (in_fact p fs)))
        ∷ later_facts (cond arrow ([] ∷ []) (cond mark ([] ∷ fs) (in_fact p fs)))
    by true mark p fs = refl
    by false true p fs = refl
    by false false p [] = refl
    by false false p (f ∷ fs) = refl

pub all-left : (asked : Asked) (ws : List (List ℕ)) (e : List (Option (List ℕ))) → each_line asked Goes ws e ≡ all_left (words_in asked.lines.now) (right_of asked.right) (facts_in ws) e
all-left asked ws e =
    sym (ap (λ (fs : List (List Piece)). all_left (words_in asked.lines.now) (right_of asked.right) fs e) (some-facts ws))

-- a fact on the right is so, or a later one is
module _ (asked : Asked) (ws : List (List ℕ)) (e : List (Option (List ℕ))) where
  abbrev one : List (List Piece) → Bool
  one fs = one_right (words_in asked.lines.now) e fs

  one-or : one (facts_in ws) ≡ (not (each_line asked Found ws e) || one (later_facts (facts_in ws)))
  one-or = ap one (some-facts ws)

  pub first-so : each_line asked Found ws e ≡ false → true ≡ one (facts_in ws)
  first-so h = sym (one-or ∙ ap (λ (b : Bool). not b || one (later_facts (facts_in ws))) h)

  pub later-so : (fs : List (List Piece)) → each_line asked Found ws e ≡ true → later_facts (facts_in ws) ≡ fs → one fs ≡ one (facts_in ws)
  later-so fs h is = sym (one-or ∙ ap (λ (b : Bool). not b || one (later_facts (facts_in ws))) h ∙ ap one is)

pub no-lines : (asked : Asked) (ending : Ending) (ps : List (List ℕ)) (e : List (Option (List ℕ))) (text : List ℕ) (all : Bool) → text ≡ []
    → list_all (λ (line : List (List ℕ)). way_from asked ending ps line e) (words_in text) ≡ all → true ≡ all
unfolding text_lines.lines
no-lines asked ending ps e text all is h = subst (λ (t : List ℕ). list_all (λ (line : List (List ℕ)). way_from asked ending ps line e) (words_in t) ≡ all) is h

pub is-empty : (text : List ℕ) → (length text == 0) ≡ true → text ≡ []
is-empty [] h = refl
is-empty (c ∷ cs) h = absurd (let e = eqb-true (length (c ∷ cs)) 0 h in omega (arith, e))

-- `..` behind `..`

tails-of : (p : List (List ℕ) → Bool) (ws : List (List ℕ)) → list_all (λ (tail : List (List ℕ)). list_all p (tails tail)) (tails ws) ≡ list_all p (tails ws)
tails-of p [] = and-true (list_all p (tails []))
tails-of p (w ∷ ws) = ap (λ (b : Bool). (p (w ∷ ws) && list_all p (tails ws)) && b) (tails-of p ws) ∙ twice (p (w ∷ ws)) (list_all p (tails ws))
  where
    twice : (a b : Bool) → ((a && b) && b) ≡ (a && b)
    twice true true = refl
    twice true false = refl
    twice false b = refl

pub rests-behind : (asked : Asked) (ending : Ending) (ps ws : List (List ℕ)) (e : List (Option (List ℕ))) → each_tail asked ending ps ws e ≡ each_tail asked ending (behind_rests ps) ws e
rests-behind asked ending [] ws e = refl
rests-behind asked ending (p ∷ ps) ws e = by (is_rest p) refl (rests-behind asked ending ps ws e)
  where
    by : (b : Bool) → is_rest p ≡ b → each_tail asked ending ps ws e ≡ each_tail asked ending (behind_rests ps) ws e
        → each_tail asked ending (p ∷ ps) ws e ≡ each_tail asked ending (cond b (behind_rests ps) (p ∷ ps)) ws e
    by true is ih =
        all-same (λ (tail : List (List ℕ)). way_from asked ending (p ∷ ps) tail e) (λ (tail : List (List ℕ)). each_tail asked ending ps tail e) (tails ws) (λ tail. at-rest asked ending p ps tail e is)
        ∙ tails-of (λ (tail : List (List ℕ)). way_from asked ending ps tail e) ws
        ∙ ih
    by false is ih = refl
