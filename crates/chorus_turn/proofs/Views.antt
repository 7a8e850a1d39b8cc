-- What the rule says of single views, and of the words.
use Rattle.std.proofs.Common.{◌≡◌, ◌≢◌, ℕ, zero, suc, ◌+◌, ◌<◌, ◌≤◌, eqb, true, List, [], ◌∷◌, ◌++◌, get_or, set, length, sym, refl, ap, ◌∙◌, subst, ⊎_elim, arith, length-append, lt_of_not-le}
use mathlib.Core.Option.{some, some-injective, some-ne-none}
use mathlib.Core.Logic.{dite}
use native.Mathlib.Decide.{dec_le}
use lib.ListN.{get_elem?}
use Rattle.atomic_table.proofs.Lists.{at_set, set_else}
use Rattle.chorus_turn.specs.declared.knowledge.Remarked.{Remarked}
use Rattle.chorus_turn.specs.declared.knowledge.Placed.{Placed}
use Rattle.chorus_turn.specs.declared.view.View.{View}
use Rattle.chorus_turn.specs.Lists.{one, times}
use Rattle.chorus_turn.specs.Knowing.{seats_of}
use Rattle.chorus_turn.specs.Rule.{word_of, if_live, one_if_live, claims, keepers, Grasp, IsHeld, IsNumbered}
use Rattle.chorus_turn.proofs.Counts.{one_within, two_within, times-append, one-same}
use Rattle.chorus_turn.proofs.Parts.{length-seats_of}

-- the words of two places differ, so what holds of a place holds of each place with its word
pub at_word : (k : ℕ) (F : ℕ → Type 0) → F (k + 1) → (p : ℕ) → word_of (k + 1) ≡ word_of p → F p
at_word k F here p same = let is : k + 1 ≡ p = omega arith in subst F is here

module _ {R : Type 0} where
  -- other words tell the view the same, where word 0 and the word of its place are as they were
  pub grasp_again : (work : ℕ → List (Placed R)) (log : ℕ → List (Remarked R)) (ws ws' : List ℕ) (u : View R) → get_or ws' 0 0 ≡ get_or ws 0 0 → ((k : ℕ) → u.holding ≡ k + 1 → get_or ws' (word_of (k + 1)) 0 ≡ get_or ws (word_of (k + 1)) 0)
      → Grasp work log ws u → Grasp work log ws' u
  grasp_again work log ws ws' u first same g = record {
    sees = g.sees;
    saw = g.saw;
    heard = g.heard;
    own = g.own;
    noted = g.noted;
    unused = g.unused;
    counts = λ e. g.counts e ∙ sym first;
    plain = g.plain;
    holds = λ k e. (same k e ∙ (g.holds k e).0, (g.holds k e).1);
  }

  pub claims_live : (u : View R) → u.live ≡ true → claims u ≡ u.knows.seat ∷ (u.drawn ++ seats_of u.knows.notes)
  claims_live u e = ap (λ b. if_live b (u.knows.seat ∷ (u.drawn ++ seats_of u.knows.notes))) e

  -- how often a live view claims a number
  pub times_claims : (q : ℕ) (u : View R) → u.live ≡ true → times q (claims u) ≡ one (eqb u.knows.seat q) + (times q u.drawn + times q (seats_of u.knows.notes))
  times_claims q u e = let c = ap (times q) (claims_live u e) in let both = times-append q u.drawn (seats_of u.knows.notes) in omega arith

  pub claims_own : (u : View R) → u.live ≡ true → 1 ≤ times u.knows.seat (claims u)
  claims_own u e = let c = times_claims u.knows.seat u e in let here = one-same u.knows.seat u.knows.seat refl in omega arith

  pub length-claims : (u : View R) → u.live ≡ true → length (claims u) ≡ 1 + (length u.drawn + length u.knows.notes)
  length-claims u e = let c = ap (λ (l : List ℕ). length l) (claims_live u e) in let n = length-seats_of u.knows.notes in omega (arith, length-append u.drawn (seats_of u.knows.notes))

  pub keepers_live : (u : View R) → u.live ≡ true → keepers u ≡ one u.knows.keeper
  keepers_live u e = ap (λ b. one_if_live b u.knows.keeper) e

  -- a fact of each view, where one view is changed
  pub each_set : (F : ℕ → View R → Type 0) (vs : List (View R)) (id : ℕ) (w : View R) → F id w → ((j : ℕ) (u : View R) → j ≢ id → get_elem? vs j ≡ some u → F j u) → (j : ℕ) (u : View R) → get_elem? (set vs id w) j ≡ some u → F j u
  each_set F vs id w mine others j u e = ⊎_elim (λ (x : (j ≡ id) × (w ≡ u)). subst (λ (y : ℕ × View R). F y.0 y.1) (λ i. (sym x.0 i, x.1 i)) mine)
      (λ (x : (j ≢ id) × (get_elem? vs j ≡ some u)). others j u x.0 x.1) (at_set vs id j w u e)

  -- two views at one index hold one place
  same_holding : (vs : List (View R)) (i j : ℕ) (v u : View R) → get_elem? vs i ≡ some v → get_elem? vs j ≡ some u → j ≡ i → u.holding ≡ v.holding
  same_holding vs i j v u e d is = ap (λ (y : View R). y.holding) (some-injective u v (sym d ∙ (ap (λ (k : ℕ). get_elem? vs k) is ∙ e)))

  -- a view that holds the place stands elsewhere than one that holds another, or none
  pub holder_apart : (vs : List (View R)) (id p : ℕ) (v : View R) → get_elem? vs id ≡ some v → v.holding ≢ p → (h : IsHeld p vs) → h.0 ≢ id
  holder_apart vs id p v at apart h is = apart (sym (same_holding vs id h.0 v h.1 at h.2 is) ∙ h.4)

  -- the place is held still where such a view changes
  pub still_held : (vs : List (View R)) (id p : ℕ) (v w : View R) → get_elem? vs id ≡ some v → v.holding ≢ p → IsHeld p vs → IsHeld p (set vs id w)
  still_held vs id p v w at apart h = (h.0, h.1, set_else vs id h.0 w (holder_apart vs id p v at apart h) ∙ h.2, h.3, h.4)

pub at_inside : {A : Type 0} (l : List A) (i : ℕ) (a : A) → get_elem? l i ≡ some a → i < length l
at_inside [] i a e = absurd (some-ne-none a (sym e))
at_inside (x ∷ xs) zero a e = omega arith
at_inside (x ∷ xs) (suc i) a e = let more = at_inside xs i a e in omega arith

module _ {R : Type 0} (n : ℕ) (vs : List (View R)) (r : IsNumbered n vs) where
  pub seat_below : (j : ℕ) (u : View R) → get_elem? vs j ≡ some u → u.live ≡ true → u.knows.seat < n
  seat_below j u at live = dite (dec_le n u.knows.seat)
      (λ le. let none_there = r.beyond u.knows.seat le in let here = one_within (λ (v : View R). times u.knows.seat (claims v)) vs j u at in let c = claims_own u live in absurd (omega arith))
      (λ more. lt_of_not-le more)

  -- the number of a live view is claimed by no other view
  pub seat_apart : (i j : ℕ) (v u : View R) → get_elem? vs i ≡ some v → v.live ≡ true → get_elem? vs j ≡ some u → j ≢ i → times v.knows.seat (claims u) ≡ 0
  seat_apart i j v u at live there apart =
      let two = two_within (λ (x : View R). times v.knows.seat (claims x)) vs j i u v apart there at in let c = claims_own v live in let o = r.once v.knows.seat in omega arith

  pub seats_differ : (i j : ℕ) (v u : View R) → get_elem? vs i ≡ some v → v.live ≡ true → get_elem? vs j ≡ some u → u.live ≡ true → j ≢ i → u.knows.seat ≢ v.knows.seat
  seats_differ i j v u at live there live' apart same =
      let z = seat_apart i j v u at live there apart in let c = claims_own u live' in let t = ap (λ (x : ℕ). times x (claims u)) same in absurd (omega arith)

  -- where the notes of a view and its own number are all the numbers, there is no other live view
  pub alone : (i j : ℕ) (v u : View R) → get_elem? vs i ≡ some v → v.live ≡ true → get_elem? vs j ≡ some u → u.live ≡ true → j ≢ i → n ≤ length v.knows.notes + 1 → ⊥
  alone i j v u at live there live' apart all =
      let two = two_within (λ (x : View R). length (claims x)) vs j i u v apart there at in let a = length-claims v live in let b = length-claims u live' in let c = r.count in omega arith
