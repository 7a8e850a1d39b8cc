-- The rule holds at the start.
use Rattle.std.proofs.Common.{◌≡◌, ℕ, zero, suc, ◌+◌, ◌-◌, List, [], ◌∷◌, get_or, length, sym, refl, ap, ◌∙◌, subst, arith}
use Rattle.std.proofs.lemmas.List.{length-map}
use Rattle.std.proofs.lemmas.List.Elements.{All-nil}
use mathlib.Core.Option.{some, some-injective, some-ne-none}
use lib.ListN.{get_elem?}
use Rattle.std.specs.List.{All}
use Rattle.std.specs.Prelude.{Option, Some, slice_get}
use Rattle.atomic_table.specs.Table.{opening}
use Rattle.atomic_table.proofs.Lists.{at_map}
use Rattle.chorus_turn.specs.declared.knowledge.Remarked.{Remarked}
use Rattle.chorus_turn.specs.declared.knowledge.Note.{Note}
use Rattle.chorus_turn.specs.declared.view.View.{View}
use Rattle.chorus_turn.specs.Rule.{word_of, Grasp, IsNumbered, Turned, first_view}
use Rattle.chorus_turn.proofs.Fronts.{starts_empty}
use Rattle.chorus_turn.proofs.Numbers.{numbered_first}
use Rattle.chorus_turn.specs.Lists.{somes}
use Rattle.chorus_turn.proofs.Rows.{length-somes, somes_each}

module _ {R : Type 0} (ws : List ℕ) (first : get_or ws 0 0 ≡ 1) where
  first_grasp : Grasp {R = R} (λ _. []) (λ _. []) ws first_view
  first_grasp = record {
    sees = λ p. starts_empty p [];
    saw = λ p. starts_empty p [];
    heard = λ p. starts_empty p [];
    own = refl;
    noted = All-nil (λ (n : Note R). n.mine ≡ []);
    unused = λ q there. refl;
    counts = λ _. sym first;
    plain = λ _. refl;
    holds = λ k e. absurd (omega arith);
  }

  each_first : (j : ℕ) (v : View R) → get_elem? (first_view ∷ []) j ≡ some v → Grasp (λ _. []) (λ _. []) ws v
  each_first zero v e = subst (λ (y : View R). Grasp (λ _. []) (λ _. []) ws y) (some-injective first_view v e) first_grasp
  each_first (suc j) v e = absurd (some-ne-none v (sym e))

module _ {S R : Type 0} (journal : S → List (Remarked R) → Type 0) (marked : ℕ → S → Type 0) where
  pub opens : (ws : List ℕ) (xs : List S) → length ws ≡ word_of (length xs) + 1 → get_or ws 0 0 ≡ 1 → ((k : ℕ) → get_or ws (k + 1) 0 ≡ 0) → All (λ x. journal x []) xs → ((k : ℕ) (x : S) → slice_get xs k ≡ Some x → marked (k + 1) x)
      → Turned journal marked (opening ws (somes xs) (first_view {R = R}))
  opens ws xs wide first zeros fresh marks = let long = length-map {A = Option S} (somes xs) some in let long' = length-somes xs in record {
    work = λ _. [];
    log = λ _. [];
    wide = omega arith;
    numbered = subst (λ (n : ℕ). IsNumbered n (first_view {R = R} ∷ [])) (sym first) numbered_first;
    each = λ j v e alive. each_first ws first j v e;
    made = λ p q. refl;
    unmade = λ q le. refl;
    home = λ k inside free. let t = somes_each (λ x. journal x []) xs k (omega arith) fresh in (t.0, at_map some (somes xs) k (Some t.0) t.1, t.3, marks k t.0 t.2);
    out = λ k inside taken. let place : (word_of (k + 1) - 1) + 1 ≡ word_of (k + 1) = omega arith in absurd (taken (ap (λ n. get_or ws n 0) (sym place) ∙ zeros (word_of (k + 1) - 1)));
  }
