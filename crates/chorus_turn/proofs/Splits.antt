-- A new pass, and a copy of what a pass knows, keep the rule of turns.
use Rattle.std.proofs.Common.{◌≡◌, ℕ, ◌+◌, true, true≢false, List, [], ◌∷◌, ◌++◌, get_or, set, sym, refl, ap, ◌∙◌, subst, ⊎_elim, arith}
use Rattle.std.specs.Prelude.{Option}
use Rattle.std.proofs.lemmas.List.Elements.{All-nil}
use Rattle.atomic_table.specs.Table.{State, Splits}
use Rattle.atomic_table.proofs.Lists.{set_again, at_longer, at_snoc}
use Rattle.chorus_turn.specs.declared.knowledge.Remarked.{Remarked}
use Rattle.chorus_turn.specs.declared.knowledge.Note.{Note}
use Rattle.chorus_turn.specs.declared.view.View.{View}
use Rattle.chorus_turn.specs.Lists.{times, first_or}
use Rattle.chorus_turn.specs.Rule.{Grasp, Turned, left_view, admitted_view, closing_view}
use Rattle.chorus_turn.proofs.Counts.{one-same}
use Rattle.chorus_turn.proofs.Fronts.{starts_empty}
use Rattle.chorus_turn.proofs.Views.{each_set, still_held}
use Rattle.chorus_turn.proofs.Numbers.{numbered_admitted, numbered_left}

module _ {S R : Type 0} (journal : S → List (Remarked R) → Type 0) (marked : ℕ → S → Type 0) where
  pub splits : (id : ℕ) (v : View R) (n : ℕ) → v.live ≡ true → v.holding ≡ 0 → v.drawn ≡ n ∷ [] → Splits (Turned journal marked) id v (left_view v) (admitted_view v)
  splits id v n live rest drawn s r at = let l : View R = left_view v in let w : View R = admitted_view v in let mine = r.each id v at live in let vs : List (View R) = set s.views id l in
      let number : w.knows.seat ≡ n = ap (first_or 0) drawn in
      let unused : r.work n ≡ [] = mine.unused n (let d = ap (times n) drawn in let h = one-same n n refl in omega arith) in record {
        work = r.work;
        log = r.log;
        wide = r.wide;
        numbered = numbered_admitted (get_or s.words 0 0) s.views id n v r.numbered at live drawn;
        each = λ j u e. ⊎_elim
            (λ old. each_set (λ _ y. y.live ≡ true → Grasp r.work r.log s.words y) s.views id l
            (λ _. record { sees = mine.sees; saw = mine.saw; heard = mine.heard; own = mine.own; noted = mine.noted; unused = λ q there. absurd (omega arith); counts = mine.counts; plain = λ _. refl; holds = mine.holds })
            (λ i y _ e. r.each i y e) j u old)
            (λ (new : w ≡ u). subst (λ (y : View R). y.live ≡ true → Grasp r.work r.log s.words y) new (λ _. record {
              sees = mine.sees;
              saw = λ p. starts_empty p (r.log p);
              heard = λ p. starts_empty p (r.log p);
              own = sym unused ∙ ap r.work (sym number);
              noted = All-nil (λ (n : Note R). n.mine ≡ r.work n.seat);
              unused = λ q there. absurd (omega arith);
              counts = λ e. absurd (true≢false (sym e));
              plain = λ _. refl;
              holds = λ k e. absurd (omega arith);
            })) (at_snoc vs w u j e);
        made = r.made;
        unmade = r.unmade;
        home = r.home;
        out = λ k inside taken. let h = still_held s.views id (k + 1) v l at (λ e. omega arith) (r.out k inside taken) in (h.0, h.1, at_longer vs (w ∷ []) h.0 h.1 h.2, h.3, h.4);
      }

  left : (s : State (Option S) (View R)) (r : Turned journal marked s) (v : View R) → Turned journal marked record { words = s.words; homes = s.homes; views = s.views ++ closing_view v ∷ [] }
  left s r v = let w : View R = closing_view v in record {
    work = r.work;
    log = r.log;
    wide = r.wide;
    numbered = numbered_left (get_or s.words 0 0) s.views v r.numbered;
    each = λ j u e. ⊎_elim (λ old. r.each j u old) (λ (new : w ≡ u) alive. absurd (true≢false (sym alive ∙ ap (λ (y : View R). y.live) (sym new)))) (at_snoc s.views w u j e);
    made = r.made;
    unmade = r.unmade;
    home = r.home;
    out = λ k inside taken. let h = r.out k inside taken in (h.0, h.1, at_longer s.views (w ∷ []) h.0 h.1 h.2, h.3, h.4);
  }

  pub leaves : (id : ℕ) (v : View R) → Splits (Turned journal marked) id v v (closing_view v)
  leaves id v s r at = subst (λ (vs : List (View R)). Turned journal marked record { words = s.words; homes = s.homes; views = vs ++ closing_view v ∷ [] }) (sym (set_again s.views id v at)) (left s r v)
