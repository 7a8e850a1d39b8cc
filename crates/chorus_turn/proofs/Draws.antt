-- Drawing a number, and a look at the count, keep the rule of turns.
use Rattle.std.proofs.Common.{◌≡◌, ℕ, ◌+◌, ◌≤◌, true, List, [], get_or, set, length, sym, refl, ap, ◌∙◌, subst, arith, length-set, get_or-set_other, get_or-set_same, true≢false}
use mathlib.Core.Option.{none, some}
use mathlib.Core.Logic.{dite}
use native.Mathlib.Decide.{ℕ_discrete}
use lib.ListN.{get_elem?}
use lib.Seq.{set-get_or}
use Rattle.std.specs.Prelude.{Option}
use Rattle.atomic_table.specs.Table.{State, Me, keeps, step, stepped, Allows}
use Rattle.chorus_turn.specs.declared.knowledge.Remarked.{Remarked}
use Rattle.chorus_turn.specs.declared.view.View.{View}
use Rattle.chorus_turn.specs.Lists.{list_at, longer, one}
use Rattle.chorus_turn.specs.Knowing.{limit}
use Rattle.chorus_turn.specs.Rule.{word_of, claims, keepers, Grasp, IsNumbered, Turned, IsAtRest, drawn_view, settled_view, draw_then, count_then}
use Rattle.chorus_turn.proofs.Counts.{one_within, two_within, one-other, nothing_in}
use Rattle.chorus_turn.proofs.Fronts.{list_at-longer, longer_of_fronts, starts_empty}
use Rattle.chorus_turn.proofs.Views.{length-claims, keepers_live, each_set, still_held}
use Rattle.chorus_turn.proofs.Numbers.{numbered_same, numbered_drawn}

module _ {S R : Type 0} (journal : S → List (Remarked R) → Type 0) (marked : ℕ → S → Type 0) where
  abbrev St : Type 0
  St = State (Option S) (View R)

  drawn : (s : St) (r : Turned journal marked s) (id n : ℕ) (v : View R) → get_elem? s.views id ≡ some v → IsAtRest v → v.knows.keeper ≡ true → n ≡ v.knows.made + 1 → n ≤ limit
      → Turned journal marked record { words = set s.words 0 n; homes = s.homes; views = set s.views id (drawn_view v) }
  drawn s r id n v at rest keeper is fit = let w : View R = drawn_view v in let mine = r.each id v at rest.0 in let count : v.knows.made ≡ get_or s.words 0 0 = mine.counts keeper in let wide = r.wide in
      let ws : List ℕ = set s.words 0 n in
      let first : get_or ws 0 0 ≡ n = get_or-set_same s.words 0 n 0 (omega arith) in
      let more : n ≡ get_or s.words 0 0 + 1 = omega arith in
      let other : (k : ℕ) → get_or ws (word_of (k + 1)) 0 ≡ get_or s.words (word_of (k + 1)) 0 = λ k. get_or-set_other s.words 0 (word_of (k + 1)) n 0 (λ e. omega arith) in record {
        work = r.work;
        log = r.log;
        wide = omega (arith, length-set s.words 0 n);
        numbered = subst (λ (m : ℕ). IsNumbered m (set s.views id w)) (sym (first ∙ more)) (numbered_drawn (get_or s.words 0 0) s.views id v r.numbered at rest.0 (nothing_in v.drawn rest.2) count (omega arith));
        each = each_set (λ _ y. y.live ≡ true → Grasp r.work r.log ws y) s.views id w
            (λ _. record {
              sees = mine.sees;
              saw = mine.saw;
              heard = mine.heard;
              own = mine.own;
              noted = mine.noted;
              unused = λ q there. dite (ℕ_discrete v.knows.made q) (λ e. r.unmade q (omega arith)) (λ apart. let z = one-other q v.knows.made apart in absurd (omega arith));
              counts = λ _. sym is ∙ sym first;
              plain = λ e. absurd (true≢false (sym keeper ∙ e));
              holds = λ k e. let h = mine.holds k e in (other k ∙ h.0, h.1);
            })
            (λ j y apart e alive. let g = r.each j y e alive in record {
              sees = g.sees;
              saw = g.saw;
              heard = g.heard;
              own = g.own;
              noted = g.noted;
              unused = g.unused;
              counts = λ too. let two = two_within keepers s.views id j v y (λ same. apart (sym same)) at e in let a = keepers_live v rest.0 in let b = keepers_live y alive in let c = ap one keeper in let d = ap one too in let o = r.numbered.one_keeper in absurd (omega arith);
              plain = g.plain;
              holds = λ k held. let h = g.holds k held in (other k ∙ h.0, h.1);
            });
        made = r.made;
        unmade = λ q le. r.unmade q (omega arith);
        home = λ k inside free. r.home k inside (sym (other k) ∙ free);
        out = λ k inside taken. still_held s.views id (k + 1) v w at (λ e. let z = rest.1 in omega arith) (r.out k inside (λ e. taken (other k ∙ e)));
      }

  pub draws : (slots id n : ℕ) (me : Me (Option S) (View R)) → IsAtRest me.0 → me.0.knows.keeper ≡ true → n ≡ me.0.knows.made + 1 → n ≤ limit → Allows (Turned journal marked) slots id me 0 (λ _. n) (draw_then (step slots 0 n 0 none) me)
  draws slots id n me rest keeper is fit s r size at small = (drawn_view me.0, keeps, tt, drawn s r id n me.0 at rest keeper is fit, refl)

  settled : (s : St) (r : Turned journal marked s) (id : ℕ) (v : View R) → get_elem? s.views id ≡ some v → IsAtRest v → Turned journal marked (stepped s 0 (get_or s.words 0 0) id [] (settled_view v) keeps)
  settled s r id v at rest = let w : View R = settled_view v in let mine = r.each id v at rest.0 in
      subst (λ (ws : List ℕ). Turned journal marked record { words = ws; homes = s.homes; views = set s.views id w }) (sym (set-get_or s.words 0 0)) record {
        work = r.work;
        log = r.log;
        wide = r.wide;
        numbered = numbered_same (get_or s.words 0 0) s.views id v w r.numbered at refl refl;
        each = each_set (λ _ y. y.live ≡ true → Grasp r.work r.log s.words y) s.views id w
            (λ _. record { sees = mine.sees; saw = λ p. starts_empty p (r.log p); heard = λ p. starts_empty p (r.log p); own = mine.own; noted = mine.noted; unused = mine.unused; counts = mine.counts; plain = mine.plain; holds = mine.holds })
            (λ i y _ e. r.each i y e);
        made = r.made;
        unmade = r.unmade;
        home = r.home;
        out = λ k inside taken. still_held s.views id (k + 1) v w at (λ e. let z = rest.1 in omega arith) (r.out k inside taken);
      }

  pub counts : (slots id : ℕ) (me : Me (Option S) (View R)) → me.1 ≡ [] → IsAtRest me.0 → Allows (Turned journal marked) slots id me 0 (λ n. n) (count_then (step slots 0 0 0 none) me)
  counts slots id me none_out rest s r size at small = let v : View R = me.0 in let mine = r.each id v at rest.0 in (
    settled_view v,
    keeps,
    tt,
    settled s r id v at rest,
    (
      refl,
      (let a = length-claims v rest.0 in let b = one_within (λ (y : View R). length (claims y)) s.views id v at in let c = r.numbered.count in let f = r.numbered.few in omega arith),
      (λ is p. let x : List (Remarked R) = list_at p v.former in let y : List (Remarked R) = list_at p v.heard in let a = mine.saw p in let b = mine.heard p in
          let both = longer_of_fronts x y a.0 b.0 (sym a.1 ∙ b.1) in let same : list_at p v.knows.seen ≡ longer x y = ap (list_at p) is ∙ list_at-longer p v.former v.heard in
          ((both.0.0, same ∙ both.0.1), (both.1.0, same ∙ both.1.1))),
    ),
  )
