-- The one try of a call keeps the rule of turns, whether it takes the place or finds it held.
use Rattle.std.proofs.Common.{◌≡◌, ◌≢◌, ℕ, ◌+◌, ◌-◌, ◌<◌, ◌≤◌, eqb, true, List, [], ◌∷◌, get_or, set, length, sym, refl, ap, ◌∙◌, subst, arith, eq-eqb, ne_eqb, length-set, get_or-set_other, get_or-set_same}
use Rattle.std.proofs.lemmas.List.Elements.{All-weaker}
use mathlib.Core.Option.{none, some}
use mathlib.Core.Logic.{dite}
use native.Mathlib.Decide.{ℕ_discrete}
use lib.ListN.{get_elem?}
use lib.Seq.{set-get_or}
use prog.Atomic.{either}
use Rattle.std.specs.Prelude.{Option, Some}
use Rattle.atomic_table.specs.Table.{State, Me, keeps, takes, step, stepped, Allows}
use Rattle.atomic_table.proofs.Lists.{set_here, set_else}
use Rattle.chorus_turn.specs.declared.knowledge.Remarked.{Remarked}
use Rattle.chorus_turn.specs.declared.knowledge.Note.{Note}
use Rattle.chorus_turn.specs.declared.view.View.{View}
use Rattle.chorus_turn.specs.Journals.{by_seat, at_place}
use Rattle.chorus_turn.specs.Knowing.{Shows}
use Rattle.chorus_turn.specs.Rule.{word_of, Grasp, IsNumbered, Turned, IsAtRest, holding_view, refused_view, TakesOver, Misses, take_then}
use Rattle.chorus_turn.proofs.Views.{at_word, grasp_again, at_inside, each_set, holder_apart, still_held, seat_below, seats_differ, alone}
use Rattle.chorus_turn.proofs.Numbers.{numbered_same}

module _ {S R : Type 0} (journal : S → List (Remarked R) → Type 0) (marked : ℕ → S → Type 0) where
  abbrev St : Type 0
  St = State (Option S) (View R)

  -- what the rule knows of a place's journal is what a view shows of it
  pub shows : (s : St) (r : Turned journal marked s) (id p : ℕ) (v : View R) → get_elem? s.views id ≡ some v → v.live ≡ true → Shows p v.knows (r.log p)
  shows s r id p v at live = let mine = r.each id v at live in record {
    begins = mine.sees p;
    own = r.made p v.knows.seat ∙ ap (at_place p) (sym mine.own);
    noted = All-weaker (λ (n : Note R). n.mine ≡ r.work n.seat) (λ (n : Note R). by_seat n.seat (r.log p) ≡ at_place p n.mine) (λ n e. r.made p n.seat ∙ ap (at_place p) (sym e)) v.knows.notes mine.noted;
  }

  -- nothing changed but the list of refusals
  missed : (s : St) (r : Turned journal marked s) (id k : ℕ) (v : View R) → get_elem? s.views id ≡ some v → IsAtRest v → k < length s.homes → (x : ℕ) → x ≡ get_or s.words (word_of (k + 1)) 0 → x ≢ 0
      → Turned journal marked (stepped s (word_of (k + 1)) x id [] (refused_view (k + 1) (x - 1) v) keeps) × Misses journal marked (k + 1) v (x - 1) (refused_view (k + 1) (x - 1) v, [])
  missed s r id k v at rest inside x is taken = let w : View R = refused_view (k + 1) (x - 1) v in
      let held = r.out k inside (λ z. taken (is ∙ z)) in
      let apart : held.0 ≢ id = holder_apart s.views id (k + 1) v at (λ e. let z = rest.1 in omega arith) held in
      let here : x ≡ held.1.knows.seat + 1 = is ∙ ((r.each held.0 held.1 held.2 held.3).holds k held.4).0 in
      let by : x - 1 ≡ held.1.knows.seat = omega arith in
      let mine = r.each id v at rest.0 in
      let still : set s.words (word_of (k + 1)) x ≡ s.words = ap (λ (n : ℕ). set s.words (word_of (k + 1)) n) is ∙ set-get_or s.words (word_of (k + 1)) 0 in (
        subst (λ (ws : List ℕ). Turned journal marked record { words = ws; homes = s.homes; views = set s.views id w }) (sym still) record {
          work = r.work;
          log = r.log;
          wide = r.wide;
          numbered = numbered_same (get_or s.words 0 0) s.views id v w r.numbered at refl refl;
          each = each_set (λ _ y. y.live ≡ true → Grasp r.work r.log s.words y) s.views id w
              (λ _. record { sees = mine.sees; saw = mine.saw; heard = mine.heard; own = mine.own; noted = mine.noted; unused = mine.unused; counts = mine.counts; plain = mine.plain; holds = mine.holds })
              (λ i y _ e. r.each i y e);
          made = r.made;
          unmade = r.unmade;
          home = r.home;
          out = λ i b z. still_held s.views id (i + 1) v w at (λ e. let z = rest.1 in omega arith) (r.out i b z);
        },
        (
          refl,
          (let b = seat_below (get_or s.words 0 0) s.views r.numbered held.0 held.1 held.2 held.3 in let f = r.numbered.few in omega arith),
          (λ e. seats_differ (get_or s.words 0 0) s.views r.numbered id held.0 v held.1 at rest.0 held.2 held.3 apart (sym by ∙ e)),
          (λ keeper all. let c = mine.counts keeper in alone (get_or s.words 0 0) s.views r.numbered id held.0 v held.1 at rest.0 held.2 held.3 apart (omega arith)),
        ),
      )

  took : (s : St) (r : Turned journal marked s) (id k own : ℕ) (v : View R) → get_elem? s.views id ≡ some v → IsAtRest v → own ≡ v.knows.seat + 1 → k < length s.homes → 0 ≡ get_or s.words (word_of (k + 1)) 0
      → (x : S) × (get_elem? s.homes k ≡ some (some (Some x))) × Turned journal marked (stepped s (word_of (k + 1)) own id [] (holding_view (k + 1) (r.log (k + 1)) v) (takes k (Some x))) × journal x (r.log (k + 1)) × marked (k + 1) x
  took s r id k own v at rest is inside free = let w : View R = holding_view (k + 1) (r.log (k + 1)) v in let h = r.home k inside (sym free) in
      let wide = r.wide in let mine = r.each id v at rest.0 in
      let ws : List ℕ = set s.words (word_of (k + 1)) own in
      let first : get_or ws 0 0 ≡ get_or s.words 0 0 = get_or-set_other s.words (word_of (k + 1)) 0 own 0 (λ e. omega arith) in
      let other : (i : ℕ) → i ≢ k → get_or ws (word_of (i + 1)) 0 ≡ get_or s.words (word_of (i + 1)) 0 = λ i apart. get_or-set_other s.words (word_of (k + 1)) (word_of (i + 1)) own 0 (λ e. apart (omega arith)) in
      let here : get_or ws (word_of (k + 1)) 0 ≡ own = get_or-set_same s.words (word_of (k + 1)) own 0 (omega arith) in (
        h.0,
        h.1,
        record {
          work = r.work;
          log = r.log;
          wide = omega (arith, length-set s.words (word_of (k + 1)) own, length-set s.homes k none);
          numbered = subst (λ (n : ℕ). IsNumbered n (set s.views id w)) (sym first) (numbered_same (get_or s.words 0 0) s.views id v w r.numbered at refl refl);
          each = each_set (λ _ y. y.live ≡ true → Grasp r.work r.log ws y) s.views id w
              (λ _. record { sees = mine.sees; saw = mine.saw; heard = mine.heard; own = mine.own; noted = mine.noted; unused = mine.unused; counts = λ e. mine.counts e ∙ sym first; plain = mine.plain; holds = λ i e. let same : i ≡ k = omega arith in (ap (λ (n : ℕ). get_or ws (word_of (n + 1)) 0) same ∙ here ∙ is, ap (λ (n : ℕ). r.log (n + 1)) (sym same)) })
              (λ i y n e alive. let g = r.each i y e alive in grasp_again r.work r.log s.words ws y first (λ p held. other p (λ same. let z = (g.holds p held).0 in let zero_there = ap (λ (n : ℕ). get_or s.words (word_of (n + 1)) 0) same in absurd (omega arith))) g);
          made = r.made;
          unmade = λ q le. r.unmade q (omega arith);
          home = λ i b z. let apart : i ≢ k = λ same. let t = ap (λ (n : ℕ). get_or ws (word_of (n + 1)) 0) same in absurd (omega arith) in let p = r.home i (omega (arith, length-set s.homes k none)) (sym (other i apart) ∙ z) in (p.0, set_else s.homes k i none apart ∙ p.1, p.2, p.3);
          out = λ i b z. dite (ℕ_discrete i k)
              (λ same. (id, w, set_here s.views id w (at_inside s.views id v at), rest.0, ap (λ (n : ℕ). n + 1) (sym same)))
              (λ apart. still_held s.views id (i + 1) v w at (λ e. let z = rest.1 in omega arith) (r.out i (omega (arith, length-set s.homes k none)) (λ e. z (other i apart ∙ e))));
        },
        h.2,
        h.3,
      )

  takes_turn : (slots id k own : ℕ) (v : View R) → IsAtRest v → own ≡ v.knows.seat + 1 → k < slots → Allows (Turned journal marked) slots id (v, []) (word_of (k + 1)) (λ n. either (eqb n 0) own n) (take_then journal marked (step slots (word_of (k + 1)) 0 own none) (v, []))
  takes_turn slots id k own v rest is inside s r size at small = let n : ℕ = get_or s.words (word_of (k + 1)) 0 in dite (ℕ_discrete n 0)
      (λ hit. let t = took s r id k own v at rest is (omega arith) (sym hit) in let w : View R = holding_view (k + 1) (r.log (k + 1)) v in (
        w,
        takes k (Some t.0),
        t.1,
        subst (λ b. Turned journal marked (stepped s (word_of (k + 1)) (either b own n) id [] w (takes k (Some t.0)))) (sym (eq-eqb n 0 hit)) t.2,
        let back : k ≡ (k + 1) - 1 = omega arith in at_word k (λ (q : ℕ). (n ≡ 0 → TakesOver journal marked q v (w, (k, Some t.0) ∷ [])) × (n ≢ 0 → Misses journal marked q v (n - 1) (w, (k, Some t.0) ∷ [])))
            ((λ _. (t.0, r.log (k + 1), ap (λ (i : ℕ). (w, (i, Some t.0) ∷ [])) back, t.3, t.4, shows s r id (k + 1) v at rest.0)), λ other. absurd (other hit)),
      ))
      (λ miss. let t = missed s r id k v at rest (omega arith) n refl miss in let w : View R = refused_view (k + 1) (n - 1) v in (
        w,
        keeps,
        tt,
        subst (λ b. Turned journal marked (stepped s (word_of (k + 1)) (either b own n) id [] w keeps)) (sym (ne_eqb n 0 miss)) t.0,
        at_word k (λ (q : ℕ). (n ≡ 0 → TakesOver journal marked q v (w, [])) × (n ≢ 0 → Misses journal marked q v (n - 1) (w, []))) ((λ z. absurd (miss z)), λ _. t.1),
      ))

  pub takes_at : (slots id p own : ℕ) (me : Me (Option S) (View R)) → me.1 ≡ [] → IsAtRest me.0 → own ≡ me.0.knows.seat + 1 → 1 ≤ p → p ≤ slots → Allows (Turned journal marked) slots id me (word_of p) (λ n. either (eqb n 0) own n) (take_then journal marked (step slots (word_of p) 0 own none) me)
  takes_at slots id p own me none_out rest is from to = let up : (p - 1) + 1 ≡ p = omega arith in
      subst (λ (z : ℕ × List (ℕ × Option S)). Allows (Turned journal marked) slots id (me.0, z.1) (word_of z.0) (λ n. either (eqb n 0) own n) (take_then journal marked (step slots (word_of z.0) 0 own none) (me.0, z.1))) (λ i. (up i, sym none_out i)) (takes_turn slots id (p - 1) own me.0 rest is (omega arith))
