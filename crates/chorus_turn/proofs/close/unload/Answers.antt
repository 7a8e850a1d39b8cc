use Rattle.std.proofs.Common.{rules, ◌≡◌, ℕ, zero, suc, Bool, false, List, [], ◌∷◌, get_or, set, get_or-set_other, refl, ap, ◌∙◌, sym, arith}
use mathlib.Core.Option.{some}
use mathlib.Core.Logic.{dite}
use native.Mathlib.Decide.{ℕ_discrete}
use lib.ListN.{get_elem?}
use Rattle.std.specs.Prelude.{Some}
use Rattle.std.specs.Slots.{slots_items, slots_filled}
use Rattle.chorus_turn.specs.Lists.{somes}
use Rattle.chorus_turn.proofs.Rows.{somes_full, off_front}
use Rattle.chorus_turn.proofs.close.unload.Goals as goal

set_false : (l : List Bool) (i : ℕ) → get_or (set l i false) i false ≡ false
set_false [] i = refl
set_false (x ∷ xs) zero = refl
set_false (x ∷ xs) (suc i) = set_false xs i

pub unreachable-requires-in-None : goal.unreachable-requires-in-None
unreachable-requires-in-None g c = let row = c.requires.full.1 in somes_full row.0 c.loop-i.i (ap (λ l. get_elem? l c.loop-i.i) (sym row.1 ∙ sym c.loop-i.invariant.same) ∙ c.in-None.ensures.value)

pub loop-i-preserved : goal.loop-i-preserved
loop-i-preserved g c = let inv = c.loop-i.invariant in let i : ℕ = c.loop-i.i in let was = slots_filled c.loop-i.closed.slots in
    let here : get_elem? (slots_items c.args.closed.slots) i ≡ some (Some c.in-Some.state) = ap (λ l. get_elem? l i) (sym inv.same) ∙ c.in-Some.ensures.value in record {
      out = ap somes c.in-Ok.ensures.items ∙ off_front (slots_items c.args.closed.slots) i c.in-Some.state c.loop-i.states.items here inv.out;
      same = search rules;
      count = search rules;
      within = search rules;
      room = search rules;
      long = search rules;
      left = λ k low high. let len = c.take.ensures.others.2 in ap (λ l. get_or l k false) c.take.ensures.others.1 ∙ (get_or-set_other was i k false false (λ e. omega arith) ∙ inv.left k (omega arith) (omega arith));
      taken = λ k less. ap (λ l. get_or l k false) c.take.ensures.others.1 ∙ dite (ℕ_discrete k i)
          (λ e. ap (λ (n : ℕ). get_or (set was i false) n false) e ∙ set_false was i)
          (λ apart. get_or-set_other was i k false false apart ∙ inv.taken k (omega arith));
    }
