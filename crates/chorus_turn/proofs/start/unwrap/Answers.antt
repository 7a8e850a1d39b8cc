use Rattle.std.proofs.Common.{rules, ◌≡◌, [], ◌++◌, ◌∷◌, ap, ◌∙◌, reverse}
use Rattle.std.specs.Prelude.{Some}
use Rattle.chorus_turn.specs.Lists.{somes}
use Rattle.chorus_turn.proofs.Rows.{off_end_full, off_end_rest, off_end_moves}
use Rattle.chorus_turn.proofs.start.unwrap.Goals as goal

pub loop-slot-preserved : goal.loop-slot-preserved
loop-slot-preserved g c = let inv = c.loop-slot.invariant in let old = c.loop-slot.slots.items in let new = c.pop.new.self.items in
    let is : old ≡ new ++ Some c.in-Some-slot.state ∷ [] = c.in-Some.ensures.items ∙ ap (λ o. new ++ o ∷ []) c.in-Some-slot.is in (
      ap (λ l. somes l ++ reverse new) c.in-Ok.ensures.items ∙ off_end_moves c.loop-slot.states.items old new c.in-Some-slot.state c.args.slots.items inv.0 is,
      search rules,
      off_end_rest old new c.in-Some-slot.state inv.2.0 is inv.2.1,
    )

pub unreachable-requires-in-None : goal.unreachable-requires-in-None
unreachable-requires-in-None g c = let inv = c.loop-slot.invariant in let new = c.pop.new.self.items in off_end_full c.loop-slot.slots.items new inv.2.0 (c.in-Some.ensures.items ∙ ap (λ o. new ++ o ∷ []) c.in-None.is) inv.2.1
