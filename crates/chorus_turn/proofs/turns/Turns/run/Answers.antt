use Rattle.std.proofs.Common.{◌∷◌, Some, sym, ap, ◌∙◌}
use Rattle.atomic_table.specs.Table.{rest}
use Rattle.chorus_turn.proofs.turns.Turns.run.Goals as goal

pub slot_mut-requires : goal.slot_mut-requires
slot_mut-requires g c = let full = c.requires.full in
    (c.requires.table, (Some full.0, full.1 ∙ ap (λ l. (c.args.slot, Some full.0) ∷ l) (sym (ap rest full.1))))
