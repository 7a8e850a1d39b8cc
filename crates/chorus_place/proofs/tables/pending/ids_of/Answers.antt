use Rattle.std.proofs.Common.{rules, sym, ap, ◌∙◌}
use Rattle.std.specs.Option.{option_copied}
use Rattle.chorus_place.proofs.PlaceTables.Listed.{ids-more}
use Rattle.chorus_place.proofs.tables.pending.ids_of.Goals as goal

pub loop-at-preserved : goal.loop-at-preserved
loop-at-preserved c =
    let more = ids-more c.args.pending.now c.loop-at.at c.in-Some.message.now (sym c.get.ensures ∙ ap option_copied c.in-Some.is) in
    search (rules, more)
