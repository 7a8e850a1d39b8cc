use Rattle.std.proofs.Common.{ap, refl, ◌∙◌}
use Rattle.chorus_entry.specs.declared.act.Act.TheVariants as Act
use Rattle.chorus_place.proofs.PlaceTables.Kept.{said-by, kept-plain}
use Rattle.chorus_place.proofs.PlaceTables.Counted.{counted-later}
use Rattle.chorus_place.proofs.tables.Tables.post_alone.Goals as goal

pub invariant_of-self : goal.invariant_of-self
invariant_of-self c =
    let i = c.self.inside in
    let act = Act.Post c.args.message c.args.dest in
    let said = said-by i.number act c.args.caller.now i.journal c.say.new.journal c.say.ensures.journal in (
      ap (λ j. j.layout) c.say.ensures.journal ∙ c.self.invariant.0,
      c.self.invariant.1,
      kept-plain i.layout i.number i.journal.past c.say.new.journal.past act i.ports.records i.hints i.waits i.puts.items c.self.invariant.2 said refl,
      counted-later i.puts.items i.out said c.self.invariant.3,
    )
