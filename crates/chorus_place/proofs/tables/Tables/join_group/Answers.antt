use Rattle.std.proofs.Common.{ap, refl, ◌∙◌}
use Rattle.chorus_entry.specs.declared.act.Act.TheVariants as Act
use Rattle.chorus_place.proofs.PlaceTables.Kept.{said-by}
use Rattle.chorus_place.proofs.PlaceTables.Groups.{kept-grouped, grouped-joined}
use Rattle.chorus_place.proofs.PlaceTables.Counted.{counted-later}
use Rattle.chorus_place.proofs.tables.Tables.join_group.Goals as goal

pub invariant_of-self : goal.invariant_of-self
invariant_of-self c =
    let i = c.self.inside in
    let act = Act.Join c.args.group c.args.port in
    let kept = c.self.invariant.2 in
    let said = said-by i.number act c.args.caller.now i.journal c.say.new.journal c.say.ensures.journal in (
      ap (λ j. j.layout) c.say.ensures.journal ∙ c.self.invariant.0,
      c.self.invariant.1,
      kept-grouped i.layout i.number i.journal.past c.say.new.journal.past i.ports.records i.hints i.waits i.puts.items act kept said (λ n. refl) (λ u. refl)
          (grouped-joined i.journal.past c.say.new.journal.past c.args.group c.args.port kept.grouped said c.requires.kind),
      counted-later i.puts.items i.out said c.self.invariant.3,
    )
