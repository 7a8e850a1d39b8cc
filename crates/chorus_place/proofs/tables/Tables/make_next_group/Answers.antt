use Rattle.std.proofs.Common.{ap, refl, ◌∙◌}
use Rattle.chorus_entry.specs.declared.act.Act.TheVariants as Act
use Rattle.chorus_place.proofs.PlaceTables.Groups.{said-group, kept-grouped, grouped-same}
use Rattle.chorus_place.proofs.PlaceTables.Counted.{counted-later}
use Rattle.chorus_place.proofs.tables.Tables.make_next_group.Goals as goal

pub invariant_of-self-2 : goal.invariant_of-self-2
invariant_of-self-2 c =
    let i = c.self.inside in
    let act = Act.GroupMake c.args.group in
    let kept = c.self.invariant.2 in
    let said = said-group i.number act c.args.caller.now i.journal c.append_group.new.self c.next_entry-entry.result c.args.group c.in_ok-append_group.ensures.ok c.next_entry-entry.ensures in (
      ap (λ j. j.layout) c.in_ok-append_group.ensures.ok ∙ c.self.invariant.0,
      c.self.invariant.1,
      kept-grouped i.layout i.number i.journal.past c.append_group.new.self.past i.ports.records i.hints i.waits i.puts.items act kept said (λ n. refl) (λ u. refl)
          (grouped-same i.journal.past c.append_group.new.self.past act kept.grouped said (λ g qs. refl)),
      counted-later i.puts.items i.out said c.self.invariant.3,
    )
