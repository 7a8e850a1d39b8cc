use Rattle.std.proofs.Common.{ap, refl, ◌∙◌}
use Rattle.chorus_entry.specs.declared.act.Act.TheVariants as Act
use Rattle.chorus_ports.specs.Taking.{rehomed}
use Rattle.chorus_place.proofs.PlaceTables.Kept.{said-by, kept-plain, rehomed-raises}
use Rattle.chorus_place.proofs.PlaceTables.Ports.{kept-ports, held-changed}
use Rattle.chorus_place.proofs.PlaceTables.Counted.{counted-later}
use Rattle.chorus_place.proofs.tables.Tables.rehome.Goals as goal

pub invariant_of-self : goal.invariant_of-self
invariant_of-self c =
    let i = c.self.inside in
    let act = Act.Rehome c.args.port c.args.actor in
    let kept = c.self.invariant.2 in
    let said = said-by i.number act c.args.caller.now i.journal c.say.new.journal c.say.ensures.journal in (
      ap (λ j. j.layout) c.say.ensures.journal ∙ c.self.invariant.0,
      c.self.invariant.1,
      kept-ports i.layout i.number c.say.new.journal.past i.ports.records c.rehome.new.self.records i.hints i.waits i.puts.items
          (kept-plain i.layout i.number i.journal.past c.say.new.journal.past act i.ports.records i.hints i.waits i.puts.items kept said refl)
          (held-changed i.layout i.number i.journal.past c.say.new.journal.past act i.ports.records c.rehome.new.self.records c.args.port (rehomed c.args.actor) kept.held said
          (rehomed-raises c.args.actor) (ap (λ t. t.records) c.rehome.ensures)),
      counted-later i.puts.items i.out said c.self.invariant.3,
    )
