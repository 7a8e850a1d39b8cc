use Rattle.std.proofs.Common.{ap, sym, subst, ◌∙◌}
use Rattle.chorus_ports.specs.Table.{find}
use Rattle.chorus_place.specs.PlaceTables.Ports.{IsSoundTaken}
use Rattle.chorus_ports.specs.Taking.{after_take}
use Rattle.chorus_place.proofs.PlaceTables.Kept.{said-by, kept-plain, take-raises}
use Rattle.chorus_place.proofs.PlaceTables.Ports.{kept-ports, held-changed, sound-taken}
use Rattle.chorus_place.proofs.PlaceTables.Counted.{counted-later}
use Rattle.chorus_place.proofs.tables.Tables.take_message.Goals as goal

pub invariant_of-self : goal.invariant_of-self
invariant_of-self c =
    let i = c.self.inside in
    let act = c.take_act-act.result in
    let kept = c.self.invariant.2 in
    let said = said-by i.number act c.args.caller.now i.journal c.say.new.journal c.say.ensures.journal in (
      ap (λ j. j.layout) c.say.ensures.journal ∙ c.self.invariant.0,
      c.self.invariant.1,
      kept-ports i.layout i.number c.say.new.journal.past i.ports.records c.take-taken.new.self.records i.hints i.waits i.puts.items
          (kept-plain i.layout i.number i.journal.past c.say.new.journal.past act i.ports.records i.hints i.waits i.puts.items kept said c.take_act-act.ensures.plain)
          (held-changed i.layout i.number i.journal.past c.say.new.journal.past act i.ports.records c.take-taken.new.self.records c.args.port (after_take c.actor.result) kept.held said
          (take-raises c.actor.result) (ap (λ t. t.records) c.take-taken.ensures.after)),
      counted-later i.puts.items i.out said c.self.invariant.3,
    )

pub returns-clause-sound : goal.returns-clause-sound
returns-clause-sound c =
    subst IsSoundTaken (sym c.take-taken.ensures.value)
    (sound-taken c.actor.result (find c.args.port c.self.inside.ports.records) (λ r h. (c.self.invariant.2.held c.args.port r h).pending))
