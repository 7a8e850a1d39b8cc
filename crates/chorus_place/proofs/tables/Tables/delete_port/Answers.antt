use Rattle.std.proofs.Common.{ap, refl, ◌∙◌, is_some}
use Rattle.chorus_ports.specs.Table.{find}
use Rattle.chorus_entry.specs.declared.act.Act.TheVariants as Act
use Rattle.chorus_ui.specs.Layout.{can_make_port}
use Rattle.chorus_place.proofs.PlaceTables.Kept.{said-by}
use Rattle.chorus_place.proofs.PlaceTables.Ports.{kept-deleted, may-hold, listed}
use Rattle.chorus_place.proofs.PlaceTables.Counted.{counted-later}
use Rattle.chorus_place.proofs.tables.Tables.delete_port.Goals as goal

pub say-requires-clause-follows : goal.say-requires-clause-follows
say-requires-clause-follows c =
    let i = c.self.inside in
    let may = may-hold i.layout i.number i.journal.past i.ports.records c.args.port c.self.invariant.2.held
    (ap (λ p. is_some (find c.args.port p.ports.records)) c.self.view_is ∙ c.requires.held) in
    listed i.journal.layout c.args.port may.1.kind (ap (λ l. can_make_port l c.args.port) c.self.invariant.0 ∙ may.1.can_make)

pub invariant_of-self : goal.invariant_of-self
invariant_of-self c =
    let i = c.self.inside in
    let act = Act.Delete c.args.port c.args.discarded in
    let said = said-by i.number act c.args.caller.now i.journal c.say.new.journal c.say.ensures.journal in (
      ap (λ j. j.layout) c.say.ensures.journal ∙ c.self.invariant.0,
      c.self.invariant.1,
      kept-deleted i.layout i.number i.journal.past c.say.new.journal.past i.ports.records c.depart.new.self.records i.hints i.waits i.puts.items c.args.port act
          c.self.invariant.2 said (λ n. refl) (λ u. refl) (λ g qs. refl) c.depart.ensures.distinct c.depart.ensures.records,
      counted-later i.puts.items i.out said c.self.invariant.3,
    )
