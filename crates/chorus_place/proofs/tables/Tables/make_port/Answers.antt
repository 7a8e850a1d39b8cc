use Rattle.std.proofs.Common.{ap, sym, ◌∙◌}
use Rattle.chorus_ui.specs.Layout.{has_actor, can_make_port, creation_place}
use Rattle.chorus_entry.specs.declared.act.Act.TheVariants as Act
use Rattle.chorus_world.specs.Steps.{is_full_of_ports}
use Rattle.law_machine.specs.Own.{next_port}
use Rattle.chorus_place.specs.PlaceTables.Tables.{state}
use Rattle.chorus_place.proofs.PlaceTables.Kept.{said-by}
use Rattle.chorus_place.proofs.PlaceTables.Ports.{kept-made, absent-next, creation-next, can-make-next, listed, some-turns}
use Rattle.chorus_place.proofs.PlaceTables.Counted.{counted-later}
use Rattle.chorus_place.proofs.tables.Tables.make_port.Goals as goal

pub make-requires-clause-not_held : goal.make-requires-clause-not_held
make-requires-clause-not_held c =
    let i = c.self.inside in
    let kept = c.self.invariant.2 in
    let turns = some-turns i.layout i.number c.self.invariant.2.place in
    let next = c.requires.may.next ∙ sym (ap (λ p. next_port (state p) c.args.actor) c.self.view_is) in
    let name = ap (λ u. u.number) next in
    let home = ap (λ p. creation_place p.layout c.args.actor) c.self.view_is ∙ c.requires.may.home ∙ sym (ap (λ p. p.number) c.self.view_is) in
    absent-next i.layout i.number i.journal.past i.ports.records c.args.port kept.held kept.numbered
    (creation-next i.layout i.number i.journal.past c.args.actor c.args.port turns home (ap (λ u. u.site) next) name) name

pub invariant_of-self-2 : goal.invariant_of-self-2
invariant_of-self-2 c =
    let i = c.self.inside in
    let act = Act.Make c.args.port c.args.actor c.args.capacity in
    let turns = some-turns i.layout i.number c.self.invariant.2.place in
    let next = c.requires.may.next ∙ sym (ap (λ p. next_port (state p) c.args.actor) c.self.view_is) in
    let home = ap (λ p. creation_place p.layout c.args.actor) c.self.view_is ∙ c.requires.may.home ∙ sym (ap (λ p. p.number) c.self.view_is) in
    let actor = ap (λ p. has_actor p.layout c.args.actor) c.self.view_is ∙ c.requires.may.actor in
    let few = ap (λ p. is_full_of_ports p.layout p.journal.past) c.self.view_is ∙ c.requires.may.few in
    let said = said-by i.number act c.args.caller.now i.journal c.say.new.journal c.say.ensures.journal in (
      ap (λ j. j.layout) c.say.ensures.journal ∙ c.self.invariant.0,
      c.self.invariant.1,
      kept-made i.layout i.number i.journal.past c.say.new.journal.past i.ports.records c.make.new.self.records i.hints i.waits i.puts.items c.args.port c.args.actor c.args.capacity
          c.self.invariant.2 said turns actor home few next (ap (λ t. t.records) c.in_ok-make.ensures.ok),
      counted-later i.puts.items i.out said c.self.invariant.3,
    )

pub say-requires-clause-follows : goal.say-requires-clause-follows
say-requires-clause-follows c =
    let i = c.self.inside in
    let turns = some-turns i.layout i.number c.self.invariant.2.place in
    let next = c.requires.may.next ∙ sym (ap (λ p. next_port (state p) c.args.actor) c.self.view_is) in
    let actor = ap (λ p. has_actor p.layout c.args.actor) c.self.view_is ∙ c.requires.may.actor in
    let few = ap (λ p. is_full_of_ports p.layout p.journal.past) c.self.view_is ∙ c.requires.may.few in
    let can = can-make-next i.layout i.number i.journal.past c.args.actor c.args.port turns actor (ap (λ u. u.site) next) (ap (λ u. u.number) next) few in
    listed i.journal.layout c.args.port (ap (λ u. u.kind) next) (ap (λ l. can_make_port l c.args.port) c.self.invariant.0 ∙ can)
