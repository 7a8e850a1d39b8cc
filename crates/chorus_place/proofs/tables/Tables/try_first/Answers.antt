use Rattle.std.proofs.Common.{ap, refl, ◌∙◌, [], ◌∷◌, Some, arith}
use Rattle.chorus_entry.specs.declared.act.Act.TheVariants as Act
use Rattle.law_machine.specs.PlaceState.{packed_at}
use Rattle.chorus_place.specs.contracts.tables.Tables.{the_view}
use Rattle.chorus_place.specs.PlaceTables.Tables.{turn}
use Rattle.chorus_ui.specs.Layout.{has_place}
use Rattle.chorus_place.proofs.PlaceTables.States.{same_turn, put-loads, said-at}
use Rattle.chorus_place.proofs.PlaceTables.Kept.{said-by, kept-plain, kept-waits, kept-put, waiting-at, boxed-more}
use Rattle.chorus_place.proofs.PlaceTables.Counted.{counted-more}
use Rattle.chorus_place.proofs.tables.Tables.try_first.Goals as goal

pub invariant_of-self : goal.invariant_of-self
invariant_of-self c =
    let i = c.self.inside in
    let act = Act.Try c.args.again.message.id c.args.key.now.port c.args.newest.0 c.args.newest.1 in
    let said = said-by i.number act c.args.caller.now i.journal c.say.new.journal c.say.ensures.journal in
    let x = packed_at c.clock-clock.result i.number (c.args.newest.0, c.trying.result) in
    let seen = ap (λ p. p.room) c.self.view_is in
    let room = c.requires.room in (
      ap (λ j. j.layout) c.say.ensures.journal ∙ c.self.invariant.0,
      boxed-more i.layout i.puts.items c.put.new.puts.items (x ∷ []) i.out 1 c.self.invariant.1 c.put.ensures.items (omega arith) (omega (arith, seen, room)),
      kept-put i.layout i.number c.say.new.journal.past i.ports.records i.hints c.set_tried.new.self i.puts.items c.put.new.puts.items x
          (kept-waits i.layout i.number c.say.new.journal.past i.ports.records i.hints i.waits c.set_tried.new.self i.puts.items
          (kept-plain i.layout i.number i.journal.past c.say.new.journal.past act i.ports.records i.hints i.waits i.puts.items c.self.invariant.2 said refl)
          (waiting-at i.layout i.number i.waits c.set_tried.new.self c.args.key.now (Some c.args.newest.0) c.self.invariant.2.waiting c.set_tried.ensures.queues))
          c.put.ensures.items (ap (λ p. has_place p.layout c.args.newest.0) c.self.view_is ∙ c.requires.place),
      counted-more i.puts.items c.put.new.puts.items (x ∷ []) i.out said c.self.invariant.3 c.put.ensures.items (omega arith),
    )

pub returns-clause-turn : goal.returns-clause-turn
returns-clause-turn c =
    let i = c.self.inside in
    let act = Act.Try c.args.again.message.id c.args.key.now.port c.args.newest.0 c.args.newest.1 in
    rw (← c.self.view_is)
    (same_turn _ _ refl refl (ap (λ j. j.past) c.say.ensures.journal) refl (λ q. refl) c.set_tried.ensures.queues (λ x. refl) c.say.ensures.caller
    (put-loads i.puts.items c.put.new.puts.items (turn (the_view i) c.args.caller.now) c.clock-clock.result ((c.args.newest.0, c.trying.result) ∷ []) _ c.put.ensures.items
    (said-at i.number act c.args.caller.now i.journal c.say.new.journal _ c.say.ensures.journal c.clock-clock.ensures) (ap (λ g. (c.args.newest.0, g) ∷ []) c.trying.ensures)))
