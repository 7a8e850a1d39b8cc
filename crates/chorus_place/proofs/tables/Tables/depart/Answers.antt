use Rattle.std.proofs.Common.{ap, refl, sym, ◌∙◌, ◌+◌, [], ◌∷◌, arith}
use Rattle.std.proofs.Math.Nat.{le-max_left}
use Rattle.chorus_ui.specs.Layout.{has_place, can_make_port}
use Rattle.chorus_entry.specs.declared.act.Act.TheVariants as Act
use Rattle.chorus_entry.specs.declared.packet.Cargo.TheVariants as Cargo
use Rattle.chorus_world.specs.Places.{last_clock}
use Rattle.chorus_ports.specs.History.{migrated}
use Rattle.law_machine.specs.PlaceState.{packed_at, greatest_clock}
use Rattle.law_machine.specs.Doing.{transfer_to}
use Rattle.chorus_place.specs.contracts.tables.Tables.{the_view}
use Rattle.chorus_place.specs.PlaceTables.Tables.{turn}
use Rattle.chorus_place.proofs.PlaceTables.States.{same_turn, put-loads, said-at}
use Rattle.chorus_place.proofs.PlaceTables.Kept.{said-by, kept-plain, kept-put, boxed-more}
use Rattle.chorus_place.proofs.PlaceTables.Ports.{kept-ports, kept-learned, held-left}
use Rattle.chorus_place.proofs.PlaceTables.Counted.{counted-more}
use Rattle.chorus_place.proofs.tables.Tables.depart.Goals as goal

pub overflow_add-record : goal.overflow_add-record
overflow_add-record c =
    let i = c.self.inside in
    let r = c.unwrap-record.result in
    let may = c.self.invariant.2.held c.args.port r (sym c.depart.ensures.value ∙ c.unwrap-record.ensures) in
    let hop = may.hop in
    let seen = ap (λ p. greatest_clock (turn p c.args.caller.now)) c.self.view_is in
    let m = le-max_left (last_clock i.journal.past) c.args.caller.now.last in
    let clock = c.requires.entry.clock in
    omega (arith, hop, seen, m, clock)

pub learn-requires-clause-port : goal.learn-requires-clause-port
learn-requires-clause-port c =
    (c.self.invariant.2.held c.args.port c.unwrap-record.result (sym c.depart.ensures.value ∙ c.unwrap-record.ensures)).kind

pub learn-requires-clause-in_layout : goal.learn-requires-clause-in_layout
learn-requires-clause-in_layout c =
    ap (λ l. can_make_port l c.args.port) c.self.invariant.2.layout
    ∙ (c.self.invariant.2.held c.args.port c.unwrap-record.result (sym c.depart.ensures.value ∙ c.unwrap-record.ensures)).can_make

pub invariant_of-self : goal.invariant_of-self
invariant_of-self c =
    let i = c.self.inside in
    let r = c.unwrap-record.result in
    let hop = r.hop + 1 in
    let act = Act.Depart c.args.port c.args.to c.args.actor hop in
    let kept = c.self.invariant.2 in
    let said = said-by i.number act c.args.caller.now i.journal c.say.new.journal c.say.ensures.journal in
    let x = packed_at c.clock-clock.result i.number (c.args.to, Cargo.Transfer (migrated hop c.args.actor r)) in
    let seen = ap (λ p. p.room) c.self.view_is in
    let room = c.requires.room in
    let place = ap (λ p. has_place p.layout c.args.to) c.self.view_is ∙ c.requires.place in (
      ap (λ j. j.layout) c.say.ensures.journal ∙ c.self.invariant.0,
      boxed-more i.layout i.puts.items c.put.new.puts.items (x ∷ []) i.out 1 c.self.invariant.1 c.put.ensures.items (omega arith) (omega (arith, seen, room)),
      kept-put i.layout i.number c.say.new.journal.past c.depart.new.self.records c.learn.new.self i.waits i.puts.items c.put.new.puts.items x
          (kept-learned i.layout i.number c.say.new.journal.past c.depart.new.self.records i.hints c.learn.new.self i.waits i.puts.items c.args.port c.args.to hop
          (kept-ports i.layout i.number c.say.new.journal.past i.ports.records c.depart.new.self.records i.hints i.waits i.puts.items
          (kept-plain i.layout i.number i.journal.past c.say.new.journal.past act i.ports.records i.hints i.waits i.puts.items kept said refl)
          (held-left i.layout i.number i.journal.past c.say.new.journal.past act i.ports.records c.depart.new.self.records c.args.port kept.held said c.depart.ensures.distinct
          c.depart.ensures.records))
          c.learn.ensures.layout c.learn.ensures.pairs place)
          c.put.ensures.items place,
      counted-more i.puts.items c.put.new.puts.items (x ∷ []) i.out said c.self.invariant.3 c.put.ensures.items (omega arith),
    )

pub returns-clause-turn : goal.returns-clause-turn
returns-clause-turn c =
    let i = c.self.inside in
    let r = c.unwrap-record.result in
    let hop = r.hop + 1 in
    let act = Act.Depart c.args.port c.args.to c.args.actor hop in
    rw (← c.self.view_is)
    (same_turn _ _ refl refl (ap (λ j. j.past) c.say.ensures.journal) c.depart.ensures.records c.learn.ensures.pairs (λ k. refl) (λ x. refl) c.say.ensures.caller
    (put-loads i.puts.items c.put.new.puts.items (turn (the_view i) c.args.caller.now) c.clock-clock.result ((c.args.to, Cargo.Transfer (migrated hop c.args.actor r)) ∷ []) _ c.put.ensures.items
    (said-at i.number act c.args.caller.now i.journal c.say.new.journal _ c.say.ensures.journal c.clock-clock.ensures)
    (sym (ap (transfer_to c.args.to c.args.actor hop) (sym c.depart.ensures.value ∙ c.unwrap-record.ensures)))))
