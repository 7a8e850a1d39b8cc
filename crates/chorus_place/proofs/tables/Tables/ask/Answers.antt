use Rattle.std.proofs.Common.{ap, refl, sym, ◌∙◌, [], ◌∷◌, arith}
use Rattle.chorus_ui.specs.Layout.{has_place}
use Rattle.chorus_entry.specs.declared.packet.Cargo.TheVariants as Cargo
use Rattle.chorus_entry.specs.declared.act.Act.TheVariants as Act
use Rattle.chorus_calls.specs.Callers.{after_post, after_tick}
use Rattle.law_machine.specs.PlaceState.{packed_at}
use Rattle.chorus_place.specs.contracts.tables.Tables.{the_view}
use Rattle.chorus_place.specs.PlaceTables.Tables.{turn}
use Rattle.chorus_place.specs.PlaceTables.Turns.{next_clock}
use Rattle.chorus_place.proofs.PlaceTables.States.{same_turn, put-loads, said-at}
use Rattle.chorus_place.proofs.PlaceTables.Kept.{said-by, kept-plain, kept-put, boxed-more}
use Rattle.chorus_place.proofs.PlaceTables.Choosing.{no-port}
use Rattle.chorus_place.proofs.PlaceTables.Counted.{counted-more}
use Rattle.chorus_place.proofs.tables.Tables.ask.Goals as goal

pub invariant_of-self-2 : goal.invariant_of-self-2
invariant_of-self-2 c =
    let i = c.self.inside in
    let act = Act.Post c.args.message c.args.dest.now in
    let said = said-by i.number act c.args.caller.now i.journal c.say.new.journal c.say.ensures.journal in
    let x = packed_at c.clock-clock.result i.number (c.args.to, Cargo.Ask c.args.again c.args.dest.now) in
    let seen = ap (λ p. p.room) c.self.view_is in
    let room = c.requires.room in (
      ap (λ j. j.layout) c.say.ensures.journal ∙ c.self.invariant.0,
      boxed-more i.layout i.puts.items c.put.new.puts.items (x ∷ []) i.out 1 c.self.invariant.1 c.put.ensures.items (omega arith) (omega (arith, seen, room)),
      kept-put i.layout i.number c.say.new.journal.past i.ports.records i.hints i.waits i.puts.items c.put.new.puts.items x
          (kept-plain i.layout i.number i.journal.past c.say.new.journal.past act i.ports.records i.hints i.waits i.puts.items c.self.invariant.2 said refl)
          c.put.ensures.items (ap (λ p. has_place p.layout c.args.to) c.self.view_is ∙ c.requires.may.place),
      counted-more i.puts.items c.put.new.puts.items (x ∷ []) i.out said c.self.invariant.3 c.put.ensures.items (omega arith),
    )

pub returns-clause-turn : goal.returns-clause-turn
returns-clause-turn c =
    let i = c.self.inside in
    let d = c.args.dest.now in
    let act = Act.Post c.args.message d in
    rw (← c.self.view_is)
    (same_turn _ _ refl refl (ap (λ j. j.past) c.say.ensures.journal) refl (λ q. refl) (λ k. refl) c.in_ok-ask.ensures.ok
    (c.posted.ensures.after ∙ ap after_post c.say.ensures.caller
    ∙ ap (λ x. after_tick (after_post x) (next_clock i.journal c.args.caller.now)) (sym (no-port d c.args.message c.args.caller.now c.requires.may.group)))
    (put-loads i.puts.items c.put.new.puts.items (turn (the_view i) c.args.caller.now) c.clock-clock.result ((c.args.to, Cargo.Ask c.args.again d) ∷ []) _ c.put.ensures.items
    (said-at i.number act c.args.caller.now i.journal c.say.new.journal _ c.say.ensures.journal c.clock-clock.ensures)
    (ap (λ m. (c.args.to, Cargo.Ask m d) ∷ []) c.requires.may.copy)))
