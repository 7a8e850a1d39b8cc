use Rattle.std.proofs.Common.{ap, refl, ◌∙◌, [], ◌∷◌, arith}
use Rattle.chorus_entry.specs.declared.packet.Cargo.TheVariants as Cargo
use Rattle.chorus_ui.specs.Layout.{has_place}
use Rattle.chorus_hints.specs.Known.{kept}
use Rattle.chorus_ports.specs.Table.{find}
use Rattle.law_machine.specs.PlaceState.{packed_at, location, greatest_clock}
use Rattle.law_machine.specs.Deciding.{decision, records_after}
use Rattle.chorus_place.specs.contracts.tables.Tables.{the_view}
use Rattle.chorus_place.specs.PlaceTables.Tables.{turn, state, seen}
use Rattle.chorus_place.proofs.PlaceTables.Plain.{may_follow}
use Rattle.chorus_place.proofs.PlaceTables.States.{same_turn, put-loads, said-as, said-at}
use Rattle.chorus_place.proofs.PlaceTables.Kept.{said-by, positions-fit, held-answered, numbered-plain, grouped-plain, boxed-more, sent-one}
use Rattle.chorus_place.proofs.PlaceTables.Deciding.{same-answer}
use Rattle.chorus_place.proofs.PlaceTables.Counted.{counted-more}
use Rattle.chorus_place.proofs.tables.Tables.answer_try.Goals as goal

pub decide-answer-requires-clause-positions : goal.decide-answer-requires-clause-positions
decide-answer-requires-clause-positions c =
    let i = c.self.inside in
    let last = c.args.caller.now.last in
    let seen = ap (λ p. greatest_clock (turn p c.args.caller.now)) c.self.view_is in
    let clock = c.requires.entry.clock in
    positions-fit i.layout i.number i.journal.past i.ports.records c.args.key.now.port last c.self.invariant.2.held (omega (arith, seen, clock))

pub say-requires-clause-follows : goal.say-requires-clause-follows
say-requires-clause-follows c = may_follow c.decision.result c.self.inside.journal.layout c.self.inside.journal.groups c.decision.ensures.plain

pub invariant_of-self : goal.invariant_of-self
invariant_of-self c =
    let i = c.self.inside in
    let k = c.args.key.now in
    let kept = c.self.invariant.2 in
    let said = said-by i.number c.decision.result c.args.caller.now i.journal c.say.new.journal c.say.ensures.journal in
    let x = packed_at c.clock-clock.result i.number (c.args.from, Cargo.Verdict c.args.message.id k.port k.route c.decide-answer.result) in
    let seen = ap (λ p. p.room) c.self.view_is in
    let room = c.requires.room in (
      ap (λ j. j.layout) c.say.ensures.journal ∙ c.self.invariant.0,
      boxed-more i.layout i.puts.items c.put.new.puts.items (x ∷ []) i.out 1 c.self.invariant.1 c.put.ensures.items (omega arith) (omega (arith, seen, room)),
      record {
        place = kept.place;
        held = held-answered i.layout i.number i.journal.past c.say.new.journal.past c.decision.result i.ports.records c.decide-answer.new.ports.records c.decide-answer.result c.args.message k.port kept.held said
            (ap (λ t. t.records) c.decide-answer.ensures.ports) c.requires.may.sound;
        layout = kept.layout;
        located = kept.located;
        waiting = kept.waiting;
        numbered = numbered-plain i.layout i.number i.journal.past c.say.new.journal.past c.decision.result kept.numbered said c.decision.ensures.plain;
        grouped = grouped-plain i.journal.past c.say.new.journal.past c.decision.result kept.grouped said c.decision.ensures.plain;
        sent = sent-one i.layout i.puts.items c.put.new.puts.items x kept.sent c.put.ensures.items (ap (λ p. has_place p.layout c.args.from) c.self.view_is ∙ c.requires.may.place);
      },
      counted-more i.puts.items c.put.new.puts.items (x ∷ []) i.out said c.self.invariant.3 c.put.ensures.items (omega arith),
    )

pub returns-clause-turn : goal.returns-clause-turn
returns-clause-turn c =
    let i = c.self.inside in
    let k = c.args.key.now in
    let m = c.args.message in
    let newest = ap (λ l. location l k.port (kept i.hints k.port)) c.self.invariant.2.layout in
    let answer = c.decide-answer.ensures.answer
    ∙ same-answer m k.port c.args.only c.args.tried (seen i.number i.journal i.hints) (state (the_view i)) (find k.port i.ports.records) refl refl newest in
    rw (← c.self.view_is)
    (same_turn _ _ refl refl
    (said-as i.number c.decision.result _ c.args.caller.now i.journal c.say.new.journal c.say.ensures.journal (c.decision.ensures.value ∙ ap (decision m.id k.port c.args.tried) answer))
    (ap (λ t. t.records) c.decide-answer.ensures.ports ∙ ap (λ a. records_after a m k.port i.ports.records) answer)
    (λ q. refl) (λ l. refl) (λ x. refl) c.say.ensures.caller
    (put-loads i.puts.items c.put.new.puts.items (turn (the_view i) c.args.caller.now) c.clock-clock.result
    ((c.args.from, Cargo.Verdict m.id k.port k.route c.decide-answer.result) ∷ []) _ c.put.ensures.items
    (said-at i.number c.decision.result c.args.caller.now i.journal c.say.new.journal _ c.say.ensures.journal c.clock-clock.ensures)
    (ap (λ a. (c.args.from, Cargo.Verdict m.id k.port k.route a) ∷ []) answer)))
