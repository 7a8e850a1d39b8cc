use Rattle.std.proofs.Common.{ap, refl, sym, ◌∙◌, arith, None}
use Rattle.std.proofs.lemmas.List.{append-nil}
use Rattle.chorus_hints.specs.Known.{kept}
use Rattle.chorus_ports.specs.Table.{find}
use Rattle.law_machine.specs.PlaceState.{location, greatest_clock}
use Rattle.law_machine.specs.Deciding.{decision, records_after}
use Rattle.chorus_place.specs.contracts.tables.Tables.{the_view}
use Rattle.chorus_place.specs.PlaceTables.Tables.{turn, state, seen}
use Rattle.chorus_place.proofs.PlaceTables.Plain.{may_follow}
use Rattle.chorus_place.proofs.PlaceTables.States.{same_turn, said-as}
use Rattle.chorus_place.proofs.PlaceTables.Kept.{said-by, positions-fit, held-answered, kept-ports}
use Rattle.chorus_place.proofs.PlaceTables.Deciding.{same-answer}
use Rattle.chorus_place.proofs.PlaceTables.Counted.{counted-later}
use Rattle.chorus_place.proofs.tables.Tables.decide_at_once.Goals as goal

pub decide-answer-requires-clause-positions : goal.decide-answer-requires-clause-positions
decide-answer-requires-clause-positions c =
    let i = c.self.inside in
    let last = c.args.caller.now.last in
    let seen = ap (λ p. greatest_clock (turn p c.args.caller.now)) c.self.view_is in
    let clock = c.requires.entry.clock in
    positions-fit i.layout i.number i.journal.past i.ports.records c.args.port last c.self.invariant.2.held (omega (arith, seen, clock))

pub say-requires-clause-follows : goal.say-requires-clause-follows
say-requires-clause-follows c = may_follow c.decision-act.result c.self.inside.journal.layout c.self.inside.journal.groups c.decision-act.ensures.plain

pub invariant_of-self : goal.invariant_of-self
invariant_of-self c =
    let i = c.self.inside in
    let kept = c.self.invariant.2 in
    let said = said-by i.number c.decision-act.result c.args.caller.now i.journal c.say.new.journal c.say.ensures.journal in (
      ap (λ j. j.layout) c.say.ensures.journal ∙ c.self.invariant.0,
      c.self.invariant.1,
      kept-ports i.layout i.number i.journal.past c.say.new.journal.past c.decision-act.result i.ports.records c.decide-answer.new.ports.records i.hints i.waits i.puts.items kept said c.decision-act.ensures.plain
          (held-answered i.layout i.number i.journal.past c.say.new.journal.past c.decision-act.result i.ports.records c.decide-answer.new.ports.records c.decide-answer.result c.args.message c.args.port kept.held said
          (ap (λ t. t.records) c.decide-answer.ensures.ports) c.requires.sound),
      counted-later i.puts.items i.out said c.self.invariant.3,
    )

pub returns-clause-answer : goal.returns-clause-answer
returns-clause-answer c =
    let i = c.self.inside in
    let q = c.args.port in
    let newest = ap (λ l. location l q (kept i.hints q)) c.self.invariant.2.layout in
    rw (← c.self.view_is)
    (c.decide-answer.ensures.answer
    ∙ same-answer c.args.message q None c.args.tried (seen i.number i.journal i.hints) (state (the_view i)) (find q i.ports.records) refl refl newest)

pub returns-clause-turn : goal.returns-clause-turn
returns-clause-turn c =
    let i = c.self.inside in
    let q = c.args.port in
    let m = c.args.message in
    let newest = ap (λ l. location l q (kept i.hints q)) c.self.invariant.2.layout in
    let answer = c.decide-answer.ensures.answer
    ∙ same-answer m q None c.args.tried (seen i.number i.journal i.hints) (state (the_view i)) (find q i.ports.records) refl refl newest in
    rw (← c.self.view_is)
    (same_turn _ _ refl refl
    (said-as i.number c.decision-act.result _ c.args.caller.now i.journal c.say.new.journal c.say.ensures.journal (c.decision-act.ensures.value ∙ ap (decision m.id q c.args.tried) answer))
    (ap (λ t. t.records) c.decide-answer.ensures.ports ∙ ap (λ a. records_after a m q i.ports.records) answer)
    (λ q. refl) (λ l. refl) (λ x. refl) c.say.ensures.caller (sym (append-nil _)))
