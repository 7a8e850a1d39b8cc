use Rattle.std.proofs.Common.{ap, refl, sym, ◌∙◌, length, map, unwrap_or, arith}
use Rattle.std.proofs.lemmas.List.{length-map}
use Rattle.chorus_ports.specs.Table.{find}
use Rattle.law_machine.specs.PlaceState.{packed_at, location, greatest_clock}
use Rattle.law_machine.specs.Deciding.{decision, records_after}
use Rattle.law_machine.specs.Trying.{report}
use Rattle.chorus_hints.specs.Known.{kept}
use Rattle.chorus_place.specs.contracts.tables.Tables.{the_view}
use Rattle.chorus_place.specs.PlaceTables.Tables.{turn, state, seen, MayWait}
use Rattle.chorus_place.specs.PlaceTables.Going.{reports_for}
use Rattle.chorus_place.proofs.PlaceTables.States.{same_turn, put-loads, said-as, said-at}
use Rattle.chorus_place.proofs.PlaceTables.Kept.{said-by, positions-fit, held-answered, numbered-plain, grouped-plain, waiting-passed, all-first, sent-more, sent-report, boxed-more}
use Rattle.chorus_place.proofs.PlaceTables.Plain.{may_follow}
use Rattle.chorus_place.proofs.PlaceTables.Deciding.{same-answer}
use Rattle.chorus_place.proofs.PlaceTables.Reports.{report-length, reports-passed, room-left, if-first}
use Rattle.chorus_place.proofs.PlaceTables.Counted.{counted-more, report-one}
use Rattle.chorus_place.proofs.tables.Tables.settle_first.Goals as goal

pub decide_unless-answer-requires-clause-positions : goal.decide_unless-answer-requires-clause-positions
decide_unless-answer-requires-clause-positions c =
    let i = c.self.inside in
    let last = c.args.caller.now.last in
    let seen = ap (λ p. greatest_clock (turn p c.args.caller.now)) c.self.view_is in
    let clock = c.requires.entry.clock in
    positions-fit i.layout i.number i.journal.past i.ports.records c.args.key.now.port last c.self.invariant.2.held (omega (arith, seen, clock))

pub put_report-requires : goal.put_report-requires
put_report-requires c =
    let i = c.self.inside in
    let w = c.unwrap-message.result in
    let first = sym c.pop.ensures.value ∙ c.unwrap-message.ensures in
    let n = report-length i.number w.home w.message.id c.decide_unless-answer.result in
    let all = reports-passed i.number c.args.key.now i.waits c.pop.new.self w first c.pop.ensures.queues in
    let seen = ap (λ p. reports_for c.args.key.now p) c.self.view_is in
    let space = ap (λ p. p.room) c.self.view_is in
    let room = c.requires.room in
    omega (arith, n, all, seen, space, room)

pub invariant_of-self : goal.invariant_of-self
invariant_of-self c =
    let i = c.self.inside in
    let w = c.unwrap-message.result in
    let kept = c.self.invariant.2 in
    let said = said-by i.number c.decision.result c.args.caller.now i.journal c.say.new.journal c.say.ensures.journal in
    let first = sym c.pop.ensures.value ∙ c.unwrap-message.ensures in
    let may = all-first (MayWait i.layout i.number c.args.key.now) _ w first (kept.waiting c.args.key.now) in
    let home = may.home in
    let loads = map (packed_at c.clock-clock.result i.number) (report i.number w.home w.message.id c.decide_unless-answer.result) in
    let n = report-length i.number w.home w.message.id c.decide_unless-answer.result in
    let all = reports-passed i.number c.args.key.now i.waits c.pop.new.self w first c.pop.ensures.queues in
    let seen = ap (λ p. reports_for c.args.key.now p) c.self.view_is in
    let space = ap (λ p. p.room) c.self.view_is in
    let room = c.requires.room in
    let count = length-map (report i.number w.home w.message.id c.decide_unless-answer.result) (packed_at c.clock-clock.result i.number) in (
      ap (λ j. j.layout) c.say.ensures.journal ∙ c.self.invariant.0,
      boxed-more i.layout i.puts.items c.put_report.new.puts.items loads i.out (length loads) c.self.invariant.1 c.put_report.ensures.items (omega arith) (omega (arith, n, all, seen, space, room, count)),
      record {
        place = kept.place;
        held = held-answered i.layout i.number i.journal.past c.say.new.journal.past c.decision.result i.ports.records c.decide_unless-answer.new.ports.records c.decide_unless-answer.result w.message c.args.key.now.port kept.held said (ap (λ t. t.records) c.decide_unless-answer.ensures.ports) may.message;
        layout = kept.layout;
        located = kept.located;
        waiting = waiting-passed i.layout i.number i.waits c.pop.new.self c.args.key.now kept.waiting c.pop.ensures.queues;
        numbered = numbered-plain i.layout i.number i.journal.past c.say.new.journal.past c.decision.result kept.numbered said c.decision.ensures.plain;
        grouped = grouped-plain i.journal.past c.say.new.journal.past c.decision.result kept.grouped said c.decision.ensures.plain;
        sent = sent-more i.layout i.puts.items c.put_report.new.puts.items loads kept.sent c.put_report.ensures.items (sent-report i.layout i.number w.home c.clock-clock.result w.message.id c.decide_unless-answer.result home);
      },
      counted-more i.puts.items c.put_report.new.puts.items loads i.out said c.self.invariant.3 c.put_report.ensures.items
          (report-one c.clock-clock.result i.number w.home w.message.id c.decide_unless-answer.result),
    )

pub returns-clause-turn : goal.returns-clause-turn
returns-clause-turn c =
    let i = c.self.inside in
    let k = c.args.key.now in
    let w = c.unwrap-message.result in
    let place = c.self.view_is in
    let newest = ap (λ l. location l k.port (kept i.hints k.port)) c.self.invariant.2.layout in
    let answer = c.decide_unless-answer.ensures.answer
    ∙ ap (unwrap_or c.args.given) (same-answer w.message k.port w.only c.args.tried (seen i.number i.journal i.hints)
    (state (the_view i))
    (find k.port i.ports.records) refl refl newest) in
    rw (← c.self.view_is)
    (if-first _ w _ (sym c.pop.ensures.value ∙ c.unwrap-message.ensures)
    (same_turn _ _ refl refl
    (said-as i.number c.decision.result _ c.args.caller.now i.journal c.say.new.journal c.say.ensures.journal (c.decision.ensures.value ∙ ap (decision w.message.id k.port c.args.tried) answer))
    (ap (λ t. t.records) c.decide_unless-answer.ensures.ports ∙ ap (λ a. records_after a w.message k.port i.ports.records) answer)
    (λ q. refl) c.pop.ensures.queues (λ x. refl) c.say.ensures.caller
    (put-loads i.puts.items c.put_report.new.puts.items (turn (the_view i) c.args.caller.now) c.clock-clock.result (report i.number w.home w.message.id c.decide_unless-answer.result) _ c.put_report.ensures.items
    (said-at i.number c.decision.result c.args.caller.now i.journal c.say.new.journal _ c.say.ensures.journal c.clock-clock.ensures) (ap (report i.number w.home w.message.id) answer))))

pub returns-clause-room : goal.returns-clause-room
returns-clause-room c =
    let i = c.self.inside in
    let w = c.unwrap-message.result in
    let first = sym c.pop.ensures.value ∙ c.unwrap-message.ensures in
    rw (← c.self.view_is)
    (room-left _ _ _ _ _ _ _ _ _ (report-length i.number w.home w.message.id c.decide_unless-answer.result)
    (reports-passed i.number c.args.key.now i.waits c.pop.new.self w first c.pop.ensures.queues) c.put_report.ensures.len c.put_report.ensures.room)

pub say-requires-clause-follows : goal.say-requires-clause-follows
say-requires-clause-follows c = may_follow c.decision.result c.self.inside.journal.layout c.self.inside.journal.groups c.decision.ensures.plain
