use Rattle.std.proofs.Common.{ap, refl, sym, ◌∙◌, length, map, option_copied, subst, arith}
use Rattle.std.proofs.lemmas.List.{length-map}
use Rattle.chorus_entry.specs.declared.act.Act.TheVariants as Act
use Rattle.chorus_world.specs.Places.{taught}
use Rattle.law_machine.specs.PlaceState.{packed_at}
use Rattle.law_machine.specs.Trying.{report}
use Rattle.chorus_place.specs.contracts.tables.Tables.{the_view}
use Rattle.chorus_place.specs.PlaceTables.Tables.{turn, MayWait}
use Rattle.chorus_place.specs.PlaceTables.Going.{reports_for}
use Rattle.chorus_place.specs.PlaceTables.Steps.{MayTeach}
use Rattle.chorus_place.proofs.PlaceTables.States.{same_turn, put-loads, said-at}
use Rattle.chorus_place.proofs.PlaceTables.Kept.{said-by, held-later, numbered-plain, grouped-plain, all-first, sent-more, sent-report, boxed-more}
use Rattle.chorus_place.proofs.PlaceTables.Telling.{report-first, waiting-told, located-taught, reports-told, room-kept}
use Rattle.chorus_place.proofs.PlaceTables.Counted.{counted-more, report-one}
use Rattle.chorus_place.proofs.tables.Tables.tell.Goals as goal

pub invariant_of-self : goal.invariant_of-self
invariant_of-self c =
    let i = c.self.inside in
    let k = c.args.key.now in
    let w = c.unwrap.result.now in
    let x = c.args.id in
    let a = c.args.answer in
    let kept = c.self.invariant.2 in
    let act = Act.Told x a in
    let said = said-by i.number act c.args.caller.now i.journal c.say.new.journal c.say.ensures.journal in
    let first = sym c.first.ensures ∙ ap option_copied c.unwrap.ensures in
    let home = (all-first (MayWait i.layout i.number k) _ w first (kept.waiting k)).home in
    let loads = map (packed_at c.clock-clock.result i.number) (report i.number w.home x a) in
    let all = reports-told i.number k i.waits c.pass.new.waits w x a first c.pass.ensures in
    let seen = ap (λ p. reports_for k p) c.self.view_is in
    let space = ap (λ p. p.room) c.self.view_is in
    let room = c.requires.room in
    let count = length-map (report i.number w.home x a) (packed_at c.clock-clock.result i.number) in
    let teaches = subst (λ l. MayTeach l k.port (taught a)) (sym (ap (λ p. p.layout) c.self.view_is)) c.requires.may.teaches in (
      ap (λ j. j.layout) c.say.ensures.journal ∙ c.self.invariant.0,
      boxed-more i.layout i.puts.items c.put_report.new.puts.items loads i.out (length loads) c.self.invariant.1 c.put_report.ensures.items (omega arith) (omega (arith, all, seen, space, room, count)),
      record {
        place = kept.place;
        held = held-later i.layout i.number i.journal.past c.say.new.journal.past act i.ports.records kept.held said;
        layout = c.teach.ensures.layout ∙ kept.layout;
        located = located-taught i.layout i.hints c.teach.new.hints k.port (taught a) kept.located c.teach.ensures.pairs teaches;
        waiting = waiting-told i.layout i.number i.waits c.pass.new.waits k a kept.waiting c.pass.ensures;
        numbered = numbered-plain i.layout i.number i.journal.past c.say.new.journal.past act kept.numbered said refl;
        grouped = grouped-plain i.journal.past c.say.new.journal.past act kept.grouped said refl;
        sent = sent-more i.layout i.puts.items c.put_report.new.puts.items loads kept.sent c.put_report.ensures.items (sent-report i.layout i.number w.home c.clock-clock.result x a home);
      },
      counted-more i.puts.items c.put_report.new.puts.items loads i.out said c.self.invariant.3 c.put_report.ensures.items
          (report-one c.clock-clock.result i.number w.home x a),
    )

pub put_report-requires : goal.put_report-requires
put_report-requires c =
    let i = c.self.inside in
    let k = c.args.key.now in
    let w = c.unwrap.result.now in
    let first = sym c.first.ensures ∙ ap option_copied c.unwrap.ensures in
    let all = reports-told i.number k i.waits c.pass.new.waits w c.args.id c.args.answer first c.pass.ensures in
    let seen = ap (λ p. reports_for k p) c.self.view_is in
    let space = ap (λ p. p.room) c.self.view_is in
    let room = c.requires.room in
    omega (arith, all, seen, space, room)

pub returns-clause-turn : goal.returns-clause-turn
returns-clause-turn c =
    let i = c.self.inside in
    let k = c.args.key.now in
    let w = c.unwrap.result.now in
    let act = Act.Told c.args.id c.args.answer in
    let first = sym c.first.ensures ∙ ap option_copied c.unwrap.ensures in
    rw (← c.self.view_is)
    (same_turn _ _ refl refl (ap (λ j. j.past) c.say.ensures.journal) refl c.teach.ensures.pairs c.pass.ensures (λ x. refl) c.say.ensures.caller
    (put-loads i.puts.items c.put_report.new.puts.items (turn (the_view i) c.args.caller.now) c.clock-clock.result (report i.number w.home c.args.id c.args.answer) _ c.put_report.ensures.items
    (said-at i.number act c.args.caller.now i.journal c.say.new.journal _ c.say.ensures.journal c.clock-clock.ensures)
    (report-first i.number c.args.id c.args.answer _ w first)))

pub returns-clause-room : goal.returns-clause-room
returns-clause-room c =
    let i = c.self.inside in
    let k = c.args.key.now in
    let w = c.unwrap.result.now in
    let first = sym c.first.ensures ∙ ap option_copied c.unwrap.ensures in
    rw (← c.self.view_is)
    (room-kept _ _ _ _ _ _ _ _ (reports-told i.number k i.waits c.pass.new.waits w c.args.id c.args.answer first c.pass.ensures) c.put_report.ensures.len c.put_report.ensures.room)
