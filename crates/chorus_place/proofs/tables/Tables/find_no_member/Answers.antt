use Rattle.std.proofs.Common.{ap, refl, ◌∙◌, length, map, arith}
use Rattle.chorus_ui.specs.Layout.{has_place}
use Rattle.chorus_entry.specs.declared.act.Act.TheVariants as Act
use Rattle.chorus_entry.specs.declared.answer.Answer.TheVariants as A
use Rattle.law_machine.specs.PlaceState.{packed_at}
use Rattle.law_machine.specs.Trying.{report}
use Rattle.chorus_place.specs.contracts.tables.Tables.{the_view}
use Rattle.chorus_place.specs.PlaceTables.Tables.{turn}
use Rattle.chorus_place.proofs.PlaceTables.States.{same_turn, put-loads, said-at}
use Rattle.chorus_place.proofs.PlaceTables.Kept.{said-by, sent-more, sent-report, boxed-more}
use Rattle.chorus_place.proofs.PlaceTables.Groups.{report-one, kept-chosen}
use Rattle.chorus_place.proofs.PlaceTables.Counted.{counted-more, report-one as packet-one}
use Rattle.chorus_place.proofs.tables.Tables.find_no_member.Goals as goal

pub put_report-requires : goal.put_report-requires
put_report-requires c =
    let n = report-one c.self.inside.number c.args.home c.args.id A.NoMember in
    let space = ap (λ p. p.room) c.self.view_is in
    let room = c.requires.room in
    omega (arith, n, space, room)

pub invariant_of-self : goal.invariant_of-self
invariant_of-self c =
    let i = c.self.inside in
    let act = Act.NoMember c.args.id c.args.group in
    let kept = c.self.invariant.2 in
    let said = said-by i.number act c.args.caller.now i.journal c.say.new.journal c.say.ensures.journal in
    let loads = map (packed_at c.clock-clock.result i.number) (report i.number c.args.home c.args.id A.NoMember) in
    let n = packet-one c.clock-clock.result i.number c.args.home c.args.id A.NoMember in
    let space = ap (λ p. p.room) c.self.view_is in
    let room = c.requires.room in
    let home = ap (λ p. has_place p.layout c.args.home) c.self.view_is ∙ c.requires.home in (
      ap (λ j. j.layout) c.say.ensures.journal ∙ c.self.invariant.0,
      boxed-more i.layout i.puts.items c.put_report.new.puts.items loads i.out (length loads) c.self.invariant.1 c.put_report.ensures.items (omega arith) (omega (arith, n, space, room)),
      kept-chosen i.layout i.number i.journal.past c.say.new.journal.past i.ports.records i.hints i.waits i.waits i.puts.items c.put_report.new.puts.items act kept said (λ n. refl) (λ u. refl) (λ g qs. refl)
          kept.waiting (sent-more i.layout i.puts.items c.put_report.new.puts.items loads kept.sent c.put_report.ensures.items (sent-report i.layout i.number c.args.home c.clock-clock.result c.args.id A.NoMember home)),
      counted-more i.puts.items c.put_report.new.puts.items loads i.out said c.self.invariant.3 c.put_report.ensures.items n,
    )

pub returns-clause-turn : goal.returns-clause-turn
returns-clause-turn c =
    let i = c.self.inside in
    let act = Act.NoMember c.args.id c.args.group in
    rw (← c.self.view_is)
    (same_turn _ _ refl refl (ap (λ j. j.past) c.say.ensures.journal) refl (λ q. refl) (λ k. refl) (λ x. refl) c.say.ensures.caller
    (put-loads i.puts.items c.put_report.new.puts.items (turn (the_view i) c.args.caller.now) c.clock-clock.result (report i.number c.args.home c.args.id A.NoMember) _ c.put_report.ensures.items
    (said-at i.number act c.args.caller.now i.journal c.say.new.journal _ c.say.ensures.journal c.clock-clock.ensures) refl))
