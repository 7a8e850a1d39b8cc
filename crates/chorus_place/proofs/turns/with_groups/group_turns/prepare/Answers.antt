use Rattle.std.proofs.Common.{◌+◌, List, length, ap, refl, subst, ◌∙◌, arith}
use Rattle.chorus_ui.specs.declared.ui.Ui.{Ui}
use Rattle.place_unsettled.specs.Queues.{queue}
use Rattle.law_machine.specs.Choosing.{choice}
use Rattle.chorus_place.specs.PlaceTables.Tables.{state}
use Rattle.chorus_place.specs.PlaceTables.Groups.{HaveLines, waiting_for}
use Rattle.chorus_place.specs.PlaceTurns.WithGroups.GroupTurns.{copies}
use Rattle.chorus_place.proofs.PlaceTurns.WithGroups.GroupTurns.{chosen-list, kinds-copies, all-ready}
use Rattle.chorus_place.proofs.turns.with_groups.group_turns.prepare.Goals as goal

pub courses_for-requires : goal.courses_for-requires
courses_for-requires c =
    let all = choice c.args.dest.now (state c.args.tables.now) in
    let same = chosen-list c.in_ok-choice.choice c.members.result.now all c.in_ok-choice.ensures.value c.members.ensures in
    record { kinds = kinds-copies c.args.message.now c.args.dest.now c.args.home c.members.result.now all c.in_ok-copies.copies.items c.in_ok-copies.ensures same c.choice.ensures.kinds }

pub returns-clause-ready : goal.returns-clause-ready
returns-clause-ready c =
    let g = c.args.group in
    let p = c.args.tables.now in
    let now = c.make_copy_lines.new.self in
    let made = c.in_ok-choice.choice in
    let all = choice c.args.dest.now (state p) in
    let is = c.in_ok-choice.ensures.value in
    let one = chosen-list made c.members.result.now all is c.members.ensures in
    let two = chosen-list made c.members-2.result.now all is c.members-2.ensures in
    let three = ap (λ (xs : List Ui). length xs) (chosen-list made c.members-3.result.now all is c.members-3.ensures) in
    let four = chosen-list made c.members-4.result.now all is c.members-4.ensures in
    let room = c.in_ok-make_room.ensures.room in
    all-ready c.args.message.now c.args.dest.now g c.args.home p c.make_room.new.self now made all all c.in_ok-copies.copies.items c.in_ok-courses.courses.items c.in_ok-count.count
    is refl c.choice.ensures.kinds c.choice.ensures.distinct c.choice.ensures.few c.requires.sound
    (c.in_ok-copies.ensures ∙ ap (copies c.args.message.now c.args.dest.now c.args.home 1) one)
    (c.in_ok-count.ensures.value ∙ ap (λ (xs : List Ui). waiting_for g xs (queue p.waits) + length xs) two)
    c.in_ok-count.ensures.within c.make_room.ensures.same.waits c.in_ok-make_room.ensures.spare (omega (arith, three, room)) c.make_copy_lines.ensures.same c.make_copy_lines.ensures.queues
    (subst (HaveLines g now.waits) four c.in_ok-make_copy_lines.ensures.lines) c.in_ok-courses.ensures
