use Rattle.std.proofs.Common.{ap, ◌∙◌, arith}
use Rattle.chorus_ui.specs.Layout.{has_place}
use Rattle.chorus_groups.specs.Made.{made_of}
use Rattle.law_machine.specs.PlaceState.{Turn, greatest_clock}
use Rattle.law_machine.specs.Choosing.{choice}
use Rattle.chorus_place.specs.PlaceTables.Tables.{Tables, state, turn}
use Rattle.chorus_place.specs.PlaceTables.Groups.{members_of}
use Rattle.chorus_place.proofs.PlaceTurns.WithGroups.GroupTurns.{on-err, posted-here, posted-clock, members-copies, ready-posted}
use Rattle.chorus_place.proofs.turns.with_groups.group_turns.post_here.Goals as goal

pub returns-in_err-chosen-clause-refused : goal.returns-in_err-chosen-clause-refused
returns-in_err-chosen-clause-refused c = on-err _ _ (c.prepare.ensures.turn c.args.caller.now)

pub post_alone-requires-clause-entry : goal.post_alone-requires-clause-entry
post_alone-requires-clause-entry c =
    let same = ap greatest_clock (c.prepare.ensures.turn c.args.caller.now) in
    let room = c.in_ok-chosen.ensures.ready.spare in
    let clock = c.requires.clock in
    record { spare = omega (arith, room); clock = omega (arith, same, clock) }

pub carry_out-requires-clause-home : goal.carry_out-requires-clause-home
carry_out-requires-clause-home c =
    let layout = ap (λ (p : Tables). p.layout) c.post_alone.ensures.same ∙ ap (λ (t : Turn). t.place.layout) (c.prepare.ensures.turn c.args.caller.now) in
    (λ i. has_place (layout i) (c.number-home.ensures.value i)) ∙ c.number-home.ensures.in_layout

pub carry_out-requires-clause-clock : goal.carry_out-requires-clause-clock
carry_out-requires-clause-clock c =
    let same = ap greatest_clock (c.prepare.ensures.turn c.args.caller.now) in
    let post = ap greatest_clock c.post_alone.ensures.turn in
    let one = posted-clock c.args.message c.args.dest (turn c.prepare.new.tables c.args.caller.now) in
    let clock = c.requires.clock in
    omega (arith, same, post, one, clock)

pub returns-clause-ok : goal.returns-clause-ok
returns-clause-ok c =
    posted-here c.args.message c.args.dest c.args.group c.number-home.result c.in_ok-chosen.chosen.copies.items (turn c.args.tables.now c.args.caller.now)
    (turn c.prepare.new.tables c.args.caller.now) (turn c.post_alone.new.self c.post_alone.new.caller) _ c.requires.may.group c.number-home.ensures.value
    (c.prepare.ensures.turn c.args.caller.now) c.post_alone.ensures.turn c.in_ok-chosen.ensures.copies c.carry_out.ensures.turn

pub returns-clause-reply : goal.returns-clause-reply
returns-clause-reply c =
    let all = choice c.args.dest (state c.args.tables.now) in
    c.reply_of-reply.ensures all
    (c.in_ok-chosen.ensures.ready.chosen ∙ ap made_of (ap members_of c.in_ok-chosen.ensures.copies ∙ members-copies c.args.message c.args.dest c.number-home.result 1 all))

pub carry_out-requires-clause-ready : goal.carry_out-requires-clause-ready
carry_out-requires-clause-ready c =
    let made = c.in_ok-chosen.chosen in
    ready-posted c.args.group c.number-home.result made.choice made.copies.items made.courses.items c.prepare.new.tables c.post_alone.new.self c.in_ok-chosen.ensures.ready
    c.post_alone.ensures.same c.post_alone.ensures.spare
