use Rattle.std.proofs.Common.{refl, subst}
use Rattle.chorus_entry.specs.declared.command.Command.TheVariants as Command
use Rattle.chorus_ports.specs.declared.taking.Taken.TheVariants as T
use Rattle.law_machine.specs.declared.reply.Reply.{Reply}
use Rattle.chorus_place.specs.PlaceTables.Commands.{Performed}
use Rattle.chorus_place.specs.PlaceTables.Tables.{turn}
use Rattle.chorus_place.proofs.PlaceTurns.Performing.{taking, taking-refused}
use Rattle.chorus_place.proofs.PlaceTables.Ports.{has-number}
use Rattle.chorus_place.proofs.turns.ports.take.Goals as goal

pub returns-in-NotHere-clause-performed : goal.returns-in-NotHere-clause-performed
returns-in-NotHere-clause-performed c =
    let t = turn c.make_room.new.self c.args.caller.now in
    let u = turn c.take_message.new.self c.take_message.new.caller in
    subst (λ x. Performed (Command.Take c.args.port) x u Reply.NotHere) (c.make_room.ensures.turn c.args.caller.now)
    (taking-refused c.args.port t u T.NotHere c.in-NotHere.ensures.taken refl c.in-NotHere.ensures.turn)

pub returns-in-Empty-clause-performed : goal.returns-in-Empty-clause-performed
returns-in-Empty-clause-performed c =
    let t = turn c.make_room.new.self c.args.caller.now in
    let u = turn c.take_message.new.self c.take_message.new.caller in
    subst (λ x. Performed (Command.Take c.args.port) x u Reply.Empty) (c.make_room.ensures.turn c.args.caller.now)
    (taking-refused c.args.port t u T.Empty c.in-Empty.ensures.taken refl c.in-Empty.ensures.turn)

pub returns-in-Message-clause-performed : goal.returns-in-Message-clause-performed
returns-in-Message-clause-performed c =
    let t = turn c.make_room.new.self c.args.caller.now in
    let mid = turn c.take_message.new.self c.take_message.new.caller in
    let u = turn c.heed-settled.new.self c.heed-settled.new.caller in
    subst (λ x. Performed (Command.Take c.args.port) x u (Reply.Taken c.in-Message.pos c.in-Message.message c.heed-settled.result)) (c.make_room.ensures.turn c.args.caller.now)
    (taking c.args.port t mid u c.in-Message.pos c.in-Message.message c.heed-settled.result c.in-Message.ensures.taken c.in-Message.ensures.turn c.heed-settled.ensures.turn
    c.heed-settled.ensures.settled)

pub heed-settled-requires-clause-numbered : goal.heed-settled-requires-clause-numbered
heed-settled-requires-clause-numbered c = has-number c.in-Message.message c.in-Message.ensures.sound
