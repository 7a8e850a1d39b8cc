use Rattle.std.proofs.Common.{List, [], ◌∷◌, ◌++◌, refl, ◌∙◌, ap}
use Rattle.chorus_entry.specs.declared.command.Command.{Command}
use Rattle.chorus_sessions.specs.declared.hand.PortMessage.{PortMessage}
use Rattle.chorus_sessions.proofs.Steps.{goes-empty, goes-not-here, goes-refused, session-goes, session-took}
use Rattle.chorus_sessions.proofs.session.Session.ask.Goals as goal

pub returns-in-Ok-Taken-clause-session : goal.returns-in-Ok-Taken-clause-session
returns-in-Ok-Taken-clause-session c =
    let call = rw c.in-Ok-Taken.field-0-is at c.in-Ok-Taken.ensures in
    session-took c.args.nucleus.now c.args.port c.args.self.now _ c.requires.session
    record {
      got = record { port = c.args.port; position = c.in-Ok-Taken.pos; message = c.in-Ok-Taken.message };
      settled = c.in-Ok-Taken.field-0-2;
      port = refl;
      call = call;
      taken = c.push_reserved.ensures.items ∙ ap (λ (ms : List PortMessage). ms ++ record { port = c.args.port; position = c.in-Ok-Taken.pos; message = c.in-Ok-Taken.message } ∷ []) c.reserve.ensures.items;
      delivered = refl;
    }
    refl

pub returns-in-Ok-Empty-clause-session : goal.returns-in-Ok-Empty-clause-session
returns-in-Ok-Empty-clause-session c =
    let call = rw c.in-Ok-Empty.field-0-is at c.in-Ok-Empty.ensures in
    session-goes c.args.nucleus.now c.args.self.now _ c.requires.session (goes-empty c.args.nucleus.now c.args.port c.args.self.now.pass c.take.new.pass call) refl c.reserve.ensures.items refl

pub returns-in-Ok-NotHere-clause-session : goal.returns-in-Ok-NotHere-clause-session
returns-in-Ok-NotHere-clause-session c =
    let call = rw c.in-Ok-NotHere.field-0-is at c.in-Ok-NotHere.ensures in
    session-goes c.args.nucleus.now c.args.self.now _ c.requires.session (goes-not-here c.args.nucleus.now c.args.port c.args.self.now.pass c.take.new.pass call) refl c.reserve.ensures.items refl

pub returns-in-Err-take-clause-session : goal.returns-in-Err-take-clause-session
returns-in-Err-take-clause-session c =
    session-goes c.args.nucleus.now c.args.self.now _ c.requires.session
    (goes-refused c.args.nucleus.now (Command.Take c.args.port) c.args.self.now.pass c.take.new.pass c.in-Err-take.fault c.in-Err-take.ensures) refl c.reserve.ensures.items refl
