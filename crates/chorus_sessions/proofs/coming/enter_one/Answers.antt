use Rattle.std.proofs.Common.{sym}
use Rattle.chorus_sessions.proofs.Comings.{session-new}
use Rattle.chorus_sessions.proofs.Playing.{new-session}
use Rattle.chorus_sessions.proofs.coming.enter_one.Goals as goal

pub returns-clause-session : goal.returns-clause-session
returns-clause-session c = session-new c.args.nucleus.now c.args.actor c.args.pass.now c.enter.new.pass _ c.in-Ok.ensures.ok (sym c.seat-seat.ensures) c.new.ensures.items c.new-2.ensures.items

pub returns-clause-new : goal.returns-clause-new
returns-clause-new c =
    new-session c.args.nucleus.now c.args.actor c.args.pass.now c.enter.new.pass _ c.in-Ok.ensures.ok
    (session-new c.args.nucleus.now c.args.actor c.args.pass.now c.enter.new.pass _ c.in-Ok.ensures.ok (sym c.seat-seat.ensures) c.new.ensures.items c.new-2.ensures.items) c.new.ensures.items c.new-2.ensures.items
