use Rattle.std.proofs.Common.{refl}
use Rattle.chorus_sessions.proofs.Steps.{session-goes}
use Rattle.chorus_sessions.proofs.session.Session.pump.Goals as goal

pub returns-clause-session : goal.returns-clause-session
returns-clause-session g c = session-goes c.args.nucleus.now c.args.self.now _ c.requires c.pump_all.ensures.goes refl refl refl
