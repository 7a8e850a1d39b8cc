use Rattle.std.proofs.Common.{refl}
use Rattle.chorus_sessions.proofs.Steps.{goes-act, session-goes}
use Rattle.chorus_sessions.proofs.session.Session.act.Goals as goal

pub returns-clause-session : goal.returns-clause-session
returns-clause-session c =
    let n = c.args.nucleus.now in
    session-goes n c.args.self.now _ c.requires.session (goes-act n _ _ _ _ c.requires.no_take c.act.ensures) refl refl refl
