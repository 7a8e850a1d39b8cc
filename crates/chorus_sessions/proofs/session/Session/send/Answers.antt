use Rattle.std.proofs.Common.{refl}
use Rattle.chorus_sessions.proofs.Steps.{goes-send, session-goes}
use Rattle.chorus_sessions.proofs.session.Session.send.Goals as goal

pub returns-clause-session : goal.returns-clause-session
returns-clause-session c =
    let n = c.args.nucleus.now in
    session-goes n c.args.self.now _ c.requires.session (goes-send n _ _ _ _ _ c.send.ensures) refl refl refl
