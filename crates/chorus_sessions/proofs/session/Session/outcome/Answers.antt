use Rattle.std.proofs.Common.{refl}
use Rattle.chorus_sessions.proofs.Steps.{goes-outcome, session-goes}
use Rattle.chorus_sessions.proofs.session.Session.outcome.Goals as goal

pub returns-clause-session : goal.returns-clause-session
returns-clause-session c =
    let goes = goes-outcome c.args.nucleus.now c.args.id c.args.self.now.pass c.outcome.new.pass c.outcome.result c.outcome.ensures in
    session-goes c.args.nucleus.now c.args.self.now _ c.requires goes refl refl refl
