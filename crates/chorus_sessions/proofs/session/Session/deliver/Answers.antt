use Rattle.std.proofs.Common.{ℕ, List, [], ◌∷◌, ◌++◌, refl, ◌∙◌, ap}
use Rattle.chorus_sessions.specs.declared.hand.PortMessage.{PortMessage}
use Rattle.chorus_sessions.specs.Delivering.{as_delivered}
use Rattle.chorus_sessions.proofs.Delivered.{session-delivered}
use Rattle.chorus_sessions.proofs.Delivering.{delivers-none, steps-none}
use Rattle.chorus_sessions.proofs.Steps.{session-goes}
use Rattle.chorus_sessions.proofs.session.Session.deliver.Goals as goal

pub returns-in-None-clause-session : goal.returns-in-None-clause-session
returns-in-None-clause-session g c = session-goes c.args.nucleus.now c.args.self.now _ c.requires.session c.send_until_told.ensures.goes refl refl c.reserve.ensures.items

pub returns-in_default-clause-delivers : goal.returns-in_default-clause-delivers
returns-in_default-clause-delivers g c =
    let a = c.args.self.now.pass in (delivers-none c.args.nucleus.now c.args.port c.args.body.now a a (steps-none _ a), c.reserve.ensures.items)

pub returns-in_default-new-clause-delivers : goal.returns-in_default-new-clause-delivers
returns-in_default-new-clause-delivers g c =
    let a = c.args.self.now.pass in (delivers-none c.args.nucleus.now c.args.port c.args.body.now a a (steps-none _ a), c.reserve.ensures.items)

pub returns-in-Some-clause-session : goal.returns-in-Some-clause-session
returns-in-Some-clause-session g c =
    let t = c.in-Some.accepted in
    let sent : List ℕ → PortMessage = λ body. as_delivered c.args.port body t in
    session-delivered c.args.nucleus.now c.args.port c.args.body.now t c.args.self.now _ c.requires.session c.send_until_told.ensures.goes c.in-Some.ensures.delivers refl refl
    (c.push_reserved.ensures.items ∙ ap (λ (ms : List PortMessage). ms ++ sent c.in-Ok-new.kept ∷ []) c.reserve.ensures.items
    ∙ ap (λ (body : List ℕ). c.args.self.now.hand.delivered.items ++ sent body ∷ []) c.in-Ok-new.ensures.value)
