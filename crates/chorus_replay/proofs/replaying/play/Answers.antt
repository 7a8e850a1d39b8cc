use Rattle.std.proofs.Common.{None, length, ◌∙◌, ap, subst}
use Rattle.chorus_net.specs.Sites.{net}
use Rattle.chorus_replay.specs.Performing.{HasCome}
use Rattle.chorus_replay.specs.Waiting.{BehindRound}
use Rattle.chorus_replay.proofs.Going.{counted}
use Rattle.chorus_replay.proofs.replaying.play.Goals as goal

pub stuck_of-requires-clause-counted : goal.stuck_of-requires-clause-counted
stuck_of-requires-clause-counted c =
    let scene = c.args.scenario.now in
    let come : HasCome scene None c.in_ok-performed.performed.done.items (net c.perform.new.sites) =
    subst (λ w. HasCome scene w c.in_ok-performed.performed.done.items (net c.perform.new.sites)) c.in-None.is c.in_ok-performed.ensures.ok in
    ap length c.deref.ensures.value ∙ counted scene c.requires.shape c.requires.keeps BehindRound _ _ come.0
