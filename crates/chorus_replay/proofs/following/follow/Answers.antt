use Rattle.std.proofs.Common.{length, refl, ◌∙◌, ap}
use Rattle.chorus_net.specs.Sites.{net}
use Rattle.chorus_replay.proofs.Going.{opens-at}
use Rattle.chorus_replay.proofs.Rounds.{none-done}
use Rattle.chorus_replay.proofs.following.follow.Goals as goal

pub loop-index-init : goal.loop-index-init
loop-index-init c =
    let scene = c.args.scenario.now in
    let zeros = c.in_ok-done.ensures.items_if_clones_equal (λ y h. h) in (
      opens-at scene c.requires.shape c.requires.keeps c.in_ok-done.done.items (net c.args.sites.now) (zeros ∙ none-done scene.scripts (length c.scripts.result.now) (ap length c.scripts.ensures)) c.requires.before,
      refl,
    )
