use Rattle.std.proofs.Common.{◌<◌, List, ap, ◌∙◌, length, subst}
use Rattle.std.specs.Global.{Vec}
use Rattle.chorus_show.specs.declared.stuck.Stuck.{Stuck}
use Rattle.chorus_scene.specs.Scene.{Script}
use Rattle.chorus_replay.proofs.Rounds.{left-more, left-same}
use Rattle.chorus_replay.proofs.replaying.stuck_of.Goals.{then-next-commands+in_ok-push, else-next-commands}
use Rattle.chorus_replay.proofs.replaying.stuck_of.Goals as goal

pub loop-index-preserved : goal.loop-index-preserved
loop-index-preserved c =
    let scene = c.args.scenario.now in
    let done = c.args.done.now in
    let i = c.loop-index.index in
    let lt : i < length scene.scripts = subst (λ (xs : List Script). i < length xs) c.scripts-index-end.ensures c.loop-index-test.true in
    elim c.if-next-commands.branch [
      | then-next-commands+in_ok-push w ↦
          ap (λ (v : Vec Stuck). v.items) w.stuck-is ∙ w.in_ok-push.ensures.items
          ∙ left-more scene done i lt c.loop-index.stuck.items c.loop-index.invariant c.scripts.result.now c.index-scripts-index.result c.commands.result.now c.scripts.ensures c.index-scripts-index.is c.commands.ensures w.if-next-commands.true
      | else-next-commands w ↦
          ap (λ (v : Vec Stuck). v.items) w.stuck-is
          ∙ left-same scene done i lt c.loop-index.stuck.items c.loop-index.invariant c.scripts.result.now c.index-scripts-index.result c.commands.result.now c.scripts.ensures c.index-scripts-index.is c.commands.ensures w.if-next-commands.false
    ]
