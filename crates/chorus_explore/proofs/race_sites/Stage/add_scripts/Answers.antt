use Rattle.chorus_explore.specs.Stages.{moves_of}
use Rattle.chorus_explore.proofs.Moving.{script-more}
use Rattle.chorus_explore.proofs.race_sites.Stage.add_scripts.Goals as goal

pub loop-index-preserved : goal.loop-index-preserved
loop-index-preserved c =
    let l = c.loop-index in
    script-more c.args.scenario.now (moves_of c.args.self.now) l.index c.args.moves.now.items l.moves.items _
    c.in_ok-add_script.ensures l.invariant
