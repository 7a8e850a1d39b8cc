use Rattle.chorus_perform.proofs.Comings.{found-at, script-meets, script-may, has-run}
use Rattle.std.proofs.Common.{refl}
use Rattle.chorus_perform.proofs.running.perform_script.Goals as goal

pub perform_by-runner-requires-clause-meets : goal.perform_by-runner-requires-clause-meets
perform_by-runner-requires-clause-meets g c κs within =
    let at = found-at c.scripts.result.now c.args.scenario.now.scripts c.args.index c.index-scripts-index.result c.scripts.ensures c.requires.ready.inside c.index-scripts-index.is in
    script-meets c.args.scenario.now c.requires.keeps c.args.index c.index-scripts-index.result at

pub perform_by-runner-requires-clause-may : goal.perform_by-runner-requires-clause-may
perform_by-runner-requires-clause-may g c κs within =
    let at = found-at c.scripts.result.now c.args.scenario.now.scripts c.args.index c.index-scripts-index.result c.scripts.ensures c.requires.ready.inside c.index-scripts-index.is in
    script-may c.args.scenario.now c.requires.keeps c.args.index c.index-scripts-index.result at c.index-scripts-index.result.commands c.args.runner.now.pass refl (c.requires.ready.new c.index-scripts-index.result at)

pub returns : goal.returns
returns g c =
    let at = found-at c.scripts.result.now c.args.scenario.now.scripts c.args.index c.index-scripts-index.result c.scripts.ensures c.requires.ready.inside c.index-scripts-index.is in
    let run = c.perform_by-runner in
    has-run c.args.nucleus.now c.args.scenario.now c.args.index c.index-scripts-index.result c.args.runner.now run.new.pass run.result c.has_wait-waits.result at run.ensures.pass run.ensures.whole run.ensures.first
    c.has_wait-waits.ensures run.ensures.plain run.ensures.unworn run.ensures.halted
