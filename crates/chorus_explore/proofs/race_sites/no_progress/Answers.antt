use Rattle.std.proofs.Common.{◌≡◌, length, ap, arith}
use Rattle.chorus_explore.proofs.Staging.{none-performed}
use Rattle.chorus_explore.proofs.race_sites.no_progress.Goals as goal

pub returns : goal.returns
returns c = λ asks.
    let scene = c.args.scenario.now in
    let inv = c.loop-script.invariant in
    let long : length c.loop-script.scripts.items ≡ length scene.scripts =
    (let n = inv.0 in let all = ap length c.scripts-script-items.ensures in let end = c.loop-script-test.false in let most = c.loop-script.auto._script-index-end in omega (arith, n, all, end, most)) in
    none-performed asks 1 scene.scripts c.loop-script.scripts.items long inv.1
