use Rattle.std.proofs.lemmas.Result.{err_from_is_err_and}
use Rattle.chorus_net.specs.Sites.{net}
use Rattle.chorus_explore.proofs.Entering.{entered-is, exit, wears-before}
use Rattle.chorus_explore.proofs.race_sites.entered.Goals as goal

pub returns-in_err-set_up-clause-worn : goal.returns-in_err-set_up-clause-worn
returns-in_err-set_up-clause-worn c clock is =
    let p = err_from_is_err_and c.from_residual.result c.from_residual.ensures.1 in
    wears-before c.args.scenario.now _ clock (c.set_up.ensures.worn clock (exit c.from_residual.result c.set_up.result _ p.0 _ p.1 p.2 c.in_err-set_up.was is))

pub returns-clause-ok : goal.returns-clause-ok
returns-clause-ok c = entered-is c.args.scenario.now (net c.enter.new.sites) c.in_ok-enter.ensures.ok
