use Rattle.std.proofs.lemmas.Result.{err_from_is_err_and}
use Rattle.chorus_replay.proofs.Going.{opens-worn}
use Rattle.chorus_replay.proofs.Loops.{exit}
use Rattle.chorus_replay.proofs.performing.perform_tasks.Goals as goal

pub returns-in_err-set_up-clause-worn : goal.returns-in_err-set_up-clause-worn
returns-in_err-set_up-clause-worn c clock is =
    let p = err_from_is_err_and c.from_residual.result c.from_residual.ensures.1 in
    opens-worn c.args.scenario.now c.requires.shape c.requires.keeps clock _ (c.set_up.ensures.early clock (exit c.from_residual.result c.set_up.result _ p.0 _ p.1 p.2 c.in_err-set_up.was is))
