use Rattle.std.proofs.Common.{[]}
use Rattle.std.proofs.lemmas.Result.{err_from_is_err_and}
use Rattle.chorus_replay.proofs.Loops.{exit}
use Rattle.chorus_replay.proofs.LoadTasks.{load-can}
use Rattle.chorus_replay.proofs.Stepping.{drain-done, drain-worn}
use Rattle.chorus_replay.proofs.loading.perform_tasks.Goals as goal

pub returns-in_err-drain-clause-worn : goal.returns-in_err-drain-clause-worn
returns-in_err-drain-clause-worn c clock is =
    let p = err_from_is_err_and c.from_residual-in_err-drain.result c.from_residual-in_err-drain.ensures.1 in
    drain-worn (load-can c.args.first c.args.commands c.requires.commands) [] _ _ clock c.in_ok-take_turns.ensures.ok
    (c.drain.ensures.worn clock (exit c.from_residual-in_err-drain.result c.drain.result _ p.0 _ p.1 p.2 c.in_err-drain.was is))

pub returns-clause-ok : goal.returns-clause-ok
returns-clause-ok c = drain-done (load-can c.args.first c.args.commands c.requires.commands) [] _ _ _ c.in_ok-take_turns.ensures.ok c.in_ok-drain.ensures.ok
