use Rattle.std.proofs.Common.{◌+◌, ◌∙◌, length, ap, arith}
use Rattle.std.proofs.lemmas.Result.{err_from_is_err_and}
use Rattle.chorus_net.specs.Sites.{net}
use Rattle.chorus_replay.proofs.Going.{round-end-stops, round-ends}
use Rattle.chorus_replay.proofs.Loops.{exit}
use Rattle.chorus_replay.proofs.Rounds.{at-end, round-on}
use Rattle.chorus_replay.proofs.following.round.Goals as goal

pub loop-index-preserved : goal.loop-index-preserved
loop-index-preserved c = (
  c.in_ok-finish_script.ensures.ok,
  round-on c.args.scenario.now c.args.done.now.items (net c.args.sites.now) c.loop-index.index c.loop-index.done.items c.finish_script.new.done.items (net c.loop-index.sites) (net c.finish_script.new.sites)
      c.loop-index.invariant.1 c.in_ok-finish_script.ensures.more,
  c.in_ok-finish_script.ensures.mark ∙ c.loop-index.invariant.2,
)

pub returns-in_err-drain-clause-worn : goal.returns-in_err-drain-clause-worn
returns-in_err-drain-clause-worn c clock is =
    let scene = c.args.scenario.now in
    let all = ap length c.scripts-index-end.ensures in
    let over = c.loop-index-test.false in
    let here = at-end scene (c.loop-index.index + 1) _ _ (omega (arith, all, over)) c.loop-index.invariant.0 in
    let p = err_from_is_err_and c.from_residual-in_err-drain.result c.from_residual-in_err-drain.ensures.1 in
    round-end-stops scene c.requires.shape c.requires.keeps _ _ (net c.drain.new.self) clock here
    (c.drain.ensures.worn clock (exit c.from_residual-in_err-drain.result c.drain.result _ p.0 _ p.1 p.2 c.in_err-drain.was is))

pub returns-clause-ok : goal.returns-clause-ok
returns-clause-ok c =
    let scene = c.args.scenario.now in
    let all = ap length c.scripts-index-end.ensures in
    let over = c.loop-index-test.false in
    let here = at-end scene (c.loop-index.index + 1) _ _ (omega (arith, all, over)) c.loop-index.invariant.0 in
    round-ends scene c.requires.shape c.requires.keeps _ _ (net c.drain.new.self) _ here c.in_ok-drain.ensures.ok
