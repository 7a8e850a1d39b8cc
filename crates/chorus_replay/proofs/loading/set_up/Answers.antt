use Rattle.std.proofs.Common.{◌+◌, ◌∙◌, refl}
use Rattle.std.proofs.lemmas.Result.{err_from_is_err_and}
use Rattle.law_network.specs.Network.{Act}
use Rattle.chorus_net.specs.Sites.{net}
use Rattle.chorus_replay.specs.Load.{to_set_up}
use Rattle.chorus_replay.proofs.Loops.{exit, act-unworn}
use Rattle.chorus_replay.proofs.LoadTasks.{load-can, setup_left, setup-next, setup-now}
use Rattle.chorus_replay.proofs.Stepping.{from-start, step-may, act-done, act-worn}
use Rattle.chorus_replay.proofs.loading.set_up.Goals as goal

pub loop-index-init : goal.loop-index-init
loop-index-init c =
    let first = c.args.first in
    let commands = c.args.commands in
    (from-start (load-can first commands c.requires.commands) (to_set_up first commands) (net c.args.sites.now) refl c.requires.start, c.requires.start, refl)

pub act-requires : goal.act-requires
act-requires c =
    let first = c.args.first in
    let commands = c.args.commands in
    let next = setup-next first commands c.loop-index.index c.setup_command.result (net c.loop-index.sites) c.setup_command.ensures c.loop-index.invariant.0 in
    step-may (load-can first commands c.requires.commands) (Act 0 c.setup_command.result) (setup_left first commands (c.loop-index.index + 1)) (net c.loop-index.sites) next

pub returns-in_err-act-clause-worn : goal.returns-in_err-act-clause-worn
returns-in_err-act-clause-worn c clock is =
    let first = c.args.first in
    let commands = c.args.commands in
    let next = setup-next first commands c.loop-index.index c.setup_command.result (net c.loop-index.sites) c.setup_command.ensures c.loop-index.invariant.0 in
    let p = err_from_is_err_and c.from_residual.result c.from_residual.ensures.1 in
    act-worn (load-can first commands c.requires.commands) 0 c.setup_command.result _ _ _ clock next c.in_err-act.ensures.refused.same
    ((c.act.ensures.worn clock).0 (exit c.from_residual.result c.act.result _ p.0 _ p.1 p.2 c.in_err-act.was is))

pub loop-index-preserved : goal.loop-index-preserved
loop-index-preserved c =
    let first = c.args.first in
    let commands = c.args.commands in
    let next = setup-next first commands c.loop-index.index c.setup_command.result (net c.loop-index.sites) c.setup_command.ensures c.loop-index.invariant.0 in (
      act-done (load-can first commands c.requires.commands) 0 c.setup_command.result _ _ _ next c.in_ok-act.ensures.ok (act-unworn c.act.result c.in_ok-act.field-0 _ c.in_ok-act.was c.act.ensures.worn),
      setup-now c.loop-index.index c.setup_command.result _ _ c.setup_command.ensures c.loop-index.invariant.1 c.in_ok-act.ensures.ok,
      c.in_ok-act.ensures.mark ∙ c.loop-index.invariant.2,
    )
