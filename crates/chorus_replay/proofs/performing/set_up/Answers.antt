use Rattle.std.proofs.Common.{refl, ◌∙◌, ◌+◌}
use Rattle.std.proofs.lemmas.Option.{slice_get_read}
use Rattle.std.proofs.lemmas.Result.{err_from_is_err_and}
use Rattle.law_network.specs.Network.{Act}
use Rattle.chorus_net.specs.Sites.{net}
use Rattle.chorus_replay.specs.Performing.{to_set_up}
use Rattle.chorus_replay.proofs.Loops.{order-is, setup_from, setup-next, setup-now, exit, act-unworn}
use Rattle.chorus_replay.proofs.Going.{opening-can, opening-next}
use Rattle.chorus_replay.proofs.Stepping.{can, from-start, step-may, act-done, act-worn}
use Rattle.chorus_replay.proofs.performing.set_up.Goals as goal

pub loop-line-init : goal.loop-line-init
loop-line-init c =
    let scene = c.args.scenario.now in
    (from-start (can scene c.requires.shape c.requires.keeps) (to_set_up scene) (net c.args.sites.now) (order-is scene) c.requires.start, c.requires.start, refl)

pub act-requires : goal.act-requires
act-requires c =
    let scene = c.args.scenario.now in
    let read = slice_get_read _ _ _ _ refl c.loop-line-test.true c.line-item.is in
    let next = setup-next scene _ _ _ _ _ c.setup-line-items.ensures read c.setup_command.ensures c.loop-line.invariant.0 in
    step-may (can scene c.requires.shape c.requires.keeps) (Act 0 c.setup_command.result) (setup_from scene (c.loop-line.line-index + 1)) (net c.loop-line.sites) next

pub returns-in_err-act-clause-worn : goal.returns-in_err-act-clause-worn
returns-in_err-act-clause-worn c clock is =
    let scene = c.args.scenario.now in
    let read = slice_get_read _ _ _ _ refl c.loop-line-test.true c.line-item.is in
    let next = setup-next scene _ _ _ _ _ c.setup-line-items.ensures read c.setup_command.ensures c.loop-line.invariant.0 in
    let p = err_from_is_err_and c.from_residual.result c.from_residual.ensures.1 in
    act-worn (can scene c.requires.shape c.requires.keeps) 0 c.setup_command.result _ _ _ clock next c.in_err-act.ensures.refused.same
    ((c.act.ensures.worn clock).0 (exit c.from_residual.result c.act.result _ p.0 _ p.1 p.2 c.in_err-act.was is))

pub returns-in_err-act-clause-early : goal.returns-in_err-act-clause-early
returns-in_err-act-clause-early c clock is =
    let scene = c.args.scenario.now in
    let read = slice_get_read _ _ _ _ refl c.loop-line-test.true c.line-item.is in
    let next = setup-next scene _ _ _ _ _ c.setup-line-items.ensures read c.setup_command.ensures c.loop-line.invariant.0 in
    let opens = opening-next scene c.requires.shape c.requires.keeps (c.loop-line.line-index + 1) c.setup_command.result _ next in
    let p = err_from_is_err_and c.from_residual.result c.from_residual.ensures.1 in
    act-worn (opening-can scene c.requires.shape c.requires.keeps) 0 c.setup_command.result _ _ _ clock opens c.in_err-act.ensures.refused.same
    ((c.act.ensures.worn clock).0 (exit c.from_residual.result c.act.result _ p.0 _ p.1 p.2 c.in_err-act.was is))

pub loop-line-preserved : goal.loop-line-preserved
loop-line-preserved c =
    let scene = c.args.scenario.now in
    let read = slice_get_read _ _ _ _ refl c.loop-line-test.true c.line-item.is in
    let next = setup-next scene _ _ _ _ _ c.setup-line-items.ensures read c.setup_command.ensures c.loop-line.invariant.0 in (
      act-done (can scene c.requires.shape c.requires.keeps) 0 c.setup_command.result _ _ _ next c.in_ok-act.ensures.ok (act-unworn c.act.result c.in_ok-act.field-0 _ c.in_ok-act.was c.act.ensures.worn),
      setup-now scene _ _ _ _ _ _ c.setup-line-items.ensures read c.setup_command.ensures c.loop-line.invariant.1 c.in_ok-act.ensures.ok,
      c.in_ok-act.ensures.mark ∙ c.loop-line.invariant.2,
    )
