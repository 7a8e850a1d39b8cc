use Rattle.std.proofs.Common.{refl, ap, sym, slice_get, ◌∙◌, ◌+◌, arith, Err}
use Rattle.std.proofs.lemmas.Bool.{false≢true}
use Rattle.std.proofs.lemmas.Option.{slice_get_read}
use Rattle.chorus_net.specs.Sites.{net}
use Rattle.chorus_replay.specs.Order.{order, set_up}
use Rattle.chorus_report.specs.Setup.{setup_commands}
use Rattle.chorus_replay.proofs.Loops.{enter_from, enter-next, after-some, enter-first, seats-few, scripts-few}
use Rattle.chorus_replay.proofs.Stepping.{can, enter-done, enter-may}
use Rattle.chorus_replay.proofs.performing.enter.Goals as goal

pub unreachable-requires : goal.unreachable-requires
unreachable-requires c =
    let scene = c.args.scenario.now in
    let read = slice_get_read _ _ _ _ refl c.loop-script-test.true c.script-item.is in
    let next = enter-next scene _ _ _ _ _ c.scripts-script-items.ensures read c.actor.ensures c.loop-script.invariant.1 c.loop-script.invariant.0 in
    let there = (enter-may (can scene c.requires.shape c.requires.keeps) c.actor.result _ (net c.loop-script.sites) next).1 in
    let missing = c.in-Err-NoActor.ensures.no_actor.0 (ap Err c.in-Err-NoActor.field-0-is) in
    false≢true (sym missing ∙ there)

pub unreachable-requires-in-Err-NoSeat : goal.unreachable-requires-in-Err-NoSeat
unreachable-requires-in-Err-NoSeat c =
    let scene = c.args.scenario.now in
    let few = seats-few scene.layout (order scene) _ (net c.loop-script.sites) (scripts-few scene c.requires.keeps) c.loop-script.invariant.0 in
    let many = (c.in-Err-NoSeat.ensures.no_seat _).0 (ap Err c.in-Err-NoSeat.field-0-is) in
    let all = many.1 in
    omega (arith, few, all)

pub loop-script-preserved : goal.loop-script-preserved
loop-script-preserved c =
    let scene = c.args.scenario.now in
    let read = slice_get_read _ _ _ _ refl c.loop-script-test.true c.script-item.is in
    let next = enter-next scene _ _ _ _ _ c.scripts-script-items.ensures read c.actor.ensures c.loop-script.invariant.1 c.loop-script.invariant.0 in (
      enter-done (can scene c.requires.shape c.requires.keeps) c.actor.result (enter_from scene (c.loop-script.script-index + 1)) _ _ next c.in-Ok.ensures.ok,
      enter-first (slice_get (set_up scene).callers 0) c.actor.result _ _ (after-some scene.layout (setup_commands scene)) c.loop-script.invariant.1 c.in-Ok.ensures.ok,
      c.in-Ok.ensures.mark ∙ c.loop-script.invariant.2,
    )
