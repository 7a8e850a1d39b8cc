use Rattle.std.proofs.Common.{◌+◌, refl, ap, sym, ◌∙◌, slice_get, arith, Err}
use Rattle.std.proofs.lemmas.Bool.{false≢true}
use Rattle.chorus_net.specs.Sites.{net}
use Rattle.chorus_replay.specs.Load.{load_layout, load_order, load_setup}
use Rattle.chorus_replay.specs.Order.{after_setup}
use Rattle.chorus_replay.proofs.Loops.{after-some, enter-first, seats-few}
use Rattle.chorus_replay.proofs.LoadTasks.{load-can, load-seats, seats_left, seat-next}
use Rattle.chorus_replay.proofs.Stepping.{enter-done, enter-may}
use Rattle.chorus_replay.proofs.loading.enter.Goals as goal

pub unreachable-requires : goal.unreachable-requires
unreachable-requires c =
    let i = c.loop-index.index in
    let first = c.args.first in
    let commands = c.args.commands in
    let actor = c.load_actor.result in
    let next = seat-next first commands i actor (net c.loop-index.sites) c.load_actor.ensures c.loop-index-test.true c.loop-index.invariant.1 c.loop-index.invariant.0 in
    let there = (enter-may (load-can first commands c.requires.commands) actor _ (net c.loop-index.sites) next).1 in
    let missing = c.in-Err-NoActor.ensures.no_actor.0 (ap Err c.in-Err-NoActor.field-0-is) in
    false≢true (sym missing ∙ there)

pub unreachable-requires-in-Err-NoSeat : goal.unreachable-requires-in-Err-NoSeat
unreachable-requires-in-Err-NoSeat c =
    let first = c.args.first in
    let commands = c.args.commands in
    let few = seats-few load_layout (load_order first commands) _ (net c.loop-index.sites) (load-seats first commands) c.loop-index.invariant.0 in
    let many = (c.in-Err-NoSeat.ensures.no_seat _).0 (ap Err c.in-Err-NoSeat.field-0-is) in
    let all = many.1 in
    omega (arith, few, all)

pub loop-index-init : goal.loop-index-init
loop-index-init c = (c.requires.before, ap (λ n. slice_get n.callers 0) c.requires.now, refl)

pub loop-index-preserved : goal.loop-index-preserved
loop-index-preserved c =
    let i = c.loop-index.index in
    let first = c.args.first in
    let commands = c.args.commands in
    let actor = c.load_actor.result in
    let next = seat-next first commands i actor (net c.loop-index.sites) c.load_actor.ensures c.loop-index-test.true c.loop-index.invariant.1 c.loop-index.invariant.0 in (
      enter-done (load-can first commands c.requires.commands) actor (seats_left first commands (i + 1)) _ _ next c.in-Ok.ensures.ok,
      enter-first (slice_get (after_setup load_layout load_setup).callers 0) actor _ _ (after-some load_layout load_setup) c.loop-index.invariant.1 c.in-Ok.ensures.ok,
      c.in-Ok.ensures.mark ∙ c.loop-index.invariant.2,
    )
