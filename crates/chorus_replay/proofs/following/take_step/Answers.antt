use Rattle.std.proofs.Common.{◌+◌, ◌∷◌, drop}
use Rattle.std.proofs.lemmas.Result.{err_from_is_err_and}
use Rattle.chorus_scene.specs.declared.scenario.Step.TheVariants as steps
use Rattle.chorus_replay.specs.Waiting.{InSchedule}
use Rattle.chorus_replay.proofs.Going.{at-next, counted, may-do, step-of, stepped, step-stops, delivers-may, delivered, deliver-stops, drained, drain-step-stops}
use Rattle.chorus_replay.proofs.Loops.{step-at, exit, deliver-unworn}
use Rattle.chorus_replay.proofs.following.take_step.Goals as goal

pub go_on-requires-clause-script : goal.go_on-requires-clause-script
go_on-requires-clause-script c =
    let scene = c.args.scenario.now in
    let k = c.in-Step.seat in
    let at = step-at scene c.schedule.result.now c.args.index _ (steps.Step k) c.schedule.ensures c.requires.index c.in-Step.is in
    let here = at-next scene c.requires.shape c.requires.keeps c.args.index (steps.Step k) _ _ at c.requires.at in
    step-of scene c.requires.shape c.requires.keeps k (drop (c.args.index + 1) scene.schedule) _ _ here

pub go_on-requires-clause-counted : goal.go_on-requires-clause-counted
go_on-requires-clause-counted c =
    let scene = c.args.scenario.now in
    counted scene c.requires.shape c.requires.keeps (InSchedule (drop c.args.index scene.schedule)) _ _ c.requires.at

pub go_on-requires-clause-may : goal.go_on-requires-clause-may
go_on-requires-clause-may c = λ command next.
    let scene = c.args.scenario.now in
    let k = c.in-Step.seat in
    let at = step-at scene c.schedule.result.now c.args.index _ (steps.Step k) c.schedule.ensures c.requires.index c.in-Step.is in
    let here = at-next scene c.requires.shape c.requires.keeps c.args.index (steps.Step k) _ _ at c.requires.at in
    may-do scene c.requires.shape c.requires.keeps (InSchedule (steps.Step k ∷ drop (c.args.index + 1) scene.schedule)) _ _ here k
    (step-of scene c.requires.shape c.requires.keeps k (drop (c.args.index + 1) scene.schedule) _ _ here) command next

pub returns-in_err-go_on-in-Step-clause-worn : goal.returns-in_err-go_on-in-Step-clause-worn
returns-in_err-go_on-in-Step-clause-worn c clock is =
    let scene = c.args.scenario.now in
    let k = c.in-Step.seat in
    let at = step-at scene c.schedule.result.now c.args.index _ (steps.Step k) c.schedule.ensures c.requires.index c.in-Step.is in
    let here = at-next scene c.requires.shape c.requires.keeps c.args.index (steps.Step k) _ _ at c.requires.at in
    let p = err_from_is_err_and c.from_residual.result c.from_residual.ensures.1 in
    step-stops scene c.requires.shape c.requires.keeps k (drop (c.args.index + 1) scene.schedule) _ _ here clock _
    (c.go_on.ensures.worn clock (exit c.from_residual.result c.go_on.result _ p.0 _ p.1 p.2 c.in_err-go_on-in-Step.was is))

pub returns-in_ok-go_on-in-Step-clause-ok : goal.returns-in_ok-go_on-in-Step-clause-ok
returns-in_ok-go_on-in-Step-clause-ok c =
    let scene = c.args.scenario.now in
    let k = c.in-Step.seat in
    let at = step-at scene c.schedule.result.now c.args.index _ (steps.Step k) c.schedule.ensures c.requires.index c.in-Step.is in
    let here = at-next scene c.requires.shape c.requires.keeps c.args.index (steps.Step k) _ _ at c.requires.at in
    stepped scene c.requires.shape c.requires.keeps k (drop (c.args.index + 1) scene.schedule) _ _ here c.in_ok-go_on-in-Step.field-0 _ _ c.in_ok-go_on-in-Step.ensures.ok

pub deliver-requires : goal.deliver-requires
deliver-requires c =
    let scene = c.args.scenario.now in
    let s = steps.Deliver c.in-Deliver.from c.in-Deliver.to in
    let at = step-at scene c.schedule.result.now c.args.index _ s c.schedule.ensures c.requires.index c.in-Deliver.is in
    let here = at-next scene c.requires.shape c.requires.keeps c.args.index s _ _ at c.requires.at in
    record { link = delivers-may scene c.requires.shape c.requires.keeps c.in-Deliver.from c.in-Deliver.to (drop (c.args.index + 1) scene.schedule) _ _ here }

pub returns-in_err-deliver-in-Deliver-clause-worn : goal.returns-in_err-deliver-in-Deliver-clause-worn
returns-in_err-deliver-in-Deliver-clause-worn c clock is =
    let scene = c.args.scenario.now in
    let s = steps.Deliver c.in-Deliver.from c.in-Deliver.to in
    let at = step-at scene c.schedule.result.now c.args.index _ s c.schedule.ensures c.requires.index c.in-Deliver.is in
    let here = at-next scene c.requires.shape c.requires.keeps c.args.index s _ _ at c.requires.at in
    let p = err_from_is_err_and c.from_residual-in_err-deliver-in-Deliver.result c.from_residual-in_err-deliver-in-Deliver.ensures.1 in
    let worn = (c.deliver.ensures.worn clock).0 (exit c.from_residual-in_err-deliver-in-Deliver.result c.deliver.result _ p.0 _ p.1 p.2 c.in_err-deliver-in-Deliver.was is) in
    deliver-stops scene c.requires.shape c.requires.keeps c.in-Deliver.from c.in-Deliver.to (drop (c.args.index + 1) scene.schedule) _ _ _ clock here c.in_err-deliver-in-Deliver.ensures.refused.same worn.1 worn.0

pub returns-in_ok-deliver-in-Deliver-clause-ok : goal.returns-in_ok-deliver-in-Deliver-clause-ok
returns-in_ok-deliver-in-Deliver-clause-ok c =
    let scene = c.args.scenario.now in
    let s = steps.Deliver c.in-Deliver.from c.in-Deliver.to in
    let at = step-at scene c.schedule.result.now c.args.index _ s c.schedule.ensures c.requires.index c.in-Deliver.is in
    let here = at-next scene c.requires.shape c.requires.keeps c.args.index s _ _ at c.requires.at in
    delivered scene c.requires.shape c.requires.keeps c.in-Deliver.from c.in-Deliver.to (drop (c.args.index + 1) scene.schedule) _ _ _ here c.in_ok-deliver-in-Deliver.ensures.ok
    (deliver-unworn c.deliver.result c.in_ok-deliver-in-Deliver.field-0 _ c.in_ok-deliver-in-Deliver.was c.deliver.ensures.worn)

pub returns-in_err-drain-in-Drain-clause-worn : goal.returns-in_err-drain-in-Drain-clause-worn
returns-in_err-drain-in-Drain-clause-worn c clock is =
    let scene = c.args.scenario.now in
    let at = step-at scene c.schedule.result.now c.args.index _ steps.Drain c.schedule.ensures c.requires.index c.in-Drain.is in
    let here = at-next scene c.requires.shape c.requires.keeps c.args.index steps.Drain _ _ at c.requires.at in
    let p = err_from_is_err_and c.from_residual-in_err-drain-in-Drain.result c.from_residual-in_err-drain-in-Drain.ensures.1 in
    drain-step-stops scene c.requires.shape c.requires.keeps (drop (c.args.index + 1) scene.schedule) _ _ _ clock here
    (c.drain.ensures.worn clock (exit c.from_residual-in_err-drain-in-Drain.result c.drain.result _ p.0 _ p.1 p.2 c.in_err-drain-in-Drain.was is))

pub returns-in_ok-drain-in-Drain-clause-ok : goal.returns-in_ok-drain-in-Drain-clause-ok
returns-in_ok-drain-in-Drain-clause-ok c =
    let scene = c.args.scenario.now in
    let at = step-at scene c.schedule.result.now c.args.index _ steps.Drain c.schedule.ensures c.requires.index c.in-Drain.is in
    let here = at-next scene c.requires.shape c.requires.keeps c.args.index steps.Drain _ _ at c.requires.at in
    drained scene c.requires.shape c.requires.keeps (drop (c.args.index + 1) scene.schedule) _ _ _ _ here c.in_ok-drain-in-Drain.ensures.ok
