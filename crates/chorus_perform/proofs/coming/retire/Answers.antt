use Rattle.std.proofs.Common.{◌≡◌, ◌+◌, ◌∷◌, ◌++◌, [], List, length, ap, subst, arith}
use Rattle.std.proofs.lemmas.List.{length-append}
use Rattle.std.specs.Vec.{vec_len}
use Rattle.chorus_nucleus.specs.Passes.{caller_of}
use Rattle.chorus_perform.specs.declared.runner.Runner.{Runner}
use Rattle.chorus_perform.specs.Runners.{AreEnding, IsEndingAt}
use Rattle.chorus_perform.proofs.Leavings.{but-last, retired-step}
use Rattle.chorus_perform.proofs.coming.retire.Goals as goal

pub loop-runner-preserved : goal.loop-runner-preserved
loop-runner-preserved c =
    let n = c.args.nucleus.now in
    let scene = c.args.scenario.now in
    let begun = (caller_of c.args.pass.now).last in
    let now = c.pop.new.self in
    let runner = c.in-Some.runner in
    let items : c.loop-runner.runners.items ≡ now.items ++ (runner ∷ []) = c.in-Some.ensures.items in
    let both = but-last n scene begun now.items runner (subst (AreEnding n scene begun) items c.loop-runner.invariant.1) in
    let len : vec_len now ≡ length now.items = omega (arith, now.ok.0) in
    let was : vec_len c.loop-runner.runners ≡ vec_len now + 1 =
    (let more = ap (λ (xs : List Runner). length xs) items in let sum = length-append now.items (runner ∷ []) in omega (arith, c.loop-runner.runners.ok.0, now.ok.0, more, sum)) in (
      c.retire_one.ensures.retires.pass,
      both.0,
      retired-step n scene c.loop-runner.how c.retire_one.result c.both-how.result runner c.args.pass.now c.loop-runner.pass c.retire_one.new.pass (vec_len c.loop-runner.runners) (vec_len now) (vec_len c.args.runners)
          was c.loop-runner.invariant.3 c.retire_one.ensures.ended c.both-how.ensures c.loop-runner.invariant.2 (subst (λ k. IsEndingAt n scene begun k runner) (let e : length now.items ≡ vec_len now = omega (arith, len) in e) both.1) c.retire_one.ensures.retires,
      omega (arith, was, c.loop-runner.invariant.3),
    )
