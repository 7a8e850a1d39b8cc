use Rattle.std.proofs.Common.{◌∙◌, Ok, sym, ap, [], ◌∷◌}
use Rattle.chorus_entry.specs.declared.command.Command.{Command}
use Rattle.chorus_perform.proofs.Steps.{goes-none, goes-later}
use Rattle.chorus_perform.proofs.waiting.wait_for.Goals as goal

pub returns-in_err-look_for-clause-not_done : goal.returns-in_err-look_for-clause-not_done
returns-in_err-look_for-clause-not_done g c = λ other.
    goes-none c.args.pass.now c.loop.pass c.look_for.new.pass c.loop.invariant.1 (c.look_for.ensures.missed (λ e. absurd (let bad = sym c.in_err-look_for.was ∙ e in cc)))

pub returns-in-Came-clause-done : goal.returns-in-Came-clause-done
returns-in-Came-clause-done g c = λ is.
    goes-later (Command.Take c.args.port ∷ []) c.args.pass.now c.loop.pass c.look_for.new.pass c.loop.invariant.1 (c.look_for.ensures.came (c.in_ok-look_for.was ∙ ap (λ l. Ok l) c.in-Came.is))

pub loop-preserved-in-Busy : goal.loop-preserved-in-Busy
loop-preserved-in-Busy g c =
    let missed = c.look_for.ensures.missed (λ e. absurd (let bad = sym c.in_ok-look_for.was ∙ e in let busy = c.in-Busy.is in cc)) in (
      c.look_for.ensures.pass,
      goes-none c.args.pass.now c.loop.pass c.look_for.new.pass c.loop.invariant.1 missed,
      c.in_ok-look_for.ensures.unworn ∙ c.loop.invariant.2,
    )

pub returns-in_err-work_or_rest-in-Missed-clause-not_done : goal.returns-in_err-work_or_rest-in-Missed-clause-not_done
returns-in_err-work_or_rest-in-Missed-clause-not_done g c = λ other.
    let missed = c.look_for.ensures.missed (λ e. absurd (let bad = sym c.in_ok-look_for.was ∙ e in let none = c.in-Missed.is in cc)) in
    goes-none c.args.pass.now c.look_for.new.pass c.work_or_rest.new.pass (goes-none c.args.pass.now c.loop.pass c.look_for.new.pass c.loop.invariant.1 missed) c.work_or_rest.ensures.goes

pub returns-then-branch-clause-not_done : goal.returns-then-branch-clause-not_done
returns-then-branch-clause-not_done g c = λ other.
    let missed = c.look_for.ensures.missed (λ e. absurd (let bad = sym c.in_ok-look_for.was ∙ e in let none = c.in-Missed.is in cc)) in
    goes-none c.args.pass.now c.look_for.new.pass c.work_or_rest.new.pass (goes-none c.args.pass.now c.loop.pass c.look_for.new.pass c.loop.invariant.1 missed) c.work_or_rest.ensures.goes

pub loop-preserved : goal.loop-preserved
loop-preserved g c =
    let missed = c.look_for.ensures.missed (λ e. absurd (let bad = sym c.in_ok-look_for.was ∙ e in let none = c.in-Missed.is in cc)) in (
      c.work_or_rest.ensures.pass,
      goes-none c.args.pass.now c.look_for.new.pass c.work_or_rest.new.pass (goes-none c.args.pass.now c.loop.pass c.look_for.new.pass c.loop.invariant.1 missed) c.work_or_rest.ensures.goes,
      c.in_ok-work_or_rest-in-Missed.ensures.unworn ∙ (c.in_ok-look_for.ensures.unworn ∙ c.loop.invariant.2),
    )
