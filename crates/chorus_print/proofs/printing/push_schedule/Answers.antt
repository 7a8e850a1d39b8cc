use Rattle.chorus_print.proofs.Kept.{kept_after, on_err}
use Rattle.chorus_print.proofs.printing.push_schedule.Goals as goal

pub returns-in_err-push_step-clause-err : goal.returns-in_err-push_step-clause-err
returns-in_err-push_step-clause-err c =
    on_err _ (kept_after _ _ _ _ c.loop-step.invariant c.in_err-push_step.ensures.err)

pub returns-in_err-end_line-clause-err : goal.returns-in_err-end_line-clause-err
returns-in_err-end_line-clause-err c =
    on_err _ (kept_after _ _ _ _ c.loop-step.invariant (kept_after _ _ _ _ c.in_ok-push_step.ensures.ok c.in_err-end_line.ensures.err))
