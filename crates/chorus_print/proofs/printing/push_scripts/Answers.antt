use Rattle.chorus_print.proofs.Kept.{kept_after, on_err}
use Rattle.chorus_print.proofs.printing.push_scripts.Goals as goal

pub returns-in_err-push_script-clause-err : goal.returns-in_err-push_script-clause-err
returns-in_err-push_script-clause-err c =
    on_err _ (kept_after _ _ _ _ c.loop-script.invariant c.in_err-push_script.ensures.err)
