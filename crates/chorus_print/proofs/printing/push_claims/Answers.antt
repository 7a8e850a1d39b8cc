use Rattle.chorus_print.proofs.Kept.{kept_after, on_err}
use Rattle.chorus_print.proofs.printing.push_claims.Goals as goal

pub returns-in_err-end_line-clause-err : goal.returns-in_err-end_line-clause-err
returns-in_err-end_line-clause-err c =
    on_err _ (kept_after _ _ _ _ c.loop-claim.invariant
    (kept_after _ _ _ _ c.in_ok-extend_from_slice.ensures.items
    (kept_after _ _ _ _ c.in_ok-extend_from_slice-2.ensures.items c.in_err-end_line.ensures.err)))
