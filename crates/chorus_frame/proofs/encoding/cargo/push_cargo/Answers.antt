use Rattle.std.proofs.lemmas.Result.{on_err_weaker}
use Rattle.chorus_frame.proofs.Written.{kept_after}
use Rattle.chorus_frame.proofs.encoding.cargo.push_cargo.Goals as goal

pub returns-in_ok-push_name-in-Try-clause-err : goal.returns-in_ok-push_name-in-Try-clause-err
returns-in_ok-push_name-in-Try-clause-err c =
    on_err_weaker c.push_message.result (λ h. kept_after _ _ _ _ c.in_ok-push_route-in-Try.ensures.ok (kept_after _ _ _ _ c.in_ok-push_only-in-Try.ensures.ok (kept_after _ _ _ _ c.in_ok-push_u64-in-Try.ensures.ok (kept_after _ _ _ _ c.in_ok-push_name-in-Try.ensures.ok h)))) c.push_message.ensures.err

pub returns-in_ok-push_route-in-Verdict-clause-err : goal.returns-in_ok-push_route-in-Verdict-clause-err
returns-in_ok-push_route-in-Verdict-clause-err c =
    on_err_weaker c.push_answer.result (λ h. kept_after _ _ _ _ c.in_ok-push_id-in-Verdict.ensures.ok (kept_after _ _ _ _ c.in_ok-push_name-in-Verdict.ensures.ok (kept_after _ _ _ _ c.in_ok-push_route-in-Verdict.ensures.ok h))) c.push_answer.ensures.err
