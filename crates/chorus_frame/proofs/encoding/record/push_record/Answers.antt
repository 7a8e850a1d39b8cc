use Rattle.std.proofs.lemmas.Result.{on_ok_weaker, on_err_weaker}
use Rattle.chorus_frame.proofs.Written.{kept_after, appended, on_err}
use Rattle.chorus_frame.proofs.encoding.record.push_record.Goals as goal

pub returns-in_err-push_pending-clause-err : goal.returns-in_err-push_pending-clause-err
returns-in_err-push_pending-clause-err c =
    on_err _ (kept_after _ _ _ _ c.in_ok-push_name.ensures.ok (kept_after _ _ _ _ c.in_ok-push_name-2.ensures.ok (kept_after _ _ _ _ c.in_ok-push_u8.ensures.ok (kept_after _ _ _ _ c.in_ok-push_u64.ensures.ok (kept_after _ _ _ _ c.in_ok-push_u64-2.ensures.ok c.in_err-push_pending.ensures.err)))))

pub returns-clause-ok : goal.returns-clause-ok
returns-clause-ok c =
    let names = appended _ _ _ _ _ c.in_ok-push_name.ensures.ok c.in_ok-push_name-2.ensures.ok in
    let capacity = appended _ _ _ _ _ names c.in_ok-push_u8.ensures.ok in
    let hop = appended _ _ _ _ _ capacity c.in_ok-push_u64.ensures.ok in
    let first = appended _ _ _ _ _ hop c.in_ok-push_u64-2.ensures.ok in
    let pending = appended _ _ _ _ _ first c.in_ok-push_pending.ensures.ok in
    on_ok_weaker c.push_clients.result (appended _ _ _ _ _ pending) c.push_clients.ensures.ok

pub returns-clause-err : goal.returns-clause-err
returns-clause-err c =
    on_err_weaker c.push_clients.result (λ h. kept_after _ _ _ _ c.in_ok-push_name.ensures.ok (kept_after _ _ _ _ c.in_ok-push_name-2.ensures.ok (kept_after _ _ _ _ c.in_ok-push_u8.ensures.ok (kept_after _ _ _ _ c.in_ok-push_u64.ensures.ok (kept_after _ _ _ _ c.in_ok-push_u64-2.ensures.ok (kept_after _ _ _ _ c.in_ok-push_pending.ensures.ok h)))))) c.push_clients.ensures.err
