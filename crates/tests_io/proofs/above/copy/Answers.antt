use Rattle.chorus_io.proofs.Callers.{IfSome-whole, AppendsPrefix-first, AppendsPrefix-rest}
use Rattle.tests_io.proofs.above.copy.Goals as goal

pub returns-in_err-write_all-clause-prefix : goal.returns-in_err-write_all-clause-prefix
returns-in_err-write_all-clause-prefix g c =
    IfSome-whole _ _ _ c.in-Ok.ensures.whole (AppendsPrefix-first _ _ _ _ c.in_err-write_all.ensures.prefix)

pub returns-in_err-write_all-2-clause-prefix : goal.returns-in_err-write_all-2-clause-prefix
returns-in_err-write_all-2-clause-prefix g c =
    IfSome-whole _ _ _ c.in-Ok.ensures.whole
    (AppendsPrefix-rest _ _ _ _ _ c.in_ok-write_all.ensures.ok (rw (← c.deref.ensures.value) c.in_err-write_all-2.ensures.prefix))

pub returns-clause-prefix : goal.returns-clause-prefix
returns-clause-prefix g c =
    IfSome-whole _ _ _ c.in-Ok.ensures.whole
    (AppendsPrefix-rest _ _ _ _ _ c.in_ok-write_all.ensures.ok (rw (← c.deref.ensures.value) c.in_ok-write_all-2.ensures.prefix))
