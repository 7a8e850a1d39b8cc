use Rattle.std.proofs.lemmas.Result.{on_ok_weaker}
use Rattle.std.proofs.KnownBytes.{Appends-trans}
use Rattle.chorus_io.proofs.Callers.{AppendsPrefix-first, AppendsPrefix-rest}
use Rattle.chorus_program.proofs.ending.say_claim.Goals as goal

pub returns-in_err-write_number-clause-prefix : goal.returns-in_err-write_number-clause-prefix
returns-in_err-write_number-clause-prefix g c = AppendsPrefix-first _ _ _ c.args.found.now c.in_err-write_number.ensures.prefix

pub returns-clause-ok : goal.returns-clause-ok
returns-clause-ok g c = on_ok_weaker c.write_all.result (λ h. Appends-trans _ _ _ _ _ c.in_ok-write_number.ensures.ok h) c.write_all.ensures.ok

pub returns-clause-prefix : goal.returns-clause-prefix
returns-clause-prefix g c = AppendsPrefix-rest _ _ _ _ _ c.in_ok-write_number.ensures.ok c.write_all.ensures.prefix
