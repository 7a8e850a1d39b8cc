use Rattle.std.proofs.Common.{◌∙◌, subst}
use Rattle.chorus_io.specs.Bytes.{AppendsPrefix}
use Rattle.chorus_io.proofs.Callers.{AppendsPrefix-rest}
use Rattle.chorus_program.proofs.ending.write_number.Goals as goal

pub returns-clause-prefix : goal.returns-clause-prefix
returns-clause-prefix g c = AppendsPrefix-rest _ _ _ _ _ c.in_ok-write_all.ensures.ok
    (subst (AppendsPrefix _ _) (c.as_bytes.ensures.value ∙ c.format.ensures.text) c.write_all-2.ensures.prefix)
