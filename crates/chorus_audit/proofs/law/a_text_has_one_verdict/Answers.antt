use Rattle.chorus_audit.proofs.Verdicts.{texts_have_one_verdict}
use Rattle.chorus_audit.proofs.law.a_text_has_one_verdict.Goals as goal

pub returns : goal.returns
returns c = texts_have_one_verdict
