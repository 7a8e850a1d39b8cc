use Rattle.std.proofs.Common.{◌++◌, ◌∙◌, ap}
use Rattle.chorus_audit.specs.Output.{verdict_text}
use Rattle.chorus_audit.proofs.Verdicts.{verdict_of}
use Rattle.chorus_audit.proofs.auditing.verdict_line.Goals as goal

pub returns : goal.returns
returns c =
    let found = c.in_ok-audit_text.field-0 in (
      found,
      verdict_of c.args.layout c.args.text.now found c.in_ok-audit_text.ensures.legal c.in_ok-audit_text.ensures.wrong,
      c.in_ok-push_verdict.ensures ∙ ap (λ t. t ++ verdict_text found) c.new-line.ensures.items,
    )
