use Rattle.std.proofs.Common.{◌≡◌, IfOk, ap, ◌∙◌, subst}
use Rattle.chorus_merge.specs.Steps.{lent}
use Rattle.chorus_show.specs.Report.{report_with}
use Rattle.chorus_run.specs.ReportParts.Parts.{whole}
use Rattle.chorus_run.proofs.report_parts.printing.report_parts.Goals as goal

pub returns-clause-text : goal.returns-clause-text
returns-clause-text g c =
    subst (λ es. IfOk c.entry_parts.result (λ parts. whole parts.items ≡ report_with c.args.stuck.now es)) (ap lent c.deref.ensures.value ∙ c.in_ok-entries.ensures) c.entry_parts.ensures.text
