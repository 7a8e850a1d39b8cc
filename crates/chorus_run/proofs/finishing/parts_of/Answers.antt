use Rattle.std.proofs.Common.{◌≡◌, IfOk, subst}
use Rattle.chorus_merge.specs.Merge.{merged}
use Rattle.chorus_merge.specs.Steps.{journals_of}
use Rattle.chorus_show.specs.Report.{report_with}
use Rattle.chorus_run.specs.ReportParts.Parts.{whole}
use Rattle.chorus_run.proofs.finishing.parts_of.Goals as goal

pub returns-clause-text : goal.returns-clause-text
returns-clause-text g c =
    subst (λ journals. IfOk c.report_parts.result (λ parts. whole parts.items ≡ report_with c.args.stuck.now (merged (journals_of journals)))) c.deref.ensures.value c.report_parts.ensures.text
