use Rattle.std.proofs.Common.{◌++◌, ◌∙◌, ap, ap₂}
use Rattle.chorus_merge.specs.Merge.{merged}
use Rattle.chorus_merge.specs.Steps.{journals_of, lent}
use Rattle.chorus_show.specs.Summary.{summary_text}
use Rattle.chorus_report.proofs.writing.summary_of.Goals as goal

pub returns : goal.returns
returns c =
    c.in_ok-lent_summary_text.ensures.ok
    ∙ ap₂ (λ xs es. xs ++ summary_text es) c.new-summary.ensures.items
    (ap lent c.deref-2.ensures.value ∙ c.in_ok-entries.ensures ∙ ap (λ js. merged (journals_of js)) c.deref.ensures.value)
