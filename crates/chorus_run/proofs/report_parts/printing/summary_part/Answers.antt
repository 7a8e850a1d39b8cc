use Rattle.std.proofs.Common.{◌++◌, ◌∙◌, ap}
use Rattle.chorus_merge.specs.Steps.{lent}
use Rattle.chorus_show.specs.Summary.{summary_lines, summary_text}
use Rattle.chorus_run.proofs.report_parts.printing.summary_part.Goals as goal

pub push_stuck_lines-requires : goal.push_stuck_lines-requires
push_stuck_lines-requires c =
    let es = lent c.args.entries.now in
    (summary_lines es, c.in_ok-lent_summary_text.ensures.ok ∙ ap (λ xs. xs ++ summary_text es) c.new-text.ensures.items)

pub returns : goal.returns
returns c =
    let es = lent c.args.entries.now in
    c.in_ok-push_stuck_lines.ensures (summary_lines es) (c.in_ok-lent_summary_text.ensures.ok ∙ ap (λ xs. xs ++ summary_text es) c.new-text.ensures.items)
