use Rattle.std.proofs.Common.{◌∙◌, ◌++◌, ap, sym, subst, append_assoc}
use Rattle.std.specs.Prelude.{codes}
use Rattle.chorus_merge.specs.Merge.{merged}
use Rattle.chorus_merge.specs.Steps.{journals_of, lent}
use Rattle.chorus_net.specs.Closing.{merge_of}
use Rattle.chorus_show.specs.Bounds.{AreWithin}
use Rattle.chorus_show.specs.Journal.{journal_text}
use Rattle.chorus_show.specs.Summary.{summary_text}
use Rattle.chorus_show.specs.Summary.{summary_lines}
use Rattle.chorus_report.proofs.Texts.{two_texts, with_stuck}
use Rattle.chorus_report.proofs.writing.report_of.Goals as goal

pub push_stuck_lines-requires : goal.push_stuck_lines-requires
push_stuck_lines-requires c =
    let merges = c.in_ok-entries.ensures ∙ ap (λ js. merged (journals_of js)) c.deref.ensures.value in
    let both = two_texts journal_text summary_text _ _ _ _ _ _ c.new-text.ensures.items c.in_ok-journal_text.ensures.ok c.in_ok-lent_summary_text.ensures.ok
    (ap lent c.deref-2.ensures.value ∙ merges) (ap lent c.deref-3.ensures.value ∙ merges) in
    (journal_text (merge_of c.args.closed.now) ++ summary_lines (merge_of c.args.closed.now), both ∙ sym (append_assoc (journal_text (merge_of c.args.closed.now)) (summary_lines (merge_of c.args.closed.now)) (codes "end\n")))

pub returns-clause-text : goal.returns-clause-text
returns-clause-text c =
    let merges = c.in_ok-entries.ensures ∙ ap (λ js. merged (journals_of js)) c.deref.ensures.value in
    let both = two_texts journal_text summary_text _ _ _ _ _ _ c.new-text.ensures.items c.in_ok-journal_text.ensures.ok c.in_ok-lent_summary_text.ensures.ok
    (ap lent c.deref-2.ensures.value ∙ merges) (ap lent c.deref-3.ensures.value ∙ merges) in
    with_stuck (journal_text (merge_of c.args.closed.now)) (summary_lines (merge_of c.args.closed.now)) _ _ _ both c.in_ok-push_stuck_lines.ensures

pub returns-clause-within : goal.returns-clause-within
returns-clause-within c =
    let merges = c.in_ok-entries.ensures ∙ ap (λ js. merged (journals_of js)) c.deref.ensures.value in
    subst AreWithin (ap lent c.deref-2.ensures.value ∙ merges) c.in_ok-journal_text.ensures.within
