use Rattle.std.proofs.Common.{◌+◌, ◌++◌, drop, sym, ◌∙◌, ap, append_assoc}
use Rattle.chorus_merge.specs.Steps.{journals_of}
use Rattle.chorus_world.specs.Places.{copies}
use Rattle.explore_report.specs.Outcomes.{lines_about, sent_lines}
use Rattle.explore_report.proofs.More.{drop-some}
use Rattle.explore_report.proofs.outcomes.push_each_copy.Goals as goal

pub loop-index-preserved : goal.loop-index-preserved
loop-index-preserved c =
    let js = journals_of c.args.journals.now in
    let i = c.loop-index.index in
    let next = drop-some c.args.members.now c.loop-index.index c.loop-index-test.true in
    let rest = sent_lines js (copies c.args.id c.args.group (i + 1 + 1) (drop (i + 1) c.args.members.now)) in
    let text = c.loop-index.text.items in
    ap (λ xs. xs ++ rest) c.in_ok-push_about.ensures ∙ append_assoc text (lines_about js (record c.args.id { copy = i + 1 })) rest
    ∙ ap (λ qs. text ++ sent_lines js (copies c.args.id c.args.group (i + 1) qs)) (sym next.1) ∙ c.loop-index.invariant
