use Rattle.std.proofs.Common.{sym, ◌∙◌}
use Rattle.std.proofs.lemmas.Bool.{false≢true}
use Rattle.picture_rows.proofs.FirstLine.{cut_plain}
use Rattle.picture_rows.proofs.lines.cut_line.Goals as goal

pub returns-then-ends : goal.returns-then-ends
returns-then-ends c =
    λ line more lacking is.
    let parts = c.split_at.ensures in
    let all =
    cut_plain c.plain_front.result c.args.text.now c.split_at.result.0.now c.split_at.result.1.now line more c.plain_front.ensures.value parts.front parts.back lacking is
    (sym c.begins_with-ends.ensures ∙ c.if-ends.true) in
    (all.0, c.behind_first.ensures 10 more all.1, λ h. all.2)

pub returns : goal.returns
returns c =
    λ line more lacking is.
    let both = c.cut.ensures line more lacking is in
    (both.0, both.1, λ h. absurd (false≢true (sym h)))
