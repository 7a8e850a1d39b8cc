use Rattle.picture_rows.proofs.FirstLine.{cut_word}
use Rattle.picture_rows.proofs.lines.cut.Goals as goal

pub returns : goal.returns
returns c =
    λ word more lacking is.
    let parts = c.split_at.ensures in
    let both = cut_word c.args.mark c.place_of.result c.args.text.now c.split_at.result.0.now c.split_at.result.1.now word more c.place_of.ensures.value parts.front parts.back lacking is in
    (both.0, c.behind_first.ensures c.args.mark more both.1)
