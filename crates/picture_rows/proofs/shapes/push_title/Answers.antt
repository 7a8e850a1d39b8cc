use Rattle.std.proofs.Common.{◌++◌, sym, ap, ◌∙◌}
use Rattle.picture_texts.proofs.PlainTexts.{plain_is}
use Rattle.picture_rows.proofs.shapes.push_title.Goals as goal

pub returns : goal.returns
returns c =
    c.in_ok-extend_from_slice.ensures.items ∙ ap (λ t. c.args.out.now.items ++ t) (sym (plain_is c.args.line.now (c.requires c.if-special.false)))
