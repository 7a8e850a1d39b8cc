use Rattle.std.proofs.Common.{◌≤◌, ◌++◌, length, sym, ap, ◌∙◌, arith}
use Rattle.picture_texts.specs.declared.limits.TheConstants.{SHORT_ACT_LIMIT}
use Rattle.picture_texts.proofs.PlainTexts.{short_plain_is}
use Rattle.picture_texts.proofs.filling.push_plain_act.Goals as goal

pub returns-then-act-le-SHORT_ACT_LIMIT : goal.returns-then-act-le-SHORT_ACT_LIMIT
returns-then-act-le-SHORT_ACT_LIMIT c =
    let short : length c.args.act.now ≤ SHORT_ACT_LIMIT = omega arith in
    c.in_ok-extend_from_slice.ensures.items ∙ ap (λ t. c.args.out.now.items ++ t) (sym (short_plain_is c.args.act.now short c.requires))
