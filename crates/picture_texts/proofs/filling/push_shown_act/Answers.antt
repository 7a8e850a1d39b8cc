use Rattle.std.proofs.Common.{◌≡◌, ◌≤◌, ◌++◌, OnOk, length, sym, subst, arith}
use Rattle.picture_texts.specs.declared.limits.TheConstants.{SHORT_ACT_LIMIT}
use Rattle.picture_texts.proofs.PlainTexts.{short_is}
use Rattle.picture_texts.proofs.filling.push_shown_act.Goals as goal

pub returns-then-act-le-SHORT_ACT_LIMIT : goal.returns-then-act-le-SHORT_ACT_LIMIT
returns-then-act-le-SHORT_ACT_LIMIT c =
    let short : length c.args.act.now ≤ SHORT_ACT_LIMIT = omega arith in
    subst (λ t. OnOk c.push_markup.result (c.push_markup.new.out.items ≡ c.args.out.now.items ++ t)) (sym (short_is c.args.act.now short))
    c.push_markup.ensures
