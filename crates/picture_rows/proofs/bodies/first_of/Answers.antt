use Rattle.std.proofs.Common.{◌+◌, ◌≤◌, length, sym, arith}
use Rattle.std.proofs.lemmas.List.{take_all}
use Rattle.picture_texts.specs.declared.limits.TheConstants.{SHOWN_BODY_LIMIT}
use Rattle.picture_rows.proofs.bodies.first_of.Goals as goal

pub returns-then-body : goal.returns-then-body
returns-then-body c =
    let short : length c.args.body.now ≤ 1 + SHOWN_BODY_LIMIT = omega arith in
    sym (take_all (1 + SHOWN_BODY_LIMIT) c.args.body.now short)
