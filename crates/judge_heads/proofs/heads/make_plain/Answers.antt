use Rattle.std.proofs.Common.{drop, Some, refl, sym, subst, arith}
use Rattle.judge_heads.specs.Heads.{IsPlain}
use Rattle.judge_heads.proofs.Plain.{head_inside, made_plain, no_head}
use Rattle.judge_heads.proofs.heads.make_plain.Goals as goal

pub copy_within-requires-clause-in_bounds : goal.copy_within-requires-clause-in_bounds
copy_within-requires-clause-in_bounds c = let h = head_inside c.args.text.now c.in-Some.head c.in-Some.ensures in omega (arith, h)

pub copy_within-requires-clause-dest_in_bounds : goal.copy_within-requires-clause-dest_in_bounds
copy_within-requires-clause-dest_in_bounds c = let h = head_inside c.args.text.now c.in-Some.head c.in-Some.ensures in omega (arith, h)

pub returns-in-Some-clause-plain : goal.returns-in-Some-clause-plain
returns-in-Some-clause-plain c =
    subst (λ t. IsPlain c.args.text.now (Some c.in-Some.head.layout) (drop c.in-Some.head.gap t)) (sym c.copy_within.ensures.after)
    (made_plain c.args.text.now c.in-Some.head c.in-Some.ensures)

pub returns-in-Some-clause-inside : goal.returns-in-Some-clause-inside
returns-in-Some-clause-inside c =
    let h = head_inside c.args.text.now c.in-Some.head c.in-Some.ensures in let k = c.copy_within.ensures.len in omega (arith, h, k)

pub returns-in-None-clause-plain : goal.returns-in-None-clause-plain
returns-in-None-clause-plain c = (refl, no_head c.args.text.now c.in-None.ensures)
