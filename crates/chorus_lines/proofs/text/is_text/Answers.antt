use Rattle.std.proofs.Common.{arith}
use Rattle.std.proofs.lemmas.Bool.Decides.{nat_tests}
use Rattle.chorus_lines.specs.Text.{is_plain}
use Rattle.chorus_lines.proofs.Texts.{each_on, each_off, each_end}
use Rattle.chorus_lines.proofs.text.is_text.Goals as goal

pub returns-then-c-lt32 : goal.returns-then-c-lt32
returns-then-c-lt32 c = each_off is_plain c.args.line.now c.loop-c.c-index _ c.loop-c.invariant c.loop-c-test.true (grind (arith, nat_tests))

pub loop-c-preserved : goal.loop-c-preserved
loop-c-preserved c = each_on is_plain c.args.line.now c.loop-c.c-index _ c.loop-c.invariant c.loop-c-test.true (grind (arith, nat_tests))

pub returns : goal.returns
returns c = each_end is_plain c.args.line.now c.loop-c.c-index _ c.loop-c.invariant c.loop-c-test.false
