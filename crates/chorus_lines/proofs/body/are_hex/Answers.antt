use Rattle.std.proofs.Common.{arith}
use Rattle.std.proofs.lemmas.Bool.Decides.{nat_tests}
use Rattle.chorus_lines.specs.Body.{is_hex}
use Rattle.chorus_lines.proofs.Texts.{each_on, each_off, each_end}
use Rattle.chorus_lines.proofs.body.are_hex.Goals as goal

pub returns-then-not-is_hex : goal.returns-then-not-is_hex
returns-then-not-is_hex c = each_off is_hex c.args.text.now c.loop-c.c-index _ c.loop-c.invariant c.loop-c-test.true (grind (arith, nat_tests))

pub loop-c-preserved : goal.loop-c-preserved
loop-c-preserved c = each_on is_hex c.args.text.now c.loop-c.c-index _ c.loop-c.invariant c.loop-c-test.true (grind (arith, nat_tests))

pub returns : goal.returns
returns c = each_end is_hex c.args.text.now c.loop-c.c-index _ c.loop-c.invariant c.loop-c-test.false
