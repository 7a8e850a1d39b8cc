use Rattle.std.proofs.Common.{◌≡◌, ◌-◌, ◌+◌, length, take, drop, arith}
use Rattle.std.proofs.lemmas.Grind.{common_steps}
use Rattle.chorus_lines.proofs.Texts.{cut_on, cut_here, cut_end}
use Rattle.chorus_lines.proofs.text.cut.Goals as goal

pub returns-then-c-mark : goal.returns-then-c-mark
returns-then-c-mark c =
    let t : take (length c.args.text.now - (c.loop-i.i + 1)) (drop (c.loop-i.i + 1) c.args.text.now) ≡ drop (c.loop-i.i + 1) c.args.text.now = grind (arith, common_steps) in
    rw t (cut_here c.args.mark c.args.text.now c.loop-i.i _ c.loop-i.invariant c.loop-i-test.true c.if-c-mark.true)

pub loop-i-preserved : goal.loop-i-preserved
loop-i-preserved c = cut_on c.args.mark c.args.text.now c.loop-i.i _ c.loop-i.invariant c.loop-i-test.true c.if-c-mark.false

pub returns : goal.returns
returns c = cut_end c.args.mark c.args.text.now c.loop-i.i _ c.loop-i.invariant c.loop-i-test.false
