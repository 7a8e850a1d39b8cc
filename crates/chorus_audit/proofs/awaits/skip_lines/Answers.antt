use Rattle.std.proofs.Common.{arith}
use Rattle.chorus_audit.proofs.Waiters.{leads_next, leads_end, shortens}
use Rattle.chorus_audit.proofs.awaits.skip_lines.Goals as goal

pub loop-script-preserved : goal.loop-script-preserved
loop-script-preserved c =
    let l = c.loop-script in
    let begun = rw c.in-Some.is at (c.in_ok-script.ensures c.requires.few.0 c.requires.few.1) in (
      (λ es given. leads_next es c.args.text.now l.last l.count l.left.now c.in-Some.script c.in-Some.behind.now (l.invariant.0 es given) (rw c.in-Some.is at (c.in_ok-script.ensures es given))),
      omega (arith, l.invariant.1, shortens c.requires.few.0 l.last l.left.now c.in-Some.script c.in-Some.behind.now begun),
    )

pub loop-script-smaller : goal.loop-script-smaller
loop-script-smaller c =
    let l = c.loop-script in
    let begun = rw c.in-Some.is at (c.in_ok-script.ensures c.requires.few.0 c.requires.few.1) in
    shortens c.requires.few.0 l.last l.left.now c.in-Some.script c.in-Some.behind.now begun

pub returns : goal.returns
returns c = λ es given.
    let l = c.loop-script in
    leads_end es c.args.text.now l.last l.count l.left.now (l.invariant.0 es given) (rw c.in_default.is at (c.in_ok-script.ensures es given))
