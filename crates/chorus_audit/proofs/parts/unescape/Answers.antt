use Rattle.std.proofs.Common.{sym, subst, arith}
use Rattle.chorus_audit.proofs.Bodies.{Sofar, one_byte}
use Rattle.chorus_audit.proofs.parts.unescape.Goals as goal

pub loop-byte-preserved : goal.loop-byte-preserved
loop-byte-preserved c =
    let ok = c.loop-byte.bytes.ok in
    subst (λ bytes. Sofar c.args.text.now bytes c.in-Some.rest.now) (sym c.in_ok-push.ensures.items)
    (one_byte c.args.text.now c.loop-byte.bytes.items c.loop-byte.left.now c.in-Some.rest.now c.in-Some.byte c.loop-byte.invariant
    c.in-Some.ensures.byte c.in-Some.ensures.small (λ full. c.if-len-eq-BODY_LIMIT.false (omega (arith, ok, full, c.len.ensures))))
