use Rattle.std.proofs.Common.{ℕ, arith, length-take}
use Rattle.std.proofs.KnownBytes.{Consumes-kept}
use Rattle.std.proofs.lemmas.Result.{err_from_is_err_and}
use Rattle.chorus_io.proofs.Progress.{IsTooLong-with, IsReadWithin-with}
use Rattle.chorus_io.proofs.reading.read_all.Goals as goal

pub returns-in_err-n-clause-stopped : goal.returns-in_err-n-clause-stopped
returns-in_err-n-clause-stopped g c =
    let p = err_from_is_err_and c.from_residual.result c.from_residual.ensures.1 in
    rw (p.1, p.2) (c.loop-bytes.bytes.items, (Consumes-kept _ _ _ _ c.loop-bytes.invariant.consumed c.in_err-n.ensures.front, c.loop-bytes.invariant.within))

pub returns-then-n-room-clause-stopped : goal.returns-then-n-room-clause-stopped
returns-then-n-room-clause-stopped g c =
    let count = c.in_ok-n.ensures.at_most in
    IsTooLong-with _ _ _ _ _ _ c.loop-bytes.invariant.consumed c.in_ok-n.ensures.front.0 (omega (arith, length-take {A = ℕ}))

pub returns-in_err-extend_from_slice-clause-stopped : goal.returns-in_err-extend_from_slice-clause-stopped
returns-in_err-extend_from_slice-clause-stopped g c =
    let count = c.in_ok-n.ensures.at_most in
    let p = err_from_is_err_and c.from_residual-in_err-extend_from_slice.result c.from_residual-in_err-extend_from_slice.ensures.1 in
    rw (p.1, p.2) (IsReadWithin-with _ _ _ _ _ _ c.loop-bytes.invariant.consumed c.in_ok-n.ensures.front.0 (omega arith))
