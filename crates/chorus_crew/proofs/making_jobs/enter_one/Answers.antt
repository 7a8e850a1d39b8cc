use Rattle.std.proofs.Common.{Err, ap, ◌∙◌, arith}
use Rattle.chorus_crew.proofs.making_jobs.enter_one.Goals as goal

pub unreachable-requires-in-Err-NoSeat : goal.unreachable-requires-in-Err-NoSeat
unreachable-requires-in-Err-NoSeat c =
    let why = (c.enter.ensures.why.no_seat c.in-Err-NoSeat.field-0-0).0 (c.in-Err-NoSeat.is ∙ ap Err c.in-Err-NoSeat.field-0-is) in
    let full = why.1 in
    let seat = c.requires.seat in
    omega (arith, full, seat)
