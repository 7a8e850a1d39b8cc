use Rattle.std.proofs.Common.{◌≡◌, take}
use Rattle.std.specs.List.{flat_map}
use Rattle.judge_seats.specs.Seats.{is_out_in, seat_with, sits_by, sitting_in}
use Rattle.judge_seats.proofs.seating.seats_in.Given as goal

-- the callers so far
abbrev pub invariant-loop-seat : goal.invariant-loop-seat
invariant-loop-seat l =
    l.seats.items ≡ flat_map (λ s. seat_with s (sits_by l.layout (is_out_in l.tables.outs s) (sitting_in l.tables.sittings s))) (take l.seat-index l.tables.order.items)
