use Rattle.std.proofs.Common.{◌≡◌}
use Rattle.judge_seats.specs.Seats.{first_in, is_out_in}
use Rattle.judge_seats.proofs.actors.first_in.Given as goal

-- the first of those so far
abbrev pub invariant-loop-index : goal.invariant-loop-index
invariant-loop-index l = l.found ≡ first_in l.layout (is_out_in l.outs l.seat) l.index
