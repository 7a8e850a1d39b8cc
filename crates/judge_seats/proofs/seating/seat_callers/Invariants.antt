use Rattle.std.proofs.Common.{◌≡◌, true, reverse, take}
use Rattle.judge_seats.specs.Seats.{all_stand}
use Rattle.judge_seats.specs.Tables.{Follow}
use Rattle.judge_seats.proofs.seating.seat_callers.Given as goal

-- the tables follow the entries so far, and all of these may stand
abbrev pub invariant-loop-i : goal.invariant-loop-i
invariant-loop-i l =
    record {
      follow : Follow (reverse (take l.i l.entries)) l.tables;
      stand : all_stand l.layout (reverse (take l.i l.entries)) ≡ true;
    }
