use Rattle.std.proofs.Common.{◌≡◌, ◌++◌, take}
use Rattle.std.specs.List.{flat_map}
use Rattle.chorus_judge.specs.Texts.{seat_line}
use Rattle.chorus_judge.proofs.texts.push_seats.Given as goal

-- the lines so far
abbrev pub invariant-loop-sat : goal.invariant-loop-sat
invariant-loop-sat l = l.out.items ≡ l.initial.out.items ++ flat_map seat_line (take l.sat-index l.seats)
