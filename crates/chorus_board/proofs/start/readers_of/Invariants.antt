use Rattle.std.proofs.Common.{◌≡◌, All, length}
use Rattle.chorus_board.specs.Boards.{IsNewIn}
use Rattle.chorus_board.proofs.start.readers_of.Given as goal

abbrev pub invariant-loop : goal.invariant-loop
invariant-loop l = (length l.all.items ≡ l.counter) × All (IsNewIn l.front.book l.layout l.place) l.all.items
