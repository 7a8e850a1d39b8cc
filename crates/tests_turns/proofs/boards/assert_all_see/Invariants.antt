use Rattle.std.proofs.Common.{All}
use Rattle.chorus_board.specs.Boards.{IsNewIn, book_of}
use Rattle.tests_turns.proofs.boards.assert_all_see.Given as goal

abbrev pub invariant-loop : goal.invariant-loop
invariant-loop g l = All (IsNewIn (book_of l.board) l.layout 1) l.readers.items
