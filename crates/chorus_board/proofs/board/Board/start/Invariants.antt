use Rattle.std.proofs.Common.{◌≡◌, All, length}
use Rattle.chorus_board.specs.declared.start.TheConstants.{READERS_PER_BOARD}
use Rattle.chorus_board.specs.Boards.{IsNewBoard, IsNewIn, book_of}
use Rattle.chorus_board.proofs.board.Board.start.Given as goal

abbrev pub invariant-loop-reader : goal.invariant-loop-reader
invariant-loop-reader g l =
    (length l.reader-items ≡ READERS_PER_BOARD) × All (IsNewIn (book_of l.board) l.fn.layout l.fn.place) l.reader-items × IsNewBoard l.fn.layout l.fn.place l.board
