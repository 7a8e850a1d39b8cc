use Rattle.std.proofs.Common.{◌≡◌, ◌-◌, length}
use mathlib.Core.List.{IsPrefix}
use Rattle.chorus_board.specs.Boards.{book_of, entries_published}
use Rattle.place_publish.specs.Publishing.{IsUpTo}
use Rattle.place_publish.proofs.publish.publish_missing.Given as goal

abbrev pub invariant-loop-index : goal.invariant-loop-index
invariant-loop-index g l = record {
  upto : IsUpTo l.layout l.number l.journal l.index l.board;
  grows : IsPrefix (entries_published l.fn.board) (entries_published l.board);
  nothing_new : entries_published l.fn.board ≡ l.journal → l.board ≡ l.fn.board;
  book : book_of l.board ≡ book_of l.fn.board;
}

abbrev pub decreases-loop-index : goal.decreases-loop-index
decreases-loop-index g l = length l.journal - l.index
