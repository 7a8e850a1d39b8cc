use Rattle.std.proofs.Common.{◌≡◌}
use Rattle.chorus_board.specs.Boards.{layout_read}
use Rattle.tests_turns.proofs.board_threads.read_departures.Given as goal

abbrev pub invariant-loop : goal.invariant-loop
invariant-loop g l = layout_read l.reader ≡ layout_read l.fn.reader
