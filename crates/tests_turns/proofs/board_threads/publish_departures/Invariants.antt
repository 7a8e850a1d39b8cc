use Rattle.chorus_board.specs.Boards.{IsSameBoard}
use Rattle.tests_turns.specs.Moves.{HasDeparted}
use Rattle.tests_turns.proofs.board_threads.publish_departures.Given as goal

abbrev pub invariant-loop-count : goal.invariant-loop-count
invariant-loop-count g l = IsSameBoard l.fn.board l.board × HasDeparted l.board l.port l.count
