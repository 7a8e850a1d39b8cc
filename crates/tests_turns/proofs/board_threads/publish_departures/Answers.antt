use Rattle.std.proofs.Common.{refl}
use Rattle.tests_turns.proofs.Departures.{none_departed}
use Rattle.tests_turns.proofs.board_threads.publish_departures.Goals as goal

pub loop-count-init : goal.loop-count-init
loop-count-init g c = ((refl, refl, refl), none_departed _ c.args.board.now c.args.port c.requires.new)
