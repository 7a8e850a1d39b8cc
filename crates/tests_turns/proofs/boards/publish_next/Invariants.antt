use Rattle.tests_turns.specs.Moves.{departures}
use Rattle.tests_turns.proofs.boards.publish_next.Given as goal

abbrev pub ghosts-publish : goal.ghosts-publish
ghosts-publish g a = record { entries = departures a.ui a.hop }
