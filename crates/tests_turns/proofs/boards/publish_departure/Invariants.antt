use Rattle.tests_turns.specs.Moves.{departure}
use Rattle.tests_turns.proofs.boards.publish_departure.Given as goal

abbrev pub ghosts-publish : goal.ghosts-publish
ghosts-publish g a = record { entries = departure a.ui a.place a.hop }
