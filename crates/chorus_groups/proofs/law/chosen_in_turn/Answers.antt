use Rattle.chorus_groups.proofs.Turns.{turns, round_of}
use Rattle.chorus_groups.proofs.law.chosen_in_turn.Goals as goal

pub returns-clause-turns : goal.returns-clause-turns
returns-clause-turns c = turns

pub returns-clause-round : goal.returns-clause-round
returns-clause-round c = round_of
