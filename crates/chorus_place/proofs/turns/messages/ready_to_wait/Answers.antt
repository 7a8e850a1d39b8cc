use Rattle.std.proofs.Common.{◌∙◌}
use Rattle.chorus_place.proofs.turns.messages.ready_to_wait.Goals as goal

pub returns-in_err-make_line-clause-turn : goal.returns-in_err-make_line-clause-turn
returns-in_err-make_line-clause-turn c = λ x. c.make_line.ensures.turn x ∙ c.make_room.ensures.turn x

pub returns-clause-turn : goal.returns-clause-turn
returns-clause-turn c = λ x. c.make_line.ensures.turn x ∙ c.make_room.ensures.turn x
