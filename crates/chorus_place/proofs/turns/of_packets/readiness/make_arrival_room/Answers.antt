use Rattle.std.proofs.Common.{◌∙◌}
use Rattle.chorus_place.proofs.turns.of_packets.readiness.make_arrival_room.Goals as goal

pub returns-clause-turn : goal.returns-clause-turn
returns-clause-turn c = λ d. c.make_port_room.ensures.turn d ∙ c.make_room.ensures.turn d
