use Rattle.chorus_world.proofs.Moments.{always-discards}
use Rattle.chorus_world.proofs.Ports.PortLaws.{ends_with_delete}
use Rattle.chorus_world.proofs.laws.deleted_port_discards_the_rest.Goals as goal

pub returns : goal.returns
returns c = record { rest = always-discards; end = ends_with_delete }
