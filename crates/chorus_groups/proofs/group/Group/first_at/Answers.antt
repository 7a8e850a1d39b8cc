use Rattle.std.proofs.Common.{arith}
use Rattle.std.proofs.lemmas.Grind.{common_steps}
use Rattle.chorus_groups.proofs.PortLemmas.{first_at-round_from}
use Rattle.chorus_groups.proofs.group.Group.first_at.Goals as goal

pub returns : goal.returns
returns c = grind (arith, common_steps, first_at-round_from)
