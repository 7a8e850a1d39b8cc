use Rattle.std.proofs.Common.{arith}
use Rattle.std.proofs.lemmas.Grind.{common_steps}
use Rattle.chorus_entry.proofs.ClientTables.{are_distinct-snoc}
use Rattle.chorus_entry.proofs.record.clients.ClientTable.push.Goals as goal

pub invariant_of-self : goal.invariant_of-self
invariant_of-self c = grind (arith, common_steps, are_distinct-snoc)
