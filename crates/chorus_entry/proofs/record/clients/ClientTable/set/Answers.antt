use Rattle.std.proofs.Common.{arith}
use Rattle.std.proofs.lemmas.Grind.{common_steps}
use Rattle.chorus_entry.proofs.ClientTables.{are_distinct-with_number, own_more, other_more, all_renumbered}
use Rattle.chorus_entry.proofs.record.clients.ClientTable.set.Goals as goal
use Rattle.chorus_entry.proofs.record.clients.ClientTable.set.Goals.{then-entry-client, else-entry-client}

pub loop-entry-preserved : goal.loop-entry-preserved
loop-entry-preserved c =
    elim c.if-entry-client.branch [
      | then-entry-client w ↦
          rw w.entry-items-is (own_more _ _ _ _ _ c.loop-entry-test.true c.loop-entry.auto.entry-items c.loop-entry.invariant w.if-entry-client.true)
      | else-entry-client w ↦
          rw w.entry-items-is (other_more _ _ _ _ _ c.loop-entry-test.true c.loop-entry.auto.entry-items c.loop-entry.invariant w.if-entry-client.false)
    ]

pub returns : goal.returns
returns c = grind (arith, common_steps, all_renumbered)

pub invariant_of-self : goal.invariant_of-self
invariant_of-self c = grind (arith, common_steps, are_distinct-with_number, all_renumbered)
