use Rattle.std.proofs.Common.{◌≡◌}
use Rattle.crossbeam_queue.specs.Passes.{view}
use Rattle.chorus_link.proofs.ends.SendEnd.push.Given as goal

abbrev pub invariant-loop : goal.invariant-loop
invariant-loop g l =
    (l.packet ≡ l.fn.packet) × (l.self.fulls ≡ l.fn.self.fulls) × (l.self.queue ≡ l.fn.self.queue) × (l.self.pass.table_id ≡ l.fn.self.pass.table_id) × (view l.self.pass ≡ view l.fn.self.pass)
