use Rattle.std.proofs.Common.{◌≡◌}
use Rattle.chorus_link.specs.Ends.{recv_link, GetsNothing}
use Rattle.chorus_link.proofs.ends.RecvEnd.pop.Given as goal

abbrev pub invariant-loop : goal.invariant-loop
invariant-loop g l =
    (l.self.empties ≡ l.fn.self.empties) × (recv_link l.self ≡ recv_link l.fn.self) × GetsNothing l.fn.self l.self
