use Rattle.std.proofs.Common.{◌≡◌}
use Rattle.chorus_link.specs.Ends.{recv_link}
use Rattle.tests_turns.proofs.links.got_in_order.Given as goal

abbrev pub invariant-loop : goal.invariant-loop
invariant-loop g l = recv_link l.recv ≡ recv_link l.fn.recv
