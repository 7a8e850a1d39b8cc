use Rattle.std.proofs.Common.{◌≡◌}
use Rattle.chorus_link.specs.Ends.{send_link}
use Rattle.tests_turns.proofs.links.put_all.Given as goal

abbrev pub invariant-loop : goal.invariant-loop
invariant-loop g l = send_link l.send ≡ send_link l.fn.send
