use Rattle.std.proofs.Common.{length}
use Rattle.place_outbox.specs.Waiting.{list_to}
use Rattle.chorus_serve.specs.Flows.{Pushes}
use Rattle.chorus_serve.proofs.pushing.push_to.Given as goal

abbrev pub invariant-loop : goal.invariant-loop
invariant-loop g l = Pushes l.fn.place l.place (g.E.Ends.links l.fn.ends) (g.E.Ends.links l.ends)

abbrev pub decreases-loop : goal.decreases-loop
decreases-loop g l = length (list_to l.to l.place.out.lists)
