use Rattle.std.proofs.Common.{ℕ, ◌≢◌, ◌+◌, ◌-◌, ◌<◌, ◌≤◌, None}
use Rattle.chorus_serve.specs.Flows.{Takes, WasEmpty}
use Rattle.chorus_serve.proofs.taking.take_between.Given as goal

abbrev pub invariant-loop-from : goal.invariant-loop-from
invariant-loop-from g l = record {
  took : Takes None (g.E.Ends.links l.fn.ends) (g.E.Ends.links l.ends);
  first : l.first ≤ l.from;
  empty : (p : ℕ) → l.first ≤ p → p < l.from → p ≢ l.number → WasEmpty p (g.E.Ends.links l.fn.ends) (g.E.Ends.links l.ends);
}

abbrev pub decreases-loop-from : goal.decreases-loop-from
decreases-loop-from g l = l.end + 1 - l.from
