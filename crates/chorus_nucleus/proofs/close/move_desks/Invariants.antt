use Rattle.std.proofs.Common.{◌≡◌, ◌≤◌, ◌+◌, ◌++◌, length, reverse, vec_capacity}
use Rattle.chorus_nucleus.specs.Leaving.{desks_in}
use Rattle.chorus_nucleus.proofs.close.move_desks.Given as goal

abbrev pub invariant-loop-site : goal.invariant-loop-site
invariant-loop-site g l = record {
  room : length l.desks.items + length l.sites.items ≤ vec_capacity l.desks;
  moved : l.desks.items ++ reverse (desks_in l.sites.items) ≡ l.initial.desks.items ++ reverse (desks_in l.initial.sites.items);
}

abbrev pub decreases-loop-site : goal.decreases-loop-site
decreases-loop-site g l = length l.sites.items
