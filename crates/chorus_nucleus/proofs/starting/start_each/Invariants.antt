use Rattle.std.proofs.Common.{◌≡◌, ◌+◌, ◌≤◌, ◌++◌, length, reverse, List, vec_capacity}
use Rattle.chorus_ui.specs.Layout.{places}
use Rattle.chorus_ruled_ends.specs.Ruled.{Ruled}
use Rattle.chorus_nucleus.specs.Starting.{AreFreshFrom}
use Rattle.chorus_nucleus.proofs.starting.start_each.Given as goal

abbrev pub invariant-loop-number : goal.invariant-loop-number
invariant-loop-number g l = record {
  low : l.number ≤ places l.layout;
  many : length l.ends.items ≡ l.number;
  room : places l.layout ≤ vec_capacity l.sites;
  rows : places l.layout ≤ vec_capacity l.spare;
  kept : length l.spare.items + l.number ≡ places l.layout;
  all : length l.sites.items + l.number ≡ places l.layout;
  done : (rest : List Ruled) × (l.fn.ends.items ≡ l.ends.items ++ rest) × AreFreshFrom l.layout (l.number + 1) (reverse l.sites.items) (reverse l.spare.items) rest;
}

abbrev pub decreases-loop-number : goal.decreases-loop-number
decreases-loop-number g l = l.number
