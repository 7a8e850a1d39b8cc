use Rattle.std.proofs.Common.{◌≡◌, ◌++◌, reverse, take}
use Rattle.law_explore.specs.Outcome.{made_by}
use Rattle.explore_moments.proofs.ports.push_made.Given as goal

-- those that the entries passed make
abbrev pub invariant-loop-entry : goal.invariant-loop-entry
invariant-loop-entry l = l.made.items ≡ l.initial.made.items ++ made_by (reverse (take l.entry-index l.journal))
