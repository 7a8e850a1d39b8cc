use Rattle.std.proofs.Common.{◌≡◌, ◌++◌, map, reverse, take}
use Rattle.law_explore.specs.Moment.{accepts_by}
use Rattle.explore_moments.specs.Moments.{accepted_as}
use Rattle.explore_moments.proofs.ports.push_accepts.Given as goal

-- those that the entries passed tell of
abbrev pub invariant-loop-entry : goal.invariant-loop-entry
invariant-loop-entry l = map accepted_as l.accepts.items ≡ map accepted_as l.initial.accepts.items ++ accepts_by l.port (reverse (take l.entry-index l.journal))
