use Rattle.std.proofs.Common.{◌≡◌, ◌++◌, map, reverse, take}
use Rattle.law_explore.specs.Moment.{sent_by}
use Rattle.explore_moments.specs.Moments.{sent_as}
use Rattle.explore_moments.proofs.messages.push_sent.Given as goal

-- those that the entries passed make
abbrev pub invariant-loop-entry : goal.invariant-loop-entry
invariant-loop-entry l = map sent_as l.copies.items ≡ map sent_as l.initial.copies.items ++ sent_by l.id (reverse (take l.entry-index l.journal))
