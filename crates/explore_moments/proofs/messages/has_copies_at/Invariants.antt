use Rattle.std.proofs.Common.{◌≡◌, reverse, take}
use Rattle.chorus_world.specs.GroupLaws.{copies_of}
use Rattle.explore_moments.specs.Moments.{has_some}
use Rattle.explore_moments.proofs.messages.has_copies_at.Given as goal

-- it is whether the entries passed make one
abbrev pub invariant-loop-entry : goal.invariant-loop-entry
invariant-loop-entry l = l.found ≡ has_some (copies_of l.id (reverse (take l.entry-index l.journal)))
