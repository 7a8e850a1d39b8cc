use Rattle.std.proofs.Common.{length}
use Rattle.chorus_audit.proofs.WordLists.{EachSofar}
use Rattle.chorus_audit.proofs.words.Words.each.Given as goal

abbrev pub invariant-loop-values : goal.invariant-loop-values
invariant-loop-values g l = EachSofar g.A.Field.said g.A.Field.allowed l.initial.self l.values.items l.self

abbrev pub decreases-loop-values : goal.decreases-loop-values
decreases-loop-values g l = length l.self
