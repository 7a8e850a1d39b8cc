use Rattle.std.proofs.Common.{map}
use Rattle.chorus_explore.proofs.AlikeSites.Lists.{SameBelow}
use Rattle.chorus_explore.specs.Tellings.{kept_of}
use Rattle.chorus_explore.proofs.race_sites.are_as_far.Given as goal

-- of those passed the same is kept
abbrev pub invariant-loop-index : goal.invariant-loop-index
invariant-loop-index l = SameBelow (map kept_of l.one) (map kept_of l.other) l.index
