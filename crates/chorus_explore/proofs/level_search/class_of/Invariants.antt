use Rattle.chorus_explore.specs.Stages.{AreSpare}
use Rattle.chorus_explore.proofs.level_search.class_of.Given as goal

-- the spare sites are kept
abbrev pub invariant-loop-index : goal.invariant-loop-index
invariant-loop-index l = AreSpare l.scenario l.spare.items
