use Rattle.std.proofs.Common.{take, reverse}
use Rattle.std.specs.List.{Contains}
use Rattle.chorus_explore.specs.DrawnOutcomes.{histories_in}
use Rattle.chorus_explore.proofs.drawn_outcomes.are_among.Given as goal

-- none of those passed is it
abbrev pub invariant-loop-one : goal.invariant-loop-one
invariant-loop-one l = Contains (histories_in (take l.one-index l.told)) (reverse l.moves) → ⊥
