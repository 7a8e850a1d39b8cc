use Rattle.std.proofs.Common.{◌≡◌, ◌+◌, map, drop}
use Rattle.chorus_explore.specs.Checked.{verdict_of, verdicts_of}
use Rattle.chorus_check.specs.Words.{first_open}
use Rattle.chorus_check.proofs.checked.first_open.Given as goal

-- none of those passed is open
abbrev pub invariant-loop-index : goal.invariant-loop-index
invariant-loop-index l = first_open (l.index + 1) (map (verdict_of l.explored) (drop l.index l.explored.judged.items)) ≡ first_open 1 (verdicts_of l.explored)
