use Rattle.std.proofs.Common.{◌≡◌, ◌+◌, map, drop}
use Rattle.chorus_explore.specs.Checked.{verdict_of, verdicts_of}
use Rattle.chorus_check.specs.Words.{first_failed}
use Rattle.chorus_check.proofs.checked.first_failed.Given as goal

-- none of those passed fails
abbrev pub invariant-loop-index : goal.invariant-loop-index
invariant-loop-index l =
    first_failed (l.index + 1) (drop l.index l.claims) (map (verdict_of l.explored) (drop l.index l.explored.judged.items)) ≡ first_failed 1 l.claims (verdicts_of l.explored)
