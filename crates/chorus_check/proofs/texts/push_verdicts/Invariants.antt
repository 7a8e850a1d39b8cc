use Rattle.std.proofs.Common.{◌≡◌, ◌+◌, ◌++◌, map, drop}
use Rattle.chorus_explore.specs.Checked.{verdict_of, verdicts_of}
use Rattle.chorus_check.specs.Texts.{verdict_lines}
use Rattle.chorus_check.proofs.texts.push_verdicts.Given as goal

-- what is left completes the lines
abbrev pub invariant-loop-index : goal.invariant-loop-index
invariant-loop-index l =
    l.text.items ++ verdict_lines (l.index + 1) (drop l.index l.texts) (drop l.index l.claims) (map (verdict_of l.explored) (drop l.index l.explored.judged.items))
    ≡ l.initial.text.items ++ verdict_lines 1 l.texts l.claims (verdicts_of l.explored)
