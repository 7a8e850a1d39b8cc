use Rattle.std.proofs.Common.{◌≡◌, ◌+◌, ◌++◌, map, drop}
use Rattle.chorus_explore.specs.Checked.{facts_in, verdict_of, verdicts_of}
use Rattle.chorus_check.specs.Texts.{schedule_texts}
use Rattle.chorus_check.proofs.texts.push_schedules.Given as goal

-- what is left completes the text
abbrev pub invariant-loop-index : goal.invariant-loop-index
invariant-loop-index l =
    l.text.items ++ schedule_texts (l.index + 1) (map (verdict_of l.explored) (drop l.index l.explored.judged.items)) (map facts_in (drop l.index l.explored.judged.items))
    ≡ l.initial.text.items ++ schedule_texts 1 (verdicts_of l.explored) (map facts_in l.explored.judged.items)
