use Rattle.std.proofs.Common.{◌≡◌, ◌++◌, take}
use Rattle.std.specs.List.{flat_map}
use Rattle.chorus_merge.specs.Steps.{journals_of}
use Rattle.chorus_explore.specs.Stages.{posted_lines}
use Rattle.chorus_explore.proofs.race_sites.push_posted.Given as goal

-- those passed are told
abbrev pub invariant-loop-progress : goal.invariant-loop-progress
invariant-loop-progress l = l.text.items ≡ l.initial.text.items ++ flat_map (posted_lines (journals_of l.journals)) (take l.progress-index l.scripts)
