use Rattle.std.proofs.Common.{◌≡◌, ◌++◌, take}
use Rattle.std.specs.List.{flat_map}
use Rattle.chorus_explore.specs.declared.race_sites.Progress.{Progress}
use Rattle.chorus_explore.proofs.race_sites.push_answers.Given as goal

-- those passed are told
abbrev pub invariant-loop-progress : goal.invariant-loop-progress
invariant-loop-progress l = l.text.items ≡ l.initial.text.items ++ flat_map (λ (p : Progress). p.answers.items) (take l.progress-index l.scripts)
