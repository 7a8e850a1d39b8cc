use Rattle.std.proofs.Common.{◌≡◌, ◌++◌, take}
use Rattle.std.specs.List.{flat_map}
use Rattle.explore_moments.specs.Moments.{states}
use Rattle.chorus_explore.specs.Stages.{asked_lines}
use Rattle.chorus_explore.proofs.race_sites.push_all_posts.Given as goal

-- those passed are told
abbrev pub invariant-loop-progress : goal.invariant-loop-progress
invariant-loop-progress l = l.text.items ≡ l.initial.text.items ++ flat_map (asked_lines (states l.places)) (take l.progress-index l.scripts)
