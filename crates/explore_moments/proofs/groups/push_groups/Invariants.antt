use Rattle.std.proofs.Common.{◌≡◌, ◌++◌, take}
use Rattle.std.specs.List.{flat_map}
use Rattle.explore_moments.specs.Moments.{group_lines, states}
use Rattle.explore_moments.proofs.groups.push_groups.Given as goal

-- those of the places passed are told
abbrev pub invariant-loop-place : goal.invariant-loop-place
invariant-loop-place l = l.text.items ≡ l.initial.text.items ++ flat_map group_lines (states (take l.place-index l.places))
