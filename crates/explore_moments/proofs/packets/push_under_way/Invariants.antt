use Rattle.std.proofs.Common.{◌≡◌, ◌++◌, take}
use Rattle.std.specs.List.{flat_map}
use Rattle.explore_moments.specs.Moments.{box_lines}
use Rattle.explore_moments.proofs.packets.push_under_way.Given as goal

-- those of the places passed are told
abbrev pub invariant-loop-place : goal.invariant-loop-place
invariant-loop-place l = l.text.items ≡ l.initial.text.items ++ flat_map box_lines (take l.place-index l.places)
