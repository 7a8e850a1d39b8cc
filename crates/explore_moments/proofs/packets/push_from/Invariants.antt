use Rattle.std.proofs.Common.{◌≡◌, ◌++◌, take}
use Rattle.std.specs.List.{flat_map}
use Rattle.explore_moments.specs.Moments.{list_lines}
use Rattle.explore_moments.proofs.packets.push_from.Given as goal

-- those for the places passed are told
abbrev pub invariant-loop-to : goal.invariant-loop-to
invariant-loop-to l = l.text.items ≡ l.initial.text.items ++ flat_map list_lines (take l.to l.out.lists)
