use Rattle.std.proofs.Common.{◌≡◌, ◌++◌, take}
use Rattle.place_outbox.specs.Waiting.{list_to}
use Rattle.explore_moments.specs.Moments.{list_lines}
use Rattle.explore_moments.proofs.packets.push_to.Given as goal

-- those passed are told
abbrev pub invariant-loop-at : goal.invariant-loop-at
invariant-loop-at l = l.text.items ≡ l.initial.text.items ++ list_lines (take l.at (list_to l.to l.out.lists))
