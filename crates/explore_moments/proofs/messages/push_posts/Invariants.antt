use Rattle.std.proofs.Common.{◌≡◌, ◌++◌, take}
use Rattle.std.specs.List.{flat_map}
use Rattle.explore_moments.specs.Moments.{post_lines, states}
use Rattle.explore_moments.proofs.messages.push_posts.Given as goal

-- those passed are told
abbrev pub invariant-loop-id : goal.invariant-loop-id
invariant-loop-id l = l.text.items ≡ l.initial.text.items ++ flat_map (post_lines (states l.places)) (take l.id-index l.ids)
