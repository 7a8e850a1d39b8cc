use Rattle.std.proofs.Common.{ℕ, ◌≡◌, ◌++◌}
use Rattle.std.specs.List.{flat_map}
use Rattle.chorus_place.specs.Calls.{state}
use Rattle.chorus_world.specs.Groups.{members}
use Rattle.law_network.specs.Network.{numbers}
use Rattle.law_explore.specs.Outcome.{Members}
use Rattle.law_explore.specs.Moment.{group_at}
use Rattle.explore_report.specs.Facts.{fact_line}
use Rattle.explore_moments.proofs.groups.push_at.Given as goal

-- those passed are told
abbrev pub invariant-loop-index : goal.invariant-loop-index
invariant-loop-index l =
    l.text.items
    ≡ l.initial.text.items ++ flat_map (λ (n : ℕ). fact_line (Members (group_at (state l.place) n) (members (group_at (state l.place) n) l.place.journal))) (numbers l.index 1)
