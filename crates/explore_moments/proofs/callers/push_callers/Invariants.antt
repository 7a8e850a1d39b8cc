use Rattle.std.proofs.Common.{ℕ, ◌≡◌, ◌++◌, slice_get}
use Rattle.std.specs.List.{flat_map}
use Rattle.law_network.specs.Network.{numbers}
use Rattle.law_explore.specs.Moment.{caller_facts}
use Rattle.explore_report.specs.Facts.{outcome_lines}
use Rattle.explore_moments.proofs.callers.push_callers.Given as goal

-- those passed are told
abbrev pub invariant-loop-index : goal.invariant-loop-index
invariant-loop-index l =
    l.text.items ≡ l.initial.text.items ++ flat_map (λ (k : ℕ). outcome_lines (caller_facts k (slice_get l.callers k))) (numbers l.index 1)
