use Rattle.std.proofs.Common.{ℕ, ◌<◌, ◌≤◌, slice_get}
use Rattle.law_explore.specs.Alike.{CallerAlike}
use Rattle.chorus_explore.proofs.alike_sites.callers.are_same_callers.Given as goal

-- the callers passed are the same but for their last clocks
abbrev pub invariant-loop-seat : goal.invariant-loop-seat
invariant-loop-seat l = (k : ℕ) → k < l.seat → 1 ≤ k → CallerAlike (slice_get l.one k) (slice_get l.other k)
