use Rattle.std.proofs.Common.{ℕ, ◌≡◌, ◌<◌, Some}
use Rattle.place_unsettled.specs.declared.wait.Key.{Key}
use Rattle.place_unsettled.specs.Queues.{queue, key_at}
use Rattle.chorus_explore.proofs.alike_sites.hints_and_waits.are_same_waits.Given as goal

-- the keys passed are the same, and so is what waits for them
abbrev pub invariant-loop-at : goal.invariant-loop-at
invariant-loop-at l =
    ((i : ℕ) → i < l.at → key_at l.one i ≡ key_at l.other i)
    × ((i : ℕ) → i < l.at → (k : Key) → key_at l.one i ≡ Some k → queue l.one k ≡ queue l.other k)
