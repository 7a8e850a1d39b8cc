use Rattle.std.proofs.Common.{ℕ, ◌≡◌, ◌+◌, ◌<◌, ◌≤◌, false, sum}
use Rattle.std.specs.Prelude.{◌⊎◌}
use Rattle.chorus_replay.specs.Performing.{IsAt, from_script}
use Rattle.chorus_replay.specs.Waiting.{InRound, IsScript, may_go_on}
use Rattle.chorus_net.specs.Sites.{net}
use Rattle.chorus_replay.proofs.following.round.Given as goal

-- some command was done, or none of the scripts so far may go on
abbrev pub invariant-loop-index : goal.invariant-loop-index
invariant-loop-index l =
    IsAt l.scenario (InRound (from_script l.scenario (l.index + 1))) l.done.items (net l.sites)
    × (((l.done.items ≡ l.fn.done.items) × (net l.sites ≡ net l.fn.sites) × ((k : ℕ) → IsScript l.scenario k → k ≤ l.index → may_go_on l.scenario l.fn.done.items k (net l.fn.sites) ≡ false))
    ⊎ (sum l.fn.done.items < sum l.done.items))
    × (l.sites.mark ≡ l.initial.sites.mark)
