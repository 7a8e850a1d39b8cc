use Rattle.std.proofs.Common.{◌≡◌, ◌≤◌, ℕ, false}
use Rattle.chorus_replay.specs.Waiting.{IsScript, may_go_on}
use Rattle.chorus_net.specs.Sites.{net}
use Rattle.chorus_replay.proofs.awaiting.may_any.Given as goal

-- none of those before
abbrev pub invariant-loop-index : goal.invariant-loop-index
invariant-loop-index l = (k : ℕ) → IsScript l.scenario k → k ≤ l.index → may_go_on l.scenario l.done k (net l.sites) ≡ false
