use Rattle.std.proofs.Common.{◌≡◌, ◌+◌, ◌≤◌, sum}
use Rattle.std.specs.Prelude.{◌⊎◌}
use Rattle.chorus_report.specs.Awaiting.{all_scripts}
use Rattle.chorus_replay.specs.Performing.{IsAt, SomeGoes}
use Rattle.chorus_replay.specs.Waiting.{InRound}
use Rattle.chorus_net.specs.Sites.{net}
use Rattle.chorus_replay.proofs.following.finish.Given as goal

-- behind the first round each one did a command, and some script may go on
abbrev pub invariant-loop-round : goal.invariant-loop-round
invariant-loop-round l =
    IsAt l.scenario (InRound (all_scripts l.scenario)) l.done.items (net l.sites)
    × ((l._round ≡ 0) ⊎ (SomeGoes l.scenario l.done.items (net l.sites) × (l._round ≤ sum l.done.items + 1)))
    × (l.sites.mark ≡ l.initial.sites.mark)
