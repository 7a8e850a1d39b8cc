use Rattle.std.proofs.Common.{◌≡◌, ◌-◌, ◌<◌, length, sum}
use Rattle.std.specs.Prelude.{◌⊎◌}
use Rattle.chorus_scene.specs.Grammar.{script_at}
use Rattle.chorus_replay.specs.Performing.{IsAt, from_script}
use Rattle.chorus_replay.specs.Waiting.{InRound, done_by}
use Rattle.chorus_net.specs.Sites.{net}
use Rattle.chorus_replay.proofs.following.finish_script.Given as goal

abbrev pub invariant-loop-sites : goal.invariant-loop-sites
invariant-loop-sites l =
    IsAt l.scenario (InRound (from_script l.scenario l.seat)) l.done.items (net l.sites)
    × (((l.done.items ≡ l.fn.done.items) × (net l.sites ≡ net l.fn.sites)) ⊎ (sum l.fn.done.items < sum l.done.items))
    × (l.sites.mark ≡ l.initial.sites.mark)

-- the commands that are left
abbrev pub decreases-loop-sites : goal.decreases-loop-sites
decreases-loop-sites l = length (script_at l.seat l.scenario.scripts).commands - done_by l.done.items l.seat
