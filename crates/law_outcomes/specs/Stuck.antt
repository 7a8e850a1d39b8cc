-- What an outcome tells of scripts that were not done to their end.
-- c is a scenario, ms are moves, the latest first, done is how many commands of each script were given.
use Rattle.std.specs.Prelude.{ℕ, suc, ◌≡◌, List, drop, Some, slice_get, slice_index_or}
use Rattle.chorus_ui.specs.Layout.{IsLayout}
use Rattle.law_network.specs.Left.{merged_past}
use Rattle.law_explore.specs.declared.moves.Move.{Move}
use Rattle.law_explore.specs.Races.{IsWhole}
use Rattle.law_replay.specs.Shown.{orders_of, race_of}
use Rattle.chorus_scene.specs.Limits.{Keeps}
use Rattle.chorus_scene.specs.Scene.{Scene, Script}
use Rattle.chorus_report.specs.Awaiting.{StandsAt}
use Rattle.chorus_explore.specs.Stages.{position}

-- Where the moves lead the scripts stand so: of each so many commands were given, each await among them received a
-- message, and it is done, or its next command waits for what its port does not give. What stands behind these is left of
-- it: the outcome tells the first command of that as stuck (`stuck_facts`), and nothing of a script that is done.
pub record AreStuckSo (c : Scene) (ms : List Move) : Type 0 where
  pub done : List ℕ
  pub stands : (i : ℕ) (script : Script) → slice_get c.scripts i ≡ Some script →
      StandsAt c.layout script (suc i) (slice_index_or done i 0) (merged_past (position c ms).net)
  pub left : (i : ℕ) (script : Script) → slice_get c.scripts i ≡ Some script →
      slice_get (position c ms).left i ≡ Some (drop (slice_index_or done i 0) (orders_of script))

-- So it is at the end of each whole history.
abbrev pub OutcomesTellWhatIsStuck : Type 0
OutcomesTellWhatIsStuck =
    (c : Scene) (ms : List Move) → IsLayout c.layout → Keeps c → IsWhole (race_of c) ms → AreStuckSo c ms
