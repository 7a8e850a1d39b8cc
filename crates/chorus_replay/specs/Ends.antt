-- How a replay ends, and how a load does.
-- A source and a sink are seen as `EndsReading` and `EndsWriting` see them; from and rest are the source, old and new
-- the sink, before and after.
use Rattle.std.specs.Prelude.{ℕ, List, Option, IfSome}
use Rattle.chorus_ui.specs.declared.layout.Layout.{Layout}
use Rattle.chorus_report.specs.declared.finished.Finished.{Finished}
use Rattle.chorus_report.specs.Ending.{EndsReading, EndsWriting}
use Rattle.chorus_show.specs.declared.stuck.Stuck.{Stuck}
use Rattle.chorus_report.specs.Output.{EndsUnread, summary_of, text_with}
use Rattle.chorus_replay.specs.Load.{Loads}
use Rattle.chorus_replay.specs.Ordered.{Replays}

-- A scenario was read, for this layout; the report of what was closed was written, with a line for each script that is
-- stuck; and that is a replay of the scenario.
pub record EndsAsReplay {S K : Type 0} (l : Layout) (finished : Finished) (left : S → Option (List ℕ)) (faults : S → ℕ)
    (reliable : S → Type 0) (from rest : S) (held : K → Option (List ℕ)) (failures : K → ℕ) (old new : K) : Type 0 where
  pub stuck : List Stuck
  pub reads : EndsReading l finished.status left faults reliable from rest
  pub writes : EndsWriting (text_with stuck finished.closed) finished held failures old new
  pub replays : IfSome finished.closed (Replays l (left from) stuck finished.status)

-- The summary of what was closed was written, and that is the load of these words.
pub record EndsAsLoad {K : Type 0} (first commands : ℕ) (finished : Finished) (held : K → Option (List ℕ))
    (failures : K → ℕ) (old new : K) : Type 0 where
  pub status : EndsUnread finished.status
  pub writes : EndsWriting (summary_of finished.closed) finished held failures old new
  pub loads : IfSome finished.closed (Loads first commands finished.status)
