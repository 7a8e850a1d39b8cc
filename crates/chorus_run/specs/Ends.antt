-- How a run ends.
-- A source and a sink are seen as `EndsReading` and `EndsWriting` see them; from and rest are the source, old and new
-- the sink, before and after.
use Rattle.std.specs.Prelude.{ℕ, List, Option, IfSome}
use Rattle.chorus_ui.specs.declared.layout.Layout.{Layout}
use Rattle.chorus_net.specs.declared.closed.Closed.{Closed}
use Rattle.chorus_nucleus.specs.declared.nucleus.Nucleus.{Nucleus}
use Rattle.chorus_nucleus.specs.Passes.{layout_of}
use Rattle.chorus_report.specs.declared.finished.Finished.{Finished}
use Rattle.chorus_replay.specs.Ordered.{StuckUnless}
use Rattle.chorus_show.specs.declared.status.Status.{Status}
use Rattle.chorus_show.specs.declared.stuck.Stuck.{Stuck}
use Rattle.chorus_report.specs.Ending.{EndsReading, EndsWriting}
use Rattle.chorus_report.specs.Headline.{Runs}
use Rattle.chorus_report.specs.Output.{text_with}
use Rattle.chorus_run.specs.Threads.{HasAllPerformed, HasWornOf, IsOfNucleus}

-- what was closed runs the scenario, and these scripts are stuck
pub record RunsTo (l : Layout) (told : Option (List ℕ)) (stuck : List Stuck) (status : Status) (closed : Closed) : Type 0 where
  pub runs : Runs l told status closed
  pub stuck_is : StuckUnless status runs.scene runs.done stuck

-- A scenario was read, for the layout of the nucleus; the report of what was closed was written, with a line for each
-- script that is stuck; that runs the scenario, all of which was performed where nothing waits in it, and it is this
-- nucleus; and a clock that was worn is that of the pass that closed it.
pub record EndsAsRun {S K : Type 0} (n : Nucleus) (finished : Finished) (left : S → Option (List ℕ)) (faults : S → ℕ)
    (reliable : S → Type 0) (from rest : S) (held : K → Option (List ℕ)) (failures : K → ℕ) (old new : K) : Type 0 where
  pub stuck : List Stuck
  pub reads : EndsReading (layout_of n) finished.status left faults reliable from rest
  pub writes : EndsWriting (text_with stuck finished.closed) finished held failures old new
  pub runs : IfSome finished.closed (RunsTo (layout_of n) (left from) stuck finished.status)
  pub performs : IfSome finished.closed (HasAllPerformed n (left from) finished.status)
  pub origin : IfSome finished.closed (IsOfNucleus n)
  pub worn : IfSome finished.closed (HasWornOf finished.status)
