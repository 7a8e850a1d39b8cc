-- How a crew on messages that are drawn ends.
-- A sink is seen as `EndsWriting` sees it; old and new are the sink, before and after.
use Rattle.std.specs.Prelude.{ℕ, ◌≡◌, ◌≤◌, List, Option, Some, IfSome}
use Rattle.chorus_ui.specs.declared.limits.TheConstants.{CLOCK_LIMIT}
use Rattle.chorus_net.specs.declared.closed.Closed.{Closed}
use Rattle.chorus_show.specs.declared.status.Status.{Status}
use Rattle.chorus_perform.specs.declared.stopped.Stopped.{Stopped}
use Rattle.chorus_perform.specs.declared.stopped.Stopped.TheVariants as stops
use Rattle.chorus_nucleus.specs.declared.nucleus.Nucleus.{Nucleus}
use Rattle.chorus_report.specs.declared.finished.Finished.{Finished}
use Rattle.chorus_report.specs.Headline.{HasClock}
use Rattle.chorus_net.specs.Closing.{merge_of}
use Rattle.chorus_report.specs.Ending.{EndsWriting}
use Rattle.chorus_report.specs.Output.{EndsUnread}
use Rattle.chorus_run.specs.Threads.{HasWornOf}
use Rattle.chorus_run.specs.DrawnCrew.Text.{crew_text}
use Rattle.chorus_run.specs.DrawnCrew.Takes.{TakesUnless}

-- all stopped for a clock that an entry of what was closed has
pub record EndsWorn (why : Stopped) (closed : Closed) (finished : Finished) : Type 0 where
  pub clock : ℕ
  pub is : why ≡ stops.Worn clock
  pub finished_is : finished ≡ record { status = Status.Worn clock; closed = Some closed }
  pub high : CLOCK_LIMIT ≤ clock
  pub entry : HasClock clock (merge_of closed)

-- The text of the draws was written; what was closed is this nucleus, and its journals have the takes that were
-- counted; and a clock that was worn is that of the pass that closed it.
pub record EndsAsCrew {K : Type 0} (n : Nucleus) (first commands : ℕ) (finished : Finished) (held : K → Option (List ℕ))
    (failures : K → ℕ) (old new : K) : Type 0 where
  pub status : EndsUnread finished.status
  pub writes : EndsWriting (crew_text first commands) finished held failures old new
  pub takes : IfSome finished.closed (TakesUnless n first commands finished.status)
  pub worn : IfSome finished.closed (HasWornOf finished.status)
