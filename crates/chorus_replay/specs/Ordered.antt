-- The order of a replay: what was closed is the network after events that carry out the tasks.
-- l is a layout, es are events and ts are tasks, both with the latest first.
use Rattle.std.specs.Prelude.{ℕ, ◌≡◌, true, List, [], Option}
use Rattle.chorus_ui.specs.declared.layout.Layout.{Layout}
use Rattle.chorus_ui.specs.Layout.{IsLayout}
use Rattle.chorus_net.specs.declared.closed.Closed.{Closed}
use Rattle.chorus_net.specs.Closing.{IsClosed}
use Rattle.chorus_net.specs.Worn.{AreUnworn}
use Rattle.law_network.specs.Calls.{just_started}
use Rattle.law_network.specs.Network.{NetState, Event, opening, schedule}
use Rattle.law_network.specs.Schedules.{may_be}
use Rattle.law_network.specs.Tasks.{Task, CarryOut}
use Rattle.chorus_show.specs.declared.status.Status.{Status}
use Rattle.chorus_show.specs.declared.status.Status.TheVariants.{Worn}
use Rattle.chorus_scene.specs.Scene.{Scene, HasNoWait}
use Rattle.chorus_report.specs.Awaiting.{stuck_of}
use Rattle.chorus_show.specs.declared.stuck.Stuck.{Stuck}
use Rattle.chorus_report.specs.Headline.{Runs}
use Rattle.chorus_replay.specs.Order.{tasks}
use Rattle.chorus_replay.specs.Waiting.{Standing, Follows, IsOverUnless, opened}
use Rattle.chorus_replay.specs.Worn.{AreWornBy}

-- nothing happened on the sites yet
abbrev pub AreJustStarted : NetState → Type 0
AreJustStarted n = n ≡ just_started n.layout

-- the events carry out all tasks, or the first of them, up to a clock that is worn
abbrev pub CarryAsFar : Status → Layout → List Task → List Event → Type 0
CarryAsFar (Worn clock) l ts es = AreWornBy l ts es clock
CarryAsFar status l ts es = CarryOut l ts es

pub record IsOrdered (l : Layout) (ts : List Task) (status : Status) (closed : Closed) : Type 0 where
  pub events : List Event
  pub may : may_be l events ≡ true
  pub unworn : AreUnworn events (opening l)
  pub carried : CarryAsFar status l ts events
  pub closes : IsClosed (schedule l events) closed

-- these scripts are stuck, unless a clock was worn
abbrev pub StuckUnless : Status → Scene → List ℕ → List Stuck → Type 0
StuckUnless (Worn clock) c done stuck = Unit {0}
StuckUnless status c done stuck = stuck ≡ stuck_of c done

-- There is a scenario that the source gives, and what was closed plays it, in the order of a replay: step by step, until
-- no script may go on, or a clock was worn. These scripts are stuck then.
pub record Replays (l : Layout) (told : Option (List ℕ)) (stuck : List Stuck) (status : Status) (closed : Closed) :
    Type 0 where
  pub runs : Runs l told status closed
  pub standing : Standing
  pub follows : Follows runs.scene (opened runs.scene) standing
  pub over : IsOverUnless status runs.scene standing
  pub done : runs.done ≡ standing.done
  pub ordered : IsOrdered l standing.tasks status closed
  pub stuck_is : StuckUnless status runs.scene runs.done stuck

-- no script is stuck, unless a clock was worn
abbrev pub NoneStuckUnless : Status → List Stuck → Type 0
NoneStuckUnless (Worn clock) stuck = Unit {0}
NoneStuckUnless status stuck = stuck ≡ []

-- where nothing waits, that is the order that the scenario alone tells, and no script is stuck
abbrev pub ReplaysWithoutWaits : Type 0
ReplaysWithoutWaits =
    (l : Layout) (told : Option (List ℕ)) (stuck : List Stuck) (status : Status) (closed : Closed) → IsLayout l →
    (r : Replays l told stuck status closed) → HasNoWait r.runs.scene →
    IsOrdered l (tasks r.runs.scene) status closed × NoneStuckUnless status stuck
