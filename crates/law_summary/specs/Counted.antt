-- What the numbers of a summary are in the world: where each port is, and what waits there.
-- q is a port; a past has its newest entry first, a summary is of the entries in order.
use Rattle.std.specs.Prelude.{ℕ, ◌≡◌, true, if◌then◌else◌, List, reverse, Option, Some, None, sum_by, count_by}
use Rattle.chorus_ui.specs.declared.ui.Ui.{Ui}
use Rattle.chorus_ui.specs.declared.layout.Layout.{Layout}
use Rattle.chorus_ui.specs.Layout.{IsLayout}
use Rattle.chorus_ui.specs.Name.{same_ui}
use Rattle.chorus_entry.specs.declared.entry.Entry.{Entry}
use Rattle.chorus_world.specs.declared.spot.Spot as world
use Rattle.chorus_world.specs.declared.spot.Spot.TheVariants as spots
use Rattle.chorus_world.specs.Views.{on}
use Rattle.chorus_world.specs.Ports.{PortState, fate}
use Rattle.chorus_world.specs.Ports as ports
use Rattle.chorus_world.specs.Fates.{MessageFate, Queued, UnderWay, Discarded, fate_at}
use Rattle.chorus_world.specs.Steps.{is_legal}
use Rattle.chorus_show.specs.declared.queues.Spot.{Spot}
use Rattle.chorus_show.specs.declared.queues.Spot.TheVariants.{Held, Moving, Ended}
use Rattle.chorus_show.specs.Summary.{waiting, ports_at, waiting_at}
use Rattle.chorus_show.specs.Tally.{is_spot}

-- where a port is, in the summary's words
abbrev pub spot_of : world.Spot → Spot
spot_of (spots.Held a) = Held
spot_of (spots.Moving a) = Moving
spot_of spots.Ended = Ended

abbrev pub spot_in_world : Option PortState → Option Spot
spot_in_world None = None
spot_in_world (Some f) = Some (spot_of f.spot)

-- how many messages wait in a port; none where it is not made
abbrev pub waiting_in_world : Option PortState → ℕ
waiting_in_world None = 0
waiting_in_world (Some f) = ports.waiting f

-- a port once, where it is at this spot
abbrev pub once_at : Spot → Option PortState → ℕ
once_at spot o = if is_spot spot (spot_in_world o) then 1 else 0

-- The ports of a spot are those that the world has there, each once; and the number printed for the spot is the sum of
-- the messages that wait in them.
pub record CountsTheWorld (past : List Entry) : Type 0 where
  pub ports :
      (spot : Spot) (q : Ui) →
      count_by (same_ui q) (ports_at spot (reverse past)) ≡ once_at spot (fate (on q past))
  pub waiting : (q : Ui) → waiting (reverse past) q ≡ waiting_in_world (fate (on q past))
  pub sum :
      (spot : Spot) →
      waiting_at spot (reverse past) ≡ sum_by (λ q. waiting_in_world (fate (on q past))) (ports_at spot (reverse past))

-- a message that is queued is in a port that is held, one under way in a port that moves, one discarded in a port that
-- ended
pub record IsFateOf (spot : Spot) (what : MessageFate) : Type 0 where
  pub queued : what ≡ Queued → spot ≡ Held
  pub under_way : what ≡ UnderWay → spot ≡ Moving
  pub discarded : what ≡ Discarded → spot ≡ Ended

abbrev pub FatesFollowPorts : Type 0
FatesFollowPorts = (f : PortState) (i : ℕ) → IsFateOf (spot_of f.spot) (fate_at i f)

abbrev pub SummariesCountTheWorld : Type 0
SummariesCountTheWorld = (l : Layout) (past : List Entry) → IsLayout l → is_legal l past ≡ true → CountsTheWorld past
