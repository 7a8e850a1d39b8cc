-- What is left to be done comes to an end.
-- l is a layout, n the network that the events es leave, and ds are events that come behind these, the latest first.
use Rattle.std.specs.Prelude.{ℕ, ◌+◌, ◌≤◌, ◌≡◌, ◌⊎◌, true, List, [], ◌++◌, is_some, slice_get}
use Rattle.chorus_ui.specs.declared.layout.Layout.{Layout}
use Rattle.chorus_ui.specs.Layout.{IsLayout}
use Rattle.law_network.specs.Network.{NetState, Event, after, schedule, rounds, drained}
use Rattle.law_network.specs.Schedules.{may_be, OfSchedules}
use Rattle.law_network.specs.Left.{packets_left, merged_past}
use Rattle.law_network.specs.Quiet.{IsQuiet}
use Rattle.law_network.specs.Rank.{rank}
use Rattle.law_ending.specs.Rounds.{give_none, worked, IsRound, HaveRounds}

-- all events that may come behind any schedule, and give no command, have the property
abbrev pub WithoutCommands : (Layout → NetState → List Event → Type 0) → Type 0
WithoutCommands P =
    (l : Layout) (es ds : List Event) → IsLayout l → may_be l (ds ++ es) ≡ true → give_none ds ≡ true →
    P l (schedule l es) ds

-- each packet that they work off lowers the rank, and nothing raises it
abbrev pub DeliveriesAreFew : Type 0
DeliveriesAreFew = WithoutCommands (λ l n ds. worked ds n + rank (after ds n) ≤ rank n)

-- a round works off a packet, or there was none
abbrev pub RoundsWork : Type 0
RoundsWork = WithoutCommands (λ l n ds. IsRound l ds → (n.packets ≡ []) ⊎ (1 ≤ worked ds n))

-- so after as many rounds as the rank was, no packet is left and nothing is left to be done
abbrev pub RoundsEnd : Type 0
RoundsEnd = WithoutCommands (λ l n ds. (count : ℕ) → rank n ≤ count → HaveRounds l count ds →
    IsQuiet l (merged_past (after ds n)) (packets_left (after ds n)))

-- there are such rounds: whoever has come may make them, after any schedule
pub record AreRounds (l : Layout) (es ds : List Event) (count : ℕ) : Type 0 where
  pub may : may_be l (ds ++ es) ≡ true
  pub none : give_none ds ≡ true
  pub rounds : HaveRounds l count ds

abbrev pub RoundsAreMade : Type 0
RoundsAreMade = OfSchedules (λ l es n. (seat count : ℕ) → is_some (slice_get n.callers seat) ≡ true →
    AreRounds l es (rounds l seat count) count)

-- and so a drain takes at most so many as the rank was
abbrev pub DrainsTakeFew : Type 0
DrainsTakeFew = OfSchedules (λ l es n. (seat : ℕ) → is_some (slice_get n.callers seat) ≡ true →
    (drained seat (rank n) n).packets ≡ [])
