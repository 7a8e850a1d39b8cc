-- The order of a replay, and that of a load, leave one outcome.
-- l is a layout, ts are tasks, s and t are statuses.
use Rattle.std.specs.Prelude.{ℕ, ◌≡◌, List, Option, Some, None}
use Rattle.chorus_ui.specs.declared.layout.Layout.{Layout}
use Rattle.chorus_ui.specs.Layout.{IsLayout}
use Rattle.chorus_net.specs.declared.closed.Closed.{Closed}
use Rattle.chorus_net.specs.Closing.{closed_journals}
use Rattle.law_network.specs.Tasks.{Task}
use Rattle.chorus_show.specs.declared.status.Status.{Status}
use Rattle.chorus_show.specs.declared.status.Status.TheVariants.{Worn}
use Rattle.chorus_replay.specs.Ordered.{IsOrdered, Replays}
use Rattle.chorus_replay.specs.Load.{Loads}
use Rattle.chorus_show.specs.declared.stuck.Stuck.{Stuck}
use Rattle.chorus_report.specs.Output.{summary, text_of, text_with}

-- the clock that was worn, if one was
abbrev pub worn_clock : Status → Option ℕ
worn_clock (Worn clock) = Some clock
worn_clock _ = None

-- the same journals were closed, the same packets and the same ports
pub record AreClosedAlike (one other : Closed) : Type 0 where
  pub journals : closed_journals one ≡ closed_journals other
  pub rest : one.rest.items ≡ other.rest.items
  pub ports : one.ports.items ≡ other.ports.items

-- two replays in the order of the same tasks wear the same clock or none, and close the same
abbrev pub OrderedOnce : Type 0
OrderedOnce =
    (l : Layout) (ts : List Task) (s t : Status) (one other : Closed) → IsLayout l → IsOrdered l ts s one →
    IsOrdered l ts t other →
    (worn_clock s ≡ worn_clock t) × AreClosedAlike one other

-- So what a replay closes and writes is a function of the layout and of the bytes that it reads: two replays of the
-- same bytes wear the same clock or none, and close the same; their reports are one text, also with the scripts that are
-- stuck, unless a clock was worn.
pub record ReplayAlike (s t : Status) (stuck others : List Stuck) (one other : Closed) : Type 0 where
  pub worn : worn_clock s ≡ worn_clock t
  pub closed : AreClosedAlike one other
  pub text : text_of (Some one) ≡ text_of (Some other)
  pub written : worn_clock s ≡ None → text_with stuck (Some one) ≡ text_with others (Some other)

abbrev pub ReplaysOnce : Type 0
ReplaysOnce =
    (l : Layout) (input : List ℕ) (s t : Status) (stuck others : List Stuck) (one other : Closed) → IsLayout l →
    Replays l (Some input) stuck s one → Replays l (Some input) others t other →
    ReplayAlike s t stuck others one other

-- so do two loads of the same words: what they write is the same
abbrev pub LoadsOnce : Type 0
LoadsOnce =
    (first commands : ℕ) (s t : Status) (one other : Closed) → Loads first commands s one →
    Loads first commands t other →
    (worn_clock s ≡ worn_clock t) × AreClosedAlike one other × (summary one ≡ summary other)
