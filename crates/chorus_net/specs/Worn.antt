-- How far deliveries come: to their end, or to the first one that compares a clock from 2^62 on.
-- l is a layout, n, old and new are networks, e is an event, es are events, the latest first.
use Rattle.std.specs.Prelude.{ℕ, ◌≡◌, ◌≤◌, ◌<◌, List, [], ◌∷◌, ◌++◌, Option, Some, None}
use Rattle.chorus_ui.specs.declared.layout.Layout.{Layout}
use Rattle.chorus_ui.specs.declared.limits.TheConstants.{CLOCK_LIMIT}
use Rattle.law_network.specs.Calls.{compared, compared_at}
use Rattle.law_network.specs.Network.{NetState, Event, Enter, Act, Deliver, See, happened, after, rounds}

-- the greatest of the clocks that an event compares; a caller that comes, or sees an entry, compares none, and neither
-- does a delivery of nothing
abbrev pub compared_by : Event → NetState → Option ℕ
compared_by (Enter actor last) n = None
compared_by (Act seat command) n = Some (compared seat command n)
compared_by (Deliver seat a b) n = compared_at seat a b n
compared_by (See seat clock) n = None

-- no event compared a clock from 2^62 on
abbrev pub IsUnworn : Option ℕ → Type 0
IsUnworn None = Unit {0}
IsUnworn (Some clock) = clock < CLOCK_LIMIT

abbrev pub AreUnworn : List Event → NetState → Type 0
AreUnworn [] n = Unit {0}
AreUnworn (e ∷ es) n = IsUnworn (compared_by e (after es n)) × AreUnworn es n

-- the same of events in the order in which they come
abbrev pub ComeUnworn : List Event → NetState → Type 0
ComeUnworn [] n = Unit {0}
ComeUnworn (e ∷ es) n = IsUnworn (compared_by e n) × ComeUnworn es (happened e n)

-- the event is the next one in rounds of the seat, where these came before it
pub record IsInRounds (l : Layout) (seat : ℕ) (next : Event) (done : List Event) : Type 0 where
  pub count : ℕ
  pub later : List Event
  pub are : rounds l seat count ≡ later ++ next ∷ done

-- a drain by seat 0 stopped where the next delivery compares this clock, from 2^62 on; those before it compared none
-- such
pub record IsWornIn (clock : ℕ) (old new : NetState) : Type 0 where
  pub next : Event
  pub done : List Event
  pub comes : IsInRounds old.layout 0 next done
  pub is : new ≡ after done old
  pub unworn : AreUnworn done old
  pub compares : compared_by next new ≡ Some clock
  pub worn : CLOCK_LIMIT ≤ clock
