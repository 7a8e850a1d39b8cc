-- What a drain does, and what it leaves where it is refused. Seat 0 drains.
-- l is the layout, old and new are networks or sites, es are deliveries, the first one first.
use Rattle.std.specs.Prelude.{ℕ, ◌≡◌, ◌+◌, ◌<◌, ◌≤◌, List, [], ◌∷◌, ◌++◌, Some, slice_get}
use Rattle.chorus_ui.specs.declared.layout.Layout.{Layout}
use Rattle.chorus_ui.specs.declared.limits.TheConstants.{CLOCK_LIMIT}
use Rattle.law_network.specs.Network.{NetState, Event, happened, after, serves, round, served, place_numbers, from_one}
use Rattle.law_network.specs.Calls.{last_of, draining}
use Rattle.chorus_net.specs.Room.{puts_in, puts_of, UsesRoom}
use Rattle.chorus_net.specs.Sites.{SitesState, net}
use Rattle.chorus_net.specs.Worn.{compared_by, AreUnworn, ComeUnworn, IsInRounds}

-- the last clock of seat 0
abbrev pub seat_clock : NetState → ℕ
seat_clock n = last_of (slice_get n.callers 0)

-- it was below the limit, and has risen
pub record Ticks (old new : NetState) : Type 0 where
  pub below : seat_clock old < CLOCK_LIMIT
  pub risen : seat_clock old < seat_clock new

-- events in the order in which they come, and how many of them work a packet off
abbrev pub forward : List Event → NetState → NetState
forward [] n = n
forward (e ∷ es) n = forward es (happened e n)

abbrev pub serves_all : List Event → NetState → ℕ
serves_all [] n = 0
serves_all (e ∷ es) n = serves e n + serves_all es (happened e n)

-- how many packets the place p puts in them
abbrev pub puts_forward : List Event → NetState → ℕ → ℕ
puts_forward [] n p = 0
puts_forward (e ∷ es) n p = puts_in e n p + puts_forward es (happened e n) p

-- the deliveries from one place to each of the others
abbrev pub row_from : Layout → ℕ → List Event
row_from l from = from_one 0 from (place_numbers l)

-- these deliveries worked off so many packets, none was worn, and the clock of seat 0 rose with each; so there are not
-- too many to count
pub record Goes (es : List Event) (old new : NetState) (number : ℕ) : Type 0 where
  pub forward : new ≡ forward es old
  pub unworn : ComeUnworn es old
  pub total : number ≡ serves_all es old
  pub risen : seat_clock old + number ≤ seat_clock new
  pub last : 1 ≤ number → seat_clock old + number ≤ CLOCK_LIMIT

-- one round
pub record GoesRound (l : Layout) (old new : NetState) (number : ℕ) : Type 0 where
  pub after : new ≡ after (round l 0) old
  pub unworn : AreUnworn (round l 0) old
  pub total : number ≡ served (round l 0) old
  pub risen : seat_clock old + number ≤ seat_clock new
  pub last : 1 ≤ number → seat_clock old + number ≤ CLOCK_LIMIT

-- so many rounds
pub record GoesRounds (l : Layout) (old new : NetState) (number : ℕ) : Type 0 where
  pub count : ℕ
  pub after : new ≡ after (draining l count) old
  pub unworn : AreUnworn (draining l count) old
  pub total : number ≡ served (draining l count) old
  pub risen : seat_clock old + number ≤ seat_clock new
  pub last : 1 ≤ number → seat_clock old + number ≤ CLOCK_LIMIT

-- the room that they used
pub record RoundsUse (old new : SitesState) : Type 0 where
  pub count : ℕ
  pub is : net new ≡ after (draining old.layout count) (net old)
  pub room : UsesRoom (puts_of (draining old.layout count) (net old)) old.places new.places

-- whole rounds, so many that one more would serve nothing; no packet is left, so many were worked off, and no clock was
-- worn
pub record Drains (l : Layout) (old new : NetState) (number : ℕ) : Type 0 where
  pub count : ℕ
  pub drained : new ≡ after (draining l count) old
  pub unworn : AreUnworn (draining l count) old
  pub dry : served (round l 0) new ≡ 0
  pub empty : new.packets ≡ []
  pub total : number ≡ served (draining l count) old

-- the first deliveries of rounds were done, in their order, and the next one was refused
pub record Stops (old new : NetState) : Type 0 where
  pub next : Event
  pub done : List Event
  pub comes : IsInRounds old.layout 0 next done
  pub is : new ≡ after done old
  pub unworn : AreUnworn done old

-- of these deliveries, which come in this order, the first ones were done, and the next one was refused for a cause
pub record StopsAmong (es : List Event) (cause : Event → NetState → Type 0) (old new : SitesState) : Type 0 where
  pub done : List Event
  pub next : Event
  pub later : List Event
  pub are : es ≡ done ++ next ∷ later
  pub is : net new ≡ forward done (net old)
  pub unworn : ComeUnworn done (net old)
  pub room : UsesRoom (puts_forward done (net old)) old.places new.places
  pub because : cause next (net new)

-- whatever the cause
abbrev pub AnyCause : Event → NetState → Type 0
AnyCause e n = Unit {0}

-- it compares this clock, from 2^62 on
abbrev pub ComparesWorn : ℕ → Event → NetState → Type 0
ComparesWorn clock e n = (compared_by e n ≡ Some clock) × (CLOCK_LIMIT ≤ clock)
