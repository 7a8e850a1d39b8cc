-- How many entries and packets need no memory at each place.
-- old and new are the places before and after a call, i is where a place stands, p is a place or its number, n is a
-- network, e is an event, es are events, the latest first.
use Rattle.std.specs.Prelude.{ℕ, zero, suc, ◌≡◌, ◌+◌, ◌≤◌, ◌==◌, if◌then◌else◌, List, [], ◌∷◌, ◌++◌, length, slice_set, Option, Some, None}
use Rattle.chorus_entry.specs.declared.command.Command.{Command}
use Rattle.chorus_entry.specs.Places.{place_for}
use Rattle.chorus_calls.specs.Callers.{Seated}
use Rattle.law_machine.specs.declared.outgoing.Outgoing.{Outgoing}
use Rattle.law_network.specs.Network.{NetState, Event, place, after, one_if}
use Rattle.law_network.specs.History.{put_by}
use Rattle.law_network.specs.Calls.{draining}
use Rattle.chorus_place.specs.Calls.{Place, TakesNone}
use Rattle.chorus_net.specs.Sites.{SitesState, net}

-- at each there is room for so many
abbrev pub HaveRoom : ℕ → List Place → Type 0
HaveRoom more [] = Unit {0}
HaveRoom more (p ∷ ps) = (more ≤ p.spare) × HaveRoom more ps

-- at each there is as much room as before, at least
abbrev pub KeepRoom : List Place → List Place → Type 0
KeepRoom [] qs = Unit {0}
KeepRoom (p ∷ ps) [] = Unit {0}
KeepRoom (p ∷ ps) (q ∷ qs) = (p.spare ≤ q.spare) × KeepRoom ps qs

-- nothing changed but the room, of which there is as much at each place at least
pub record StayAsTheyWere (old new : SitesState) : Type 0 where
  pub same : net new ≡ net old
  pub room : KeepRoom old.places new.places

-- at one place
abbrev pub HasRoomAt : ℕ → ℕ → List Place → Type 0
HasRoomAt more i [] = Unit {0}
HasRoomAt more zero (p ∷ ps) = more ≤ p.spare
HasRoomAt more (suc i) (p ∷ ps) = HasRoomAt more i ps

-- one place changed, and its room is as much as before, at least
pub record HasReserved (i : ℕ) (old new : List Place) : Type 0 where
  pub place : Place
  pub is : new ≡ slice_set old i place
  pub kept : KeepRoom old new

-- the room at the place of this number, and how many entries it has
abbrev pub room_at : ℕ → List Place → ℕ
room_at number [] = 0
room_at number (p ∷ ps) = if p.number == number then p.spare else room_at number ps

abbrev pub entries_at : ℕ → List Place → ℕ
entries_at number [] = 0
entries_at number (p ∷ ps) = if p.number == number then length p.journal else entries_at number ps

-- how many of the packets come from the place of this number
abbrev pub count_from : ℕ → List Outgoing → ℕ
count_from p [] = 0
count_from p (o ∷ os) = one_if (o.packet.from == p) + count_from p os

-- how many packets the place puts in an event, and in several
abbrev pub puts_in : Event → NetState → ℕ → ℕ
puts_in e n p = count_from p (put_by e n)

abbrev pub puts_of : List Event → NetState → ℕ → ℕ
puts_of [] n p = 0
puts_of (e ∷ es) n p = puts_in e (after es n) p + puts_of es n p

-- at each place the room is less by the entries that it appended and so many packets, at most
abbrev pub UsesRoom : (ℕ → ℕ) → List Place → List Place → Type 0
UsesRoom puts old new =
    (number : ℕ) → room_at number old + entries_at number old ≤ room_at number new + entries_at number new + puts number

-- the first deliveries of so many rounds were done, and at each place the room is less by what it appended and put in
-- them, at most
pub record UsesRoomInRounds (old new : SitesState) : Type 0 where
  pub count : ℕ
  pub later : List Event
  pub done : List Event
  pub are : draining old.layout count ≡ later ++ done
  pub is : net new ≡ after done (net old)
  pub room : UsesRoom (puts_of done (net old)) old.places new.places

-- the command takes no memory: its place has room for two
abbrev pub TakesNoneAt : Command → Option Seated → SitesState → Type 0
TakesNoneAt c None s = ⊥
TakesNoneAt c (Some caller) s =
    let number = place_for s.layout caller.actor c in
    TakesNone c (place number (net s)) caller × (2 ≤ room_at number s.places)
