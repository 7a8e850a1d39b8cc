-- The sites: their places and their callers, and the network that they are.
-- l is a layout, p is a place, ps are places, k is the number of the first one, b of a place that packets go to.
use Rattle.std.specs.Prelude.{ℕ, ◌≡◌, ◌≢◌, ◌+◌, ◌≤◌, true, List, [], ◌∷◌, ◌++◌, length, map, is_some}
use Rattle.chorus_ui.specs.declared.layout.Layout.{Layout}
use Rattle.chorus_ui.specs.declared.limits.TheConstants.{SEATS_LIMIT}
use Rattle.chorus_ui.specs.Layout as layouts
use Rattle.chorus_ui.specs.Layout.{IsLayout}
use Rattle.chorus_entry.specs.declared.packet.Packet.{Packet}
use Rattle.chorus_calls.specs.Callers.{Seated}
use Rattle.law_machine.specs.declared.outgoing.Outgoing.{Outgoing}
use Rattle.law_network.specs.Packets.{first_on}
use Rattle.law_network.specs.Network.{NetState, Event, schedule}
use Rattle.law_network.specs.Schedules.{may_be}
use Rattle.chorus_place.specs.Calls.{Place, state}

-- the mark says which sites they are, by a number of which no call says more; the places by their numbers, and the
-- caller of each seat, from seat 0 on
pub record SitesState : Type 0 where
  pub layout : Layout
  pub mark : ℕ
  pub places : List Place
  pub callers : List Seated

-- The packets that wait, by the place that put them, then by the place that they go to.

abbrev pub to_place : ℕ → List Packet → List Outgoing
to_place b packets = map (λ (packet : Packet). record { to = b; packet = packet }) packets

-- those of one outbox
abbrev pub waiting_from : ℕ → List (List Packet) → List Outgoing
waiting_from b [] = []
waiting_from b (l ∷ ls) = to_place b l ++ waiting_from (b + 1) ls

abbrev pub waiting_in : List (List (List Packet)) → List Outgoing
waiting_in [] = []
waiting_in (ls ∷ rest) = waiting_from 0 ls ++ waiting_in rest

abbrev pub boxes : List Place → List (List (List Packet))
boxes ps = map (λ (p : Place). p.out.lists) ps

abbrev pub all_waiting : List Place → List Outgoing
all_waiting ps = waiting_in (boxes ps)

-- the network that the sites are
abbrev pub net : SitesState → NetState
net s = record { layout = s.layout; places = map state s.places; packets = all_waiting s.places; callers = s.callers }

-- a packet waits to go from the place
pub record IsSending (from : ℕ) (n : NetState) : Type 0 where
  pub to : ℕ
  pub waits : is_some (first_on from to n.packets) ≡ true

-- What sites keep.

-- the packets come from the place of this number
abbrev pub AreFrom : ℕ → List Packet → Type 0
AreFrom k [] = Unit {0}
AreFrom k (packet ∷ packets) = (packet.from ≡ k) × AreFrom k packets

abbrev pub AllFrom : ℕ → List (List Packet) → Type 0
AllFrom k [] = Unit {0}
AllFrom k (l ∷ ls) = AreFrom k l × AllFrom k ls

-- a and b are two places, and not the same one
pub record AreTwoPlaces (l : Layout) (a b : ℕ) : Type 0 where
  pub from : layouts.has_place l a ≡ true
  pub to : layouts.has_place l b ≡ true
  pub apart : a ≢ b

-- the place of this number: it has a list of packets for each place, and all are from it
pub record IsPlaceOf (l : Layout) (k : ℕ) (p : Place) : Type 0 where
  pub number : p.number ≡ k
  pub layout : p.layout ≡ l
  pub lists : length p.out.lists ≡ layouts.places l + 1
  pub from : AllFrom k p.out.lists

abbrev pub ArePlaces : Layout → ℕ → List Place → Type 0
ArePlaces l k [] = Unit {0}
ArePlaces l k (p ∷ ps) = IsPlaceOf l k p × ArePlaces l (k + 1) ps

-- the network is what some schedule left
pub record IsScheduled (l : Layout) (n : NetState) : Type 0 where
  pub events : List Event
  pub may : may_be l events ≡ true
  pub is : n ≡ schedule l events

pub record IsSites (s : SitesState) : Type 0 where
  pub shape : IsLayout s.layout
  pub places : ArePlaces s.layout 1 s.places
  pub all : length s.places ≡ layouts.places s.layout
  pub scheduled : IsScheduled s.layout (net s)
  pub some_seat : 1 ≤ length s.callers
  pub few_seats : length s.callers ≤ SEATS_LIMIT
