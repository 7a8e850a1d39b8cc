-- Where the turns of histories put packets, what their counts tell, and the network that they leave, list by list.
-- l is a layout, p, a and b are numbers of places, t a turn, n a network, ts are turns, the first one first.
use Rattle.std.specs.Prelude.{ℕ, zero, suc, ◌≡◌, ◌≤◌, ◌+◌, ◌==◌, true, cond, List, [], ◌++◌, map}
use Rattle.std.specs.List.{All}
use Rattle.chorus_ui.specs.declared.layout.Layout.{Layout}
use Rattle.chorus_ui.specs.Layout as layout
use Rattle.chorus_ui.specs.Layout.{IsLayout}
use Rattle.chorus_entry.specs.declared.command.Command.{Command}
use Rattle.chorus_entry.specs.declared.packet.Packet.{Packet}
use Rattle.chorus_calls.specs.Callers.{Seated}
use Rattle.law_machine.specs.PlaceState.{PlaceState}
use Rattle.law_network.specs.Network.{NetState, place_numbers, schedule}
use Rattle.law_network.specs.Left.{packets_left}
use Rattle.law_history.specs.Turns.{Sent, Turn}
use Rattle.law_history.specs.Network.{Network}
use Rattle.law_history.specs.Counts.{total, put_count, got_count}
use Rattle.law_history.specs.PlaceTurns.{is_other}
use Rattle.law_history.specs.Journals.{PlaceTurn, Comer, AreHistories, IsTheirSchedule, events}

-- what the turn puts is for other places of the layout than p
abbrev pub PutsForOthers : Layout → ℕ → PlaceTurn → Type 0
PutsForOthers l p t = All (λ (s : Sent Packet). is_other l p s.to ≡ true) t.puts

abbrev pub TurnsPutForOthers : Type 0
TurnsPutForOthers =
    (l : Layout) (comers : List Comer) (places seats : ℕ → List PlaceTurn)
    (closing : Network PlaceState Seated Packet) → IsLayout l →
    AreHistories l comers places seats closing → (p : ℕ) → All (PutsForOthers l p) (places p)

-- how many packets the turns of all places of the layout put, and how many they took
abbrev pub all_put : Layout → (ℕ → List PlaceTurn) → ℕ
all_put l turns = total (layout.places l) (λ k. put_count (turns (k + 1)))

abbrev pub all_got : Layout → (ℕ → List PlaceTurn) → ℕ
all_got l turns = total (layout.places l) (λ k. got_count (turns (k + 1)))

-- no more are taken than were put, and where as many were, no link holds one
pub record CountsTell (l : Layout) (places : ℕ → List (Turn Seated Command Packet))
    (closing : Network PlaceState Seated Packet) : Type 0 where
  pub most : all_got l places ≤ all_put l places
  pub even : all_put l places ≡ all_got l places → (a b : ℕ) → closing.links a b ≡ []

abbrev pub CountsTellWhatIsLeft : Type 0
CountsTellWhatIsLeft =
    (l : Layout) (comers : List Comer) (places seats : ℕ → List PlaceTurn)
    (closing : Network PlaceState Seated Packet) → IsLayout l →
    AreHistories l comers places seats closing → CountsTell l places closing

-- the lists of the numbers from 1 to n, one after the other
abbrev pub up_to : {A : Type 0} → ℕ → (ℕ → List A) → List A
up_to zero f = []
up_to (suc n) f = up_to n f ++ f (suc n)

-- of n places, those from each to each other one, by the first and then by the second
abbrev pub from_one : {A : Type 0} → ℕ → (ℕ → ℕ → List A) → ℕ → List A
from_one n f a = up_to n (λ b. cond (b == a) [] (f a b))

abbrev pub by_link : {A : Type 0} → ℕ → (ℕ → ℕ → List A) → List A
by_link n f = up_to n (from_one n f)

-- the places of the network are those at the end by their numbers, and its packets those of the links, one link after
-- the other
pub record AreListed (l : Layout) (closing : Network PlaceState Seated Packet) (n : NetState) : Type 0 where
  pub places : n.places ≡ map closing.places (place_numbers l)
  pub packets : packets_left n ≡ by_link (layout.places l) closing.links

abbrev pub SchedulesLeaveLists : Type 0
SchedulesLeaveLists =
    (l : Layout) (comers : List Comer) (places seats : ℕ → List PlaceTurn) (closing : Network PlaceState Seated Packet)
    (ts : List PlaceTurn) → IsLayout l → IsTheirSchedule l comers places seats closing ts →
    AreListed l closing (schedule l (events comers ts))
