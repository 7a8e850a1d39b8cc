-- Events that give no command, and rounds of deliveries.
-- n is a network, l a layout, a and b are numbers of places, e is an event, es and ds are events, the latest first.
use Rattle.std.specs.Prelude.{ℕ, zero, suc, ◌+◌, ◌≡◌, ◌==◌, Bool, true, false, ◌&&◌, ◌||◌, List, [], ◌∷◌, ◌++◌}
use Rattle.chorus_ui.specs.declared.layout.Layout.{Layout}
use Rattle.chorus_ui.specs.Layout.{has_place}
use Rattle.law_network.specs.Network.{NetState, Event, Act, Deliver, after, serves}

abbrev pub gives_none : Event → Bool
gives_none (Act seat command) = false
gives_none _ = true

abbrev pub give_none : List Event → Bool
give_none [] = true
give_none (e ∷ es) = gives_none e && give_none es

-- how many of the events are deliveries that find a packet, and so work it off
abbrev pub works : Event → NetState → ℕ
works (Deliver seat a b) n = serves (Deliver seat a b) n
works _ n = 0

abbrev pub worked : List Event → NetState → ℕ
worked [] n = 0
worked (e ∷ es) n = works e (after es n) + worked es n

-- one of the events is a delivery from a to b
abbrev pub delivers : ℕ → ℕ → Event → Bool
delivers a b (Deliver seat from to) = (from == a) && (to == b)
delivers a b _ = false

abbrev pub one_delivers : ℕ → ℕ → List Event → Bool
one_delivers a b [] = false
one_delivers a b (e ∷ es) = delivers a b e || one_delivers a b es

-- a round: from each place to each other one there is a delivery, in any order, by whichever seats, and whatever else
-- happens in between
abbrev pub IsRound : Layout → List Event → Type 0
IsRound l es =
    (a b : ℕ) → has_place l a ≡ true → has_place l b ≡ true → (a == b) ≡ false → one_delivers a b es ≡ true

-- the events have so many rounds, one behind the other
abbrev pub HaveRounds : Layout → ℕ → List Event → Type 0
HaveRounds l zero es = Unit {0}
HaveRounds l (suc count) es =
    (later : List Event) × ((older : List Event) × ((es ≡ later ++ older) × IsRound l later × HaveRounds l count older))
