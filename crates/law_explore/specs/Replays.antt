-- The moves of a race as events of a schedule, where seat 0 delivers.
-- r is a race, ms are moves and es events, both with the latest first, l is a layout, ts are tasks.
use Rattle.std.specs.Prelude.{◌≡◌, List, [], ◌∷◌, ◌++◌, map, option_to_list}
use Rattle.chorus_ui.specs.declared.layout.Layout.{Layout}
use Rattle.law_network.specs.Network.{Event, schedule}
use Rattle.law_network.specs.Tasks.{Task, Do, Drain, CarryOut}
use Rattle.law_explore.specs.declared.moves.Move.{Move}
use Rattle.law_explore.specs.Search.{state_after}
use Rattle.law_explore.specs.Races.{Race, event_of, seat_0, replaying}

abbrev pub events_of : Race → List Move → List Event
events_of r [] = []
events_of r (m ∷ ms) =
    option_to_list (event_of r.net.layout seat_0 m (state_after (replaying r) ms).left) ++ events_of r ms

-- Where tasks led to the race, and then each move is done, and a drain: if the moves leave no packet, the drain finds
-- nothing, and what is left is the network that the moves come to.
abbrev pub MovesAreReplayed : Type 0
MovesAreReplayed =
    (l : Layout) (ts : List Task) (base es : List Event) (r : Race) (ms : List Move) →
    CarryOut l ts base → r.net ≡ schedule l base → (state_after (replaying r) ms).net.packets ≡ [] →
    CarryOut l (Drain 0 ∷ map Do (events_of r ms) ++ ts) es → schedule l es ≡ (state_after (replaying r) ms).net
