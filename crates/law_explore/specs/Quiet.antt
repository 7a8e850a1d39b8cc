-- Moves behind which nothing new may come.
-- r is a race, ms are moves, m and o are moves.
use Rattle.std.specs.Prelude.{◌≡◌, ◌≢◌, Bool, true, false, List, ◌∷◌, Option, Some, None, slice_get}
use Rattle.law_explore.specs.declared.moves.Move.{Move}
use Rattle.law_explore.specs.Search.{IsHistory, state_after}
use Rattle.law_explore.specs.declared.moves.Move.TheVariants.{Go, Carry}
use Rattle.law_explore.specs.Races.{Race, Order, next_of, behind_next, may_come, meet_nowhere, replaying, IsRace}

-- what may come behind the move could come before it, and is another move
abbrev pub IsQuiet : Race → List Move → Move → Type 0
IsQuiet r ms m =
    (o : Move) → may_come r.net.layout o (state_after (replaying r) (m ∷ ms)) ≡ true →
    (may_come r.net.layout o (state_after (replaying r) ms) ≡ true) × (o ≢ m)

-- the command that stands behind the move's in its script waits
abbrev pub waits_if : Option Order → Bool
waits_if None = false
waits_if (Some o) = o.waits

abbrev pub waits_behind : Move → List (List Order) → Bool
waits_behind (Go i) left = waits_if (next_of (Some (behind_next (slice_get left i))))
waits_behind (Carry a b) left = false

-- Of two neighbours: where nothing new may come behind the one when the other came first, nothing new may come behind it
-- without the other, which may still come. A command behind the one in its script must not wait: the other may have taken
-- away what it waits for.
abbrev pub NeighboursStayQuiet : Type 0
NeighboursStayQuiet =
    (r : Race) (ms : List Move) (m o : Move) → IsRace r → IsHistory (replaying r) ms →
    meet_nowhere r.net.layout o m (state_after (replaying r) ms) ≡ true →
    waits_behind m (state_after (replaying r) ms).left ≡ false → IsQuiet r (o ∷ ms) m →
    IsQuiet r ms m × (may_come r.net.layout o (state_after (replaying r) (m ∷ ms)) ≡ true)
