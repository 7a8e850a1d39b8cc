-- What was seen last is what is closed.
-- v is what the closing pass knows, p the number of a place, of `count`, numbered from 1.
use Rattle.std.specs.Prelude.{ℕ, ◌≡◌, List}
use Rattle.chorus_turn.specs.declared.knowledge.Remarked.{Remarked}
use Rattle.chorus_turn.specs.declared.knowledge.Knowledge.{Knowledge}
use Rattle.chorus_turn.specs.Knowing.{seen_at, Shows}
use Rattle.law_closing.specs.Closing.{IsPlace, Tells}

-- what was seen of each place shows all that the pass and those in its notes made there
abbrev pub HasSeen : {R : Type 0} → ℕ → Knowledge R → Type 0
HasSeen count v = (p : ℕ) → IsPlace count p → Shows p v (seen_at p v)

-- then the journals at the close are those that were seen
abbrev pub AllWasSeen : Type 0 → Type 0
AllWasSeen R =
    (count : ℕ) (log : ℕ → List (Remarked R)) (v : Knowledge R) → Tells count log v → HasSeen count v →
    (p : ℕ) → IsPlace count p → log p ≡ seen_at p v
