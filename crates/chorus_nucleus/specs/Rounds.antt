-- A round over all places in which each was idle.
-- l is a layout, v what the pass knows, m how many places the round has come by.
use Rattle.std.specs.Prelude.{ℕ, ◌≡◌, ◌<◌, ◌+◌, ◌-◌, ◌^◌, List}
use Rattle.chorus_ui.specs.declared.layout.Layout.{Layout}
use Rattle.chorus_ui.specs.Layout.{places}
use Rattle.chorus_turn.specs.declared.knowledge.Knowledge.{Knowledge}
use Rattle.chorus_turn.specs.Knowing.{seen_at}
use Rattle.law_history.specs.Counts.{total, put_count, got_count}
use Rattle.law_closing.specs.Places.{PlaceNote}
use Rattle.law_closing.specs.Remarks.{turns_at}
use Rattle.law_closing.specs.Seen.{HasSeen}
use Rattle.law_history.specs.Journals.{PlaceTurn}
use Rattle.law_history.specs.Places.{all_put, all_got}

-- how many packets the turns that were seen at the places 1 to m put, and how many they worked off
abbrev pub put_seen : ℕ → Knowledge PlaceNote → ℕ
put_seen m v = total m (λ p. put_count (turns_at (p + 1) (seen_at (p + 1) v)))

abbrev pub got_seen : ℕ → Knowledge PlaceNote → ℕ
got_seen m v = total m (λ p. got_count (turns_at (p + 1) (seen_at (p + 1) v)))

-- a count up to 2^64 - 1 is this number, unless it stands there
abbrev pub Counts : ℕ → ℕ → Type 0
Counts count n = count < 2 ^ 64 - 1 → count ≡ n

-- the round has come so far, each place was idle, and the counts add up to these
pub record IsRound (m : ℕ) (put worked : ℕ) (v : Knowledge PlaceNote) : Type 0 where
  pub seen : HasSeen m v
  pub put_is : Counts put (put_seen m v)
  pub worked_is : Counts worked (got_seen m v)

-- the turns that were seen at each place
abbrev pub turns_seen : Knowledge PlaceNote → ℕ → List PlaceTurn
turns_seen v p = turns_at p (seen_at p v)

-- nothing is left: all was seen, and as many packets were worked off as were put
pub record IsEven (l : Layout) (v : Knowledge PlaceNote) : Type 0 where
  pub seen : HasSeen (places l) v
  pub even : all_put l (turns_seen v) ≡ all_got l (turns_seen v)
