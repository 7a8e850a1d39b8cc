-- What is promised of bytes that are carried from a first state of the generator.
use Rattle.std.specs.Prelude.{ℕ, ◌≡◌, ◌≤◌, ◌*◌, true, List, ◌++◌}
use Rattle.chorus_lossy.specs.Line.{Ends, Event, new_ends, after, window_count}
use Rattle.chorus_lossy.specs.Rounds.{is_done, after_rounds}

-- All was delivered after some rounds, at most four for each window, since each fourth one loses nothing; and this is
-- what was counted, and what became of the ends.
pub record IsCarried (first : ℕ) (bytes : List ℕ) (counted lost : ℕ) (e : Ends) : Type 0 where
  pub rounds : ℕ
  pub soon : rounds ≤ 4 * window_count bytes
  pub done : is_done bytes (after_rounds first bytes rounds) ≡ true
  pub emissions : counted ≡ (after_rounds first bytes rounds).emitted
  pub losses : lost ≡ (after_rounds first bytes rounds).lost
  pub ends : e ≡ (after_rounds first bytes rounds).ends

-- the ends stand after a first part of what happens in the run
pub record IsWithin (first : ℕ) (bytes : List ℕ) (e : Ends) : Type 0 where
  pub rounds : ℕ
  pub later : List Event
  pub past : List Event
  pub split : (after_rounds first bytes rounds).events ≡ later ++ past
  pub ends : e ≡ after past new_ends
