-- The law between the merge of journals and the world: the merge is the past sorted by clock and place, the oldest
-- entry first (a linearization of happens-before). A past has its newest entry first, a journal its oldest.
use Rattle.std.specs.Prelude.{ℕ, ◌≡◌, List, reverse}
use Rattle.std.specs.List.{All, filter}
use Rattle.chorus_entry.specs.declared.entry.Entry.{Entry}
use Rattle.chorus_entry.specs.Order.{is_at}
use Rattle.chorus_world.specs.Views.{at}
use Rattle.chorus_world.specs.Order.{sort}
use Rattle.chorus_merge.specs.Merge.{all_entries, merged}
use Rattle.chorus_merge.specs.Order.{ClocksRise}
use Rattle.chorus_merge.specs.Laws.{AreOfPlaces}

-- the journals, one for each place from 1 on, in which clocks rise, have at each place what the past has there
pub record AreJournalsOf (past : List Entry) (journals : List (List Entry)) : Type 0 where
  pub places : AreOfPlaces 1 journals
  pub rise : All ClocksRise journals
  pub entries : (p : ℕ) → filter (is_at p) (all_entries journals) ≡ reverse (at p past)

-- then their merge is the sorted past
abbrev pub MergesAsSorted : Type 0
MergesAsSorted =
    (past : List Entry) (journals : List (List Entry)) → AreJournalsOf past journals →
    merged journals ≡ reverse (sort past)
