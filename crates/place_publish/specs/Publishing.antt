-- What is published of the place of a number, of a layout l.
-- journal are the place's entries, the oldest first.
use Rattle.std.specs.Prelude.{ℕ, ◌≡◌, ◌<◌, ◌≤◌, ◌-◌, List, length, take, reverse, slice_get, Some, None}
use mathlib.Core.List.{IsPrefix}
use Rattle.chorus_ui.specs.declared.layout.Layout.{Layout}
use Rattle.chorus_entry.specs.declared.entry.Entry.{Entry}
use Rattle.chorus_board.specs.declared.board.Board.{Board}
use Rattle.chorus_board.specs.Boards.{layout_of, place_of, entries_published, entries_begun}
use Rattle.place_publish.specs.Lessons.{lesson}

-- the entries with these numbers, counted from 0, teach nothing: from `first` on, before `end`
abbrev pub TeachNothing : Layout → List Entry → ℕ → ℕ → Type 0
TeachNothing l journal first end =
    (i : ℕ) (e : Entry) → slice_get journal i ≡ Some e → first ≤ i → i < end →
    lesson l (reverse (take i journal)) e ≡ None

-- it is the board of that place; what is published is a beginning of the journal, and so is what was begun; of the
-- entries that were begun and are not published, none but the last teaches anything
pub record IsBoardAt (l : Layout) (number : ℕ) (journal : List Entry) (board : Board) : Type 0 where
  pub layout : layout_of board ≡ l
  pub of_place : place_of board ≡ number
  pub published : IsPrefix (entries_published board) journal
  pub begun : IsPrefix (entries_begun board) journal
  pub silent : TeachNothing l journal (length (entries_published board)) (length (entries_begun board) - 1)

-- the entries from what is published up to the index teach nothing
pub record IsUpTo (l : Layout) (number : ℕ) (journal : List Entry) (index : ℕ) (board : Board) : Type 0 where
  pub is : IsBoardAt l number journal board
  pub low : length (entries_published board) ≤ index
  pub high : index ≤ length journal
  pub silent : TeachNothing l journal (length (entries_published board)) index
