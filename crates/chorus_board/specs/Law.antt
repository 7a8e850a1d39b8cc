-- The rule of the history, and what its steps tell.
-- cells are those of its book; log are its stages, the oldest first.
use Rattle.std.specs.Prelude.{ℕ, ◌≡◌, ◌<◌, true, List, [], ◌∷◌, ◌++◌, length}
use mathlib.Core.List.{IsPrefix}
use Rattle.logbook.specs.Pages.{Cell, cell, Step, View, Book, Named, Nib, nib, may_make, may_write}
use Rattle.chorus_entry.specs.declared.entry.Entry.{Entry}
use Rattle.chorus_board.specs.declared.history.Stage.{Stage}

-- it stands for no entries
abbrev pub no_stage : Stage
no_stage = record { entries = []; next = 0 }

abbrev pub last_stage : List Stage → Stage
last_stage [] = no_stage
last_stage (s ∷ []) = s
last_stage (s ∷ t ∷ log) = last_stage (t ∷ log)

-- the entries for which the last stage stands
abbrev pub entries_in : List Stage → List Entry
entries_in log = (last_stage log).entries

-- The pen that may put a stage behind these: it writes the cell that the last one names, which is not at home.
abbrev pub pen_of : List Stage → Nib
pen_of log = nib may_write (last_stage log).next 1

-- it is of the book, and is that pen
abbrev pub IsAuthor : Book → Nib → Book → List Stage → Type 0
IsAuthor of pen book log = (of ≡ book) × (pen ≡ pen_of log)

abbrev pub IsHome : List Cell → ℕ → Type 0
IsHome cells k = (k < length cells) × ((cell cells k).1 ≡ true)

-- of each stage but the last the pen is spent, and the next stage begins with its entries
abbrev pub AreFollowed : List Cell → List Stage → Type 0
AreFollowed cells [] = Unit {0}
AreFollowed cells (s ∷ []) = Unit {0}
AreFollowed cells (s ∷ t ∷ log) =
    IsHome cells s.next × IsPrefix s.entries t.entries × AreFollowed cells (t ∷ log)

-- So who has the pen of the last stage that it saw has seen the whole history. While the word is 0, which is the first
-- cell, no cell was added to the two of a new book.
pub record IsKept (cells : List Cell) (log : List Stage) : Type 0 where
  pub word : IsHome cells 0
  pub none_added : (cell cells 0).0 ≡ 0 → length cells ≡ 2
  pub followed : AreFollowed cells log

-- a new history stands for no entries, and names the cell that is added next
abbrev pub opening : List Stage
opening = record { entries = []; next = 2 } ∷ []

abbrev pub head_of : Book → Named
head_of book = record { tracked = true; key = 0; book = book }

-- a cell was added, and the pen may make its word; it is the first that was added, where 0 was found
abbrev pub claims : Step Stage → View Stage ℕ → ℕ → View Stage ℕ → Type 0
claims step before found after = (after.1.0.right ≡ may_make) × (found ≡ 0 → after.1.0.key ≡ 2)

-- what had been seen was the whole history, and the stage that was asked for stands behind it
abbrev pub extends : Step Stage → View Stage ℕ → ℕ → View Stage ℕ → Type 0
extends step before found after = after.0 ≡ before.0 ++ step.ask ∷ []

-- the pen stays, and the stages whose pen it is are the whole history
abbrev pub confirms : Step Stage → View Stage ℕ → ℕ → View Stage ℕ → Type 0
confirms step before found after =
    (after.1.0 ≡ before.1.0) × ((log : List Stage) → IsPrefix log before.0 → before.1.0 ≡ pen_of log → after.0 ≡ log)
