-- Apart: the marks of a picture. Each entry has one, in a row and a column of its own place.
-- i and j are numbers of rows, p and r of places, l is a layout, es are the entries, the oldest first.
use Rattle.std.specs.Prelude.{ℕ, ◌≡◌, ◌<◌, ◌≤◌, ◌+◌, true, List, reverse, Some}
use Rattle.std.specs.List.{All}
use Rattle.chorus_ui.specs.declared.layout.Layout.{Layout}
use Rattle.chorus_entry.specs.declared.entry.Entry.{Entry}
use Rattle.chorus_world.specs.Steps.{is_legal}
use Rattle.picture_rows.specs.Columns.{ColumnShape, column_at, columns, right_of}
use Rattle.picture_rows.specs.Rows.{row_y}

-- each row stands below the one before it
abbrev pub RowsGoDown : Type 0
RowsGoDown = (i j : ℕ) → i < j → row_y i + 18 ≤ row_y j

-- each entry of a legal list has the column of its place
abbrev pub HasColumn : List ColumnShape → Entry → Type 0
HasColumn cs e = (c : ColumnShape) × (column_at e.place cs ≡ Some c) × (c.place ≡ e.place)

abbrev pub EntriesHaveColumns : Type 0
EntriesHaveColumns = (l : Layout) (es : List Entry) → is_legal l (reverse es) ≡ true → All (HasColumn (columns l es)) es

-- columns stand by place, and each has its gutter behind the lanes of the one before it
abbrev pub ColumnsStandApart : Type 0
ColumnsStandApart =
    (l : Layout) (es : List Entry) (p r : ℕ) (c d : ColumnShape) → p < r →
    column_at p (columns l es) ≡ Some c → column_at r (columns l es) ≡ Some d → right_of c + 64 ≤ d.x
