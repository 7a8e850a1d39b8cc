-- The bars that are left by the tables are those that the past says.
use Rattle.std.proofs.Common.{◌≡◌, ℕ, List}
use Rattle.std.specs.List.{flat_map}
use Rattle.chorus_entry.specs.declared.entry.Entry.{Entry}
use Rattle.law_picture.specs.Bars.{bar}
use Rattle.picture_rows.specs.Columns.{ColumnShape}
use Rattle.picture_rows.specs.declared.tables.Tables.{Tables}
use Rattle.picture_rows.specs.Tables.{AreTables, bar_of}
use Rattle.picture_rows.proofs.Kept.{bars_are}
use Rattle.chorus_picture.specs.Sheet.{bars_left}

pub left_is : (cs : List ColumnShape) (t : Tables) (past : List Entry) (y : ℕ) → AreTables t past
    → flat_map (bars_left (bar_of t.bars) y) cs ≡ flat_map (bars_left (λ q. bar q past) y) cs
left_is cs t past y h = λ i. flat_map (bars_left (bars_are t past h i) y) cs
