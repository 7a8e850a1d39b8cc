-- The picture of a journal: the bytes of the whole document.
-- l is a layout, es are the entries, the oldest first, cs their columns, n their number.
use Rattle.std.specs.Prelude.{ℕ, ◌≡◌, List, [], ◌++◌, length, reverse}
use Rattle.std.specs.List.{flat_map}
use Rattle.chorus_ui.specs.declared.layout.Layout.{Layout}
use Rattle.chorus_entry.specs.declared.entry.Entry.{Entry}
use Rattle.chorus_show.specs.Bounds.{AreWithin}
use Rattle.chorus_show.specs.Journal.{journal_lines}
use Rattle.chorus_audit.specs.declared.judging.Audit.{Audit}
use Rattle.law_picture.specs.Bars.{bar}
use Rattle.picture_rows.specs.Columns.{ColumnShape, columns}
use Rattle.picture_rows.specs.Rows.{end_y}
use Rattle.picture_rows.specs.Setup.{setup_rows}
use Rattle.picture_rows.specs.Shapes.{arrow_text, each_row, ground_text, marks_text}
use Rattle.chorus_picture.specs.Sheet.{front, bars_left, all_heads}
use Rattle.chorus_picture.specs.Found.{behind_lines, found_text, foot}

-- what lies below the arrows: the ground of each row, and the bars that no entry ends
abbrev pub ground : List ColumnShape → List Entry → ℕ → List ℕ
ground cs es n =
    each_row (ground_text cs) [] es ++ flat_map (bars_left (λ q. bar q (reverse es)) (end_y n)) cs

-- what stands behind the rows
abbrev pub behind_rows : Layout → List ℕ → List Entry → Audit → List ColumnShape → ℕ → List ℕ
behind_rows l text es audit cs n =
    all_heads l cs n ++ found_text text es audit (end_y n) ++ foot (end_y n)

abbrev pub picture_on : Layout → List ℕ → List Entry → Audit → List ColumnShape → ℕ → List ℕ
picture_on l text es audit cs n =
    front cs n (setup_rows es) ++ ground cs es n ++ each_row (arrow_text cs) [] es ++ each_row (marks_text cs) [] es
    ++ behind_rows l text es audit cs n

-- what is drawn of a text, by the entries that it begins with and what an audit finds of it
abbrev pub picture_text : Layout → List ℕ → List Entry → Audit → List ℕ
picture_text l text es audit = picture_on l text es audit (columns l es) (length es)

-- what is known of a text of which an audit read these entries: behind its first line it has their lines
pub record HasLines (text : List ℕ) (es : List Entry) : Type 0 where
  pub within : AreWithin es
  pub more : List ℕ
  pub lines : behind_lines 1 text ≡ journal_lines es ++ more
