-- What a clause says of a board and of its readers.
use Rattle.std.specs.Prelude.{ℕ, ◌≡◌, List, [], length, None, IsTrue}
use mathlib.Core.List.{IsPrefix}
use Rattle.logbook.specs.Pages.{Book}
use Rattle.chorus_ui.specs.declared.ui.Ui.{Ui}
use Rattle.chorus_ui.specs.declared.kind.Kind.TheVariants.{Port}
use Rattle.chorus_ui.specs.declared.layout.Layout.{Layout}
use Rattle.chorus_ui.specs.Layout.{can_make_port}
use Rattle.chorus_entry.specs.declared.entry.Entry.{Entry}
use Rattle.chorus_world.specs.Places.{farther}
use Rattle.chorus_board.specs.declared.table.Table.{Table}
use Rattle.chorus_board.specs.declared.reader.BoardReader.{BoardReader}
use Rattle.chorus_board.specs.declared.reader.Located.{Located}
use Rattle.chorus_board.specs.declared.board.Board.{Board}
use Rattle.chorus_board.specs.declared.name.BoardName.{BoardName}
use Rattle.chorus_board.specs.Law.{entries_in}
use Rattle.chorus_board.specs.Located.{located_after, last_clock_in, told_of, IsOfPlace, IsPortIn}
use Rattle.chorus_board.specs.Table.{stands_for}

-- the place and the hop of an answer
abbrev pub pair_told : Located → ℕ × ℕ
pair_told answer = (answer.place, answer.hop)

-- the entries for which the table stands that the reader saw last
abbrev pub entries_seen : BoardReader → List Entry
entries_seen reader = stands_for reader.kept

-- the clock of the last of them
abbrev pub clock_seen : BoardReader → ℕ
clock_seen reader = last_clock_in (entries_seen reader)

abbrev pub layout_read : BoardReader → Layout
layout_read reader = reader.kept.hints.layout

abbrev pub place_read : BoardReader → ℕ
place_read reader = reader.kept.place

-- which board it reads
abbrev pub book_read : BoardReader → Book
book_read reader = reader.kept.seen.book

-- it was given no handle
abbrev pub IsWithoutHandle : BoardReader → Type 0
IsWithoutHandle reader = reader.handle ≡ None

-- it has a handle if it had one
abbrev pub KeepsHandle : BoardReader → BoardReader → Type 0
KeepsHandle old new = IsWithoutHandle new → IsWithoutHandle old

-- it has the handle that it had, or still none
abbrev pub HasSameHandle : BoardReader → BoardReader → Type 0
HasSameHandle old new = new.handle ≡ old.handle

abbrev pub IsSameReader : BoardReader → BoardReader → Type 0
IsSameReader old new =
    (book_read new ≡ book_read old) × (layout_read new ≡ layout_read old) × (place_read new ≡ place_read old)

-- a reader of the same board, with all that it had seen and more perhaps; without a handle it stays as it was
pub record ReadsOn (old new : BoardReader) : Type 0 where
  pub reader : IsSameReader old new
  pub begins : IsPrefix (entries_seen old) (entries_seen new)
  pub unread : IsWithoutHandle old → new ≡ old
  pub keeps : KeepsHandle old new

-- what readers read now
abbrev pub shown : Board → Table
shown board = board.writer.desk.shown.value

-- the entries for which the last publish stands
abbrev pub entries_published : Board → List Entry
entries_published board = stands_for (shown board)

-- the same, of the last publish that was begun
abbrev pub entries_begun : Board → List Entry
entries_begun board = entries_in board.front.log

abbrev pub layout_of : Board → Layout
layout_of board = (shown board).hints.layout

-- the place whose entries it tells
abbrev pub place_of : Board → ℕ
place_of board = (shown board).place

-- which board it is
abbrev pub book_of : Board → Book
book_of board = board.front.book

-- the same as the numbers that a type of Rust can hold
abbrev pub name_of_book : Book → BoardName
name_of_book b = record { number = b.number; log_name = b.log_name; cells_name = b.cells_name }

abbrev pub book_of_name : BoardName → Book
book_of_name n = record { number = n.number; log_name = n.log_name; cells_name = n.cells_name }

abbrev pub name_of : Board → BoardName
name_of board = name_of_book (book_of board)

abbrev pub name_read : BoardReader → BoardName
name_read reader = name_of_book (book_read reader)

abbrev pub IsSameBoard : Board → Board → Type 0
IsSameBoard old new = (book_of new ≡ book_of old) × (layout_of new ≡ layout_of old) × (place_of new ≡ place_of old)

abbrev pub IsReaderOf : Board → BoardReader → Type 0
IsReaderOf board reader = (book_read reader ≡ book_of board) × (layout_read reader ≡ layout_of board)
    × (place_read reader ≡ place_of board)

-- where each port was located after what was published, or by this location where that is farther, is where it is
-- located after these entries
abbrev pub LocatesAfter : Board → Ui → ℕ → ℕ → List Entry → Type 0
LocatesAfter board ui place hop entries = (q : Ui) → IsPortIn (layout_of board) q →
    farther (located_after (layout_of board) (entries_published board) q) (told_of q ui place hop)
    ≡ located_after (layout_of board) entries q

-- a publish of the port, with `number` entries: these, of the board's place, which begin with those of the publish begun
-- before, of which the last has this clock, and after which each port is located where the board then has it
pub record MayPublish (board : Board) (ui : Ui) (to hop number clock : ℕ) (entries : List Entry) : Type 0 where
  pub port : ui.kind ≡ Port
  pub in_layout : IsTrue (can_make_port (layout_of board) ui)
  pub longer : IsPrefix (entries_begun board) entries
  pub count : number ≡ length entries
  pub last : clock ≡ last_clock_in entries
  pub of_place : IsOfPlace (place_of board) entries
  pub located : LocatesAfter board ui to hop entries

-- it is of this layout and place, and nothing was published or begun
abbrev pub IsNewBoard : Layout → ℕ → Board → Type 0
IsNewBoard layout place board = (layout_of board ≡ layout) × (place_of board ≡ place) × (entries_published board ≡ [])
    × (entries_begun board ≡ [])

-- it is a reader of that board, which has this layout and is of this place, and it has seen nothing
abbrev pub IsNewIn : Book → Layout → ℕ → BoardReader → Type 0
IsNewIn book layout place reader =
    (book_read reader ≡ book) × (layout_read reader ≡ layout) × (place_read reader ≡ place)
    × (entries_seen reader ≡ [])
