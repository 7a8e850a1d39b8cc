-- Shapes: what stands in a picture for an entry, for a packet and for a port.
-- cs are the columns, c is a column, row is the number of an entry's row and y its middle, e an entry, q a port, b its
-- bar, r is where a packet comes from.
use Rattle.std.specs.Prelude.{ℕ, ◌+◌, ◌-◌, ◌==◌, nat_lt, Bool, true, false, ◌&&◌, not, if◌then◌else◌, List, [], ◌∷◌, ◌++◌, length, codes, decimal, Option, Some, None}
use Rattle.chorus_ui.specs.declared.ui.Ui.{Ui}
use Rattle.chorus_ui.specs.Text.{name_text}
use Rattle.chorus_entry.specs.declared.entry.Entry.{Entry}
use Rattle.chorus_entry.specs.declared.act.Act.{Act}
use Rattle.chorus_entry.specs.declared.act.Act.TheVariants.{Make, Accept, Take, Arrive}
use Rattle.chorus_entry.specs.Act.{held_port_of}
use Rattle.chorus_show.specs.Phrases.{phrase}
use Rattle.chorus_show.specs.Lines.{act_text}
use Rattle.law_picture.specs.declared.row.Row.{Row}
use Rattle.law_picture.specs.declared.row.PacketKind.{PacketKind}
use Rattle.law_picture.specs.declared.bar.Bar.{Bar}
use Rattle.law_picture.specs.Causes.{caused_by, packet_of}
use Rattle.law_picture.specs.Bars.{bar, waits_after, waits_in}
use Rattle.picture_rows.specs.declared.mark.Mark.{Mark}
use Rattle.picture_texts.specs.Filling.{filled, markup, shown_act}
use Rattle.picture_rows.specs.Columns.{ColumnShape, column_at, lane_of, right_of, right_edge, x_of}
use Rattle.picture_rows.specs.Rows.{row_y}
use Rattle.picture_rows.specs.Marks.{mark_of, mark_name, packet_name}
use Rattle.picture_rows.specs.Setup.{is_setup}
use Rattle.picture_rows.specs.Bodies.{note}

-- A thin line above a row whose clock is not that of the row before it, but for the setup, which is one block.

abbrev pub clock_before : List Entry → Option ℕ
clock_before [] = None
clock_before (e ∷ past) = Some e.clock

abbrev pub is_new_clock : Option ℕ → ℕ → Bool
is_new_clock None clock = false
is_new_clock (Some last) clock = not (last == clock)

unfoldable pub tick : List ColumnShape → ℕ → Bool → List ℕ
tick cs y b =
    if b then filled (codes "<path class='tick' d='M8 @H@'/>\n") ((y - 9) ∷ (right_edge cs + 652) ∷ []) else []

-- The bar of a port, from the last entry on its line down to y.

unfoldable pub bar_class : ℕ → List ℕ
bar_class waits = if waits == 0 then codes "idle" else codes "waits"

unfoldable pub bar_down : ℕ → ℕ → ℕ → ℕ → List ℕ
bar_down waits lane top height =
    filled (codes ", @</title><rect x='@' y='@' width='12' height='@'/></g>\n") (waits ∷ lane ∷ top ∷ height ∷ [])

unfoldable pub bar_in : Ui → Bar → ℕ → ColumnShape → List ℕ
bar_in q b y c =
    codes "<g class='" ++ bar_class b.waits ++ codes "'><title>" ++ name_text q
    ++ bar_down b.waits (lane_of q c) (row_y b.row.number) (y - row_y b.row.number)

abbrev pub bar_at : Ui → Bar → ℕ → Option ColumnShape → List ℕ
bar_at q b y None = []
bar_at q b y (Some c) = bar_in q b y c

-- where the port is held
abbrev pub bar_held : List ColumnShape → Ui → ℕ → Option Bar → List ℕ
bar_held cs q y None = []
bar_held cs q y (Some b) = if b.held then bar_at q b y (column_at b.row.place cs) else []

-- an entry on the line of a port ends its bar, and may begin the next one
abbrev pub bar_above : List ColumnShape → (Ui → Option Bar) → ℕ → Option Ui → List ℕ
bar_above cs bars y None = []
bar_above cs bars y (Some q) = bar_held cs q y (bars q)

-- How many messages wait in a port, in its bar, where an entry begins it or changes their number.

abbrev pub changes_count : Act → Bool
changes_count (Make q a c) = true
changes_count (Accept x q n) = true
changes_count (Take q n x) = true
changes_count (Arrive q hop) = true
changes_count _ = false

unfoldable pub count_at : ℕ → ℕ → ℕ → List ℕ
count_at x y waits = filled (codes "<text class='count' x='@' y='@'>@</text>\n") (x ∷ y ∷ waits ∷ [])

abbrev pub count_in : Ui → ℕ → ℕ → Option ColumnShape → List ℕ
count_in q y waits None = []
count_in q y waits (Some c) = count_at (lane_of q c + 6) (y + 13) waits

-- by the bar before the entry
abbrev pub count_by : List ColumnShape → ℕ → Entry → Option Ui → Option Bar → List ℕ
count_by cs y e None b = []
count_by cs y e (Some q) b =
    if changes_count e.act then count_in q y (waits_after e.act (waits_in b)) (column_at e.place cs) else []

abbrev pub count : List ColumnShape → (Ui → Option Bar) → ℕ → Entry → Option Ui → List ℕ
count cs bars y e None = []
count cs bars y e (Some q) = count_by cs y e (Some q) (bars q)

-- An arrow, from the side of the mark of the entry that put the packet, over to the column of the one that works it
-- off, and down to that one's mark. It goes to the right where its place is a later one.

abbrev pub start_x : Bool → ℕ → ℕ
start_x rightward x = if rightward then x + 6 else x - 6

abbrev pub turn_x : Bool → ColumnShape → ℕ
turn_x rightward c = if rightward then c.x - 46 else right_of c + 6

abbrev pub stop_x : Bool → ColumnShape → ℕ
stop_x rightward c = if rightward then c.x - 7 else c.x + 7

unfoldable pub points : ℕ → ℕ → ℕ → ℕ → ℕ → List ℕ
points start top turn stop y = filled (codes "' d='M@ @H@L@ @'><title>") (start ∷ top ∷ turn ∷ stop ∷ y ∷ [])

unfoldable pub ends : ℕ → ℕ → List ℕ
ends from to = filled (codes ", line @ to line @</title></path>\n") (from ∷ to ∷ [])

unfoldable pub arrow_along : PacketKind → ℕ → ℕ → ℕ → ℕ → ℕ → ℕ → ℕ → List ℕ
arrow_along kind start top turn stop y from to =
    codes "<path class='" ++ packet_name kind ++ points start top turn stop y ++ packet_name kind ++ ends from to

-- entries stand from line 2 of a journal on
abbrev pub arrow_to : PacketKind → Bool → ℕ → Row → ℕ → Option ColumnShape → List ℕ
arrow_to kind rightward x r row None = []
arrow_to kind rightward x r row (Some c) =
    arrow_along kind (start_x rightward x) (row_y r.number) (turn_x rightward c) (stop_x rightward c) (row_y row)
    (r.number + 2) (row + 2)

abbrev pub arrow : List ColumnShape → ℕ → Entry → Option Row → List ℕ
arrow cs row e None = []
arrow cs row e (Some r) =
    arrow_to (packet_of e.act) (nat_lt r.place e.place) (x_of (column_at r.place cs)) r row (column_at e.place cs)

-- An entry: its line as a title, its mark, its clock, its caller and its act, with a note behind that.

-- without LF
abbrev pub line_text : Entry → List ℕ
line_text e = phrase (decimal e.clock) (decimal e.place ∷ decimal e.seat ∷ act_text e.act ∷ [])

unfoldable pub spot : ℕ → ℕ → List ℕ
spot x y = filled (codes "' x='@' y='@'/>") (x ∷ y ∷ [])

unfoldable pub mark_at : List ℕ → ℕ → ℕ → List ℕ
mark_at name x y = codes "<use href='#" ++ name ++ spot x y

unfoldable pub texts_front : ℕ → ℕ → ℕ → ℕ → List ℕ
texts_front right y clock seat =
    filled (codes "<text x='8' y='@'>@</text><text x='@' y='@'>@</text><text class='act' x='@' y='@'>")
    (y ∷ clock ∷ (right + 12) ∷ y ∷ seat ∷ (right + 72) ∷ y ∷ [])

unfoldable pub texts_at : ℕ → ℕ → Entry → List ℕ → List ℕ
texts_at right y e note =
    texts_front right y e.clock e.seat ++ shown_act (act_text e.act) ++ note ++ codes "</text></g>\n"

unfoldable pub entry_in : Mark → ℕ → ℕ → ℕ → Entry → List ℕ → List ℕ
entry_in m right x y e note =
    codes "<g class='" ++ mark_name m ++ codes "'><title>" ++ markup (line_text e) ++ codes "</title>"
    ++ mark_at (mark_name m) x y ++ texts_at right (y + 4) e note

abbrev pub entry_at : List ColumnShape → ℕ → Entry → Option Row → List ℕ → List ℕ
entry_at cs row e cause note =
    entry_in (mark_of cause e.act) (right_edge cs) (x_of (column_at e.place cs)) (row_y row) e note

-- What stands for an entry behind so many others, of which the last one has this clock, with these bars, by what caused
-- it. The ground of all rows comes first, then come all arrows, and then the marks, which no arrow covers.

abbrev pub ground_with : List ColumnShape → (Ui → Option Bar) → ℕ → Option ℕ → Entry → List ℕ
ground_with cs bars row last e =
    tick cs (row_y row) (is_new_clock last e.clock && not (is_setup e)) ++ bar_above cs bars (row_y row) (held_port_of e.act)

abbrev pub marks_with : List ColumnShape → (Ui → Option Bar) → ℕ → Entry → Option Row → List ℕ → List ℕ
marks_with cs bars row e cause note =
    entry_at cs row e cause note ++ count cs bars (row_y row) e (held_port_of e.act)

-- for an entry behind these

abbrev pub ground_text : List ColumnShape → List Entry → Entry → List ℕ
ground_text cs past e = ground_with cs (λ q. bar q past) (length past) (clock_before past) e

abbrev pub arrow_text : List ColumnShape → List Entry → Entry → List ℕ
arrow_text cs past e = arrow cs (length past) e (caused_by past e)

abbrev pub marks_text : List ColumnShape → List Entry → Entry → List ℕ
marks_text cs past e = marks_with cs (λ q. bar q past) (length past) e (caused_by past e) (note (e ∷ past) e.act)

-- and for each of the entries behind these
abbrev pub each_row : (List Entry → Entry → List ℕ) → List Entry → List Entry → List ℕ
each_row part past [] = []
each_row part past (e ∷ es) = part past e ++ each_row part (e ∷ past) es
