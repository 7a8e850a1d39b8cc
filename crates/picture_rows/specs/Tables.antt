-- Tables: what is kept of the entries that are drawn.
-- x is the id of a message, q a port.
use Rattle.std.specs.Prelude.{ℕ, ◌≡◌, ◌<◌, ◌+◌, ◌&&◌, not, cond, List, [], ◌++◌, length, Option, None, Some}
use Rattle.std.specs.HashMap.{HashMap, get}
use Rattle.chorus_ui.specs.declared.ui.Ui.{Ui}
use Rattle.chorus_entry.specs.declared.entry.Entry.{Entry}
use Rattle.chorus_entry.specs.declared.id.MsgId.{MsgId}
use Rattle.chorus_entry.specs.Act.{held_port_of, message_of}
use Rattle.chorus_entry.specs.MsgId.{same_id}
use Rattle.chorus_entry.specs.declared.act.Act.{Act}
use Rattle.chorus_world.specs.Views.{is_about, is_on}
use Rattle.checker_rows.specs.Keys.{same_port}
use Rattle.checker_rows.specs.declared.keys.PortKey.{PortKey}
use Rattle.law_picture.specs.declared.row.Row.{Row}
use Rattle.law_picture.specs.declared.bar.Bar.{Bar}
use Rattle.law_picture.specs.Causes.{from_elsewhere, latest, port_arrived}
use Rattle.law_picture.specs.Bars.{bar, keeps, row_in, waits_after, waits_in}
use Rattle.picture_rows.specs.declared.limits.TheConstants.{ENTRIES_LIMIT}
use Rattle.picture_rows.specs.Columns.{ColumnShape, column_at, x_of}
use Rattle.picture_rows.specs.Edge.{tick_of}
use Rattle.picture_rows.specs.Marks.{mark_of}
use Rattle.picture_rows.specs.Rows.{row_y}
use Rattle.picture_rows.specs.Setup.{is_setup}
use Rattle.picture_rows.specs.Shapes.{bar_held, clock_before, count_by, entry_in, ground_with, is_new_clock, marks_with}
use Rattle.picture_rows.specs.declared.tables.Before.{Before}
use Rattle.picture_rows.specs.declared.tables.Tables.{Tables}

abbrev pub bar_of : {S : Type 0} → HashMap PortKey Bar S → Ui → Option Bar
bar_of t q = get same_port t (record { port = q })

-- the tables have how many entries there are, the clock of the last one, and what the past says of each message and of
-- each port
pub record AreTables (t : Tables) (past : List Entry) : Type 0 where
  pub number : t.number ≡ length past
  pub clock : t.clock ≡ clock_before past
  pub messages : (x : MsgId) → get same_id t.messages x ≡ latest (is_about (Some x)) past
  pub bars : (q : Ui) → bar_of t.bars q ≡ bar q past

-- What the tables say of what caused an entry.

abbrev pub about_row : (MsgId → Option Row) → Option MsgId → Option Row
about_row rows None = None
about_row rows (Some x) = rows x

abbrev pub last_row : (Ui → Option Bar) → Option Ui → Option Row → Option Row
last_row bars (Some q) about = row_in (bars q)
last_row bars None about = about

abbrev pub cause_in : Tables → Entry → Option Row
cause_in t e =
    from_elsewhere e
    (last_row (bar_of t.bars) (port_arrived e.act) (about_row (get same_id t.messages) (message_of e.act)))

-- and of the port on whose line it stands
abbrev pub bar_before : (Ui → Option Bar) → Option Ui → Option Bar
bar_before bars None = None
bar_before bars (Some q) = bars q

pub record IsBefore (t : Tables) (e : Entry) (b : Before) : Type 0 where
  pub number : b.number ≡ t.number
  pub clock : b.clock ≡ t.clock
  pub cause : b.cause ≡ cause_in t e
  pub bar : b.bar ≡ bar_before (bar_of t.bars) (held_port_of e.act)

-- What an entry, which stands at r, makes of them.

abbrev pub RowsAfter : Entry → Row → (MsgId → Option Row) → (MsgId → Option Row) → Type 0
RowsAfter e r old new = (x : MsgId) → new x ≡ cond (is_about (Some x) e) (Some r) (old x)

abbrev pub bar_next : Row → Act → Option Bar → Bar
bar_next r a old = record { row = r; waits = waits_after a (waits_in old); held = keeps a }

abbrev pub BarsAfter : Entry → Row → (Ui → Option Bar) → (Ui → Option Bar) → Type 0
BarsAfter e r old new = (q : Ui) → new q ≡ cond (is_on (Some q) e) (Some (bar_next r e.act (old q))) (old q)

abbrev pub row_next : Tables → Entry → Row
row_next t e = record { number = t.number; place = e.place; clock = e.clock }

pub record Grows (e : Entry) (s t : Tables) : Type 0 where
  pub number : t.number ≡ s.number + 1
  pub clock : t.clock ≡ Some e.clock
  pub messages : RowsAfter e (row_next s e) (get same_id s.messages) (get same_id t.messages)
  pub bars : BarsAfter e (row_next s e) (bar_of s.bars) (bar_of t.bars)

-- few messages wait in each port
abbrev pub HaveFew : (Ui → Option Bar) → Type 0
HaveFew bars = (q : Ui) → waits_in (bars q) < ENTRIES_LIMIT

-- What stands for an entry by the tables.

abbrev pub ground_by : List ColumnShape → Tables → Entry → List ℕ
ground_by cs t e = ground_with cs (bar_of t.bars) t.number t.clock e

abbrev pub marks_by : List ColumnShape → Tables → Entry → List ℕ → List ℕ
marks_by cs t e note = marks_with cs (bar_of t.bars) t.number e (cause_in t e) note

-- and by what they said before it, left of the right edge

abbrev pub bar_ended : List ColumnShape → ℕ → Option Ui → Option Bar → List ℕ
bar_ended cs y None b = []
bar_ended cs y (Some q) b = bar_held cs q y b

abbrev pub entry_by : ℕ → List ColumnShape → ℕ → Entry → Option Row → List ℕ → List ℕ
entry_by right cs row e cause note =
    entry_in (mark_of cause e.act) right (x_of (column_at e.place cs)) (row_y row) e note

abbrev pub ground_behind : ℕ → List ColumnShape → Before → Entry → List ℕ
ground_behind right cs b e =
    tick_of right (row_y b.number) (is_new_clock b.clock e.clock && not (is_setup e))
    ++ bar_ended cs (row_y b.number) (held_port_of e.act) b.bar

abbrev pub marks_behind : ℕ → List ColumnShape → Before → Entry → List ℕ → List ℕ
marks_behind right cs b e note =
    entry_by right cs b.number e b.cause note ++ count_by cs (row_y b.number) e (held_port_of e.act) b.bar
