-- Columns: one for each place that has an entry, with a lane for each port that came to be held there. A column has its
-- line at x, its gutter to the left of it, its lanes to the right.
-- p is a place, q a port, es are entries, the oldest first, c is a column, cs are the columns of a picture.
use Rattle.std.specs.Prelude.{ℕ, zero, suc, ◌+◌, ◌*◌, ◌==◌, Bool, if◌then◌else◌, List, [], ◌∷◌, ◌++◌, length, Option, Some, None}
use Rattle.std.specs.List.{list_any}
use Rattle.chorus_ui.specs.declared.ui.Ui.{Ui}
use Rattle.chorus_ui.specs.declared.layout.Layout.{Layout}
use Rattle.chorus_ui.specs.Layout.{places}
use Rattle.chorus_entry.specs.declared.entry.Entry.{Entry}
use Rattle.chorus_entry.specs.declared.act.Act.{Act}
use Rattle.chorus_entry.specs.declared.act.Act.TheVariants.{Make, Arrive}
use Rattle.chorus_entry.specs.Members.{index_of, is_member}
use Rattle.chorus_entry.specs.Order.{is_at}

pub record ColumnShape : Type 0 where
  pub place : ℕ
  pub x : ℕ
  pub ports : List Ui

-- the port that comes to be held by an act
abbrev pub port_brought : Act → Option Ui
port_brought (Make q a c) = Some q
port_brought (Arrive q hop) = Some q
port_brought _ = None

abbrev pub with_port : Option Ui → List Ui → List Ui
with_port None qs = qs
with_port (Some q) qs = if is_member q qs then qs else qs ++ q ∷ []

-- the ports of a column, each once, in the order in which they came: these, and those that the entries bring to the
-- place
abbrev pub with_ports_at : ℕ → List Ui → List Entry → List Ui
with_ports_at p qs [] = qs
with_ports_at p qs (e ∷ es) = with_ports_at p (if e.place == p then with_port (port_brought e.act) qs else qs) es

abbrev pub has_entry : ℕ → List Entry → Bool
has_entry p es = list_any (is_at p) es

-- where a column ends and the next one begins
abbrev pub right_of : ColumnShape → ℕ
right_of c = c.x + 24 + 14 * length c.ports

abbrev pub column_from : ℕ → ℕ → List Entry → ColumnShape
column_from left p es = record { place = p; x = left + 64; ports = with_ports_at p [] es }

-- the columns of so many places from p on, from the left edge on
abbrev pub columns_from : ℕ → ℕ → ℕ → List Entry → List ColumnShape
columns_from zero p left es = []
columns_from (suc n) p left es =
    if has_entry p es
    then column_from left p es ∷ columns_from n (p + 1) (right_of (column_from left p es)) es
    else columns_from n (p + 1) left es

abbrev pub columns : Layout → List Entry → List ColumnShape
columns l es = columns_from (places l) 1 64 es

-- the right edge of the columns
abbrev pub right_after : ℕ → List ColumnShape → ℕ
right_after left [] = left
right_after left (c ∷ cs) = right_after (right_of c) cs

abbrev pub right_edge : List ColumnShape → ℕ
right_edge = right_after 64

abbrev pub width : List ColumnShape → ℕ
width cs = right_edge cs + 660

-- the column of a place
abbrev pub column_at : ℕ → List ColumnShape → Option ColumnShape
column_at p [] = None
column_at p (c ∷ cs) = if c.place == p then Some c else column_at p cs

abbrev pub x_of : Option ColumnShape → ℕ
x_of None = 0
x_of (Some c) = c.x

-- where the lane of a port begins
abbrev pub lane_of : Ui → ColumnShape → ℕ
lane_of q c = c.x + 22 + 14 * index_of q c.ports
