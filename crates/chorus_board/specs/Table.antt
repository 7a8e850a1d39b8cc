-- What a table says, and what a publish makes of it.
use Rattle.std.specs.Prelude.{◌≡◌, if◌then◌else◌, List, length}
use Rattle.chorus_ui.specs.declared.ui.Ui.{Ui}
use Rattle.chorus_ui.specs.Layout.{names_port, ports_of}
use Rattle.chorus_entry.specs.declared.entry.Entry.{Entry}
use Rattle.chorus_hints.specs.Known.{Known, newest, known_after}
use Rattle.chorus_board.specs.declared.table.Table.{Table}
use Rattle.chorus_board.specs.declared.table.Publish.{Publish}
use Rattle.chorus_board.specs.Law.{entries_in}
use Rattle.chorus_board.specs.Located.{located_after, last_clock_in, pair_of, IsPortIn, IsOfPlace}

-- what is known after the publish, of a port that the layout can make
abbrev pub told : Known → Publish → Known
told known o =
    if names_port known.layout o.ui then known_after known o.ui o.place o.hop else known

abbrev pub applied_to : Table → Publish → Table
applied_to table o =
    record { hints = told table.hints o; place = table.place; upto = o.upto; clock = o.clock; seen = o.seen }

-- each port that the layout can make stands where it is located after these entries
abbrev pub Exact : Known → List Entry → Type 0
Exact known log = (q : Ui) → IsPortIn known.layout q → newest known q ≡ pair_of (located_after known.layout log q)

-- there is a row for each port that the layout can make
abbrev pub IsRoomy : Known → Type 0
IsRoomy known = length known.pairs ≡ ports_of known.layout

-- both tables are of one board: of one history, layout and place
pub record IsOfOneBoard (t u : Table) : Type 0 where
  pub book : u.seen.book ≡ t.seen.book
  pub layout : u.hints.layout ≡ t.hints.layout
  pub place : u.place ≡ t.place

-- the entries that it has seen
abbrev pub stands_for : Table → List Entry
stands_for table = entries_in table.seen.log

-- the table stands for all that it has seen
abbrev pub Fine : Table → Type 0
Fine table = Exact table.hints (stands_for table) × (table.upto ≡ length (stands_for table)) × IsRoomy table.hints
    × IsOfPlace table.place (stands_for table) × (table.clock ≡ last_clock_in (stands_for table))
