-- The rule of what is published, and what reads and publishes tell.
use Rattle.std.specs.Prelude.{ℕ, ◌≡◌, true, false, List}
use mathlib.Core.Option.{some}
use lib.ListN.{get_elem?}
use Rattle.logbook.specs.Pages.{Book}
use Rattle.chorus_ui.specs.declared.layout.Layout.{Layout}
use Rattle.chorus_board.specs.declared.rule.Home.{Home}
use Rattle.chorus_board.specs.declared.table.Table.{Table}
use Rattle.chorus_board.specs.Table.{Fine}

-- knows nothing
abbrev pub stranger : Home
stranger = record { knows = false; number = 0; log_name = 0; cells_name = 0; sites = 0; turns = 0; place = 0 }

abbrev pub book_known : Home → Book
book_known v = record { number = v.number; log_name = v.log_name; cells_name = v.cells_name }

abbrev pub layout_known : Home → Layout
layout_known v = record { sites = v.sites; turns = v.turns }

abbrev pub home_of : Book → Layout → ℕ → Home
home_of b l place = record {
  knows = true;
  number = b.number;
  log_name = b.log_name;
  cells_name = b.cells_name;
  sites = l.sites;
  turns = l.turns;
  place = place;
}

-- the board has this history and this layout, and is of this place
abbrev pub Knows : Home → Table → Type 0
Knows v table = v ≡ home_of table.seen.book table.hints.layout table.place

abbrev pub Kept : Table → List Home → Type 0
Kept table views =
    Fine table × ((seat : ℕ) (v : Home) → get_elem? views seat ≡ some v → v.knows ≡ true → Knows v table)

-- what is read stands for all that it has seen, and it is of the board that was known
abbrev pub sees : Home → Table → Table → Home → Type 0
sees v old new w = (w ≡ v) × Fine new × (v.knows ≡ true → Knows v new)

abbrev pub shows : Home → Table → Table → Home → Type 0
shows v old new w = w ≡ home_of new.seen.book new.hints.layout new.place
