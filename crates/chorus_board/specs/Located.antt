-- Where a port is after the entries of one place, the oldest first.
use Rattle.std.specs.Prelude.{◌≡◌, ℕ, if◌then◌else◌, true, Option, Some, None, List, reverse, slice_get}
use Rattle.chorus_ui.specs.declared.ui.Ui.{Ui}
use Rattle.chorus_ui.specs.declared.layout.Layout.{Layout}
use Rattle.chorus_ui.specs.Layout.{names_port}
use Rattle.chorus_ui.specs.Name.{same_ui}
use Rattle.chorus_entry.specs.declared.entry.Entry.{Entry}
use Rattle.chorus_world.specs.declared.place.Location.{Location}
use Rattle.chorus_world.specs.Places.{located, named_location, last_clock}

-- the location of the step relation, which has the newest entry first
unfoldable pub located_after : Layout → List Entry → Ui → Location
located_after layout entries q = located layout q (reverse entries)

-- the same as a board tells it, which keeps those of the ports that the layout can make; another port it has where its
-- name tells, as every run of the world has it
abbrev pub located_on : Layout → List Entry → Ui → Location
located_on layout entries q = if names_port layout q then located_after layout entries q else named_location layout q

-- the clock of the last entry, 0 where there is none
unfoldable pub last_clock_in : List Entry → ℕ
last_clock_in entries = last_clock (reverse entries)

-- the place and the hop
abbrev pub pair_of : Location → ℕ × ℕ
pair_of location = (location.to, location.hop)

-- a port that the layout can make
abbrev pub IsPortIn : Layout → Ui → Type 0
IsPortIn layout q = names_port layout q ≡ true

-- what a publish of the port `ui` tells of the port q
abbrev pub told_of : Ui → Ui → ℕ → ℕ → Option Location
told_of q ui place hop = if same_ui ui q then Some (record { to = place; hop = hop }) else None

-- each entry is of this place
abbrev pub IsOfPlace : ℕ → List Entry → Type 0
IsOfPlace place entries = (i : ℕ) (e : Entry) → slice_get entries i ≡ Some e → e.place ≡ place
