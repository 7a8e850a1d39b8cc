-- Locations: where the table has each port, and what an entry teaches its place.
use Rattle.std.specs.Prelude.{ℕ, ◌≡◌, ◌==◌, cond, List, Option, Some, None, unwrap_or}
use Rattle.std.specs.HashMap.{HashMap, get}
use Rattle.chorus_ui.specs.declared.ui.Ui.{Ui}
use Rattle.chorus_ui.specs.declared.layout.Layout.{Layout}
use Rattle.chorus_ui.specs.Name.{same_ui}
use Rattle.chorus_entry.specs.declared.entry.Entry.{Entry}
use Rattle.chorus_entry.specs.declared.act.Act.{Act}
use Rattle.chorus_entry.specs.declared.act.Act.TheVariants.{Told, Depart, Arrive}
use Rattle.chorus_world.specs.declared.place.Sent.{Sent}
use Rattle.chorus_world.specs.declared.place.Location.{Location}
use Rattle.chorus_world.specs.Views.{at}
use Rattle.chorus_world.specs.Places.{taught, farther, named_location, located}
use Rattle.checker_rows.specs.Keys.{same_name_at}
use Rattle.checker_rows.specs.declared.keys.NameAt.{NameAt}
use Rattle.checker_rows.specs.declared.locations.Lesson.{Lesson}

abbrev pub location_in : {S : Type 0} → Layout → HashMap NameAt Location S → NameAt → Location
location_in l t k = unwrap_or (get same_name_at t k) (named_location l k.name)

abbrev pub location_row : Layout → List Entry → NameAt → Location
location_row l past k = located l k.name (at k.place past)

abbrev pub taught_of : Ui → Option Location → Option Lesson
taught_of q None = None
taught_of q (Some at) = Some (record { port = q; location = at })

abbrev pub told_lesson : Option Location → Option Sent → Option Lesson
told_lesson t None = None
told_lesson t (Some m) = taught_of m.port t

-- what an act at the place p teaches, where its message was sent from there as s
abbrev pub lesson : ℕ → Option Sent → Act → Option Lesson
lesson p s (Arrive q hop) = Some (record { port = q; location = record { to = p; hop = hop } })
lesson p s (Depart q to a hop) = Some (record { port = q; location = record { to = to; hop = hop } })
lesson p s (Told x a) = told_lesson (taught a) s
lesson p s _ = None

-- what it teaches of the port q
abbrev pub of_port : Ui → Option Lesson → Option Location
of_port q None = None
of_port q (Some t) = cond (same_ui t.port q) (Some t.location) None

abbrev pub location_after : NameAt → Entry → Option Sent → Location → Location
location_after k e s at = cond (e.place == k.place) (farther at (of_port k.name (lesson e.place s e.act))) at

-- the locations after an entry whose message was sent from its place as s
abbrev pub LocationsAfter : Entry → Option Sent → (NameAt → Location) → (NameAt → Location) → Type 0
LocationsAfter e s old new = (k : NameAt) → new k ≡ location_after k e s (old k)
