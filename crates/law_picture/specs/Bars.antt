-- Bars: where a port stands in a picture, and how many messages wait in it. A past has its newest entry first.
-- e is an entry, q a port.
use Rattle.std.specs.Prelude.{ℕ, ◌+◌, ◌-◌, Bool, true, false, if◌then◌else◌, List, [], ◌∷◌, Option, Some, None}
use Rattle.chorus_ui.specs.declared.ui.Ui.{Ui}
use Rattle.chorus_entry.specs.declared.entry.Entry.{Entry}
use Rattle.chorus_entry.specs.declared.act.Act.{Act}
use Rattle.chorus_entry.specs.declared.act.Act.TheVariants.{Make, Accept, Take, Depart, Delete}
use Rattle.chorus_world.specs.Views.{is_on}
use Rattle.law_picture.specs.declared.row.Row.{Row}
use Rattle.law_picture.specs.declared.bar.Bar.{Bar}
use Rattle.law_picture.specs.Causes.{row_of}

-- how many messages wait after an act on the line of a port
abbrev pub waits_after : Act → ℕ → ℕ
waits_after (Make q a c) n = 0
waits_after (Accept x q pos) n = n + 1
waits_after (Take q pos x) n = n - 1
waits_after _ n = n

abbrev pub waits_in : Option Bar → ℕ
waits_in None = 0
waits_in (Some b) = b.waits

-- the port is not held after the acts that send it away and that delete it
abbrev pub keeps : Act → Bool
keeps (Depart q to a hop) = false
keeps (Delete q xs) = false
keeps _ = true

abbrev pub bar_after : List Entry → Entry → Option Bar → Bar
bar_after past e old = record { row = row_of past e; waits = waits_after e.act (waits_in old); held = keeps e.act }

-- what the entries on its line say of the port
abbrev pub bar : Ui → List Entry → Option Bar
bar q [] = None
bar q (e ∷ past) = if is_on (Some q) e then Some (bar_after past e (bar q past)) else bar q past

-- where the last of them stands
abbrev pub row_in : Option Bar → Option Row
row_in None = None
row_in (Some b) = Some b.row
