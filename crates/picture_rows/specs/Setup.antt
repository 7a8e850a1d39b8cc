-- Setup: what stands at the front of a journal for the lines of a scenario's setup, drawn as one block.
use Rattle.std.specs.Prelude.{ℕ, ◌+◌, ◌==◌, ◌&&◌, Bool, true, false, if◌then◌else◌, List, [], ◌∷◌}
use Rattle.chorus_entry.specs.declared.entry.Entry.{Entry}
use Rattle.chorus_entry.specs.declared.act.Act.{Act}
use Rattle.chorus_entry.specs.declared.act.Act.TheVariants.{Make, GroupMake, Join}

abbrev pub sets_up : Act → Bool
sets_up (Make q a c) = true
sets_up (GroupMake g) = true
sets_up (Join g q) = true
sets_up _ = false

-- no caller makes the port or the group, or lets the port join
abbrev pub is_setup : Entry → Bool
is_setup e = (e.seat == 0) && sets_up e.act

-- how many of the entries, from the first one on, are of the setup
abbrev pub setup_rows : List Entry → ℕ
setup_rows [] = 0
setup_rows (e ∷ es) = if is_setup e then setup_rows es + 1 else 0
