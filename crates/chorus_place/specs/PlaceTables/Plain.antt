-- Acts that change no count of a place.
use Rattle.std.specs.Prelude.{Bool, true, false}
use Rattle.chorus_entry.specs.declared.act.Act.{Act}
use Rattle.chorus_entry.specs.declared.act.Act.TheVariants as acts

-- it makes and deletes no port, and changes no group
abbrev pub is_plain : Act → Bool
is_plain (acts.Make q a n) = false
is_plain (acts.Delete q xs) = false
is_plain (acts.GroupMake g) = false
is_plain (acts.Join g q) = false
is_plain (acts.Leave g q) = false
is_plain (acts.Choose x g qs) = false
is_plain _ = true
