-- Kinds: a name that stands for an actor, a port or a group is one.
use Rattle.std.specs.Prelude.{Bool, true, ◌&&◌}
use Rattle.std.specs.List.{list_all}
use Rattle.chorus_ui.specs.NameKind.{is_actor, is_port, is_group}
use Rattle.chorus_entry.specs.declared.dest.Dest.{Dest}
use Rattle.chorus_entry.specs.declared.dest.Dest.TheVariants as D
use Rattle.chorus_entry.specs.declared.tag.Tag.{Tag}
use Rattle.chorus_entry.specs.declared.tag.Tag.TheVariants.{Plain, Request, Reply}
use Rattle.chorus_entry.specs.declared.act.Act.{Act}
use Rattle.chorus_entry.specs.declared.act.Act.TheVariants.{Make, MakeFull, NoActor, NoSite, Post, Accept, Full, Already, ClientsFull, Stale, Early, NoPort, Elsewhere, NoMember, Choose, Try, Told, Heard, Take, Done, Late, Empty, NotHere, Rehome, Depart, Arrive, GroupMake, GroupsFull, Join, Leave, NoGroup, There, NotThere, MembersFull, Outstanding, NoCall, NoRequest, Cancel, Delete, Gone}

-- each name in the destination is of the kind that it stands for
abbrev pub has_kinds_in_dest : Dest → Bool
has_kinds_in_dest (D.Port q) = is_port q
has_kinds_in_dest (D.All g) = is_group g
has_kinds_in_dest (D.One g) = is_group g
has_kinds_in_dest (D.OneAt g s) = is_group g

-- the same of a tag
abbrev pub has_kinds_in_tag : Tag → Bool
has_kinds_in_tag Plain = true
has_kinds_in_tag (Request n back) = is_port back
has_kinds_in_tag (Reply client n) = true

-- the same of an act
abbrev pub has_kinds : Act → Bool
has_kinds (Make q a n) = is_port q && is_actor a
has_kinds (MakeFull a) = is_actor a
has_kinds (NoActor a) = is_actor a
has_kinds (NoSite s) = true
has_kinds (Post m d) = has_kinds_in_tag m.tag && has_kinds_in_dest d
has_kinds (Accept x q n) = is_port q
has_kinds (Full x q n) = is_port q
has_kinds (Already x q) = is_port q
has_kinds (ClientsFull x q) = is_port q
has_kinds (Stale x q h p n) = is_port q
has_kinds (Early x q n) = is_port q
has_kinds (NoPort x q) = is_port q
has_kinds (Elsewhere x q p n) = is_port q
has_kinds (NoMember x g) = is_group g
has_kinds (Choose x g qs) = is_group g && list_all is_port qs
has_kinds (Try x q p n) = is_port q
has_kinds (Told x r) = true
has_kinds (Heard x r) = true
has_kinds (Take q n x) = is_port q
has_kinds (Done n) = true
has_kinds (Late n) = true
has_kinds (Empty q) = is_port q
has_kinds (NotHere q) = is_port q
has_kinds (Rehome q a) = is_port q && is_actor a
has_kinds (Depart q p a n) = is_port q && is_actor a
has_kinds (Arrive q n) = is_port q
has_kinds (GroupMake g) = is_group g
has_kinds (GroupsFull s) = true
has_kinds (Join g q) = is_group g && is_port q
has_kinds (Leave g q) = is_group g && is_port q
has_kinds (NoGroup g) = is_group g
has_kinds (There g q) = is_group g && is_port q
has_kinds (NotThere g q) = is_group g && is_port q
has_kinds (MembersFull g) = is_group g
has_kinds (Outstanding n) = true
has_kinds NoCall = true
has_kinds NoRequest = true
has_kinds (Cancel n) = true
has_kinds (Delete q xs) = is_port q
has_kinds (Gone x q) = is_port q
