-- Rules: the number of the rule that refuses an entry.
use Rattle.std.specs.Prelude.{ℕ, cond, List}
use Rattle.chorus_ui.specs.declared.layout.Layout.{Layout}
use Rattle.chorus_entry.specs.declared.entry.Entry.{Entry}
use Rattle.chorus_entry.specs.declared.act.Act.{Act}
use Rattle.chorus_entry.specs.declared.act.Act.TheVariants.{Make, MakeFull, NoActor, NoSite, Post, Accept, Full, Already, ClientsFull, Stale, Early, NoPort, Elsewhere, NoMember, Choose, Try, Told, Heard, Take, Done, Late, Empty, NotHere, Rehome, Depart, Arrive, GroupMake, GroupsFull, Join, Leave, NoGroup, There, NotThere, MembersFull, Outstanding, NoCall, NoRequest, Cancel, Delete, Gone}
use Rattle.chorus_world.specs.Views.{views}
use Rattle.chorus_world.specs.Steps.{is_timely}

-- the acts are numbered in the order of their type
abbrev pub act_number : Act → ℕ
act_number (Make q a c) = 1
act_number (MakeFull a) = 2
act_number (NoActor a) = 3
act_number (NoSite n) = 4
act_number (Post m d) = 5
act_number (Accept x q n) = 6
act_number (Full x q n) = 7
act_number (Already x q) = 8
act_number (ClientsFull x q) = 9
act_number (Stale x q tried to hop) = 10
act_number (Early x q hop) = 11
act_number (NoPort x q) = 12
act_number (Elsewhere x q to hop) = 13
act_number (NoMember x g) = 14
act_number (Choose x g qs) = 15
act_number (Try x q to hop) = 16
act_number (Told x a) = 17
act_number (Heard x a) = 18
act_number (Take q n x) = 19
act_number (Done n) = 20
act_number (Late n) = 21
act_number (Empty q) = 22
act_number (NotHere q) = 23
act_number (Rehome q a) = 24
act_number (Depart q to a hop) = 25
act_number (Arrive q hop) = 26
act_number (GroupMake g) = 27
act_number (GroupsFull n) = 28
act_number (Join g q) = 29
act_number (Leave g q) = 30
act_number (NoGroup g) = 31
act_number (There g q) = 32
act_number (NotThere g q) = 33
act_number (MembersFull g) = 34
act_number (Outstanding n) = 35
act_number NoCall = 36
act_number NoRequest = 37
act_number (Cancel n) = 38
act_number (Delete q xs) = 39
act_number (Gone x q) = 40

-- 0 where the place or the clock is wrong, else the number of the act
abbrev pub rule_of : Layout → List Entry → Entry → ℕ
rule_of l past e = cond (is_timely l (views past e.place e.seat e.act) e) (act_number e.act) 0
