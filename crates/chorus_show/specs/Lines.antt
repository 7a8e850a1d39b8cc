-- The line of an entry: its clock, its place, its seat, and the text of its act.
use Rattle.std.specs.Prelude.{ℕ, List, [], ◌∷◌, ◌++◌, map, codes, decimal}
use Rattle.chorus_ui.specs.Text.{name_text}
use Rattle.chorus_entry.specs.declared.entry.Entry.{Entry}
use Rattle.chorus_entry.specs.declared.dest.Dest.{Dest}
use Rattle.chorus_entry.specs.declared.dest.Dest.TheVariants as D
use Rattle.chorus_entry.specs.declared.tag.Tag.{Tag}
use Rattle.chorus_entry.specs.declared.tag.Tag.TheVariants as T
use Rattle.chorus_entry.specs.declared.answer.Answer.{Answer}
use Rattle.chorus_entry.specs.declared.answer.Answer.TheVariants as A
use Rattle.chorus_entry.specs.declared.act.Act.{Act}
use Rattle.chorus_entry.specs.declared.act.Act.TheVariants.{Make, MakeFull, NoActor, NoSite, Post, Accept, Full, Already, ClientsFull, Stale, Early, NoPort, Elsewhere, NoMember, Choose, Try, Told, Heard, Take, Done, Late, Empty, NotHere, Rehome, Depart, Arrive, GroupMake, GroupsFull, Join, Leave, NoGroup, There, NotThere, MembersFull, Outstanding, NoCall, NoRequest, Cancel, Delete, Gone}
use Rattle.chorus_show.specs.Phrases.{phrase, id_text, escaped_body}

abbrev pub dest_text : Dest → List ℕ
dest_text (D.Port q) = phrase (codes "port") (name_text q ∷ [])
dest_text (D.All g) = phrase (codes "all") (name_text g ∷ [])
dest_text (D.One g) = phrase (codes "one") (name_text g ∷ [])
dest_text (D.OneAt g site) = phrase (codes "at") (name_text g ∷ decimal site ∷ [])

abbrev pub tag_text : Tag → List ℕ
tag_text T.Plain = codes "plain"
tag_text (T.Request number back) = phrase (codes "request") (decimal number ∷ name_text back ∷ [])
tag_text (T.Reply client number) = phrase (codes "reply") (decimal client ∷ decimal number ∷ [])

abbrev pub answer_text : Answer → List ℕ
answer_text (A.Accepted pos) = phrase (codes "accepted") (decimal pos ∷ [])
answer_text (A.Full len) = phrase (codes "full") (decimal len ∷ [])
answer_text (A.Stale to hop) = phrase (codes "stale") (decimal to ∷ decimal hop ∷ [])
answer_text (A.Early hop) = phrase (codes "early") (decimal hop ∷ [])
answer_text A.NoPort = codes "no-port"
answer_text A.Already = codes "already"
answer_text A.ClientsFull = codes "clients-full"
answer_text (A.Elsewhere to hop) = phrase (codes "elsewhere") (decimal to ∷ decimal hop ∷ [])
answer_text A.NoMember = codes "no-member"
answer_text (A.Chosen count) = phrase (codes "chosen") (decimal count ∷ [])
answer_text A.Gone = codes "gone"

abbrev pub act_text : Act → List ℕ
act_text (Make q a n) = phrase (codes "make") (name_text q ∷ name_text a ∷ decimal n ∷ [])
act_text (MakeFull a) = phrase (codes "make-full") (name_text a ∷ [])
act_text (NoActor a) = phrase (codes "no-actor") (name_text a ∷ [])
act_text (NoSite site) = phrase (codes "no-site") (decimal site ∷ [])
act_text (Post m d) = phrase (codes "post") (id_text m.id ∷ dest_text d ∷ tag_text m.tag ∷ escaped_body m.body ∷ [])
act_text (Accept x q pos) = phrase (codes "accept") (id_text x ∷ name_text q ∷ decimal pos ∷ [])
act_text (Full x q len) = phrase (codes "full") (id_text x ∷ name_text q ∷ decimal len ∷ [])
act_text (Already x q) = phrase (codes "already") (id_text x ∷ name_text q ∷ [])
act_text (ClientsFull x q) = phrase (codes "clients-full") (id_text x ∷ name_text q ∷ [])
act_text (Stale x q tried to hop) =
    phrase (codes "stale") (id_text x ∷ name_text q ∷ decimal tried ∷ decimal to ∷ decimal hop ∷ [])
act_text (Early x q hop) = phrase (codes "early") (id_text x ∷ name_text q ∷ decimal hop ∷ [])
act_text (NoPort x q) = phrase (codes "no-port") (id_text x ∷ name_text q ∷ [])
act_text (Elsewhere x q to hop) =
    phrase (codes "elsewhere") (id_text x ∷ name_text q ∷ decimal to ∷ decimal hop ∷ [])
act_text (NoMember x g) = phrase (codes "no-member") (id_text x ∷ name_text g ∷ [])
act_text (Choose x g members) = phrase (codes "choose") (id_text x ∷ name_text g ∷ map name_text members)
act_text (Try x q to hop) = phrase (codes "try") (id_text x ∷ name_text q ∷ decimal to ∷ decimal hop ∷ [])
act_text (Told x answer) = phrase (codes "told") (id_text x ∷ answer_text answer ∷ [])
act_text (Heard x answer) = phrase (codes "heard") (id_text x ∷ answer_text answer ∷ [])
act_text (Take q pos x) = phrase (codes "take") (name_text q ∷ decimal pos ∷ id_text x ∷ [])
act_text (Done number) = phrase (codes "done") (decimal number ∷ [])
act_text (Late number) = phrase (codes "late") (decimal number ∷ [])
act_text (Empty q) = phrase (codes "empty") (name_text q ∷ [])
act_text (NotHere q) = phrase (codes "not-here") (name_text q ∷ [])
act_text (Rehome q a) = phrase (codes "rehome") (name_text q ∷ name_text a ∷ [])
act_text (Depart q to a hop) =
    phrase (codes "depart") (name_text q ∷ decimal to ∷ name_text a ∷ decimal hop ∷ [])
act_text (Arrive q hop) = phrase (codes "arrive") (name_text q ∷ decimal hop ∷ [])
act_text (GroupMake g) = phrase (codes "group") (name_text g ∷ [])
act_text (GroupsFull site) = phrase (codes "groups-full") (decimal site ∷ [])
act_text (Join g q) = phrase (codes "join") (name_text g ∷ name_text q ∷ [])
act_text (Leave g q) = phrase (codes "leave") (name_text g ∷ name_text q ∷ [])
act_text (NoGroup g) = phrase (codes "no-group") (name_text g ∷ [])
act_text (There g q) = phrase (codes "there") (name_text g ∷ name_text q ∷ [])
act_text (NotThere g q) = phrase (codes "not-there") (name_text g ∷ name_text q ∷ [])
act_text (MembersFull g) = phrase (codes "members-full") (name_text g ∷ [])
act_text (Outstanding number) = phrase (codes "outstanding") (decimal number ∷ [])
act_text NoCall = codes "no-call"
act_text NoRequest = codes "no-request"
act_text (Cancel number) = phrase (codes "cancel") (decimal number ∷ [])
act_text (Delete q discarded) = phrase (codes "delete") (name_text q ∷ map id_text discarded)
act_text (Gone x q) = phrase (codes "gone") (id_text x ∷ name_text q ∷ [])

-- ended by LF
abbrev pub entry_text : Entry → List ℕ
entry_text e = phrase (decimal e.clock) (decimal e.place ∷ decimal e.seat ∷ act_text e.act ∷ []) ++ 10 ∷ []
