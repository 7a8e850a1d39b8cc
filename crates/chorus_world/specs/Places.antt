-- Places: what the entries of one place say.
use Rattle.std.specs.Prelude.{ℕ, ◌+◌, ◌==◌, nat_lt, Bool, false, ◌&&◌, ◌||◌, not, if◌then◌else◌, List, [], ◌∷◌, ◌++◌, Option, Some, None}
use Rattle.std.specs.List.{filter}
use Rattle.chorus_ui.specs.declared.ui.Ui.{Ui}
use Rattle.chorus_ui.specs.declared.layout.Layout.{Layout}
use Rattle.chorus_ui.specs.Name.{same_ui}
use Rattle.chorus_ui.specs.Layout.{has_site, creation_place}
use Rattle.chorus_entry.specs.declared.entry.Entry.{Entry}
use Rattle.chorus_entry.specs.declared.id.MsgId.{MsgId}
use Rattle.chorus_entry.specs.declared.dest.Dest.{Dest}
use Rattle.chorus_entry.specs.declared.dest.Dest.TheVariants.{Port}
use Rattle.chorus_entry.specs.declared.answer.Answer.{Answer}
use Rattle.chorus_entry.specs.declared.answer.Answer.TheVariants as A
use Rattle.chorus_entry.specs.declared.tag.Tag.{Tag}
use Rattle.chorus_entry.specs.declared.tag.Tag.TheVariants.{Reply}
use Rattle.chorus_entry.specs.declared.act.Act.{Act}
use Rattle.chorus_entry.specs.declared.act.Act.TheVariants.{Make, Post, Choose, Try, Told, Heard, Take, Depart, Arrive, Delete}
use Rattle.chorus_entry.specs.Answer.{is_final}
use Rattle.chorus_entry.specs.Act.{is_verdict, message_of}
use Rattle.chorus_entry.specs.MsgId.{same_id}
use Rattle.chorus_world.specs.declared.place.Sent.{Sent}
use Rattle.chorus_world.specs.declared.place.Location.{Location}
use Rattle.chorus_world.specs.declared.place.TakenReply.{TakenReply}
use Rattle.chorus_entry.specs.Same.{are_same, same_route}
use Rattle.chorus_world.specs.Posts.{tag_of}

-- the clock of the last entry
abbrev pub last_clock : List Entry → ℕ
last_clock [] = 0
last_clock (e ∷ here) = e.clock

-- how many ports were made
abbrev pub ports_after : Act → ℕ → ℕ
ports_after (Make q a c) n = n + 1
ports_after _ n = n

abbrev pub ports_made : List Entry → ℕ
ports_made [] = 0
ports_made (e ∷ here) = ports_after e.act (ports_made here)

-- the port was made here
abbrev pub makes : Ui → Act → Bool
makes q (Make r a c) = same_ui r q
makes q _ = false

abbrev pub is_made_here : Ui → List Entry → Bool
is_made_here q [] = false
is_made_here q (e ∷ here) = makes q e.act || is_made_here q here

-- the port was deleted here
abbrev pub deletes : Ui → Act → Bool
deletes q (Delete r xs) = same_ui r q
deletes q _ = false

abbrev pub is_deleted : Ui → List Entry → Bool
is_deleted q [] = false
is_deleted q (e ∷ here) = deletes q e.act || is_deleted q here

-- the place heard of the message x
abbrev pub hears : MsgId → Act → Bool
hears x (Heard y a) = same_id y x
hears x _ = false

abbrev pub is_heard : MsgId → List Entry → Bool
is_heard x [] = false
is_heard x (e ∷ here) = hears x e.act || is_heard x here

-- the copies of the post x to the group g, numbered from n on, one for each member
abbrev pub copies : MsgId → Ui → ℕ → List Ui → List Sent
copies x g n [] = []
copies x g n (q ∷ qs) = record { id = record x { copy = n }; port = q; route = Some g } ∷ copies x g (n + 1) qs

abbrev pub sent_to : MsgId → Dest → List Sent
sent_to x (Port q) = record { id = x; port = q; route = None } ∷ []
sent_to x _ = []

abbrev pub sent_by : Act → List Sent
sent_by (Post m d) = sent_to m.id d
sent_by (Choose x g qs) = copies x g 1 qs
sent_by _ = []

-- the messages that were sent from here, in order
abbrev pub sent : List Entry → List Sent
sent [] = []
sent (e ∷ here) = sent here ++ sent_by e.act

-- the message of this id among them
abbrev pub find_sent : MsgId → List Sent → Option Sent
find_sent x [] = None
find_sent x (m ∷ ms) = if same_id m.id x then Some m else find_sent x ms

-- the act settles its message: it is a verdict, or tells one
abbrev pub is_settling : Act → Bool
is_settling (Told x a) = is_final a
is_settling act = is_verdict act

abbrev pub settles : MsgId → Act → Bool
settles x act = is_settling act && are_same same_id (Some x) (message_of act)

abbrev pub is_settled : MsgId → List Entry → Bool
is_settled x [] = false
is_settled x (e ∷ here) = settles x e.act || is_settled x here

-- those of the messages that are not settled here
abbrev pub unsettled : List Entry → List Sent → List Sent
unsettled here ms = filter (λ m. not (is_settled m.id here)) ms

-- the first of the messages that goes to the port by the route
abbrev pub first_for : Ui → Option Ui → List Sent → Option MsgId
first_for q r [] = None
first_for q r (m ∷ ms) = if same_ui m.port q && same_route m.route r then Some m.id else first_for q r ms

-- a try of the message x stands here that was not told yet
abbrev pub tried_after : MsgId → Act → Bool → Bool
tried_after x (Try y q to hop) b = same_id y x || b
tried_after x (Told y a) b = not (same_id y x) && b
tried_after x _ b = b

abbrev pub is_tried : MsgId → List Entry → Bool
is_tried x [] = false
is_tried x (e ∷ here) = tried_after x e.act (is_tried x here)

-- the message goes to the port q, is the first unsettled one of its port and route, and is not under way
abbrev pub is_first_as : MsgId → Ui → List Entry → Option Sent → Bool
is_first_as x q here None = false
is_first_as x q here (Some m) =
    same_ui m.port q && are_same same_id (Some x) (first_for q m.route (unsettled here (sent here)))
    && not (is_tried x here)

abbrev pub is_first : MsgId → Ui → List Entry → Bool
is_first x q here = is_first_as x q here (find_sent x (sent here))

-- where an answer says that the port is
abbrev pub taught : Answer → Option Location
taught (A.Stale to hop) = Some (record { to = to; hop = hop })
taught (A.Elsewhere to hop) = Some (record { to = to; hop = hop })
taught _ = None

-- the message was sent to the port
abbrev pub is_sent_to : Ui → Option Sent → Bool
is_sent_to q None = false
is_sent_to q (Some m) = same_ui m.port q

-- what an act at the place p, behind the entries `here`, teaches of the port q
abbrev pub learned : Ui → ℕ → List Entry → Act → Option Location
learned q p here (Arrive r hop) = if same_ui r q then Some (record { to = p; hop = hop }) else None
learned q p here (Depart r to a hop) = if same_ui r q then Some (record { to = to; hop = hop }) else None
learned q p here (Told x a) = if is_sent_to q (find_sent x (sent here)) then taught a else None
learned q p here _ = None

-- the farther of the two, the first where they are as far
abbrev pub farther : Location → Option Location → Location
farther l None = l
farther l (Some m) = if nat_lt l.hop m.hop then m else l

-- where a port is as far as its name tells: at its creation place with hop 0, and at no place, which is 0, where the
-- layout has no such site
abbrev pub named_location : Layout → Ui → Location
named_location l q = record { to = if has_site l q.site then creation_place l q else 0; hop = 0 }

-- where the port is, as far as this place knows: the location with the greatest hop, the first of them
abbrev pub located : Layout → Ui → List Entry → Location
located l q [] = named_location l q
located l q (e ∷ here) = farther (located l q here) (learned q e.place here e.act)

abbrev pub is_location : ℕ → ℕ → Location → Bool
is_location to hop at = (at.to == to) && (at.hop == hop)

-- the reply that the last entry took
abbrev pub reply_taken : ℕ → Tag → Option TakenReply
reply_taken s (Reply c n) = Some (record { taker = s; client = c; number = n })
reply_taken s _ = None

abbrev pub reply_taken_by : List Entry → ℕ → Act → Option TakenReply
reply_taken_by past s (Take q n x) = reply_taken s (tag_of x past)
reply_taken_by past s _ = None

abbrev pub just_taken : List Entry → List Entry → Option TakenReply
just_taken past [] = None
just_taken past (e ∷ here) = reply_taken_by past e.seat e.act
