-- Which earlier entry a condition is about: the last one that passes this test.
use Rattle.std.specs.Prelude.{ℕ, ◌+◌, ◌==◌, Bool, true, false, ◌&&◌, List, [], ◌∷◌, length, Option, Some, None, if◌then◌else◌}
use Rattle.chorus_ui.specs.declared.ui.Ui.{Ui}
use Rattle.chorus_ui.specs.Name.{same_ui}
use Rattle.chorus_entry.specs.declared.entry.Entry.{Entry}
use Rattle.chorus_entry.specs.declared.id.MsgId.{MsgId}
use Rattle.chorus_entry.specs.declared.tag.Tag.{Tag}
use Rattle.chorus_entry.specs.declared.tag.Tag.TheVariants.{Request, Reply}
use Rattle.chorus_entry.specs.declared.act.Act.{Act}
use Rattle.chorus_entry.specs.declared.act.Act.TheVariants.{Make, Post, Accept, Take, Done, Cancel, Rehome, Depart, Arrive, Delete, GroupMake, Join, Leave, Told}
use Rattle.chorus_entry.specs.MsgId.{same_id}
use Rattle.chorus_world.specs.declared.place.Location.{Location}
use Rattle.chorus_world.specs.Views.{is_about, makes_group}
use Rattle.chorus_world.specs.Places.{is_location, taught}
use Rattle.judge_rules.specs.declared.about.About.{About}
use Rattle.judge_rules.specs.declared.about.About.TheVariants as abouts

-- a post, one of a request, and one of a reply
abbrev pub is_request : Tag → Bool
is_request (Request n back) = true
is_request _ = false

abbrev pub is_reply : Tag → Bool
is_reply (Reply c n) = true
is_reply _ = false

abbrev pub is_post : Act → Bool
is_post (Post m d) = true
is_post _ = false

-- it begins or ends a call of its caller
abbrev pub changes_call : Act → Bool
changes_call (Post m d) = is_request m.tag
changes_call (Done n) = true
changes_call (Cancel n) = true
changes_call _ = false

-- it takes a message, or posts a reply
abbrev pub changes_hand : Act → Bool
changes_hand (Post m d) = is_reply m.tag
changes_hand (Take q n x) = true
changes_hand _ = false

abbrev pub is_make : Act → Bool
is_make (Make q a c) = true
is_make _ = false

abbrev pub is_group_make : Act → Bool
is_group_make (GroupMake g) = true
is_group_make _ = false

-- it makes, moves or deletes the port
abbrev pub moves : Ui → Act → Bool
moves q (Make r a c) = same_ui r q
moves q (Rehome r a) = same_ui r q
moves q (Depart r to a hop) = same_ui r q
moves q (Arrive r hop) = same_ui r q
moves q (Delete r xs) = same_ui r q
moves q _ = false

-- the port accepts a message, or gives one out
abbrev pub queues : Ui → Act → Bool
queues q (Accept x r n) = same_ui r q
queues q (Take r n x) = same_ui r q
queues q _ = false

abbrev pub accepts : Ui → Act → Bool
accepts q (Accept x r n) = same_ui r q
accepts q _ = false

-- it accepts one of this client, or the one at this position
abbrev pub accepts_of : Ui → ℕ → Act → Bool
accepts_of q c (Accept x r n) = same_ui r q && (x.seat == c)
accepts_of q c _ = false

abbrev pub accepts_at : Ui → ℕ → Act → Bool
accepts_at q n (Accept x r m) = same_ui r q && (m == n)
accepts_at q n _ = false

abbrev pub posts_as : MsgId → Act → Bool
posts_as x (Post m d) = same_id m.id x
posts_as x _ = false

abbrev pub is_there : ℕ → ℕ → Option Location → Bool
is_there to hop None = false
is_there to hop (Some at) = is_location to hop at

-- it moves the port, or tells that a port is there by this hop
abbrev pub tells_of : Ui → ℕ → ℕ → Act → Bool
tells_of q to hop (Depart r at a h) = same_ui r q
tells_of q to hop (Arrive r h) = same_ui r q
tells_of q to hop (Told x a) = is_there to hop (taught a)
tells_of q to hop _ = false

-- a port joins the group or leaves it; this one does
abbrev pub changes_members : Ui → Act → Bool
changes_members g (Join h r) = same_ui h g
changes_members g (Leave h r) = same_ui h g
changes_members g _ = false

abbrev pub changes_member : Ui → Ui → Act → Bool
changes_member g q (Join h r) = same_ui h g && same_ui r q
changes_member g q (Leave h r) = same_ui h g && same_ui r q
changes_member g q _ = false

abbrev pub passes : About → Entry → Bool
passes abouts.Nothing e = false
passes (abouts.At p) e = e.place == p
passes (abouts.Posts s) e = (e.seat == s) && is_post e.act
passes (abouts.Calls s) e = (e.seat == s) && changes_call e.act
passes (abouts.Hands s) e = (e.seat == s) && changes_hand e.act
passes (abouts.Makes p) e = (e.place == p) && is_make e.act
passes (abouts.Groups p) e = (e.place == p) && is_group_make e.act
passes (abouts.Moves q) e = moves q e.act
passes (abouts.Queue q) e = queues q e.act
passes (abouts.Accepts q) e = accepts q e.act
passes (abouts.AcceptsOf q c) e = accepts_of q c e.act
passes (abouts.AcceptsAt q n) e = accepts_at q n e.act
passes (abouts.Message x) e = is_about (Some x) e
passes (abouts.Source x) e = posts_as x e.act
passes (abouts.Location p q to hop) e = (e.place == p) && tells_of q to hop e.act
passes (abouts.Group g) e = makes_group g e.act
passes (abouts.Members g) e = changes_members g e.act
passes (abouts.Member g q) e = changes_member g q e.act

-- its line in a printed journal, or 0 where there is none. A past has its newest entry first.
abbrev pub about_line : List Entry → About → ℕ
about_line [] about = 0
about_line (e ∷ past) about = if passes about e then length past + 2 else about_line past about
