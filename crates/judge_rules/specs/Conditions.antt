-- The conditions of each rule, in order, each with the earlier entry that it is about. An entry may come next exactly
-- where all hold (`ConditionsAreTheRules`). p is a place, s a seat, x the id of a message, q a port, g a group, a an
-- actor; n is a number of the act, and w a world.
use Rattle.std.specs.Prelude.{ℕ, ◌+◌, ◌==◌, nat_lt, nat_le, Bool, true, not, ◌&&◌, ◌||◌, List, [], ◌∷◌, ◌++◌, length, Option, Some, None, is_some, is_none, if◌then◌else◌}
use Rattle.chorus_ui.specs.declared.ui.Ui.{Ui}
use Rattle.chorus_ui.specs.declared.layout.Layout.{Layout}
use Rattle.chorus_ui.specs.declared.limits.TheConstants.{GROUPS_PER_SITE_LIMIT, PENDING_LIMIT, MEMBERS_LIMIT}
use Rattle.chorus_ui.specs.Layout.{first_place, has_actor, has_site, place_at, site_of}
use Rattle.chorus_entry.specs.declared.entry.Entry.{Entry}
use Rattle.chorus_entry.specs.declared.id.MsgId.{MsgId}
use Rattle.chorus_entry.specs.declared.message.Message.{Message}
use Rattle.chorus_entry.specs.declared.dest.Dest.{Dest}
use Rattle.chorus_entry.specs.declared.tag.Tag.{Tag}
use Rattle.chorus_entry.specs.declared.tag.Tag.TheVariants.{Plain, Request, Reply}
use Rattle.chorus_entry.specs.declared.act.Act.{Act}
use Rattle.chorus_entry.specs.declared.act.Act.TheVariants.{Make, MakeFull, NoActor, NoSite, Post, Accept, Full, Already, ClientsFull, Stale, Early, NoPort, Elsewhere, NoMember, Choose, Try, Told, Heard, Take, Done, Late, Empty, NotHere, Rehome, Depart, Arrive, GroupMake, GroupsFull, Join, Leave, NoGroup, There, NotThere, MembersFull, Outstanding, NoCall, NoRequest, Cancel, Delete, Gone}
use Rattle.chorus_entry.specs.Members.{is_member, same_uis}
use Rattle.chorus_entry.specs.Same.{are_same, is_number}
use Rattle.chorus_world.specs.Views.{at, about, by, is_group, on, views}
use Rattle.chorus_world.specs.Clients.{is_already, finds_clients_full}
use Rattle.chorus_world.specs.Groups.{groups_made, is_group_place, members}
use Rattle.chorus_world.specs.Messages.{is_to_be_heard, is_to_be_told, progress}
use Rattle.chorus_world.specs.Places.{is_first, is_location, just_taken}
use Rattle.chorus_world.specs.Ports.{are_waiting, is_coming, is_empty, is_ended_at, is_held_at, is_made, is_next_hop}
use Rattle.chorus_world.specs.Posts.{post_of, site_asked, source}
use Rattle.chorus_world.specs.Seats.{call, call_in, hand, posts, posts_stay, same_hand}
use Rattle.chorus_world.specs.Steps.{act_may, choice_from, ends_call, is_asked_from, is_beyond, is_due, is_due_with, is_early, is_elsewhere, is_full_of_ports, is_taken_by, may_choose_from, may_request, next_number, reply_to}
use Rattle.judge_rules.specs.declared.about.About.{About}
use Rattle.judge_rules.specs.declared.about.About.TheVariants.{Nothing, At, Posts, Calls, Hands, Makes, Groups, Moves, Queue, Accepts, AcceptsOf, AcceptsAt, Source, Location, Group, Member}
use Rattle.judge_rules.specs.declared.about.About.TheVariants as abouts
use Rattle.judge_rules.specs.declared.failing.Failed.{Failed}
use Rattle.judge_rules.specs.Terms.{accepted_so_far, due_at, has_no_space, has_space, is_accepted_at, located_at, port_of, so_many_wait, suits_site, taken_so_far}

-- whether it holds, and the earlier entry that it is about
pub record Condition : Type 0 where
  pub holds : Bool
  pub about : About

abbrev pub that : Bool → About → Condition
that b about = record { holds = b; about = about }

abbrev pub all_hold : List Condition → Bool
all_hold [] = true
all_hold (c ∷ cs) = c.holds && all_hold cs

-- Conditions that several acts have.

-- the port is held at the place, and is not
abbrev pub that_held : List Entry → ℕ → Ui → Condition
that_held past p q = that (is_held_at p (port_of past q)) (Moves q)

abbrev pub that_not_held : List Entry → ℕ → Ui → Condition
that_not_held past p q = that (not (is_held_at p (port_of past q))) (Moves q)

-- the message is due at the place
abbrev pub that_due : Layout → List Entry → ℕ → MsgId → Ui → Condition
that_due l past p x q = that (is_due (due_at l past p x q)) (abouts.Message x)

-- and may enter its port, but for its room
abbrev pub entering : Layout → List Entry → ℕ → MsgId → Ui → List Condition
entering l past p x q =
    that_held past p q ∷ that (suits_site l past p x) (Source (source x))
    ∷ that (not (is_already x past (on q past))) (AcceptsOf q x.seat)
    ∷ that (not (finds_clients_full x past (on q past))) (Accepts q) ∷ []

-- the place locates the port so
abbrev pub about_location : Layout → List Entry → ℕ → Ui → About
about_location l past p q = Location p q (located_at l past p q).to (located_at l past p q).hop

-- the actor is one of the layout
abbrev pub that_actor : Layout → Ui → Condition
that_actor l a = that (has_actor l a) Nothing

abbrev pub that_home : Layout → ℕ → Ui → Condition
that_home l p a = that (place_at l a.site a == p) Nothing

-- the place is the group's, and the group is made
abbrev pub that_group : Layout → List Entry → ℕ → Ui → List Condition
that_group l past p g = that (is_group_place l g p) Nothing ∷ that (is_group g (at p past)) Nothing ∷ []

-- a reply was just taken by the caller
abbrev pub that_taken : List Entry → ℕ → ℕ → ℕ → Condition
that_taken past p s n = that (is_taken_by s n (just_taken past (at p past))) (At p)

-- The conditions of each act.

abbrev pub making : Layout → List Entry → ℕ → Ui → Ui → ℕ → List Condition
making l past p q a c =
    that_actor l a ∷ that_home l p a ∷ that (nat_le 1 c && nat_le c PENDING_LIMIT) Nothing
    ∷ that (not (is_full_of_ports l (at p past))) (Makes p)
    ∷ that ((q.site == a.site) && (q.number == next_number l p (at p past))) (Makes p) ∷ []

-- a caller posts at one place alone
abbrev pub that_stays : List Entry → ℕ → ℕ → Condition
that_stays past p s = that (posts_stay p (by s past)) (Posts s)

-- the tag of a post
abbrev pub tagging : List Entry → ℕ → ℕ → Message → Dest → Tag → List Condition
tagging past p s m d Plain = []
tagging past p s m d (Request n back) =
    that (is_some (call_in n m.tag d m.body)) Nothing
    ∷ that (may_request (views past p s (Post m d)) n m d) (Calls s) ∷ []
tagging past p s m d (Reply c n) =
    that (are_same same_hand (hand past (by s past)) (reply_to c n d)) (Hands s) ∷ []

abbrev pub posting : List Entry → ℕ → ℕ → Message → Dest → List Condition
posting past p s m d =
    that (m.id.seat == s) Nothing ∷ that (m.id.number == posts (by s past) + 1) (Posts s)
    ∷ that (m.id.copy == 0) Nothing ∷ that_stays past p s ∷ tagging past p s m d m.tag

abbrev pub taking_up : Layout → List Entry → ℕ → MsgId → Ui → ℕ → ℕ → ℕ → List Condition
taking_up l past p x q tried to hop =
    that_not_held past p q ∷ that (is_location to hop (located_at l past p q)) (about_location l past p q)
    ∷ that (nat_lt tried hop) Nothing ∷ that (not (to == p)) Nothing
    ∷ that (is_none (site_asked x past)) (Source (source x))
    ∷ that (is_due_with (λ h. h == tried) (due_at l past p x q)) (abouts.Message x) ∷ []

abbrev pub finding_none : Layout → List Entry → ℕ → MsgId → Ui → List Condition
finding_none l past p x q =
    that (not (is_made (port_of past q)) || is_beyond l q) (Moves q)
    ∷ that (act_may l (views past p 0 (NoPort x q)) p 0 (NoPort x q)) (abouts.Message x) ∷ []

abbrev pub choosing : Layout → List Entry → ℕ → MsgId → Ui → Condition
choosing l past p x g = that (may_choose_from l (views past p 0 (NoMember x g)) p x g (progress (about x past))) (abouts.Message x)

abbrev pub trying : Layout → List Entry → ℕ → MsgId → Ui → ℕ → ℕ → List Condition
trying l past p x q to hop =
    that (not (is_beyond l q)) Nothing ∷ that ((located_at l past p q).to == to) (about_location l past p q)
    ∷ that ((located_at l past p q).hop == hop) (about_location l past p q) ∷ that (not (to == p)) Nothing
    ∷ that (suits_site l past to x) (Source (source x)) ∷ that (is_first x q (at p past)) (abouts.Message x) ∷ []

abbrev pub leaving : Layout → List Entry → ℕ → Ui → ℕ → Ui → ℕ → List Condition
leaving l past p q to a hop =
    that_held past p q ∷ that_actor l a ∷ that (not (a.site == site_of l p)) Nothing
    ∷ that (to == place_at l a.site q) Nothing ∷ that (is_next_hop hop (port_of past q)) (Moves q) ∷ []

abbrev pub conditions : Layout → List Entry → ℕ → ℕ → Act → List Condition
conditions l past p s (Make q a c) = making l past p q a c
conditions l past p s (MakeFull a) =
    that_actor l a ∷ that_home l p a ∷ that (is_full_of_ports l (at p past)) (Makes p) ∷ []
conditions l past p s (NoActor a) = that (not (has_actor l a)) Nothing ∷ []
conditions l past p s (NoSite n) = that (not (has_site l n)) Nothing ∷ []
conditions l past p s (Post m d) = posting past p s m d
conditions l past p s (Accept x q n) =
    entering l past p x q ++ that (has_space (port_of past q)) (Queue q)
    ∷ that (accepted_so_far n (port_of past q)) (Accepts q) ∷ that_due l past p x q ∷ []
conditions l past p s (Full x q n) =
    entering l past p x q ++ that (has_no_space (port_of past q)) (Queue q)
    ∷ that (so_many_wait n (port_of past q)) (Queue q) ∷ that_due l past p x q ∷ []
conditions l past p s (Already x q) =
    that_held past p q ∷ that (is_already x past (on q past)) (AcceptsOf q x.seat) ∷ that_due l past p x q ∷ []
conditions l past p s (ClientsFull x q) =
    that_held past p q ∷ that (finds_clients_full x past (on q past)) (Accepts q) ∷ that_due l past p x q ∷ []
conditions l past p s (Stale x q tried to hop) = taking_up l past p x q tried to hop
conditions l past p s (Early x q hop) =
    that (is_coming p hop (port_of past q)) (Moves q)
    ∷ that (is_due_with (is_early p hop (located_at l past p q)) (due_at l past p x q)) (abouts.Message x) ∷ []
conditions l past p s (NoPort x q) = finding_none l past p x q
conditions l past p s (Elsewhere x q to hop) =
    that (is_some (site_asked x past)) (Source (source x))
    ∷ that (is_location to hop (located_at l past p q)) (about_location l past p q)
    ∷ that (is_elsewhere l (views past p s (Elsewhere x q to hop)) p x q to hop) (abouts.Message x) ∷ []
conditions l past p s (NoMember x g) =
    choosing l past p x g
    ∷ that (length (choice_from l (at p past) (progress (about x past))) == 0) (abouts.Members g) ∷ []
conditions l past p s (Choose x g qs) =
    choosing l past p x g ∷ that (nat_lt 0 (length qs)) Nothing
    ∷ that (same_uis qs (choice_from l (at p past) (progress (about x past)))) (abouts.Members g) ∷ []
conditions l past p s (Try x q to hop) = trying l past p x q to hop
conditions l past p s (Told x a) = that (is_to_be_told p a (progress (about x past))) (abouts.Message x) ∷ []
conditions l past p s (Heard x a) =
    that (is_to_be_heard a (progress (about x past))) (abouts.Message x)
    ∷ that (is_asked_from l p (post_of x past)) (Source (source x)) ∷ []
conditions l past p s (Take q n x) =
    that_held past p q ∷ that (taken_so_far n (port_of past q)) (Queue q)
    ∷ that (is_accepted_at n x (port_of past q)) (AcceptsAt q n) ∷ []
conditions l past p s (Done n) =
    that_taken past p s n ∷ that (ends_call s n (call (by s past)) (just_taken past (at p past))) (Calls s) ∷ []
conditions l past p s (Late n) =
    that_taken past p s n ∷ that (not (ends_call s n (call (by s past)) (just_taken past (at p past)))) (Calls s) ∷ []
conditions l past p s (Empty q) = that_held past p q ∷ that (is_empty (port_of past q)) (Queue q) ∷ []
conditions l past p s (NotHere q) = []
conditions l past p s (Rehome q a) =
    that_held past p q ∷ that_actor l a ∷ that (a.site == site_of l p) Nothing ∷ []
conditions l past p s (Depart q to a hop) = leaving l past p q to a hop
conditions l past p s (Arrive q hop) = that (is_coming p hop (port_of past q)) (Moves q) ∷ []
conditions l past p s (GroupMake g) =
    that (is_group_place l g p) Nothing ∷ that (nat_le g.number GROUPS_PER_SITE_LIMIT) Nothing
    ∷ that (g.number == groups_made (at p past) + 1) (Groups p) ∷ []
conditions l past p s (GroupsFull n) =
    that (has_site l n) Nothing ∷ that (first_place l n == p) Nothing
    ∷ that (groups_made (at p past) == GROUPS_PER_SITE_LIMIT) (Groups p) ∷ []
conditions l past p s (Join g q) =
    that_group l past p g ++ that (not (is_member q (members g (at p past)))) (Member g q)
    ∷ that (nat_lt (length (members g (at p past))) MEMBERS_LIMIT) (abouts.Members g) ∷ []
conditions l past p s (Leave g q) = that_group l past p g ++ that (is_member q (members g (at p past))) (Member g q) ∷ []
conditions l past p s (NoGroup g) = that (not (is_group g past)) (Group g) ∷ []
conditions l past p s (There g q) = that_group l past p g ++ that (is_member q (members g (at p past))) (Member g q) ∷ []
conditions l past p s (NotThere g q) =
    that_group l past p g ++ that (not (is_member q (members g (at p past)))) (Member g q) ∷ []
conditions l past p s (MembersFull g) =
    that_group l past p g ++ that (length (members g (at p past)) == MEMBERS_LIMIT) (abouts.Members g) ∷ []
conditions l past p s (Outstanding n) = that (is_number n (call (by s past))) (Calls s) ∷ []
conditions l past p s NoCall = that (is_none (call (by s past))) (Calls s) ∷ []
conditions l past p s NoRequest = that (is_none (hand past (by s past))) (Hands s) ∷ []
conditions l past p s (Cancel n) = that (is_number n (call (by s past))) (Calls s) ∷ []
conditions l past p s (Delete q xs) = that_held past p q ∷ that (are_waiting xs (port_of past q)) (Queue q) ∷ []
conditions l past p s (Gone x q) = that (is_ended_at p (port_of past q)) (Moves q) ∷ that_due l past p x q ∷ []

-- The first that fails, where all but the last are looked at: numbered from n on.
abbrev pub first_failing : ℕ → List Condition → Failed
first_failing n [] = record { number = n; about = Nothing }
first_failing n (c ∷ []) = record { number = n; about = c.about }
first_failing n (c ∷ d ∷ cs) = if c.holds then first_failing (n + 1) (d ∷ cs) else record { number = n; about = c.about }

-- The one among conditions, numbered from n on, that is the first to fail, where one does.
abbrev pub failing_among : ℕ → List Condition → Option Failed
failing_among n [] = None
failing_among n (c ∷ cs) =
    if c.holds then failing_among (n + 1) cs else Some (record { number = n; about = c.about })
