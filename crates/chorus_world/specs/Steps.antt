-- Steps: which entry may come next, and what a legal list is.
use Rattle.std.specs.Prelude.{ℕ, ◌+◌, ◌-◌, ◌*◌, ◌/◌, ◌%◌, ◌==◌, nat_lt, nat_le, Bool, true, false, ◌&&◌, ◌||◌, not, if◌then◌else◌, List, [], ◌∷◌, length, Option, Some, None, is_some, is_none}
use Rattle.chorus_ui.specs.declared.ui.Ui.{Ui}
use Rattle.chorus_ui.specs.declared.layout.Layout.{Layout}
use Rattle.chorus_ui.specs.Name.{same_ui}
use Rattle.chorus_ui.specs.declared.limits.TheConstants.{PORTS_PER_SITE_LIMIT, GROUPS_PER_SITE_LIMIT, PENDING_LIMIT, MEMBERS_LIMIT}
use Rattle.chorus_ui.specs.Layout.{has_site, has_place, has_actor, place_at, first_place, site_of, group_place}
use Rattle.chorus_entry.specs.declared.entry.Entry.{Entry}
use Rattle.chorus_entry.specs.declared.id.MsgId.{MsgId}
use Rattle.chorus_entry.specs.declared.message.Message.{Message}
use Rattle.chorus_entry.specs.declared.dest.Dest.{Dest}
use Rattle.chorus_entry.specs.declared.tag.Tag.{Tag}
use Rattle.chorus_entry.specs.declared.tag.Tag.TheVariants.{Plain, Request, Reply}
use Rattle.chorus_entry.specs.declared.answer.Answer.{Answer}
use Rattle.chorus_entry.specs.declared.act.Act.{Act}
use Rattle.chorus_entry.specs.declared.act.Act.TheVariants.{Make, MakeFull, NoActor, NoSite, Post, Accept, Full, Already, ClientsFull, Stale, Early, NoPort, Elsewhere, NoMember, Choose, Try, Told, Heard, Take, Done, Late, Empty, NotHere, Rehome, Depart, Arrive, GroupMake, GroupsFull, Join, Leave, NoGroup, There, NotThere, MembersFull, Outstanding, NoCall, NoRequest, Cancel, Delete, Gone}
use Rattle.chorus_entry.specs.Dest.{group_in}
use Rattle.chorus_entry.specs.Members.{same_uis, is_member}
use Rattle.chorus_entry.specs.Kinds.{has_kinds}
use Rattle.chorus_world.specs.Views.{Views, views, is_group}
use Rattle.chorus_entry.specs.Same.{is_number, are_same}
use Rattle.chorus_world.specs.Ports.{fate, is_made, is_held_at, is_ended_at, is_coming, is_next_hop, has_room, is_full, is_first_waiting, is_empty, are_waiting}
use Rattle.chorus_world.specs.Posts.{Posted, post_of, site_asked, is_on_site}
use Rattle.chorus_world.specs.Clients.{is_already, finds_clients_full}
use Rattle.chorus_world.specs.declared.progress.Progress.{Progress}
use Rattle.chorus_world.specs.declared.progress.Progress.TheVariants.{Tried, Asked}
use Rattle.chorus_world.specs.declared.place.Location.{Location}
use Rattle.chorus_world.specs.declared.place.TakenReply.{TakenReply}
use Rattle.chorus_entry.specs.declared.hand.Hand.{Hand}
use Rattle.chorus_world.specs.declared.due.Due.{Due}
use Rattle.chorus_world.specs.declared.due.Due.TheVariants.{NotDue, ByTry, AtHome}
use Rattle.chorus_world.specs.Messages.{progress, is_to_be_told, is_to_be_heard}
use Rattle.chorus_world.specs.Places.{last_clock, ports_made, is_first, located, is_location, just_taken}
use Rattle.chorus_world.specs.Groups.{groups_made, members, choice, is_next_to, is_group_place, is_choosing_place}
use Rattle.chorus_world.specs.Seats.{posts, posts_stay, requests, call, same_call, call_in, first_call, same_hand, hand}

-- The place of ports and actors.

-- the actor is one of the layout, and p its home place
abbrev pub is_home : Layout → Ui → ℕ → Bool
is_home l a p = has_actor l a && (place_at l a.site a == p)

-- a place makes its share of the ports of a site
abbrev pub is_full_of_ports : Layout → List Entry → Bool
is_full_of_ports l here = nat_le (PORTS_PER_SITE_LIMIT / l.turns) (ports_made here)

-- the number of the next port that p makes: the least one that is not made and whose place is p
abbrev pub next_number : Layout → ℕ → List Entry → ℕ
next_number l p here = ports_made here * l.turns + (p - 1) % l.turns + 1

abbrev pub may_make : Layout → Views → ℕ → Ui → Ui → ℕ → Bool
may_make l v p q a c =
    is_home l a p && nat_le 1 c && nat_le c PENDING_LIMIT && not (is_full_of_ports l v.here)
    && (q.site == a.site) && (q.number == next_number l p v.here)

-- The way of a message to its port.

-- the layout has no such site: a port of it is located nowhere
abbrev pub is_beyond : Layout → Ui → Bool
is_beyond l q = not (has_site l q.site)

-- p is on the site that x asks for, where x asks for one
abbrev pub suits : Layout → Views → ℕ → MsgId → Bool
suits l v p x = is_on_site l (site_asked x v.all) p

-- x is to be tried from here, and its port is located at `to`
abbrev pub is_to_go : Layout → Views → MsgId → Ui → ℕ → Bool
is_to_go l v x q to = is_first x q v.here && not (is_beyond l q) && ((located l q v.here).to == to)

-- x is due at the place p: with the hop of its latest try, where that was to p and is not decided; or with the hop by
-- which its port is located here, where it is to be tried from here
abbrev pub due_at_home : Layout → Views → ℕ → MsgId → Ui → Due
due_at_home l v p x q = if is_to_go l v x q p && suits l v p x then AtHome (located l q v.here).hop else NotDue

abbrev pub due_by_try : ℕ → Ui → Progress → Due → Due
due_by_try p q (Tried from r to hop) d = if (to == p) && same_ui r q then ByTry hop else d
due_by_try p q _ d = d

abbrev pub due : Layout → Views → ℕ → MsgId → Ui → Due
due l v p x q = due_by_try p q (progress v.message) (due_at_home l v p x q)

-- x is due, with a hop that passes the test
abbrev pub is_due_with : (ℕ → Bool) → Due → Bool
is_due_with test NotDue = false
is_due_with test (ByTry hop) = test hop
is_due_with test (AtHome hop) = test hop

abbrev pub is_due : Due → Bool
is_due d = is_due_with (λ hop. true) d

-- x is due by a try, with a hop that passes the test
abbrev pub is_tried_with : (ℕ → Bool) → Due → Bool
is_tried_with test (ByTry hop) = test hop
is_tried_with test _ = false

-- x meets its port here
abbrev pub meets : Layout → Views → ℕ → MsgId → Ui → Bool
meets l v p x q = is_due (due l v p x q) && is_held_at p (fate v.port)

-- and neither Already nor ClientsFull answers it
abbrev pub may_enter : Layout → Views → ℕ → MsgId → Ui → Bool
may_enter l v p x q =
    meets l v p x q && suits l v p x
    && not (is_already x v.all v.port) && not (finds_clients_full x v.all v.port)

abbrev pub may_accept : Layout → Views → ℕ → MsgId → Ui → ℕ → Bool
may_accept l v p x q n = may_enter l v p x q && has_room n (fate v.port)

abbrev pub may_find_full : Layout → Views → ℕ → MsgId → Ui → ℕ → Bool
may_find_full l v p x q n = may_enter l v p x q && is_full n (fate v.port)

abbrev pub may_find_already : Layout → Views → ℕ → MsgId → Ui → Bool
may_find_already l v p x q = meets l v p x q && is_already x v.all v.port

abbrev pub may_find_clients_full : Layout → Views → ℕ → MsgId → Ui → Bool
may_find_clients_full l v p x q = meets l v p x q && finds_clients_full x v.all v.port

-- the port is not here, and is located at another place by a later hop than x was tried with
abbrev pub may_be_stale : Layout → Views → ℕ → MsgId → Ui → ℕ → ℕ → ℕ → Bool
may_be_stale l v p x q tried to hop =
    is_due_with (λ h. h == tried) (due l v p x q) && not (is_held_at p (fate v.port))
    && is_location to hop (located l q v.here) && nat_lt tried hop && not (to == p) && is_none (site_asked x v.all)

-- the port is on its way to p: located at p by a later hop than x was tried with, or else tried with its last hop
abbrev pub is_early : ℕ → ℕ → Location → ℕ → Bool
is_early p hop at h = (is_location p hop at && nat_lt h hop) || (nat_le at.hop h && (hop == h) && nat_lt 0 h)

abbrev pub may_be_early : Layout → Views → ℕ → MsgId → Ui → ℕ → Bool
may_be_early l v p x q hop =
    is_due_with (is_early p hop (located l q v.here)) (due l v p x q)
    && is_coming p hop (fate v.port)

-- the port is not made; or the layout has no such site, and x would be tried from here
abbrev pub may_find_no_port : Layout → Views → ℕ → MsgId → Ui → Bool
may_find_no_port l v p x q =
    (is_due_with (λ h. h == 0) (due l v p x q) && not (is_made (fate v.port)))
    || (is_beyond l q && is_first x q v.here)

-- x asks for one site: the place where it waits, or the place where it was tried, locates the port elsewhere
abbrev pub is_elsewhere : Layout → Views → ℕ → MsgId → Ui → ℕ → ℕ → Bool
is_elsewhere l v p x q to hop =
    (is_to_go l v x q to && not (is_on_site l (site_asked x v.all) to))
    || (is_tried_with (λ h. nat_lt h hop) (due l v p x q) && not (is_held_at p (fate v.port)) && not (to == p))

abbrev pub may_be_elsewhere : Layout → Views → ℕ → MsgId → Ui → ℕ → ℕ → Bool
may_be_elsewhere l v p x q to hop =
    is_some (site_asked x v.all) && is_location to hop (located l q v.here) && is_elsewhere l v p x q to hop

abbrev pub may_find_gone : Layout → Views → ℕ → MsgId → Ui → Bool
may_find_gone l v p x q = is_due (due l v p x q) && is_ended_at p (fate v.port)

abbrev pub may_try : Layout → Views → ℕ → MsgId → Ui → ℕ → ℕ → Bool
may_try l v p x q to hop =
    is_to_go l v x q to && ((located l q v.here).hop == hop) && not (to == p) && is_on_site l (site_asked x v.all) to

-- Posts, and the choice of a group's members.

-- the tag of a post: a new request or its first post again, or the reply to the request in hand
abbrev pub may_request : Views → ℕ → Message → Dest → Bool
may_request v n m d =
    is_some (call_in n m.tag d m.body)
    && ((is_none (call v.mine) && (n == requests v.mine + 1))
    || (is_number n (call v.mine) && are_same same_call (first_call n v.mine) (call_in n m.tag d m.body)))

abbrev pub reply_to : ℕ → ℕ → Dest → Option Hand
reply_to c n (Dest.Port q) = Some (record { client = c; number = n; back = q })
reply_to c n _ = None

abbrev pub may_tag : Views → Message → Dest → Tag → Bool
may_tag v m d Plain = true
may_tag v m d (Request n back) = may_request v n m d
may_tag v m d (Reply c n) = are_same same_hand (hand v.all v.mine) (reply_to c n d)

abbrev pub may_post : Views → ℕ → ℕ → Message → Dest → Bool
may_post v p s m d =
    (m.id.seat == s) && (m.id.number == posts v.mine + 1) && (m.id.copy == 0) && posts_stay p v.mine
    && may_tag v m d m.tag

-- the post x to the group was made at `from`, and its turn to be chosen here has come
abbrev pub may_choose_from : Layout → Views → ℕ → MsgId → Ui → Progress → Bool
may_choose_from l v p x g (Asked from d) =
    are_same same_ui (Some g) (group_in d) && is_choosing_place l g from p && is_next_to g x from v.here v.all
may_choose_from l v p x g _ = false

-- the members that are chosen for it
abbrev pub choice_from : Layout → List Entry → Progress → List Ui
choice_from l here (Asked from d) = choice l d here
choice_from l here _ = []

abbrev pub may_choose : Layout → Views → ℕ → MsgId → Ui → List Ui → Bool
may_choose l v p x g qs =
    may_choose_from l v p x g (progress v.message) && nat_lt 0 (length qs)
    && same_uis qs (choice_from l v.here (progress v.message))

abbrev pub may_find_no_member : Layout → Views → ℕ → MsgId → Ui → Bool
may_find_no_member l v p x g =
    may_choose_from l v p x g (progress v.message) && (length (choice_from l v.here (progress v.message)) == 0)

-- p is the place of a post to a group of another place
abbrev pub is_asking_place : Layout → ℕ → Option Ui → Bool
is_asking_place l p None = false
is_asking_place l p (Some g) = is_some (group_place l g) && not (is_group_place l g p)

abbrev pub is_asked_from : Layout → ℕ → Option Posted → Bool
is_asked_from l p None = false
is_asked_from l p (Some m) = (m.place == p) && is_asking_place l p (group_in m.dest)

abbrev pub may_hear : Layout → Views → ℕ → MsgId → Answer → Bool
may_hear l v p x a = is_asked_from l p (post_of x v.all) && is_to_be_heard a (progress v.message)

-- Receiving, and the end of a call.

abbrev pub may_take : Views → ℕ → Ui → ℕ → MsgId → Bool
may_take v p q n x = is_held_at p (fate v.port) && is_first_waiting n x (fate v.port)

abbrev pub may_find_empty : Views → ℕ → Bool
may_find_empty v p = is_held_at p (fate v.port) && is_empty (fate v.port)

-- the seat s just took the reply to the request n of the client c
abbrev pub is_taken_by : ℕ → ℕ → Option TakenReply → Bool
is_taken_by s n None = false
is_taken_by s n (Some r) = (r.taker == s) && (r.number == n)

-- and it ends the outstanding call of s
abbrev pub ends_call : ℕ → ℕ → Option ℕ → Option TakenReply → Bool
ends_call s n c None = false
ends_call s n c (Some r) = (r.client == s) && is_number n c

abbrev pub may_be_done : Views → ℕ → ℕ → Bool
may_be_done v s n =
    is_taken_by s n (just_taken v.all v.here) && ends_call s n (call v.mine) (just_taken v.all v.here)

abbrev pub may_be_late : Views → ℕ → ℕ → Bool
may_be_late v s n =
    is_taken_by s n (just_taken v.all v.here) && not (ends_call s n (call v.mine) (just_taken v.all v.here))

-- Moving and deleting a port.

abbrev pub may_rehome : Layout → Views → ℕ → Ui → Bool
may_rehome l v p a = is_held_at p (fate v.port) && has_actor l a && (a.site == site_of l p)

abbrev pub may_depart : Layout → Views → ℕ → Ui → ℕ → Ui → ℕ → Bool
may_depart l v p q to a hop =
    is_held_at p (fate v.port) && has_actor l a && not (a.site == site_of l p)
    && (to == place_at l a.site q) && is_next_hop hop (fate v.port)

abbrev pub may_arrive : Views → ℕ → ℕ → Bool
may_arrive v p hop = is_coming p hop (fate v.port)

abbrev pub may_delete : Views → ℕ → List MsgId → Bool
may_delete v p xs = is_held_at p (fate v.port) && are_waiting xs (fate v.port)

-- Making groups, joining and leaving.

abbrev pub may_make_group : Layout → Views → ℕ → Ui → Bool
may_make_group l v p g =
    is_group_place l g p && (g.number == groups_made v.here + 1) && nat_le g.number GROUPS_PER_SITE_LIMIT

abbrev pub may_find_groups_full : Layout → Views → ℕ → ℕ → Bool
may_find_groups_full l v p s = has_site l s && (first_place l s == p) && (groups_made v.here == GROUPS_PER_SITE_LIMIT)

-- the group is made, and p is its place
abbrev pub is_group_at : Layout → Views → ℕ → Ui → Bool
is_group_at l v p g = is_group_place l g p && is_group g v.here

abbrev pub may_join : Layout → Views → ℕ → Ui → Ui → Bool
may_join l v p g q =
    is_group_at l v p g && not (is_member q (members g v.here)) && nat_lt (length (members g v.here)) MEMBERS_LIMIT

abbrev pub may_find_there : Layout → Views → ℕ → Ui → Ui → Bool
may_find_there l v p g q = is_group_at l v p g && is_member q (members g v.here)

abbrev pub may_find_not_there : Layout → Views → ℕ → Ui → Ui → Bool
may_find_not_there l v p g q = is_group_at l v p g && not (is_member q (members g v.here))

abbrev pub may_find_members_full : Layout → Views → ℕ → Ui → Bool
may_find_members_full l v p g = is_group_at l v p g && (length (members g v.here) == MEMBERS_LIMIT)

-- What each act needs, where the entry is at the place p and by the seat s.
abbrev pub act_may : Layout → Views → ℕ → ℕ → Act → Bool
act_may l v p s (Make q a c) = may_make l v p q a c
act_may l v p s (MakeFull a) = is_home l a p && is_full_of_ports l v.here
act_may l v p s (NoActor a) = not (has_actor l a)
act_may l v p s (NoSite n) = not (has_site l n)
act_may l v p s (Post m d) = may_post v p s m d
act_may l v p s (Accept x q n) = may_accept l v p x q n
act_may l v p s (Full x q n) = may_find_full l v p x q n
act_may l v p s (Already x q) = may_find_already l v p x q
act_may l v p s (ClientsFull x q) = may_find_clients_full l v p x q
act_may l v p s (Stale x q tried to hop) = may_be_stale l v p x q tried to hop
act_may l v p s (Early x q hop) = may_be_early l v p x q hop
act_may l v p s (NoPort x q) = may_find_no_port l v p x q
act_may l v p s (Elsewhere x q to hop) = may_be_elsewhere l v p x q to hop
act_may l v p s (NoMember x g) = may_find_no_member l v p x g
act_may l v p s (Choose x g qs) = may_choose l v p x g qs
act_may l v p s (Try x q to hop) = may_try l v p x q to hop
act_may l v p s (Told x a) = is_to_be_told p a (progress v.message)
act_may l v p s (Heard x a) = may_hear l v p x a
act_may l v p s (Take q n x) = may_take v p q n x
act_may l v p s (Done n) = may_be_done v s n
act_may l v p s (Late n) = may_be_late v s n
act_may l v p s (Empty q) = may_find_empty v p
act_may l v p s (NotHere q) = true
act_may l v p s (Rehome q a) = may_rehome l v p a
act_may l v p s (Depart q to a hop) = may_depart l v p q to a hop
act_may l v p s (Arrive q hop) = may_arrive v p hop
act_may l v p s (GroupMake g) = may_make_group l v p g
act_may l v p s (GroupsFull n) = may_find_groups_full l v p n
act_may l v p s (Join g q) = may_join l v p g q
act_may l v p s (Leave g q) = may_find_there l v p g q
act_may l v p s (NoGroup g) = not v.group_made
act_may l v p s (There g q) = may_find_there l v p g q
act_may l v p s (NotThere g q) = may_find_not_there l v p g q
act_may l v p s (MembersFull g) = may_find_members_full l v p g
act_may l v p s (Outstanding n) = is_number n (call v.mine)
act_may l v p s NoCall = is_none (call v.mine)
act_may l v p s NoRequest = is_none (hand v.all v.mine)
act_may l v p s (Cancel n) = is_number n (call v.mine)
act_may l v p s (Delete q xs) = may_delete v p xs
act_may l v p s (Gone x q) = may_find_gone l v p x q

-- directly behind the Take of a reply at its place stands Done or Late
abbrev pub ends_reply : Act → Bool
ends_reply (Done n) = true
ends_reply (Late n) = true
ends_reply _ = false

abbrev pub may_stand_behind : Option TakenReply → Act → Bool
may_stand_behind None a = true
may_stand_behind (Some r) a = ends_reply a

-- the act may come next at the place p by the seat s
abbrev pub act_follows : Layout → Views → ℕ → ℕ → Act → Bool
act_follows l v p s a = has_kinds a && may_stand_behind (just_taken v.all v.here) a && act_may l v p s a

-- the entry's place is one of the layout, and its clock above the last clock there
abbrev pub is_timely : Layout → Views → Entry → Bool
is_timely l v e = has_place l e.place && nat_lt (last_clock v.here) e.clock

-- the entry may come next
abbrev pub may : Layout → List Entry → Entry → Bool
may l past e =
    let v = views past e.place e.seat e.act in is_timely l v e && act_follows l v e.place e.seat e.act

-- a world: its layout, and all entries so far, the newest first. All else that it has is read from these.
pub record State : Type 0 where
  pub layout : Layout
  pub past : List Entry

-- the empty world of a layout
abbrev pub opening : Layout → State
opening l = record { layout = l; past = [] }

-- the world after the entry, or nothing
abbrev pub next : State → Entry → Option State
next w e = if may w.layout w.past e then Some (record { layout = w.layout; past = e ∷ w.past }) else None

-- each entry could come next when it came
abbrev pub is_legal : Layout → List Entry → Bool
is_legal l [] = true
is_legal l (e ∷ past) = may l past e && is_legal l past
