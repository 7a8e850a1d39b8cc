-- An act may come next exactly where all its conditions hold.
use Rattle.std.proofs.Common.{ℕ, ◌+◌, ◌≡◌, ◌==◌, nat_lt, nat_le, not, ◌&&◌, ◌||◌, List, length, Option, Some, None, is_some, is_none, refl, ◌∙◌, ap}
use Rattle.chorus_ui.specs.declared.layout.Layout.{Layout}
use Rattle.chorus_ui.specs.declared.limits.TheConstants.{GROUPS_PER_SITE_LIMIT, PENDING_LIMIT, MEMBERS_LIMIT}
use Rattle.chorus_ui.specs.Layout.{first_place, has_actor, has_place, has_site, place_at, site_of}
use Rattle.chorus_entry.specs.declared.entry.Entry.{Entry}
use Rattle.chorus_entry.specs.declared.id.MsgId.{MsgId}
use Rattle.chorus_entry.specs.declared.message.Message.{Message}
use Rattle.chorus_entry.specs.declared.dest.Dest.{Dest}
use Rattle.chorus_entry.specs.declared.tag.Tag.{Tag}
use Rattle.chorus_entry.specs.declared.tag.Tag.TheVariants.{Plain, Request, Reply}
use Rattle.chorus_entry.specs.declared.act.Act.{Act}
use Rattle.chorus_entry.specs.declared.act.Act.TheVariants.{Make, MakeFull, NoActor, NoSite, Post, Accept, Full, Already, ClientsFull, Stale, Early, NoPort, Elsewhere, NoMember, Choose, Try, Told, Heard, Take, Done, Late, Empty, NotHere, Rehome, Depart, Arrive, GroupMake, GroupsFull, Join, Leave, NoGroup, There, NotThere, MembersFull, Outstanding, NoCall, NoRequest, Cancel, Delete, Gone}
use Rattle.chorus_entry.specs.Members.{is_member, same_uis}
use Rattle.chorus_entry.specs.Same.{are_same, is_number}
use Rattle.chorus_world.specs.Views.{at, about, by, is_group, on, views}
use Rattle.chorus_world.specs.Clients.{is_already, finds_clients_full}
use Rattle.chorus_world.specs.Groups.{groups_made, is_group_place, members}
use Rattle.chorus_world.specs.Messages.{is_to_be_heard, is_to_be_told, progress}
use Rattle.chorus_world.specs.Places.{is_first, is_location, just_taken, last_clock}
use Rattle.chorus_world.specs.Ports.{PortState, are_waiting, fate, has_room, is_coming, is_empty, is_ended_at, is_first_waiting, is_full, is_held_at, is_made, is_next_hop}
use Rattle.chorus_world.specs.Posts.{post_of, site_asked}
use Rattle.chorus_world.specs.Seats.{call, call_in, first_call, hand, posts, posts_stay, requests, same_call, same_hand}
use Rattle.chorus_world.specs.Steps.{act_may, choice_from, ends_call, is_asked_from, is_beyond, is_due, is_due_with, is_early, is_elsewhere, is_full_of_ports, is_taken_by, may_choose_from, may_enter, may_tag, next_number, reply_to}
use Rattle.judge_rules.specs.Conditions.{all_hold, conditions, tagging}
use Rattle.judge_rules.specs.Laws.{ConditionsAreTheRules}
use Rattle.judge_rules.specs.Terms.{accepted_so_far, due_at, has_no_space, has_space, is_accepted_at, located_at, so_many_wait, suits_site, taken_so_far}
use Rattle.judge_rules.proofs.Shapes.{one, two, three, five, turned, turned_three, making_is, entering_is, stale_is, trying_is, no_port_is, taking_is, posting_is, requesting_is, group_making_is, joining_is}

-- tests that are made of two
room_is : (n : ℕ) (o : Option PortState) → (has_space o && accepted_so_far n o) ≡ has_room n o
room_is n None = refl
room_is n (Some f) = refl

full_is : (n : ℕ) (o : Option PortState) → (has_no_space o && so_many_wait n o) ≡ is_full n o
full_is n None = refl
full_is n (Some f) = refl

first_is : (n : ℕ) (x : MsgId) (o : Option PortState) → (taken_so_far n o && is_accepted_at n x o) ≡ is_first_waiting n x o
first_is n x None = refl
first_is n x (Some f) = refl

module _ (l : Layout) (past : List Entry) (p s : ℕ) where
  tag_is : (m : Message) (d : Dest) (t : Tag) → all_hold (tagging past p s m d t) ≡ may_tag (views past p s (Post m d)) m d t
  tag_is m d Plain = refl
  tag_is m d (Request n back) =
      requesting_is (is_some (call_in n m.tag d m.body)) ((is_none (call (by s past)) && (n == requests (by s past) + 1)) || (is_number n (call (by s past)) && are_same same_call (first_call n (by s past)) (call_in n m.tag d m.body)))
  tag_is m d (Reply c n) = one (are_same same_hand (hand past (by s past)) (reply_to c n d))

  abbrev Holds : Act → Type 0
  Holds act = all_hold (conditions l past p s act) ≡ act_may l (views past p s act) p s act

  pub act_holds : (act : Act) → Holds act
  act_holds (Make q a c) = making_is (has_actor l a) (place_at l a.site a == p) (nat_le 1 c) (nat_le c PENDING_LIMIT) (not (is_full_of_ports l (at p past))) (q.site == a.site) (q.number == next_number l p (at p past))
  act_holds (MakeFull a) = three (has_actor l a) (place_at l a.site a == p) (is_full_of_ports l (at p past))
  act_holds (NoActor a) = one (not (has_actor l a))
  act_holds (NoSite n) = one (not (has_site l n))
  act_holds (Post m d) = posting_is (m.id.seat == s) (m.id.number == posts (by s past) + 1) (m.id.copy == 0) (posts_stay p (by s past)) (all_hold (tagging past p s m d m.tag)) ∙ ap (λ b. (m.id.seat == s) && (m.id.number == posts (by s past) + 1) && (m.id.copy == 0) && posts_stay p (by s past) && b) (tag_is m d m.tag)
  act_holds (Accept x q n) = entering_is (is_due (due_at l past p x q)) (is_held_at p (fate (on q past))) (suits_site l past p x) (not (is_already x past (on q past))) (not (finds_clients_full x past (on q past))) (has_space (fate (on q past))) (accepted_so_far n (fate (on q past))) ∙ ap (λ b. may_enter l (views past p s (Accept x q n)) p x q && b) (room_is n (fate (on q past)))
  act_holds (Full x q n) = entering_is (is_due (due_at l past p x q)) (is_held_at p (fate (on q past))) (suits_site l past p x) (not (is_already x past (on q past))) (not (finds_clients_full x past (on q past))) (has_no_space (fate (on q past))) (so_many_wait n (fate (on q past))) ∙ ap (λ b. may_enter l (views past p s (Full x q n)) p x q && b) (full_is n (fate (on q past)))
  act_holds (Already x q) = turned_three (is_due (due_at l past p x q)) (is_held_at p (fate (on q past))) (is_already x past (on q past))
  act_holds (ClientsFull x q) = turned_three (is_due (due_at l past p x q)) (is_held_at p (fate (on q past))) (finds_clients_full x past (on q past))
  act_holds (Stale x q tried to hop) = stale_is (is_due_with (λ h. h == tried) (due_at l past p x q)) (not (is_held_at p (fate (on q past)))) (is_location to hop (located_at l past p q)) (nat_lt tried hop) (not (to == p)) (is_none (site_asked x past))
  act_holds (Early x q hop) = turned (is_due_with (is_early p hop (located_at l past p q)) (due_at l past p x q)) (is_coming p hop (fate (on q past)))
  act_holds (NoPort x q) = no_port_is (is_due_with (λ h. h == 0) (due_at l past p x q)) (not (is_made (fate (on q past)))) (is_beyond l q) (is_first x q (at p past))
  act_holds (Elsewhere x q to hop) = three (is_some (site_asked x past)) (is_location to hop (located_at l past p q)) (is_elsewhere l (views past p s (Elsewhere x q to hop)) p x q to hop)
  act_holds (NoMember x g) = two (may_choose_from l (views past p s (NoMember x g)) p x g (progress (about x past))) (length (choice_from l (at p past) (progress (about x past))) == 0)
  act_holds (Choose x g qs) = three (may_choose_from l (views past p s (NoMember x g)) p x g (progress (about x past))) (nat_lt 0 (length qs)) (same_uis qs (choice_from l (at p past) (progress (about x past))))
  act_holds (Try x q to hop) = trying_is (is_first x q (at p past)) (not (is_beyond l q)) ((located_at l past p q).to == to) ((located_at l past p q).hop == hop) (not (to == p)) (suits_site l past to x)
  act_holds (Told x a) = one (is_to_be_told p a (progress (about x past)))
  act_holds (Heard x a) = turned (is_asked_from l p (post_of x past)) (is_to_be_heard a (progress (about x past)))
  act_holds (Take q n x) = taking_is (is_held_at p (fate (on q past))) (taken_so_far n (fate (on q past))) (is_accepted_at n x (fate (on q past))) ∙ ap (λ b. is_held_at p (fate (on q past)) && b) (first_is n x (fate (on q past)))
  act_holds (Done n) = two (is_taken_by s n (just_taken past (at p past))) (ends_call s n (call (by s past)) (just_taken past (at p past)))
  act_holds (Late n) = two (is_taken_by s n (just_taken past (at p past))) (not (ends_call s n (call (by s past)) (just_taken past (at p past))))
  act_holds (Empty q) = two (is_held_at p (fate (on q past))) (is_empty (fate (on q past)))
  act_holds (NotHere q) = refl
  act_holds (Rehome q a) = three (is_held_at p (fate (on q past))) (has_actor l a) (a.site == site_of l p)
  act_holds (Depart q to a hop) = five (is_held_at p (fate (on q past))) (has_actor l a) (not (a.site == site_of l p)) (to == place_at l a.site q) (is_next_hop hop (fate (on q past)))
  act_holds (Arrive q hop) = one (is_coming p hop (fate (on q past)))
  act_holds (GroupMake g) = group_making_is (is_group_place l g p) (g.number == groups_made (at p past) + 1) (nat_le g.number GROUPS_PER_SITE_LIMIT)
  act_holds (GroupsFull n) = three (has_site l n) (first_place l n == p) (groups_made (at p past) == GROUPS_PER_SITE_LIMIT)
  act_holds (Join g q) = joining_is (is_group_place l g p) (is_group g (at p past)) (not (is_member q (members g (at p past)))) (nat_lt (length (members g (at p past))) MEMBERS_LIMIT)
  act_holds (Leave g q) = three (is_group_place l g p) (is_group g (at p past)) (is_member q (members g (at p past)))
  act_holds (NoGroup g) = one (not (is_group g past))
  act_holds (There g q) = three (is_group_place l g p) (is_group g (at p past)) (is_member q (members g (at p past)))
  act_holds (NotThere g q) = three (is_group_place l g p) (is_group g (at p past)) (not (is_member q (members g (at p past))))
  act_holds (MembersFull g) = three (is_group_place l g p) (is_group g (at p past)) (length (members g (at p past)) == MEMBERS_LIMIT)
  act_holds (Outstanding n) = one (is_number n (call (by s past)))
  act_holds NoCall = one (is_none (call (by s past)))
  act_holds NoRequest = one (is_none (hand past (by s past)))
  act_holds (Cancel n) = one (is_number n (call (by s past)))
  act_holds (Delete q xs) = two (is_held_at p (fate (on q past))) (are_waiting xs (fate (on q past)))
  act_holds (Gone x q) = turned (is_due (due_at l past p x q)) (is_ended_at p (fate (on q past)))

pub conditions_are : ConditionsAreTheRules
conditions_are = record {
  acts = λ l past p s act. act_holds l past p s act;
  clocks = λ l past e. two (has_place l e.place) (nat_lt (last_clock (at e.place past)) e.clock);
}
