-- In any past, at most one act answers a command as the next entry of a run: the one that the views tell.
use Rattle.std.proofs.Common.{ℕ, zero, suc, ◌≡◌, ◌<◌, ◌≤◌, ◌+◌, Bool, true, false, ◌==◌, nat_le, nat_lt, ◌&&◌, ◌||◌, not, cond, List, [], ◌∷◌, length, drop, Option, Some, None, is_none, is_some, refl, sym, ◌∙◌, ap, subst, inl, inr, arith}
use Rattle.std.specs.Prelude.{slice_get}
use Rattle.std.proofs.lemmas.Bool.{eqb-true, eq-eqb, false≢true, true≢false, and_parts, or_cases, or_left, or_right, not-true, leb-true, ltb-true, le-leb, false_from_ne_true}
use Rattle.chorus_ui.specs.declared.kind.Kind.{Kind}
use Rattle.chorus_ui.specs.declared.kind.Kind.TheVariants as kinds
use Rattle.chorus_ui.specs.declared.ui.Ui.{Ui}
use Rattle.chorus_ui.specs.declared.layout.Layout.{Layout}
use Rattle.chorus_ui.specs.declared.limits.TheConstants.{GROUPS_PER_SITE_LIMIT, MEMBERS_LIMIT, PENDING_LIMIT}
use Rattle.chorus_ui.specs.Name.{same_ui}
use Rattle.chorus_ui.specs.Layout.{has_site, has_actor, place_at, first_place, site_of}
use Rattle.chorus_ui.proofs.Names.{from_same_kind, from_same_ui}
use Rattle.chorus_entry.specs.declared.entry.Entry.{Entry}
use Rattle.chorus_entry.specs.declared.hand.Hand.{Hand}
use Rattle.chorus_entry.specs.declared.id.MsgId.{MsgId}
use Rattle.chorus_entry.specs.declared.tag.Tag.{Tag}
use Rattle.chorus_entry.specs.declared.tag.Tag.TheVariants as tags
use Rattle.chorus_entry.specs.declared.dest.Dest.{Dest}
use Rattle.chorus_entry.specs.declared.dest.Dest.TheVariants as dests
use Rattle.chorus_entry.specs.declared.message.Message.{Message}
use Rattle.chorus_entry.specs.declared.command.Command.{Command}
use Rattle.chorus_entry.specs.declared.act.Act.{Act}
use Rattle.chorus_entry.specs.declared.act.Act.TheVariants.{Make, MakeFull, NoActor, NoSite, Post, Take, Empty, NotHere, Rehome, Depart, GroupMake, GroupsFull, Join, Leave, NoGroup, There, NotThere, MembersFull, Outstanding, NoCall, NoRequest, Cancel, Delete}
use Rattle.chorus_entry.specs.Body.{same_body}
use Rattle.chorus_entry.specs.Dest.{same_dest}
use Rattle.chorus_entry.specs.MsgId.{same_id}
use Rattle.chorus_ui.specs.NameKind.{is_actor, is_port}
use Rattle.chorus_entry.specs.Kinds.{has_kinds}
use Rattle.chorus_entry.proofs.Same.{from_same_id, from_same_dest, from_same_body, from_same_ids}
use Rattle.chorus_world.specs.Views.{views, at, by, on, is_group, makes_group}
use Rattle.chorus_entry.specs.Order.{is_at}
use Rattle.chorus_entry.specs.Same.{is_number, are_same}
use Rattle.chorus_entry.specs.Members.{is_member}
use Rattle.chorus_world.specs.Ports.{PortState, fate, is_held_at, is_first_waiting, is_empty, are_waiting, is_next_hop}
use Rattle.chorus_world.specs.Groups.{groups_made, members, is_group_place}
use Rattle.chorus_world.specs.Seats.{Call, posts, posts_stay, requests, call, first_call, call_in, same_call, hand, same_hand}
use Rattle.chorus_world.specs.Steps.{act_may, is_home, is_full_of_ports, next_number, may_tag, reply_to, is_group_at}
use Rattle.chorus_world.specs.Runs.{is_held_at_by, fits_caller}
use Rattle.chorus_world.specs.Commands.{is_plain, is_reply, is_new_request, is_request_again, act_answers}
use Rattle.chorus_world.proofs.Messages.PostLemmas.{post_needs}
use Rattle.chorus_world.specs.Answer.{make_for, group_for, join_for, leave_for, take_first, take_from, delete_from, hops, move_from, where_held, next_post, call_for, retry_as, retry_for, cancel_for, reply_for, answer_at}

first-of : (b : Bool) (x y : Act) → b ≡ true → cond b x y ≡ x
first-of b x y h = ap (λ t. cond t x y) h

second-of : (b c : Bool) (x y z : Act) → b ≡ false → c ≡ true → cond b x (cond c y z) ≡ y
second-of b c x y z h k = ap (λ t. cond t x (cond c y z)) h ∙ ap (λ t. cond t y z) k

last-of : (b c : Bool) (x y z : Act) → b ≡ false → c ≡ false → cond b x (cond c y z) ≡ z
last-of b c x y z h k = ap (λ t. cond t x (cond c y z)) h ∙ ap (λ t. cond t y z) k

there-is : (b : Bool) → b ≡ true → not b ≡ false
there-is b h = ap not h

no : {A : Type 0} → false ≡ true → A
no h = absurd (false≢true h)

ui-is : (q : Ui) (s n : ℕ) (kind : Kind) → q.site ≡ s → q.kind ≡ kind → q.number ≡ n → q ≡ record { site = s; kind = kind; number = n }
ui-is q s n kind e f g = λ i. record { site = e i; kind = f i; number = g i }

group-at : (g : Ui) (p : ℕ) (past : List Entry) → is_group g (at p past) ≡ true → is_group g past ≡ true
group-at g p [] h = h
group-at g p (e ∷ past) h = go (is_at p e) h (group-at g p past)
  where
    go : (b : Bool) → is_group g (cond b (e ∷ at p past) (at p past)) ≡ true → (is_group g (at p past) ≡ true → is_group g past ≡ true) → makes_group g e.act || is_group g past ≡ true
    go false k ih = or_right (makes_group g e.act) (is_group g past) (ih k)
    go true k ih =
        elim (or_cases (makes_group g e.act) (is_group g (at p past)) k) [
          | inl now ↦ or_left (makes_group g e.act) (is_group g past) now
          | inr old ↦ or_right (makes_group g e.act) (is_group g past) (ih old)
        ]

module _ (l : Layout) (past : List Entry) (p k : ℕ) (a : Ui) where
  pub record Fitting (c : Command) (x : Act) : Type 0 where
    pub kinds : has_kinds x ≡ true
    pub may : act_may l (views past p k x) p k x ≡ true
    pub fits : fits_caller past p a x ≡ true
    pub answers : act_answers past p k a c x ≡ true

  only-make : (actor : Ui) (capacity : ℕ) (x : Act) → Fitting (Command.Make actor capacity) x → x ≡ make_for l p (at p past) actor capacity
  only-make actor capacity (Make q b n) f =
      let here = at p past in
      let five = and_parts (is_home l b p && nat_le 1 n && nat_le n PENDING_LIMIT && not (is_full_of_ports l here) && (q.site == b.site)) (q.number == next_number l p here) f.may in
      let four = and_parts (is_home l b p && nat_le 1 n && nat_le n PENDING_LIMIT && not (is_full_of_ports l here)) (q.site == b.site) five.0 in
      let three = and_parts (is_home l b p && nat_le 1 n && nat_le n PENDING_LIMIT) (not (is_full_of_ports l here)) four.0 in
      let two = and_parts (is_home l b p && nat_le 1 n) (nat_le n PENDING_LIMIT) three.0 in
      let one = and_parts (is_home l b p) (nat_le 1 n) two.0 in
      let home = and_parts (has_actor l b) (place_at l b.site b == p) one.0 in
      let same = and_parts (same_ui b actor) (n == capacity) f.answers in
      let actor_is : b ≡ actor = from_same_ui b actor same.0 in
      let name = ui-is q actor.site (next_number l p here) kinds.Port (eqb-true q.site b.site four.1 ∙ ap (λ (u : Ui). u.site) actor_is) (from_same_kind q.kind kinds.Port (and_parts (is_port q) (is_actor b) f.kinds).0) (eqb-true q.number (next_number l p here) five.1) in
      (λ i. Make (name i) (actor_is i) (eqb-true n capacity same.1 i))
      ∙ sym (last-of (not (has_actor l actor)) (is_full_of_ports l here) (NoActor actor) (MakeFull actor) (Make (record { site = actor.site; kind = kinds.Port; number = next_number l p here }) actor capacity)
      (there-is (has_actor l actor) (subst (λ (u : Ui). has_actor l u ≡ true) actor_is home.0)) (not-true (is_full_of_ports l here) three.1))
  only-make actor capacity (MakeFull b) f =
      let here = at p past in
      let two = and_parts (is_home l b p) (is_full_of_ports l here) f.may in
      let home = and_parts (has_actor l b) (place_at l b.site b == p) two.0 in
      let actor_is : b ≡ actor = from_same_ui b actor f.answers in
      ap (λ (u : Ui). MakeFull u) actor_is
      ∙ sym (second-of (not (has_actor l actor)) (is_full_of_ports l here) (NoActor actor) (MakeFull actor) (Make (record { site = actor.site; kind = kinds.Port; number = next_number l p here }) actor capacity)
      (there-is (has_actor l actor) (subst (λ (u : Ui). has_actor l u ≡ true) actor_is home.0)) two.1)
  only-make actor capacity (NoActor b) f =
      let actor_is : b ≡ actor = from_same_ui b actor f.answers in
      ap (λ (u : Ui). NoActor u) actor_is
      ∙ sym (first-of (not (has_actor l actor)) (NoActor actor) (cond (is_full_of_ports l (at p past)) (MakeFull actor) (Make (record { site = actor.site; kind = kinds.Port; number = next_number l p (at p past) }) actor capacity))
      (subst (λ (u : Ui). not (has_actor l u) ≡ true) actor_is f.may))
  only-make actor capacity _ f = no f.answers

  only-group : (site : ℕ) (x : Act) → Fitting (Command.GroupMake site) x → x ≡ group_for l (at p past) site
  only-group site (GroupMake g) f =
      let here = at p past in
      let two = and_parts (is_group_place l g p && (g.number == groups_made here + 1)) (nat_le g.number GROUPS_PER_SITE_LIMIT) f.may in
      let one = and_parts (is_group_place l g p) (g.number == groups_made here + 1) two.0 in
      let site_is : g.site ≡ site = eqb-true g.site site f.answers in
      let number : g.number ≡ groups_made here + 1 = eqb-true g.number (groups_made here + 1) one.1 in
      let room : g.number ≤ GROUPS_PER_SITE_LIMIT = leb-true g.number GROUPS_PER_SITE_LIMIT two.1 in
      let name = ui-is g site (groups_made here + 1) kinds.Group site_is (from_same_kind g.kind kinds.Group f.kinds) number in
      ap (λ (u : Ui). GroupMake u) name
      ∙ sym (last-of (not (has_site l site)) (nat_le GROUPS_PER_SITE_LIMIT (groups_made here)) (NoSite site) (GroupsFull site) (GroupMake (record { site = site; kind = kinds.Group; number = groups_made here + 1 }))
      (there-is (has_site l site) (subst (λ (n : ℕ). has_site l n ≡ true) site_is (site-there g one.0)))
      (false_from_ne_true (nat_le GROUPS_PER_SITE_LIMIT (groups_made here)) (λ h. let le = leb-true GROUPS_PER_SITE_LIMIT (groups_made here) h in omega (arith, le, room, number))))
    where
      site-there : (u : Ui) → is_group_place l u p ≡ true → has_site l u.site ≡ true
      site-there u h = go (has_site l u.site) h
        where
          go : (b : Bool) → is_number p (cond b (Some (first_place l u.site)) None) ≡ true → b ≡ true
          go true e = refl
          go false e = absurd (false≢true e)
  only-group site (GroupsFull n) f =
      let here = at p past in
      let two = and_parts (has_site l n && (first_place l n == p)) (groups_made here == GROUPS_PER_SITE_LIMIT) f.may in
      let one = and_parts (has_site l n) (first_place l n == p) two.0 in
      let site_is : n ≡ site = eqb-true n site f.answers in
      let full : groups_made here ≡ GROUPS_PER_SITE_LIMIT = eqb-true (groups_made here) GROUPS_PER_SITE_LIMIT two.1 in
      ap (λ (i : ℕ). GroupsFull i) site_is
      ∙ sym (second-of (not (has_site l site)) (nat_le GROUPS_PER_SITE_LIMIT (groups_made here)) (NoSite site) (GroupsFull site) (GroupMake (record { site = site; kind = kinds.Group; number = groups_made here + 1 }))
      (there-is (has_site l site) (subst (λ (i : ℕ). has_site l i ≡ true) site_is one.0)) (le-leb GROUPS_PER_SITE_LIMIT (groups_made here) (omega (arith, full))))
  only-group site (NoSite n) f =
      let site_is : n ≡ site = eqb-true n site f.answers in
      ap (λ (i : ℕ). NoSite i) site_is
      ∙ sym (first-of (not (has_site l site)) (NoSite site) (cond (nat_le GROUPS_PER_SITE_LIMIT (groups_made (at p past))) (GroupsFull site) (GroupMake (record { site = site; kind = kinds.Group; number = groups_made (at p past) + 1 })))
      (subst (λ (i : ℕ). not (has_site l i) ≡ true) site_is f.may))
  only-group site _ f = no f.answers

  post-is : (m : Message) (d e : Dest) (tag : Tag) (body : List ℕ) → act_may l (views past p k (Post m d)) p k (Post m d) ≡ true → m.tag ≡ tag → m.body ≡ body → d ≡ e → Post m d ≡ next_post k (by k past) tag body e
  post-is m d e tag body h t b same =
      let needs = post_needs l past p k m d h in
      λ i. Post (record { id = record { seat = needs.seat i; number = needs.number i; copy = needs.copy i }; tag = t i; body = b i }) (same i)

  only-send : (d : Dest) (body : List ℕ) (x : Act) → Fitting (Command.Send d body) x → x ≡ next_post k (by k past) tags.Plain body d
  only-send d body (Post m e) f =
      let two = and_parts (is_plain m.tag && same_dest e d) (same_body m.body body) f.answers in
      let one = and_parts (is_plain m.tag) (same_dest e d) two.0 in
      post-is m e d tags.Plain body f.may (plain m.tag one.0) (from_same_body m.body body two.1) (from_same_dest e d one.1)
    where
      plain : (t : Tag) → is_plain t ≡ true → t ≡ tags.Plain
      plain tags.Plain h = refl
      plain (tags.Request n b) h = absurd (false≢true h)
      plain (tags.Reply c n) h = absurd (false≢true h)
  only-send d body _ f = no f.answers

  only-cancel : (x : Act) → Fitting Command.Cancel x → x ≡ cancel_for (call (by k past))
  only-cancel (Cancel n) f = go (call (by k past)) f.may
    where
      go : (o : Option ℕ) → is_number n o ≡ true → Cancel n ≡ cancel_for o
      go None h = absurd (false≢true h)
      go (Some m) h = ap (λ (i : ℕ). Cancel i) (sym (eqb-true m n h))
  only-cancel NoCall f = go (call (by k past)) f.may
    where
      go : (o : Option ℕ) → is_none o ≡ true → NoCall ≡ cancel_for o
      go None h = refl
      go (Some m) h = absurd (false≢true h)
  only-cancel _ f = no f.answers

  -- of a group that is not made anywhere none is made here
  unmade : (g h : Ui) → not (is_group g past) ≡ true → g ≡ h → not (is_group h (at p past)) ≡ true
  unmade g h n same =
      ap not (false_from_ne_true (is_group h (at p past)) (λ t. true≢false (sym (group-at h p past t) ∙ ap (λ (u : Ui). is_group u past) (sym same) ∙ not-true (is_group g past) n)))

  made : (g h : Ui) → is_group_at l (views past p k (NoGroup g)) p g ≡ true → g ≡ h → not (is_group h (at p past)) ≡ false
  made g h t same =
      there-is (is_group h (at p past)) (subst (λ (u : Ui). is_group u (at p past) ≡ true) same (and_parts (is_group_place l g p) (is_group g (at p past)) t).1)

  only-join : (g q : Ui) (x : Act) → Fitting (Command.Join g q) x → x ≡ join_for (at p past) g q
  only-join g q (Join h r) f =
      let here = at p past in
      let same = and_parts (same_ui h g) (same_ui r q) f.answers in
      let gs = from_same_ui h g same.0 in
      let qs = from_same_ui r q same.1 in
      let two = and_parts (is_group_at l (views past p k (Join h r)) p h && not (is_member r (members h here))) (nat_lt (length (members h here)) MEMBERS_LIMIT) f.may in
      let one = and_parts (is_group_at l (views past p k (Join h r)) p h) (not (is_member r (members h here))) two.0 in
      let apart : is_member q (members g here) ≡ false = subst (λ (u : Ui). is_member u (members g here) ≡ false) qs (subst (λ (u : Ui). is_member r (members u here) ≡ false) gs (not-true (is_member r (members h here)) one.1)) in
      let room : nat_le MEMBERS_LIMIT (length (members g here)) ≡ false = false_from_ne_true (nat_le MEMBERS_LIMIT (length (members g here))) (λ t. let le = leb-true MEMBERS_LIMIT (length (members g here)) t in let lt : length (members g here) < MEMBERS_LIMIT = subst (λ (u : Ui). length (members u here) < MEMBERS_LIMIT) gs (ltb-true (length (members h here)) MEMBERS_LIMIT two.1) in omega (arith, le, lt)) in
      (λ i. Join (gs i) (qs i))
      ∙ sym (last-of (not (is_group g here)) (is_member q (members g here)) (NoGroup g) (There g q) (cond (nat_le MEMBERS_LIMIT (length (members g here))) (MembersFull g) (Join g q)) (made h g one.0 gs) apart
      ∙ ap (λ b. cond b (MembersFull g) (Join g q)) room)
  only-join g q (There h r) f =
      let here = at p past in
      let same = and_parts (same_ui h g) (same_ui r q) f.answers in
      let gs = from_same_ui h g same.0 in
      let qs = from_same_ui r q same.1 in
      let one = and_parts (is_group_at l (views past p k (There h r)) p h) (is_member r (members h here)) f.may in
      let in_ : is_member q (members g here) ≡ true = subst (λ (u : Ui). is_member u (members g here) ≡ true) qs (subst (λ (u : Ui). is_member r (members u here) ≡ true) gs one.1) in
      (λ i. There (gs i) (qs i))
      ∙ sym (second-of (not (is_group g here)) (is_member q (members g here)) (NoGroup g) (There g q) (cond (nat_le MEMBERS_LIMIT (length (members g here))) (MembersFull g) (Join g q)) (made h g one.0 gs) in_)
  only-join g q (NoGroup h) f =
      let gs = from_same_ui h g f.answers in
      ap (λ (u : Ui). NoGroup u) gs
      ∙ sym (first-of (not (is_group g (at p past))) (NoGroup g) (cond (is_member q (members g (at p past))) (There g q) (cond (nat_le MEMBERS_LIMIT (length (members g (at p past)))) (MembersFull g) (Join g q))) (unmade h g f.may gs))
  only-join g q (MembersFull h) f =
      let here = at p past in
      let same = and_parts (same_ui h g) (not (is_member q (members g here))) f.answers in
      let gs = from_same_ui h g same.0 in
      let one = and_parts (is_group_at l (views past p k (MembersFull h)) p h) (length (members h here) == MEMBERS_LIMIT) f.may in
      let full : nat_le MEMBERS_LIMIT (length (members g here)) ≡ true = le-leb MEMBERS_LIMIT (length (members g here)) (let n : length (members g here) ≡ MEMBERS_LIMIT = subst (λ (u : Ui). length (members u here) ≡ MEMBERS_LIMIT) gs (eqb-true (length (members h here)) MEMBERS_LIMIT one.1) in omega (arith, n)) in
      ap (λ (u : Ui). MembersFull u) gs
      ∙ sym (last-of (not (is_group g here)) (is_member q (members g here)) (NoGroup g) (There g q) (cond (nat_le MEMBERS_LIMIT (length (members g here))) (MembersFull g) (Join g q)) (made h g one.0 gs) (not-true (is_member q (members g here)) same.1)
      ∙ ap (λ b. cond b (MembersFull g) (Join g q)) full)
  only-join g q _ f = no f.answers

  only-leave : (g q : Ui) (x : Act) → Fitting (Command.Leave g q) x → x ≡ leave_for (at p past) g q
  only-leave g q (Leave h r) f =
      let here = at p past in
      let same = and_parts (same_ui h g) (same_ui r q) f.answers in
      let gs = from_same_ui h g same.0 in
      let qs = from_same_ui r q same.1 in
      let one = and_parts (is_group_at l (views past p k (Leave h r)) p h) (is_member r (members h here)) f.may in
      (λ i. Leave (gs i) (qs i))
      ∙ sym (second-of (not (is_group g here)) (is_member q (members g here)) (NoGroup g) (Leave g q) (NotThere g q) (made h g one.0 gs)
      (subst (λ (u : Ui). is_member u (members g here) ≡ true) qs (subst (λ (u : Ui). is_member r (members u here) ≡ true) gs one.1)))
  only-leave g q (NotThere h r) f =
      let here = at p past in
      let same = and_parts (same_ui h g) (same_ui r q) f.answers in
      let gs = from_same_ui h g same.0 in
      let qs = from_same_ui r q same.1 in
      let one = and_parts (is_group_at l (views past p k (NotThere h r)) p h) (not (is_member r (members h here))) f.may in
      (λ i. NotThere (gs i) (qs i))
      ∙ sym (last-of (not (is_group g here)) (is_member q (members g here)) (NoGroup g) (Leave g q) (NotThere g q) (made h g one.0 gs)
      (subst (λ (u : Ui). is_member u (members g here) ≡ false) qs (subst (λ (u : Ui). is_member r (members u here) ≡ false) gs (not-true (is_member r (members h here)) one.1))))
  only-leave g q (NoGroup h) f =
      let gs = from_same_ui h g f.answers in
      ap (λ (u : Ui). NoGroup u) gs
      ∙ sym (first-of (not (is_group g (at p past))) (NoGroup g) (cond (is_member q (members g (at p past))) (Leave g q) (NotThere g q)) (unmade h g f.may gs))
  only-leave g q _ f = no f.answers

  -- where the actor holds the port
  held-is : (q : Ui) (x y : Act) → is_held_at_by p a (fate (on q past)) ≡ true → x ≡ y → x ≡ where_held q (is_held_at_by p a (fate (on q past))) y
  held-is q x y h e = e ∙ sym (ap (λ b. cond b y (NotHere q)) h)

  not-held : (q r : Ui) (y : Act) → not (is_held_at_by p a (fate (on r past))) ≡ true → r ≡ q → NotHere r ≡ where_held q (is_held_at_by p a (fate (on q past))) y
  not-held q r y h e =
      ap (λ (u : Ui). NotHere u) e
      ∙ sym (ap (λ b. cond b y (NotHere q)) (subst (λ (u : Ui). is_held_at_by p a (fate (on u past)) ≡ false) e (not-true (is_held_at_by p a (fate (on r past))) h)))

  only-take : (q : Ui) (x : Act) → Fitting (Command.Take q) x → x ≡ where_held q (is_held_at_by p a (fate (on q past))) (take_from q (fate (on q past)))
  only-take q (Take r n x) f =
      let same = from_same_ui r q f.answers in
      let two = and_parts (is_held_at p (fate (on r past))) (is_first_waiting n x (fate (on r past))) f.may in
      held-is q (Take r n x) (take_from q (fate (on q past))) (subst (λ (u : Ui). is_held_at_by p a (fate (on u past)) ≡ true) same f.fits)
      (ap (λ (u : Ui). Take u n x) same ∙ go (fate (on q past)) (subst (λ (u : Ui). is_first_waiting n x (fate (on u past)) ≡ true) same two.1))
    where
      pick : (m : ℕ) (o : Option MsgId) → n ≡ m → are_same same_id (Some x) o ≡ true → Take q n x ≡ take_first q m o
      pick m None e h = absurd (false≢true h)
      pick m (Some y) e h = (λ i. Take q (e i) (from_same_id x y h i))

      go : (o : Option PortState) → is_first_waiting n x o ≡ true → Take q n x ≡ take_from q o
      go None h = absurd (false≢true h)
      go (Some g) h =
          let two = and_parts (n == g.taken) (are_same same_id (Some x) (slice_get g.accepted n)) h in
          let e : n ≡ g.taken = eqb-true n g.taken two.0 in
          pick g.taken (slice_get g.accepted g.taken) e (subst (λ (i : ℕ). are_same same_id (Some x) (slice_get g.accepted i) ≡ true) e two.1)
  only-take q (Empty r) f =
      let same = from_same_ui r q f.answers in
      let two = and_parts (is_held_at p (fate (on r past))) (is_empty (fate (on r past))) f.may in
      held-is q (Empty r) (take_from q (fate (on q past))) (subst (λ (u : Ui). is_held_at_by p a (fate (on u past)) ≡ true) same f.fits)
      (ap (λ (u : Ui). Empty u) same ∙ go (fate (on q past)) (subst (λ (u : Ui). is_empty (fate (on u past)) ≡ true) same two.1))
    where
      past-end : (xs : List MsgId) (n : ℕ) → n ≡ length xs → slice_get xs n ≡ None
      past-end [] n e = refl
      past-end (y ∷ xs) zero e = absurd (omega (arith, e))
      past-end (y ∷ xs) (suc n) e = past-end xs n (omega (arith, e))

      go : (o : Option PortState) → is_empty o ≡ true → Empty q ≡ take_from q o
      go None h = absurd (false≢true h)
      go (Some g) h = sym (ap (take_first q g.taken) (past-end g.accepted g.taken (eqb-true g.taken (length g.accepted) h)))
  only-take q (NotHere r) f = not-held q r (take_from q (fate (on q past))) f.fits (from_same_ui r q f.answers)
  only-take q _ f = no f.answers

  only-delete : (q : Ui) (x : Act) → Fitting (Command.Delete q) x → x ≡ where_held q (is_held_at_by p a (fate (on q past))) (delete_from q (fate (on q past)))
  only-delete q (Delete r xs) f =
      let same = from_same_ui r q f.answers in
      let two = and_parts (is_held_at p (fate (on r past))) (are_waiting xs (fate (on r past))) f.may in
      held-is q (Delete r xs) (delete_from q (fate (on q past))) (subst (λ (u : Ui). is_held_at_by p a (fate (on u past)) ≡ true) same f.fits)
      (ap (λ (u : Ui). Delete u xs) same ∙ go (fate (on q past)) (subst (λ (u : Ui). are_waiting xs (fate (on u past)) ≡ true) same two.1))
    where
      go : (o : Option PortState) → are_waiting xs o ≡ true → Delete q xs ≡ delete_from q o
      go None h = absurd (false≢true h)
      go (Some g) h = ap (Delete q) (from_same_ids xs (drop g.taken g.accepted) h)
  only-delete q (NotHere r) f = not-held q r (delete_from q (fate (on q past))) f.fits (from_same_ui r q f.answers)
  only-delete q _ f = no f.answers

  only-move : (q actor : Ui) (x : Act) → Fitting (Command.Move q actor) x → x ≡ where_held q (is_held_at_by p a (fate (on q past))) (move_from l p q actor (hops (fate (on q past))))
  only-move q actor (Rehome r b) f =
      let same = and_parts (same_ui r q) (same_ui b actor) f.answers in
      let qs = from_same_ui r q same.0 in
      let bs = from_same_ui b actor same.1 in
      let two = and_parts (is_held_at p (fate (on r past)) && has_actor l b) (b.site == site_of l p) f.may in
      let one = and_parts (is_held_at p (fate (on r past))) (has_actor l b) two.0 in
      held-is q (Rehome r b) (move_from l p q actor (hops (fate (on q past)))) (subst (λ (u : Ui). is_held_at_by p a (fate (on u past)) ≡ true) qs f.fits)
      ((λ i. Rehome (qs i) (bs i))
      ∙ sym (second-of (not (has_actor l actor)) (actor.site == site_of l p) (NoActor actor) (Rehome q actor) (Depart q (place_at l actor.site q) actor (hops (fate (on q past))))
      (there-is (has_actor l actor) (subst (λ (u : Ui). has_actor l u ≡ true) bs one.1)) (subst (λ (u : Ui). (u.site == site_of l p) ≡ true) bs two.1)))
  only-move q actor (Depart r to b hop) f =
      let same = and_parts (same_ui r q) (same_ui b actor) f.answers in
      let qs = from_same_ui r q same.0 in
      let bs = from_same_ui b actor same.1 in
      let four = and_parts (is_held_at p (fate (on r past)) && has_actor l b && not (b.site == site_of l p) && (to == place_at l b.site r)) (is_next_hop hop (fate (on r past))) f.may in
      let three = and_parts (is_held_at p (fate (on r past)) && has_actor l b && not (b.site == site_of l p)) (to == place_at l b.site r) four.0 in
      let two = and_parts (is_held_at p (fate (on r past)) && has_actor l b) (not (b.site == site_of l p)) three.0 in
      let one = and_parts (is_held_at p (fate (on r past))) (has_actor l b) two.0 in
      let to_is : to ≡ place_at l actor.site q = eqb-true to (place_at l b.site r) three.1 ∙ ap (λ (u : Ui). place_at l u.site r) bs ∙ ap (λ (u : Ui). place_at l actor.site u) qs in
      let hop_is : hop ≡ hops (fate (on q past)) = hop-of (fate (on q past)) (subst (λ (u : Ui). is_next_hop hop (fate (on u past)) ≡ true) qs four.1) in
      held-is q (Depart r to b hop) (move_from l p q actor (hops (fate (on q past)))) (subst (λ (u : Ui). is_held_at_by p a (fate (on u past)) ≡ true) qs f.fits)
      ((λ i. Depart (qs i) (to_is i) (bs i) (hop_is i))
      ∙ sym (last-of (not (has_actor l actor)) (actor.site == site_of l p) (NoActor actor) (Rehome q actor) (Depart q (place_at l actor.site q) actor (hops (fate (on q past))))
      (there-is (has_actor l actor) (subst (λ (u : Ui). has_actor l u ≡ true) bs one.1)) (subst (λ (u : Ui). (u.site == site_of l p) ≡ false) bs (not-true (b.site == site_of l p) two.1))))
    where
      hop-of : (o : Option PortState) → is_next_hop hop o ≡ true → hop ≡ hops o
      hop-of None h = absurd (false≢true h)
      hop-of (Some g) h = eqb-true hop (length g.path) h
  only-move q actor (NoActor b) f =
      let same = and_parts (same_ui b actor) (is_held_at_by p a (fate (on q past))) f.answers in
      let bs = from_same_ui b actor same.0 in
      held-is q (NoActor b) (move_from l p q actor (hops (fate (on q past)))) same.1
      (ap (λ (u : Ui). NoActor u) bs
      ∙ sym (first-of (not (has_actor l actor)) (NoActor actor) (cond (actor.site == site_of l p) (Rehome q actor) (Depart q (place_at l actor.site q) actor (hops (fate (on q past)))))
      (subst (λ (u : Ui). not (has_actor l u) ≡ true) bs f.may)))
  only-move q actor (NotHere r) f = not-held q r (move_from l p q actor (hops (fate (on q past)))) f.fits (from_same_ui r q f.answers)
  only-move q actor _ f = no f.answers

  -- what a post's tag needs
  tag-may : (m : Message) (d : Dest) → act_may l (views past p k (Post m d)) p k (Post m d) ≡ true → may_tag (views past p k (Post m d)) m d m.tag ≡ true
  tag-may m d h =
      (and_parts ((m.id.seat == k) && (m.id.number == posts (by k past) + 1) && (m.id.copy == 0) && posts_stay p (by k past)) (may_tag (views past p k (Post m d)) m d m.tag) h).1

  number-is : (n : ℕ) (o : Option ℕ) → is_number n o ≡ true → o ≡ Some n
  number-is n None h = absurd (false≢true h)
  number-is n (Some m) h = ap (λ (i : ℕ). Some i) (eqb-true m n h)

  none-is : {A : Type 0} (o : Option A) → is_none o ≡ true → o ≡ None
  none-is None h = refl
  none-is (Some x) h = absurd (false≢true h)

  only-call : (q back : Ui) (body : List ℕ) (x : Act) → Fitting (Command.Call q back body) x → x ≡ call_for k (by k past) q back body (call (by k past))
  only-call q back body (Post m d) f =
      let two = and_parts (is_new_request back (by k past) m.tag && same_dest d (dests.Port q)) (same_body m.body body) f.answers in
      let one = and_parts (is_new_request back (by k past) m.tag) (same_dest d (dests.Port q)) two.0 in
      let new = tag-new m.tag one.0 (tag-may m d f.may) in
      post-is m d (dests.Port q) (tags.Request (requests (by k past) + 1) back) body f.may new.1 (from_same_body m.body body two.1) (from_same_dest d (dests.Port q) one.1)
      ∙ sym (ap (call_for k (by k past) q back body) new.0)
    where
      no-first : (o p_ : Option Call) → is_none o ≡ true → are_same same_call o p_ ≡ true → ⊥
      no-first None p_ h g = false≢true g
      no-first (Some c) p_ h g = false≢true h

      tag-new : (u : Tag) → is_new_request back (by k past) u ≡ true → may_tag (views past p k (Post m d)) m d u ≡ true → (call (by k past) ≡ None) × (u ≡ tags.Request (requests (by k past) + 1) back)
      tag-new tags.Plain h g = absurd (false≢true h)
      tag-new (tags.Reply c n) h g = absurd (false≢true h)
      tag-new (tags.Request n b) h g =
          let mine = by k past in
          let fresh = and_parts (same_ui b back) (is_none (first_call n mine)) h in
          let first = is_none (call mine) && (n == requests mine + 1) in
          let again = is_number n (call mine) && are_same same_call (first_call n mine) (call_in n m.tag d m.body) in
          elim (or_cases first again (and_parts (is_some (call_in n m.tag d m.body)) (first || again) g).1) [
            | inl new ↦ (
                let both = and_parts (is_none (call mine)) (n == requests mine + 1) new in
                (none-is (call mine) both.0, λ i. tags.Request (eqb-true n (requests mine + 1) both.1 i) (from_same_ui b back fresh.0 i)))
            | inr old ↦
                absurd (no-first (first_call n mine) (call_in n m.tag d m.body) fresh.1 (and_parts (is_number n (call mine)) (are_same same_call (first_call n mine) (call_in n m.tag d m.body)) old).1)
          ]
  only-call q back body (Outstanding n) f =
      sym (ap (call_for k (by k past) q back body) (number-is n (call (by k past)) f.may))
  only-call q back body _ f = no f.answers

  only-retry : (x : Act) → Fitting Command.Retry x → x ≡ retry_for k (by k past) (call (by k past))
  only-retry NoCall f = sym (ap (retry_for k (by k past)) (none-is (call (by k past)) f.may))
  only-retry (Post m d) f = go m.tag refl f.answers (tag-may m d f.may)
    where
      same-post : (n : ℕ) (b : Ui) (e : Dest) (o : Option Call) → m.tag ≡ tags.Request n b → d ≡ e → are_same same_call o (call_in n (tags.Request n b) e m.body) ≡ true → Post m d ≡ retry_as k (by k past) n o
      same-post n b e None is to h = absurd (false≢true h)
      same-post n b (dests.Port q) (Some c) is to h =
          let now : are_same same_call (Some c) (Some (record { port = q; back = b; body = m.body })) ≡ true = ap (λ t. are_same same_call (Some c) (cond t (Some (record { port = q; back = b; body = m.body })) None)) (sym (eq-eqb n n refl)) ∙ h in
          let two = and_parts (same_ui c.port q && same_ui c.back b) (same_body c.body m.body) now in
          let one = and_parts (same_ui c.port q) (same_ui c.back b) two.0 in
          post-is m d (dests.Port c.port) (tags.Request n c.back) c.body f.may (is ∙ ap (λ (u : Ui). tags.Request n u) (sym (from_same_ui c.back b one.1))) (sym (from_same_body c.body m.body two.1)) (to ∙ ap (λ (u : Ui). dests.Port u) (sym (from_same_ui c.port q one.0)))
      same-post n b (dests.All g) (Some c) is to h = absurd (false≢true h)
      same-post n b (dests.One g) (Some c) is to h = absurd (false≢true h)
      same-post n b (dests.OneAt g s) (Some c) is to h = absurd (false≢true h)

      go : (u : Tag) → m.tag ≡ u → is_request_again (by k past) u ≡ true → may_tag (views past p k (Post m d)) m d u ≡ true → Post m d ≡ retry_for k (by k past) (call (by k past))
      go tags.Plain is h g = absurd (false≢true h)
      go (tags.Reply c n) is h g = absurd (false≢true h)
      go (tags.Request n b) is h g =
          let mine = by k past in
          let out : call mine ≡ Some n = number-is n (call mine) h in
          let first = is_none (call mine) && (n == requests mine + 1) in
          let again = is_number n (call mine) && are_same same_call (first_call n mine) (call_in n m.tag d m.body) in
          elim (or_cases first again (and_parts (is_some (call_in n m.tag d m.body)) (first || again) g).1) [
            | inl new ↦ absurd (false≢true (ap is_none (sym out) ∙ (and_parts (is_none (call mine)) (n == requests mine + 1) new).0))
            | inr old ↦ (
                let same = (and_parts (is_number n (call mine)) (are_same same_call (first_call n mine) (call_in n m.tag d m.body)) old).1 in
                same-post n b d (first_call n mine) is refl (ap (λ (u : Tag). are_same same_call (first_call n mine) (call_in n u d m.body)) (sym is) ∙ same)
                ∙ sym (ap (retry_for k mine) out))
          ]
  only-retry _ f = no f.answers

  only-reply : (body : List ℕ) (x : Act) → Fitting (Command.Reply body) x → x ≡ reply_for k (by k past) body (hand past (by k past))
  only-reply body NoRequest f = sym (ap (reply_for k (by k past) body) (none-is (hand past (by k past)) f.may))
  only-reply body (Post m d) f =
      let one = and_parts (is_reply m.tag) (same_body m.body body) f.answers in
      go m.tag refl one.0 (from_same_body m.body body one.1) (tag-may m d f.may)
    where
      same-post : (c n : ℕ) (e : Dest) (o : Option Hand) → m.tag ≡ tags.Reply c n → m.body ≡ body → d ≡ e → are_same same_hand o (reply_to c n e) ≡ true → Post m d ≡ reply_for k (by k past) body o
      same-post c n e None is b to h = absurd (false≢true h)
      same-post c n (dests.Port q) (Some z) is b to h =
          let two = and_parts ((z.client == c) && (z.number == n)) (same_ui z.back q) h in
          let one = and_parts (z.client == c) (z.number == n) two.0 in
          post-is m d (dests.Port z.back) (tags.Reply z.client z.number) body f.may (is ∙ sym (λ i. tags.Reply (eqb-true z.client c one.0 i) (eqb-true z.number n one.1 i))) b (to ∙ ap (λ (u : Ui). dests.Port u) (sym (from_same_ui z.back q two.1)))
      same-post c n (dests.All g) (Some z) is b to h = absurd (false≢true h)
      same-post c n (dests.One g) (Some z) is b to h = absurd (false≢true h)
      same-post c n (dests.OneAt g s) (Some z) is b to h = absurd (false≢true h)

      go : (u : Tag) → m.tag ≡ u → is_reply u ≡ true → m.body ≡ body → may_tag (views past p k (Post m d)) m d u ≡ true → Post m d ≡ reply_for k (by k past) body (hand past (by k past))
      go tags.Plain is h b g = absurd (false≢true h)
      go (tags.Request n r) is h b g = absurd (false≢true h)
      go (tags.Reply c n) is h b g = same-post c n d (hand past (by k past)) is b refl g
  only-reply body _ f = no f.answers

  -- the one act
  pub only-answer : (c : Command) (x : Act) → Fitting c x → x ≡ answer_at l past p k a c
  only-answer (Command.Make actor capacity) x f = only-make actor capacity x f
  only-answer (Command.Send d body) x f = only-send d body x f
  only-answer (Command.Call q back body) x f = only-call q back body x f
  only-answer Command.Retry x f = only-retry x f
  only-answer Command.Cancel x f = only-cancel x f
  only-answer (Command.Reply body) x f = only-reply body x f
  only-answer (Command.Take q) x f = only-take q x f
  only-answer (Command.Move q actor) x f = only-move q actor x f
  only-answer (Command.GroupMake site) x f = only-group site x f
  only-answer (Command.Join g q) x f = only-join g q x f
  only-answer (Command.Leave g q) x f = only-leave g q x f
  only-answer (Command.Delete q) x f = only-delete q x f
