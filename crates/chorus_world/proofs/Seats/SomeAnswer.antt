-- In a run some act answers each command as the next entry: the one that the views tell.
use Rattle.std.proofs.Common.{ℕ, ◌≡◌, ◌<◌, ◌≤◌, ◌+◌, ◌-◌, ◌*◌, ◌%◌, Bool, true, false, ◌==◌, nat_le, nat_lt, ◌&&◌, ◌||◌, not, cond, List, length, drop, Option, Some, None, is_none, is_some, refl, sym, ◌∙◌, ap, subst, inl, inr, arith}
use Rattle.std.specs.Prelude.{slice_get, unwrap_or}
use Rattle.std.proofs.lemmas.Bool.{eq-eqb, false≢true, and_parts, and_from, or_left, or_right, not-false, leb-true, leb-false, le-leb, lt-ltb}
use Rattle.std.proofs.lemmas.Nat.{mod_below}
use Rattle.std.proofs.lemmas.Option.{slice_get_cases}
use Rattle.chorus_ui.specs.declared.kind.Kind.TheVariants as kinds
use Rattle.chorus_ui.specs.declared.ui.Ui.{Ui}
use Rattle.chorus_ui.specs.declared.layout.Layout.{Layout}
use Rattle.chorus_ui.specs.declared.limits.TheConstants.{GROUPS_PER_SITE_LIMIT, MEMBERS_LIMIT, PENDING_LIMIT}
use Rattle.chorus_ui.specs.Name.{same_ui}
use Rattle.chorus_ui.specs.Layout.{IsLayout, has_site, has_place, has_actor, places, place_at, first_place, creation_place, site_of, group_place}
use Rattle.chorus_ui.proofs.Names.{same_ui-self}
use Rattle.chorus_entry.specs.declared.entry.Entry.{Entry}
use Rattle.chorus_entry.specs.declared.hand.Hand.{Hand}
use Rattle.chorus_entry.specs.declared.id.MsgId.{MsgId}
use Rattle.chorus_entry.specs.declared.tag.Tag.{Tag}
use Rattle.chorus_entry.specs.declared.tag.Tag.TheVariants as tags
use Rattle.chorus_entry.specs.declared.dest.Dest.{Dest}
use Rattle.chorus_entry.specs.declared.dest.Dest.TheVariants as dests
use Rattle.chorus_entry.specs.declared.message.Message.{Message}
use Rattle.chorus_entry.specs.declared.command.Command.{Command}
use Rattle.chorus_entry.specs.declared.act.Act.{Act}
use Rattle.chorus_entry.specs.declared.act.Act.TheVariants.{Make, MakeFull, NoActor, NoSite, NotHere, Rehome, Depart, GroupMake, GroupsFull, Join, Leave, NoGroup, There, NotThere, MembersFull}
use Rattle.chorus_entry.specs.Body.{same_body}
use Rattle.chorus_entry.specs.Command.{is_capacity, demands_a_site, meets_conditions}
use Rattle.chorus_entry.specs.Dest.{same_dest}
use Rattle.chorus_entry.specs.MsgId.{same_id}
use Rattle.chorus_entry.specs.Members.{is_member}
use Rattle.chorus_entry.specs.Places.{place_for}
use Rattle.chorus_entry.specs.Same.{is_number, are_same}
use Rattle.chorus_ui.specs.NameKind as name_kind
use Rattle.chorus_ui.specs.NameKind.{is_actor, is_port}
use Rattle.chorus_entry.specs.Kinds.{has_kinds_in_dest}
use Rattle.chorus_entry.proofs.Same.{same_id-self, same_dest-self, same_body-self, same_ids-self}
use Rattle.chorus_world.specs.declared.spot.Spot.{Spot}
use Rattle.chorus_world.specs.declared.spot.Spot.TheVariants.{Held, Moving, Ended}
use Rattle.chorus_world.specs.Views.{views, at, by, on, is_group}
use Rattle.chorus_world.specs.Ports.{PortState, fate, is_last, is_held, is_held_at, is_first_waiting, is_empty, are_waiting, is_next_hop}
use Rattle.chorus_world.specs.Groups.{groups_made, members, is_group_place}
use Rattle.chorus_world.specs.Seats.{Call, posts, posts_stay, requests, call, first_call, call_in, same_call, hand, same_hand}
use Rattle.chorus_world.specs.Steps.{act_may, is_home, is_full_of_ports, is_legal, may_tag, next_number}
use Rattle.chorus_world.specs.Runs.{is_held_by, is_held_at_by}
use Rattle.chorus_world.specs.Answer.{group_for, join_for, leave_for, take_first, take_from, delete_from, hops, move_from, next_post, call_for, retry_as, retry_for, cancel_for, reply_for, answer_at}
use Rattle.chorus_world.proofs.Ports.PortLaws.{keeps_to_capacity}
use Rattle.chorus_world.proofs.Groups.GroupBounds.{group-place, groups-few, members-few}
use Rattle.chorus_world.proofs.Seats.CallBounds.{outstanding-posted}
use Rattle.chorus_world.proofs.Seats.CallFacts.{called-kinds, hand-kinds, next-uncalled}
use Rattle.chorus_world.proofs.Seats.OnlyAnswer.{Fitting}
use Rattle.chorus_world.proofs.Sorted.LookingHome.{at_group}
use Rattle.chorus_world.proofs.Sorted.Observers.{group_looked_for, legal_laws}

by-cases : (P : Act → Type 0) (b : Bool) (x y : Act) → (b ≡ true → P x) → (b ≡ false → P y) → P (cond b x y)
by-cases P true x y f g = f refl
by-cases P false x y f g = g refl

itself : (n : ℕ) → (n == n) ≡ true
itself n = eq-eqb n n refl

held-by : (p : ℕ) (a : Ui) (o : Option PortState) → is_held_at_by p a o ≡ true → is_held_at p o ≡ true
held-by p a None h = absurd (false≢true h)
held-by p a (Some f) h =
    let two = and_parts (is_held_by a f.spot) (is_last p f) h in
    and_from (is_held f.spot) (is_last p f) (spot f.spot two.0) two.1
  where
    spot : (s : Spot) → is_held_by a s ≡ true → is_held s ≡ true
    spot (Held b) k = refl
    spot (Moving b) k = k
    spot Ended k = k

next-hop : (p : ℕ) (a : Ui) (o : Option PortState) → is_held_at_by p a o ≡ true → is_next_hop (hops o) o ≡ true
next-hop p a None h = absurd (false≢true h)
next-hop p a (Some f) h = itself (length f.path)

same-call : (c : Call) → same_call c c ≡ true
same-call c =
    and_from (same_ui c.port c.port && same_ui c.back c.back) (same_body c.body c.body)
    (and_from (same_ui c.port c.port) (same_ui c.back c.back) (same_ui-self c.port) (same_ui-self c.back)) (same_body-self c.body)

same-hand : (h : Hand) → same_hand h h ≡ true
same-hand h =
    and_from ((h.client == h.client) && (h.number == h.number)) (same_ui h.back h.back)
    (and_from (h.client == h.client) (h.number == h.number) (itself h.client) (itself h.number)) (same_ui-self h.back)

-- the call in a request's first post
called : (n : ℕ) (c : Call) → call_in n (tags.Request n c.back) (dests.Port c.port) c.body ≡ Some c
called n c = ap (λ b. cond b (Some c) None) (itself n)

-- The places of commands are places of the layout.

mul-in : (s m t : ℕ) → 1 ≤ s → s ≤ m → (s - 1) * t + t ≤ m * t
mul-in s m t one le = let n = s - 1 in let same : s ≡ n + 1 = omega (arith, one) in go n (omega (arith, same, le))
  where
    go : (n : ℕ) → n + 1 ≤ m → n * t + t ≤ m * t
    go n h = grind arith

place-in : (l : Layout) (s j : ℕ) → has_site l s ≡ true → j < l.turns → has_place l (first_place l s + j) ≡ true
place-in l s j h lt =
    let two = and_parts (nat_le 1 s) (nat_le s l.sites) h in
    let within = mul-in s l.sites l.turns (leb-true 1 s two.0) (leb-true s l.sites two.1) in
    let place = first_place l s + j in
    and_from (nat_le 1 place) (nat_le place (places l)) (le-leb 1 place (omega arith)) (le-leb place (places l) (omega (arith, within, lt)))

at-in : (l : Layout) (s : ℕ) (u : Ui) → IsLayout l → has_site l s ≡ true → has_place l (place_at l s u) ≡ true
at-in l s u layout h =
    place-in l s ((u.number - 1) % l.turns) h (mod_below (u.number - 1) l.turns (let one = layout.turns_from_one in omega (arith, one)))

module _ (l : Layout) (past : List Entry) (k : ℕ) (a : Ui) (layout : IsLayout l) (legal : is_legal l past ≡ true) (actors : has_actor l a ≡ true) (stay : posts_stay (place_at l a.site a) (by k past) ≡ true) where
  abbrev Fit : Command → Act → Type 0
  Fit c x = Fitting l past (place_for l a c) k a c x

  abbrev mine : List Entry
  mine = by k past

  fit-make : (actor : Ui) (n : ℕ) → meets_conditions (Command.Make actor n) ≡ true → Fit (Command.Make actor n) (answer_at l past (place_for l a (Command.Make actor n)) k a (Command.Make actor n))
  fit-make actor n h =
      let c = Command.Make actor n in
      let p = place_for l a c in
      let here = at p past in
      let names = and_parts (is_actor actor) (is_capacity n) h in
      let bounds = and_parts (nat_le 1 n) (nat_le n PENDING_LIMIT) names.1 in
      let q : Ui = record { site = actor.site; kind = kinds.Port; number = next_number l p here } in
      by-cases (Fit c) (not (has_actor l actor)) (NoActor actor) (cond (is_full_of_ports l here) (MakeFull actor) (Make q actor n))
      (λ none. record { kinds = names.0; may = none; fits = refl; answers = same_ui-self actor })
      (λ some.
      let there : has_actor l actor ≡ true = not-false (has_actor l actor) some in
      let place : p ≡ place_at l actor.site actor = ap (λ b. unwrap_or (cond b (Some (creation_place l actor)) None) (place_at l a.site a)) there in
      let home : is_home l actor p ≡ true = and_from (has_actor l actor) (place_at l actor.site actor == p) there (eq-eqb (place_at l actor.site actor) p (sym place)) in
      by-cases (Fit c) (is_full_of_ports l here) (MakeFull actor) (Make q actor n)
      (λ full. record { kinds = names.0; may = and_from (is_home l actor p) (is_full_of_ports l here) home full; fits = refl; answers = same_ui-self actor })
      (λ room. record {
        kinds = names.0;
        may =
            and_from (is_home l actor p && nat_le 1 n && nat_le n PENDING_LIMIT && not (is_full_of_ports l here) && (q.site == actor.site)) (q.number == next_number l p here)
            (and_from (is_home l actor p && nat_le 1 n && nat_le n PENDING_LIMIT && not (is_full_of_ports l here)) (q.site == actor.site)
            (and_from (is_home l actor p && nat_le 1 n && nat_le n PENDING_LIMIT) (not (is_full_of_ports l here))
            (and_from (is_home l actor p && nat_le 1 n) (nat_le n PENDING_LIMIT) (and_from (is_home l actor p) (nat_le 1 n) home bounds.0) bounds.1)
            (ap not room)) (itself actor.site)) (itself (next_number l p here));
        fits = refl;
        answers = and_from (same_ui actor actor) (n == n) (same_ui-self actor) (itself n);
      }))

  -- Posts.

  post-may : (tag : Tag) (body : List ℕ) (d : Dest) → may_tag (views past (place_at l a.site a) k (next_post k mine tag body d)) (record { id = record { seat = k; number = posts mine + 1; copy = 0 }; tag = tag; body = body }) d tag ≡ true → act_may l (views past (place_at l a.site a) k (next_post k mine tag body d)) (place_at l a.site a) k (next_post k mine tag body d) ≡ true
  post-may tag body d h =
      let p = place_at l a.site a in
      let n = posts mine + 1 in
      let m : Message = record { id = record { seat = k; number = n; copy = 0 }; tag = tag; body = body } in
      and_from ((k == k) && (n == n) && (0 == 0) && posts_stay p mine) (may_tag (views past p k (next_post k mine tag body d)) m d tag)
      (and_from ((k == k) && (n == n) && (0 == 0)) (posts_stay p mine)
      (and_from ((k == k) && (n == n)) (0 == 0) (and_from (k == k) (n == n) (itself k) (itself n)) refl) stay) h

  fit-send : (d : Dest) (body : List ℕ) → meets_conditions (Command.Send d body) ≡ true → Fit (Command.Send d body) (next_post k mine tags.Plain body d)
  fit-send d body h =
      record {
        kinds = (and_parts (has_kinds_in_dest d) (demands_a_site d) h).0;
        may = post-may tags.Plain body d refl;
        fits = refl;
        answers = and_from (same_dest d d) (same_body body body) (same_dest-self d) (same_body-self body);
      }

  fit-call : (q back : Ui) (body : List ℕ) → meets_conditions (Command.Call q back body) ≡ true → Fit (Command.Call q back body) (call_for k mine q back body (call mine))
  fit-call q back body h = go (call mine) refl
    where
      names : (is_port q ≡ true) × (is_port back ≡ true)
      names = and_parts (is_port q) (is_port back) h

      go : (o : Option ℕ) → call mine ≡ o → Fit (Command.Call q back body) (call_for k mine q back body o)
      go None e =
          let n = requests mine + 1 in
          let c : Call = record { port = q; back = back; body = body } in
          let first = is_none (call mine) && (n == requests mine + 1) in
          let again = is_number n (call mine) && are_same same_call (first_call n mine) (call_in n (tags.Request n back) (dests.Port q) body) in
          record {
            kinds = and_from (is_port back) (is_port q) names.1 names.0;
            may =
                post-may (tags.Request n back) body (dests.Port q)
                (and_from (is_some (call_in n (tags.Request n back) (dests.Port q) body)) (first || again) (ap is_some (called n c))
                (or_left first again (and_from (is_none (call mine)) (n == requests mine + 1) (ap is_none e) (itself n))));
            fits = refl;
            answers =
                and_from ((same_ui back back && is_none (first_call n mine)) && same_dest (dests.Port q) (dests.Port q)) (same_body body body)
                (and_from (same_ui back back && is_none (first_call n mine)) (same_dest (dests.Port q) (dests.Port q))
                (and_from (same_ui back back) (is_none (first_call n mine)) (same_ui-self back) (ap is_none (next-uncalled mine)))
                (same_dest-self (dests.Port q))) (same_body-self body);
          }
      go (Some n) e = record { kinds = refl; may = ap (is_number n) e ∙ itself n; fits = refl; answers = refl }

  fit-retry : Fit Command.Retry (retry_for k mine (call mine))
  fit-retry = go (call mine) refl
    where
      go : (o : Option ℕ) → call mine ≡ o → Fit Command.Retry (retry_for k mine o)
      go None e = record { kinds = refl; may = ap is_none e; fits = refl; answers = refl }
      go (Some n) e =
          let was = outstanding-posted l past k n legal e in
          let c = was.0 in
          let names = called-kinds l past k n c legal was.1 in
          let first = is_none (call mine) && (n == requests mine + 1) in
          let number : is_number n (call mine) ≡ true = ap (is_number n) e ∙ itself n in
          let same : are_same same_call (first_call n mine) (call_in n (tags.Request n c.back) (dests.Port c.port) c.body) ≡ true = (λ i. are_same same_call (was.1 i) (called n c i)) ∙ same-call c in
          let again = is_number n (call mine) && are_same same_call (first_call n mine) (call_in n (tags.Request n c.back) (dests.Port c.port) c.body) in
          let fit : Fit Command.Retry (retry_as k mine n (Some c)) = record {
            kinds = and_from (is_port c.back) (is_port c.port) names.1 names.0;
            may =
                post-may (tags.Request n c.back) c.body (dests.Port c.port)
                (and_from (is_some (call_in n (tags.Request n c.back) (dests.Port c.port) c.body)) (first || again) (ap is_some (called n c))
                (or_right first again
                (and_from (is_number n (call mine)) (are_same same_call (first_call n mine) (call_in n (tags.Request n c.back) (dests.Port c.port) c.body)) number same)));
            fits = refl;
            answers = number;
          } in
          subst (λ o. Fit Command.Retry (retry_as k mine n o)) (sym was.1) fit

  fit-cancel : Fit Command.Cancel (cancel_for (call mine))
  fit-cancel = go (call mine) refl
    where
      go : (o : Option ℕ) → call mine ≡ o → Fit Command.Cancel (cancel_for o)
      go None e = record { kinds = refl; may = ap is_none e; fits = refl; answers = refl }
      go (Some n) e = record { kinds = refl; may = ap (is_number n) e ∙ itself n; fits = refl; answers = refl }

  fit-reply : (body : List ℕ) → Fit (Command.Reply body) (reply_for k mine body (hand past mine))
  fit-reply body = go (hand past mine) refl
    where
      go : (o : Option Hand) → hand past mine ≡ o → Fit (Command.Reply body) (reply_for k mine body o)
      go None e = record { kinds = refl; may = ap is_none e; fits = refl; answers = refl }
      go (Some h) e =
          record {
            kinds = hand-kinds l past k h layout legal e;
            may = post-may (tags.Reply h.client h.number) body (dests.Port h.back) (ap (λ o. are_same same_hand o (Some h)) e ∙ same-hand h);
            fits = refl;
            answers = same_body-self body;
          }

  -- Ports.

  fit-take : (q : Ui) → is_port q ≡ true → Fit (Command.Take q) (answer_at l past (place_at l a.site q) k a (Command.Take q))
  fit-take q names =
      by-cases (Fit (Command.Take q)) (is_held_at_by p a (fate (on q past))) (take_from q (fate (on q past))) (NotHere q) (go (fate (on q past)) refl)
      (λ free. record { kinds = names; may = refl; fits = ap not free; answers = same_ui-self q })
    where
      p : ℕ
      p = place_at l a.site q

      go : (o : Option PortState) → fate (on q past) ≡ o → is_held_at_by p a (fate (on q past)) ≡ true → Fit (Command.Take q) (take_from q o)
      go None e h = absurd (false≢true (sym (ap (is_held_at_by p a) e) ∙ h))
      go (Some f) e h = first (slice_get f.accepted f.taken) refl
        where
          held : is_held_at p (fate (on q past)) ≡ true
          held = held-by p a (fate (on q past)) h

          all-taken : slice_get f.accepted f.taken ≡ None → f.taken ≡ length f.accepted
          all-taken s =
              elim (slice_get_cases f.accepted f.taken).1 [
                | inl more ↦ absurd (let both : Some more.0 ≡ None = sym more.2 ∙ s in cc)
                | inr done ↦ (let le = done.0 in let within = (keeps_to_capacity l past layout legal q f e).0 in omega (arith, le, within))
              ]

          first : (o : Option MsgId) → slice_get f.accepted f.taken ≡ o → Fit (Command.Take q) (take_first q f.taken o)
          first None s =
              record {
                kinds = names;
                may = and_from (is_held_at p (fate (on q past))) (is_empty (fate (on q past))) held (ap is_empty e ∙ eq-eqb f.taken (length f.accepted) (all-taken s));
                fits = h;
                answers = same_ui-self q;
              }
          first (Some x) s =
              record {
                kinds = names;
                may =
                    and_from (is_held_at p (fate (on q past))) (is_first_waiting f.taken x (fate (on q past))) held
                    (ap (is_first_waiting f.taken x) e
                    ∙ and_from (f.taken == f.taken) (are_same same_id (Some x) (slice_get f.accepted f.taken)) (itself f.taken) (ap (are_same same_id (Some x)) s ∙ same_id-self x));
                fits = h;
                answers = same_ui-self q;
              }

  fit-delete : (q : Ui) → is_port q ≡ true → Fit (Command.Delete q) (answer_at l past (place_at l a.site q) k a (Command.Delete q))
  fit-delete q names =
      by-cases (Fit (Command.Delete q)) (is_held_at_by p a (fate (on q past))) (delete_from q (fate (on q past))) (NotHere q) (go (fate (on q past)) refl)
      (λ free. record { kinds = names; may = refl; fits = ap not free; answers = same_ui-self q })
    where
      p : ℕ
      p = place_at l a.site q

      go : (o : Option PortState) → fate (on q past) ≡ o → is_held_at_by p a (fate (on q past)) ≡ true → Fit (Command.Delete q) (delete_from q o)
      go None e h = absurd (false≢true (sym (ap (is_held_at_by p a) e) ∙ h))
      go (Some f) e h =
          record {
            kinds = names;
            may =
                and_from (is_held_at p (fate (on q past))) (are_waiting (drop f.taken f.accepted) (fate (on q past))) (held-by p a (fate (on q past)) h)
                (ap (are_waiting (drop f.taken f.accepted)) e ∙ same_ids-self (drop f.taken f.accepted));
            fits = h;
            answers = same_ui-self q;
          }

  fit-move : (q actor : Ui) → meets_conditions (Command.Move q actor) ≡ true → Fit (Command.Move q actor) (answer_at l past (place_at l a.site q) k a (Command.Move q actor))
  fit-move q actor h =
      let c = Command.Move q actor in
      let p = place_at l a.site q in
      let names = and_parts (is_port q) (is_actor actor) h in
      let o = fate (on q past) in
      let hop = hops o in
      let to = place_at l actor.site q in
      by-cases (Fit c) (is_held_at_by p a o) (move_from l p q actor hop) (NotHere q)
      (λ holds.
      let held = held-by p a o holds in
      by-cases (Fit c) (not (has_actor l actor)) (NoActor actor) (cond (actor.site == site_of l p) (Rehome q actor) (Depart q to actor hop))
      (λ none. record { kinds = names.1; may = none; fits = refl; answers = and_from (same_ui actor actor) (is_held_at_by p a o) (same_ui-self actor) holds })
      (λ some.
      let there : has_actor l actor ≡ true = not-false (has_actor l actor) some in
      let both = and_from (is_port q) (is_actor actor) names.0 names.1 in
      let same = and_from (same_ui q q) (same_ui actor actor) (same_ui-self q) (same_ui-self actor) in
      let one = and_from (is_held_at p o) (has_actor l actor) held there in
      by-cases (Fit c) (actor.site == site_of l p) (Rehome q actor) (Depart q to actor hop)
      (λ near. record { kinds = both; may = and_from (is_held_at p o && has_actor l actor) (actor.site == site_of l p) one near; fits = holds; answers = same })
      (λ far. record {
        kinds = both;
        may =
            and_from (is_held_at p o && has_actor l actor && not (actor.site == site_of l p) && (to == to)) (is_next_hop hop o)
            (and_from (is_held_at p o && has_actor l actor && not (actor.site == site_of l p)) (to == to)
            (and_from (is_held_at p o && has_actor l actor) (not (actor.site == site_of l p)) one (ap not far)) (itself to)) (next-hop p a o holds);
        fits = holds;
        answers = same;
      })))
      (λ free. record { kinds = names.0; may = refl; fits = ap not free; answers = same_ui-self q })

  -- Groups.

  fit-group : (site : ℕ) → Fit (Command.GroupMake site) (group_for l (at (place_for l a (Command.GroupMake site)) past) site)
  fit-group site =
      let c = Command.GroupMake site in
      let p = place_for l a c in
      let here = at p past in
      let g : Ui = record { site = site; kind = kinds.Group; number = groups_made here + 1 } in
      by-cases (Fit c) (not (has_site l site)) (NoSite site) (cond (nat_le GROUPS_PER_SITE_LIMIT (groups_made here)) (GroupsFull site) (GroupMake g))
      (λ none. record { kinds = refl; may = none; fits = refl; answers = itself site })
      (λ some.
      let there : has_site l site ≡ true = not-false (has_site l site) some in
      let place : p ≡ first_place l site = ap (λ b. unwrap_or (cond b (Some (first_place l site)) None) (place_at l a.site a)) there in
      let few = groups-few l past p legal in
      by-cases (Fit c) (nat_le GROUPS_PER_SITE_LIMIT (groups_made here)) (GroupsFull site) (GroupMake g)
      (λ full.
      let le = leb-true GROUPS_PER_SITE_LIMIT (groups_made here) full in
      record {
        kinds = refl;
        may =
            and_from (has_site l site && (first_place l site == p)) (groups_made here == GROUPS_PER_SITE_LIMIT)
            (and_from (has_site l site) (first_place l site == p) there (eq-eqb (first_place l site) p (sym place)))
            (eq-eqb (groups_made here) GROUPS_PER_SITE_LIMIT (omega (arith, le, few)));
        fits = refl;
        answers = itself site;
      })
      (λ room.
      let lt = leb-false GROUPS_PER_SITE_LIMIT (groups_made here) room in
      record {
        kinds = refl;
        may =
            and_from (is_group_place l g p && (g.number == groups_made here + 1)) (nat_le g.number GROUPS_PER_SITE_LIMIT)
            (and_from (is_group_place l g p) (g.number == groups_made here + 1)
            (ap (λ b. is_number p (cond b (Some (first_place l site)) None)) there ∙ eq-eqb (first_place l site) p (sym place)) (itself g.number))
            (le-leb g.number GROUPS_PER_SITE_LIMIT (omega (arith, lt)));
        fits = refl;
        answers = itself site;
      }))

  -- where the place of a command on a group is not told that the group is made, it is not made
  module _ (c : Command) (g : Ui) (place : place_for l a c ≡ unwrap_or (group_place l g) (place_at l a.site a)) where
    unmade : not (is_group g (at (place_for l a c) past)) ≡ true → not (is_group g past) ≡ true
    unmade h =
        ap not (group_looked_for l g (place_for l a c) past (legal_laws l past layout legal).groups (at_group l g (place_for l a c) (place_at l a.site a) place)) ∙ h

    group-at : not (is_group g (at (place_for l a c) past)) ≡ false → is_group_place l g (place_for l a c) && is_group g (at (place_for l a c) past) ≡ true
    group-at h =
        let made = not-false (is_group g (at (place_for l a c) past)) h in
        and_from (is_group_place l g (place_for l a c)) (is_group g (at (place_for l a c) past)) (group-place l past g (place_for l a c) legal made) made

  fit-join : (g q : Ui) → meets_conditions (Command.Join g q) ≡ true → Fit (Command.Join g q) (join_for (at (place_for l a (Command.Join g q)) past) g q)
  fit-join g q h =
      let c = Command.Join g q in
      let p = place_for l a c in
      let here = at p past in
      let names = and_parts (name_kind.is_group g) (is_port q) h in
      let same = and_from (same_ui g g) (same_ui q q) (same_ui-self g) (same_ui-self q) in
      let there = is_member q (members g here) in
      let count = length (members g here) in
      by-cases (Fit c) (not (is_group g here)) (NoGroup g) (cond there (There g q) (cond (nat_le MEMBERS_LIMIT count) (MembersFull g) (Join g q)))
      (λ none. record { kinds = names.0; may = unmade c g refl none; fits = refl; answers = same_ui-self g })
      (λ some.
      let made = group-at c g refl some in
      by-cases (Fit c) there (There g q) (cond (nat_le MEMBERS_LIMIT count) (MembersFull g) (Join g q))
      (λ member. record { kinds = h; may = and_from (is_group_place l g p && is_group g here) there made member; fits = refl; answers = same })
      (λ new.
      by-cases (Fit c) (nat_le MEMBERS_LIMIT count) (MembersFull g) (Join g q)
      (λ full.
      let le = leb-true MEMBERS_LIMIT count full in
      let few = members-few l past g p legal in
      record {
        kinds = names.0;
        may = and_from (is_group_place l g p && is_group g here) (count == MEMBERS_LIMIT) made (eq-eqb count MEMBERS_LIMIT (omega (arith, le, few)));
        fits = refl;
        answers = and_from (same_ui g g) (not there) (same_ui-self g) (ap not new);
      })
      (λ room. record {
        kinds = h;
        may =
            and_from ((is_group_place l g p && is_group g here) && not there) (nat_lt count MEMBERS_LIMIT)
            (and_from (is_group_place l g p && is_group g here) (not there) made (ap not new)) (lt-ltb count MEMBERS_LIMIT (leb-false MEMBERS_LIMIT count room));
        fits = refl;
        answers = same;
      })))

  fit-leave : (g q : Ui) → meets_conditions (Command.Leave g q) ≡ true → Fit (Command.Leave g q) (leave_for (at (place_for l a (Command.Leave g q)) past) g q)
  fit-leave g q h =
      let c = Command.Leave g q in
      let p = place_for l a c in
      let here = at p past in
      let names = and_parts (name_kind.is_group g) (is_port q) h in
      let same = and_from (same_ui g g) (same_ui q q) (same_ui-self g) (same_ui-self q) in
      let there = is_member q (members g here) in
      by-cases (Fit c) (not (is_group g here)) (NoGroup g) (cond there (Leave g q) (NotThere g q))
      (λ none. record { kinds = names.0; may = unmade c g refl none; fits = refl; answers = same_ui-self g })
      (λ some.
      let made = group-at c g refl some in
      by-cases (Fit c) there (Leave g q) (NotThere g q)
      (λ member. record { kinds = h; may = and_from (is_group_place l g p && is_group g here) there made member; fits = refl; answers = same })
      (λ none. record { kinds = h; may = and_from (is_group_place l g p && is_group g here) (not there) made (ap not none); fits = refl; answers = same }))

  -- the act that the views tell
  pub some-answer : (c : Command) → meets_conditions c ≡ true → Fitting l past (place_for l a c) k a c (answer_at l past (place_for l a c) k a c)
  some-answer (Command.Make actor n) h = fit-make actor n h
  some-answer (Command.Send d body) h = fit-send d body h
  some-answer (Command.Call q back body) h = fit-call q back body h
  some-answer Command.Retry h = fit-retry
  some-answer Command.Cancel h = fit-cancel
  some-answer (Command.Reply body) h = fit-reply body
  some-answer (Command.Take q) h = fit-take q h
  some-answer (Command.Move q actor) h = fit-move q actor h
  some-answer (Command.GroupMake site) h = fit-group site
  some-answer (Command.Join g q) h = fit-join g q h
  some-answer (Command.Leave g q) h = fit-leave g q h
  some-answer (Command.Delete q) h = fit-delete q h

  -- at a place of the layout
  site-in : has_site l a.site ≡ true
  site-in =
      (and_parts (has_site l a.site) (nat_le 1 a.number) (and_parts (has_site l a.site && nat_le 1 a.number) (nat_le a.number 8) actors).0).0

  home-in : has_place l (place_at l a.site a) ≡ true
  home-in = at-in l a.site a layout site-in

  or-home : (b : Bool) (p : ℕ) → (b ≡ true → has_place l p ≡ true) → has_place l (unwrap_or (cond b (Some p) None) (place_at l a.site a)) ≡ true
  or-home true p h = h refl
  or-home false p h = home-in

  first-in : (s : ℕ) → has_site l s ≡ true → has_place l (first_place l s) ≡ true
  first-in s h =
      subst (λ p. has_place l p ≡ true) (omega arith) (place-in l s 0 h (let one = layout.turns_from_one in omega (arith, one)))

  pub command-in : (c : Command) → has_place l (place_for l a c) ≡ true
  command-in (Command.Make actor n) =
      or-home (has_actor l actor) (creation_place l actor)
      (λ h. at-in l actor.site actor layout (and_parts (has_site l actor.site) (nat_le 1 actor.number) (and_parts (has_site l actor.site && nat_le 1 actor.number) (nat_le actor.number 8) h).0).0)
  command-in (Command.Send d body) = home-in
  command-in (Command.Call q back body) = home-in
  command-in Command.Retry = home-in
  command-in Command.Cancel = home-in
  command-in (Command.Reply body) = home-in
  command-in (Command.Take q) = at-in l a.site q layout site-in
  command-in (Command.Move q actor) = at-in l a.site q layout site-in
  command-in (Command.GroupMake site) = or-home (has_site l site) (first_place l site) (first-in site)
  command-in (Command.Join g q) = or-home (has_site l g.site) (first_place l g.site) (first-in g.site)
  command-in (Command.Leave g q) = or-home (has_site l g.site) (first_place l g.site) (first-in g.site)
  command-in (Command.Delete q) = at-in l a.site q layout site-in
