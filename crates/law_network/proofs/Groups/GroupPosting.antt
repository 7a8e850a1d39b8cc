-- A message is posted to a group: members are chosen at once, or it is asked for at the group's place.
use Rattle.std.proofs.Common.{ℕ, ◌≡◌, ◌<◌, ◌≤◌, ◌⊎◌, inl, inr, ◌==◌, Bool, true, false, ◌&&◌, ◌||◌, not, cond, List, [], ◌∷◌, ◌++◌, map, Option, Some, None, is_some, unwrap_or, refl, sym, ◌∙◌, ap, subst, arith, eq-eqb, append-nil}
use Rattle.std.specs.List.{filter, flat_map}
use Rattle.std.proofs.lemmas.List.Concat.{flat_map-append}
use Rattle.std.proofs.lemmas.List.Elements.{filter-append}
use Rattle.std.proofs.lemmas.Bool.{and_from, eqb-true, false≢true}
use Rattle.chorus_calls.specs.Callers.{after_post}
use Rattle.chorus_ui.specs.declared.ui.Ui.{Ui}
use Rattle.chorus_ui.specs.Name.{same_ui}
use Rattle.chorus_ui.proofs.Names.{same_ui-self, from_same_ui}
use Rattle.chorus_ui.specs.declared.layout.Layout.{Layout}
use Rattle.chorus_ui.specs.Layout.{place_at, group_place}
use Rattle.chorus_entry.specs.declared.entry.Entry.{Entry}
use Rattle.chorus_entry.specs.declared.id.MsgId.{MsgId}
use Rattle.chorus_entry.specs.declared.dest.Dest.{Dest}
use Rattle.chorus_entry.specs.declared.dest.Dest.TheVariants as dests
use Rattle.chorus_entry.specs.declared.tag.Tag.TheVariants as tags
use Rattle.chorus_entry.specs.declared.command.Command.TheVariants as commands
use Rattle.chorus_entry.specs.declared.message.Message.{Message}
use Rattle.chorus_entry.specs.declared.act.Act.{Act}
use Rattle.chorus_entry.specs.declared.act.Act.TheVariants as acts
use Rattle.chorus_entry.specs.declared.packet.Cargo.{Cargo}
use Rattle.chorus_entry.specs.declared.packet.Cargo.TheVariants as cargos
use Rattle.chorus_entry.specs.Dest.{group_in}
use Rattle.chorus_entry.specs.Kinds.{has_kinds_in_tag, has_kinds_in_dest}
use Rattle.chorus_entry.specs.MsgId.{same_id}
use Rattle.chorus_entry.proofs.Same.{same_id-self, from_same_id}
use Rattle.chorus_world.specs.declared.progress.Progress.TheVariants.{Asked}
use Rattle.chorus_world.specs.declared.place.Sent.{Sent}
use Rattle.chorus_world.specs.Views.{at, by, about, is_about}
use Rattle.chorus_entry.specs.Order.{is_at}
use Rattle.chorus_entry.specs.Same.{is_number, are_same}
use Rattle.chorus_world.specs.Posts.{source, as_posted}
use Rattle.chorus_world.specs.Seats.{posts, call}
use Rattle.chorus_world.proofs.Messages.PostLemmas.{own_source}
use Rattle.chorus_world.proofs.Messages.StageLemmas.{Stage}
use Rattle.chorus_entry.specs.Act.{message_of}
use Rattle.chorus_world.specs.declared.progress.Progress.{Progress}
use Rattle.chorus_world.specs.Messages.{posted, progress, progress_after}
use Rattle.chorus_world.specs.Places.{last_clock, sent_to, hears, is_heard}
use Rattle.chorus_world.specs.Groups as groups
use Rattle.chorus_world.specs.Groups.{posts_to, post_to, is_chosen, is_choosing_place, unchosen}
use Rattle.chorus_world.specs.Steps.{is_asking_place}
use Rattle.chorus_world.proofs.Sorted.Local.{local_views, act_may_here}
use Rattle.chorus_world.proofs.Steps.LegalLemmas.{skips, keeps}
use Rattle.chorus_world.proofs.Messages.SendingLemmas.{at_same, same_id_sym, sent_as}
use Rattle.place_unsettled.specs.Unheard as unheards
use Rattle.law_machine.specs.declared.outgoing.Outgoing.{Outgoing}
use Rattle.law_machine.specs.PlaceState.{Turn, next_clock, next_entry, packed, unchanged, say}
use Rattle.law_machine.specs.Doing.{poster, choosing_place, chooses_own, asks, posts_to_group}
use Rattle.law_machine.specs.PlaceMachine.{act}
use Rattle.law_machine.specs.Own.{next_message}
use Rattle.law_machine.proofs.Machine.Ready.{ReadyHere}
use Rattle.law_network.proofs.Commands.OwnIsAnswer.{given-fits}
use Rattle.law_network.specs.Packets.{is_link, put, put_all}
use Rattle.law_network.specs.Network.{NetState}
use Rattle.law_network.specs.Records.{message}
use Rattle.law_network.proofs.Tables.Hearing.{IsUnheard, unheard-asked}
use Rattle.law_network.specs.UnderWay.{packet, other_place, far_place, asked_as, asked_by, asked_for, under_way_as, is_of, is_with}
use Rattle.law_network.proofs.Links.LinkViews.{put-out, put-in, put-last, put-order}
use Rattle.law_network.proofs.Standing.InTurn.{ArePackets}
use Rattle.law_network.proofs.Standing.Says.{known_clock, CallerSays, MaySay}
use Rattle.law_network.proofs.Standing.StillCallers.{no-port-clock, outstanding-more}
use Rattle.law_network.proofs.Standing.Families.{messages-one, transfers-none}
use Rattle.law_network.proofs.Standing.Steps.{Stood, facts, laws, legal-with, says, ports-still}
use Rattle.law_network.proofs.Standing.Saying.{legal-now}
use Rattle.law_network.proofs.Tables.TablesSay.{known-still, unheard-posted, waiting-still}
use Rattle.law_network.proofs.Standing.Onward.{step, then}
use Rattle.law_network.proofs.Links.Abouts.{moves-none}
use Rattle.law_network.proofs.Standing.Given.{IsGiven}
use Rattle.law_network.proofs.Packets.Reporting.{asking}
use Rattle.chorus_world.proofs.Groups.GroupFacts.{IsPostTo, unchosen-other, first-of-unchosen, not-listed}
use Rattle.law_network.proofs.Groups.Choosing.{AreAsked, ToChoose, chooses-stand}
use Rattle.law_network.proofs.Links.PacketViews.{put-asks}
use Rattle.law_network.proofs.Standing.Leading.{Calm, LeadsOn, leads-one, behind-calm, rests-behind}
use Rattle.law_network.proofs.Posts.Posting.{IsNew, unknown, post-now}

-- nothing chooses for a message that no entry is about
unknown-unchosen : (x : MsgId) (t : Entry → Bool) (es : List Entry) → about x es ≡ [] → is_chosen x (filter t es) ≡ false
unknown-unchosen x t [] h = refl
unknown-unchosen x t (e ∷ es) h = go (is_about (Some x) e) refl h (unknown-unchosen x t es)
  where
    picks-not : (a : Act) → are_same same_id (Some x) (message_of a) ≡ false → groups.chooses x a ≡ false
    picks-not (acts.Choose y g qs) n = same_id_sym y x ∙ n
    picks-not (acts.NoMember y g) n = same_id_sym y x ∙ n
    picks-not a n = refl

    go : (b : Bool) → is_about (Some x) e ≡ b → cond b (e ∷ about x es) (about x es) ≡ [] → (about x es ≡ [] → is_chosen x (filter t es) ≡ false) → is_chosen x (filter t (e ∷ es)) ≡ false
    go true n k ih = absurd (cc)
    go false n k ih = at-it (t e)
      where
        at-it : (c : Bool) → is_chosen x (cond c (e ∷ filter t es) (filter t es)) ≡ false
        at-it true = ap (λ z. z || is_chosen x (filter t es)) (picks-not e.act n) ∙ ih k
        at-it false = ih k

-- nor is such a message heard of
unknown-unheard : (x : MsgId) (t : Entry → Bool) (es : List Entry) → about x es ≡ [] → is_heard x (filter t es) ≡ false
unknown-unheard x t [] h = refl
unknown-unheard x t (e ∷ es) h = go (is_about (Some x) e) refl h (unknown-unheard x t es)
  where
    hears-not : (a : Act) → are_same same_id (Some x) (message_of a) ≡ false → hears x a ≡ false
    hears-not (acts.Heard y b) n = same_id_sym y x ∙ n
    hears-not a n = refl

    go : (b : Bool) → is_about (Some x) e ≡ b → cond b (e ∷ about x es) (about x es) ≡ [] → (about x es ≡ [] → is_heard x (filter t es) ≡ false) → is_heard x (filter t (e ∷ es)) ≡ false
    go true n k ih = absurd (cc)
    go false n k ih = at-it (t e)
      where
        at-it : (c : Bool) → is_heard x (cond c (e ∷ filter t es) (filter t es)) ≡ false
        at-it true = ap (λ z. z || is_heard x (filter t es)) (hears-not e.act n) ∙ ih k
        at-it false = ih k

-- an entry that posts to no group
posts-same : (f : Ui) (b : ℕ) (past : List Entry) (e : Entry) → post_to f e.act ≡ [] → posts_to f (at b (e ∷ past)) ≡ posts_to f (at b past)
posts-same f b past e h = go (is_at b e)
  where
    go : (c : Bool) → posts_to f (cond c (e ∷ at b past) (at b past)) ≡ posts_to f (at b past)
    go true = ap (λ xs. posts_to f (at b past) ++ xs) h ∙ append-nil (posts_to f (at b past))
    go false = refl

-- a place asks for nothing elsewhere where it has no far place
not-asking : (l : Layout) (home : ℕ) (g : Ui) → far_place l home (Some g) ≡ None → is_asking_place l home (Some g) ≡ false
not-asking l home g h = by (group_place l g) h
  where
    by : (o : Option ℕ) → other_place home o ≡ None → (is_some o && not (is_number home o)) ≡ false
    by None k = refl
    by (Some q) k = by-place (q == home) k
      where
        by-place : (b : Bool) → cond b None (Some q) ≡ None → not b ≡ false
        by-place true j = refl
        by-place false j = (let bad : Some q ≡ None = j in absurd (cc))

module _ (n : NetState) (us : List Outgoing) (past : List Entry) (t : Turn) (i : Calm n us past t) (m : Message) (new : IsNew past t m) (d : Dest) (g : Ui) (group : group_in d ≡ Some g) (unsent : sent_to m.id d ≡ []) (asked : posted t.place.number d ≡ Asked t.place.number d)
    (kinds : (has_kinds_in_tag m.tag && has_kinds_in_dest d) ≡ true)
    (may_now : act_may_here t.place.layout (local_views past past t.place.number t.caller.seat (acts.Post m d)) t.place.number t.caller.seat (acts.Post m d) ≡ true) (caller : CallerSays past t (acts.Post m d) (poster m d t.caller)) where
  abbrev w : Stood n us past t
  w = i.stood

  abbrev l : Layout
  l = t.place.layout

  abbrev p : ℕ
  p = t.place.number

  abbrev x : MsgId
  x = m.id

  abbrev os : List Outgoing
  os = put_all t.puts us

  abbrev e : Entry
  e = next_entry (acts.Post m d) t

  none-of : filter (is_of m.id) os ≡ []
  none-of = w.packets.messages x ∙ ap (λ v. under_way_as l past x (last_clock v) (progress v)) (unknown n us past t i m new)

  now-is : (s : Progress) → progress_after t.place.number (acts.Post m d) s ≡ Asked t.place.number d
  now-is s = asked

  message-is : message (e ∷ past) m.id ≡ m
  message-is = ap (as_posted x) (post-now n us past t i m new d)

  -- the posts to a group, of each place, and what of them is not chosen
  still-chosen : (q : ℕ) (xs : List MsgId) → unchosen (at q (e ∷ past)) xs ≡ unchosen (at q past) xs
  still-chosen q xs = go (is_at q e)
    where
      same : (xs : List MsgId) → unchosen (e ∷ at q past) xs ≡ unchosen (at q past) xs
      same [] = refl
      same (y ∷ xs) = ap (λ zs. cond (not (is_chosen y (at q past))) (y ∷ zs) zs) (same xs)

      go : (b : Bool) → unchosen (cond b (e ∷ at q past) (at q past)) xs ≡ unchosen (at q past) xs
      go true = same xs
      go false = refl

  posts-elsewhere : (f : Ui) (b : ℕ) → (t.place.number == b) ≡ false → posts_to f (at b (e ∷ past)) ≡ posts_to f (at b past)
  posts-elsewhere f b ne = ap (posts_to f) (skips (is_at b) e past ne)

  posts-others : (f : Ui) → same_ui f g ≡ false → posts_to f (at t.place.number (e ∷ past)) ≡ posts_to f (at t.place.number past)
  posts-others f ne =
      ap (posts_to f) (at_same p e past refl)
      ∙ (ap (λ r. posts_to f (at p past) ++ cond r (x ∷ []) []) (ap (are_same same_ui (Some f)) group ∙ ne) ∙ append-nil (posts_to f (at p past)))

  posts-here : posts_to g (at t.place.number (e ∷ past)) ≡ posts_to g (at t.place.number past) ++ m.id ∷ []
  posts-here =
      ap (posts_to g) (at_same p e past refl)
      ∙ ap (λ r. posts_to g (at p past) ++ cond r (x ∷ []) []) (ap (are_same same_ui (Some g)) group ∙ same_ui-self g)

  -- those that the packets ask for, where a post of p to g is asked for by `more`
  asks-now : (now : List Outgoing) → ((f : Ui) (b q : ℕ) → (t.place.number == b) ≡ false → asked_for f b q now ≡ asked_for f b q os)
      → ((f : Ui) (q : ℕ) → same_ui f g ≡ false → asked_for f t.place.number q now ≡ asked_for f t.place.number q os)
      → ((q : ℕ) → far_place t.place.layout t.place.number (Some g) ≡ Some q → asked_for g t.place.number q now ≡ asked_for g t.place.number q os ++ m.id ∷ [])
      → (f : Ui) (b q : ℕ) → far_place t.place.layout b (Some f) ≡ Some q → asked_for f b q now ≡ unchosen (at q (e ∷ past)) (posts_to f (at b (e ∷ past)))
  asks-now now other-place other-group same f b q h = go (p == b) (same_ui f g) refl refl
    where
      go : (y z : Bool) → (t.place.number == b) ≡ y → same_ui f g ≡ z → asked_for f b q now ≡ unchosen (at q (e ∷ past)) (posts_to f (at b (e ∷ past)))
      go false z e1 e2 =
          other-place f b q e1 ∙ (w.packets.asks f b q h ∙ (sym (still-chosen q (posts_to f (at b past))) ∙ ap (unchosen (at q (e ∷ past))) (sym (posts-elsewhere f b e1))))
      go true false e1 e2 =
          let is : p ≡ b = eqb-true p b e1 in
          subst (λ r. asked_for f r q now ≡ unchosen (at q (e ∷ past)) (posts_to f (at r (e ∷ past)))) is
          (other-group f q e2 ∙ (w.packets.asks f p q (ap (λ r. far_place l r (Some f)) is ∙ h) ∙ (sym (still-chosen q (posts_to f (at p past))) ∙ ap (unchosen (at q (e ∷ past))) (sym (posts-others f e2)))))
      go true true e1 e2 =
          let is : p ≡ b = eqb-true p b e1 in
          let is2 : f ≡ g = from_same_ui f g e2 in
          let h2 : far_place l p (Some g) ≡ Some q = (λ j. far_place l (is j) (Some (sym is2 j))) ∙ h in
          let fresh : is_chosen x (at q past) ≡ false = unknown-unchosen x (is_at q) past (unknown n us past t i m new) in
          subst (λ r. asked_for f r q now ≡ unchosen (at q (e ∷ past)) (posts_to f (at r (e ∷ past)))) is
          (subst (λ r. asked_for r p q now ≡ unchosen (at q (e ∷ past)) (posts_to r (at p (e ∷ past)))) (sym is2)
          (same q h2
          ∙ (ap (λ ys. ys ++ x ∷ []) (w.packets.asks g p q h2)
          ∙ (ap (λ r. unchosen (at q past) (posts_to g (at p past)) ++ cond (not r) (x ∷ []) []) (sym fresh)
          ∙ (sym (filter-append (λ (y : MsgId). not (is_chosen y (at q past))) (posts_to g (at p past)) (x ∷ []))
          ∙ (sym (still-chosen q (posts_to g (at p past) ++ x ∷ [])) ∙ ap (unchosen (at q (e ∷ past))) (sym posts-here)))))))

  less-of : (y : MsgId) → same_id m.id (source y) ≡ true → (m.id.seat ≡ y.seat) × (posts (by y.seat past) < y.number)
  less-of y h =
      let same : m.id ≡ source y = from_same_id m.id (source y) h in
      let seat : m.id.seat ≡ y.seat = ap (λ (z : MsgId). z.seat) same in
      let number : m.id.number ≡ y.number = ap (λ (z : MsgId). z.number) same in
      let mine : posts (by y.seat past) ≡ posts (by t.caller.seat past) = ap (λ z. posts (by z past)) (sym seat ∙ new.seat) in
      let count = w.caller.posts in
      let next = new.number in
      (seat, omega (arith, number, mine, count, next))

  may : MaySay past t (acts.Post m d)
  may =
      let zero-is : last_clock (about x past) ≡ 0 = ap last_clock (unknown n us past t i m new) in
      record {
        kinds = kinds;
        behind = behind-calm past p (acts.Post m d) i.rests;
        may = may_now;
        fits = refl;
        looks = tt;
        message = omega (arith, zero-is);
        port = no-port-clock past None (known_clock t) refl;
      }

  -- nothing that was sent from here has its id
  apart : (j : Sent) → sent_as j.id t.place.number past ≡ Some j → (b : Bool) → is_about (Some j.id) e ≡ b → b ≡ false
  apart j found false h = refl
  apart j found true h =
      let same : j.id ≡ x = from_same_id j.id x h in
      let none = ((facts n us past t w x).fresh (less-of x (ap (same_id m.id) (own_source m.id new.copy) ∙ same_id-self m.id)).1).unsent p in
      let bad : None ≡ Some j = sym none ∙ (ap (λ z. sent_as z p past) (sym same) ∙ found) in
      absurd (cc)

  -- what the entry owes, with these loads
  owes : (loads : List (ℕ × Cargo)) (hears : MsgId → Bool) → IsUnheard t.place.layout (e ∷ past) t.place.number hears → ArePackets t.place.layout (put_all (map (packed t) loads) os) (e ∷ past)
      → Stood n us (next_entry (acts.Post m d) t ∷ past) (say (acts.Post m d) (record (unchanged t) { caller = poster m d t.caller; unheard = hears; loads = loads }) t)
  owes loads hears unheard packets =
      let all = (laws n us past t w).posted in
      says n us past t w (acts.Post m d) (record (unchanged t) { caller = poster m d t.caller; unheard = hears; loads = loads })
      (record {
        may = may;
        caller = caller;
        ports = ports-still n us past t w (acts.Post m d) refl;
        tables = record {
          known = known-still l t.place.known e (at p past) refl w.here.known;
          waiting = waiting-still l past e t.place.waiting all (legal-with n us past t w (acts.Post m d) may) w.here.waiting unsent (λ j found. apart j found (is_about (Some j.id) e) refl);
          unheard = unheard;
        };
        packets = packets;
      })

  -- the group is at another place
  far-post-stands : (to : ℕ) → far_place t.place.layout t.place.number (Some g) ≡ Some to → LeadsOn n us past (asks m d to t)
  far-post-stands to far =
      let o = packed t (to, cargos.Ask m d) in
      let all = (laws n us past t w).posted in
      let lead : is_link p to o ≡ true = and_from (p == p) (to == to) (eq-eqb p p refl) (eq-eqb to to refl) in
      let one : asked_by g o ≡ x ∷ [] = ap (λ r. cond r (x ∷ []) []) (ap (are_same same_ui (Some g)) group ∙ same_ui-self g) in
      let shown : asked_as (e ∷ past) x (next_clock t) p d (far_place l p (group_in d)) ≡ o ∷ [] =
      ap (asked_as (e ∷ past) x (next_clock t) p d) (ap (far_place l p) group ∙ far) ∙ ap (λ b. packet p to (next_clock t) (cargos.Ask b d) ∷ []) message-is in
      let asks-elsewhere : is_asking_place l p (group_in d) ≡ true = ap (is_asking_place l p) group ∙ asking l p to (Some g) far in
      leads-one n us past t (asks m d to t) (acts.Post m d)
      (owes ((to, cargos.Ask m d) ∷ []) (unheards.asked m.id.seat m.id.number t.place.unheard)
      (unheard-asked l past p e t.place.unheard m d new.copy (eq-eqb p p refl) refl asks-elsewhere
      (λ y h. eq-eqb t.caller.seat y.seat (sym new.seat ∙ (less-of y h).0))
      (λ y h. (facts n us past t w y).unposted (less-of y h).1)
      (λ y h. unknown-unheard y (is_at p) past ((facts n us past t w y).fresh (less-of y h).1).about)
      w.here.unheard)
      (record {
        order = put-order o os w.packets.order;
        messages = messages-one l past e all x os (put o os) (facts n us past t w) refl (λ z ne. put-out (is_of z) o os ne) w.packets.messages
            (put-in (is_of x) o os (same_id-self x) none-of ∙ sym (ap (under_way_as l (e ∷ past) x (next_clock t)) asked ∙ shown));
        transfers = transfers-none l past e all os (put o os) refl (λ q. put-out (is_with q) o os refl) w.packets.transfers;
        asks = asks-now (put o os)
            (λ f b q ne. ap (flat_map (asked_by f)) (put-out (is_link b q) o os (ap (λ r. r && (to == q)) ne)))
            (λ f q ne. put-asks f p q o os (ap (λ r. cond r (x ∷ []) []) (ap (are_same same_ui (Some f)) group ∙ ne)))
            (λ q h. (
            let same : to ≡ q = (let both : Some to ≡ Some q = sym far ∙ h in cc) in
            subst (λ r. asked_for g p r (put o os) ≡ asked_for g p r os ++ x ∷ []) same
            (ap (flat_map (asked_by g)) (put-last (is_link p to) o os (λ u z. z) lead w.packets.order)
            ∙ (flat_map-append (asked_by g) (filter (is_link p to) os) (o ∷ []) ∙ ap (λ ys. asked_for g p to os ++ (ys ++ [])) one))));
      })) refl refl

  -- The group is here, or nowhere.
  abbrev behind : Turn
  behind = say (acts.Post m d) (record (unchanged t) { caller = poster m d t.caller }) t

  own-post : far_place t.place.layout t.place.number (Some g) ≡ None → Stood n us (e ∷ past) behind
  own-post near =
      let all = (laws n us past t w).posted in
      owes [] t.place.unheard (unheard-posted l past e t.place.unheard m d refl (ap (is_asking_place l p) group ∙ not-asking l p g near) w.here.unheard)
      (record {
        order = w.packets.order;
        messages = messages-one l past e all x os os (facts n us past t w) refl (λ z ne. refl) w.packets.messages
            (none-of ∙ sym (ap (under_way_as l (e ∷ past) x (next_clock t)) asked ∙ ap (asked_as (e ∷ past) x (next_clock t) p d) (ap (far_place l p) group ∙ near)));
        transfers = transfers-none l past e all os os refl (λ q. refl) w.packets.transfers;
        asks = asks-now os (λ f b q ne. refl) (λ f q ne. refl) (λ q h. absurd (let bad : None ≡ Some q = sym near ∙ h in cc));
      })

  module _ (near : far_place t.place.layout t.place.number (Some g) ≡ None) (own : is_choosing_place t.place.layout g t.place.number t.place.number ≡ true)
      (ready : unchosen (at t.place.number past) (posts_to g (at t.place.number past)) ≡ []) where
    abbrev v : Stood n us (e ∷ past) behind
    v = own-post near

    abbrev now : List Outgoing
    now = put_all behind.puts us

    stage : progress (about m.id (e ∷ past)) ≡ Asked t.place.number d
    stage = ap progress (keeps (is_about (Some x)) e past (same_id-self x)) ∙ asked

    under : Stage m.id (e ∷ past) (Asked t.place.number d)
    under = subst (Stage x (e ∷ past)) stage (facts n us (e ∷ past) behind v x).stage

    -- it is the only post to the group from here that has no choice
    left : unchosen (at t.place.number (e ∷ past)) (posts_to g (at t.place.number (e ∷ past))) ≡ m.id ∷ []
    left =
        still-chosen p (posts_to g (at p (e ∷ past)))
        ∙ (ap (unchosen (at p past)) posts-here
        ∙ (filter-append (λ (y : MsgId). not (is_chosen y (at p past))) (posts_to g (at p past)) (x ∷ [])
        ∙ (ap (λ ys. ys ++ unchosen (at p past) (x ∷ [])) ready
        ∙ ap (λ b. cond (not b) (x ∷ []) []) (unknown-unchosen x (is_at p) past (unknown n us past t i m new)))))

    none-now : filter (is_of m.id) now ≡ []
    none-now =
        v.packets.messages x
        ∙ (ap (λ s. under_way_as l (e ∷ past) x (last_clock (about x (e ∷ past))) s) stage
        ∙ ap (asked_as (e ∷ past) x (last_clock (about x (e ∷ past))) p d) (ap (far_place l p) group ∙ near))

    post : IsPostTo (e ∷ past) g t.place.number m.id
    post = record { post = under.1.post; is = under.1.posted; place = under.1.place; group = ap group_in under.1.dest ∙ group }

    -- an entry that chooses for it leaves what is asked for from elsewhere
    still-asked : (c : Entry) → c.place ≡ t.place.number → ((y : MsgId) → groups.chooses y c.act ≡ same_id m.id y) → ((f : Ui) → post_to f c.act ≡ []) → AreAsked t.place.layout now (c ∷ e ∷ past)
    still-asked c here picks silent f b q h =
        v.packets.asks f b q h
        ∙ (sym (others (is_at q c)) ∙ ap (unchosen (at q (c ∷ e ∷ past))) (sym (posts-same f b (e ∷ past) c (silent f))))
      where
        not-it : (y z : Bool) → same_ui g f ≡ y → (t.place.number == b) ≡ z → (same_ui g f ≡ false) ⊎ ((t.place.number == b) ≡ false)
        not-it false z e1 e2 = inl e1
        not-it true false e1 e2 = inr e2
        not-it true true e1 e2 =
            let is : g ≡ f = from_same_ui g f e1 in
            let is2 : p ≡ b = eqb-true p b e2 in
            let bad : None ≡ Some q = sym near ∙ ((λ j. far_place l (is2 j) (Some (is j))) ∙ h) in
            absurd (cc)

        others : (r : Bool) → unchosen (cond r (c ∷ at q (e ∷ past)) (at q (e ∷ past))) (posts_to f (at b (e ∷ past))) ≡ unchosen (at q (e ∷ past)) (posts_to f (at b (e ∷ past)))
        others false = refl
        others true =
            unchosen-other x c (at q (e ∷ past)) (posts_to f (at b (e ∷ past))) picks
            (not-listed l (e ∷ past) g f p b x (legal-now n now (e ∷ past) behind v) post (not-it (same_ui g f) (p == b) refl refl))

    to-choose : ToChoose n us (e ∷ past) behind m d g t.place.number now
    to-choose =
        record {
          stage = stage;
          group = group;
          place = own;
          next = ap (are_same same_id (Some x)) (first-of-unchosen (at p (e ∷ past)) x (posts_to g (at p (e ∷ past))) [] left) ∙ same_id-self x;
          post = record { place = p; message = m; dest = d };
          posted = post-now n us past t i m new d;
          dest = refl;
          at_home = refl;
          message = sym message-is;
          clock = clock-now;
          moved = moves-none x now v.packets.order;
          others = λ z ne. refl;
          ports = λ q. refl;
          none = none-now;
          unsent = under.1.unsent;
          asks = still-asked;
        }
      where
        clock-now : last_clock (about m.id (e ∷ past)) ≤ known_clock behind
        clock-now =
            let c : last_clock (about x (e ∷ past)) ≡ next_clock t = ap last_clock (keeps (is_about (Some x)) e past (same_id-self x)) in
            omega (arith, c)

    own-post-stands : LeadsOn n us past (chooses_own m d g t)
    own-post-stands =
        let u = chooses_own m d g t in
        then (λ z. LeadsOn n us z u) (λ z. Calm n us z u) past
        (step (λ z. LeadsOn n us z u) e past
        (chooses-stand n us us (e ∷ past) behind v (rests-behind past t (acts.Post m d) refl) m d g p now to-choose (λ a b s. says n us (e ∷ past) behind v a b s)))
        (λ z h. h)

  -- here, or there
  pub to-group-stands : ReadyHere t → LeadsOn n us past (posts_to_group m d g t)
  to-group-stands ready = by (choosing_place t.place g == t.place.number) refl
    where
      near : (o : Option ℕ) → (unwrap_or o t.place.number == t.place.number) ≡ true → other_place t.place.number o ≡ None
      near None h = refl
      near (Some q) h = ap (λ b. cond b None (Some q)) h

      far : (o : Option ℕ) → (unwrap_or o t.place.number == t.place.number) ≡ false → other_place t.place.number o ≡ Some (unwrap_or o t.place.number)
      far None h = absurd (false≢true (sym h ∙ eq-eqb p p refl))
      far (Some q) h = ap (λ b. cond b None (Some q)) h

      by : (b : Bool) → (choosing_place t.place g == t.place.number) ≡ b → LeadsOn n us past (cond b (chooses_own m d g t) (asks m d (choosing_place t.place g) t))
      by true h = own-post-stands (near (group_place l g) h) h (ap (λ z. unchosen z (posts_to g z)) (sym w.here.journal) ∙ ready.chosen g h)
      by false h = far-post-stands (choosing_place t.place g) (far (group_place l g) h)

-- Send to a group.
module _ (n : NetState) (us : List Outgoing) (past : List Entry) (t : Turn) (ready : ReadyHere t) (body : List ℕ) where
  abbrev message-now : Message
  message-now = next_message tags.Plain body t.caller

  sends : (d : Dest) (g : Ui) → group_in d ≡ Some g → sent_to message-now.id d ≡ [] → posted t.place.number d ≡ Asked t.place.number d → poster message-now d t.caller ≡ after_post t.caller
      → IsGiven n us past t (commands.Send d body) → place_at t.place.layout t.caller.actor.site t.caller.actor ≡ t.place.number → LeadsOn n us past (posts_to_group message-now d g t)
  sends d g group unsent asked poster-is i home =
      let m = message-now in
      let e = next_entry (acts.Post m d) t in
      let mine = by t.caller.seat past in
      let f = given-fits n us past t (commands.Send d body) i in
      to-group-stands n us past t (record { stood = i.stood; rests = i.rests }) m (record { seat = refl; number = refl; copy = refl }) d g group unsent asked f.kinds f.may
      (subst (λ c. CallerSays past t (acts.Post m d) c) (sym poster-is)
      (record {
        seat = refl;
        actor = refl;
        posts = refl;
        given = omega arith;
        call = i.stood.caller.call ∙ sym (outstanding-more e mine (call mine) (λ z. refl));
        hand = refl;
        stays = eq-eqb t.place.number (place_at t.place.layout t.caller.actor.site t.caller.actor) (sym home);
      })) ready

  pub all-stands : (g : Ui) → IsGiven n us past t (commands.Send (dests.All g) body) → LeadsOn n us past (act (commands.Send (dests.All g) body) t)
  all-stands g i = sends (dests.All g) g refl refl refl refl i (sym i.place)

  pub one-stands : (g : Ui) → IsGiven n us past t (commands.Send (dests.One g) body) → LeadsOn n us past (act (commands.Send (dests.One g) body) t)
  one-stands g i = sends (dests.One g) g refl refl refl refl i (sym i.place)

  pub one-at-stands : (g : Ui) (site : ℕ) → IsGiven n us past t (commands.Send (dests.OneAt g site) body) → LeadsOn n us past (act (commands.Send (dests.OneAt g site) body) t)
  one-at-stands g site i = sends (dests.OneAt g site) g refl refl refl refl i (sym i.place)
