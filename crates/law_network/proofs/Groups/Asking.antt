-- A post to a group of another place is asked for, and members are chosen for it there.
use Rattle.std.proofs.Common.{ℕ, ◌≡◌, ◌≤◌, ◌⊎◌, inl, inr, ◌==◌, Bool, true, false, ◌&&◌, cond, List, [], ◌∷◌, ◌++◌, Option, Some, None, unwrap_or, refl, sym, ◌∙◌, ap, subst, arith, eq-eqb, append-nil}
use Rattle.std.specs.List.{filter, flat_map}
use Rattle.std.proofs.lemmas.Bool.{and_parts, eqb-true}
use Rattle.chorus_ui.specs.declared.ui.Ui.{Ui}
use Rattle.chorus_ui.specs.Name.{same_ui}
use Rattle.chorus_ui.proofs.Names.{same_ui-self, from_same_ui}
use Rattle.chorus_ui.specs.declared.layout.Layout.{Layout}
use Rattle.chorus_ui.specs.Layout.{group_place}
use Rattle.chorus_entry.specs.declared.entry.Entry.{Entry}
use Rattle.chorus_entry.specs.declared.id.MsgId.{MsgId}
use Rattle.chorus_entry.specs.declared.dest.Dest.{Dest}
use Rattle.chorus_entry.specs.declared.message.Message.{Message}
use Rattle.chorus_entry.specs.declared.packet.Packet.{Packet}
use Rattle.chorus_entry.specs.declared.packet.Cargo.TheVariants as cargos
use Rattle.chorus_entry.specs.Dest.{group_in}
use Rattle.chorus_entry.specs.MsgId.{same_id}
use Rattle.chorus_entry.proofs.Same.{same_id-self}
use Rattle.chorus_world.specs.declared.progress.Progress.{Progress}
use Rattle.chorus_world.specs.declared.progress.Progress.TheVariants.{Idle, Asked, Tried, Decided, Settled, Reported}
use Rattle.chorus_world.specs.Views.{at, about}
use Rattle.chorus_entry.specs.Order.{is_at}
use Rattle.chorus_entry.specs.Same.{are_same}
use Rattle.chorus_world.specs.Messages.{progress}
use Rattle.chorus_world.specs.Places.{last_clock}
use Rattle.chorus_world.specs.Posts.{Posted, post_of, site_asked}
use Rattle.chorus_world.specs.Groups as groups
use Rattle.chorus_world.specs.Groups.{posts_to, post_to, first_unchosen, is_choosing_place, unchosen}
use Rattle.chorus_world.specs.Steps.{is_legal}
use Rattle.chorus_ports.proofs.Tables.{differs_back}
use Rattle.chorus_world.proofs.Steps.LegalLemmas.{skips}
use Rattle.chorus_world.proofs.Messages.SendingLemmas.{at_same}
use Rattle.chorus_world.proofs.Messages.StageLemmas.{Stage}
use Rattle.law_machine.specs.declared.outgoing.Outgoing.{Outgoing}
use Rattle.law_machine.specs.PlaceState.{Turn}
use Rattle.law_machine.specs.Choosing.{chooses}
use Rattle.law_network.specs.Packets.{is_link, put_all, first_on, rest_on}
use Rattle.law_network.specs.Network.{NetState}
use Rattle.law_network.specs.Records.{message}
use Rattle.law_network.specs.UnderWay.{packet, carries, moves, route, other_place, far_place, asked_as, asked_in, asked_by, asked_for, reported_as, reported_to, under_way_as, is_of, is_with}
use Rattle.law_network.proofs.Links.LinkViews.{view-head, view-other}
use Rattle.law_network.proofs.Links.LinkViews.{rest-order}
use Rattle.law_network.proofs.Standing.InTurn.{ArePackets}
use Rattle.law_network.proofs.Standing.Says.{known_clock}
use Rattle.law_network.proofs.Standing.Saying.{legal-now}
use Rattle.law_network.proofs.Standing.Steps.{Stood, facts}
use Rattle.law_network.proofs.Links.PacketViews.{of-other, with-other}
use Rattle.law_network.proofs.Links.Abouts.{moves-none}
use Rattle.law_network.proofs.Links.UnderWays.{Seen, seen}
use Rattle.law_network.proofs.Standing.Leading.{LeadsOn}
use Rattle.law_network.proofs.Standing.Given.{Comes}
use Rattle.law_network.proofs.Packets.Receiving.{takes-says, packets-now}
use Rattle.chorus_world.proofs.Groups.GroupFacts.{IsPostTo, listed, unchosen-other, unchosen-first, first-of-unchosen, not-listed}
use Rattle.law_network.proofs.Groups.Choosing.{AreAsked, ToChoose, chooses-stand}

-- What an Ask says.

pub record SeesAsk (l : Layout) (past : List Entry) (x : MsgId) (s : Progress) (clock : ℕ) (o : Outgoing) (m : Message) (d : Dest) : Type 0 where
  pub stage : s ≡ Asked o.packet.from d
  pub message : m ≡ message past x
  pub far : far_place l o.packet.from (group_in d) ≡ Some o.to
  pub clock_is : o.packet.clock ≡ clock

pub sees-ask : (l : Layout) (past : List Entry) (x : MsgId) (c : ℕ) (s : Progress) (o : Outgoing) (m : Message) (d : Dest) → under_way_as l past x c s ≡ o ∷ [] → o.packet.cargo ≡ cargos.Ask m d → SeesAsk l past x s c o m d
sees-ask l past x c Idle o m d h e = absurd (cc)
sees-ask l past x c (Asked from b) o m d h e = go (far_place l from (group_in b)) refl h
  where
    go : (z : Option ℕ) → far_place l from (group_in b) ≡ z → asked_as past x c from b z ≡ o ∷ [] → SeesAsk l past x (Asked from b) c o m d
    go None f k = absurd (cc)
    go (Some p) f k =
        let is : packet from p c (cargos.Ask (message past x) b) ≡ o = cc in
        let cargo : cargos.Ask (message past x) b ≡ cargos.Ask m d = ap (λ (u : Outgoing). u.packet.cargo) is ∙ e in
        let dest : b ≡ d = cc in
        let mes : message past x ≡ m = cc in
        let sender : from ≡ o.packet.from = ap (λ (u : Outgoing). u.packet.from) is in
        record {
          stage = (λ i. Asked (sender i) (dest i));
          message = sym mes;
          far = (λ i. far_place l (sym sender i) (group_in (sym dest i))) ∙ (f ∙ ap (λ (u : Outgoing). Some u.to) is);
          clock_is = sym (ap (λ (u : Outgoing). u.packet.clock) is);
        }
sees-ask l past x c (Tried from q to hop) o m d h e = absurd (let is : packet from to c (cargos.Try (message past x) q (route past x from) (site_asked x past) hop) ≡ o = cc in let bad : cargos.Try (message past x) q (route past x from) (site_asked x past) hop ≡ cargos.Ask m d = ap (λ (u : Outgoing). u.packet.cargo) is ∙ e in cc)
sees-ask l past x c (Decided from b q a) o m d h e = absurd (let is : packet b from c (cargos.Verdict x q (route past x from) a) ≡ o = cc in let bad : cargos.Verdict x q (route past x from) a ≡ cargos.Ask m d = ap (λ (u : Outgoing). u.packet.cargo) is ∙ e in cc)
sees-ask l past x c (Settled a) o m d h e = go (post_of x past) h
  where
    to : (p : ℕ) (z : Option ℕ) → reported_to x c a p z ≡ o ∷ [] → ⊥
    to p None k = cc
    to p (Some f) k = let is : packet f p c (cargos.Report x a) ≡ o = cc in let bad : cargos.Report x a ≡ cargos.Ask m d = ap (λ (u : Outgoing). u.packet.cargo) is ∙ e in cc

    go : (z : Option Posted) → reported_as l x c a z ≡ o ∷ [] → SeesAsk l past x (Settled a) c o m d
    go None k = absurd (cc)
    go (Some b) k = absurd (to b.place (far_place l b.place (group_in b.dest)) k)
sees-ask l past x c Reported o m d h e = absurd (cc)

-- What is asked for, without the first packet of a pair.

asked-head : (f : Ui) (a p : ℕ) (us : List Outgoing) (k : Packet) → first_on a p us ≡ Some k → asked_for f a p us ≡ asked_in f k.cargo ++ asked_for f a p (rest_on a p us)
asked-head f a p us k h =
    let v = view-head (is_link a p) a p us k (λ u e. e) (λ u e q. e) h in
    ap (flat_map (asked_by f)) v.2 ∙ ap (λ (z : Packet). asked_in f z.cargo ++ asked_for f a p (rest_on a p us)) v.1

asked-else : (f : Ui) (a p b s : ℕ) (us : List Outgoing) (k : Packet) → ((u : Outgoing) → is_link a p u ≡ true → is_link b s u ≡ false) → first_on a p us ≡ Some k → asked_for f b s (rest_on a p us) ≡ asked_for f b s us
asked-else f a p b s us k n h = ap (flat_map (asked_by f)) (view-other (is_link b s) a p us k (λ u e q. n u e) h)

link-else : (a p b s : ℕ) → ((b == a) && (s == p)) ≡ false → (u : Outgoing) → is_link a p u ≡ true → is_link b s u ≡ false
link-else a p b s h u e =
    let two = and_parts (u.packet.from == a) (u.to == p) e in
    let from = eqb-true u.packet.from a two.0 in
    let to = eqb-true u.to p two.1 in
    (λ i. (from i == b) && (to i == s)) ∙ differ a p b s h
  where
    differ : (a p b s : ℕ) → ((b == a) && (s == p)) ≡ false → ((a == b) && (p == s)) ≡ false
    differ a p b s h = grind (arith, h)

-- an entry that posts to no group
posts-same : (f : Ui) (b : ℕ) (past : List Entry) (e : Entry) → post_to f e.act ≡ [] → posts_to f (at b (e ∷ past)) ≡ posts_to f (at b past)
posts-same f b past e h = go (is_at b e)
  where
    go : (c : Bool) → posts_to f (cond c (e ∷ at b past) (at b past)) ≡ posts_to f (at b past)
    go true = ap (λ xs. posts_to f (at b past) ++ xs) h ∙ append-nil (posts_to f (at b past))
    go false = refl

module _ (n : NetState) (us : List Outgoing) (past : List Entry) (t : Turn) (from : ℕ) (k : Packet) (i : Comes n us past t from k) (m : Message) (d : Dest) (c : k.cargo ≡ cargos.Ask m d) where
  abbrev w : Stood n us past t
  w = i.calm.stood

  abbrev l : Layout
  l = t.place.layout

  abbrev p : ℕ
  p = t.place.number

  abbrev x : MsgId
  x = m.id

  abbrev rest : List Outgoing
  rest = rest_on from t.place.number us

  packets-here : ArePackets t.place.layout us past
  packets-here = packets-now n us past t from k i

  carries-it : carries m.id k.cargo ≡ true
  carries-it = ap (carries m.id) c ∙ same_id-self m.id

  abbrev s : Seen t.place.layout past m.id from t.place.number us k
  s = seen t.place.layout past m.id from t.place.number us k packets-here carries-it i.first

  sees : SeesAsk t.place.layout past m.id (progress (about m.id past)) (last_clock (about m.id past)) s.packet m d
  sees = sees-ask l past x (last_clock (about x past)) (progress (about x past)) s.packet m d s.under (ap (λ (z : Packet). z.cargo) s.is ∙ c)

  sender : s.packet.packet.from ≡ from
  sender = ap (λ (z : Packet). z.from) s.is ∙ s.from

  stage : progress (about m.id past) ≡ Asked from d
  stage = sees.stage ∙ ap (λ z. Asked z d) sender

  far : far_place t.place.layout from (group_in d) ≡ Some t.place.number
  far = ap (λ z. far_place t.place.layout z (group_in d)) (sym sender) ∙ (sees.far ∙ ap (λ z. Some z) s.to)

  -- it goes to a group
  pub asks-group : group_in d ≡ None → ⊥
  asks-group none = let bad : None ≡ Some t.place.number = sym (ap (far_place l from) none) ∙ far in cc

  under : Stage m.id past (Asked from d)
  under = subst (Stage m.id past) stage (facts n us past t w m.id).stage

  -- the packets without the Ask, where an entry chooses for the post
  rest-asked : (g : Ui) → group_in d ≡ Some g → (e : Entry) → e.place ≡ t.place.number → ((y : MsgId) → groups.chooses y e.act ≡ same_id m.id y) → ((f : Ui) → post_to f e.act ≡ []) → AreAsked t.place.layout (rest_on from t.place.number us) (e ∷ past)
  rest-asked g group e here picks posts f b q h =
      go (b == from) (q == t.place.number) (same_ui g f) refl refl refl ∙ ap (unchosen (at q (e ∷ past))) (sym (posts-same f b past e (posts f)))
    where
      old : asked_for f b q us ≡ unchosen (at q past) (posts_to f (at b past))
      old = packets-here.asks f b q h

      legal : is_legal t.place.layout past ≡ true
      legal = legal-now n (put_all t.puts us) past t w

      post : IsPostTo past g from m.id
      post = record { post = under.1.post; is = under.1.posted; place = under.1.place; group = ap group_in under.1.dest ∙ group }

      view : at t.place.number (e ∷ past) ≡ e ∷ at t.place.number past
      view = at_same t.place.number e past here

      -- the same posts, at the place of the choice, where x is none of them
      others : (same_ui g f ≡ false) ⊎ ((from == b) ≡ false) → unchosen (at t.place.number (e ∷ past)) (posts_to f (at b past)) ≡ unchosen (at t.place.number past) (posts_to f (at b past))
      others ne =
          ap (λ v. unchosen v (posts_to f (at b past))) view
          ∙ unchosen-other x e (at p past) (posts_to f (at b past)) picks (not-listed l past g f from b x legal post ne)

      back : (a b : ℕ) → (b == a) ≡ false → (a == b) ≡ false
      back a b z = grind (arith, z)

      and-right : (a b : Bool) → b ≡ false → (a && b) ≡ false
      and-right true b z = z
      and-right false b z = refl

      go : (y z g-is : Bool) → (b == from) ≡ y → (q == t.place.number) ≡ z → same_ui g f ≡ g-is → asked_for f b q rest ≡ unchosen (at q (e ∷ past)) (posts_to f (at b past))
      go y false g-is e1 e2 e3 =
          asked-else f from p b q us k (link-else from p b q (and-right (b == from) (q == p) e2)) i.first
          ∙ (old ∙ ap (λ v. unchosen v (posts_to f (at b past))) (sym (skips (is_at q) e past (ap (λ r. r == q) here ∙ back p q e2))))
      go false true g-is e1 e2 e3 =
          let same : q ≡ p = eqb-true q p e2 in
          asked-else f from p b q us k (link-else from p b q (ap (λ r. r && (q == p)) e1)) i.first
          ∙ (old ∙ (ap (λ r. unchosen (at r past) (posts_to f (at b past))) same
          ∙ (sym (others (inr (back from b e1))) ∙ ap (λ r. unchosen (at r (e ∷ past)) (posts_to f (at b past))) (sym same))))
      go true true false e1 e2 e3 =
          let same : q ≡ p = eqb-true q p e2 in
          let same2 : b ≡ from = eqb-true b from e1 in
          let none : asked_in f k.cargo ≡ [] = ap (asked_in f) c ∙ (ap (λ o. cond (are_same same_ui (Some f) o) (x ∷ []) []) group ∙ ap (λ r. cond r (x ∷ []) []) (differs_back g f e3)) in
          let head : asked_for f b q us ≡ asked_for f b q rest =
          (λ j. asked_for f (same2 j) (same j) us) ∙ (asked-head f from p us k i.first ∙ (ap (λ xs. xs ++ asked_for f from p rest) none ∙ (λ j. asked_for f (sym same2 j) (sym same j) rest))) in
          sym head ∙ (old ∙ (ap (λ r. unchosen (at r past) (posts_to f (at b past))) same
          ∙ (sym (others (inl e3)) ∙ ap (λ r. unchosen (at r (e ∷ past)) (posts_to f (at b past))) (sym same))))
      go true true true e1 e2 e3 =
          let same : q ≡ p = eqb-true q p e2 in
          let same2 : b ≡ from = eqb-true b from e1 in
          let same3 : g ≡ f = from_same_ui g f e3 in
          let one : asked_in f k.cargo ≡ x ∷ [] =
          ap (asked_in f) c ∙ (ap (λ o. cond (are_same same_ui (Some f) o) (x ∷ []) []) (group ∙ ap (λ r. Some r) same3) ∙ ap (λ r. cond r (x ∷ []) []) (same_ui-self f)) in
          let head : asked_for f b q us ≡ x ∷ asked_for f b q rest =
          (λ j. asked_for f (same2 j) (same j) us) ∙ (asked-head f from p us k i.first ∙ (ap (λ xs. xs ++ asked_for f from p rest) one ∙ (λ j. x ∷ asked_for f (sym same2 j) (sym same j) rest))) in
          let first : unchosen (at p past) (posts_to f (at b past)) ≡ x ∷ asked_for f b q rest = ap (λ r. unchosen (at r past) (posts_to f (at b past))) (sym same) ∙ (sym old ∙ head) in
          sym (ap (λ r. unchosen (at r (e ∷ past)) (posts_to f (at b past))) same
          ∙ (ap (λ v. unchosen v (posts_to f (at b past))) view ∙ unchosen-first x e (at p past) (posts_to f (at b past)) (asked_for f b q rest) picks (listed l past f b legal).apart first))

  group-is : (g : Ui) → group_in d ≡ Some g → (is_choosing_place t.place.layout g from t.place.number ≡ true) × (asked_for g from t.place.number us ≡ m.id ∷ asked_for g from t.place.number (rest_on from t.place.number us))
  group-is g group = (
    place (group_place l g) (ap (far_place l from) (sym group) ∙ far),
    asked-head g from p us k i.first
        ∙ ap (λ xs. xs ++ asked_for g from p rest)
        (ap (asked_in g) c ∙ (ap (λ o. cond (are_same same_ui (Some g) o) (x ∷ []) []) group ∙ ap (λ r. cond r (x ∷ []) []) (same_ui-self g))),
  )
    where
      place : (z : Option ℕ) → other_place from z ≡ Some t.place.number → (unwrap_or z from == t.place.number) ≡ true
      place None h = absurd (cc)
      place (Some r) h = go (r == from) h
        where
          go : (b : Bool) → cond b None (Some r) ≡ Some t.place.number → (r == t.place.number) ≡ true
          go true h2 = absurd (cc)
          go false h2 = let same : r ≡ t.place.number = cc in eq-eqb r t.place.number same

  pub to-choose : (g : Ui) → group_in d ≡ Some g → ToChoose n us past t m d g from (rest_on from t.place.number us)
  to-choose g group =
      let two = group-is g group in
      let first : first_unchosen (at p past) (posts_to g (at from past)) ≡ Some x =
      first-of-unchosen (at p past) x (posts_to g (at from past)) (asked_for g from p rest) (sym (packets-here.asks g from p (ap (far_place l from) (sym group) ∙ far)) ∙ two.1) in
      let clock : last_clock (about x past) ≤ known_clock t =
      (let a = sees.clock_is in let b = ap (λ (z : Packet). z.clock) s.is in let e = i.clock in omega (arith, a, b, e)) in
      let back : (ys : List Outgoing) → t.puts ≡ [] → put_all t.puts ys ≡ ys = λ ys e. ap (λ xs. put_all xs ys) e in
      record {
        stage = stage;
        group = group;
        place = two.0;
        next = ap (are_same same_id (Some x)) first ∙ same_id-self x;
        post = under.1.post;
        posted = under.1.posted;
        dest = under.1.dest;
        at_home = under.1.place;
        message = sees.message;
        clock = clock;
        moved = moves-none x rest (rest-order from p us packets-here.order);
        others = λ z ne. of-other z from p us k (ap (carries z) c ∙ ne) i.first ∙ sym (ap (filter (is_of z)) (back us i.none));
        ports = λ q. with-other q from p us k (ap (moves q) c) i.first ∙ sym (ap (filter (is_with q)) (back us i.none));
        none = s.rest;
        unsent = under.1.unsent;
        asks = rest-asked g group;
      }

  -- an Ask
  pub ask-stands : (g : Ui) → group_in d ≡ Some g → LeadsOn n (rest_on from t.place.number us) past (chooses m d g from t)
  ask-stands g group =
      chooses-stand n us rest past t w i.calm.rests m d g from rest (to-choose g group)
      (λ a b o. takes-says n us rest past t a b i.none w o)
