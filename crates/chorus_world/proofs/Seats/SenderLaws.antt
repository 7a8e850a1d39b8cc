-- A port accepts what one place sends to it by one route in the order in which it was sent.
use Rattle.std.proofs.Common.{ℕ, ◌≡◌, ◌+◌, ◌<◌, ◌≤◌, true, ◌&&◌, cond, List, [], ◌∷◌, ◌++◌, Option, Some, None, unwrap_or, refl, sym, ◌∙◌, ap, subst, arith, inl, inr}
use Rattle.std.specs.List.{slice_get}
use Rattle.std.specs.Option.{option_or}
use Rattle.std.proofs.lemmas.Bool.{and_from, eqb-true, false≢true, cases_lt}
use Rattle.std.proofs.lemmas.Option.{slice_get_within}
use Rattle.chorus_ui.specs.declared.ui.Ui.{Ui}
use Rattle.chorus_ui.specs.declared.layout.Layout.{Layout}
use Rattle.chorus_ui.specs.Layout.{group_place}
use Rattle.chorus_ui.specs.Name.{same_ui}
use Rattle.chorus_ui.proofs.Names.{same_ui-self}
use Rattle.chorus_entry.specs.declared.entry.Entry.{Entry}
use Rattle.chorus_entry.specs.declared.id.MsgId.{MsgId}
use Rattle.chorus_entry.specs.declared.message.Message.{Message}
use Rattle.chorus_entry.specs.declared.dest.Dest.{Dest}
use Rattle.chorus_entry.specs.declared.dest.Dest.TheVariants.{Port}
use Rattle.chorus_entry.specs.declared.act.Act.{Act}
use Rattle.chorus_entry.specs.declared.act.Act.TheVariants.{Post, Choose, Accept}
use Rattle.chorus_entry.specs.Dest.{group_in}
use Rattle.chorus_entry.specs.MsgId.{same_id}
use Rattle.chorus_entry.proofs.Same.{from_same_id, same_id-self}
use Rattle.chorus_world.specs.declared.place.Sent.{Sent}
use Rattle.chorus_world.specs.Views.{views, at, by, about}
use Rattle.chorus_world.specs.Messages.{verdict}
use Rattle.chorus_world.specs.Places.{sent, sent_by, find_sent}
use Rattle.chorus_entry.specs.Same.{same_route}
use Rattle.chorus_world.specs.Posts.{Posted, post_of, source}
use Rattle.chorus_world.specs.Groups.{posts_to, is_chosen, first_unchosen, is_choosing_place}
use Rattle.chorus_world.specs.Seats.{posts}
use Rattle.chorus_world.specs.Steps.{act_may, is_legal}
use Rattle.chorus_world.specs.AcceptedLaws.{accepted_by}
use Rattle.chorus_world.specs.SenderLaws.{route_of, route_from}
use Rattle.chorus_world.proofs.Messages.SentLemmas.{find_sent_append}
use Rattle.chorus_world.proofs.Steps.LegalLemmas.{legal_parts}
use Rattle.chorus_world.proofs.Ports.LineLemmas.{none_some, id_is}
use Rattle.chorus_world.proofs.Messages.SendingLemmas.{sent_as, prior, IsAhead, from_or, cond_some, some_is, sent_before, sent_stays, prior_stays, at_same}
use Rattle.chorus_world.proofs.Messages.PostLemmas.{post_needs, post_stays, ChoiceNeeds, asked_facts, same_post, copy_found}
use Rattle.chorus_world.proofs.Messages.MessageInvariant.{legal_messages}
use Rattle.chorus_world.proofs.Messages.AcceptedLemmas.{accepted_before, accepted_belongs, accepted_posted, accept_waits, waiting_posted, IsWaiting, Belongs}
use Rattle.chorus_world.proofs.Messages.OrderLemmas.{has_id, before, one_is_prior, none_unsettled, prior_new, one_is_before, unchosen_is_next, all_chosen}
use Rattle.chorus_world.proofs.Groups.MemberLemmas.{chosen_distinct, copies_apart}
use Rattle.chorus_world.proofs.Groups.ChoiceLemmas.{same_post_place, posts_rise, chosen_facts, new_copy, sent_chosen}

pub some_post : (a b : Posted) → Some a ≡ Some b → a ≡ b
some_post a b h = some_is a b h

-- Where a message was sent.

-- a copy was sent by the place where the members of its post are chosen
pub copy_home : (l : Layout) (past : List Entry) (p : ℕ) (x : MsgId) (m : Sent) (g : Ui) (d : Posted) → is_legal l past ≡ true → sent_as x p past ≡ Some m → m.route ≡ Some g → post_of x past ≡ Some d → is_choosing_place l g d.place p ≡ true
copy_home l [] p x m g d h k r e = none_some m k
copy_home l (e ∷ past) p x m g d h k r f =
    let two = legal_parts l e past h in
    elim (sent_before x p past e m k) [
      | inl old ↦ (
          let o = (legal_messages l past two.1 x).origin p m old in
          let same : o.post ≡ d = some_post o.post d (sym (post_stays x past e o.post o.posted) ∙ f) in
          copy_home l past p x m g d two.1 old r (o.posted ∙ ap (λ z. Some z) same))
      | inr new ↦ (
          let c = new_copy l past e x g m h new.1 r in
          let asked = (asked_facts c.post past c.needs.from c.needs.dest (legal_messages l past two.1 c.post) c.needs.asked).1 in
          let posted : post_of x past ≡ Some asked.post = same_post x c.post past c.seat c.number ∙ asked.posted in
          let same : asked.post ≡ d = some_post asked.post d (sym (post_stays x past e asked.post posted) ∙ f) in
          let from : c.needs.from ≡ d.place = sym asked.place ∙ ap (λ (z : Posted). z.place) same in
          subst (λ z. is_choosing_place l g z p ≡ true) from (subst (λ z. is_choosing_place l g c.needs.from z ≡ true) new.0 c.needs.place))
    ]

-- The order in which one place sends.

-- the number of a message that was sent is among those that its seat has used
sent_number : (l : Layout) (past : List Entry) (p : ℕ) (x : MsgId) (m : Sent) → is_legal l past ≡ true → sent_as x p past ≡ Some m → x.number ≤ posts (by x.seat past)
sent_number l past p x m h k =
    elim (cases_lt (posts (by x.seat past)) x.number) [
      | inl less ↦ none_some m (sym (((legal_messages l past h x).fresh less).unsent p) ∙ k)
      | inr le ↦ le
    ]

-- a copy that was sent before is of an earlier post than one whose members are chosen now, if they are of one seat
earlier_copy : (l : Layout) (past : List Entry) (p : ℕ) (z y : MsgId) (k : Sent) (g : Ui) → is_legal l past ≡ true → ChoiceNeeds l past p y g → sent_as z p past ≡ Some k → k.route ≡ Some g → z.seat ≡ y.seat → z.number < y.number
earlier_copy l past p z y k g h needs s r e =
    let w = source z in
    let chosen = sent_chosen l past p z k g h s r in
    let c = chosen_facts l past w p h chosen in
    let asked = (asked_facts y past needs.from needs.dest (legal_messages l past h y) needs.asked).1 in
    let o = (legal_messages l past h z).origin p k s in
    let post : o.post ≡ c.post = some_post o.post c.post (sym o.posted ∙ c.posted) in
    let group : c.group ≡ g = some_is c.group g (sym c.dest ∙ (ap (λ (d : Posted). group_in d.dest) (sym post) ∙ (sym o.route ∙ r))) in
    let place : c.post.place ≡ needs.from = same_post_place l past w y c.post asked.post h e c.posted asked.posted ∙ asked.place in
    let list = posts_to g (at needs.from past) in
    let listed : has_id w list ≡ true = subst (λ v. has_id w (posts_to v (at needs.from past)) ≡ true) group (subst (λ v. has_id w (posts_to c.group (at v past)) ≡ true) place c.listed) in
    let ahead : first_unchosen (at p past) (before w list) ≡ None = subst (λ v. first_unchosen (at p past) (before w (posts_to v (at needs.from past))) ≡ None) group (subst (λ v. first_unchosen (at p past) (before w (posts_to c.group (at v past))) ≡ None) place c.ahead) in
    let next = unchosen_is_next (at p past) y list (id_is y (first_unchosen (at p past) list) needs.next) in
    let apart : w ≡ y → ⊥ = λ same. false≢true (sym next.0 ∙ (ap (λ v. is_chosen v (at p past)) (sym same) ∙ chosen)) in
    elim (one_is_before w y list apart listed next.1) [
      | inl behind ↦ absurd (false≢true (sym next.0 ∙ all_chosen (at p past) y (before w list) ahead behind))
      | inr first ↦ posts_rise l past g needs.from w y h next.1 first e
    ]

-- what is sent directly is posted
pub direct_act : (x : MsgId) (a : Act) (m : Sent) → find_sent x (sent_by a) ≡ Some m → m.route ≡ None → (n : Message) × (d : Dest) × (a ≡ Post n d) × (n.id ≡ x)
direct_act x (Choose y h qs) m f r = none_some h (sym r ∙ (copy_found x y h 1 qs m f).route)
direct_act x (Post n (Port q)) m f r =
    elim (cond_some (same_id n.id x) (record { id = n.id; port = q; route = None }) m None f) [
      | inl this ↦ (n, Port q, refl, from_same_id n.id x this.0)
      | inr none ↦ none_some m none.1
    ]
direct_act x (Post n _) m f r = none_some m f
direct_act x _ m f r = none_some m f

-- x is sent by the entry, and z was sent before to the same port by the same route: its number is less
sent_later : (l : Layout) (past : List Entry) (e : Entry) (x z : MsgId) (m k : Sent) (r : Option Ui) → is_legal l (e ∷ past) ≡ true → find_sent x (sent_by e.act) ≡ Some m → m.route ≡ r → sent_as z e.place past ≡ Some k → k.route ≡ r → z.seat ≡ x.seat → z.number < x.number
sent_later l past e x z m k (Some g) h f r s t u =
    let two = legal_parts l e past h in
    let c = new_copy l past e x g m h f r in
    let less : z.number < c.post.number = earlier_copy l past e.place z c.post k g two.1 c.needs s t (u ∙ c.seat) in
    subst (λ n. z.number < n) (sym c.number) less
sent_later l past e x z m k None h f r s t u =
    let two = legal_parts l e past h in
    let le = sent_number l past e.place z k two.1 s in
    let c = direct_act x e.act m f r in
    let needs = post_needs l past e.place e.seat c.0 c.1 (subst (λ a. act_may l (views past e.place e.seat a) e.place e.seat a ≡ true) c.2 two.0) in
    let seat : z.seat ≡ e.seat = u ∙ (ap (λ (y : MsgId). y.seat) (sym c.3) ∙ needs.seat) in
    let below : z.number ≤ posts (by e.seat past) = subst (λ n. z.number ≤ posts (by n past)) seat le in
    let number : x.number ≡ posts (by e.seat past) + 1 = ap (λ (y : MsgId). y.number) (sym c.3) ∙ needs.number in
    omega (arith, below, number)

-- no other message that the entry sends goes to the port of x before it
direct_alone : (x z : MsgId) (n : Message) (d : Dest) (k : Sent) → n.id ≡ x → find_sent z (prior x (sent_by (Post n d))) ≡ Some k → ⊥
direct_alone x z n (Port q) k e f =
    let same : same_id n.id x ≡ true = ap (same_id n.id) (sym e) ∙ same_id-self n.id in
    none_some k (ap (λ b. find_sent z (cond b [] (record { id = n.id; port = q; route = None } ∷ []))) (sym same) ∙ f)
direct_alone x z n _ k e f = none_some k f

sent_alone : (l : Layout) (past : List Entry) (e : Entry) (x z : MsgId) (m k : Sent) (r : Option Ui) → is_legal l (e ∷ past) ≡ true → find_sent x (sent_by e.act) ≡ Some m → m.route ≡ r → find_sent z (prior x (sent_by e.act)) ≡ Some k → k.port ≡ m.port → ⊥
sent_alone l past e x z m k (Some g) h f r s t =
    let c = new_copy l past e x g m h f r in
    let distinct = chosen_distinct l past e.place e.seat c.post g c.members c.needs (legal_parts l e past h).1 c.may in
    copies_apart x z c.post g 1 c.members m k distinct c.found (ap (λ a. find_sent z (prior x (sent_by a))) (sym c.act) ∙ s) t
sent_alone l past e x z m k None h f r s t =
    let c = direct_act x e.act m f r in
    direct_alone x z c.0 c.1 k c.3 (ap (λ a. find_sent z (prior x (sent_by a))) (sym c.2) ∙ s)

-- what stays, and is so where x is sent by the next entry and z was sent before, is so wherever z was sent before x by the
-- same place, to the same port, by the same route
module _ (l : Layout) (R : List Entry → MsgId → MsgId → Option Ui → Type 0) (grows : (past : List Entry) (e : Entry) (z x : MsgId) (r : Option Ui) → R past z x r → R (e ∷ past) z x r) (begins : (past : List Entry) (e : Entry) (z x : MsgId) (m k : Sent) → is_legal l (e ∷ past) ≡ true → find_sent x (sent_by e.act) ≡ Some m → sent_as z e.place past ≡ Some k → k.route ≡ m.route → R (e ∷ past) z x m.route) where
  Ordered : List Entry → ℕ → MsgId → MsgId → Type 0
  Ordered past p x z =
      (m k : Sent) → sent_as x p past ≡ Some m → find_sent z (prior x (sent (at p past))) ≡ Some k → k.port ≡ m.port → k.route ≡ m.route → R past z x m.route

  ordered_step : (past : List Entry) (e : Entry) (p : ℕ) (x z : MsgId) (o : Option Sent) → is_legal l (e ∷ past) ≡ true → Ordered past p x z → sent_as x p past ≡ o → Ordered (e ∷ past) p x z
  unfolding Ordered
  ordered_step past e p x z (Some n) h i old m k a b s t =
      let same : n ≡ m = some_is n m (sym (sent_stays x p past e n old) ∙ a) in
      let was : sent_as x p past ≡ Some m = old ∙ ap (λ y. Some y) same in
      grows past e z x m.route (i m k was (ap (find_sent z) (sym (prior_stays x p past e n old)) ∙ b) s t)
  ordered_step past e p x z None h i none m k a b s t =
      elim (sent_before x p past e m a) [
        | inl old ↦ none_some m (sym none ∙ old)
        | inr new ↦ (
            let S = sent (at p past) in
            let N = sent_by e.act in
            let view : sent (at p (e ∷ past)) ≡ S ++ N = ap sent (at_same p e past new.0) in
            let prior_is : prior x (sent (at p (e ∷ past))) ≡ S ++ prior x N = ap (prior x) view ∙ prior_new x S N none in
            let found : option_or (find_sent z S) (find_sent z (prior x N)) ≡ Some k = sym (find_sent_append z S (prior x N)) ∙ (ap (find_sent z) (sym prior_is) ∙ b) in
            elim (from_or (find_sent z S) (find_sent z (prior x N)) k found) [
              | inl before ↦ begins past e z x m k h new.1 (subst (λ y. sent_as z y past ≡ Some k) (sym new.0) before) t
              | inr beside ↦ absurd (sent_alone l past e x z m k m.route h new.1 refl beside.1 s)
            ])
      ]

  ordered_by : (past : List Entry) (p : ℕ) (x z : MsgId) → is_legal l past ≡ true → Ordered past p x z
  unfolding Ordered
  ordered_by [] p x z h = λ m k a b s t. none_some m a
  ordered_by (e ∷ past) p x z h = ordered_step past e p x z (sent_as x p past) h (ordered_by past p x z (legal_parts l e past h).1) refl

  pub sent_in_order : (past : List Entry) (p : ℕ) (x z : MsgId) (m k : Sent) → is_legal l past ≡ true → sent_as x p past ≡ Some m → find_sent z (prior x (sent (at p past))) ≡ Some k → k.port ≡ m.port → k.route ≡ m.route → R past z x m.route
  unfolding Ordered
  sent_in_order past p x z m k h a b s t = ordered_by past p x z h m k a b s t

-- of one seat the earlier one has the less number
abbrev IsLess : List Entry → MsgId → MsgId → Option Ui → Type 0
IsLess past z x r = z.seat ≡ x.seat → z.number < x.number

pub numbers_in_order : (l : Layout) (past : List Entry) (p : ℕ) (x z : MsgId) (m k : Sent) → is_legal l past ≡ true → sent_as x p past ≡ Some m → find_sent z (prior x (sent (at p past))) ≡ Some k → k.port ≡ m.port → k.route ≡ m.route → z.seat ≡ x.seat → z.number < x.number
numbers_in_order l past p x z m k h a b s t =
    sent_in_order l IsLess (λ past e z x r i. i)
    (λ past e z x m k h f g t u. sent_later l past e x z m k m.route h f refl g t u)
    past p x z m k h a b s t

-- Acceptance.

same_route_self : (r : Option Ui) → same_route r r ≡ true
same_route_self None = refl
same_route_self (Some g) = same_ui-self g

-- x was accepted by the port, y is due for it, and both come from one place by one route: then x was sent before y
pub accepted_first : (past : List Entry) (q : Ui) (x y : MsgId) (a : Belongs x q past) (w : IsWaiting y q past) → a.place ≡ w.place → a.message.route ≡ w.message.route → find_sent x (prior y (sent (at w.place past))) ≡ Some a.message
accepted_first past q x y a w place route =
    let here = at w.place past in
    let is_x : sent_as x w.place past ≡ Some a.message = subst (λ p. sent_as x p past ≡ Some a.message) place a.is in
    let ahead : IsAhead x w.place past a.message = subst (λ p. IsAhead x p past a.message) place a.ahead in
    let apart : x ≡ y → ⊥ = λ same. none_some a.answer (sym (subst (λ z. verdict z (about z past) ≡ None) (sym same) w.undecided.verdict) ∙ a.verdict) in
    elim (one_is_prior x y (sent here) a.message w.message apart is_x w.is) [
      | inl behind ↦ (
          let port : w.message.port ≡ a.message.port = w.port ∙ sym a.port in
          let test : same_ui w.message.port a.message.port && same_route w.message.route a.message.route ≡ true =
          and_from (same_ui w.message.port a.message.port) (same_route w.message.route a.message.route)
          (ap (same_ui w.message.port) (sym port) ∙ same_ui-self w.message.port)
          (ap (λ r. same_route r a.message.route) (sym route) ∙ same_route_self a.message.route) in
          absurd (false≢true (sym w.live ∙ none_unsettled a.message.port a.message.route here y (prior x (sent here)) w.message ahead behind test)))
      | inr first ↦ first
    ]

place_case : (l : Layout) (past : List Entry) (x y : MsgId) (p r : ℕ) (m n : Sent) (s : Option Ui) → is_legal l past ≡ true → x.seat ≡ y.seat → sent_as x p past ≡ Some m → sent_as y r past ≡ Some n → m.route ≡ s → n.route ≡ s → p ≡ r
place_case l past x y p r m n None h e a b c d =
    let ox = (legal_messages l past h x).origin p m a in
    let oy = (legal_messages l past h y).origin r n b in
    sym (ox.place c) ∙ (same_post_place l past x y ox.post oy.post h e ox.posted oy.posted ∙ oy.place d)
place_case l past x y p r m n (Some g) h e a b c d =
    let ox = (legal_messages l past h x).origin p m a in
    let oy = (legal_messages l past h y).origin r n b in
    let from = same_post_place l past x y ox.post oy.post h e ox.posted oy.posted in
    let px = eqb-true (unwrap_or (group_place l g) ox.post.place) p (copy_home l past p x m g ox.post h a c ox.posted) in
    let py = eqb-true (unwrap_or (group_place l g) oy.post.place) r (copy_home l past r y n g oy.post h b d oy.posted) in
    sym px ∙ (ap (λ z. unwrap_or (group_place l g) z) from ∙ py)

-- messages of one seat by one route come from one place
pub same_home : (l : Layout) (past : List Entry) (x y : MsgId) (p r : ℕ) (m n : Sent) → is_legal l past ≡ true → x.seat ≡ y.seat → sent_as x p past ≡ Some m → sent_as y r past ≡ Some n → m.route ≡ n.route → p ≡ r
same_home l past x y p r m n h e a b c = place_case l past x y p r m n n.route h e a b c refl

pub route_is : (l : Layout) (past : List Entry) (x : MsgId) (p : ℕ) (m : Sent) → is_legal l past ≡ true → sent_as x p past ≡ Some m → route_of x past ≡ m.route
route_is l past x p m h a =
    let o = (legal_messages l past h x).origin p m a in ap route_from o.posted ∙ sym o.route

pub route_stays : (x : MsgId) (past : List Entry) (e : Entry) (d : Posted) → post_of x past ≡ Some d → route_of x (e ∷ past) ≡ route_of x past
route_stays x past e d h = ap route_from (post_stays x past e d h ∙ sym h)

-- y is accepted now, and x was before
order_now : (l : Layout) (past : List Entry) (e : Entry) (q : Ui) (i : ℕ) (x y : MsgId) (n : ℕ) → is_legal l (e ∷ past) ≡ true → e.act ≡ Accept y q n → slice_get (accepted_by q past) i ≡ Some x → x.seat ≡ y.seat → route_of x past ≡ route_of y past → x.number < y.number
order_now l past e q i x y n h a old s r =
    let two = legal_parts l e past h in
    let b = accepted_belongs l past q i x two.1 old in
    let w = accept_waits l past e y q n h a in
    let route : b.message.route ≡ w.message.route = sym (route_is l past x b.place b.message two.1 b.is) ∙ (r ∙ route_is l past y w.place w.message two.1 w.is) in
    let place : b.place ≡ w.place = same_home l past x y b.place w.place b.message w.message two.1 s b.is w.is route in
    let first = accepted_first past q x y b w place route in
    numbers_in_order l past w.place y x w.message b.message two.1 w.is first (b.port ∙ sym w.port) route s

pub keeps_sender_order : (l : Layout) (past : List Entry) (q : Ui) (i j : ℕ) (x y : MsgId) → is_legal l past ≡ true → i < j → slice_get (accepted_by q past) i ≡ Some x → slice_get (accepted_by q past) j ≡ Some y → x.seat ≡ y.seat → route_of x past ≡ route_of y past → x.number < y.number
keeps_sender_order l [] q i j x y h lt a k s r = absurd (let z : i < 0 = slice_get_within [] i x a in omega arith)
keeps_sender_order l (e ∷ past) q i j x y h lt a k s r =
    let two = legal_parts l e past h in
    elim (accepted_before q past e i x a) [
      | inr new ↦ elim (accepted_before q past e j y k) [
        | inl late ↦ absurd (let z = slice_get_within (accepted_by q past) j y late in omega (arith, new.2, z, lt))
        | inr late ↦ absurd (omega (arith, new.2, late.2, lt))
      ]
      | inl old ↦ (
          let px = accepted_posted l past q i x two.1 old in
          elim (accepted_before q past e j y k) [
            | inl late ↦ (
                let py = accepted_posted l past q j y two.1 late in
                let route = sym (route_stays x past e px.0 px.1) ∙ (r ∙ route_stays y past e py.0 py.1) in
                keeps_sender_order l past q i j x y two.1 lt old late s route)
            | inr new ↦ (
                let py = waiting_posted l past q y two.1 (accept_waits l past e y q new.0 h new.1) in
                let route = sym (route_stays x past e px.0 px.1) ∙ (r ∙ route_stays y past e py.0 py.1) in
                order_now l past e q i x y new.0 h new.1 old s route)
          ])
    ]
