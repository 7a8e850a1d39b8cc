-- Where no packet is left all is done: by each place's own entries, and so by the merge of the journals.
use Rattle.std.proofs.Common.{ℕ, ◌≡◌, ◌≢◌, Bool, true, false, ◌==◌, ◌&&◌, not, cond, List, [], ◌∷◌, map, Option, Some, None, is_some, unwrap_or, refl, sym, ◌∙◌, ap, subst, inl, inr}
use Rattle.std.specs.List.{filter}
use Rattle.std.proofs.lemmas.Bool.{eqb-true, eq-eqb, false≢true, true≢false, and_parts, and_from, or_left, or_right, or_cases, not-true, false_from_ne_true, cond_both}
use Rattle.chorus_ui.specs.declared.ui.Ui.{Ui}
use Rattle.chorus_ui.specs.declared.layout.Layout.{Layout}
use Rattle.chorus_ui.specs.Layout.{IsLayout, group_place}
use Rattle.chorus_ui.specs.Name.{same_ui}
use Rattle.chorus_ui.proofs.Names.{same_ui-self}
use Rattle.chorus_entry.specs.declared.entry.Entry.{Entry}
use Rattle.chorus_entry.specs.declared.id.MsgId.{MsgId}
use Rattle.chorus_entry.specs.declared.dest.Dest.{Dest}
use Rattle.chorus_entry.specs.declared.dest.Dest.TheVariants as D
use Rattle.chorus_entry.specs.declared.answer.Answer.{Answer}
use Rattle.chorus_entry.specs.declared.act.Act.{Act}
use Rattle.chorus_entry.specs.declared.act.Act.TheVariants as acts
use Rattle.chorus_entry.specs.declared.packet.Packet.{Packet}
use Rattle.chorus_entry.specs.Act.{message_of, port_of, answer_of}
use Rattle.chorus_entry.specs.Answer.{is_final}
use Rattle.chorus_entry.specs.Dest.{group_in}
use Rattle.chorus_entry.specs.MsgId.{same_id}
use Rattle.chorus_entry.proofs.Same.{same_id-self, from_same_id}
use Rattle.chorus_world.specs.declared.progress.Progress.{Progress}
use Rattle.chorus_world.specs.declared.progress.Progress.TheVariants.{Idle, Asked, Tried, Decided, Settled, Reported}
use Rattle.chorus_world.specs.declared.place.Sent.{Sent}
use Rattle.chorus_world.specs.declared.spot.Spot.{Spot}
use Rattle.chorus_world.specs.declared.spot.Spot.TheVariants as spots
use Rattle.chorus_world.specs.Views.{views, at, about, on, is_about}
use Rattle.chorus_entry.specs.Order.{is_at}
use Rattle.chorus_entry.specs.Same.{are_same, is_number, same_route}
use Rattle.chorus_world.specs.Messages.{progress, progress_after, settled, decided, decided_by, told, is_to_be_heard}
use Rattle.chorus_world.specs.Ports.{PortState, fate, is_moving}
use Rattle.chorus_world.specs.Posts.{Posted, post_of, posted_in, source, tag_from}
use Rattle.chorus_world.specs.Places.{last_clock, sent, unsettled, just_taken, reply_taken, reply_taken_by}
use Rattle.chorus_world.specs.Groups.{posts_to, is_chosen, chooses, is_choosing_place, unchosen}
use Rattle.chorus_world.specs.Steps.{is_legal, is_asked_from, is_asking_place, may_hear}
use Rattle.chorus_world.specs.Order.{sort}
use Rattle.chorus_world.specs.SortingLaws.{SortsViews}
use Rattle.chorus_world.proofs.Messages.StageLemmas.{Stage}
use Rattle.chorus_world.proofs.Messages.MessageSteps.{IsAmong, Fits, legal_inv}
use Rattle.chorus_world.proofs.Messages.MessageInvariant.{legal_messages}
use Rattle.chorus_world.proofs.Sorted.Holders.{run_is_legal}
use Rattle.place_unsettled.specs.declared.wait.Key.{Key}
use Rattle.place_unsettled.specs.Queues.{Queue}
use Rattle.law_machine.specs.declared.outgoing.Outgoing.{Outgoing}
use Rattle.law_network.specs.Network.{NetState, place}
use Rattle.law_network.specs.Left.{packets_left, merged_past}
use Rattle.law_network.specs.Records.{as_wait, is_for, sent_for, tried_at, queue_of}
use Rattle.law_network.specs.UnderWay.{is_of, is_with, asked_as, other_place, far_place, reported_to, reported_as, under_way_as, under_way, transfer_in, transfer_of, transfer}
use Rattle.law_network.specs.Stands.{Stands, actor_of}
use Rattle.law_network.specs.Ready.{IsReady}
use Rattle.law_network.specs.Quiet.{IsQuiet, is_moving_port}
use Rattle.law_network.proofs.Merge.Journals.{views as sorted_views, merge-is}

pub some-none : {A : Type 0} {P : Type 0} (x : A) (xs : List A) → x ∷ xs ≡ [] → P
some-none x xs h = cc

-- Lists.

-- a message that has a choice anywhere has it among the entries about it
chosen-about : (x : MsgId) (p : ℕ) (past : List Entry) → is_chosen x (at p past) ≡ true → is_chosen x (about x past) ≡ true
chosen-about x p [] h = h
chosen-about x p (e ∷ past) h = go (is_at p e) h (chosen-about x p past)
  where
    on : (a : Act) → chooses x a ≡ true → are_same same_id (Some x) (message_of a) ≡ true
    on (acts.Choose y g qs) k = subst (λ z. same_id x z ≡ true) (sym (from_same_id y x k)) (same_id-self x)
    on (acts.NoMember y g) k = subst (λ z. same_id x z ≡ true) (sym (from_same_id y x k)) (same_id-self x)
    on _ k = absurd (false≢true k)

    new : (b : Bool) → is_about (Some x) e ≡ b → is_chosen x (about x past) ≡ true → is_chosen x (cond b (e ∷ about x past) (about x past)) ≡ true
    new true f k = or_right (chooses x e.act) (is_chosen x (about x past)) k
    new false f k = k

    go : (b : Bool) → is_chosen x (cond b (e ∷ at p past) (at p past)) ≡ true → (is_chosen x (at p past) ≡ true → is_chosen x (about x past) ≡ true) → is_chosen x (about x (e ∷ past)) ≡ true
    go false k ih = new (is_about (Some x) e) refl (ih k)
    go true k ih =
        elim (or_cases (chooses x e.act) (is_chosen x (at p past)) k) [
          | inl now ↦
              ap (λ b. is_chosen x (cond b (e ∷ about x past) (about x past))) (on e.act now) ∙ or_left (chooses x e.act) (is_chosen x (about x past)) now
          | inr old ↦ new (is_about (Some x) e) refl (ih old)
        ]

all-chosen : (here : List Entry) (x : MsgId) (xs : List MsgId) → IsAmong x xs → unchosen here xs ≡ [] → is_chosen x here ≡ true
all-chosen here x [] i h = absurd i
all-chosen here x (y ∷ ys) i h = go (is_chosen y here) refl h i (all-chosen here x ys)
  where
    go : (b : Bool) → is_chosen y here ≡ b → cond (not b) (y ∷ unchosen here ys) (unchosen here ys) ≡ [] → IsAmong x (y ∷ ys) → (IsAmong x ys → unchosen here ys ≡ [] → is_chosen x here ≡ true) → is_chosen x here ≡ true
    go true e k (inl same) ih = subst (λ z. is_chosen z here ≡ true) same e
    go true e k (inr later) ih = ih later k
    go false e k j ih = some-none y (unchosen here ys) k

-- a message that is asked for goes to a group
abbrev IsToGroup : Progress → Type 0
IsToGroup (Asked from d) = (g : Ui) × (group_in d ≡ Some g)
IsToGroup _ = Unit {0}

settled-to : (a : Answer) → IsToGroup (settled a)
settled-to a = cond_both (is_final a) (Settled a) Idle IsToGroup (λ _. tt) (λ _. tt)

decided-to : (p : ℕ) (q : Ui) (a : Answer) (z : Progress) → IsToGroup z → IsToGroup (decided p q a z)
decided-to p q a (Tried from k to hop) h = cond_both ((to == p) && same_ui k q) (Decided from p k a) Idle IsToGroup (λ _. tt) (λ _. tt)
decided-to p q a Idle h = settled-to a
decided-to p q a (Asked from d) h = h
decided-to p q a (Decided from b k c) h = tt
decided-to p q a (Settled b) h = tt
decided-to p q a Reported h = tt

decided-by-to : (p : ℕ) (o : Option Ui) (b : Option Answer) (z : Progress) → IsToGroup z → IsToGroup (decided_by p o b z)
decided-by-to p None b z h = h
decided-by-to p (Some q) None z h = h
decided-by-to p (Some q) (Some a) z h = decided-to p q a z h

told-to : (a : Answer) (z : Progress) → IsToGroup z → IsToGroup (told a z)
told-to a (Decided from b q c) h = settled-to a
told-to a Idle h = h
told-to a _ h = h

after-to : (p : ℕ) (a : Act) (z : Progress) → IsToGroup z → IsToGroup (progress_after p a z)
after-to p (acts.Post m (D.Port q)) z h = tt
after-to p (acts.Post m (D.All g)) z h = (g, refl)
after-to p (acts.Post m (D.One g)) z h = (g, refl)
after-to p (acts.Post m (D.OneAt g n)) z h = (g, refl)
after-to p (acts.Choose x g qs) z h = tt
after-to p (acts.NoMember x g) z h = tt
after-to p (acts.Try x q to hop) z h = tt
after-to p (acts.Told x a) z h = told-to a z h
after-to p (acts.Heard x a) z h = tt
after-to p act z h = decided-by-to p (port_of act) (answer_of act) z h

asked-group : (es : List Entry) → IsToGroup (progress es)
asked-group [] = tt
asked-group (e ∷ es) = after-to e.place e.act (progress es) (asked-group es)

route-self : (r : Option Ui) → same_route r r ≡ true
route-self None = refl
route-self (Some g) = same_ui-self g

module _ (n : NetState) (past : List Entry) (shape : IsLayout n.layout) (s : Stands n past) (r : IsReady n past) (none : n.packets ≡ []) where
  legal : is_legal n.layout past ≡ true
  legal = run_is_legal n.layout (actor_of n) past s.run

  nothing : (x : MsgId) → under_way n.layout past x ≡ []
  nothing x = sym (s.messages x) ∙ ap (filter (is_of x)) none

  no-transfer : (q : Ui) → transfer past q ≡ []
  no-transfer q = sym (s.transfers q) ∙ ap (filter (is_with q)) none

  ports-rest : (q : Ui) → is_moving_port (fate (on q past)) ≡ false
  ports-rest q = go (fate (on q past)) (no-transfer q)
    where
      by-spot : (f : PortState) (spot : Spot) → transfer_in past (on q past) q f spot ≡ [] → is_moving spot ≡ false
      by-spot f (spots.Held a) h = refl
      by-spot f (spots.Moving a) h = absurd (cc)
      by-spot f spots.Ended h = refl

      go : (o : Option PortState) → transfer_of past (on q past) q o ≡ [] → is_moving_port o ≡ false
      go None h = refl
      go (Some f) h = by-spot f f.spot h

  -- the first message of a port and route is under way
  untried : (x : MsgId) (z : Progress) → under_way_as n.layout past x (last_clock (about x past)) z ≡ [] → tried_at z ≡ None
  untried x Idle u = refl
  untried x (Asked from d) u = refl
  untried x (Tried from q to hop) u = absurd (cc)
  untried x (Decided from by q a) u = absurd (cc)
  untried x (Settled a) u = refl
  untried x Reported u = refl

  waits-rest : (p : ℕ) → unsettled (at p past) (sent (at p past)) ≡ []
  waits-rest p = go (unsettled (at p past) (sent (at p past))) refl
    where
      go : (ms : List Sent) → unsettled (at p past) (sent (at p past)) ≡ ms → unsettled (at p past) (sent (at p past)) ≡ []
      go [] e = e
      go (m ∷ ms) e =
          let k : Key = record { port = m.port; route = m.route } in
          let for_k : is_for k m ≡ true = and_from (same_ui m.port m.port) (same_route m.route m.route) (same_ui-self m.port) (route-self m.route) in
          let first : sent_for past p k ≡ m ∷ filter (is_for k) ms = ap (filter (is_for k)) e ∙ ap (λ b. cond b (m ∷ filter (is_for k) ms) (filter (is_for k) ms)) for_k in
          let is : (place p n).waiting k ≡ queue_of past (m ∷ filter (is_for k) ms) = s.waiting p k ∙ ap (queue_of past) first in
          let open_still : ((place p n).waiting k).tried ≡ None = ap (λ (z : Queue). z.tried) is ∙ untried m.id (progress (about m.id past)) (nothing m.id) in
          let none_waits : map (as_wait past) (m ∷ filter (is_for k) ms) ≡ [] = ap (λ (z : Queue). z.waits) (sym is) ∙ r.tried p k open_still in
          some-none (as_wait past m) (map (as_wait past) (filter (is_for k) ms)) none_waits

  -- a post to a group is asked for at another place, or chosen here
  choosing-here : (p : ℕ) (o : Option ℕ) → other_place p o ≡ None → (unwrap_or o p == p) ≡ true
  choosing-here p None h = eq-eqb p p refl
  choosing-here p (Some k) h = by (k == p) refl h
    where
      by : (b : Bool) → (k == p) ≡ b → cond b None (Some k) ≡ None → (k == p) ≡ true
      by true e f = e
      by false e f = absurd (cc)

  no-ask : (x : MsgId) (c p : ℕ) (d : Dest) (o : Option ℕ) → asked_as past x c p d o ≡ [] → o ≡ None
  no-ask x c p d None h = refl
  no-ask x c p d (Some k) h = absurd (cc)

  posts-rest : (x : MsgId) (p : ℕ) (d : Dest) → progress (about x past) ≢ Asked p d
  posts-rest x p d e =
      let to : IsToGroup (Asked p d) = subst IsToGroup e (asked-group (about x past)) in
      let g = to.0 in
      let near : other_place p (group_place n.layout g) ≡ None = ap (far_place n.layout p) (sym to.1) ∙ no-ask x (last_clock (about x past)) p d (far_place n.layout p (group_in d)) (ap (under_way_as n.layout past x (last_clock (about x past))) (sym e) ∙ nothing x) in
      let here : is_choosing_place n.layout g p p ≡ true = choosing-here p (group_place n.layout g) near in
      let same : are_same same_ui (Some g) (group_in d) ≡ true = ap (are_same same_ui (Some g)) to.1 ∙ same_ui-self g in
      let fits : Fits n.layout past x (Asked p d) = subst (Fits n.layout past x) e ((legal_inv n.layout past shape legal).messages x) in
      let chosen : is_chosen x (at p past) ≡ true = all-chosen (at p past) x (posts_to g (at p past)) (fits g same) (r.chosen p g here) in
      let stage : Stage x past (Asked p d) = subst (Stage x past) e (legal_messages n.layout past legal x).stage in
      true≢false (sym (chosen-about x p past chosen) ∙ stage.0.chosen)

  -- and what became of it is reported
  hears-rest : (p : ℕ) (x : MsgId) (a : Answer) → may_hear n.layout (views past p 0 (acts.Heard x a)) p x a ≡ false
  hears-rest p x a = false_from_ne_true (may_hear n.layout (views past p 0 (acts.Heard x a)) p x a) (λ h.
      let two = and_parts (is_asked_from n.layout p (post_of x past)) (is_to_be_heard a (progress (about x past))) h in
      go (progress (about x past)) (post_of x past) refl two.1 two.0 (nothing x))
    where
      far : (c home : ℕ) (b : Answer) (o : Option ℕ) → is_some o && not (is_number p o) ≡ true → home ≡ p → reported_to x c b home (other_place home o) ≡ [] → ⊥
      far c home b None h e u = false≢true h
      far c home b (Some j) h e u =
          let other : (j == home) ≡ false = subst (λ i. (j == i) ≡ false) (sym e) (not-true (j == p) h) in
          let now : reported_to x c b home (Some j) ≡ [] = ap (λ t. reported_to x c b home (cond t None (Some j))) (sym other) ∙ u in
          absurd (cc)

      asked : (c home : ℕ) (b : Answer) (o : Option Ui) → is_asking_place n.layout p o ≡ true → home ≡ p → reported_to x c b home (far_place n.layout home o) ≡ [] → ⊥
      asked c home b None h e u = false≢true h
      asked c home b (Some g) h e u = far c home b (group_place n.layout g) h e u

      reported : (c : ℕ) (b : Answer) (o : Option Posted) → is_asked_from n.layout p o ≡ true → reported_as n.layout x c b o ≡ [] → ⊥
      reported c b None h u = false≢true h
      reported c b (Some m) h u =
          let two = and_parts (m.place == p) (is_asking_place n.layout p (group_in m.dest)) h in
          asked c m.place b (group_in m.dest) two.1 (eqb-true m.place p two.0) u

      go : (z : Progress) (o : Option Posted) → post_of x past ≡ o → is_to_be_heard a z ≡ true → is_asked_from n.layout p o ≡ true → under_way_as n.layout past x (last_clock (about x past)) z ≡ [] → ⊥
      go (Settled b) o e h i u = reported (last_clock (about x past)) b o i (ap (reported_as n.layout x (last_clock (about x past)) b) (sym e) ∙ u)
      go Idle o e h i u = false≢true h
      go (Asked f d) o e h i u = false≢true h
      go (Tried f q to hop) o e h i u = false≢true h
      go (Decided f b q c) o e h i u = false≢true h
      go Reported o e h i u = false≢true h

  pub rests : IsQuiet n.layout past (packets_left n)
  rests =
      record {
        packets = ap (map (λ (o : Outgoing). o.packet)) none;
        ports = ports-rest;
        messages = waits-rest;
        posts = posts-rest;
        reports = hears-rest;
        replies = r.ended;
      }

-- The same of the sorted past.

taken-sort : (past here : List Entry) → SortsViews past → just_taken (sort past) here ≡ just_taken past here
taken-sort past [] v = refl
taken-sort past (e ∷ here) v = go e.act
  where
    go : (a : Act) → reply_taken_by (sort past) e.seat a ≡ reply_taken_by past e.seat a
    go (acts.Take q n x) = ap (λ mine. reply_taken e.seat (tag_from (posted_in (source x) mine))) (v.seats x.seat)
    go _ = refl

quiet-sort : (l : Layout) (past : List Entry) (rest : List Packet) → SortsViews past → IsQuiet l past rest → IsQuiet l (sort past) rest
quiet-sort l past rest v k =
    record {
      packets = k.packets;
      ports = λ q. ap (λ line. is_moving_port (fate line)) (v.ports q) ∙ k.ports q;
      messages = λ p. ap (λ here. unsettled here (sent here)) (v.places p) ∙ k.messages p;
      posts = λ x p d e. k.posts x p d (ap progress (sym (v.messages x)) ∙ e);
      reports = λ p x a.
          ap (λ mine. is_asked_from l p (posted_in (source x) mine) && is_to_be_heard a (progress (about x (sort past)))) (v.seats x.seat)
          ∙ ap (λ es. is_asked_from l p (post_of x past) && is_to_be_heard a (progress es)) (v.messages x)
          ∙ k.reports p x a;
      replies = λ p. ap (just_taken (sort past)) (v.places p) ∙ taken-sort past (at p past) v ∙ k.replies p;
    }

pub rests-merge : (n : NetState) (past : List Entry) → IsLayout n.layout → Stands n past → IsReady n past → n.packets ≡ [] → IsQuiet n.layout (merged_past n) (packets_left n)
rests-merge n past shape s r none =
    subst (λ all. IsQuiet n.layout all (packets_left n)) (sym (merge-is n past s))
    (quiet-sort n.layout past (packets_left n) (sorted_views n past s) (rests n past shape s r none))
