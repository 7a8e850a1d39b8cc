-- The first message that waits for a port by a route, at the place of a turn, where nothing of it is under way.
use Rattle.std.proofs.Common.{ℕ, ◌≡◌, ◌≤◌, ◌==◌, true, false, List, [], ◌∷◌, map, Option, Some, None, refl, sym, ◌∙◌, ap, subst, arith}
use Rattle.std.specs.List.{filter}
use Rattle.chorus_ui.specs.declared.layout.Layout.{Layout}
use Rattle.chorus_entry.specs.declared.entry.Entry.{Entry}
use Rattle.chorus_entry.specs.declared.act.Act.{Act}
use Rattle.chorus_entry.specs.Act.{message_of}
use Rattle.chorus_ui.specs.NameKind.{is_port}
use Rattle.chorus_world.specs.declared.place.Sent.{Sent}
use Rattle.chorus_world.specs.declared.progress.Progress.TheVariants.{Idle}
use Rattle.chorus_world.specs.Views.{at, about, is_about}
use Rattle.chorus_world.specs.Places.{last_clock, sent, sent_by, find_sent, is_first, is_settling}
use Rattle.chorus_world.specs.Posts.{site_asked}
use Rattle.chorus_world.specs.Messages.{progress, progress_after}
use Rattle.chorus_world.proofs.Sorted.ClockLemmas.{sender_clock}
use Rattle.chorus_world.proofs.Ports.LineLemmas.{id_is}
use Rattle.chorus_world.proofs.Messages.Posted.{IsPosted, sent_posted, filtered}
use Rattle.chorus_world.proofs.Messages.SendingLemmas.{sent_as, first_here, some_is}
use Rattle.chorus_world.proofs.Messages.StageLemmas.{first_is_idle}
use Rattle.place_unsettled.specs.declared.wait.Key.{Key}
use Rattle.place_unsettled.specs.declared.wait.Wait.{Wait}
use Rattle.place_unsettled.specs.Queues.{Queue, changed, passed}
use Rattle.place_unsettled.specs.Queues as queued
use Rattle.law_machine.specs.declared.outgoing.Outgoing.{Outgoing}
use Rattle.law_machine.specs.PlaceState.{Turn, next_entry}
use Rattle.law_network.specs.Packets.{put_all}
use Rattle.law_network.specs.Network.{NetState}
use Rattle.law_network.specs.Records.{message, home, as_wait, sent_for, queue_at, tried_at, first_tried}
use Rattle.law_network.specs.UnderWay.{is_of, under_way_as}
use Rattle.chorus_world.proofs.Messages.SentFacts.{EachSent, found-has, sent-named}
use Rattle.chorus_world.proofs.Messages.Firsts.{IsOpenFor, each-open, head-goes, goes-parts}
use Rattle.law_network.proofs.Standing.Says.{known_clock, MaySay}
use Rattle.law_network.proofs.Standing.Saying.{legal-now, known-here}
use Rattle.law_network.proofs.Standing.Grows.{message-id}
use Rattle.law_network.proofs.Tables.Queues.{tried-is, queue-tells, queue-passes}
use Rattle.law_network.proofs.Tables.TablesSay.{waiting-one}
use Rattle.law_network.proofs.Standing.Steps.{Stood, facts, laws, legal-with}

-- the message that waits first for k, and goes
pub record GoesFirst (past : List Entry) (p : ℕ) (k : Key) (v : Wait) (c : ℕ) (os : List Outgoing) : Type 0 where
  pub head : Sent
  pub rest : List Sent
  pub heads : sent_for past p k ≡ head ∷ rest
  pub id : head.id ≡ v.message.id
  pub message : v.message ≡ message past v.message.id
  pub only : v.only ≡ site_asked v.message.id past
  pub home : v.home ≡ home past v.message.id
  pub sent : find_sent v.message.id (sent (at p past)) ≡ Some (record { id = v.message.id; port = k.port; route = k.route })
  pub named : is_port k.port ≡ true
  pub posted : IsPosted past v.message.id
  pub first : is_first v.message.id k.port (at p past) ≡ true
  pub idle : progress (about v.message.id past) ≡ Idle
  pub clock : last_clock (about v.message.id past) ≤ c
  pub packets : filter (is_of v.message.id) os ≡ []

module _ (n : NetState) (us : List Outgoing) (past : List Entry) (t : Turn) (w : Stood n us past t) where
  abbrev os : List Outgoing
  os = put_all t.puts us

  abbrev p : ℕ
  p = t.place.number

  abbrev l : Layout
  l = t.place.layout

  -- What an entry about the first of the messages for k does to what waits.
  module _ (a : Act) (may : MaySay past t a) (unsent : sent_by a ≡ []) (k : Key) (m : Sent) (ns : List Sent) (first : sent_for past t.place.number k ≡ m ∷ ns) (this : message_of a ≡ Some m.id) where
    free : IsOpenFor t.place.layout k.port k.route t.place.number past m
    free = (subst (EachSent (IsOpenFor l k.port k.route p past)) first (each-open l k.port k.route p past (legal-now n os past t w))).0

    only-it : (j : Sent) → sent_as j.id t.place.number past ≡ Some j → is_about (Some j.id) (next_entry a t) ≡ true → j ≡ m
    only-it j found on =
        let same : m.id ≡ j.id = some_is m.id j.id (sym this ∙ id_is j.id (message_of a) on) in
        some_is j m (sym found ∙ (ap (λ x. sent_as x p past) (sym same) ∙ free.found))

    -- it is settled, and the next one is first
    pub waiting-passes : is_settling a ≡ true → (j : Key) → changed k passed t.place.waiting j ≡ queue_at (next_entry a t ∷ past) t.place.number j
    waiting-passes settling =
        let e = next_entry a t in
        let legal = legal-with n us past t w a may in
        let all = (laws n us past t w).posted in
        waiting-one l past e t.place.waiting all legal w.here.waiting k passed m free.found free.goes unsent only-it
        (sym (queue-passes l past e k all legal m ns first this unsent settling))

    -- it stays first, and is tried as it then says
    pub waiting-tells : is_settling a ≡ false → (to : Option ℕ) → tried_at (progress_after t.place.number a (progress (about m.id past))) ≡ to
        → (j : Key) → changed k (queued.at to) t.place.waiting j ≡ queue_at (next_entry a t ∷ past) t.place.number j
    waiting-tells still to goes =
        let e = next_entry a t in
        let legal = legal-with n us past t w a may in
        let all = (laws n us past t w).posted in
        waiting-one l past e t.place.waiting all legal w.here.waiting k (queued.at to) m free.found free.goes unsent only-it
        (ap (λ z. queued.at z (queue_at past p k)) (sym goes) ∙ sym (queue-tells l past e k all legal m ns first this unsent still))

  -- of a message that was sent, by the id x, which is its own
  as-sent : (k : Key) (m : Sent) (ms : List Sent) → sent_for past t.place.number k ≡ m ∷ ms → tried_at (progress (about m.id past)) ≡ None
      → GoesFirst past t.place.number k (as_wait past m) (known_clock t) (put_all t.puts us)
  as-sent k m ms heads none =
      let legal = legal-now n os past t w in
      let v = as_wait past m in
      let free = (subst (EachSent (IsOpenFor l k.port k.route p past)) heads (each-open l k.port k.route p past legal)).0 in
      let parts = goes-parts k.port k.route m free.goes in
      let back : m.id ≡ v.message.id = sym (message-id past m.id) in
      let posted = sent_posted past m.id (at p past) m (filtered past (λ e. e.place == p) past (laws n us past t w).posted) free.found in
      let first = head-goes l k.port k.route p past m ms legal heads (sym (tried-is (progress (about m.id past))) ∙ none) in
      let idle = (first_is_idle m.id k.port p past (facts n us past t w m.id) (first_here m.id k.port p past first)).0 in
      let clock = sender_clock l past m.id p m legal free.found idle in
      let known = known-here n os past t w in
      let le : last_clock (about m.id past) ≤ known_clock t = omega (arith, clock, known) in
      let empty : filter (is_of m.id) os ≡ [] = w.packets.messages m.id ∙ ap (under_way_as l past m.id (last_clock (about m.id past))) idle in
      let is : m ≡ record { id = m.id; port = k.port; route = k.route } = λ i. record { id = m.id; port = parts.0 i; route = parts.1 i } in
      record {
        head = m;
        rest = ms;
        heads = heads;
        id = back;
        message = ap (message past) back;
        only = ap (λ z. site_asked z past) back;
        home = ap (home past) back;
        sent = subst (λ z. find_sent z (sent (at p past)) ≡ Some (record { id = z; port = k.port; route = k.route })) back (free.found ∙ ap (λ z. Some z) is);
        named = ap is_port (sym parts.0) ∙ found-has (λ (j : Sent). is_port j.port ≡ true) m.id (sent (at p past)) m (sent-named l past p legal) free.found;
        posted = subst (IsPosted past) back posted;
        first = subst (λ z. is_first z k.port (at p past) ≡ true) back first;
        idle = subst (λ z. progress (about z past) ≡ Idle) back idle;
        clock = subst (λ z. last_clock (about z past) ≤ known_clock t) back le;
        packets = subst (λ z. filter (is_of z) os ≡ []) back empty;
      }

  -- the first of a queue of which nothing is under way
  pub goes-first-now : (k : Key) (v : Wait) (vs : List Wait) → t.place.waiting k ≡ record { tried = None; waits = v ∷ vs } → GoesFirst past t.place.number k v (known_clock t) (put_all t.puts us)
  goes-first-now k v vs h =
      by (sent_for past p k) refl (ap (λ (q : Queue). q.waits) (sym (w.here.waiting k) ∙ h)) (ap (λ (q : Queue). q.tried) (sym (w.here.waiting k) ∙ h))
    where
      by : (ms : List Sent) → sent_for past t.place.number k ≡ ms → map (as_wait past) (sent_for past t.place.number k) ≡ v ∷ vs → (queue_at past t.place.number k).tried ≡ None
          → GoesFirst past t.place.number k v (known_clock t) (put_all t.puts us)
      by [] e f g = absurd (let bad : [] ≡ v ∷ vs = ap (map (as_wait past)) (sym e) ∙ f in cc)
      by (m ∷ ms) e f g =
          let both : as_wait past m ∷ map (as_wait past) ms ≡ v ∷ vs = ap (map (as_wait past)) (sym e) ∙ f in
          let same : as_wait past m ≡ v = cc in
          subst (λ z. GoesFirst past p k z (known_clock t) os) same
          (as-sent k m ms e (ap (λ js. first_tried past js) (sym e) ∙ g))
