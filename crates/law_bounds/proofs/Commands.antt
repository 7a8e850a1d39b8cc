-- A turn with a command.
use Rattle.std.proofs.Common.{ℕ, ◌≡◌, ◌≤◌, ◌<◌, ◌+◌, ◌==◌, nat_le, Bool, true, false, ◌&&◌, cond, List, [], ◌∷◌, ◌++◌, length, Option, Some, None, IfSome, refl, subst, arith, leb-true, All}
use Rattle.std.proofs.lemmas.Bool.{and_parts, and_from, le-leb}
use Rattle.std.proofs.lemmas.Bool.Decides.{nat_tests}
use Rattle.std.proofs.lemmas.List.Elements.{All-nil, All-cons, All-push}
use Rattle.chorus_ui.specs.declared.ui.Ui.{Ui}
use Rattle.chorus_ui.specs.declared.kind.Kind.{Kind}
use Rattle.chorus_ui.specs.declared.kind.Kind.TheVariants as kinds
use Rattle.chorus_ui.specs.Kind.{same_kind}
use Rattle.chorus_ui.specs.Name.{same_ui}
use Rattle.chorus_ui.proofs.Names.{from_same_ui}
use Rattle.chorus_ui.specs.Layout.{has_site}
use Rattle.chorus_entry.specs.declared.id.MsgId.{MsgId}
use Rattle.chorus_entry.specs.declared.hand.Hand.{Hand}
use Rattle.chorus_entry.specs.declared.tag.Tag.{Tag}
use Rattle.chorus_entry.specs.declared.tag.Tag.TheVariants as tags
use Rattle.chorus_entry.specs.declared.message.Message.{Message}
use Rattle.chorus_entry.specs.declared.dest.Dest.{Dest}
use Rattle.chorus_entry.specs.declared.dest.Dest.TheVariants as dests
use Rattle.chorus_entry.specs.declared.act.Act.{Act}
use Rattle.chorus_entry.specs.declared.act.Act.TheVariants as acts
use Rattle.chorus_entry.specs.declared.command.Command.{Command}
use Rattle.chorus_entry.specs.declared.packet.Cargo.{Cargo}
use Rattle.chorus_entry.specs.declared.record.PortRecord.{PortRecord}
use Rattle.chorus_entry.specs.PortRecord.{new_record}
use Rattle.chorus_entry.specs.Dest.{site_in}
use Rattle.chorus_ui.specs.NameKind as name_kind
use Rattle.chorus_ui.specs.NameKind.{is_actor, is_port}
use Rattle.chorus_entry.specs.Kinds.{has_kinds_in_tag, has_kinds_in_dest}
use Rattle.chorus_entry.specs.Command.{is_capacity, demands_a_site, meets_conditions, has_body_in_limit}
use Rattle.chorus_entry.specs.Members.{without as without_member}
use Rattle.chorus_entry.specs.Ranges.{is_place_number, has_range_of_tag, has_ranges_of_message, is_demanded_site, is_asked}
use Rattle.chorus_world.specs.Places.{last_clock}
use Rattle.chorus_world.specs.Groups.{members, members_after}
use Rattle.chorus_world.specs.Views.{is_group}
use Rattle.chorus_ports.specs.Table.{find, replace, without}
use Rattle.chorus_ports.specs.Taking.{after_take, rehomed}
use Rattle.chorus_ports.specs.History.{migrated}
use Rattle.chorus_calls.specs.Clients.{Call, IsRequest, is_outstanding, after_cancel}
use Rattle.chorus_calls.specs.Callers.{Seated, with_client}
use Rattle.chorus_hints.specs.Known.{learned}
use Rattle.place_unsettled.specs.Queues.{changed, with_last}
use Rattle.place_unsettled.specs.Unheard.{asked}
use Rattle.law_machine.specs.PlaceState.{Turn, next_clock, unchanged, say, note}
use Rattle.law_machine.specs.Own.{own, next_message}
use Rattle.law_machine.specs.Doing.{does, posts, posts_to_group, chooses_own, asks, choosing_place, poster, direct, post, takes, first_message, holding, ends, departs, transfer_to}
use Rattle.law_machine.specs.PlaceMachine.{act}
use Rattle.law_bounds.specs.Bounds.{IsPortWithin, IsWaitWithin, AreMembersWithin, IsCallerWithin, IsTurnWithin}
use Rattle.law_machine.proofs.Machine.Owns.{IsOwn, held-is, Makes, Sends, Calls, Retries, Replies, Rehomes, Departs, Joins, is-own}
use Rattle.law_bounds.proofs.Ranges.{standing-within, message-from}
use Rattle.law_bounds.proofs.Ports as ports
use Rattle.law_bounds.proofs.Entries.{IsLoadWithin, clock-later, says, ports-still, known-still, still, notes, learned-within, waiting-changed}
use Rattle.law_bounds.proofs.Trying.{go-within}
use Rattle.law_bounds.proofs.Groups.{left-within, joined-within, chooses-within}

-- What a command's own act names is within its ranges.

abbrev pub IsOwnWithin : Act → Turn → Type 0
IsOwnWithin (acts.Make q actor capacity) t = (is_port q ≡ true) × (is_actor actor ≡ true) × (is_capacity capacity ≡ true)
IsOwnWithin (acts.Post m d) t = (has_ranges_of_message m ≡ true) × (has_kinds_in_dest d ≡ true) × (demands_a_site d ≡ true)
IsOwnWithin (acts.Rehome q actor) t = is_actor actor ≡ true
IsOwnWithin (acts.Depart q to actor hop) t = (is_place_number to ≡ true) × (is_actor actor ≡ true) × (hop ≤ next_clock t)
IsOwnWithin (acts.Join g q) t = (is_port q ≡ true) × ((f : Ui) → same_ui g f ≡ true → length (members f t.place.journal) < 32)
IsOwnWithin _ t = Unit {0}

kind-same : (k l : Kind) → k ≡ l → same_kind k l ≡ true
kind-same k l e = subst (λ z. same_kind k z ≡ true) e (by k)
  where
    by : (k : Kind) → same_kind k k ≡ true
    by kinds.Actor = refl
    by kinds.Port = refl
    by kinds.Group = refl

-- the caller's next message
next-within : (tag : Tag) (body : List ℕ) (c : Seated) → has_range_of_tag tag ≡ true → has_kinds_in_tag tag ≡ true → length body ≤ 4096 → has_ranges_of_message (next_message tag body c) ≡ true
next-within tag body c t k b =
    message-from (next_message tag body c) (record {
      id = and_from (nat_le 1 (c.posts + 1)) (nat_le 0 32) (le-leb 1 (c.posts + 1) (omega arith)) refl;
      tag = t;
      kinds = k;
      body = le-leb (length body) 4096 b;
    })

some-of : {X : Type 0} (P : X → Type 0) {o : Option X} (x : X) → o ≡ Some x → IfSome o P → P x
some-of P x e h = subst (λ o. IfSome o P) e h

module _ (t : Turn) (h : IsTurnWithin t) where
  own-within : {c : Command} {a : Act} → IsOwn t c a → meets_conditions c ≡ true → has_body_in_limit c ≡ true → IsCallerWithin t.caller → IsOwnWithin a t
  own-within (Makes actor capacity e f) m b k = let two = and_parts (is_actor actor) (is_capacity capacity) m in (refl, two.0, two.1)
  own-within (Sends d body) m b k =
      let two = and_parts (has_kinds_in_dest d) (demands_a_site d) m in
      (next-within tags.Plain body t.caller refl refl (leb-true (length body) 4096 b), two.0, two.1)
  own-within (Calls q back body e) m b k =
      let two = and_parts (is_port q) (is_port back) m in
      (next-within (tags.Request (t.caller.client.given + 1) back) body t.caller (le-leb 1 (t.caller.client.given + 1) (omega arith)) two.1 (leb-true (length body) 4096 b), two.0, refl)
  own-within (Retries call e) m b k =
      let r : IsRequest call = some-of (IsRequest) call e k.call in
      let le : length call.body ≤ 4096 = some-of (λ (x : Call). length x.body ≤ 4096) call e k.body in
      (next-within (tags.Request call.number call.back) call.body t.caller (le-leb 1 call.number r.number) (kind-same call.back.kind kinds.Port r.back) le, kind-same call.port.kind kinds.Port r.port, refl)
  own-within (Replies body hand e) m b k =
      let n : 1 ≤ hand.number = some-of (λ (x : Hand). 1 ≤ x.number) hand e k.numbered in
      let back : hand.back.kind ≡ kinds.Port = some-of (λ (x : Hand). x.back.kind ≡ kinds.Port) hand e k.back in
      (next-within (tags.Reply hand.client hand.number) body t.caller (le-leb 1 hand.number n) refl (leb-true (length body) 4096 b), kind-same hand.back.kind kinds.Port back, refl)
  own-within (Rehomes q actor port e f g) m b k = (and_parts (is_port q) (is_actor actor) m).1
  own-within (Departs q actor port e f g) m b k =
      let found = (held-is t.caller.actor (find q t.place.ports) port e).0 in
      let p = ports.parts (last_clock t.place.journal) port (ports.all-found (IsPortWithin (last_clock t.place.journal)) q t.place.ports port h.place.ports found) in
      let one = leb-true port.hop (last_clock t.place.journal) p.hop in
      let two = clock-later t in
      let three = and_parts (has_site t.place.layout actor.site && nat_le 1 actor.number) (nat_le actor.number 8) f in
      let to = standing-within t.place.layout actor.site q h.place.layout (and_parts (has_site t.place.layout actor.site) (nat_le 1 actor.number) three.0).0 in
      (to, (and_parts (is_port q) (is_actor actor) m).1, omega (arith, one, two))
  own-within (Joins g q e f r) m b k = (
    (and_parts (name_kind.is_group g) (is_port q) m).1,
    λ f s. subst (λ z. length (members z t.place.journal) < 32) (from_same_ui g f s) (grind (arith, nat_tests, r)),
  )
  own-within _ m b k = tt

  -- What follows from it.

  either : (b : Bool) (u v : Turn) → IsTurnWithin u → IsTurnWithin v → IsTurnWithin (cond b u v)
  either true u v x y = x
  either false u v x y = y

  -- an entry that changes the caller at most
  quiet : (a : Act) (c : Seated) (u : Turn) → ((g : Ui) (qs : List Ui) → members_after g a qs ≡ qs) → IsTurnWithin u → IsTurnWithin (say a (record (unchanged u) { caller = c }) u)
  quiet a c u mute k =
      let b = still a u mute k in
      says a (record (unchanged u) { caller = c }) u k (record { ports = b.ports; known = b.known; waiting = b.waiting; members = b.members; loads = b.loads })

  -- an entry that changes the records at most
  tabled : (a : Act) (c : Seated) (rs : List PortRecord) → ((g : Ui) (qs : List Ui) → members_after g a qs ≡ qs) → All (IsPortWithin (next_clock t)) rs
      → IsTurnWithin (say a (record (unchanged t) { caller = c; ports = rs }) t)
  tabled a c rs mute all =
      let b = still a t mute h in
      says a (record (unchanged t) { caller = c; ports = rs }) t h (record { ports = all; known = b.known; waiting = b.waiting; members = b.members; loads = b.loads })

  replaced : (q : Ui) (f : PortRecord → PortRecord) → ((r : PortRecord) → IsPortWithin (next_clock t) r → IsPortWithin (next_clock t) (f r)) → All (IsPortWithin (next_clock t)) (replace q f t.place.ports)
  replaced q f keeps = ports.all-replace (IsPortWithin (next_clock t)) (IsPortWithin (next_clock t)) q f t.place.ports (λ r k. k) (λ r e k. keeps r k) (ports-still t h)

  group-within : (m : Message) (d : Dest) (g : Ui) → has_ranges_of_message m ≡ true → is_asked d ≡ true → name_kind.is_group g ≡ true → is_demanded_site (site_in d) ≡ true → IsTurnWithin (posts_to_group m d g t)
  group-within m d g message asked_for group site =
      let to = choosing_place t.place g in
      either (to == t.place.number) (chooses_own m d g t) (asks m d to t)
      (chooses-within m d g t.place.number message group site (say (acts.Post m d) (record (unchanged t) { caller = poster m d t.caller }) t)
      (quiet (acts.Post m d) (poster m d t.caller) t (λ f qs. refl) h))
      (says (acts.Post m d) (record (unchanged t) {
        caller = poster m d t.caller;
        unheard = asked m.id.seat m.id.number t.place.unheard;
        loads = (to, Cargo.Ask m d) ∷ [];
      }) t h (record {
        ports = ports-still t h;
        known = known-still t h;
        waiting = h.place.waiting;
        members = h.place.members;
        loads = All-cons (IsLoadWithin (next_clock t)) (to, Cargo.Ask m d) [] (and_from (is_asked d) (has_ranges_of_message m) asked_for message) (All-nil (IsLoadWithin (next_clock t)));
      }))

  posts-within : (m : Message) (d : Dest) → has_ranges_of_message m ≡ true → has_kinds_in_dest d ≡ true → demands_a_site d ≡ true → IsTurnWithin (posts m d t)
  posts-within m (dests.Port q) message named site =
      let w : IsWaitWithin (direct q) (post m t.place.number) = record { port = named; route = refl; only = refl; message = message } in
      go-within (direct q) (say (acts.Post m (dests.Port q)) (record (unchanged t) {
        caller = poster m (dests.Port q) t.caller;
        waiting = changed (direct q) (with_last (post m t.place.number)) t.place.waiting;
      }) t)
      (says (acts.Post m (dests.Port q)) (record (unchanged t) {
        caller = poster m (dests.Port q) t.caller;
        waiting = changed (direct q) (with_last (post m t.place.number)) t.place.waiting;
      }) t h (record {
        ports = ports-still t h;
        known = known-still t h;
        waiting =
            waiting-changed (direct q) (with_last (post m t.place.number)) t.place.waiting h.place.waiting
            (All-push (IsWaitWithin (direct q)) (t.place.waiting (direct q)).waits (post m t.place.number) (h.place.waiting (direct q)) w);
        members = h.place.members;
        loads = All-nil (IsLoadWithin (next_clock t));
      }))
  posts-within m (dests.All g) message named site = group-within m (dests.All g) g message named named refl
  posts-within m (dests.One g) message named site = group-within m (dests.One g) g message named named refl
  posts-within m (dests.OneAt g n) message named site = group-within m (dests.OneAt g n) g message (and_from (name_kind.is_group g) (demands_a_site (dests.OneAt g n)) named site) named site

  ends-within : (tag : Tag) (u : Turn) → IsTurnWithin u → IsTurnWithin (ends tag u)
  ends-within tags.Plain u k = k
  ends-within (tags.Request n back) u k = k
  ends-within (tags.Reply client n) u k =
      let c = with_client u.caller (after_cancel u.caller.client) in
      either ((client == u.caller.seat) && is_outstanding n u.caller.client) (say (acts.Done n) (record (unchanged u) { caller = c }) u) (note (acts.Late n) u)
      (quiet (acts.Done n) c u (λ f qs. refl) k) (notes (acts.Late n) u (λ f qs. refl) k)

  takes-within : (q : Ui) (pos : ℕ) (x : MsgId) (o : Option Message) → IsTurnWithin (takes q pos x o t)
  takes-within q pos x None = notes (acts.Take q pos x) t (λ f qs. refl) h
  takes-within q pos x (Some m) =
      ends-within m.tag (say (acts.Take q pos x) (record (unchanged t) { caller = holding m.id m.tag t.caller; ports = replace q (after_take t.caller.actor) t.place.ports }) t)
      (tabled (acts.Take q pos x) (holding m.id m.tag t.caller) (replace q (after_take t.caller.actor) t.place.ports) (λ f qs. refl)
      (replaced q (after_take t.caller.actor) (λ r k. ports.taken-within (next_clock t) t.caller.actor r k)))

  departs-within : (q : Ui) (to : ℕ) (actor : Ui) (hop : ℕ) → is_place_number to ≡ true → is_actor actor ≡ true → hop ≤ next_clock t → IsTurnWithin (departs q to actor hop t)
  departs-within q to actor hop place named le =
      says (acts.Depart q to actor hop) (record (unchanged t) {
        ports = without q t.place.ports;
        known = learned q to hop t.place.known;
        loads = transfer_to to actor hop (find q t.place.ports);
      }) t h (record {
        ports = ports.all-without (IsPortWithin (next_clock t)) q t.place.ports (ports-still t h);
        known = learned-within (next_clock t) q to hop t.place.known place le (known-still t h);
        waiting = h.place.waiting;
        members = h.place.members;
        loads = loads (find q t.place.ports) refl;
      })
    where
      loads : (o : Option PortRecord) → find q t.place.ports ≡ o → All (IsLoadWithin (next_clock t)) (transfer_to to actor hop o)
      loads None e = All-nil (IsLoadWithin (next_clock t))
      loads (Some r) e =
          let held = ports.all-found (IsPortWithin (next_clock t)) q t.place.ports r (ports-still t h) e in
          All-cons (IsLoadWithin (next_clock t)) (to, Cargo.Transfer (migrated hop actor r)) [] (ports.migrated-within (next_clock t) hop actor r named le held).ranges (All-nil (IsLoadWithin (next_clock t)))

  does-within : (a : Act) → IsOwnWithin a t → IsTurnWithin (does a t)
  does-within (acts.Make q actor capacity) (port, named, size) =
      tabled (acts.Make q actor capacity) t.caller (t.place.ports ++ new_record q actor capacity ∷ []) (λ f qs. refl)
      (All-push (IsPortWithin (next_clock t)) t.place.ports (new_record q actor capacity) (ports-still t h) (ports.new-within (next_clock t) q actor capacity port named size))
  does-within (acts.Post m d) (message, named, site) = posts-within m d message named site
  does-within (acts.Take q pos x) o = takes-within q pos x (first_message (find q t.place.ports))
  does-within (acts.Rehome q actor) named =
      tabled (acts.Rehome q actor) t.caller (replace q (rehomed actor) t.place.ports) (λ f qs. refl)
      (replaced q (rehomed actor) (λ r k. ports.rehomed-within (next_clock t) actor r named k))
  does-within (acts.Depart q to actor hop) (place, named, le) = departs-within q to actor hop place named le
  does-within (acts.Delete q xs) o = tabled (acts.Delete q xs) t.caller (without q t.place.ports) (λ f qs. refl) (ports.all-without (IsPortWithin (next_clock t)) q t.place.ports (ports-still t h))
  does-within (acts.Cancel n) o = quiet (acts.Cancel n) (with_client t.caller (after_cancel t.caller.client)) t (λ f qs. refl) h
  does-within (acts.Join g q) (port, room) =
      says (acts.Join g q) (unchanged t) t h (record {
        ports = ports-still t h;
        known = known-still t h;
        waiting = h.place.waiting;
        members = λ f. by f (same_ui g f) refl;
        loads = All-nil (IsLoadWithin (next_clock t));
      })
    where
      by : (f : Ui) (b : Bool) → same_ui g f ≡ b → AreMembersWithin (cond b (members f t.place.journal ++ q ∷ []) (members f t.place.journal))
      by f true e = joined-within q (members f t.place.journal) port (room f e) (h.place.members f)
      by f false e = h.place.members f
  does-within (acts.Leave g q) o =
      says (acts.Leave g q) (unchanged t) t h (record {
        ports = ports-still t h;
        known = known-still t h;
        waiting = h.place.waiting;
        members = λ f. by f (same_ui g f);
        loads = All-nil (IsLoadWithin (next_clock t));
      })
    where
      by : (f : Ui) (b : Bool) → AreMembersWithin (cond b (without_member q (members f t.place.journal)) (members f t.place.journal))
      by f true = left-within q (members f t.place.journal) (h.place.members f)
      by f false = h.place.members f
  does-within a o = notes a t (λ f qs. refl) h

pub act-within : (c : Command) (t : Turn) → meets_conditions c ≡ true → has_body_in_limit c ≡ true → IsCallerWithin t.caller → IsTurnWithin t → IsTurnWithin (act c t)
act-within c t m b k h = does-within t h (own c t) (own-within t h (is-own c t) m b k)
