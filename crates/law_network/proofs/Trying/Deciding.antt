-- What `decide` answers is what the step relation wants: of a message that is due at the place with the hop h.
use Rattle.std.proofs.Common.{ℕ, ◌≡◌, ◌≤◌, ◌<◌, ◌⊎◌, inl, inr, ◌==◌, ◌+◌, nat_lt, nat_le, Bool, true, false, ◌&&◌, not, cond, if◌then◌else◌, List, [], ◌∷◌, ◌++◌, length, drop, map, Option, Some, None, is_some, is_none, refl, sym, ◌∙◌, ap, subst, arith, eq-eqb, lt-ltb, le-leb, ltb-true, length-drop}
use Rattle.std.proofs.lemmas.List.{drop-append-le, length-map, map-append}
use Rattle.std.proofs.lemmas.Bool.{and_from, eqb-true, true≢false, or_left, or_right}
use Rattle.chorus_ui.specs.declared.ui.Ui.{Ui}
use Rattle.chorus_ui.specs.declared.layout.Layout.{Layout}
use Rattle.chorus_entry.specs.declared.entry.Entry.{Entry}
use Rattle.chorus_entry.specs.declared.id.MsgId.{MsgId}
use Rattle.chorus_entry.specs.declared.message.Message.{Message}
use Rattle.chorus_entry.specs.declared.answer.Answer.{Answer}
use Rattle.chorus_entry.specs.declared.answer.Answer.TheVariants as answers
use Rattle.chorus_entry.specs.declared.act.Act.TheVariants as acts
use Rattle.chorus_entry.specs.declared.record.PortRecord.{PortRecord}
use Rattle.chorus_entry.specs.Answer.{is_final}
use Rattle.chorus_world.specs.declared.place.Location.{Location}
use Rattle.chorus_world.specs.declared.spot.Spot.{Spot}
use Rattle.chorus_world.specs.declared.due.Due.{Due}
use Rattle.chorus_world.specs.declared.due.Due.TheVariants.{NotDue, AtHome}
use Rattle.chorus_world.specs.declared.spot.Spot.TheVariants.{Held, Moving, Ended}
use Rattle.chorus_world.specs.Views.{Views, at, on, is_on}
use Rattle.chorus_entry.specs.Act.{held_port_of}
use Rattle.chorus_world.specs.Ports.{PortState, fate, fate_after, waiting, is_held, is_last, last_of, is_held_at, has_room, is_full}
use Rattle.chorus_world.specs.Places.{located, is_location, is_first, is_deleted}
use Rattle.chorus_world.specs.Posts.{Posted, post_of, tag_of, tag_from, site_asked, is_on_site, as_posted}
use Rattle.chorus_world.specs.Clients.{is_already, finds_clients_full, clients_kept, clients_after}
use Rattle.chorus_world.specs.Steps.{due, due_by_try, due_at_home, is_to_go, is_due, is_due_with, is_tried_with, is_early, is_beyond, suits}
use Rattle.chorus_world.proofs.Sorted.Local.{local_views, act_may_here, is_kept}
use Rattle.chorus_world.proofs.Sorted.Observers.{held_here}
use Rattle.chorus_world.proofs.Messages.Posted.{IsPosted, AcceptedPosted, accepted_posted, filtered}
use Rattle.chorus_world.proofs.Sorted.Agreement.{tag_agrees}
use Rattle.chorus_ports.specs.declared.deciding.Accept.TheVariants as accepts
use Rattle.chorus_entry.specs.Clients.{is_repeated, is_one_too_many, remembered}
use Rattle.chorus_ports.specs.Deciding as ports
use Rattle.chorus_ports.specs.Table.{find}
use Rattle.law_machine.specs.declared.outgoing.Outgoing.{Outgoing}
use Rattle.law_machine.specs.PlaceState.{Turn, next_entry, newest}
use Rattle.law_machine.specs.Deciding.{answer_in, answer_moved, answer_away, answer_of, decide, decision, records_after}
use Rattle.law_network.specs.Network.{NetState}
use Rattle.law_network.specs.Records.{message, record_by, record_here, record_held, record_for}
use Rattle.law_network.proofs.Standing.Grows.{message-grows, record-grows}
use Rattle.law_network.proofs.Standing.Families.{Here, transfer-other}
use Rattle.law_network.proofs.Standing.Steps.{Stood, laws, ports-still}
use Rattle.law_network.proofs.Trying.Verdicts.{Fits, is_decision_answer}
use Rattle.law_network.proofs.Ports.HeldPorts.{StaysHeld, here-now, held-now, line-clock, facts-now, replaced, left-alone}
use Rattle.chorus_world.proofs.Messages.Growing.{goes-on}
use Rattle.chorus_entry.specs.Same.{are_same}
use Rattle.chorus_ui.specs.Name.{same_ui}
use Rattle.place_unsettled.specs.declared.wait.Key.{Key}
use Rattle.place_unsettled.specs.declared.wait.Wait.{Wait}
use Rattle.law_network.specs.Packets.{put_all}
use Rattle.law_network.proofs.Standing.Says.{known_clock, PortsSay}
use Rattle.law_network.proofs.Standing.StillCallers.{no-port-clock}
use Rattle.law_network.proofs.Trying.Waiting.{GoesFirst}
use Rattle.law_network.proofs.Standing.Leading.{Calm}

-- an answer that stands on the line of no port
pub record IsAway (a : Answer) : Type 0 where
  pub answers : is_decision_answer a ≡ true
  pub port : (x : MsgId) (q : Ui) (h : ℕ) → held_port_of (decision x q h a) ≡ None
  pub records : (m : Message) (q : Ui) (t : Turn) → records_after a m q t.place.ports ≡ t.place.ports

pub away-fits : (n : NetState) (us : List Outgoing) (past : List Entry) (t : Turn) → Stood n us past t → (m : Message) (q : Ui) (h : ℕ) (a : Answer) → IsAway a
    → act_may_here t.place.layout (local_views past past t.place.number t.caller.seat (decision m.id q h a)) t.place.number t.caller.seat (decision m.id q h a) ≡ true → Fits n us past t m q h a
away-fits n us past t w m q h a away may =
    let act = decision m.id q h a in
    let e = next_entry act t in
    record {
      answers = away.answers;
      may = may;
      clock = no-port-clock past (held_port_of act) (known_clock t) (away.port m.id q h);
      ports = subst (PortsSay past e) (sym (away.records m q t)) (ports-still n us past t w act (away.port m.id q h));
      transfers = λ r. transfer-other t.place.layout past e (laws n us past t w).posted r (ap (are_same same_ui (Some r)) (away.port m.id q h));
    }

-- what the place reads when it decides on the message x for the port q
abbrev pub reads : List Entry → Turn → MsgId → Ui → Views
reads past t x q = local_views past past t.place.number t.caller.seat (acts.Gone x q)

-- the message is due at the place, with the hop h, by a try or because it waits here
pub record IsDueHere (past : List Entry) (t : Turn) (m : Message) (q : Ui) (only : Option ℕ) (h : ℕ) : Type 0 where
  pub message : m ≡ message past m.id
  pub posted : IsPosted past m.id
  pub site : only ≡ site_asked m.id past
  -- it is on the site that it demands
  pub suits : is_on_site t.place.layout only t.place.number ≡ true
  -- where it was not tried, the port is located with this hop
  pub tried : ((located t.place.layout q (at t.place.number past)).hop ≡ h) ⊎ ((test : ℕ → Bool) → is_tried_with test (due t.place.layout (reads past t m.id q) t.place.number m.id q) ≡ test h)
  pub due : (test : ℕ → Bool) → is_due_with test (due t.place.layout (reads past t m.id q) t.place.number m.id q) ≡ test h

-- a place that holds the port
module _ (n : NetState) (us : List Outgoing) (past : List Entry) (t : Turn) (w : Stood n us past t) (m : Message) (q : Ui) (only : Option ℕ) (h : ℕ) (d : IsDueHere past t m q only h) (r : PortRecord) (found : find q t.place.ports ≡ Some r) where
  abbrev l : Layout
  l = t.place.layout

  abbrev p : ℕ
  p = t.place.number

  abbrev line : List Entry
  line = on q past

  abbrev x : MsgId
  x = m.id

  abbrev z : Here past (on q past) q t.place.number r
  z = here-now n us past t w q r found

  tag-is : m.tag ≡ tag_of m.id past
  tag-is = ap (λ (k : Message). k.tag) d.message ∙ by (post_of m.id past)
    where
      by : (o : Option Posted) → (as_posted m.id o).tag ≡ tag_from o
      by None = refl
      by (Some k) = refl

  -- the tests of the record are those of the step relation
  table-is : r.clients ≡ clients_kept past (on q past)
  table-is = ap (λ (k : PortRecord). k.clients) z.shows

  repeated-is : is_repeated m.id.seat m.tag r.clients ≡ is_already m.id past (on q past)
  repeated-is = λ i. is_repeated x.seat (tag-is i) (table-is i)

  too-many-is : is_one_too_many m.id.seat m.tag r.clients ≡ finds_clients_full m.id past (on q past)
  too-many-is = λ i. is_one_too_many x.seat (tag-is i) (table-is i)

  length-is : length r.pending ≡ waiting z.fate_of
  length-is =
      ap (λ (k : PortRecord). length k.pending) z.shows
      ∙ (length-map (drop z.fate_of.taken z.fate_of.accepted) (message past) ∙ length-drop z.fate_of.taken z.fate_of.accepted)

  meets-it : is_due (due t.place.layout (reads past t m.id q) t.place.number m.id q) && is_held_at t.place.number (fate (on q past)) ≡ true
  meets-it = and_from (is_due (due l (reads past t x q) p x q)) (is_held_at p (fate line)) (d.due (λ k. true)) (held-now n us past t w q r found)

  suits-it : is_on_site t.place.layout (site_asked m.id past) t.place.number ≡ true
  suits-it = ap (λ o. is_on_site l o p) (sym d.site) ∙ d.suits

  enters-it : is_already m.id past (on q past) ≡ false → finds_clients_full m.id past (on q past) ≡ false
      → (is_due (due t.place.layout (reads past t m.id q) t.place.number m.id q) && is_held_at t.place.number (fate (on q past)) && is_on_site t.place.layout (site_asked m.id past) t.place.number && not (is_already m.id past (on q past)) && not (finds_clients_full m.id past (on q past))) ≡ true
  enters-it a b =
      and_from (is_due (due l (reads past t x q) p x q) && is_held_at p (fate line) && is_on_site l (site_asked x past) p && not (is_already x past line)) (not (finds_clients_full x past line))
      (and_from (is_due (due l (reads past t x q) p x q) && is_held_at p (fate line) && is_on_site l (site_asked x past) p) (not (is_already x past line))
      (and_from (is_due (due l (reads past t x q) p x q) && is_held_at p (fate line)) (is_on_site l (site_asked x past) p) meets-it suits-it) (ap not a)) (ap not b)

  -- an act on its line that changes nothing of the record
  still : (e : Entry) → held_port_of e.act ≡ Some q → e.place ≡ t.place.number → fate_after t.place.number e.act (Some z.fate_of) ≡ Some z.fate_of → clients_after (e ∷ past) e.act (clients_kept (e ∷ past) (on q past)) ≡ clients_kept (e ∷ past) (on q past)
      → StaysHeld past e t.place.ports
  still e held at_place now clients =
      let all = (laws n us past t w).posted in
      let posted = filtered past (is_on (Some q)) past all in
      let each = subst (AcceptedPosted past) z.fate_is (accepted_posted past line posted) in
      left-alone n us past t w q r found e z.fate_of held at_place now z.spot z.place
      (z.shows
      ∙ (sym (record-grows e past line q r.actor z.fate_of posted each)
      ∙ ap (λ ks. record (record_for (e ∷ past) line q r.actor z.fate_of) { clients = ks }) (sym clients)))

  found-already : is_already m.id past (on q past) ≡ true → Fits n us past t m q h answers.Already
  found-already a =
      let s = still (next_entry (acts.Already x q) t) refl refl refl refl in
      record {
        answers = refl;
        may = and_from (is_due (due l (reads past t x q) p x q) && is_held_at p (fate line)) (is_already x past line) meets-it a;
        clock = line-clock n us past t w q r found;
        ports = s.ports;
        transfers = s.transfers;
      }

  found-too-many : finds_clients_full m.id past (on q past) ≡ true → Fits n us past t m q h answers.ClientsFull
  found-too-many a =
      let s = still (next_entry (acts.ClientsFull x q) t) refl refl refl refl in
      record {
        answers = refl;
        may = and_from (is_due (due l (reads past t x q) p x q) && is_held_at p (fate line)) (finds_clients_full x past line) meets-it a;
        clock = line-clock n us past t w q r found;
        ports = s.ports;
        transfers = s.transfers;
      }

  capacity-is : r.capacity ≡ z.fate_of.capacity
  capacity-is = ap (λ (k : PortRecord). k.capacity) z.shows

  found-full : is_already m.id past (on q past) ≡ false → finds_clients_full m.id past (on q past) ≡ false → (length r.pending == r.capacity) ≡ true → Fits n us past t m q h (answers.Full (length r.pending))
  found-full a b c =
      let e = next_entry (acts.Full x q (length r.pending)) t in
      let s = still e refl refl refl refl in
      let same : waiting z.fate_of ≡ z.fate_of.capacity = sym length-is ∙ (eqb-true (length r.pending) r.capacity c ∙ capacity-is) in
      let full : is_full (length r.pending) (fate line) ≡ true =
      ap (is_full (length r.pending)) z.fate_is
      ∙ and_from (waiting z.fate_of == z.fate_of.capacity) (length r.pending == waiting z.fate_of) (eq-eqb (waiting z.fate_of) z.fate_of.capacity same) (eq-eqb (length r.pending) (waiting z.fate_of) length-is) in
      record {
        answers = refl;
        may = and_from _ (is_full (length r.pending) (fate line)) (enters-it a b) full;
        clock = line-clock n us past t w q r found;
        ports = s.ports;
        transfers = s.transfers;
      }

  found-room : is_already m.id past (on q past) ≡ false → finds_clients_full m.id past (on q past) ≡ false → (length r.pending == r.capacity) ≡ false → Fits n us past t m q h (answers.Accepted (r.first + length r.pending))
  found-room a b c =
      let f = z.fate_of in
      let g : PortState = record f { accepted = f.accepted ++ x ∷ [] } in
      let pos = r.first + length r.pending in
      let e = next_entry (acts.Accept x q pos) t in
      let facts = facts-now n us past t w q r found in
      let first : r.first ≡ f.taken = ap (λ (k : PortRecord). k.first) z.shows in
      let within = facts.within in
      let room = facts.room in
      let len = length-is in
      let cap = capacity-is in
      let differ : length r.pending ≡ r.capacity → ⊥ = (λ k. true≢false (sym (eq-eqb (length r.pending) r.capacity k) ∙ c)) in
      let less : waiting f < f.capacity = omega (arith, len, cap, differ, room, within) in
      let place : pos ≡ length f.accepted = omega (arith, len, first, within) in
      let has : has_room pos (fate line) ≡ true =
      ap (has_room pos) z.fate_is ∙ and_from (nat_lt (waiting f) f.capacity) (pos == length f.accepted) (lt-ltb (waiting f) f.capacity less) (eq-eqb pos (length f.accepted) place) in
      let all = (laws n us past t w).posted in
      let posted = filtered past (is_on (Some q)) past all in
      let each = subst (AcceptedPosted past) z.fate_is (accepted_posted past line posted) in
      let old : r ≡ record_for (e ∷ past) line q r.actor f = z.shows ∙ sym (record-grows e past line q r.actor f posted each) in
      let mine : m ≡ message (e ∷ past) x = d.message ∙ sym (message-grows e past x d.posted) in
      let tag : m.tag ≡ tag_of x (e ∷ past) = tag-is ∙ sym (tag_agrees (e ∷ past) past x (goes-on e past) d.posted) in
      let is : ports.enqueued m r ≡ record_for (e ∷ past) (e ∷ line) q r.actor g =
      (λ i. ports.enqueued m (old i))
      ∙ ((λ i. record (record_for (e ∷ past) line q r.actor f) { pending = map (message (e ∷ past)) (drop f.taken f.accepted) ++ mine i ∷ []; clients = remembered x.seat (tag i) (clients_kept (e ∷ past) line) })
      ∙ ap (λ ks. record (record_for (e ∷ past) (e ∷ line) q r.actor f) { pending = ks })
      (sym (map-append (message (e ∷ past)) (drop f.taken f.accepted) (x ∷ [])) ∙ ap (map (message (e ∷ past))) (sym (drop-append-le f.taken f.accepted (x ∷ []) within)))) in
      let s = replaced n us past t w q r found e r.actor g (ports.enqueued m) (λ k. refl) refl refl refl z.spot z.place is in
      record {
        answers = refl;
        may = and_from _ (has_room pos (fate line)) (enters-it a b) has;
        clock = line-clock n us past t w q r found;
        ports = s.ports;
        transfers = s.transfers;
      }

  pub held-fits : (is_final (answer_in (ports.answer_to m r)) ≡ true) × Fits n us past t m q h (answer_in (ports.answer_to m r))
  held-fits = by (is_repeated x.seat m.tag r.clients) (is_one_too_many x.seat m.tag r.clients) (length r.pending == r.capacity) refl refl refl
    where
      by : (a b c : Bool) → is_repeated m.id.seat m.tag r.clients ≡ a → is_one_too_many m.id.seat m.tag r.clients ≡ b → (length r.pending == r.capacity) ≡ c
          → (let o = answer_in (if a then accepts.Already m else if b then accepts.ClientsFull m else if c then accepts.Full (length r.pending) m else accepts.Accepted (r.first + length r.pending)) in (is_final o ≡ true) × Fits n us past t m q h o)
      by true b c e f g = (refl, found-already (sym repeated-is ∙ e))
      by false true c e f g = (refl, found-too-many (sym too-many-is ∙ f))
      by false false true e f g = (refl, found-full (sym repeated-is ∙ e) (sym too-many-is ∙ f) g)
      by false false false e f g = (refl, found-room (sym repeated-is ∙ e) (sym too-many-is ∙ f) g)

-- a place that does not hold the port

not-held : (past line : List Entry) (q : Ui) (p : ℕ) → record_by past line q p ≡ None → is_held_at p (fate line) ≡ false
not-held past line q p h = go (fate line) h
  where
    held : (f : PortState) (s : Spot) → f.spot ≡ s → record_held past line q p f s ≡ None → is_held_at p (Some f) ≡ false
    held f (Held a) e k = go2 (last_of 0 f.path == p) refl k
      where
        go2 : (b : Bool) → (last_of 0 f.path == p) ≡ b → cond b (Some (record_for past line q a f)) None ≡ None → is_held_at p (Some f) ≡ false
        go2 true t z = absurd (cc)
        go2 false t z = (λ i. is_held (e i) && t i)
    held f (Moving a) e k = ap (λ s. is_held s && is_last p f) e
    held f Ended e k = ap (λ s. is_held s && is_last p f) e

    go : (o : Option PortState) → record_here past line q p o ≡ None → is_held_at p o ≡ false
    go None k = refl
    go (Some f) k = held f f.spot refl k

less-not : (a b : ℕ) → nat_lt a b ≡ false → b ≤ a
less-not a b h = grind (arith, h)

module _ (n : NetState) (us : List Outgoing) (past : List Entry) (t : Turn) (w : Stood n us past t) (m : Message) (q : Ui) (only : Option ℕ) (h : ℕ) (d : IsDueHere past t m q only h) (absent : find q t.place.ports ≡ None) where
  abbrev lay : Layout
  lay = t.place.layout

  abbrev num : ℕ
  num = t.place.number

  abbrev there : Location
  there = located t.place.layout q (at t.place.number past)

  abbrev due-now : Due
  due-now = due t.place.layout (reads past t m.id q) t.place.number m.id q

  not-kept : is_kept q (at t.place.number past) ≡ false
  not-kept =
      sym (held_here t.place.layout past q t.place.number ((laws n us past t w).inv.ports q))
      ∙ not-held past (on q past) q t.place.number (sym (w.here.ports q) ∙ absent)

  away : (a : Answer) → IsAway a → act_may_here t.place.layout (local_views past past t.place.number t.caller.seat (decision m.id q h a)) t.place.number t.caller.seat (decision m.id q h a) ≡ true → Fits n us past t m q h a
  away a i may = away-fits n us past t w m q h a i may

  is-gone : is_deleted q (at t.place.number past) ≡ true → Fits n us past t m q h answers.Gone
  is-gone k =
      away answers.Gone (record { answers = refl; port = λ y r g. refl; records = λ b r u. refl })
      (and_from (is_due due-now) (is_deleted q (at num past)) (d.due (λ z. true)) k)

  module _ (alive : is_deleted q (at t.place.number past) ≡ false) where
    gone-not : (not (is_kept q (at t.place.number past)) && not (is_deleted q (at t.place.number past))) ≡ true
    gone-not = and_from (not (is_kept q (at num past))) (not (is_deleted q (at num past))) (ap not not-kept) (ap not alive)

    is-early-one : (hop : ℕ) → is_early t.place.number hop there h ≡ true → Fits n us past t m q h (answers.Early hop)
    is-early-one hop e =
        away (answers.Early hop) (record { answers = refl; port = λ y r g. refl; records = λ b r u. refl })
        (and_from (is_due_with (is_early num hop there) due-now) (not (is_kept q (at num past)) && not (is_deleted q (at num past))) (d.due (is_early num hop there) ∙ e) gone-not)

    has-no-port : (h == 0) ≡ true → nat_lt h there.hop ≡ false → Fits n us past t m q h answers.NoPort
    has-no-port e k =
        let zero-is : h ≡ 0 = eqb-true h 0 e in
        let le = less-not h there.hop k in
        let none : there.hop ≡ 0 = omega (arith, zero-is, le) in
        away answers.NoPort (record { answers = refl; port = λ y r g. refl; records = λ b r u. refl })
        (or_left (is_due_with (λ z. z == 0) due-now && (not (is_kept q (at num past)) && not (is_deleted q (at num past)) && (there.hop == 0))) _
        (and_from (is_due_with (λ z. z == 0) due-now) (not (is_kept q (at num past)) && not (is_deleted q (at num past)) && (there.hop == 0)) (d.due (λ z. z == 0) ∙ e)
        (and_from (not (is_kept q (at num past)) && not (is_deleted q (at num past))) (there.hop == 0) gone-not (eq-eqb there.hop 0 none))))

    location-is : is_location there.to there.hop there ≡ true
    location-is = and_from (there.to == there.to) (there.hop == there.hop) (eq-eqb there.to there.to refl) (eq-eqb there.hop there.hop refl)

    has-moved : nat_lt h there.hop ≡ true → (there.to == t.place.number) ≡ false → Fits n us past t m q h (answer_moved only there)
    has-moved k away-from = go only refl
      where
        go : (o : Option ℕ) → only ≡ o → Fits n us past t m q h (answer_moved o there)
        go None e =
            let free : is_none (site_asked m.id past) ≡ true = ap is_none (sym d.site ∙ e) in
            away (answers.Stale there.to there.hop) (record { answers = refl; port = λ y r g. refl; records = λ b r u. refl })
            (and_from (is_due_with (λ z. z == h) due-now && not (is_kept q (at num past)) && is_location there.to there.hop there && nat_lt h there.hop && not (there.to == num)) (is_none (site_asked m.id past))
            (and_from (is_due_with (λ z. z == h) due-now && not (is_kept q (at num past)) && is_location there.to there.hop there && nat_lt h there.hop) (not (there.to == num))
            (and_from (is_due_with (λ z. z == h) due-now && not (is_kept q (at num past)) && is_location there.to there.hop there) (nat_lt h there.hop)
            (and_from (is_due_with (λ z. z == h) due-now && not (is_kept q (at num past))) (is_location there.to there.hop there)
            (and_from (is_due_with (λ z. z == h) due-now) (not (is_kept q (at num past))) (d.due (λ z. z == h) ∙ eq-eqb h h refl) (ap not not-kept)) location-is) k) (ap not away-from)) free)
        go (Some s) e =
            let asks : is_some (site_asked m.id past) ≡ true = ap is_some (sym d.site ∙ e) in
            away (answers.Elsewhere there.to there.hop) (record { answers = refl; port = λ y r g. refl; records = λ b r u. refl })
            (and_from (is_some (site_asked m.id past) && is_location there.to there.hop there) _
            (and_from (is_some (site_asked m.id past)) (is_location there.to there.hop there) asks location-is)
            (or_right _ (is_tried_with (λ z. nat_lt z there.hop) due-now && not (is_kept q (at num past)) && not (there.to == num))
            (and_from (is_tried_with (λ z. nat_lt z there.hop) due-now && not (is_kept q (at num past))) (not (there.to == num))
            (and_from (is_tried_with (λ z. nat_lt z there.hop) due-now) (not (is_kept q (at num past)))
            (elim d.tried [ inl same ↦ absurd (let lt = ltb-true h there.hop k in omega (arith, lt, same)) | inr by-try ↦ by-try (λ z. nat_lt z there.hop) ∙ k ]) (ap not not-kept)) (ap not away-from))))

    pub answers-away : Fits n us past t m q h (answer_away t.place.number only h there)
    answers-away = go (nat_lt h there.hop) (there.to == t.place.number) (h == 0) refl refl refl
      where
        go : (a b c : Bool) → nat_lt h there.hop ≡ a → (there.to == t.place.number) ≡ b → (h == 0) ≡ c
            → Fits n us past t m q h (cond a (cond b (answers.Early there.hop) (answer_moved only there)) (cond c answers.NoPort (answers.Early h)))
        go true true c e f g =
            is-early-one there.hop
            (or_left (is_location num there.hop there && nat_lt h there.hop) _
            (and_from (is_location num there.hop there) (nat_lt h there.hop)
            (and_from (there.to == num) (there.hop == there.hop) f (eq-eqb there.hop there.hop refl)) e))
        go true false c e f g = has-moved e f
        go false b true e f g = has-no-port g e
        go false b false e f g =
            let le = less-not h there.hop e in
            let some : h ≡ 0 → ⊥ = (λ k. true≢false (sym (eq-eqb h 0 k) ∙ g)) in
            let lt : 0 < h = omega (arith, some) in
            is-early-one h
            (or_right _ (nat_le there.hop h && (h == h) && nat_lt 0 h)
            (and_from (nat_le there.hop h && (h == h)) (nat_lt 0 h) (and_from (nat_le there.hop h) (h == h) (le-leb there.hop h le) (eq-eqb h h refl)) (lt-ltb 0 h lt)))

-- whatever the place answers fits
module _ (n : NetState) (us : List Outgoing) (past : List Entry) (t : Turn) (w : Stood n us past t) (m : Message) (q : Ui) (only : Option ℕ) (h : ℕ) (d : IsDueHere past t m q only h) where
  pub decide-fits : Fits n us past t m q h (decide m q only h t.place)
  decide-fits = go (find q t.place.ports) refl
    where
      deleted : is_deleted q t.place.journal ≡ is_deleted q (at t.place.number past)
      deleted = ap (is_deleted q) w.here.journal

      gone : (b : Bool) → is_deleted q (at t.place.number past) ≡ b → find q t.place.ports ≡ None
          → Fits n us past t m q h (cond b answers.Gone (answer_away t.place.number only h (located t.place.layout q (at t.place.number past))))
      gone true e k = is-gone n us past t w m q only h d k e
      gone false e k = answers-away n us past t w m q only h d k e

      go : (o : Option PortRecord) → find q t.place.ports ≡ o → Fits n us past t m q h (answer_of m q only h t.place o)
      go (Some r) e = (held-fits n us past t w m q only h d r e).1
      go None e =
          subst (Fits n us past t m q h)
          (λ i. cond (sym deleted i) answers.Gone (answer_away t.place.number only h (sym (w.here.known q) i)))
          (gone (is_deleted q (at t.place.number past)) refl e)

  -- and is final, where it is decided with the hop by which the port is located here
  pub decide-final : (located t.place.layout q (at t.place.number past)).hop ≡ h → is_final (decide m q only h t.place) ≡ true
  decide-final same = go (find q t.place.ports) refl
    where
      far : Location
      far = newest t.place q

      not-less : nat_lt h far.hop ≡ false
      not-less =
          let e : far.hop ≡ h = ap (λ (z : Location). z.hop) (w.here.known q) ∙ same in
          ap (nat_lt h) e ∙ self h
        where
          self : (k : ℕ) → nat_lt k k ≡ false
          self k = grind (arith)

      final : (b c : Bool) → is_final (cond b answers.Gone (cond c answers.NoPort (answers.Early h))) ≡ true
      final true c = refl
      final false true = refl
      final false false = refl

      go : (o : Option PortRecord) → find q t.place.ports ≡ o → is_final (answer_of m q only h t.place o) ≡ true
      go (Some r) e = (held-fits n us past t w m q only h d r e).0
      go None e =
          ap (λ b. is_final (cond (is_deleted q t.place.journal) answers.Gone (cond b (cond (far.to == t.place.number) (answers.Early far.hop) (answer_moved only far)) (cond (h == 0) answers.NoPort (answers.Early h))))) not-less
          ∙ final (is_deleted q t.place.journal) (h == 0)

-- a message that waits here, and is located here, is decided for good, and the answer fits
pub decides-at-home :
    (n : NetState) (us : List Outgoing) (past : List Entry) (t : Turn) → Calm n us past t → (k : Key) (v : Wait) → GoesFirst past t.place.number k v (known_clock t) (put_all t.puts us) → (there : Location)
    → located t.place.layout k.port (at t.place.number past) ≡ there → is_beyond t.place.layout k.port ≡ false → is_on_site t.place.layout v.only there.to ≡ true → (there.to == t.place.number) ≡ true
    → (is_final (decide v.message k.port v.only there.hop t.place) ≡ true) × Fits n us past t v.message k.port there.hop (decide v.message k.port v.only there.hop t.place)
decides-at-home n us past t i k v g there loc near site here =
    let l = t.place.layout in
    let p = t.place.number in
    let x = v.message.id in
    let q = k.port in
    let same : there.to ≡ p = eqb-true there.to p here in
    let onsite : is_on_site l v.only p ≡ true = ap (is_on_site l v.only) (sym same) ∙ site in
    let at_here : ((located l q (at p past)).to == p) ≡ true = ap (λ (z : Location). z.to == p) loc ∙ here in
    let goes : is_to_go l (reads past t x q) x q p ≡ true =
    and_from (is_first x q (at p past) && not (is_beyond l q)) ((located l q (at p past)).to == p)
    (and_from (is_first x q (at p past)) (not (is_beyond l q)) g.first (ap not near)) at_here in
    let suit : is_on_site l (site_asked x past) p ≡ true = ap (λ z. is_on_site l z p) (sym g.only) ∙ onsite in
    let both : (is_to_go l (reads past t x q) x q p && suits l (reads past t x q) p x) ≡ true = and_from (is_to_go l (reads past t x q) x q p) (suits l (reads past t x q) p x) goes suit in
    let due-is : due l (reads past t x q) p x q ≡ AtHome there.hop =
    ap (λ s. due_by_try p q s (due_at_home l (reads past t x q) p x q)) g.idle
    ∙ (ap (λ b. cond b (AtHome (located l q (at p past)).hop) NotDue) both ∙ ap (λ (z : Location). AtHome z.hop) loc) in
    let d : IsDueHere past t v.message q v.only there.hop =
    record {
      message = g.message;
      posted = g.posted;
      site = g.only;
      due = λ test. ap (is_due_with test) due-is;
      suits = onsite;
      tried = inl (ap (λ (z : Location). z.hop) loc);
    } in
    (decide-final n us past t i.stood v.message q v.only there.hop d (ap (λ (z : Location). z.hop) loc), decide-fits n us past t i.stood v.message q v.only there.hop d)
