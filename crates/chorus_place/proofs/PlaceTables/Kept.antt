-- What a place keeps stays kept with each entry.
use Rattle.std.proofs.Common.{◌≡◌, ℕ, max, ◌+◌, ◌-◌, ◌<◌, ◌≤◌, Bool, true, false, ◌||◌, ◌&&◌, nat_lt, unwrap_or, ◌*◌, ◌%◌, cond, Option, Some, None, List, [], ◌∷◌, ◌++◌, length, length-append, map, slice_get, IfSome, not, ◌==◌, refl, sym, ◌∙◌, ap, subst, arith, All}
use Rattle.std.specs.Option.{option_map, option_cmp}
use Rattle.std.specs.declared.cmp.Ordering.{Ordering}
use Rattle.std.specs.declared.cmp.Ordering.TheVariants as orders
use Rattle.std.specs.Ordering.{is_eq, ordering_then}
use Rattle.std.proofs.lemmas.Bool.{false≢true}
use Rattle.std.proofs.Math.Nat.{le-max_left}
use Rattle.std.proofs.lemmas.List.Elements.{All-nil, All-push, All-append, All-cons, All-head, All-tail, All-drop, All-same, All-weaker}
use Rattle.chorus_ui.specs.declared.ui.Ui.{Ui}
use Rattle.chorus_ui.specs.declared.layout.Layout.{Layout}
use Rattle.chorus_ui.specs.Layout.{has_place}
use Rattle.chorus_ui.specs.Name.{same_ui, name_cmp}
use Rattle.chorus_ui.proofs.Names.{from_same_ui}
use Rattle.chorus_entry.specs.declared.entry.Entry.{Entry}
use Rattle.chorus_entry.specs.declared.act.Act.{Act}
use Rattle.chorus_entry.specs.declared.message.Message.{Message}
use Rattle.chorus_entry.specs.declared.record.PortRecord.{PortRecord}
use Rattle.chorus_calls.specs.Callers.{Seated}
use Rattle.chorus_world.specs.Places.{last_clock, ports_after, ports_made, is_made_here, makes}
use Rattle.chorus_world.specs.Steps.{next_number}
use Rattle.chorus_world.specs.Groups.{members, members_after}
use Rattle.chorus_hints.specs.Known.{Known, kept, learned, hop_of}
use Rattle.chorus_ports.specs.Table.{find, replace, without, are_distinct}
use Rattle.chorus_ports.specs.Deciding.{enqueued}
use Rattle.chorus_ports.proofs.Tables.{KeepsName, find-replace, find-last, find-without}
use Rattle.place_unsettled.specs.declared.wait.Key.{Key}
use Rattle.place_unsettled.specs.declared.wait.Wait.{Wait}
use Rattle.place_unsettled.specs.Queues.{Queue, Row, empty_queue, queue, same_key, changed, passed, at, with_last}
use Rattle.place_journal.specs.Counting.{JournalState}
use Rattle.law_machine.specs.declared.outgoing.Outgoing.{Outgoing}
use Rattle.law_machine.specs.PlaceState.{packed_at}
use Rattle.chorus_place.specs.PlaceTables.Plain.{is_plain}
use Rattle.chorus_place.specs.PlaceTables.Turns.{after_entry, next_entry}
use Rattle.place_outbox.specs.Waiting.{Waiting}
use Rattle.chorus_entry.specs.declared.answer.Answer.{Answer}
use Rattle.chorus_entry.specs.declared.answer.Answer.TheVariants as A
use Rattle.chorus_entry.specs.declared.id.MsgId.{MsgId}
use Rattle.chorus_entry.specs.declared.packet.Cargo.{Cargo}
use Rattle.chorus_entry.specs.Answer.{is_final}
use Rattle.chorus_ports.specs.Limits.{HasPositionLeft}
use Rattle.chorus_ports.specs.Taking.{after_take, rehomed}
use Rattle.chorus_ports.specs.Taking.{passed as passed_port}
use Rattle.law_machine.specs.Deciding.{records_after}
use Rattle.law_machine.specs.Trying.{report}
use Rattle.chorus_place.specs.PlaceTables.Tables.{end_of, IsSound, MayHold, AreHeld, AreLocated, MayWait, AreWaiting, AreNumbered, IsPort, AreMembers, GoesTo, AreSent, IsBoxed, IsKept}
use Rattle.chorus_place.proofs.PlaceTables.Plain.{makes_none, makes_not, same_members}

-- one entry more, by this act
pub record Said (past more : List Entry) (a : Act) : Type 0 where
  pub entry : Entry
  pub is : more ≡ entry ∷ past
  pub act : entry.act ≡ a
  pub later : last_clock past < last_clock more

pub said-by : (p : ℕ) (a : Act) (c : Seated) (j more : JournalState) → more ≡ after_entry p a c j → Said j.past more.past a
said-by p a c j more e =
    let m = le-max_left (last_clock j.past) c.last in
    let f = ap (λ (x : JournalState). last_clock x.past) e in
    record { entry = next_entry p a c j; is = ap (λ (x : JournalState). x.past) e; act = refl; later = omega (arith, m, f) }

or-right : (b c : Bool) → c ≡ true → b || c ≡ true
or-right true c h = refl
or-right false c h = h

pub made-more : (past more : List Entry) (a : Act) (q : Ui) → Said past more a → is_made_here q past ≡ true → is_made_here q more ≡ true
made-more past more a q s h = ap (is_made_here q) s.is ∙ or-right (makes q s.entry.act) (is_made_here q past) h

made-plain : (past more : List Entry) (a : Act) (q : Ui) → Said past more a → is_plain a ≡ true → is_made_here q more ≡ is_made_here q past
made-plain past more a q s plain =
    ap (is_made_here q) s.is ∙ ap (λ b. b || is_made_here q past) (ap (makes q) s.act ∙ makes_not a q plain)

-- the records stay
pub held-later : (l : Layout) (p : ℕ) (past more : List Entry) (a : Act) (ports : List PortRecord) → AreHeld l p past ports → Said past more a
    → AreHeld l p more ports
held-later l p past more a ports k s q r h =
    let m = k q r h in
    let later = s.later in
    let end = m.position in
    let hop = m.hop in
    record {
      kind = m.kind;
      can_make = m.can_make;
      position = omega (arith, end, later);
      hop = omega (arith, hop, later);
      own = λ c. made-more past more a q s (m.own c);
      pending = m.pending;
    }

pub numbered-plain : (l : Layout) (p : ℕ) (past more : List Entry) (a : Act) → AreNumbered l p past → Said past more a → is_plain a ≡ true
    → AreNumbered l p more
numbered-plain l p past more a k s plain q h =
    subst (λ n. q.number < n) (sym number) (k q (sym (made-plain past more a q s plain) ∙ h))
  where
    count : ports_made more ≡ ports_made past
    count = ap ports_made s.is ∙ ap (λ b. ports_after b (ports_made past)) s.act ∙ makes_none a (ports_made past) plain

    number : next_number l p more ≡ next_number l p past
    number = ap (λ n. n * l.turns + (p - 1) % l.turns + 1) count

pub grouped-plain : (past more : List Entry) (a : Act) → AreMembers past → Said past more a → is_plain a ≡ true → AreMembers more
grouped-plain past more a k s plain g =
    All-same IsPort (members g more) (members g past)
    (ap (members g) s.is ∙ ap (λ b. members_after g b (members g past)) s.act ∙ same_members a g (members g past) plain)
    (k g)

-- an entry that changes no count
pub kept-plain : (l : Layout) (p : ℕ) (past more : List Entry) (a : Act) (ports : List PortRecord) (known : Known) (rows : List (Key × Row)) (puts : List Outgoing)
    → IsKept l p past ports known rows puts → Said past more a → is_plain a ≡ true → IsKept l p more ports known rows puts
kept-plain l p past more a ports known rows puts k s plain =
    record {
      place = k.place;
      held = held-later l p past more a ports k.held s;
      layout = k.layout;
      located = k.located;
      waiting = k.waiting;
      numbered = numbered-plain l p past more a k.numbered s plain;
      grouped = grouped-plain past more a k.grouped s plain;
      sent = k.sent;
    }

-- a packet more
pub kept-put : (l : Layout) (p : ℕ) (past : List Entry) (ports : List PortRecord) (known : Known) (rows : List (Key × Row)) (puts more : List Outgoing) (x : Outgoing)
    → IsKept l p past ports known rows puts → more ≡ puts ++ x ∷ [] → has_place l x.to ≡ true → IsKept l p past ports known rows more
kept-put l p past ports known rows puts more x k e to =
    record {
      place = k.place;
      held = k.held;
      layout = k.layout;
      located = k.located;
      waiting = k.waiting;
      numbered = k.numbered;
      grouped = k.grouped;
      sent = All-same (GoesTo l) more (puts ++ x ∷ []) e (All-push (GoesTo l) puts x k.sent to);
    }

-- a change of a record that raises its numbers by one at most
pub record Raises (f : PortRecord → PortRecord) : Type 0 where
  pub name : KeepsName f
  pub end : (s : PortRecord) → end_of (f s) ≤ end_of s + 1
  pub hop : (s : PortRecord) → (f s).hop ≤ s.hop + 1
  pub pending : (s : PortRecord) → All IsSound s.pending → All IsSound (f s).pending

-- a record is replaced
pub held-replace : (l : Layout) (p : ℕ) (past more : List Entry) (a : Act) (ports : List PortRecord) (q : Ui) (f : PortRecord → PortRecord)
    → AreHeld l p past ports → Said past more a → Raises f → AreHeld l p more (replace q f ports)
held-replace l p past more a ports q f k s raises u r h =
    by (same_ui q u) (find u ports) (k u) (sym (find-replace u q f ports raises.name) ∙ h)
  where
    raised : (t : PortRecord) → MayHold l p past u t → MayHold l p more u (f t)
    raised t m =
        let later = s.later in
        let end = m.position in
        let hop = m.hop in
        let end_more = raises.end t in
        let hop_more = raises.hop t in
        record {
          kind = m.kind;
          can_make = m.can_make;
          position = omega (arith, end, later, end_more);
          hop = omega (arith, hop, later, hop_more);
          own = λ c. made-more past more a u s (m.own c);
          pending = raises.pending t m.pending;
        }

    stays : (t : PortRecord) → MayHold l p past u t → MayHold l p more u t
    stays t m =
        let later = s.later in
        let end = m.position in
        let hop = m.hop in
        record {
          kind = m.kind;
          can_make = m.can_make;
          position = omega (arith, end, later);
          hop = omega (arith, hop, later);
          own = λ c. made-more past more a u s (m.own c);
          pending = m.pending;
        }

    by : (b : Bool) (o : Option PortRecord) → ((t : PortRecord) → o ≡ Some t → MayHold l p past u t) → cond b (option_map f o) o ≡ Some r → MayHold l p more u r
    by true None m g = absurd (cc)
    by true (Some t) m g = let e : f t ≡ r = cc in subst (λ x. MayHold l p more u x) e (raised t (m t refl))
    by false None m g = absurd (cc)
    by false (Some t) m g = let e : t ≡ r = cc in subst (λ x. MayHold l p more u x) e (stays t (m t refl))

-- a port came
pub held-last : (l : Layout) (p : ℕ) (past more : List Entry) (a : Act) (ports : List PortRecord) (r : PortRecord)
    → AreHeld l p past ports → Said past more a → MayHold l p more r.ui r → find r.ui ports ≡ None → AreHeld l p more (ports ++ r ∷ [])
held-last l p past more a ports r k s may none u t h =
    by (same_ui r.ui u) refl (sym (find-last u ports r none) ∙ h)
  where
    by : (b : Bool) → same_ui r.ui u ≡ b → cond b (Some r) (find u ports) ≡ Some t → MayHold l p more u t
    by true e g =
        let m : r ≡ t = cc in
        subst (λ x. MayHold l p more u x) m (subst (λ x. MayHold l p more x r) (from_same_ui r.ui u e) may)
    by false e g = held-later l p past more a ports k s u t g

-- a port left
pub held-without : (l : Layout) (p : ℕ) (past more : List Entry) (a : Act) (ports : List PortRecord) (q : Ui)
    → AreHeld l p past ports → Said past more a → are_distinct ports ≡ true → AreHeld l p more (without q ports)
held-without l p past more a ports q k s distinct u t h =
    by (same_ui q u) (sym (find-without u q ports distinct) ∙ h)
  where
    by : (b : Bool) → cond b None (find u ports) ≡ Some t → MayHold l p more u t
    by true g = absurd (cc)
    by false g = held-later l p past more a ports k s u t g

-- a location was learned
pub located-learned : (l : Layout) (known more : Known) (q : Ui) (to hop : ℕ) → AreLocated l known
    → ((u : Ui) → kept more u ≡ learned q to hop (kept known) u) → has_place l to ≡ true → AreLocated l more
located-learned l known more q to hop k e place u n m h =
    by (nat_lt (hop_of (kept known q)) hop && same_ui q u) (sym (e u) ∙ h)
  where
    by : (b : Bool) → cond b (Some (to, hop)) (kept known u) ≡ Some (n, m) → has_place l n ≡ true
    by true g = let p : to ≡ n = ap (λ (o : Option (ℕ × ℕ)). (unwrap_or o (0, 0)).0) g in subst (λ x. has_place l x ≡ true) p place
    by false g = k u n m g

-- keys that are one have a route or none alike
route-none : (k u : Key) → same_key k u ≡ true → u.route ≡ None → k.route ≡ None
route-none k u h = by (name_cmp k.port u.port) k.route u.route h
  where
    by : (o : Ordering) (r s : Option Ui) → is_eq (ordering_then o (option_cmp name_cmp r s)) ≡ true → s ≡ None → r ≡ None
    by o None s g e = refl
    by orders.Less (Some r) None g e = absurd (false≢true g)
    by orders.Equal (Some r) None g e = absurd (false≢true g)
    by orders.Greater (Some r) None g e = absurd (false≢true g)
    by o (Some r) (Some s) g e = absurd (cc)

-- the queue of one key changed
pub waiting-changed : (l : Layout) (p : ℕ) (rows more : List (Key × Row)) (k : Key) (f : Queue → Queue) → AreWaiting l p rows
    → ((u : Key) → queue more u ≡ changed k f (queue rows) u) → All (MayWait l p k) (f (queue rows k)).waits → AreWaiting l p more
waiting-changed l p rows more k f w e own u =
    subst (λ (x : Queue). All (MayWait l p u) x.waits) (sym (e u)) (by (same_key k u) refl)
  where
    moved : same_key k u ≡ true → (x : Wait) → MayWait l p k x → MayWait l p u x
    moved s x m = record { home = m.home; own = λ none. m.own (route-none k u s none); message = m.message }

    by : (b : Bool) → same_key k u ≡ b → All (MayWait l p u) (cond b (f (queue rows k)) (queue rows u)).waits
    by true s = All-weaker (MayWait l p k) (MayWait l p u) (moved s) (f (queue rows k)).waits own
    by false s = w u

pub waiting-passed : (l : Layout) (p : ℕ) (rows more : List (Key × Row)) (k : Key) → AreWaiting l p rows
    → ((u : Key) → queue more u ≡ changed k passed (queue rows) u) → AreWaiting l p more
waiting-passed l p rows more k w e = waiting-changed l p rows more k passed w e (All-drop (MayWait l p k) 1 (queue rows k).waits (w k))

pub waiting-at : (l : Layout) (p : ℕ) (rows more : List (Key × Row)) (k : Key) (to : Option ℕ) → AreWaiting l p rows
    → ((u : Key) → queue more u ≡ changed k (at to) (queue rows) u) → AreWaiting l p more
waiting-at l p rows more k to w e = waiting-changed l p rows more k (at to) w e (w k)

pub waiting-last : (l : Layout) (p : ℕ) (rows more : List (Key × Row)) (k : Key) (x : Wait) → AreWaiting l p rows
    → ((u : Key) → queue more u ≡ changed k (with_last x) (queue rows) u) → MayWait l p k x → AreWaiting l p more
waiting-last l p rows more k x w e may = waiting-changed l p rows more k (with_last x) w e (All-push (MayWait l p k) (queue rows k).waits x (w k) may)

-- nothing happened yet
pub kept-start : (l : Layout) (p : ℕ) (past : List Entry) (ports : List PortRecord) (known : Known) (rows : List (Key × Row)) (puts : List Outgoing)
    → has_place l p ≡ true → past ≡ [] → ports ≡ [] → known.layout ≡ l → ((q : Ui) → kept known q ≡ None) → ((k : Key) → queue rows k ≡ empty_queue) → puts ≡ []
    → IsKept l p past ports known rows puts
kept-start l p past ports known rows puts place nothing no_port layout no_location no_message no_packet =
    record {
      place = place;
      held = λ q r h. absurd (let e : None ≡ Some r = sym (ap (find q) no_port) ∙ h in cc);
      layout = layout;
      located = λ q to hop h. absurd (let e : None ≡ Some (to, hop) = sym (no_location q) ∙ h in cc);
      waiting = λ k. All-same (MayWait l p k) (queue rows k).waits [] (ap (λ (q : Queue). q.waits) (no_message k)) (All-nil (MayWait l p k));
      numbered = λ q h. absurd (false≢true (sym (ap (is_made_here q) nothing) ∙ h));
      grouped = λ g. All-same IsPort (members g past) [] (ap (members g) nothing) (All-nil IsPort);
      sent = All-same (GoesTo l) puts [] no_packet (All-nil (GoesTo l));
    }

-- an answer was given: a port that accepted the message has it
enqueued-raises : (m : Message) → IsSound m → Raises (enqueued m)
enqueued-raises m sound =
    record {
      name = λ r. refl;
      end = λ r. let e = length-append r.pending (m ∷ []) in omega (arith, e);
      hop = λ r. omega arith;
      pending = λ r k. All-push IsSound r.pending m k sound;
    }

pub held-answered : (l : Layout) (p : ℕ) (past more : List Entry) (a : Act) (ports now : List PortRecord) (answer : Answer) (m : Message) (q : Ui)
    → AreHeld l p past ports → Said past more a → now ≡ records_after answer m q ports → IsSound m → AreHeld l p more now
held-answered l p past more a ports now answer m q k s e sound = subst (AreHeld l p more) (sym e) (by answer)
  where
    by : (x : Answer) → AreHeld l p more (records_after x m q ports)
    by (A.Accepted pos) = held-replace l p past more a ports q (enqueued m) k s (enqueued-raises m sound)
    by _ = held-later l p past more a ports k s

-- the position of the next message is a number of 64 bits
pub positions-fit : (l : Layout) (p : ℕ) (past : List Entry) (ports : List PortRecord) (q : Ui) (last : ℕ) → AreHeld l p past ports
    → max (last_clock past) last + 1 < 18446744073709551616 → IfSome (find q ports) HasPositionLeft
positions-fit l p past ports q last k h = by (find q ports) (k q)
  where
    by : (o : Option PortRecord) → ((r : PortRecord) → o ≡ Some r → MayHold l p past q r) → IfSome o HasPositionLeft
    by None f = tt
    by (Some r) f = let b = (f r refl).position in let m = le-max_left (last_clock past) last in omega (arith, b, m, h)

pub all-first : (P : Wait → Type 0) (ws : List Wait) (w : Wait) → slice_get ws 0 ≡ Some w → All P ws → P w
all-first P [] w h k = absurd (cc)
all-first P (x ∷ xs) w h k = let e : x ≡ w = cc in subst P e (All-head P x xs k)

-- packets more
pub sent-more : (l : Layout) (puts more xs : List Outgoing) → AreSent l puts → more ≡ puts ++ xs → AreSent l xs → AreSent l more
sent-more l puts more xs k e f = All-same (GoesTo l) more (puts ++ xs) e (All-append (GoesTo l) puts xs k f)

pub sent-report : (l : Layout) (p home clock : ℕ) (x : MsgId) (answer : Answer) → has_place l home ≡ true → AreSent l (map (packed_at clock p) (report p home x answer))
sent-report l p home clock x answer h = by (is_final answer && not (home == p))
  where
    by : (b : Bool) → AreSent l (map (packed_at clock p) (cond b ((home, Cargo.Report x answer) ∷ []) []))
    by true = All-cons (GoesTo l) (packed_at clock p (home, Cargo.Report x answer)) [] h (All-nil (GoesTo l))
    by false = All-nil (GoesTo l)

pub boxed-more : (l : Layout) (puts more xs : List Outgoing) (out : Waiting) (n : ℕ) → IsBoxed l puts out → more ≡ puts ++ xs → length xs ≤ n → n ≤ out.spare - length puts
    → IsBoxed l more out
boxed-more l puts more xs out n k e f g =
    let len = ap (λ (ys : List Outgoing). length ys) e ∙ length-append puts xs in
    let room = k.room in
    record { lists = k.lists; room = omega (arith, len, f, g, room) }

pub kept-waits : (l : Layout) (p : ℕ) (past : List Entry) (ports : List PortRecord) (known : Known) (rows more : List (Key × Row)) (puts : List Outgoing)
    → IsKept l p past ports known rows puts → AreWaiting l p more → IsKept l p past ports known more puts
kept-waits l p past ports known rows more puts k w =
    record {
      place = k.place;
      held = k.held;
      layout = k.layout;
      located = k.located;
      waiting = w;
      numbered = k.numbered;
      grouped = k.grouped;
      sent = k.sent;
    }

pub sent-one : (l : Layout) (puts more : List Outgoing) (x : Outgoing) → AreSent l puts → more ≡ puts ++ x ∷ [] → has_place l x.to ≡ true → AreSent l more
sent-one l puts more x k e to = All-same (GoesTo l) more (puts ++ x ∷ []) e (All-push (GoesTo l) puts x k to)

-- What taking does to one record.
pub take-raises : (a : Ui) → Raises (after_take a)
take-raises a =
    record {
      name = λ r. name (same_ui r.actor a) r r.pending;
      end = λ r. end (same_ui r.actor a) r r.pending refl;
      hop = λ r. hop (same_ui r.actor a) r r.pending;
      pending = λ r k. pending (same_ui r.actor a) r r.pending k k;
    }
  where
    name : (b : Bool) (r : PortRecord) (ms : List Message) → (cond b (passed_port ms r) r).ui ≡ r.ui
    name true r [] = refl
    name true r (m ∷ ms) = refl
    name false r ms = refl

    end : (b : Bool) (r : PortRecord) (ms : List Message) → r.pending ≡ ms → end_of (cond b (passed_port ms r) r) ≤ end_of r + 1
    end true r [] e = omega arith
    end true r (m ∷ ms) e = let n = ap (λ (xs : List Message). length xs) e in omega (arith, n)
    end false r ms e = omega arith

    hop : (b : Bool) (r : PortRecord) (ms : List Message) → (cond b (passed_port ms r) r).hop ≤ r.hop + 1
    hop true r [] = omega arith
    hop true r (m ∷ ms) = omega arith
    hop false r ms = omega arith

    pending : (b : Bool) (r : PortRecord) (ms : List Message) → All IsSound ms → All IsSound r.pending → All IsSound (cond b (passed_port ms r) r).pending
    pending true r [] k h = h
    pending true r (m ∷ ms) k h = All-tail IsSound m ms k
    pending false r ms k h = h

pub rehomed-raises : (a : Ui) → Raises (rehomed a)
rehomed-raises a = record { name = λ r. refl; end = λ r. omega arith; hop = λ r. omega arith; pending = λ r k. k }

pub kept-ports : (l : Layout) (p : ℕ) (past more : List Entry) (a : Act) (ports now : List PortRecord) (known : Known) (rows : List (Key × Row)) (puts : List Outgoing)
    → IsKept l p past ports known rows puts → Said past more a → is_plain a ≡ true → AreHeld l p more now → IsKept l p more now known rows puts
kept-ports l p past more a ports now known rows puts k s plain held =
    record {
      place = k.place;
      held = held;
      layout = k.layout;
      located = k.located;
      waiting = k.waiting;
      numbered = numbered-plain l p past more a k.numbered s plain;
      grouped = grouped-plain past more a k.grouped s plain;
      sent = k.sent;
    }
