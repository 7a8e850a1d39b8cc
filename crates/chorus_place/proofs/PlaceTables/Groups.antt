-- Groups in whole turns.
use Rattle.std.proofs.Common.{◌≡◌, ℕ, zero, suc, max, ◌+◌, ◌<◌, ◌≤◌, ◌==◌, ◌||◌, Bool, true, false, not, drop, cond, Option, Some, None, List, [], ◌∷◌, ◌++◌, length, All, refl, sym, ◌∙◌, ap, subst, arith}
use Rattle.std.specs.List.{remove}
use Rattle.std.specs.Cmp.{unsigned_tied}
use Rattle.std.specs.Option.{option_cmp}
use Rattle.std.specs.declared.cmp.Ordering.{Ordering}
use Rattle.std.specs.declared.cmp.Ordering.TheVariants as orders
use Rattle.std.specs.Ordering.{is_eq, ordering_then, nat_cmp}
use Rattle.std.proofs.lemmas.Bool.{false≢true, and_parts}
use Rattle.std.proofs.lemmas.List.Elements.{All-same, All-nil, All-cons, All-head, All-tail, All-push, All-weaker}
use Rattle.chorus_ui.specs.declared.ui.Ui.{Ui}
use Rattle.chorus_ui.specs.declared.layout.Layout.{Layout}
use Rattle.chorus_ui.specs.declared.kind.Kind.TheVariants as kinds
use Rattle.chorus_ui.specs.declared.kind.Kind.{Kind}
use Rattle.chorus_ui.specs.Kind.{kind_number}
use Rattle.chorus_ui.specs.Name.{same_ui, name_cmp}
use Rattle.chorus_ui.proofs.Names.{from_same_ui, same_ui-self}
use Rattle.chorus_ui.specs.Layout.{has_place}
use Rattle.chorus_entry.specs.declared.act.Act.{Act}
use Rattle.chorus_entry.specs.declared.entry.Entry.{Entry}
use Rattle.chorus_entry.specs.declared.record.PortRecord.{PortRecord}
use Rattle.chorus_entry.specs.declared.answer.Answer.{Answer}
use Rattle.chorus_entry.specs.Members.{is_member, are_distinct, index_of, without}
use Rattle.chorus_world.specs.Places.{last_clock, ports_after, makes}
use Rattle.chorus_calls.specs.Callers.{Seated}
use Rattle.place_journal.specs.Counting.{JournalState, with_group}
use Rattle.std.proofs.Math.Nat.{le-max_left}
use Rattle.chorus_place.specs.PlaceTables.Turns.{next_entry}
use Rattle.chorus_world.specs.Groups as world
use Rattle.chorus_hints.specs.Known.{Known}
use Rattle.place_unsettled.specs.declared.wait.Key.{Key}
use Rattle.place_unsettled.specs.declared.wait.Wait.{Wait}
use Rattle.place_unsettled.specs.Queues.{Row, Queue, queue, room, same_key, changed, passed, at, with_last, less_one}
use Rattle.law_machine.specs.declared.outgoing.Outgoing.{Outgoing}
use Rattle.law_machine.specs.PlaceState.{PlaceState, Turn, location, newest, greatest_clock}
use Rattle.chorus_entry.specs.declared.id.MsgId.{MsgId}
use Rattle.chorus_place.proofs.PlaceTables.Reports.{report-length}
use Rattle.law_machine.specs.Trying.{report, settles_here, verdict_here, tries, goes_on, goes_unless, go}
use Rattle.law_machine.specs.Choosing.{by_group, all_go}
use Rattle.chorus_place.specs.PlaceTables.Tables.{AreMembers, AreWaiting, AreSent, MayWait, IsPort, IsKept}
use Rattle.chorus_place.specs.declared.tables.copies.Course.{Course}
use Rattle.chorus_place.specs.PlaceTables.Going.{leaving_to, reports}
use Rattle.chorus_place.specs.PlaceTables.Going.{leaving as leaves_at}
use Rattle.chorus_place.specs.declared.tables.copies.MemberCopy.{MemberCopy}
use Rattle.chorus_place.specs.PlaceTables.Groups.{ports_of, when_free, free_leaving, going, waiting_for, AllGoing, members_of, with_each, HaveLines, IsCopy, Putting}
use Rattle.chorus_place.proofs.PlaceTables.Kept.{Said, held-later}
use Rattle.chorus_place.proofs.PlaceTables.Ports.{numbered-same}

-- Making, joining and leaving.

-- an entry that makes no port, and leaves the members of each group ports
pub kept-grouped : (l : Layout) (p : ℕ) (past more : List Entry) (ports : List PortRecord) (known : Known) (rows : List (Key × Row)) (puts : List Outgoing) (act : Act)
    → IsKept l p past ports known rows puts → Said past more act → ((n : ℕ) → ports_after act n ≡ n) → ((u : Ui) → makes u act ≡ false)
    → AreMembers more → IsKept l p more ports known rows puts
kept-grouped l p past more ports known rows puts act k s none not_made grouped =
    record {
      place = k.place;
      held = held-later l p past more act ports k.held s;
      layout = k.layout;
      located = k.located;
      waiting = k.waiting;
      numbered = numbered-same l p past more act k.numbered s none not_made;
      grouped = grouped;
      sent = k.sent;
    }

-- the entry that makes a group
pub said-group : (p : ℕ) (a : Act) (c : Seated) (j more : JournalState) (e : Entry) (g : Ui) → more ≡ with_group j e g → e ≡ next_entry p a c j → Said j.past more.past a
said-group p a c j more e g m f =
    let m' = le-max_left (last_clock j.past) c.last in
    let clock = ap (λ (x : JournalState). last_clock x.past) m ∙ ap (λ (x : Entry). x.clock) f in
    record { entry = e; is = ap (λ (x : JournalState). x.past) m; act = ap (λ (x : Entry). x.act) f; later = omega (arith, m', clock) }

members-said : (past more : List Entry) (act : Act) (g : Ui) → Said past more act → world.members g more ≡ world.members_after g act (world.members g past)
members-said past more act g s = ap (world.members g) s.is ∙ ap (λ b. world.members_after g b (world.members g past)) s.act

pub grouped-same : (past more : List Entry) (act : Act) → AreMembers past → Said past more act → ((g : Ui) (qs : List Ui) → world.members_after g act qs ≡ qs) → AreMembers more
grouped-same past more act k s same g =
    All-same IsPort (world.members g more) (world.members g past) (members-said past more act g s ∙ same g (world.members g past)) (k g)

pub grouped-joined : (past more : List Entry) (h q : Ui) → AreMembers past → Said past more (Act.Join h q) → IsPort q → AreMembers more
grouped-joined past more h q k s port g =
    All-same IsPort (world.members g more) (world.members_after g (Act.Join h q) (world.members g past)) (members-said past more (Act.Join h q) g s) (by (same_ui h g))
  where
    by : (b : Bool) → All IsPort (cond b (world.members g past ++ q ∷ []) (world.members g past))
    by true = All-push IsPort (world.members g past) q (k g) port
    by false = k g

all-remove : (P : Ui → Type 0) (qs : List Ui) (i : ℕ) → All P qs → All P (remove qs i)
all-remove P [] zero h = h
all-remove P [] (suc i) h = h
all-remove P (q ∷ qs) zero h = All-tail P q qs h
all-remove P (q ∷ qs) (suc i) h = All-cons P q (remove qs i) (All-head P q qs h) (all-remove P qs i (All-tail P q qs h))

pub grouped-left : (past more : List Entry) (h q : Ui) → AreMembers past → Said past more (Act.Leave h q) → AreMembers more
grouped-left past more h q k s g =
    All-same IsPort (world.members g more) (world.members_after g (Act.Leave h q) (world.members g past)) (members-said past more (Act.Leave h q) g s) (by (same_ui h g))
  where
    by : (b : Bool) → All IsPort (cond b (without q (world.members g past)) (world.members g past))
    by true = all-remove IsPort (world.members g past) (index_of q (world.members g past)) (k g)
    by false = k g

-- Keys of members.

nat-same : (a b : ℕ) → (a == b) ≡ true → a ≡ b
nat-same a b h = grind (arith, h)

eq-parts : (o r : Ordering) → is_eq (ordering_then o r) ≡ true → (is_eq o ≡ true) × (is_eq r ≡ true)
eq-parts orders.Less r h = absurd (false≢true h)
eq-parts orders.Equal r h = (refl, h)
eq-parts orders.Greater r h = absurd (false≢true h)

kind-same : (k l : Kind) → kind_number k ≡ kind_number l → k ≡ l
kind-same kinds.Actor kinds.Actor h = refl
kind-same kinds.Actor kinds.Port h = absurd (omega (arith, h))
kind-same kinds.Actor kinds.Group h = absurd (omega (arith, h))
kind-same kinds.Port kinds.Actor h = absurd (omega (arith, h))
kind-same kinds.Port kinds.Port h = refl
kind-same kinds.Port kinds.Group h = absurd (omega (arith, h))
kind-same kinds.Group kinds.Actor h = absurd (omega (arith, h))
kind-same kinds.Group kinds.Port h = absurd (omega (arith, h))
kind-same kinds.Group kinds.Group h = refl

-- names that compare as equal are one
name-same : (q r : Ui) → is_eq (name_cmp q r) ≡ true → q ≡ r
name-same q r h =
    let outer = eq-parts (ordering_then (nat_cmp q.site r.site) (nat_cmp (kind_number q.kind) (kind_number r.kind))) (nat_cmp q.number r.number) h in
    let inner = eq-parts (nat_cmp q.site r.site) (nat_cmp (kind_number q.kind) (kind_number r.kind)) outer.0 in
    let s = nat-same q.site r.site (sym (unsigned_tied q.site r.site) ∙ inner.0) in
    let k = kind-same q.kind r.kind (nat-same (kind_number q.kind) (kind_number r.kind) (sym (unsigned_tied (kind_number q.kind) (kind_number r.kind)) ∙ inner.1)) in
    let n = nat-same q.number r.number (sym (unsigned_tied q.number r.number) ∙ outer.1) in
    λ i. record { site = s i; kind = k i; number = n i }

-- keys of other members are other keys
pub other-key : (g q r : Ui) → same_ui q r ≡ false → same_key (by_group g q) (by_group g r) ≡ false
other-key g q r h = by (same_key (by_group g q) (by_group g r)) refl
  where
    by : (b : Bool) → same_key (by_group g q) (by_group g r) ≡ b → same_key (by_group g q) (by_group g r) ≡ false
    by false e = e
    by true e =
        let one = name-same q r (eq-parts (name_cmp q r) (option_cmp name_cmp (Some g) (Some g)) e).0 in
        absurd (false≢true (sym h ∙ ap (same_ui q) (sym one) ∙ same_ui-self q))

-- a member differs from one that is none
pub differs : (p q : Ui) (qs : List Ui) → is_member p qs ≡ false → is_member q qs ≡ true → same_ui p q ≡ false
differs p q qs none there = by (same_ui p q) refl
  where
    by : (b : Bool) → same_ui p q ≡ b → same_ui p q ≡ false
    by false e = e
    by true e = absurd (false≢true (sym none ∙ ap (λ u. is_member u qs) (from_same_ui p q e) ∙ there))

-- Queues of members that are one.

abbrev pub Agree : Ui → List Ui → (Key → Queue) → (Key → Queue) → Type 0
Agree g qs f h = (q : Ui) → is_member q qs ≡ true → f (by_group g q) ≡ h (by_group g q)

or-left : (b c : Bool) → b ≡ true → b || c ≡ true
or-left true c h = refl
or-left false c h = absurd (false≢true h)

or-right : (b c : Bool) → c ≡ true → b || c ≡ true
or-right true c h = refl
or-right false c h = h

pub member-first : (q : Ui) (qs : List Ui) → is_member q (q ∷ qs) ≡ true
member-first q qs = or-left (same_ui q q) (is_member q qs) (same_ui-self q)

pub member-more : (q r : Ui) (qs : List Ui) → is_member q qs ≡ true → is_member q (r ∷ qs) ≡ true
member-more q r qs h = or-right (same_ui r q) (is_member q qs) h

pub agree-rest : (g q : Ui) (qs : List Ui) (f h : Key → Queue) → Agree g (q ∷ qs) f h → Agree g qs f h
agree-rest g q qs f h a r m = a r (member-more r q qs m)

pub waiting-same : (g : Ui) (qs : List Ui) (f h : Key → Queue) → Agree g qs f h → waiting_for g qs f ≡ waiting_for g qs h
waiting-same g [] f h a = refl
waiting-same g (q ∷ qs) f h a =
    let one = ap (λ (x : Queue). length x.waits) (a q (member-first q qs)) in
    let rest = waiting-same g qs f h (agree-rest g q qs f h a) in
    λ i. one i + rest i

pub leaving-same : (k : Key) (s u : PlaceState) → s.layout ≡ u.layout → s.number ≡ u.number → s.known ≡ u.known → s.waiting k ≡ u.waiting k
    → free_leaving k s ≡ free_leaving k u
leaving-same k s u l n e w = λ i. when_free (w i).tried (leaving_to (l i) (n i) k.port (location (l i) k.port (e i k.port)).to (w i).waits)

pub going-same : (g : Ui) (s u : PlaceState) (qs : List Ui) → s.layout ≡ u.layout → s.number ≡ u.number → s.known ≡ u.known → Agree g qs s.waiting u.waiting
    → going g s qs ≡ going g u qs
going-same g s u [] l n e a = refl
going-same g s u (q ∷ qs) l n e a =
    let one = leaving-same (by_group g q) s u l n e (a q (member-first q qs)) in
    let rest = going-same g s u qs l n e (agree-rest g q qs s.waiting u.waiting a) in
    λ i. record { port = q; again = one i } ∷ rest i

-- the first of these, where no message for it is under way
pub course-free : (g : Ui) (s : PlaceState) (c : Course) (left : List Course) → c ∷ left ≡ going g s (ports_of (c ∷ left)) → (s.waiting (by_group g c.port)).tried ≡ None
    → c.again ≡ leaves_at (by_group g c.port) s
course-free g s c left h free =
    let k = by_group g c.port in
    let e : c ≡ record { port = c.port; again = free_leaving k s } = cc in
    ap (λ (x : Course). x.again) e ∙ ap (λ o. when_free o (leaves_at k s)) free

-- What the messages of k leave as it was when they go, and how far the clock goes then.

pub record GoesAlone (k : Key) (n : ℕ) (t u : Turn) : Type 0 where
  pub layout : u.place.layout ≡ t.place.layout
  pub number : u.place.number ≡ t.place.number
  pub known : u.place.known ≡ t.place.known
  pub waiting : (l : Key) → same_key k l ≡ false → u.place.waiting l ≡ t.place.waiting l
  pub clock : greatest_clock u ≤ greatest_clock t + n

max-same : (n : ℕ) → max n n ≡ n
max-same n = omega arith

pub not-at : (k l : Key) (f : Queue → Queue) (qs : Key → Queue) → same_key k l ≡ false → changed k f qs l ≡ qs l
not-at k l f qs h = ap (λ b. cond b (f (qs k)) (qs l)) h

after-settled : (k : Key) (w : Wait) (tried n : ℕ) (a : Answer) (t u : Turn) → GoesAlone k n (settles_here k w tried a t) u → GoesAlone k (suc n) t u
after-settled k w tried n a t u h =
    let clock = h.clock in
    let same = max-same (greatest_clock t + 1) in
    record {
      layout = h.layout;
      number = h.number;
      known = h.known;
      waiting = λ l e. h.waiting l e ∙ not-at k l passed t.place.waiting e;
      clock = omega (arith, clock, same);
    }

goes-alone : (k : Key) (ws : List Wait) (t : Turn) → GoesAlone k (length ws) t (goes_on k ws t)
goes-alone k [] t = record { layout = refl; number = refl; known = refl; waiting = λ l e. refl; clock = omega arith }
goes-alone k (w ∷ ws) t = by (verdict_here k w (newest t.place k.port) t.place) (λ a. goes-alone k ws (settles_here k w (newest t.place k.port).hop a t))
  where
    by : (o : Option Answer) → ((a : Answer) → GoesAlone k (length ws) (settles_here k w (newest t.place k.port).hop a t) (goes_on k ws (settles_here k w (newest t.place k.port).hop a t)))
        → GoesAlone k (suc (length ws)) t (tries k w (newest t.place k.port) (goes_on k ws) o t)
    by (Some a) on = after-settled k w (newest t.place k.port).hop (length ws) a t _ (on a)
    by None on =
        let same = max-same (greatest_clock t + 1) in
        record {
          layout = refl;
          number = refl;
          known = refl;
          waiting = λ l e. not-at k l (at (Some (newest t.place k.port).to)) t.place.waiting e;
          clock = omega (arith, same);
        }

pub go-alone : (k : Key) (t : Turn) → GoesAlone k (length (t.place.waiting k).waits) t (go k t)
go-alone k t = by (t.place.waiting k).tried
  where
    by : (o : Option ℕ) → GoesAlone k (length (t.place.waiting k).waits) t (goes_unless k o (t.place.waiting k).waits t)
    by None = goes-alone k (t.place.waiting k).waits t
    by (Some to) = record { layout = refl; number = refl; known = refl; waiting = λ l e. refl; clock = omega arith }

-- The messages for the next member went.

pub reports-within : (p : ℕ) (ws : List Wait) → reports p ws ≤ length ws
reports-within p [] = omega arith
reports-within p (w ∷ ws) = by (w.home == p) (reports-within p ws)
  where
    by : (b : Bool) → reports p ws ≤ length ws → cond b 0 1 + reports p ws ≤ length (w ∷ ws)
    by true h = omega (arith, h)
    by false h = omega (arith, h)

pub not-here : (q : Ui) (qs : List Ui) → are_distinct (q ∷ qs) ≡ true → is_member q qs ≡ false
not-here q qs h = by (is_member q qs) (and_parts (not (is_member q qs)) (are_distinct qs) h).0
  where
    by : (b : Bool) → not b ≡ true → b ≡ false
    by true e = absurd (false≢true e)
    by false e = refl

pub all-next : (g : Ui) (all : List Ui) (start t u : Turn) (c : Course) (left : List Course) (e p more rest : ℕ)
    → AllGoing g all start t (c ∷ left) e p → u ≡ go (by_group g c.port) t
    → e ≤ more + length (t.place.waiting (by_group g c.port)).waits
    → p ≤ rest + reports t.place.number (t.place.waiting (by_group g c.port)).waits + 1
    → AllGoing g all start u left more rest
all-next g all start t u c left e p more rest h is entries packets =
    let k = by_group g c.port in
    let alone = subst (λ x. GoesAlone k (length (t.place.waiting k).waits) t x) (sym is) (go-alone k t) in
    let others : Agree g (ports_of left) t.place.waiting u.place.waiting =
    (λ q m. sym (alone.waiting (by_group g q) (other-key g c.port q (differs c.port q (ports_of left) (not-here c.port (ports_of left) h.distinct) m)))) in
    let count = waiting-same g (ports_of left) t.place.waiting u.place.waiting others in
    let few = reports-within t.place.number (t.place.waiting k).waits in
    let spare = h.spare in
    let room = h.room in
    let clock = h.clock in
    let later = alone.clock in
    record {
      same = ap (all_go g (ports_of left)) is ∙ h.same;
      kinds = All-tail IsPort c.port (ports_of left) h.kinds;
      distinct = (and_parts (not (is_member c.port (ports_of left))) (are_distinct (ports_of left)) h.distinct).1;
      courses = ap (drop 1) h.courses ∙ going-same g t.place u.place (ports_of left) (sym alone.layout) (sym alone.number) (sym alone.known) others;
      spare = omega (arith, count, few, spare, entries);
      room = omega (arith, count, few, room, packets);
      clock = omega (arith, count, clock, later);
    }

-- Copies are put.

pub or-none : (b c : Bool) → b || c ≡ false → (b ≡ false) × (c ≡ false)
or-none true c h = absurd (false≢true (sym h))
or-none false c h = (refl, h)

-- a copy for another member leaves the queue
pub put-elsewhere : (g : Ui) (c : MemberCopy) (cs : List MemberCopy) (f : Key → Queue) → are_distinct (members_of (c ∷ cs)) ≡ true
    → Agree g (members_of cs) (changed (by_group g c.port) (with_last c.wait) f) f
put-elsewhere g c cs f h q m = not-at (by_group g c.port) (by_group g q) (with_last c.wait) f (other-key g c.port q (differs c.port q (members_of cs) (not-here c.port (members_of cs) h) m))

rooms-kept : (g : Ui) (rows more : List (Key × Row)) (qs : List Ui) → ((q : Ui) → is_member q qs ≡ true → room more (by_group g q) ≡ room rows (by_group g q))
    → HaveLines g rows qs → HaveLines g more qs
rooms-kept g rows more [] a h = All-nil (λ q. 0 < room more (by_group g q))
rooms-kept g rows more (q ∷ qs) a h =
    All-cons (λ q. 0 < room more (by_group g q)) q qs
    (subst (λ n. 0 < n) (sym (a q (member-first q qs))) (All-head (λ q. 0 < room rows (by_group g q)) q qs h))
    (rooms-kept g rows more qs (λ r m. a r (member-more r q qs m)) (All-tail (λ q. 0 < room rows (by_group g q)) q qs h))

pub put-next : (g : Ui) (all : List MemberCopy) (start rows more : List (Key × Row)) (c : MemberCopy) (left : List MemberCopy) → Putting g all start rows (c ∷ left)
    → ((k : Key) → queue more k ≡ changed (by_group g c.port) (with_last c.wait) (queue rows) k)
    → ((k : Key) → room more k ≡ changed (by_group g c.port) less_one (room rows) k) → Putting g all start more left
put-next g all start rows more c left h queues rooms =
    record {
      same = λ k. (λ i. with_each g left (λ l. queues l i) k) ∙ h.same k;
      distinct = (and_parts (not (is_member c.port (members_of left))) (are_distinct (members_of left)) h.distinct).1;
      lines = rooms-kept g rows more (members_of left)
          (λ q m. rooms (by_group g q) ∙ ap (λ b. cond b (less_one (room rows (by_group g c.port))) (room rows (by_group g q)))
          (other-key g c.port q (differs c.port q (members_of left) (not-here c.port (members_of left) h.distinct) m)))
          (All-tail (λ q. 0 < room rows (by_group g q)) c.port (members_of left) h.lines);
    }

-- Copies that were put wait as they may.

no-route : (g q : Ui) (k : Key) → same_key (by_group g q) k ≡ true → k.route ≡ None → ⊥
no-route g q k h none = by k.route none (eq-parts (name_cmp q k.port) (option_cmp name_cmp (Some g) k.route) h).1
  where
    by : (o : Option Ui) → o ≡ None → is_eq (option_cmp name_cmp (Some g) o) ≡ true → ⊥
    by None e f = false≢true f
    by (Some r) e f = absurd (cc)

pub each-waits : (l : Layout) (p home : ℕ) (g : Ui) (cs : List MemberCopy) (f : Key → Queue) → has_place l home ≡ true → All (IsCopy home) cs
    → ((k : Key) → All (MayWait l p k) (f k).waits) → (k : Key) → All (MayWait l p k) (with_each g cs f k).waits
each-waits l p home g [] f place copied w k = w k
each-waits l p home g (c ∷ cs) f place copied w k =
    each-waits l p home g cs (changed (by_group g c.port) (with_last c.wait) f) place (All-tail (IsCopy home) c cs copied) (λ u. by u (same_key (by_group g c.port) u) refl) k
  where
    this : IsCopy home c
    this = All-head (IsCopy home) c cs copied

    by : (u : Key) (b : Bool) → same_key (by_group g c.port) u ≡ b → All (MayWait l p u) (cond b (with_last c.wait (f (by_group g c.port))) (f u)).waits
    by u true e =
        All-push (MayWait l p u) (f (by_group g c.port)).waits c.wait
        (All-weaker (MayWait l p (by_group g c.port)) (MayWait l p u) (λ x m. record { home = m.home; own = λ none. absurd (no-route g c.port u e none); message = m.message })
        (f (by_group g c.port)).waits (w (by_group g c.port)))
        (record { home = ap (has_place l) this.0 ∙ place; own = λ none. absurd (no-route g c.port u e none); message = this.1 })
    by u false e = w u

pub waiting-each : (l : Layout) (p home : ℕ) (g : Ui) (cs : List MemberCopy) (rows more : List (Key × Row)) → AreWaiting l p rows → has_place l home ≡ true → All (IsCopy home) cs
    → ((k : Key) → queue more k ≡ with_each g cs (queue rows) k) → AreWaiting l p more
waiting-each l p home g cs rows more w place copied e k =
    subst (λ (x : Queue). All (MayWait l p k) x.waits) (sym (e k)) (each-waits l p home g cs (queue rows) place copied w k)

-- an entry of a group that makes no port, with other messages that wait and other packets
pub kept-chosen : (l : Layout) (p : ℕ) (past more : List Entry) (ports : List PortRecord) (known : Known) (rows now : List (Key × Row)) (puts put : List Outgoing) (act : Act)
    → IsKept l p past ports known rows puts → Said past more act → ((n : ℕ) → ports_after act n ≡ n) → ((u : Ui) → makes u act ≡ false)
    → ((g : Ui) (qs : List Ui) → world.members_after g act qs ≡ qs) → AreWaiting l p now → AreSent l put → IsKept l p more ports known now put
kept-chosen l p past more ports known rows now puts put act k s none not_made same waiting sent =
    record {
      place = k.place;
      held = held-later l p past more act ports k.held s;
      layout = k.layout;
      located = k.located;
      waiting = waiting;
      numbered = numbered-same l p past more act k.numbered s none not_made;
      grouped = grouped-same past more act k.grouped s same;
      sent = sent;
    }

pub report-one : (p home : ℕ) (x : MsgId) (a : Answer) → length (report p home x a) ≤ 1
report-one p home x a = let n = report-length p home x a in let few = by (home == p) in omega (arith, n, few)
  where
    by : (b : Bool) → cond b 0 1 ≤ 1
    by true = omega arith
    by false = omega arith
