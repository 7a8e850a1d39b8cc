-- Nothing new comes behind a move where nothing new came behind it and a neighbour, if the command behind it does not wait.
-- s is a position, m and o are neighbours there, x is a move; e, f and g are their events.
use Rattle.std.proofs.Common.{ℕ, zero, suc, ◌≡◌, ◌≢◌, ◌≤◌, ◌==◌, Bool, true, false, ◌&&◌, ◌||◌, not, cond, List, [], ◌∷◌, length, Option, Some, None, is_some, slice_get, slice_set, ◌⊎◌, inl, inr, refl, sym, ◌∙◌, ap, ap₂, subst, arith}
use Rattle.std.specs.Option.{option_map}
use Rattle.std.proofs.lemmas.Bool.{false≢true, and_parts, and_from, eqb-true, eqb-false, ne_eqb, cases_Bool}
use Rattle.chorus_ui.specs.declared.layout.Layout.{Layout}
use Rattle.chorus_entry.specs.declared.command.Command.{Command}
use Rattle.law_machine.specs.declared.outgoing.Outgoing.{Outgoing}
use Rattle.law_network.specs.Packets.{is_link, AreByLink, first_on, rest_on}
use Rattle.law_network.specs.Network.{NetState, Event, Act, Deliver, happened}
use Rattle.law_network.specs.Stands.{actor_of}
use Rattle.law_network.proofs.Standing.CallerList.{get-other}
use Rattle.law_awaits.specs.Awaits.{would_take}
use Rattle.law_explore.specs.Neighbours.{seat_of, place_of, are_apart, has_packet, is_ready, AreNeighbours}
use Rattle.law_explore.specs.Search.{Commutes, IsHistory, state_after}
use Rattle.law_explore.specs.declared.moves.Move.{Move}
use Rattle.law_explore.specs.declared.moves.Move.TheVariants.{Go, Carry}
use Rattle.law_explore.specs.Races.{Race, Order, Position, next_of, behind_next, are_linked, event_of, may_now, is_now, may_come_by, scripts_after, position_after, own_of, answers_after, is_ready_by, are_neighbours, racing, seat_0, are_of_one_script, place_of_move, may_come, meet_nowhere, replaying, IsRace}
use Rattle.law_explore.specs.Quiet.{waits_if, waits_behind, IsQuiet, NeighboursStayQuiet}
use Rattle.law_explore.proofs.Lists.{list-other}
use Rattle.law_explore.proofs.Neighbours.{rest_of, order-rest, off, some-put, own-stays, stay}
use Rattle.law_explore.proofs.Normals.{keeps}
use Rattle.law_explore.proofs.Races.{turn, is, stays-ordered, same-place, ready-before, seat_by, some-same, flip, turned, Both, both, stepped, seat-is, next-past, now-past, now-same, seats-differ, turned-both, two-steps, races-commute}
use Rattle.law_explore.proofs.Replays.{Stays, stays-there, short}
use Rattle.law_explore.proofs.Carriers.{carrier, carrier-high, carried, to-carried, same-state, to-racing, same-ready, same-apart, there-after, back-after}

-- Moves are one, or not.

same-or-not : (x o : Move) → (x ≡ o) ⊎ (x ≢ o)
same-or-not (Go i) (Go j) = by (cases_Bool (i == j))
  where
    one : Go i ≡ Go j → i ≡ j
    one h = cc

    by : ((i == j) ≡ true) ⊎ ((i == j) ≡ false) → (Go i ≡ Go j) ⊎ (Go i ≢ Go j)
    by (inl e) = inl (ap Go (eqb-true i j e))
    by (inr n) = inr (λ h. eqb-false i j n (one h))
same-or-not (Go i) (Carry c d) = inr (λ h. cc)
same-or-not (Carry a b) (Go j) = inr (λ h. cc)
same-or-not (Carry a b) (Carry c d) = by (cases_Bool (a == c)) (cases_Bool (b == d))
  where
    first : Carry a b ≡ Carry c d → a ≡ c
    first h = cc

    second : Carry a b ≡ Carry c d → b ≡ d
    second h = cc

    by : ((a == c) ≡ true) ⊎ ((a == c) ≡ false) → ((b == d) ≡ true) ⊎ ((b == d) ≡ false) → (Carry a b ≡ Carry c d) ⊎ (Carry a b ≢ Carry c d)
    by (inl e) (inl f) = inl (ap₂ Carry (eqb-true a c e) (eqb-true b d f))
    by (inl e) (inr n) = inr (λ h. eqb-false b d n (second h))
    by (inr n) f = inr (λ h. eqb-false a c n (first h))

-- A packet stays where another one is taken.

rest-keeps : (a b c d : ℕ) (us : List Outgoing) → ((a == c) && (b == d)) ≡ false → is_some (first_on a b us) ≡ true → is_some (first_on a b (rest_on c d us)) ≡ true
rest-keeps a b c d [] n h = h
rest-keeps a b c d (u ∷ us) n h = by (is_link a b u) (is_link c d u) refl refl h (rest-keeps a b c d us n)
  where
    both-on : (x y a b c d : ℕ) → ((x == a) && (y == b)) ≡ true → ((x == c) && (y == d)) ≡ true → ((a == c) && (b == d)) ≡ false → ⊥
    both-on x y a b c d h k n = grind (arith, h, k, n)

    by : (x z : Bool) → is_link a b u ≡ x → is_link c d u ≡ z → is_some (cond x (Some u.packet) (first_on a b us)) ≡ true
        → (is_some (first_on a b us) ≡ true → is_some (first_on a b (rest_on c d us)) ≡ true) → is_some (first_on a b (cond z us (u ∷ rest_on c d us))) ≡ true
    by true true e f k ih = absurd (both-on u.packet.from u.to a b c d e f n)
    by true false e f k ih = ap (λ y. is_some (cond y (Some u.packet) (first_on a b (rest_on c d us)))) e
    by false true e f k ih = k
    by false false e f k ih = ap (λ y. is_some (cond y (Some u.packet) (first_on a b (rest_on c d us)))) e ∙ ih k

module _ (l : Layout) (who : ℕ → ℕ) where
  -- The events of moves.

  is-act : (i : ℕ) (left : List (List Order)) (e : Event) → event_of l who (Go i) left ≡ Some e → (c : Command) × (e ≡ Act (suc i) c)
  is-act i left e h = by (next_of (slice_get left i)) h
    where
      by : (o : Option Order) → option_map (λ (x : Order). Act (suc i) x.command) o ≡ Some e → (c : Command) × (e ≡ Act (suc i) c)
      by None k = absurd (cc)
      by (Some o) k = (o.command, sym (some-same (Act (suc i) o.command) e k))

  is-deliver : (a b : ℕ) (left : List (List Order)) (e : Event) → event_of l who (Carry a b) left ≡ Some e → e ≡ Deliver (who b) a b
  is-deliver a b left e h = by (are_linked l a b) h
    where
      by : (x : Bool) → cond x (Some (Deliver (who b) a b)) None ≡ Some e → e ≡ Deliver (who b) a b
      by true k = sym (some-same (Deliver (who b) a b) e k)
      by false k = absurd (cc)

  -- another move leaves the event of a move
  event-past : (x o : Move) (left : List (List Order)) → x ≢ o → event_of l who x (scripts_after o left) ≡ event_of l who x left
  event-past (Go i) (Go j) left n =
      ap (λ (z : Option (List Order)). option_map (λ (y : Order). Act (suc i) y.command) (next_of z))
      (list-other left j i (behind_next (slice_get left j)) (λ e. n (ap Go (sym e))))
  event-past (Go i) (Carry c d) left n = refl
  event-past (Carry a b) o left n = refl

  -- and its packet
  packet-past : (x o : Move) (left kept : List (List Order)) (e f : Event) (us : List Outgoing) → x ≢ o → event_of l who x left ≡ Some e → event_of l who o kept ≡ Some f → has_packet e us ≡ true
      → has_packet e (rest_of f us) ≡ true
  packet-past (Go i) o left kept e f us n i-is o-is some = (let a = is-act i left e i-is in ap (λ z. has_packet z (rest_of f us)) a.1)
  packet-past (Carry a b) (Go j) left kept e f us n x-is o-is some = (let c = is-act j kept f o-is in ap (λ z. has_packet e (rest_of z us)) c.1 ∙ some)
  packet-past (Carry a b) (Carry c d) left kept e f us n x-is o-is some =
      let own = is-deliver a b left e x-is in
      let other = is-deliver c d kept f o-is in
      ap₂ (λ y z. has_packet y (rest_of z us)) own other ∙ rest-keeps a b c d us unlike (sym (ap (λ y. has_packet y us) own) ∙ some)
    where
      by : (((a == c) && (b == d)) ≡ true) ⊎ (((a == c) && (b == d)) ≡ false) → ((a == c) && (b == d)) ≡ false
      by (inl e) = (let two = and_parts (a == c) (b == d) e in absurd (n (ap₂ Carry (eqb-true a c two.0) (eqb-true b d two.1))))
      by (inr e) = e

      unlike : ((a == c) && (b == d)) ≡ false
      unlike = by (cases_Bool ((a == c) && (b == d)))

  abbrev ready : Move → Position → Bool
  ready m s = is_ready_by (event_of l who m s.left) s.net

  abbrev step : Move → Position → Position
  step m s = position_after (event_of l who m s.left) m s

  -- A move that may come may come behind any other.
  stays-ready : (x o : Move) (s : Position) → AreByLink s.net.packets → x ≢ o → ready x s ≡ true → ready o s ≡ true → ready x (step o s) ≡ true
  stays-ready x o s order n h k = by (event_of l who x s.left) (event_of l who o s.left) refl refl h k
    where
      by : (y z : Option Event) → event_of l who x s.left ≡ y → event_of l who o s.left ≡ z → is_ready_by y s.net ≡ true → is_ready_by z s.net ≡ true
          → is_ready_by (event_of l who x (position_after z o s).left) (position_after z o s).net ≡ true
      by None z i j h k = absurd (false≢true h)
      by (Some e) None i j h k = absurd (false≢true k)
      by (Some e) (Some f) i j h k =
          let parts = and_parts (is_some (slice_get s.net.callers (seat_of e))) (has_packet e s.net.packets) h in
          let packet : has_packet e (happened f s.net).packets ≡ true =
          ap (λ (n : NetState). has_packet e n.packets) (is f s.net k)
          ∙ some-put e (turn f s.net k).puts (rest_of f s.net.packets) (order-rest f s.net.packets order) (packet-past x o s.left s.left e f s.net.packets n i j parts.1) in
          ap (λ z. is_ready_by z (happened f s.net)) (event-past x o s.left n ∙ i)
          ∙ and_from (is_some (slice_get (happened f s.net).callers (seat_of e))) (has_packet e (happened f s.net).packets) (stays-there f s.net (seat_of e) k parts.0) packet

  -- Neighbours are two moves.
  differ : (m o : Move) (s : Position) → are_neighbours l who m o s ≡ true → m ≢ o
  differ m o s h same =
      let b = both l who m o s h in
      let two = and_parts (not (seat_of b.e == seat_of b.f)) (not (place_of s.net.layout (actor_of s.net) b.e == place_of s.net.layout (actor_of s.net) b.f)) b.next.apart in
      let one : b.e ≡ b.f = some-same b.e b.f (sym b.one ∙ ap (λ z. event_of l who z s.left) same ∙ b.other) in
      eqb-false (seat_of b.e) (seat_of b.f) (off (seat_of b.e == seat_of b.f) two.0) (ap seat_of one)

  -- What may come behind each of two neighbours may come before them.
  module _ (x m o : Move) (s : Position) (h : are_neighbours l who m o s ≡ true) where
    abbrev b : Both l who m o s
    b = both l who m o s h

    past : (p : Move) (e : Event) → event_of l who p s.left ≡ Some e → x ≢ p → ready x (step p s) ≡ true → is_ready_by (event_of l who x s.left) (happened e s.net) ≡ true
    past p e i n k =
        sym (ap (λ z. is_ready_by z (happened e s.net)) (event-past x p s.left n))
        ∙ sym (ap (λ (z : Option Event). is_ready_by (event_of l who x (position_after z p s).left) (position_after z p s).net) i) ∙ k

    third : (a b c : ℕ) → (a == b) ≡ false → (a == c) ≡ true → (b == c) ≡ false
    third a b c n e = grind (arith, n, e)

    seats : (seat_of b.e == seat_of b.f) ≡ false
    seats = off (seat_of b.e == seat_of b.f) (and_parts (not (seat_of b.e == seat_of b.f)) (not (place_of s.net.layout (actor_of s.net) b.e == place_of s.net.layout (actor_of s.net) b.f)) b.next.apart).0

    back : AreNeighbours b.f b.e s.net
    back = record { one = b.next.other; other = b.next.one; apart = turned b.e b.f s.net b.next.apart }

    which : (g : Event) → is_ready g (happened b.e s.net) ≡ true → is_ready g (happened b.f s.net) ≡ true → ((seat_of b.e == seat_of g) ≡ true) ⊎ ((seat_of b.e == seat_of g) ≡ false) → is_ready g s.net ≡ true
    which g k j (inl e) = ready-before s.net b.f b.e g back (third (seat_of b.e) (seat_of b.f) (seat_of g) seats e) j k
    which g k j (inr n) = ready-before s.net b.e b.f g b.next n k j

    by-event : (z : Option Event) → is_ready_by z (happened b.e s.net) ≡ true → is_ready_by z (happened b.f s.net) ≡ true → is_ready_by z s.net ≡ true
    by-event None k j = absurd (false≢true k)
    by-event (Some g) k j = which g k j (cases_Bool (seat_of b.e == seat_of g))

    back-ready : x ≢ m → x ≢ o → ready x (step m s) ≡ true → ready x (step o s) ≡ true → ready x s ≡ true
    back-ready nm n k j = by-event (event_of l who x s.left) (past m b.e b.one nm k) (past o b.f b.other n j)

-- Waiting.

caller-before : (e : Event) (n : NetState) (k : ℕ) → is_ready e n ≡ true → is_some (slice_get (happened e n).callers k) ≡ true → is_some (slice_get n.callers k) ≡ true
caller-before e n k ready some =
    elim (cases_Bool (seat_of e == k)) [
      | inl here ↦
          (ap (λ j. is_some (slice_get n.callers j)) (sym (eqb-true (seat_of e) k here))
          ∙ (and_parts (is_some (slice_get n.callers (seat_of e))) (has_packet e n.packets) ready).0)
      | inr away ↦
          (sym (ap is_some (ap (λ (m : NetState). slice_get m.callers k) (is e n ready) ∙ get-other n.callers (seat_of e) k (turn e n ready).caller (eqb-false (seat_of e) k away)))
          ∙ some)
    ]

act-before : (i : ℕ) (g e : Event) (n : NetState) → (c : Command) × (g ≡ Act (suc i) c) → is_ready e n ≡ true → is_ready g (happened e n) ≡ true → is_ready g n ≡ true
act-before i g e n a ready k =
    ap (λ x. is_ready x n) a.1
    ∙ and_from (is_some (slice_get n.callers (suc i))) true
    (caller-before e n (suc i) ready (and_parts (is_some (slice_get (happened e n).callers (suc i))) true (sym (ap (λ x. is_ready x (happened e n)) a.1) ∙ k)).0) refl

-- what stands behind a command, and does not wait, may come whatever the network
free : (o : Option Order) (j : ℕ) (n : NetState) → waits_if o ≡ false → may_now o j n ≡ true
free None j n h = refl
free (Some o) j n h = ap (λ b. not b || would_take (suc j) o.command n) h

wait-free : (left : List (List Order)) (i j : ℕ) (n : NetState) → waits_if (next_of (Some (behind_next (slice_get left i)))) ≡ false
    → may_now (next_of (slice_get (slice_set left i (behind_next (slice_get left i))) i)) j n ≡ true
wait-free [] i j n h = refl
wait-free (os ∷ left) zero j n h = free (next_of (Some (behind_next (Some os)))) j n h
wait-free (os ∷ left) (suc i) j n h = wait-free left i j n h

behind-now : (m : Move) (left : List (List Order)) (n : NetState) → waits_behind m left ≡ false → is_now m (scripts_after m left) n ≡ true
behind-now (Go i) left n h = wait-free left i i n h
behind-now (Carry a b) left n h = refl

module _ (l : Layout) (who : ℕ → ℕ) where
  some-event : (x : Move) (left : List (List Order)) (n : NetState) → is_ready_by (event_of l who x left) n ≡ true → (g : Event) × ((event_of l who x left ≡ Some g) × (is_ready g n ≡ true))
  some-event x left n h = by (event_of l who x left) refl h
    where
      by : (z : Option Event) → event_of l who x left ≡ z → is_ready_by z n ≡ true → (g : Event) × ((event_of l who x left ≡ Some g) × (is_ready g n ≡ true))
      by None e k = absurd (false≢true k)
      by (Some g) e k = (g, (e, k))

  inside : (i : ℕ) (left : List (List Order)) (g : Event) → event_of l who (Go i) left ≡ Some g → suc i ≤ length left
  inside i left g h = by (next_of (slice_get left i)) refl h
    where
      by : (o : Option Order) → next_of (slice_get left i) ≡ o → option_map (λ (x : Order). Act (suc i) x.command) o ≡ Some g → suc i ≤ length left
      by None e k = absurd (cc)
      by (Some o) e k = short left i o e

  -- a move at another place, and of another seat, leaves it the time for a command, or not
  now-beside : (i : ℕ) (p : Move) (t : Position) (g e : Event) → AreByLink t.net.packets → event_of l who (Go i) t.left ≡ Some g → event_of l who p t.left ≡ Some e
      → (suc i == seat_by who p) ≡ false → is_ready g t.net ≡ true → is_ready e t.net ≡ true
      → (place_of t.net.layout (actor_of t.net) g == place_of t.net.layout (actor_of t.net) e) ≡ false
      → is_now (Go i) (step l who p t).left (step l who p t).net ≡ is_now (Go i) t.left t.net
  now-beside i p t g e ordered is_g is_e seats one other places =
      let far : are_apart t.net.layout (actor_of t.net) g e ≡ true =
      and_from (not (seat_of g == seat_of e)) (not (place_of t.net.layout (actor_of t.net) g == place_of t.net.layout (actor_of t.net) e))
      (ap₂ (λ u v. not (u == v)) (seat-is l who (Go i) t.left g is_g) (seat-is l who p t.left e is_e) ∙ ap not seats) (ap not places) in
      ap (λ (q : Position). is_now (Go i) q.left q.net) (stepped l who p t e is_e)
      ∙ now-past l who (Go i) p t.left (happened e t.net) seats
      ∙ now-same l who (Go i) t.left g (happened e t.net) t.net is_g (own-stays t.net g e ordered (record { one = one; other = other; apart = far }))

-- The move brings nothing new behind its neighbour, so it brings nothing new before it.
module _ (r : Race) (who : ℕ → ℕ) (order : AreByLink r.net.packets) (m o : Move) (s : Position) (ordered : AreByLink s.net.packets) (h : are_neighbours r.net.layout who m o s ≡ true)
    (strange : (i b : ℕ) → suc i ≤ length s.left → (suc i == who b) ≡ false) (plain : waits_behind m s.left ≡ false)
    (quiet : (x : Move) → may_come_by r.net.layout who x (step r.net.layout who m (step r.net.layout who o s)) ≡ true → (may_come_by r.net.layout who x (step r.net.layout who o s) ≡ true) × (x ≢ m)) where
  abbrev c : Commutes (racing r who) (λ (t : Position). AreByLink t.net.packets)
  c = races-commute r who order

  abbrev pair : Both r.net.layout who m o s
  pair = both r.net.layout who m o s h

  abbrev come : Move → Position → Bool
  come x t = may_come_by r.net.layout who x t

  abbrev next : Move → Position → Position
  next x t = step r.net.layout who x t

  parted : (x : Move) (t : Position) → come x t ≡ true → (ready r.net.layout who x t ≡ true) × (is_now x t.left t.net ≡ true)
  parted x t k = and_parts (ready r.net.layout who x t) (is_now x t.left t.net) k

  -- what may come behind both may come behind the neighbour alone
  by-quiet : (x : Move) → x ≢ o → come x (next m s) ≡ true → is_now x (next o (next m s)).left (next o (next m s)).net ≡ true → (come x (next o s) ≡ true) × (x ≢ m)
  by-quiet x n k now =
      let still = parted o (next m s) (c.still o m s ordered (c.either m o s h)) in
      let later = stays-ready r.net.layout who x o (next m s) (c.goes_on m s ordered (c.may m o s h)) n (parted x (next m s) k).0 still.0 in
      quiet x
      (ap (come x) (c.swap m o s ordered h)
      ∙ and_from (ready r.net.layout who x (next o (next m s))) (is_now x (next o (next m s)).left (next o (next m s)).net) later now)

  now-behind : is_now m (next o (next m s)).left (next o (next m s)).net ≡ true
  now-behind =
      let back = turned-both r.net.layout who m o s pair in
      ap (λ (t : Position). is_now m t.left t.net) (two-steps r.net.layout who o m s back ordered)
      ∙ now-past r.net.layout who m o (scripts_after m s.left) (happened back.e (happened back.f s.net)) (seats-differ r.net.layout who m o s.left s.left pair.e pair.f s.net pair.one pair.other pair.next.apart)
      ∙ behind-now m s.left (happened back.e (happened back.f s.net)) plain

  parted-seats : (i : ℕ) (p : Move) → suc i ≤ length s.left → Go i ≢ p → (suc i == seat_by who p) ≡ false
  parted-seats i (Go j) le n = ne_eqb (suc i) (suc j) (λ e. n (ap Go (suc-same i j e)))
    where
      suc-same : (i j : ℕ) → suc i ≡ suc j → i ≡ j
      suc-same i j e = omega (arith, e)
  parted-seats i (Carry a b) le n = strange i b le

  third-place : (p a b : ℕ) → (a == b) ≡ false → (p == a) ≡ true → (p == b) ≡ false
  third-place p a b n e = grind (arith, n, e)

  module _ (i : ℕ) (g : Event) (its : event_of r.net.layout who (Go i) s.left ≡ Some g) (n : Go i ≢ o) (nm : Go i ≢ m) (k : come (Go i) (next m s) ≡ true)
      (later : is_ready g (happened pair.e s.net) ≡ true) where
    abbrev le : suc i ≤ length s.left
    le = inside r.net.layout who i s.left g its

    here : is_ready g s.net ≡ true
    here = act-before i g pair.e s.net (is-act r.net.layout who i s.left g its) pair.next.one later

    abbrev place : Event → ℕ
    place e = place_of s.net.layout (actor_of s.net) e

    -- behind the move alone
    abbrev there : Position
    there = record { net = happened pair.e s.net; left = scripts_after m s.left; told = answers_after m (own_of pair.e s.net) s.told }

    at-its-place : (place g == place pair.e) ≡ true → is_now (Go i) s.left s.net ≡ true
    at-its-place same =
        let away = third-place (place g) (place pair.e) (place pair.f)
        (off (place pair.e == place pair.f) (and_parts (not (seat_of pair.e == seat_of pair.f)) (not (place pair.e == place pair.f)) pair.next.apart).1) same in
        let apart = seats-differ r.net.layout who m o s.left s.left pair.e pair.f s.net pair.one pair.other pair.next.apart in
        let beside =
        now-beside r.net.layout who i o there g pair.f (stays-ordered pair.e s.net pair.next.one ordered)
        (next-past r.net.layout who (Go i) m s.left (parted-seats i m le nm) ∙ its)
        (next-past r.net.layout who o m s.left (flip (seat_by who m) (seat_by who o) apart) ∙ pair.other)
        (parted-seats i o le n) later
        (stay s.net pair.f pair.e ordered (record { one = pair.next.other; other = pair.next.one; apart = turned pair.e pair.f s.net pair.next.apart }))
        (ap₂ (λ u v. u == v) (same-place pair.e s.net pair.next.one g) (same-place pair.e s.net pair.next.one pair.f) ∙ away) in
        let led = stepped r.net.layout who m s pair.e pair.one in
        let now = ap (λ (t : Position). is_now (Go i) (next o t).left (next o t).net) led ∙ beside ∙ sym (ap (λ (t : Position). is_now (Go i) t.left t.net) led) ∙ (parted (Go i) (next m s) k).1 in
        let q = by-quiet (Go i) n k now in
        sym (now-beside r.net.layout who i o s g pair.f ordered its pair.other (parted-seats i o le n) here pair.next.other away)
        ∙ (parted (Go i) (next o s) q.0).1

    now-before : is_now (Go i) s.left s.net ≡ true
    now-before =
        elim (cases_Bool (place g == place pair.e)) [
          | inl same ↦ at-its-place same
          | inr away ↦
              (sym (now-beside r.net.layout who i m s g pair.e ordered its pair.one (parted-seats i m le nm) here pair.next.one away)
              ∙ (parted (Go i) (next m s) k).1)
        ]

    comes-before : come (Go i) s ≡ true
    comes-before = and_from (ready r.net.layout who (Go i) s) (is_now (Go i) s.left s.net) (ap (λ z. is_ready_by z s.net) its ∙ here) now-before

  other-before : (x : Move) → x ≢ o → x ≢ m → come x (next m s) ≡ true → come x s ≡ true
  other-before (Go i) n nm k =
      let f = some-event r.net.layout who (Go i) s.left (happened pair.e s.net) (past r.net.layout who (Go i) m o s h m pair.e pair.one nm (parted (Go i) (next m s) k).0) in
      comes-before i f.0 f.1.0 n nm k f.1.1
  other-before (Carry a b) n nm k =
      let q = by-quiet (Carry a b) n k refl in
      and_from (ready r.net.layout who (Carry a b) s) true
      (back-ready r.net.layout who (Carry a b) m o s h nm n (parted (Carry a b) (next m s) k).0 (parted (Carry a b) (next o s) q.0).0) refl

  quiet-before : (x : Move) → come x (next m s) ≡ true → (come x s ≡ true) × (x ≢ m)
  quiet-before x k = by (same-or-not x o) (same-or-not x m)
    where
      by : (x ≡ o) ⊎ (x ≢ o) → (x ≡ m) ⊎ (x ≢ m) → (come x s ≡ true) × (x ≢ m)
      by (inl same) z = (
        ap (λ y. come y s) same ∙ c.may o m s (c.either m o s h),
        (λ e. differ r.net.layout who m o s h (sym e ∙ same)),
      )
      by (inr n) (inl same) =
          let q = by-quiet x n k (ap (λ y. is_now y (next o (next m s)).left (next o (next m s)).net) same ∙ now-behind) in absurd (q.1 same)
      by (inr n) (inr nm) = (other-before x n nm k, nm)

-- So it is where seat 0 delivers.
module _ (r : Race) (ms : List Move) (m o : Move) (race : IsRace r) (h : IsHistory (replaying r) ms) (apart : meet_nowhere r.net.layout o m (state_after (replaying r) ms) ≡ true)
    (plain : waits_behind m (state_after (replaying r) ms).left ≡ false) (quiet : IsQuiet r (o ∷ ms) m) where
  abbrev l : Layout
  l = r.net.layout

  abbrev who : ℕ → ℕ
  who = carrier r race

  abbrev at_c : List Move → Position
  at_c ns = state_after (racing (carried r race) (carrier r race)) ns

  abbrev at : Position
  at = at_c ms

  abbrev law : Commutes (racing (carried r race) (carrier r race)) (λ (s : Position). AreByLink s.net.packets)
  law = races-commute (carried r race) (carrier r race) race.order

  -- what may come is the same with carriers
  same : (ns : List Move) → IsHistory (replaying r) ns → (x : Move) → may_come l x (state_after (replaying r) ns) ≡ may_come_by l who x (at_c ns)
  same ns k x =
      let there = there-after r race ns (to-racing r race ns k) in
      let back = back-after r race ns there.0 in
      ap (may_come l x) (same-state r race ns) ∙ same-ready r race (state_after (racing r seat_0) ns) (at_c ns) there.1 back.1 x

  near : are_neighbours l who m o at ≡ true
  near =
      let there = there-after r race ms (to-racing r race ms h) in
      let back = back-after r race ms there.0 in
      law.either o m at (sym (same-apart r race (state_after (racing r seat_0) ms) at there.1 back.1 o m) ∙ sym (ap (meet_nowhere l o m) (same-state r race ms)) ∙ apart)

  ordered : AreByLink at.net.packets
  ordered = keeps (racing (carried r race) (carrier r race)) (λ (s : Position). AreByLink s.net.packets) law ms (there-after r race ms (to-racing r race ms h)).0

  abbrev rest : Bool
  rest = not (are_of_one_script o m) && not (place_of_move o (state_after (replaying r) ms) == place_of_move m (state_after (replaying r) ms))

  parts : (may_come l o (state_after (replaying r) ms) ≡ true) × (may_come l m (state_after (replaying r) ms) && rest ≡ true)
  parts = and_parts (may_come l o (state_after (replaying r) ms)) (may_come l m (state_after (replaying r) ms) && rest) apart

  one : IsHistory (replaying r) (m ∷ ms)
  one = ((and_parts (may_come l m (state_after (replaying r) ms)) rest parts.1).0, h)

  other : IsHistory (replaying r) (o ∷ ms)
  other = (parts.0, h)

  two : IsHistory (replaying r) (m ∷ o ∷ ms)
  two = (same (o ∷ ms) other m ∙ law.still m o at ordered near, other)

  brings : (x : Move) → may_come_by l who x (step l who m (step l who o at)) ≡ true → (may_come_by l who x (step l who o at) ≡ true) × (x ≢ m)
  brings x k = (let q = quiet x (same (m ∷ o ∷ ms) two x ∙ k) in (sym (same (o ∷ ms) other x) ∙ q.0, q.1))

  stays : Stays r (carried r race) seat_0 who (to-carried r race) (state_after (racing r seat_0) ms) at
  stays = (there-after r race ms (to-racing r race ms h)).1

  strange : (i b : ℕ) → suc i ≤ length at.left → (suc i == who b) ≡ false
  strange i b le =
      let inside : suc i ≤ length r.scripts = subst (λ (n : ℕ). suc i ≤ n) (ap length stays.left ∙ stays.all) le in
      ne_eqb (suc i) (who b) (λ e. carrier-high r race b (suc i) inside (sym e))

  free-behind : waits_behind m at.left ≡ false
  free-behind = ap (waits_behind m) (stays.left ∙ sym (ap (λ (p : Position). p.left) (same-state r race ms))) ∙ plain

  stays-quiet : IsQuiet r ms m
  stays-quiet x k = (let q = quiet-before (carried r race) who race.order m o at ordered near strange free-behind brings x (sym (same (m ∷ ms) one x) ∙ k) in (same ms h x ∙ q.0, q.1))

  still-comes : may_come l o (state_after (replaying r) (m ∷ ms)) ≡ true
  still-comes = same (m ∷ ms) one o ∙ law.still o m at ordered (law.either m o at near)

pub neighbours-stay-quiet : NeighboursStayQuiet
neighbours-stay-quiet r ms m o race h apart plain quiet = (stays-quiet r ms m o race h apart plain quiet, still-comes r ms m o race h apart plain quiet)
