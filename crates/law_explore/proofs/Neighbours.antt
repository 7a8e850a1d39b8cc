-- Neighbours commute.
-- n is a network, ps are its places, us its packets, cs its callers; e and f are events of the callers w and v.
use Rattle.std.proofs.Common.{ℕ, ◌≡◌, ◌≢◌, ◌==◌, Bool, true, false, not, List, Option, Some, None, is_some, slice_get, slice_set, refl, sym, ◌∙◌, ap, subst, arith}
use Rattle.std.specs.Option.{option_map}
use Rattle.std.proofs.lemmas.Bool.{false≢true, and_parts, and_from, eqb-false}
use Rattle.std.proofs.lemmas.List.Elements.{All-nil}
use Rattle.chorus_ui.specs.declared.layout.Layout.{Layout}
use Rattle.chorus_entry.specs.declared.command.Command.{Command}
use Rattle.chorus_entry.specs.declared.packet.Packet.{Packet}
use Rattle.chorus_entry.specs.Places.{place_for}
use Rattle.chorus_calls.specs.Callers.{Seated}
use Rattle.law_machine.specs.declared.outgoing.Outgoing.{Outgoing}
use Rattle.law_machine.specs.PlaceState.{PlaceState, Turn}
use Rattle.law_machine.specs.PlaceMachine.{begun, begun_by, act, work}
use Rattle.law_network.specs.Packets.{AreByLink, put_all, first_on, rest_on}
use Rattle.law_network.specs.Network.{NetState, place_in, with_place, commanded, works_off, delivered, Event, Enter, Act, Deliver, See, happened}
use Rattle.law_network.specs.Stands.{actor_of}
use Rattle.law_network.proofs.Links.LinkViews.{rest-order}
use Rattle.law_network.proofs.Places.PlacesStay.{place-other}
use Rattle.law_network.proofs.Standing.CallerList.{get-other}
use Rattle.law_network.proofs.Standing.Turning.{number-is}
use Rattle.law_explore.specs.Races.{own_by, own_of, told_in}
use Rattle.law_explore.specs.Neighbours.{seat_of, command_place, place_of, has_packet, is_ready, AreNeighbours}
use Rattle.law_explore.proofs.Packets.{IsFrom, put-all-swap, first-put-all, rest-put-all, first-rest, rest-rest}
use Rattle.law_explore.proofs.Lists.{with-swap, set-swap}
use Rattle.law_explore.proofs.Turns.{Puts, act-puts, work-puts}

-- An event is a turn of one place and one caller.

abbrev pub turn_at : Event → PlaceState → Seated → Option Packet → Turn
turn_at (Enter actor last) s w o = begun s w
turn_at (See seat clock) s w o = begun s w
turn_at (Act k c) s w o = act c (begun s w)
turn_at (Deliver k a b) s w None = begun s w
turn_at (Deliver k a b) s w (Some q) = work q (begun_by s w q)

abbrev pub packet_of : Event → List Outgoing → Option Packet
packet_of (Enter actor last) us = None
packet_of (See seat clock) us = None
packet_of (Act k c) us = None
packet_of (Deliver k a b) us = first_on a b us

abbrev pub rest_of : Event → List Outgoing → List Outgoing
rest_of (Enter actor last) us = us
rest_of (See seat clock) us = us
rest_of (Act k c) us = us
rest_of (Deliver k a b) us = rest_on a b us

abbrev pub stands_at : Layout → Seated → Event → ℕ
stands_at l w (Enter actor last) = 0
stands_at l w (See seat clock) = 0
stands_at l w (Act k c) = place_for l w.actor c
stands_at l w (Deliver k a b) = b

abbrev pub net_with : NetState → List PlaceState → List Outgoing → List Seated → NetState
net_with n ps us cs = record { layout = n.layout; places = ps; packets = us; callers = cs }

-- the turn of the event, and the network behind it
abbrev pub turn_in : Event → NetState → List PlaceState → List Outgoing → Seated → Turn
turn_in e n ps us w = turn_at e (place_in n.layout (stands_at n.layout w e) ps) w (packet_of e us)

abbrev pub behind : Event → Turn → NetState → List PlaceState → List Outgoing → List Seated → NetState
behind e t n ps us cs = net_with n (with_place t.place ps) (put_all t.puts (rest_of e us)) (slice_set cs (seat_of e) t.caller)

turn-puts : (e : Event) (s : PlaceState) (w : Seated) (o : Option Packet) (p : ℕ) → s.number ≡ p → Puts p (turn_at e s w o)
turn-puts (Enter actor last) s w o p h = record { number = h; puts = All-nil (IsFrom p) }
turn-puts (See seat clock) s w o p h = record { number = h; puts = All-nil (IsFrom p) }
turn-puts (Act k c) s w o p h = act-puts c s w p h
turn-puts (Deliver k a b) s w None p h = record { number = h; puts = All-nil (IsFrom p) }
turn-puts (Deliver k a b) s w (Some q) p h = work-puts q s w p h

pub turn-in-puts : (e : Event) (n : NetState) (ps : List PlaceState) (us : List Outgoing) (w : Seated) → Puts (stands_at n.layout w e) (turn_in e n ps us w)
turn-in-puts e n ps us w =
    turn-puts e (place_in n.layout (stands_at n.layout w e) ps) w (packet_of e us) (stands_at n.layout w e) (number-is n.layout (stands_at n.layout w e) ps)

pub happens : (e : Event) (n : NetState) (ps : List PlaceState) (us : List Outgoing) (cs : List Seated) (w : Seated) → slice_get cs (seat_of e) ≡ Some w → has_packet e us ≡ true
    → happened e (net_with n ps us cs) ≡ behind e (turn_in e n ps us w) n ps us cs
happens (Enter actor last) n ps us cs w found some = absurd (false≢true some)
happens (See seat clock) n ps us cs w found some = absurd (false≢true some)
happens (Act k c) n ps us cs w found some = ap (λ o. commanded k c o (net_with n ps us cs)) found
happens (Deliver k a b) n ps us cs w found some =
    ap (λ o. delivered k a b o (net_with n ps us cs)) found ∙ by (first_on a b us) some
  where
    by : (o : Option Packet) → is_some o ≡ true → works_off k a b w o (net_with n ps us cs) ≡ behind (Deliver k a b) (turn_at (Deliver k a b) (place_in n.layout b ps) w o) n ps us cs
    by None s = absurd (false≢true s)
    by (Some q) s = refl

-- Its packet and the rest, where another event came first.

packet-past : (l : Layout) (e f : Event) (w v : Seated) (us : List Outgoing) → (stands_at l w e == stands_at l v f) ≡ false → packet_of e (rest_of f us) ≡ packet_of e us
packet-past l (Enter actor last) f w v us ne = refl
packet-past l (See seat clock) f w v us ne = refl
packet-past l (Act k c) f w v us ne = refl
packet-past l (Deliver k a b) (Enter actor last) w v us ne = refl
packet-past l (Deliver k a b) (See seat clock) w v us ne = refl
packet-past l (Deliver k a b) (Act j d) w v us ne = refl
packet-past l (Deliver k a b) (Deliver j c d) w v us ne = first-rest a b c d us ne

pub some-past : (l : Layout) (e f : Event) (w v : Seated) (us : List Outgoing) → (stands_at l w e == stands_at l v f) ≡ false → has_packet e us ≡ true → has_packet e (rest_of f us) ≡ true
some-past l (Enter actor last) f w v us ne some = some
some-past l (See seat clock) f w v us ne some = some
some-past l (Act k c) f w v us ne some = some
some-past l (Deliver k a b) f w v us ne some = ap is_some (packet-past l (Deliver k a b) f w v us ne) ∙ some

rest-swap : (l : Layout) (e f : Event) (w v : Seated) (us : List Outgoing) → (stands_at l w e == stands_at l v f) ≡ false → rest_of e (rest_of f us) ≡ rest_of f (rest_of e us)
rest-swap l (Enter actor last) f w v us ne = refl
rest-swap l (See seat clock) f w v us ne = refl
rest-swap l (Act k c) f w v us ne = refl
rest-swap l (Deliver k a b) (Enter actor last) w v us ne = refl
rest-swap l (Deliver k a b) (See seat clock) w v us ne = refl
rest-swap l (Deliver k a b) (Act j d) w v us ne = refl
rest-swap l (Deliver k a b) (Deliver j c d) w v us ne = rest-rest a b c d us ne

packet-put : (e : Event) (os us : List Outgoing) → AreByLink us → has_packet e us ≡ true → packet_of e (put_all os us) ≡ packet_of e us
packet-put (Enter actor last) os us order some = refl
packet-put (See seat clock) os us order some = refl
packet-put (Act k c) os us order some = refl
packet-put (Deliver k a b) os us order some = first-put-all a b os us order some

pub some-put : (e : Event) (os us : List Outgoing) → AreByLink us → has_packet e us ≡ true → has_packet e (put_all os us) ≡ true
some-put (Enter actor last) os us order some = some
some-put (See seat clock) os us order some = some
some-put (Act k c) os us order some = refl
some-put (Deliver k a b) os us order some = ap is_some (first-put-all a b os us order some) ∙ some

rest-put : (e : Event) (os us : List Outgoing) → AreByLink us → has_packet e us ≡ true → rest_of e (put_all os us) ≡ put_all os (rest_of e us)
rest-put (Enter actor last) os us order some = refl
rest-put (See seat clock) os us order some = refl
rest-put (Act k c) os us order some = refl
rest-put (Deliver k a b) os us order some = rest-put-all a b os us order some

pub order-rest : (e : Event) (us : List Outgoing) → AreByLink us → AreByLink (rest_of e us)
order-rest (Enter actor last) us order = order
order-rest (See seat clock) us order = order
order-rest (Act k c) us order = order
order-rest (Deliver k a b) us order = rest-order a b us order

flip : (a b : ℕ) → (a == b) ≡ false → (b == a) ≡ false
flip a b n = grind (arith, n)

-- Two events, of the callers w and v.
module _ (n : NetState) (ps : List PlaceState) (us : List Outgoing) (cs : List Seated) (order : AreByLink us) where
  -- the network behind both, the one with the turn u first
  abbrev both : Event → Event → Turn → Turn → NetState
  both e f t u = net_with n (with_place t.place (with_place u.place ps)) (put_all t.puts (put_all u.puts (rest_of e (rest_of f us)))) (slice_set (slice_set cs (seat_of f) u.caller) (seat_of e) t.caller)

  module _ (e f : Event) (w v : Seated) (one : slice_get cs (seat_of e) ≡ Some w) (other : slice_get cs (seat_of f) ≡ Some v)
      (some : has_packet e us ≡ true) (any : has_packet f us ≡ true) (seats : seat_of f ≢ seat_of e) (places : (stands_at n.layout w e == stands_at n.layout v f) ≡ false) where
    abbrev u : Turn
    u = turn_in f n ps us v

    later : has_packet e (put_all u.puts (rest_of f us)) ≡ true
    later = some-put e u.puts (rest_of f us) (order-rest f us order) (some-past n.layout e f w v us places some)

    still : slice_get (slice_set cs (seat_of f) u.caller) (seat_of e) ≡ Some w
    still = get-other cs (seat_of f) (seat_of e) u.caller seats ∙ one

    same-place : place_in n.layout (stands_at n.layout w e) (with_place u.place ps) ≡ place_in n.layout (stands_at n.layout w e) ps
    same-place =
        place-other n.layout (stands_at n.layout w e) u.place ps
        (ap (λ i. i == stands_at n.layout w e) (turn-in-puts f n ps us v).number ∙ flip (stands_at n.layout w e) (stands_at n.layout v f) places)

    same-packet : packet_of e (put_all u.puts (rest_of f us)) ≡ packet_of e us
    same-packet =
        packet-put e u.puts (rest_of f us) (order-rest f us order) (some-past n.layout e f w v us places some)
        ∙ packet-past n.layout e f w v us places

    same-turn : turn_in e n (with_place u.place ps) (put_all u.puts (rest_of f us)) w ≡ turn_in e n ps us w
    same-turn =
        ap (λ (s : PlaceState). turn_at e s w (packet_of e (put_all u.puts (rest_of f us)))) same-place
        ∙ ap (λ (o : Option Packet). turn_at e (place_in n.layout (stands_at n.layout w e) ps) w o) same-packet

    pub one_then_other : happened e (happened f (net_with n ps us cs)) ≡ both e f (turn_in e n ps us w) u
    one_then_other =
        ap (happened e) (happens f n ps us cs v other any)
        ∙ happens e n (with_place u.place ps) (put_all u.puts (rest_of f us)) (slice_set cs (seat_of f) u.caller) w still later
        ∙ ap (λ (t : Turn). behind e t n (with_place u.place ps) (put_all u.puts (rest_of f us)) (slice_set cs (seat_of f) u.caller)) same-turn
        ∙ ap (λ (xs : List Outgoing). net_with n (with_place (turn_in e n ps us w).place (with_place u.place ps)) (put_all (turn_in e n ps us w).puts xs) (slice_set (slice_set cs (seat_of f) u.caller) (seat_of e) (turn_in e n ps us w).caller))
        (rest-put e u.puts (rest_of f us) (order-rest f us order) (some-past n.layout e f w v us places some))

    -- its turn begins the same
    pub begins-same : (c : Command) → e ≡ Act (seat_of e) c → own_of e (happened f (net_with n ps us cs)) ≡ own_of e (net_with n ps us cs)
    begins-same c is =
        ap (λ x. own_of x (happened f (net_with n ps us cs))) is
        ∙ ap (own_of (Act (seat_of e) c)) (happens f n ps us cs v other any)
        ∙ ap (own_by c (behind f u n ps us cs)) still
        ∙ ap (λ (s : PlaceState). Some (told_in c (begun s w))) (subst (λ (x : Event). place_in n.layout (stands_at n.layout w x) (with_place u.place ps) ≡ place_in n.layout (stands_at n.layout w x) ps) is same-place)
        ∙ sym (ap (own_by c (net_with n ps us cs)) one)
        ∙ sym (ap (λ x. own_of x (net_with n ps us cs)) is)

    -- the event may come behind the other
    pub stays : is_ready e (happened f (net_with n ps us cs)) ≡ true
    stays =
        ap (is_ready e) (happens f n ps us cs v other any)
        ∙ and_from (is_some (slice_get (slice_set cs (seat_of f) u.caller) (seat_of e))) (has_packet e (put_all u.puts (rest_of f us))) (ap is_some still) later

  both-swap : (e f : Event) (w v : Seated) (t u : Turn) → Puts (stands_at n.layout w e) t → Puts (stands_at n.layout v f) u → (stands_at n.layout w e == stands_at n.layout v f) ≡ false → seat_of e ≢ seat_of f
      → both e f t u ≡ both f e u t
  both-swap e f w v t u h k ne seats =
      let xs = rest_of e (rest_of f us) in
      let apart : (t.place.number == u.place.number) ≡ false = ap (λ i. i == u.place.number) h.number ∙ ap (λ j. stands_at n.layout w e == j) k.number ∙ ne in
      ap (λ (qs : List PlaceState). net_with n qs (put_all t.puts (put_all u.puts xs)) (slice_set (slice_set cs (seat_of f) u.caller) (seat_of e) t.caller)) (with-swap t.place u.place ps apart)
      ∙ ap (λ (ys : List Outgoing). net_with n (with_place u.place (with_place t.place ps)) ys (slice_set (slice_set cs (seat_of f) u.caller) (seat_of e) t.caller))
      (put-all-swap (stands_at n.layout w e) (stands_at n.layout v f) t.puts u.puts xs h.puts k.puts ne ∙ ap (λ ys. put_all u.puts (put_all t.puts ys)) (rest-swap n.layout e f w v us ne))
      ∙ ap (λ (ds : List Seated). net_with n (with_place u.place (with_place t.place ps)) (put_all u.puts (put_all t.puts (rest_of f (rest_of e us)))) ds) (set-swap cs (seat_of e) (seat_of f) t.caller u.caller seats)

-- Which callers and places these are.

pub some-is : {A : Type 0} (o : Option A) → is_some o ≡ true → (x : A) × (o ≡ Some x)
some-is None h = absurd (false≢true h)
some-is (Some x) h = (x, refl)

place-is : (n : NetState) (e : Event) (w : Seated) → slice_get n.callers (seat_of e) ≡ Some w → place_of n.layout (actor_of n) e ≡ stands_at n.layout w e
place-is n (Enter actor last) w found = refl
place-is n (See seat clock) w found = refl
place-is n (Act k c) w found = ap (λ (o : Option Seated). command_place n.layout c (option_map (λ (caller : Seated). caller.actor) o)) found
place-is n (Deliver k a b) w found = refl

pub off : (b : Bool) → not b ≡ true → b ≡ false
off true h = absurd (false≢true h)
off false h = refl

turned : (i j : ℕ) → i ≢ j → j ≢ i
turned i j n e = n (sym e)

module _ (n : NetState) (e f : Event) (order : AreByLink n.packets) (h : AreNeighbours e f n) where
  abbrev one_parts : (is_some (slice_get n.callers (seat_of e)) ≡ true) × (has_packet e n.packets ≡ true)
  one_parts = and_parts (is_some (slice_get n.callers (seat_of e))) (has_packet e n.packets) h.one

  abbrev other_parts : (is_some (slice_get n.callers (seat_of f)) ≡ true) × (has_packet f n.packets ≡ true)
  other_parts = and_parts (is_some (slice_get n.callers (seat_of f))) (has_packet f n.packets) h.other

  abbrev apart_parts : (not (seat_of e == seat_of f) ≡ true) × (not (place_of n.layout (actor_of n) e == place_of n.layout (actor_of n) f) ≡ true)
  apart_parts = and_parts (not (seat_of e == seat_of f)) (not (place_of n.layout (actor_of n) e == place_of n.layout (actor_of n) f)) h.apart

  seats : seat_of e ≢ seat_of f
  seats = eqb-false (seat_of e) (seat_of f) (off (seat_of e == seat_of f) apart_parts.0)

  abbrev w : (x : Seated) × (slice_get n.callers (seat_of e) ≡ Some x)
  w = some-is (slice_get n.callers (seat_of e)) one_parts.0

  abbrev v : (x : Seated) × (slice_get n.callers (seat_of f) ≡ Some x)
  v = some-is (slice_get n.callers (seat_of f)) other_parts.0

  places : (stands_at n.layout w.0 e == stands_at n.layout v.0 f) ≡ false
  places =
      ap (λ i. i == stands_at n.layout v.0 f) (sym (place-is n e w.0 w.1))
      ∙ ap (λ j. place_of n.layout (actor_of n) e == j) (sym (place-is n f v.0 v.1))
      ∙ off (place_of n.layout (actor_of n) e == place_of n.layout (actor_of n) f) apart_parts.1

  pub commute : happened e (happened f n) ≡ happened f (happened e n)
  commute =
      one_then_other n n.places n.packets n.callers order e f w.0 v.0 w.1 v.1 one_parts.1 other_parts.1 (turned (seat_of e) (seat_of f) seats) places
      ∙ both-swap n n.places n.packets n.callers order e f w.0 v.0 (turn_in e n n.places n.packets w.0) (turn_in f n n.places n.packets v.0)
      (turn-in-puts e n n.places n.packets w.0) (turn-in-puts f n n.places n.packets v.0) places seats
      ∙ sym (one_then_other n n.places n.packets n.callers order f e v.0 w.0 v.1 w.1 other_parts.1 one_parts.1 seats (flip (stands_at n.layout w.0 e) (stands_at n.layout v.0 f) places))

  pub own-stays : own_of e (happened f n) ≡ own_of e n
  own-stays = by e refl
    where
      by : (x : Event) → e ≡ x → own_of x (happened f n) ≡ own_of x n
      by (Enter actor last) is = refl
      by (See seat clock) is = refl
      by (Act k c) is =
          subst (λ (x : Event). own_of x (happened f n) ≡ own_of x n) is
          (begins-same n n.places n.packets n.callers order e f w.0 v.0 w.1 v.1 one_parts.1 other_parts.1 (turned (seat_of e) (seat_of f) seats) places c (is ∙ ap (λ j. Act j c) (sym (ap seat_of is))))
      by (Deliver k a b) is = refl

  pub stay : is_ready e (happened f n) ≡ true
  stay = stays n n.places n.packets n.callers order e f w.0 v.0 w.1 v.1 one_parts.1 other_parts.1 (turned (seat_of e) (seat_of f) seats) places
