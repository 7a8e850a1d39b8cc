-- Of races the histories in normal form suffice.
use Rattle.std.proofs.Common.{ℕ, suc, ◌≡◌, ◌≢◌, ◌==◌, nat_lt, Bool, true, false, ◌&&◌, ◌||◌, not, cond, List, [], ◌∷◌, Option, Some, None, is_some, slice_get, slice_set, inl, inr, refl, sym, ◌∙◌, ap, subst, arith}
use Rattle.std.specs.List.{All}
use Rattle.std.specs.Option.{option_map}
use Rattle.std.proofs.lemmas.Bool.{false≢true, and_parts, and_from, eqb-false, cases_Bool}
use Rattle.std.proofs.lemmas.List.Elements.{All-head, All-tail}
use Rattle.chorus_ui.specs.declared.layout.Layout.{Layout}
use Rattle.chorus_entry.specs.declared.command.Command.{Command}
use Rattle.chorus_entry.specs.declared.packet.Packet.{Packet}
use Rattle.chorus_calls.specs.Callers.{Seated}
use Rattle.law_machine.specs.declared.outgoing.Outgoing.{Outgoing}
use Rattle.law_machine.specs.PlaceState.{PlaceState, Turn}
use Rattle.law_machine.specs.PlaceMachine.{begun, begun_by}
use Rattle.law_machine.proofs.Machine.Stays.{act-stays, work-stays}
use Rattle.law_network.specs.Packets.{is_link, is_link_before, AreByLink, put, put_all, first_on, rest_on}
use Rattle.law_network.specs.Network.{NetState, place_in, Event, Enter, Act, Deliver, See, happened}
use Rattle.law_network.specs.Stands.{actor_of}
use Rattle.law_awaits.specs.Awaits.{is_taken, takes_by, would_take}
use Rattle.law_network.proofs.Standing.CallerList.{get-other, get-replaced}
use Rattle.law_explore.specs.Neighbours.{seat_of, command_place, place_of, are_apart, has_packet, is_ready, AreNeighbours}
use Rattle.law_explore.specs.Search.{Commutes}
use Rattle.law_explore.specs.declared.moves.Move.{Move}
use Rattle.law_explore.specs.declared.moves.Move.TheVariants.{Go, Carry}
use Rattle.law_explore.specs.Races.{Race, Order, Position, Told, next_of, behind_next, are_linked, event_of, may_now, is_now, may_come_by, scripts_after, position_after, is_ready_by, are_apart_by, are_neighbours, is_less, own_by, own_of, with_answer, answers_after, racing}
use Rattle.law_explore.specs.Laws.{RacesNeedNormalsOnly}
use Rattle.law_explore.proofs.Packets.{IsFrom, order-all}
use Rattle.law_explore.proofs.Lists.{list-swap, list-other}
use Rattle.law_explore.proofs.Neighbours.{turn_at, packet_of, rest_of, stands_at, turn_in, behind, turn-in-puts, happens, order-rest, some-is, off, commute, own-stays, stay}
use Rattle.law_explore.proofs.Normals.{normals_suffice}

-- An event that comes leaves the packets by their pairs, the layout, and each caller in its actor.

turn-actor : (e : Event) (s : PlaceState) (w : Seated) (o : Option Packet) → (turn_at e s w o).caller.actor ≡ w.actor
turn-actor (Enter actor last) s w o = refl
turn-actor (See seat clock) s w o = refl
turn-actor (Act k c) s w o = (act-stays c (begun s w)).actor
turn-actor (Deliver k a b) s w None = refl
turn-actor (Deliver k a b) s w (Some q) = (work-stays q (begun_by s w q)).actor

module _ (e : Event) (n : NetState) (h : is_ready e n ≡ true) where
  abbrev parts : (is_some (slice_get n.callers (seat_of e)) ≡ true) × (has_packet e n.packets ≡ true)
  parts = and_parts (is_some (slice_get n.callers (seat_of e))) (has_packet e n.packets) h

  abbrev pub caller : (w : Seated) × (slice_get n.callers (seat_of e) ≡ Some w)
  caller = some-is (slice_get n.callers (seat_of e)) parts.0

  abbrev pub turn : Turn
  turn = turn_in e n n.places n.packets caller.0

  pub is : happened e n ≡ behind e turn n n.places n.packets n.callers
  is = happens e n n.places n.packets n.callers caller.0 caller.1 parts.1

  pub stays-ordered : AreByLink n.packets → AreByLink (happened e n).packets
  stays-ordered order =
      subst (λ (m : NetState). AreByLink m.packets) (sym is) (order-all turn.puts (rest_of e n.packets) (order-rest e n.packets order))

  pub same-layout : (happened e n).layout ≡ n.layout
  same-layout = ap (λ (m : NetState). m.layout) is

  pub same-actors : (k : ℕ) → actor_of (happened e n) k ≡ actor_of n k
  same-actors k =
      ap (λ (m : NetState). actor_of m k) is
      ∙ elim (cases_Bool (seat_of e == k)) [
        | inl here ↦
            (let same : seat_of e ≡ k = equal (seat_of e) k here in
            ap (λ j. option_map (λ (w : Seated). w.actor) (slice_get (slice_set n.callers (seat_of e) turn.caller) j)) (sym same)
            ∙ ap (option_map (λ (w : Seated). w.actor)) (get-replaced n.callers (seat_of e) caller.0 turn.caller caller.1)
            ∙ ap (λ u. Some u) (turn-actor e (place_in n.layout (stands_at n.layout caller.0 e) n.places) caller.0 (packet_of e n.packets))
            ∙ sym (ap (option_map (λ (w : Seated). w.actor)) caller.1)
            ∙ ap (λ j. option_map (λ (w : Seated). w.actor) (slice_get n.callers j)) same)
        | inr away ↦
            ap (option_map (λ (w : Seated). w.actor)) (get-other n.callers (seat_of e) k turn.caller (eqb-false (seat_of e) k away))
      ]
    where
      equal : (a b : ℕ) → (a == b) ≡ true → a ≡ b
      equal a b g = grind (arith, g)

  pub same-place : (g : Event) → place_of (happened e n).layout (actor_of (happened e n)) g ≡ place_of n.layout (actor_of n) g
  same-place (Enter actor last) = refl
  same-place (See seat clock) = refl
  same-place (Act k c) = ap (λ l. command_place l c (actor_of (happened e n) k)) same-layout ∙ ap (command_place n.layout c) (same-actors k)
  same-place (Deliver k a b) = refl

  pub same-apart : (f g : Event) → are_apart (happened e n).layout (actor_of (happened e n)) f g ≡ are_apart n.layout (actor_of n) f g
  same-apart f g =
      ap (λ p. not (seat_of f == seat_of g) && not (p == place_of (happened e n).layout (actor_of (happened e n)) g)) (same-place f)
      ∙ ap (λ q. not (seat_of f == seat_of g) && not (place_of n.layout (actor_of n) f == q)) (same-place g)

  -- where the turn is
  pub turn-place : place_of n.layout (actor_of n) e ≡ stands_at n.layout caller.0 e
  turn-place = by e caller.0 caller.1
    where
      by : (g : Event) (w : Seated) → slice_get n.callers (seat_of g) ≡ Some w → place_of n.layout (actor_of n) g ≡ stands_at n.layout w g
      by (Enter actor last) w found = refl
      by (See seat clock) w found = refl
      by (Act k c) w found = ap (λ (o : Option Seated). command_place n.layout c (option_map (λ (x : Seated). x.actor) o)) found
      by (Deliver k a b) w found = refl

-- A packet that is there, but for what this place put, was there before.

other-put : (p a b : ℕ) (o : Outgoing) (us : List Outgoing) → IsFrom p o → (p == a) ≡ false → first_on a b (put o us) ≡ first_on a b us
other-put p a b o [] from ne = ap (λ i. cond ((i == a) && (o.to == b)) (Some o.packet) None) from ∙ ap (λ x. cond (x && (o.to == b)) (Some o.packet) None) ne
other-put p a b o (u ∷ us) from ne = by (is_link_before o u) (other-put p a b o us from ne)
  where
    by : (x : Bool) → first_on a b (put o us) ≡ first_on a b us → first_on a b (cond x (o ∷ u ∷ us) (u ∷ put o us)) ≡ first_on a b (u ∷ us)
    by true ih =
        ap (λ i. cond ((i == a) && (o.to == b)) (Some o.packet) (first_on a b (u ∷ us))) from
        ∙ ap (λ x. cond (x && (o.to == b)) (Some o.packet) (first_on a b (u ∷ us))) ne
    by false ih = ap (λ z. cond (is_link a b u) (Some u.packet) z) ih

other-puts : (p a b : ℕ) (os us : List Outgoing) → All (IsFrom p) os → (p == a) ≡ false → first_on a b (put_all os us) ≡ first_on a b us
other-puts p a b [] us all ne = refl
other-puts p a b (o ∷ os) us all ne =
    other-puts p a b os (put o us) (All-tail (IsFrom p) o os all) ne ∙ other-put p a b o us (All-head (IsFrom p) o os all) ne

rest-some : (a b c d : ℕ) (us : List Outgoing) → is_some (first_on a b (rest_on c d us)) ≡ true → is_some (first_on a b us) ≡ true
rest-some a b c d [] h = h
rest-some a b c d (u ∷ us) h = by (is_link a b u) (is_link c d u) refl h (rest-some a b c d us)
  where
    by : (x z : Bool) → is_link a b u ≡ x → is_some (first_on a b (cond z us (u ∷ rest_on c d us))) ≡ true → (is_some (first_on a b (rest_on c d us)) ≡ true → is_some (first_on a b us) ≡ true)
        → is_some (cond x (Some u.packet) (first_on a b us)) ≡ true
    by true z e k ih = refl
    by false true e k ih = k
    by false false e k ih = ih (sym (ap (λ x. is_some (cond x (Some u.packet) (first_on a b (rest_on c d us)))) e) ∙ k)

some-before : (f : Event) (a b : ℕ) (us : List Outgoing) → is_some (first_on a b (rest_of f us)) ≡ true → is_some (first_on a b us) ≡ true
some-before (Enter actor last) a b us h = h
some-before (See seat clock) a b us h = h
some-before (Act k c) a b us h = h
some-before (Deliver k c d) a b us h = rest-some a b c d us h

was-there : (f : Event) (n : NetState) (k a b : ℕ) → (ready : is_ready f n ≡ true) → (place_of n.layout (actor_of n) f == a) ≡ false → is_ready (Deliver k a b) (happened f n) ≡ true → has_packet (Deliver k a b) n.packets ≡ true
was-there f n k a b ready away h =
    let t = turn f n ready in
    let w = (caller f n ready).0 in
    let now = (and_parts (is_some (slice_get (happened f n).callers k)) (has_packet (Deliver k a b) (happened f n).packets) h).1 in
    let there = sym (ap (λ (m : NetState). is_some (first_on a b m.packets)) (is f n ready)) ∙ now in
    let far = ap (λ i. i == a) (sym (turn-place f n ready)) ∙ away in
    some-before f a b n.packets
    (sym (ap is_some (other-puts (stands_at n.layout w f) a b t.puts (rest_of f n.packets) (turn-in-puts f n n.places n.packets w).puts far)) ∙ there)

-- An event that may come behind each of two neighbours may come before them.
module _ (n : NetState) (e f g : Event) (h : AreNeighbours e f n) where
  seat-before : (seat_of e == seat_of g) ≡ false → is_ready g (happened e n) ≡ true → is_some (slice_get n.callers (seat_of g)) ≡ true
  seat-before ne k =
      let now = (and_parts (is_some (slice_get (happened e n).callers (seat_of g))) (has_packet g (happened e n).packets) k).0 in
      let t = turn e n h.one in
      sym (ap is_some (ap (λ (m : NetState). slice_get m.callers (seat_of g)) (is e n h.one) ∙ get-other n.callers (seat_of e) (seat_of g) t.caller (eqb-false (seat_of e) (seat_of g) ne))) ∙ now

  packet-before : (x : Event) → is_ready x (happened e n) ≡ true → is_ready x (happened f n) ≡ true → has_packet x n.packets ≡ true
  packet-before (Enter actor last) k j = absurd (false≢true ((and_parts (is_some (slice_get (happened e n).callers 0)) false k).1))
  packet-before (See seat clock) k j = absurd (false≢true ((and_parts (is_some (slice_get (happened e n).callers seat)) false k).1))
  packet-before (Act i c) k j = refl
  packet-before (Deliver i a b) k j =
      elim (cases_Bool (place_of n.layout (actor_of n) e == a)) [
        | inl on ↦ was-there f n i a b h.other (third (place_of n.layout (actor_of n) e) (place_of n.layout (actor_of n) f) a (off (place_of n.layout (actor_of n) e == place_of n.layout (actor_of n) f) (and_parts (not (seat_of e == seat_of f)) (not (place_of n.layout (actor_of n) e == place_of n.layout (actor_of n) f)) h.apart).1) on) j
        | inr away ↦ was-there e n i a b h.one away k
      ]
    where
      third : (p q a : ℕ) → (p == q) ≡ false → (p == a) ≡ true → (q == a) ≡ false
      third p q a ne on = grind (arith, ne, on)

  pub ready-before : (seat_of e == seat_of g) ≡ false → is_ready g (happened e n) ≡ true → is_ready g (happened f n) ≡ true → is_ready g n ≡ true
  ready-before ne k j = and_from (is_some (slice_get n.callers (seat_of g))) (has_packet g n.packets) (seat-before ne k) (packet-before g k j)

-- Whether a take would be answered by a message is read from what would answer it.

abbrev taken_in : Option Told → Bool
taken_in None = false
taken_in (Some it) = is_taken it.act

would-is : (k : ℕ) (c : Command) (n : NetState) → would_take k c n ≡ taken_in (own_of (Act k c) n)
would-is k c n = by (slice_get n.callers k)
  where
    by : (o : Option Seated) → takes_by c n o ≡ taken_in (own_by c n o)
    by None = refl
    by (Some w) = refl

would-same : (k : ℕ) (c : Command) (n m : NetState) → own_of (Act k c) n ≡ own_of (Act k c) m → would_take k c n ≡ would_take k c m
would-same k c n m h = would-is k c n ∙ ap taken_in h ∙ sym (would-is k c m)

-- Moves.

-- whose move it is, whatever is left
abbrev pub seat_by : (ℕ → ℕ) → Move → ℕ
seat_by who (Go i) = suc i
seat_by who (Carry a b) = who b

pub some-same : (x z : Event) → Some x ≡ Some z → x ≡ z
some-same x z h = cc

pub flip : (a b : ℕ) → (a == b) ≡ false → (b == a) ≡ false
flip a b ne = grind (arith, ne)

pub turned : (e f : Event) (n : NetState) → are_apart n.layout (actor_of n) e f ≡ true → are_apart n.layout (actor_of n) f e ≡ true
turned e f n h = far (seat_of e) (seat_of f) (place_of n.layout (actor_of n) e) (place_of n.layout (actor_of n) f) h
  where
    far : (a b p q : ℕ) → not (a == b) && not (p == q) ≡ true → not (b == a) && not (q == p) ≡ true
    far a b p q k =
        let two = and_parts (not (a == b)) (not (p == q)) k in
        and_from (not (b == a)) (not (q == p)) (ap not (flip a b (off (a == b) two.0))) (ap not (flip p q (off (p == q) two.1)))

-- where what would answer it is the same, it is the time for an order, or not
now-order : (i : ℕ) (o : Option Order) (e : Event) (n m : NetState) → option_map (λ (x : Order). Act (suc i) x.command) o ≡ Some e → own_of e n ≡ own_of e m → may_now o i n ≡ may_now o i m
now-order i None e n m event same = refl
now-order i (Some o) e n m event same =
    ap (λ b. not o.waits || b)
    (would-same (suc i) o.command n m (subst (λ (x : Event). own_of x n ≡ own_of x m) (sym (some-same (Act (suc i) o.command) e event)) same))

module _ (l : Layout) (who : ℕ → ℕ) where
  -- and so for a move
  pub now-same : (m : Move) (left : List (List Order)) (e : Event) (n k : NetState) → event_of l who m left ≡ Some e → own_of e n ≡ own_of e k → is_now m left n ≡ is_now m left k
  now-same (Go i) left e n k event same = now-order i (next_of (slice_get left i)) e n k event same
  now-same (Carry a b) left e n k event same = refl

  -- the events that neighbours are
  pub record Both (m o : Move) (s : Position) : Type 0 where
    pub e : Event
    pub f : Event
    pub one : event_of l who m s.left ≡ Some e
    pub other : event_of l who o s.left ≡ Some f
    pub next : AreNeighbours e f s.net
    pub one_now : is_now m s.left s.net ≡ true
    pub other_now : is_now o s.left s.net ≡ true

  pub both : (m o : Move) (s : Position) → are_neighbours l who m o s ≡ true → Both m o s
  both m o s h = by (event_of l who m s.left) (event_of l who o s.left) refl refl h
    where
      by : (x z : Option Event) → event_of l who m s.left ≡ x → event_of l who o s.left ≡ z
          → (is_ready_by x s.net && is_now m s.left s.net) && ((is_ready_by z s.net && is_now o s.left s.net) && are_apart_by x z s.net) ≡ true → Both m o s
      by None z i j k = absurd (false≢true k)
      by (Some e) None i j k = absurd (false≢true (and_parts (is_ready e s.net && is_now m s.left s.net) false k).1)
      by (Some e) (Some f) i j k =
          let first = and_parts (is_ready e s.net && is_now m s.left s.net) ((is_ready f s.net && is_now o s.left s.net) && are_apart s.net.layout (actor_of s.net) e f) k in
          let second = and_parts (is_ready f s.net && is_now o s.left s.net) (are_apart s.net.layout (actor_of s.net) e f) first.1 in
          let one = and_parts (is_ready e s.net) (is_now m s.left s.net) first.0 in
          let other = and_parts (is_ready f s.net) (is_now o s.left s.net) second.0 in
          record { e = e; f = f; one = i; other = j; next = record { one = one.0; other = other.0; apart = second.1 }; one_now = one.1; other_now = other.1 }

  pub from_both : (m o : Move) (s : Position) → Both m o s → are_neighbours l who m o s ≡ true
  from_both m o s h =
      let e = h.e in
      let f = h.f in
      let p = is_now m s.left s.net in
      let q = is_now o s.left s.net in
      ap (λ x. (is_ready_by x s.net && p) && ((is_ready_by (event_of l who o s.left) s.net && q) && are_apart_by x (event_of l who o s.left) s.net)) h.one
      ∙ ap (λ z. (is_ready e s.net && p) && ((is_ready_by z s.net && q) && are_apart_by (Some e) z s.net)) h.other
      ∙ and_from (is_ready e s.net && p) ((is_ready f s.net && q) && are_apart s.net.layout (actor_of s.net) e f) (and_from (is_ready e s.net) p h.next.one h.one_now)
      (and_from (is_ready f s.net && q) (are_apart s.net.layout (actor_of s.net) e f) (and_from (is_ready f s.net) q h.next.other h.other_now) h.next.apart)

  abbrev step : Move → Position → Position
  step m s = position_after (event_of l who m s.left) m s

  pub stepped : (m : Move) (s : Position) (e : Event) → event_of l who m s.left ≡ Some e → step m s ≡ record { net = happened e s.net; left = scripts_after m s.left; told = answers_after m (own_of e s.net) s.told }
  stepped m s e i = ap (λ x. position_after x m s) i

  -- another script stays as it was
  pub seat-is : (m : Move) (left : List (List Order)) (e : Event) → event_of l who m left ≡ Some e → seat_of e ≡ seat_by who m
  seat-is (Go i) left e h = by (next_of (slice_get left i)) h
    where
      by : (o : Option Order) → option_map (λ (x : Order). Act (suc i) x.command) o ≡ Some e → seat_of e ≡ suc i
      by None k = absurd (cc)
      by (Some o) k = sym (ap seat_of (some-same (Act (suc i) o.command) e k))
  seat-is (Carry a b) left e h = by (are_linked l a b) h
    where
      by : (x : Bool) → cond x (Some (Deliver (who b) a b)) None ≡ Some e → seat_of e ≡ who b
      by true k = sym (ap seat_of (some-same (Deliver (who b) a b) e k))
      by false k = absurd (cc)

  pub next-past : (m o : Move) (left : List (List Order)) → (seat_by who m == seat_by who o) ≡ false → event_of l who m (scripts_after o left) ≡ event_of l who m left
  next-past (Go i) (Go j) left ne =
      ap (λ (x : Option (List Order)). option_map (λ (y : Order). Act (suc i) y.command) (next_of x))
      (list-other left j i (behind_next (slice_get left j)) (λ e. eqb-false (suc i) (suc j) ne (ap suc (sym e))))
  next-past (Go i) (Carry c d) left ne = refl
  next-past (Carry a b) o left ne = refl

  pub now-past : (m o : Move) (left : List (List Order)) (n : NetState) → (seat_by who m == seat_by who o) ≡ false → is_now m (scripts_after o left) n ≡ is_now m left n
  now-past (Go i) (Go j) left n ne =
      ap (λ (x : Option (List Order)). may_now (next_of x) i n)
      (list-other left j i (behind_next (slice_get left j)) (λ e. eqb-false (suc i) (suc j) ne (ap suc (sym e))))
  now-past (Go i) (Carry c d) left n ne = refl
  now-past (Carry a b) o left n ne = refl

  scripts_after-swap : (m o : Move) (left : List (List Order)) → (seat_by who m == seat_by who o) ≡ false → scripts_after m (scripts_after o left) ≡ scripts_after o (scripts_after m left)
  scripts_after-swap (Go i) (Go j) left ne =
      let apart : i ≢ j = λ e. eqb-false (suc i) (suc j) ne (ap suc e) in
      let x = behind_next (slice_get left i) in
      let z = behind_next (slice_get left j) in
      ap (λ o. slice_set (slice_set left j z) i (behind_next o)) (list-other left j i z (λ e. apart (sym e)))
      ∙ list-swap left i j x z apart
      ∙ sym (ap (λ o. slice_set (slice_set left i x) j (behind_next o)) (list-other left i j x apart))
  scripts_after-swap (Go i) (Carry c d) left ne = refl
  scripts_after-swap (Carry a b) o left ne = refl

  told-swap : (m o : Move) (a b : Option Told) (told : List (List Told)) → (seat_by who m == seat_by who o) ≡ false → answers_after m a (answers_after o b told) ≡ answers_after o b (answers_after m a told)
  told-swap (Go i) (Go j) a b told ne =
      let apart : i ≢ j = λ e. eqb-false (suc i) (suc j) ne (ap suc e) in
      let x = with_answer a (slice_get told i) in
      let z = with_answer b (slice_get told j) in
      ap (λ o. slice_set (slice_set told j z) i (with_answer a o)) (list-other told j i z (λ e. apart (sym e)))
      ∙ list-swap told i j x z apart
      ∙ sym (ap (λ o. slice_set (slice_set told i x) j (with_answer b o)) (list-other told i j x apart))
  told-swap (Go i) (Carry c d) a b told ne = refl
  told-swap (Carry x z) o a b told ne = refl

  pub seats-differ : (m o : Move) (left kept : List (List Order)) (e f : Event) (n : NetState) → event_of l who m left ≡ Some e → event_of l who o kept ≡ Some f → are_apart n.layout (actor_of n) e f ≡ true
      → (seat_by who m == seat_by who o) ≡ false
  seats-differ m o left kept e f n i j h =
      let two = and_parts (not (seat_of e == seat_of f)) (not (place_of n.layout (actor_of n) e == place_of n.layout (actor_of n) f)) h in
      ap (λ x. x == seat_by who o) (sym (seat-is m left e i)) ∙ ap (λ z. seat_of e == z) (sym (seat-is o kept f j)) ∙ off (seat_of e == seat_of f) two.0

  abbrev Ordered : Position → Type 0
  Ordered s = AreByLink s.net.packets

  goes-on : (m : Move) (s : Position) → Ordered s → may_come_by l who m s ≡ true → Ordered (step m s)
  goes-on m s order h = by (event_of l who m s.left) (and_parts (is_ready_by (event_of l who m s.left) s.net) (is_now m s.left s.net) h).0
    where
      by : (x : Option Event) → is_ready_by x s.net ≡ true → Ordered (position_after x m s)
      by None k = absurd (false≢true k)
      by (Some e) k = stays-ordered e s.net k order

  abbrev pub turned-both : (m o : Move) (s : Position) → Both m o s → Both o m s
  turned-both m o s b = record {
    e = b.f;
    f = b.e;
    one = b.other;
    other = b.one;
    next = record { one = b.next.other; other = b.next.one; apart = turned b.e b.f s.net b.next.apart };
    one_now = b.other_now;
    other_now = b.one_now;
  }

  turned-moves : (m o : Move) (s : Position) → are_neighbours l who m o s ≡ true → are_neighbours l who o m s ≡ true
  turned-moves m o s h =
      let b = both m o s h in
      from_both o m s (turned-both m o s b)

  -- one step and then another
  pub two-steps : (m o : Move) (s : Position) (b : Both m o s) → Ordered s
      → step m (step o s) ≡ record { net = happened b.e (happened b.f s.net); left = scripts_after m (scripts_after o s.left); told = answers_after m (own_of b.e s.net) (answers_after o (own_of b.f s.net) s.told) }
  two-steps m o s b order =
      let apart = seats-differ m o s.left s.left b.e b.f s.net b.one b.other b.next.apart in
      let told = answers_after o (own_of b.f s.net) s.told in
      ap (step m) (stepped o s b.f b.other)
      ∙ stepped m (record { net = happened b.f s.net; left = scripts_after o s.left; told = told }) b.e (next-past m o s.left apart ∙ b.one)
      ∙ ap (λ (x : Option Told). let p : Position = record { net = happened b.e (happened b.f s.net); left = scripts_after m (scripts_after o s.left); told = answers_after m x told } in p) (own-stays s.net b.e b.f order b.next)

  swap-moves : (m o : Move) (s : Position) → Ordered s → are_neighbours l who m o s ≡ true → step m (step o s) ≡ step o (step m s)
  swap-moves m o s order h =
      let b = both m o s h in
      let apart = seats-differ m o s.left s.left b.e b.f s.net b.one b.other b.next.apart in
      let back = turned-both m o s b in
      let x = own_of b.e s.net in
      let z = own_of b.f s.net in
      two-steps m o s b order
      ∙ ap (λ (n : NetState). let p : Position = record { net = n; left = scripts_after m (scripts_after o s.left); told = answers_after m x (answers_after o z s.told) } in p) (commute s.net b.e b.f order b.next)
      ∙ ap (λ (ls : List (List Order)). let p : Position = record { net = happened b.f (happened b.e s.net); left = ls; told = answers_after m x (answers_after o z s.told) } in p) (scripts_after-swap m o s.left apart)
      ∙ ap (λ (ls : List (List Told)). let p : Position = record { net = happened b.f (happened b.e s.net); left = scripts_after o (scripts_after m s.left); told = ls } in p) (told-swap m o x z s.told apart)
      ∙ sym (two-steps o m s back order)

  -- it stays the time for it
  still-now : (m o : Move) (s : Position) (b : Both m o s) → Ordered s → is_now m (scripts_after o s.left) (happened b.f s.net) ≡ true
  still-now m o s b order =
      now-past m o s.left (happened b.f s.net) (seats-differ m o s.left s.left b.e b.f s.net b.one b.other b.next.apart)
      ∙ now-same m s.left b.e (happened b.f s.net) s.net b.one (own-stays s.net b.e b.f order b.next) ∙ b.one_now

  still-moves : (m o : Move) (s : Position) → Ordered s → are_neighbours l who m o s ≡ true → may_come_by l who m (step o s) ≡ true
  still-moves m o s order h =
      let b = both m o s h in
      let apart = seats-differ m o s.left s.left b.e b.f s.net b.one b.other b.next.apart in
      ap (λ (p : Position). may_come_by l who m p) (stepped o s b.f b.other)
      ∙ ap (λ x. is_ready_by x (happened b.f s.net) && is_now m (scripts_after o s.left) (happened b.f s.net)) (next-past m o s.left apart ∙ b.one)
      ∙ and_from (is_ready b.e (happened b.f s.net)) (is_now m (scripts_after o s.left) (happened b.f s.net)) (stay s.net b.e b.f order b.next) (still-now m o s b order)

  module _ (a b m : Move) (s : Position) (order : Ordered s) (h : Both a b s) where
    abbrev with_a : Position
    with_a = record { net = happened h.e s.net; left = scripts_after a s.left; told = answers_after a (own_of h.e s.net) s.told }

    abbrev with_b : Position
    with_b = record { net = happened h.f s.net; left = scripts_after b s.left; told = answers_after b (own_of h.f s.net) s.told }

    -- it is apart from b where a came, and from a where b came
    module _ (k : Both m b with_a) (j : Both m a with_b) where
      m-and-b : (seat_by who m == seat_by who b) ≡ false
      m-and-b = seats-differ m b (scripts_after a s.left) (scripts_after a s.left) k.e k.f (happened h.e s.net) k.one k.other k.next.apart

      m-and-a : (seat_by who m == seat_by who a) ≡ false
      m-and-a = seats-differ m a (scripts_after b s.left) (scripts_after b s.left) j.e j.f (happened h.f s.net) j.one j.other j.next.apart

      a-and-b : (seat_by who a == seat_by who b) ≡ false
      a-and-b = seats-differ a b s.left s.left h.e h.f s.net h.one h.other h.next.apart

      its : event_of l who m s.left ≡ Some k.e
      its = sym (next-past m a s.left m-and-a) ∙ k.one

      same : j.e ≡ k.e
      same = some-same j.e k.e (sym j.one ∙ next-past m b s.left m-and-b ∙ its)

      same-b : k.f ≡ h.f
      same-b = some-same k.f h.f (sym k.other ∙ next-past b a s.left (flip (seat_by who a) (seat_by who b) a-and-b) ∙ h.other)

      same-a : j.f ≡ h.e
      same-a = some-same j.f h.e (sym j.other ∙ next-past a b s.left a-and-b ∙ h.one)

      seats-too : (seat_of h.e == seat_of k.e) ≡ false
      seats-too =
          ap (λ x. x == seat_of k.e) (seat-is a s.left h.e h.one) ∙ ap (λ z. seat_by who a == z) (seat-is m s.left k.e its)
          ∙ flip (seat_by who m) (seat_by who a) m-and-a

      ready : is_ready k.e s.net ≡ true
      ready = ready-before s.net h.e h.f k.e h.next seats-too k.next.one (subst (λ (x : Event). is_ready x (happened h.f s.net) ≡ true) same j.next.one)

      with-b : are_apart s.net.layout (actor_of s.net) k.e h.f ≡ true
      with-b =
          ap (are_apart s.net.layout (actor_of s.net) k.e) (sym same-b)
          ∙ sym (same-apart h.e s.net h.next.one k.e k.f) ∙ k.next.apart

      with-a : are_apart s.net.layout (actor_of s.net) k.e h.e ≡ true
      with-a =
          ap (λ x. are_apart s.net.layout (actor_of s.net) x h.e) (sym same) ∙ ap (are_apart s.net.layout (actor_of s.net) j.e) (sym same-a)
          ∙ sym (same-apart h.f s.net h.next.other j.e j.f) ∙ j.next.apart

      now : is_now m s.left s.net ≡ true
      now =
          sym (now-same m s.left k.e (happened h.e s.net) s.net its (own-stays s.net k.e h.e order (record { one = ready; other = h.next.one; apart = with-a })))
          ∙ sym (now-past m a s.left (happened h.e s.net) m-and-a) ∙ k.one_now

      pub back-moves : (are_neighbours l who m b s ≡ true) × (are_neighbours l who m a s ≡ true)
      back-moves = (
        from_both m b s (record { e = k.e; f = h.f; one = its; other = h.other; next = record { one = ready; other = h.next.other; apart = with-b }; one_now = now; other_now = h.other_now }),
        from_both m a s (record { e = k.e; f = h.e; one = its; other = h.one; next = record { one = ready; other = h.next.one; apart = with-a }; one_now = now; other_now = h.one_now }),
      )

  pub backs : (a b m : Move) (s : Position) → Ordered s → are_neighbours l who a b s ≡ true → are_neighbours l who m b (step a s) ≡ true → are_neighbours l who m a (step b s) ≡ true
      → (are_neighbours l who m b s ≡ true) × (are_neighbours l who m a s ≡ true)
  backs a b m s order x y z =
      let h = both a b s x in
      back-moves a b m s order h
      (both m b (with_a a b m s order h) (subst (λ (p : Position). are_neighbours l who m b p ≡ true) (stepped a s h.e h.one) y))
      (both m a (with_b a b m s order h) (subst (λ (p : Position). are_neighbours l who m a p ≡ true) (stepped b s h.f h.other) z))

-- The order of moves.

less-one : (a b : Move) → is_less a b ≡ true → is_less b a ≡ false
less-one (Go i) (Go j) h = grind (arith, h)
less-one (Go i) (Carry c d) h = refl
less-one (Carry a b) (Go j) h = absurd (false≢true h)
less-one (Carry a b) (Carry c d) h = far a b c d h
  where
    far : (a b c d : ℕ) → (nat_lt a c || ((a == c) && nat_lt b d)) ≡ true → (nat_lt c a || ((c == a) && nat_lt d b)) ≡ false
    far a b c d h = grind (arith, h)

less-between : (a b m : Move) → is_less a b ≡ true → is_less m b ≡ false → is_less a m ≡ true
less-between (Go i) (Go j) (Go k) h g = grind (arith, h, g)
less-between (Go i) (Go j) (Carry e f) h g = refl
less-between (Go i) (Carry c d) (Go k) h g = absurd (false≢true (sym g))
less-between (Go i) (Carry c d) (Carry e f) h g = refl
less-between (Carry a b) (Go j) m h g = absurd (false≢true h)
less-between (Carry a b) (Carry c d) (Go k) h g = absurd (false≢true (sym g))
less-between (Carry a b) (Carry c d) (Carry e f) h g = far a b c d e f h g
  where
    far : (a b c d e f : ℕ) → (nat_lt a c || ((a == c) && nat_lt b d)) ≡ true → (nat_lt e c || ((e == c) && nat_lt f d)) ≡ false → (nat_lt a e || ((a == e) && nat_lt b f)) ≡ true
    far a b c d e f h g = grind (arith, h, g)

pub races-commute : (r : Race) (who : ℕ → ℕ) → AreByLink r.net.packets → Commutes (racing r who) (λ (s : Position). AreByLink s.net.packets)
races-commute r who order =
    record {
      begins = order;
      goes_on = goes-on r.net.layout who;
      may = λ a b s h. (and_parts (may_come_by r.net.layout who a s) (may_come_by r.net.layout who b s && are_apart_by (event_of r.net.layout who a s.left) (event_of r.net.layout who b s.left) s.net) h).0;
      either = turned-moves r.net.layout who;
      swap = swap-moves r.net.layout who;
      still = still-moves r.net.layout who;
      back = backs r.net.layout who;
      one_way = less-one;
      between = less-between;
    }

pub races_need_normals_only : RacesNeedNormalsOnly
races_need_normals_only r who order = normals_suffice (racing r who) (λ (s : Position). AreByLink s.net.packets) (races-commute r who order)
