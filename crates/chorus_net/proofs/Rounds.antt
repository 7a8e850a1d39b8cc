-- Rounds of deliveries, one after the other.
use Rattle.std.proofs.Common.{ℕ, zero, suc, ◌≡◌, ◌≢◌, ◌+◌, ◌-◌, ◌<◌, ◌≤◌, ◌==◌, nat_le, Bool, true, false, ◌&&◌, cond, List, [], ◌∷◌, ◌++◌, length, reverse, get_or, Option, Some, None, is_some, slice_get, refl, sym, ◌∙◌, ap, subst, arith, append_assoc}
use Rattle.std.proofs.lemmas.Bool.{and_from, le-leb, ne_eqb}
use Rattle.std.proofs.lemmas.List.{reverse-append, append-nil}
use Rattle.chorus_ui.specs.declared.layout.Layout.{Layout}
use Rattle.chorus_ui.specs.declared.limits.TheConstants.{CLOCK_LIMIT}
use Rattle.chorus_ui.specs.Layout.{has_place, places}
use Rattle.chorus_entry.specs.declared.packet.Packet.{Packet}
use Rattle.chorus_calls.specs.Callers.{Seated}
use Rattle.place_outbox.specs.Waiting.{count}
use Rattle.law_network.specs.declared.delivery.Delivered.{Delivered}
use Rattle.law_network.specs.Packets.{first_on}
use Rattle.law_network.specs.Network.{NetState, Event, Deliver, numbers, place_numbers, happened, after, from_one, from_each, round, rounds, one_if, serves, served, delivered, delivery, delivery_of}
use Rattle.law_network.specs.Tasks.{IsDrain}
use Rattle.law_network.specs.Calls.{draining, compared_at}
use Rattle.law_network.proofs.Draining.Drains.{idle, idle-event, after-append}
use Rattle.law_network.proofs.Draining.Emptied.{drains-leave-nothing}
use Rattle.chorus_place.specs.Calls.{Place}
use Rattle.chorus_net.specs.Drains.{seat_clock, Ticks, forward, serves_all, puts_forward, Goes, GoesRound, GoesRounds, RoundsUse, Drains, Stops, StopsAmong, ComparesWorn}
use Rattle.chorus_net.specs.Room.{UsesRoom, UsesRoomInRounds, puts_in, puts_of}
use Rattle.chorus_net.proofs.Rooms.{uses-self, uses-one, uses-forward, uses-after, uses-reverse}
use Rattle.chorus_net.specs.Sites.{SitesState, net, boxes, waiting_in, IsSites}
use Rattle.chorus_net.specs.Worn.{IsUnworn, AreUnworn, ComeUnworn, IsWornIn}
use Rattle.chorus_net.proofs.Boxes.{none-first}
use Rattle.chorus_net.proofs.Waiting.{first-waiting}
use Rattle.chorus_net.proofs.Worn.{unworn-append, come-append, unworn-reverse, nothing-unworn}

-- Events one after the other.

forward-append : (es fs : List Event) (n : NetState) → forward (es ++ fs) n ≡ forward fs (forward es n)
forward-append [] fs n = refl
forward-append (e ∷ es) fs n = forward-append es fs (happened e n)

serves-append : (es fs : List Event) (n : NetState) → serves_all (es ++ fs) n ≡ serves_all es n + serves_all fs (forward es n)
serves-append [] fs n = omega arith
serves-append (e ∷ es) fs n = (let rest = serves-append es fs (happened e n) in omega (arith, rest))

served-append : (xs ys : List Event) (n : NetState) → served (xs ++ ys) n ≡ served xs (after ys n) + served ys n
served-append [] ys n = omega arith
served-append (x ∷ xs) ys n =
    (let rest = served-append xs ys n in
    let same : serves x (after (xs ++ ys) n) ≡ serves x (after xs (after ys n)) = ap (serves x) (after-append xs ys n) in
    omega (arith, rest, same))

reverse-more : (e : Event) (es : List Event) → reverse (e ∷ es) ≡ reverse es ++ e ∷ []
reverse-more e es = reverse-append (e ∷ []) es

pub after-reverse : (es : List Event) (n : NetState) → after (reverse es) n ≡ forward es n
after-reverse [] n = refl
after-reverse (e ∷ es) n =
    ap (λ fs. after fs n) (reverse-more e es) ∙ after-append (reverse es) (e ∷ []) n ∙ after-reverse es (happened e n)

pub served-reverse : (es : List Event) (n : NetState) → served (reverse es) n ≡ serves_all es n
served-reverse [] n = refl
served-reverse (e ∷ es) n =
    (let one = ap (λ fs. served fs n) (reverse-more e es) ∙ served-append (reverse es) (e ∷ []) n in
    let rest = served-reverse es (happened e n) in
    omega (arith, one, rest))

pub goes-none : (n : NetState) → Goes [] n n 0
goes-none n = record {
  forward = refl;
  unworn = tt;
  total = refl;
  risen = omega arith;
  last = λ h. absurd (omega (arith, h));
}

pub goes-on : (es fs : List Event) (n m k : NetState) (i j : ℕ) → Goes es n m i → Goes fs m k j → Goes (es ++ fs) n k (i + j)
goes-on es fs n m k i j g h = record {
  forward = h.forward ∙ ap (forward fs) g.forward ∙ sym (forward-append es fs n);
  unworn = come-append es fs n g.unworn (subst (λ z. ComeUnworn fs z) g.forward h.unworn);
  total = (let a = g.total in let b = h.total in let c = serves-append es fs n in let d : serves_all fs m ≡ serves_all fs (forward es n) = ap (serves_all fs) g.forward in omega (arith, a, b, c, d));
  risen = (let a = g.risen in let b = h.risen in omega (arith, a, b));
  last = λ most. last-of i j (seat_clock n) (seat_clock m) g.risen g.last h.last most;
}
  where
    last-of : (i j a b : ℕ) → a + i ≤ b → (1 ≤ i → a + i ≤ CLOCK_LIMIT) → (1 ≤ j → b + j ≤ CLOCK_LIMIT) → 1 ≤ i + j → a + (i + j) ≤ CLOCK_LIMIT
    last-of i zero a b r f g h = (let e = f (omega (arith, h)) in omega (arith, e))
    last-of i (suc j) a b r f g h = (let e = g (omega arith) in omega (arith, e, r))

-- The places in their order.

pub numbers-more : (n k : ℕ) → numbers n k ++ (k + n) ∷ [] ≡ numbers (suc n) k
numbers-more zero k = (let e : k + 0 ≡ k = omega arith in ap (λ x. x ∷ []) e)
numbers-more (suc n) k = (let e : k + suc n ≡ (k + 1) + n = omega arith in ap (λ x. k ∷ (numbers n (k + 1) ++ x ∷ [])) e ∙ ap (λ xs. k ∷ xs) (numbers-more n (k + 1)))

one-append : (a : ℕ) (xs ys : List ℕ) → from_one 0 a (xs ++ ys) ≡ from_one 0 a xs ++ from_one 0 a ys
one-append a [] ys = refl
one-append a (x ∷ xs) ys =
    ap (λ es. cond (a == x) [] (Deliver 0 a x ∷ []) ++ es) (one-append a xs ys)
    ∙ sym (append_assoc (cond (a == x) [] (Deliver 0 a x ∷ [])) (from_one 0 a xs) (from_one 0 a ys))

each-append : (xs ys bs : List ℕ) → from_each 0 (xs ++ ys) bs ≡ from_each 0 xs bs ++ from_each 0 ys bs
each-append [] ys bs = refl
each-append (x ∷ xs) ys bs =
    ap (λ es. from_one 0 x bs ++ es) (each-append xs ys bs) ∙ sym (append_assoc (from_one 0 x bs) (from_each 0 xs bs) (from_each 0 ys bs))

-- one place more of a row, and one row more of a round
pub row-on : (a n b : ℕ) (m k o : NetState) (i j : ℕ) → b ≡ 1 + n → Goes (from_one 0 a (numbers n 1)) m k i → Goes (from_one 0 a (b ∷ [])) k o j
    → Goes (from_one 0 a (numbers (suc n) 1)) m o (i + j)
row-on a n b m k o i j e g h =
    subst (λ es. Goes es m o (i + j)) (sym (one-append a (numbers n 1) (b ∷ [])) ∙ ap (λ x. from_one 0 a (numbers n 1 ++ x ∷ [])) e ∙ ap (from_one 0 a) (numbers-more n 1))
    (goes-on (from_one 0 a (numbers n 1)) (from_one 0 a (b ∷ [])) m k o i j g h)

pub round-on : (bs : List ℕ) (n a : ℕ) (m k o : NetState) (i j : ℕ) → a ≡ 1 + n → Goes (from_each 0 (numbers n 1) bs) m k i → Goes (from_one 0 a bs) k o j
    → Goes (from_each 0 (numbers (suc n) 1) bs) m o (i + j)
round-on bs n a m k o i j e g h =
    subst (λ es. Goes es m o (i + j))
    (ap (λ es. from_each 0 (numbers n 1) bs ++ es) (sym (append-nil (from_one 0 a bs))) ∙ sym (each-append (numbers n 1) (a ∷ []) bs)
    ∙ ap (λ x. from_each 0 (numbers n 1 ++ x ∷ []) bs) e ∙ ap (λ xs. from_each 0 xs bs) (numbers-more n 1))
    (goes-on (from_each 0 (numbers n 1) bs) (from_one 0 a bs) m k o i j g h)

pub round-done : (l : Layout) (n m : NetState) (i : ℕ) → Goes (from_each 0 (place_numbers l) (place_numbers l)) n m i → GoesRound l n m i
round-done l n m i g = record {
  after = g.forward ∙ sym (after-reverse (from_each 0 (place_numbers l) (place_numbers l)) n);
  unworn = unworn-reverse (from_each 0 (place_numbers l) (place_numbers l)) n g.unworn;
  total = g.total ∙ sym (served-reverse (from_each 0 (place_numbers l) (place_numbers l)) n);
  risen = g.risen;
  last = g.last;
}

-- A delivery.

one-list : (a b : ℕ) → (a == b) ≡ false → from_one 0 a (b ∷ []) ≡ Deliver 0 a b ∷ []
one-list a b e = ap (λ c. cond c [] (Deliver 0 a b ∷ []) ++ []) e

-- what it answers says whether it serves
first-of : (o : Option Packet) (b : Bool) → delivery_of o ≡ cond b Delivered.Served Delivered.Nothing → is_some o ≡ b
first-of None true h = absurd (cc)
first-of None false h = refl
first-of (Some k) true h = refl
first-of (Some k) false h = absurd (cc)

pub serves-one : (a b : ℕ) (n m : NetState) → a ≢ b → is_some (slice_get n.callers 0) ≡ true → m ≡ happened (Deliver 0 a b) n → Delivered.Served ≡ delivery a b n → Ticks n m
    → IsUnworn (compared_at 0 a b n) → Goes (from_one 0 a (b ∷ [])) n m 1
serves-one a b n m ne who is answer ticks free = subst (λ es. Goes es n m 1) (sym (one-list a b (ne_eqb a b ne))) record {
  forward = is;
  unworn = (free, tt);
  total = (let one : serves (Deliver 0 a b) n ≡ 1 = ap one_if (and_from (is_some (slice_get n.callers 0)) (is_some (first_on a b n.packets)) who (first-of (first_on a b n.packets) true (sym answer))) in omega (arith, one));
  risen = (let r = ticks.risen in omega (arith, r));
  last = λ h. (let r = ticks.below in omega (arith, r));
}

idle-serves : (a b : ℕ) (n : NetState) → is_some (first_on a b n.packets) ≡ false → serves (Deliver 0 a b) n ≡ 0
idle-serves a b n h = go (is_some (slice_get n.callers 0))
  where
    go : (c : Bool) → one_if (c && is_some (first_on a b n.packets)) ≡ 0
    go true = ap one_if h
    go false = refl

pub serves-none : (a b : ℕ) (n m : NetState) → a ≢ b → m ≡ happened (Deliver 0 a b) n → Delivered.Nothing ≡ delivery a b n → Goes (from_one 0 a (b ∷ [])) n m 0
serves-none a b n m ne is answer =
    let none = idle-serves a b n (first-of (first_on a b n.packets) false (sym answer)) in
    let still : m ≡ n = is ∙ idle-event (Deliver 0 a b) n none in
    subst (λ es. Goes es n m 0) (sym (one-list a b (ne_eqb a b ne))) record {
      forward = is;
      unworn = (nothing-unworn a b n (first-of (first_on a b n.packets) false (sym answer)), tt);
      total = omega (arith, none);
      risen = (let e = ap seat_clock still in omega (arith, e));
      last = λ h. absurd (omega (arith, h));
    }

-- Where none waits to go from a place, its row serves nothing.

idle-row : (l : Layout) (a : ℕ) (n : NetState) (k c : ℕ) → ((b : ℕ) → has_place l b ≡ true → first_on a b n.packets ≡ None) → 1 ≤ c → c + k ≤ places l + 1 → Goes (from_one 0 a (numbers k c)) n n 0
idle-row l a n zero c none low high = goes-none n
idle-row l a n (suc k) c none low high =
    let rest = idle-row l a n k (c + 1) none (omega arith) (omega (arith, high)) in
    goes-on (cond (a == c) [] (Deliver 0 a c ∷ [])) (from_one 0 a (numbers k (c + 1))) n n n 0 0 (go (a == c)) rest
  where
    has : has_place l c ≡ true
    has = and_from (nat_le 1 c) (nat_le c (places l)) (le-leb 1 c low) (le-leb c (places l) (omega (arith, high)))

    go : (b : Bool) → Goes (cond b [] (Deliver 0 a c ∷ [])) n n 0
    go true = goes-none n
    go false =
        let zero-served = idle-serves a c n (ap is_some (none c has)) in
        record {
          forward = sym (idle-event (Deliver 0 a c) n zero-served);
          unworn = (nothing-unworn a c n (ap is_some (none c has)), tt);
          total = omega (arith, zero-served);
          risen = omega arith;
          last = λ h. absurd (omega (arith, h));
        }

pub idle-place : (l : Layout) (a : ℕ) (n : NetState) → ((b : ℕ) → has_place l b ≡ true → first_on a b n.packets ≡ None) → Goes (from_one 0 a (place_numbers l)) n n 0
idle-place l a n none = idle-row l a n (places l) 1 none (omega arith) (omega arith)

pub idle-first : (s : SitesState) (a b i : ℕ) (p : Place) → IsSites s → a ≡ 1 + i → i < length s.places → p ≡ get_or s.places i p → has_place s.layout b ≡ true → count p.out.lists ≡ 0
    → first_on a b (waiting_in (boxes s.places)) ≡ None
idle-first s a b i p h e lt at has none = first-waiting s a b i p h e lt at has ∙ none-first b p.out.lists none

-- Rounds.

pub rounds-on : (l : Layout) (n m k : NetState) (i j : ℕ) → GoesRounds l n m i → GoesRound l m k j → GoesRounds l n k (i + j)
rounds-on l n m k i j g h = record {
  count = suc g.count;
  after = h.after ∙ ap (after (round l 0)) g.after ∙ sym (after-append (round l 0) (rounds l 0 g.count) n);
  unworn = unworn-append (round l 0) (rounds l 0 g.count) n (subst (λ z. AreUnworn (round l 0) z) g.after h.unworn) g.unworn;
  total = (
      let a = g.total in
      let b = h.total in
      let c = served-append (round l 0) (rounds l 0 g.count) n in
      let d : served (round l 0) m ≡ served (round l 0) (after (rounds l 0 g.count) n) = ap (served (round l 0)) g.after in
      omega (arith, a, b, c, d));
  risen = (let a = g.risen in let b = h.risen in omega (arith, a, b));
  last = λ most. last-of i j (seat_clock n) (seat_clock m) g.risen g.last h.last most;
}
  where
    last-of : (i j a b : ℕ) → a + i ≤ b → (1 ≤ i → a + i ≤ CLOCK_LIMIT) → (1 ≤ j → b + j ≤ CLOCK_LIMIT) → 1 ≤ i + j → a + (i + j) ≤ CLOCK_LIMIT
    last-of i zero a b r f g h = (let e = f (omega (arith, h)) in omega (arith, e))
    last-of i (suc j) a b r f g h = (let e = g (omega arith) in omega (arith, e, r))

-- a round that serves nothing changes nothing, and nothing is left
pub dry-round : (s : SitesState) (m : NetState) (i : ℕ) → IsSites s → GoesRound s.layout (net s) m i → i ≡ 0 → m.packets ≡ []
dry-round s m i h r none =
    let dry : served (round s.layout 0) (net s) ≡ 0 = sym r.total ∙ none in
    let still : m ≡ net s = r.after ∙ idle (round s.layout 0) (net s) dry in
    let es = h.scheduled.events in
    let d : IsDrain s.layout 0 h.scheduled.events h.scheduled.events = record {
      count = 0;
      rounds = refl;
      dry = ap (served (round s.layout 0)) (sym h.scheduled.is) ∙ dry;
    } in
    ap (λ (z : NetState). z.packets) (still ∙ h.scheduled.is)
    ∙ drains-leave-nothing s.layout 0 es es h.shape h.scheduled.may (ap (λ (z : NetState). is_some (slice_get z.callers 0)) (sym h.scheduled.is) ∙ who s.callers h.some_seat) d
  where
    who : (cs : List Seated) → 1 ≤ length cs → is_some (slice_get cs 0) ≡ true
    who [] k = absurd (omega (arith, k))
    who (x ∷ cs) k = refl

-- so it ends the drain
pub drained : (l : Layout) (n m k : NetState) (i j : ℕ) → GoesRounds l n m i → GoesRound l m k j → j ≡ 0 → k.packets ≡ [] → Drains l n k i
drained l n m k i j g r none empty =
    let dry : served (round l 0) m ≡ 0 = sym r.total ∙ none in
    let still : k ≡ m = r.after ∙ idle (round l 0) m dry in
    record {
      count = g.count;
      drained = still ∙ g.after;
      unworn = g.unworn;
      dry = ap (served (round l 0)) still ∙ dry;
      empty = empty;
      total = g.total;
    }

-- seat 0 has come, where its clock has risen
pub who-of : (a b : ℕ) (n m : NetState) → m ≡ happened (Deliver 0 a b) n → Ticks n m → is_some (slice_get n.callers 0) ≡ true
who-of a b n m e t = go (slice_get n.callers 0) refl
  where
    go : (o : Option Seated) → slice_get n.callers 0 ≡ o → is_some (slice_get n.callers 0) ≡ true
    go None f =
        let still : m ≡ n = e ∙ ap (λ o. delivered 0 a b o n) f in
        let same = ap seat_clock still in
        let up = t.risen in
        absurd (omega (arith, same, up))
    go (Some x) f = ap is_some f

-- Where a delivery is refused, for a cause P.

pub stops-here : (P : Event → NetState → Type 0) (a b : ℕ) (s t : SitesState) → a ≢ b → net t ≡ net s → UsesRoom (λ p. 0) s.places t.places → P (Deliver 0 a b) (net t)
    → StopsAmong (from_one 0 a (b ∷ [])) P s t
stops-here P a b s t ne e room why = subst (λ es. StopsAmong es P s t) (sym (one-list a b (ne_eqb a b ne))) record {
  done = [];
  next = Deliver 0 a b;
  later = [];
  are = refl;
  is = e;
  unworn = tt;
  room = room;
  because = why;
}

stops-behind : (P : Event → NetState → Type 0) (es fs gs : List Event) (s t u : SitesState) (i : ℕ) → Goes es (net s) (net t) i → UsesRoom (puts_forward es (net s)) s.places t.places
    → StopsAmong fs P t u → StopsAmong (es ++ (fs ++ gs)) P s u
stops-behind P es fs gs s t u i g room w = record {
  done = es ++ w.done;
  next = w.next;
  later = w.later ++ gs;
  are = ap (λ z. es ++ (z ++ gs)) w.are ∙ ap (λ z. es ++ z) (append_assoc w.done (w.next ∷ w.later) gs)
      ∙ sym (append_assoc es w.done (w.next ∷ (w.later ++ gs)));
  is = w.is ∙ ap (forward w.done) g.forward ∙ sym (forward-append es w.done (net s));
  unworn = come-append es w.done (net s) g.unworn (subst (λ z. ComeUnworn w.done z) g.forward w.unworn);
  room = uses-forward es w.done (net s) (net t) s.places t.places u.places g.forward room w.room;
  because = w.because;
}

numbers-split : (n m k : ℕ) → numbers (n + suc m) k ≡ numbers n k ++ (k + n) ∷ numbers m ((k + n) + 1)
numbers-split zero m k =
    (let e : 0 + suc m ≡ suc m = omega arith in
    let f : k ≡ k + 0 = omega arith in
    ap (λ x. numbers x k) e ∙ ap (λ x. x ∷ numbers m (x + 1)) f)
numbers-split (suc n) m k =
    (let e : suc n + suc m ≡ suc (n + suc m) = omega arith in
    let f : (k + 1) + n ≡ k + suc n = omega arith in
    ap (λ x. numbers x k) e ∙ ap (λ xs. k ∷ xs) (numbers-split n m (k + 1) ∙ ap (λ x. numbers n (k + 1) ++ x ∷ numbers m (x + 1)) f))

split-at : (n b p : ℕ) → b ≡ 1 + n → b ≤ p → numbers p 1 ≡ numbers n 1 ++ b ∷ numbers (p - b) (b + 1)
split-at n b p is le =
    (let e : p ≡ n + suc (p - b) = omega (arith, is, le) in
    ap (λ x. numbers x 1) e ∙ numbers-split n (p - b) 1 ∙ ap (λ x. numbers n 1 ++ x ∷ numbers (p - b) (x + 1)) (sym is))

-- in a row, in a round and in rounds
pub row-stops : (P : Event → NetState → Type 0) (a n b p : ℕ) (s t u : SitesState) (i : ℕ) → b ≡ 1 + n → b ≤ p → Goes (from_one 0 a (numbers n 1)) (net s) (net t) i
    → UsesRoom (puts_forward (from_one 0 a (numbers n 1)) (net s)) s.places t.places → StopsAmong (from_one 0 a (b ∷ [])) P t u → StopsAmong (from_one 0 a (numbers p 1)) P s u
row-stops P a n b p s t u i is le g room w =
    let rest = numbers (p - b) (b + 1) in
    subst (λ es. StopsAmong es P s u)
    (sym (ap (from_one 0 a) (split-at n b p is le) ∙ one-append a (numbers n 1) (b ∷ rest) ∙ ap (λ es. from_one 0 a (numbers n 1) ++ es) (one-append a (b ∷ []) rest)))
    (stops-behind P (from_one 0 a (numbers n 1)) (from_one 0 a (b ∷ [])) (from_one 0 a rest) s t u i g room w)

pub round-stops : (P : Event → NetState → Type 0) (bs : List ℕ) (n a p : ℕ) (s t u : SitesState) (i : ℕ) → a ≡ 1 + n → a ≤ p → Goes (from_each 0 (numbers n 1) bs) (net s) (net t) i
    → UsesRoom (puts_forward (from_each 0 (numbers n 1) bs) (net s)) s.places t.places → StopsAmong (from_one 0 a bs) P t u → StopsAmong (from_each 0 (numbers p 1) bs) P s u
round-stops P bs n a p s t u i is le g room w =
    let rest = numbers (p - a) (a + 1) in
    subst (λ es. StopsAmong es P s u)
    (sym (ap (λ xs. from_each 0 xs bs) (split-at n a p is le) ∙ each-append (numbers n 1) (a ∷ rest) bs))
    (stops-behind P (from_each 0 (numbers n 1) bs) (from_one 0 a bs) (from_each 0 rest bs) s t u i g room w)

-- the events of a round that stopped, behind whole rounds
turned-round : (es done later before : List Event) (next : Event) → es ≡ done ++ next ∷ later → reverse es ++ before ≡ reverse later ++ next ∷ (reverse done ++ before)
turned-round es done later before next are =
    let turned : reverse (done ++ next ∷ later) ≡ reverse later ++ next ∷ reverse done =
    reverse-append done (next ∷ later) ∙ ap (λ z. z ++ reverse done) (reverse-more next later) ∙ append_assoc (reverse later) (next ∷ []) (reverse done) in
    ap (λ z. reverse z ++ before) are ∙ ap (λ z. z ++ before) turned ∙ append_assoc (reverse later) (next ∷ reverse done) before

behind-rounds : (done before : List Event) (n m k : NetState) → m ≡ after before n → k ≡ forward done m → k ≡ after (reverse done ++ before) n
behind-rounds done before n m k g is = is ∙ sym (after-reverse done m) ∙ ap (after (reverse done)) g ∙ sym (after-append (reverse done) before n)

unworn-behind : (done before : List Event) (n m : NetState) → m ≡ after before n → ComeUnworn done m → AreUnworn before n → AreUnworn (reverse done ++ before) n
unworn-behind done before n m g u v = unworn-append (reverse done) before n (subst (λ z. AreUnworn (reverse done) z) g (unworn-reverse done m u)) v

pub rounds-stop : (P : Event → NetState → Type 0) (n : NetState) (t u : SitesState) (i : ℕ) → GoesRounds n.layout n (net t) i
    → StopsAmong (from_each 0 (place_numbers n.layout) (place_numbers n.layout)) P t u → Stops n (net u)
rounds-stop P n t u i g w =
    let before = rounds n.layout 0 g.count in
    record {
      next = w.next;
      done = reverse w.done ++ before;
      comes = record { count = suc g.count; later = reverse w.later; are = turned-round (from_each 0 (place_numbers n.layout) (place_numbers n.layout)) w.done w.later before w.next w.are };
      is = behind-rounds w.done before n (net t) (net u) g.after w.is;
      unworn = unworn-behind w.done before n (net t) g.after w.unworn g.unworn;
    }

pub rounds-worn : (n : NetState) (t u : SitesState) (i clock : ℕ) → GoesRounds n.layout n (net t) i
    → StopsAmong (from_each 0 (place_numbers n.layout) (place_numbers n.layout)) (ComparesWorn clock) t u → IsWornIn clock n (net u)
rounds-worn n t u i clock g w =
    let before = rounds n.layout 0 g.count in
    record {
      next = w.next;
      done = reverse w.done ++ before;
      comes = record { count = suc g.count; later = reverse w.later; are = turned-round (from_each 0 (place_numbers n.layout) (place_numbers n.layout)) w.done w.later before w.next w.are };
      is = behind-rounds w.done before n (net t) (net u) g.after w.is;
      unworn = unworn-behind w.done before n (net t) g.after w.unworn g.unworn;
      compares = w.because.0;
      worn = w.because.1;
    }

-- The room that rounds use.

pub uses-delivery : (a b : ℕ) (s t : SitesState) → a ≢ b → UsesRoom (puts_in (Deliver 0 a b) (net s)) s.places t.places → UsesRoom (puts_forward (from_one 0 a (b ∷ [])) (net s)) s.places t.places
uses-delivery a b s t ne h =
    subst (λ es. UsesRoom (puts_forward es (net s)) s.places t.places) (sym (one-list a b (ne_eqb a b ne))) (uses-one (Deliver 0 a b) (net s) s.places t.places h)

pub uses-none : (s : SitesState) → RoundsUse s s
uses-none s = record { count = 0; is = refl; room = uses-self (λ p. 0) s.places }

-- one place more of a row, and one row more of a round
pub uses-row : (a n b i : ℕ) (s t u : SitesState) → b ≡ 1 + n → Goes (from_one 0 a (numbers n 1)) (net s) (net t) i → UsesRoom (puts_forward (from_one 0 a (numbers n 1)) (net s)) s.places t.places
    → UsesRoom (puts_forward (from_one 0 a (b ∷ [])) (net t)) t.places u.places → UsesRoom (puts_forward (from_one 0 a (numbers (suc n) 1)) (net s)) s.places u.places
uses-row a n b i s t u e g h k =
    subst (λ es. UsesRoom (puts_forward es (net s)) s.places u.places)
    (sym (one-append a (numbers n 1) (b ∷ [])) ∙ ap (λ x. from_one 0 a (numbers n 1 ++ x ∷ [])) e ∙ ap (from_one 0 a) (numbers-more n 1))
    (uses-forward (from_one 0 a (numbers n 1)) (from_one 0 a (b ∷ [])) (net s) (net t) s.places t.places u.places g.forward h k)

pub uses-round : (bs : List ℕ) (n a i : ℕ) (s t u : SitesState) → a ≡ 1 + n → Goes (from_each 0 (numbers n 1) bs) (net s) (net t) i → UsesRoom (puts_forward (from_each 0 (numbers n 1) bs) (net s)) s.places t.places
    → UsesRoom (puts_forward (from_one 0 a bs) (net t)) t.places u.places → UsesRoom (puts_forward (from_each 0 (numbers (suc n) 1) bs) (net s)) s.places u.places
uses-round bs n a i s t u e g h k =
    subst (λ es. UsesRoom (puts_forward es (net s)) s.places u.places)
    (ap (λ es. from_each 0 (numbers n 1) bs ++ es) (sym (append-nil (from_one 0 a bs))) ∙ sym (each-append (numbers n 1) (a ∷ []) bs)
    ∙ ap (λ x. from_each 0 (numbers n 1 ++ x ∷ []) bs) e ∙ ap (λ xs. from_each 0 xs bs) (numbers-more n 1))
    (uses-forward (from_each 0 (numbers n 1) bs) (from_one 0 a bs) (net s) (net t) s.places t.places u.places g.forward h k)

-- one round more
pub uses-rounds : (s t u : SitesState) (i : ℕ) → t.layout ≡ s.layout → RoundsUse s t → GoesRound s.layout (net t) (net u) i → UsesRoom (puts_of (round s.layout 0) (net t)) t.places u.places → RoundsUse s u
uses-rounds s t u i same g r h = record {
  count = suc g.count;
  is = r.after ∙ ap (after (round s.layout 0)) g.is ∙ sym (after-append (round s.layout 0) (draining s.layout g.count) (net s));
  room = uses-after (round s.layout 0) (draining s.layout g.count) (net s) (net t) s.places t.places u.places g.is g.room h;
}

-- so much is used when it ends, and when it stops
pub used-in-rounds : (s t : SitesState) → RoundsUse s t → UsesRoomInRounds s t
used-in-rounds s t g = record { count = g.count; later = []; done = draining s.layout g.count; are = refl; is = g.is; room = g.room }

pub used-to-a-stop : (P : Event → NetState → Type 0) (s t u : SitesState) → RoundsUse s t → StopsAmong (from_each 0 (place_numbers s.layout) (place_numbers s.layout)) P t u → UsesRoomInRounds s u
used-to-a-stop P s t u g w =
    let before = draining s.layout g.count in
    record {
      count = suc g.count;
      later = reverse w.later ++ w.next ∷ [];
      done = reverse w.done ++ before;
      are = turned-round (from_each 0 (place_numbers s.layout) (place_numbers s.layout)) w.done w.later before w.next w.are
          ∙ sym (append_assoc (reverse w.later) (w.next ∷ []) (reverse w.done ++ before));
      is = behind-rounds w.done before (net s) (net t) (net u) g.is w.is;
      room = uses-after (reverse w.done) before (net s) (net t) s.places t.places u.places g.is g.room (uses-reverse w.done (net t) t.places u.places w.room);
    }
