-- The packets that wait in all outboxes, as one list: by the place that put them, then by the place that they go to.
-- ls are the lists of one outbox, by place; lss those of all outboxes; a is the number of the place at i, b that of a list.
use Rattle.std.proofs.Common.{ℕ, zero, suc, ◌≡◌, ◌+◌, ◌<◌, ◌==◌, nat_lt, true, false, ◌&&◌, cond, List, [], ◌∷◌, ◌++◌, length, drop, get_or, set, Some, None, slice_get, refl, sym, ◌∙◌, ap, subst, arith, append_assoc}
use Rattle.std.specs.List.{All}
use Rattle.std.proofs.lemmas.Bool.{lt-ltb, le-ltb, eq-eqb, ne_eqb, and_left, and_right, and_from, or_from, or_left, or_right}
use Rattle.std.proofs.lemmas.List.{set-get_or, set-set, get_or-set_same, length-set}
use Rattle.std.proofs.lemmas.List.Elements.{All-nil, All-cons, All-head, All-tail, All-append}
use Rattle.chorus_entry.specs.declared.packet.Packet.{Packet}
use Rattle.place_outbox.specs.Waiting.{list_to, with_last, with_first, without_first, count}
use Rattle.law_machine.specs.declared.outgoing.Outgoing.{Outgoing}
use Rattle.law_network.specs.Packets.{is_link, is_link_before, put, put_all, first_on, rest_on}
use Rattle.chorus_place.specs.PlaceTables.Sending.{with_all}
use Rattle.chorus_net.specs.Sites.{to_place, waiting_from, waiting_in, AreFrom, AllFrom}

-- The pair of places of a packet stands before the pair (a, b), or behind it.

pub data IsLow (a b : ℕ) (o : Outgoing) : Type 0 where
  from_before : o.packet.from < a → IsLow a b o
  to_before : o.packet.from ≡ a → o.to < b → IsLow a b o

pub data IsHigh (a b : ℕ) (o : Outgoing) : Type 0 where
  from_behind : a < o.packet.from → IsHigh a b o
  to_behind : a ≡ o.packet.from → b < o.to → IsHigh a b o

low-link : (a b : ℕ) (o : Outgoing) → IsLow a b o → is_link a b o ≡ false
low-link a b o (from_before l) = and_left (o.packet.from == a) (o.to == b) (ne_eqb o.packet.from a (λ e. omega (arith, l, e)))
low-link a b o (to_before e l) = and_right (o.packet.from == a) (o.to == b) (ne_eqb o.to b (λ f. omega (arith, l, f)))

high-link : (a b : ℕ) (o : Outgoing) → IsHigh a b o → is_link a b o ≡ false
high-link a b o (from_behind l) = and_left (o.packet.from == a) (o.to == b) (ne_eqb o.packet.from a (λ e. omega (arith, l, e)))
high-link a b o (to_behind e l) = and_right (o.packet.from == a) (o.to == b) (ne_eqb o.to b (λ f. omega (arith, l, f)))

-- the packet o goes from a to b
low-before : (a b : ℕ) (o u : Outgoing) → o.packet.from ≡ a → o.to ≡ b → IsLow a b u → is_link_before o u ≡ false
low-before a b o u e f (from_before l) =
    or_from (nat_lt o.packet.from u.packet.from) ((o.packet.from == u.packet.from) && nat_lt o.to u.to)
    (le-ltb o.packet.from u.packet.from (omega (arith, l, e)))
    (and_left (o.packet.from == u.packet.from) (nat_lt o.to u.to) (ne_eqb o.packet.from u.packet.from (λ g. omega (arith, l, e, g))))
low-before a b o u e f (to_before g l) =
    or_from (nat_lt o.packet.from u.packet.from) ((o.packet.from == u.packet.from) && nat_lt o.to u.to)
    (le-ltb o.packet.from u.packet.from (omega (arith, e, g)))
    (and_right (o.packet.from == u.packet.from) (nat_lt o.to u.to) (le-ltb o.to u.to (omega (arith, l, f))))

high-before : (a b : ℕ) (o u : Outgoing) → o.packet.from ≡ a → o.to ≡ b → IsHigh a b u → is_link_before o u ≡ true
high-before a b o u e f (from_behind l) =
    or_left (nat_lt o.packet.from u.packet.from) ((o.packet.from == u.packet.from) && nat_lt o.to u.to)
    (lt-ltb o.packet.from u.packet.from (omega (arith, l, e)))
high-before a b o u e f (to_behind g l) =
    or_right (nat_lt o.packet.from u.packet.from) ((o.packet.from == u.packet.from) && nat_lt o.to u.to)
    (and_from (o.packet.from == u.packet.from) (nat_lt o.to u.to) (eq-eqb o.packet.from u.packet.from (e ∙ g)) (lt-ltb o.to u.to (omega (arith, l, f))))

link-here : (a b : ℕ) (o : Outgoing) → o.packet.from ≡ a → o.to ≡ b → is_link a b o ≡ true
link-here a b o e f = and_from (o.packet.from == a) (o.to == b) (eq-eqb o.packet.from a e) (eq-eqb o.to b f)

before-here : (a b : ℕ) (o u : Outgoing) → o.packet.from ≡ a → o.to ≡ b → u.packet.from ≡ a → u.to ≡ b → is_link_before o u ≡ false
before-here a b o u e f g h =
    or_from (nat_lt o.packet.from u.packet.from) ((o.packet.from == u.packet.from) && nat_lt o.to u.to)
    (le-ltb o.packet.from u.packet.from (omega (arith, e, g)))
    (and_right (o.packet.from == u.packet.from) (nat_lt o.to u.to) (le-ltb o.to u.to (omega (arith, f, h))))

-- The first packet from a to b, the list without it, and the list with one more, where the packets of this pair stand together.

first-high : (a b : ℕ) (us : List Outgoing) → All (IsHigh a b) us → first_on a b us ≡ None
first-high a b [] h = refl
first-high a b (u ∷ us) h =
    ap (λ c. cond c (Some u.packet) (first_on a b us)) (high-link a b u (All-head (IsHigh a b) u us h)) ∙ first-high a b us (All-tail (IsHigh a b) u us h)

first-here : (a b : ℕ) (l : List Packet) (us : List Outgoing) → AreFrom a l → All (IsHigh a b) us → first_on a b (to_place b l ++ us) ≡ slice_get l 0
first-here a b [] us f h = first-high a b us h
first-here a b (x ∷ l) us f h = ap (λ c. cond c (Some x) (first_on a b (to_place b l ++ us))) (link-here a b (record { to = b; packet = x }) f.0 refl)

pub first-at : (a b : ℕ) (low : List Outgoing) (l : List Packet) (us : List Outgoing) → All (IsLow a b) low → AreFrom a l → All (IsHigh a b) us
    → first_on a b (low ++ (to_place b l ++ us)) ≡ slice_get l 0
first-at a b [] l us g f h = first-here a b l us f h
first-at a b (o ∷ low) l us g f h =
    ap (λ c. cond c (Some o.packet) (first_on a b (low ++ (to_place b l ++ us)))) (low-link a b o (All-head (IsLow a b) o low g))
    ∙ first-at a b low l us (All-tail (IsLow a b) o low g) f h

rest-high : (a b : ℕ) (us : List Outgoing) → All (IsHigh a b) us → rest_on a b us ≡ us
rest-high a b [] h = refl
rest-high a b (u ∷ us) h =
    ap (λ c. cond c us (u ∷ rest_on a b us)) (high-link a b u (All-head (IsHigh a b) u us h)) ∙ ap (λ vs. u ∷ vs) (rest-high a b us (All-tail (IsHigh a b) u us h))

rest-here : (a b : ℕ) (l : List Packet) (us : List Outgoing) → AreFrom a l → All (IsHigh a b) us → rest_on a b (to_place b l ++ us) ≡ to_place b (drop 1 l) ++ us
rest-here a b [] us f h = rest-high a b us h
rest-here a b (x ∷ l) us f h =
    ap (λ c. cond c (to_place b l ++ us) (record { to = b; packet = x } ∷ rest_on a b (to_place b l ++ us))) (link-here a b (record { to = b; packet = x }) f.0 refl)

pub rest-at : (a b : ℕ) (low : List Outgoing) (l : List Packet) (us : List Outgoing) → All (IsLow a b) low → AreFrom a l → All (IsHigh a b) us
    → rest_on a b (low ++ (to_place b l ++ us)) ≡ low ++ (to_place b (drop 1 l) ++ us)
rest-at a b [] l us g f h = rest-here a b l us f h
rest-at a b (o ∷ low) l us g f h =
    ap (λ c. cond c (low ++ (to_place b l ++ us)) (o ∷ rest_on a b (low ++ (to_place b l ++ us)))) (low-link a b o (All-head (IsLow a b) o low g))
    ∙ ap (λ vs. o ∷ vs) (rest-at a b low l us (All-tail (IsLow a b) o low g) f h)

put-high : (a b : ℕ) (o : Outgoing) (us : List Outgoing) → o.packet.from ≡ a → o.to ≡ b → All (IsHigh a b) us → put o us ≡ o ∷ us
put-high a b o [] e f h = refl
put-high a b o (u ∷ us) e f h = ap (λ c. cond c (o ∷ u ∷ us) (u ∷ put o us)) (high-before a b o u e f (All-head (IsHigh a b) u us h))

same-outgoing : (b : ℕ) (o : Outgoing) → o.to ≡ b → ◌≡◌ {A = Outgoing} o (record { to = b; packet = o.packet })
same-outgoing b o f = λ i. record { to = f i; packet = o.packet }

put-here : (a b : ℕ) (o : Outgoing) (l : List Packet) (us : List Outgoing) → o.packet.from ≡ a → o.to ≡ b → AreFrom a l → All (IsHigh a b) us
    → put o (to_place b l ++ us) ≡ to_place b (l ++ o.packet ∷ []) ++ us
put-here a b o [] us e f g h = put-high a b o us e f h ∙ ap (λ u. u ∷ us) (same-outgoing b o f)
put-here a b o (x ∷ l) us e f g h =
    ap (λ c. cond c (o ∷ record { to = b; packet = x } ∷ (to_place b l ++ us)) (record { to = b; packet = x } ∷ put o (to_place b l ++ us)))
    (before-here a b o (record { to = b; packet = x }) e f g.0 refl)
    ∙ ap (λ vs. record { to = b; packet = x } ∷ vs) (put-here a b o l us e f g.1 h)

pub put-at : (a b : ℕ) (o : Outgoing) (low : List Outgoing) (l : List Packet) (us : List Outgoing) → o.packet.from ≡ a → o.to ≡ b
    → All (IsLow a b) low → AreFrom a l → All (IsHigh a b) us → put o (low ++ (to_place b l ++ us)) ≡ low ++ (to_place b (l ++ o.packet ∷ []) ++ us)
put-at a b o [] l us e f k g h = put-here a b o l us e f g h
put-at a b o (u ∷ low) l us e f k g h =
    ap (λ c. cond c (o ∷ u ∷ (low ++ (to_place b l ++ us))) (u ∷ put o (low ++ (to_place b l ++ us)))) (low-before a b o u e f (All-head (IsLow a b) u low k))
    ∙ ap (λ vs. u ∷ vs) (put-at a b o low l us e f (All-tail (IsLow a b) u low k) g h)

-- The packets before and behind those of one list.

-- of one outbox, whose list at j is that of the place b
record InBox (a b j q : ℕ) (ls : List (List Packet)) : Type 0 where
  low : List Outgoing
  high : List Outgoing
  are_low : All (IsLow a b) low
  are_high : All (IsHigh a b) high
  changed : (l : List Packet) → waiting_from q (set ls j l) ≡ low ++ (to_place b l ++ high)

to-low : (a b q : ℕ) (l : List Packet) → AreFrom a l → q < b → All (IsLow a b) (to_place q l)
to-low a b q [] f lt = All-nil (IsLow a b)
to-low a b q (x ∷ l) f lt = All-cons (IsLow a b) (record { to = q; packet = x }) (to_place q l) (to_before f.0 lt) (to-low a b q l f.1 lt)

to-high : (a b q : ℕ) (l : List Packet) → AreFrom a l → b < q → All (IsHigh a b) (to_place q l)
to-high a b q [] f lt = All-nil (IsHigh a b)
to-high a b q (x ∷ l) f lt = All-cons (IsHigh a b) (record { to = q; packet = x }) (to_place q l) (to_behind (sym f.0) lt) (to-high a b q l f.1 lt)

lists-high : (a b q : ℕ) (ls : List (List Packet)) → AllFrom a ls → b < q → All (IsHigh a b) (waiting_from q ls)
lists-high a b q [] f lt = All-nil (IsHigh a b)
lists-high a b q (l ∷ ls) f lt =
    All-append (IsHigh a b) (to_place q l) (waiting_from (q + 1) ls) (to-high a b q l f.0 lt) (lists-high a b (q + 1) ls f.1 (omega (arith, lt)))

in-box : (a b j q : ℕ) (ls : List (List Packet)) → AllFrom a ls → j < length ls → b ≡ q + j → InBox a b j q ls
in-box a b j q [] f l e = absurd (omega (arith, l))
in-box a b zero q (k ∷ ls) f l e = record {
  low = [];
  high = waiting_from (q + 1) ls;
  are_low = All-nil (IsLow a b);
  are_high = lists-high a b (q + 1) ls f.1 (omega (arith, e));
  changed = λ m. (let same : q ≡ b = omega (arith, e) in ap (λ p. to_place p m ++ waiting_from (q + 1) ls) same);
}
in-box a b (suc j) q (k ∷ ls) f l e =
    let rest = in-box a b j (q + 1) ls f.1 (omega (arith, l)) (omega (arith, e)) in
    record {
      low = to_place q k ++ rest.low;
      high = rest.high;
      are_low = All-append (IsLow a b) (to_place q k) rest.low (to-low a b q k f.0 (omega (arith, e))) rest.are_low;
      are_high = rest.are_high;
      changed = λ m. ap (λ vs. to_place q k ++ vs) (rest.changed m) ∙ sym (append_assoc (to_place q k) rest.low (to_place b m ++ rest.high));
    }

-- the outboxes of the places from the number k on, with so many lists each
abbrev pub AreBoxes : ℕ → ℕ → List (List (List Packet)) → Type 0
AreBoxes m k [] = Unit {0}
AreBoxes m k (ls ∷ lss) = (length ls ≡ m) × AllFrom k ls × AreBoxes m (k + 1) lss

-- of all outboxes
pub record At (a b i : ℕ) (lss : List (List (List Packet))) : Type 0 where
  pub low : List Outgoing
  pub high : List Outgoing
  pub are_low : All (IsLow a b) low
  pub are_high : All (IsHigh a b) high
  pub changed : (l : List Packet) → waiting_in (set lss i (set (get_or lss i []) b l)) ≡ low ++ (to_place b l ++ high)

from-low : (a b k q : ℕ) (ls : List (List Packet)) → AllFrom k ls → k < a → All (IsLow a b) (waiting_from q ls)
from-low a b k q [] f lt = All-nil (IsLow a b)
from-low a b k q (l ∷ ls) f lt = All-append (IsLow a b) (to_place q l) (waiting_from (q + 1) ls) (one l f.0) (from-low a b k (q + 1) ls f.1 lt)
  where
    one : (l : List Packet) → AreFrom k l → All (IsLow a b) (to_place q l)
    one [] g = All-nil (IsLow a b)
    one (x ∷ l) g = All-cons (IsLow a b) (record { to = q; packet = x }) (to_place q l) (from_before (let e = g.0 in omega (arith, e, lt))) (one l g.1)

from-high : (a b k q : ℕ) (ls : List (List Packet)) → AllFrom k ls → a < k → All (IsHigh a b) (waiting_from q ls)
from-high a b k q [] f lt = All-nil (IsHigh a b)
from-high a b k q (l ∷ ls) f lt = All-append (IsHigh a b) (to_place q l) (waiting_from (q + 1) ls) (one l f.0) (from-high a b k (q + 1) ls f.1 lt)
  where
    one : (l : List Packet) → AreFrom k l → All (IsHigh a b) (to_place q l)
    one [] g = All-nil (IsHigh a b)
    one (x ∷ l) g = All-cons (IsHigh a b) (record { to = q; packet = x }) (to_place q l) (from_behind (let e = g.0 in omega (arith, e, lt))) (one l g.1)

boxes-high : (a b m k : ℕ) (lss : List (List (List Packet))) → AreBoxes m k lss → a < k → All (IsHigh a b) (waiting_in lss)
boxes-high a b m k [] h lt = All-nil (IsHigh a b)
boxes-high a b m k (ls ∷ lss) h lt =
    All-append (IsHigh a b) (waiting_from 0 ls) (waiting_in lss) (from-high a b k 0 ls h.1 lt) (boxes-high a b m (k + 1) lss h.2 (omega (arith, lt)))

pub at : (a b i m k : ℕ) (lss : List (List (List Packet))) → AreBoxes m k lss → i < length lss → a ≡ k + i → b < m → At a b i lss
at a b i m k [] h l e lt = absurd (omega (arith, l))
at a b zero m k (ls ∷ lss) h l e lt =
    let same : k ≡ a = omega (arith, e) in
    let here = in-box a b b 0 ls (subst (λ p. AllFrom p ls) same h.1) (let n = h.0 in omega (arith, n, lt)) (omega arith) in
    record {
      low = here.low;
      high = here.high ++ waiting_in lss;
      are_low = here.are_low;
      are_high = All-append (IsHigh a b) here.high (waiting_in lss) here.are_high (boxes-high a b m (k + 1) lss h.2 (omega (arith, e)));
      changed = λ p.
          ap (λ vs. vs ++ waiting_in lss) (here.changed p)
          ∙ append_assoc here.low (to_place b p ++ here.high) (waiting_in lss)
          ∙ ap (λ vs. here.low ++ vs) (append_assoc (to_place b p) here.high (waiting_in lss));
    }
at a b (suc i) m k (ls ∷ lss) h l e lt =
    let rest = at a b i m (k + 1) lss h.2 (omega (arith, l)) (omega (arith, e)) lt in
    record {
      low = waiting_from 0 ls ++ rest.low;
      high = rest.high;
      are_low = All-append (IsLow a b) (waiting_from 0 ls) rest.low (from-low a b k 0 ls h.1 (omega (arith, e))) rest.are_low;
      are_high = rest.are_high;
      changed = λ p. ap (λ vs. waiting_from 0 ls ++ vs) (rest.changed p) ∙ sym (append_assoc (waiting_from 0 ls) rest.low (to_place b p ++ rest.high));
    }

-- What holds of the list at a place.

pub list-from : (a b : ℕ) (ls : List (List Packet)) → AllFrom a ls → AreFrom a (list_to b ls)
list-from a b [] f = tt
list-from a zero (l ∷ ls) f = f.0
list-from a (suc b) (l ∷ ls) f = list-from a b ls f.1

pub box-at : (i m k : ℕ) (lss : List (List (List Packet))) → AreBoxes m k lss → i < length lss → (length (get_or lss i []) ≡ m) × AllFrom (k + i) (get_or lss i [])
box-at i m k [] h l = absurd (omega (arith, l))
box-at zero m k (ls ∷ lss) h l = (h.0, (let e : k ≡ k + 0 = omega arith in subst (λ p. AllFrom p ls) e h.1))
box-at (suc i) m k (ls ∷ lss) h l =
    let rest = box-at i m (k + 1) lss h.2 (omega (arith, l)) in
    (rest.0, (let e : (k + 1) + i ≡ k + suc i = omega arith in subst (λ p. AllFrom p (get_or lss i [])) e rest.1))

pub boxes-set : (i m k : ℕ) (ls : List (List Packet)) (lss : List (List (List Packet))) → AreBoxes m k lss → length ls ≡ m → AllFrom (k + i) ls → AreBoxes m k (set lss i ls)
boxes-set i m k ls [] h n f = tt
boxes-set zero m k ls (ks ∷ lss) h n f = (n, (let e : k + 0 ≡ k = omega arith in subst (λ p. AllFrom p ls) e f), h.2)
boxes-set (suc i) m k ls (ks ∷ lss) h n f =
    (h.0, h.1, boxes-set i m (k + 1) ls lss h.2 n (let e : k + suc i ≡ (k + 1) + i = omega arith in subst (λ p. AllFrom p ls) e f))

pub from-set : (a b : ℕ) (l : List Packet) (ls : List (List Packet)) → AllFrom a ls → AreFrom a l → AllFrom a (set ls b l)
from-set a b l [] f g = tt
from-set a zero l (k ∷ ls) f g = (g, f.1)
from-set a (suc b) l (k ∷ ls) f g = (f.0, from-set a b l ls f.1 g)

pub from-last : (a : ℕ) (x : Packet) (l : List Packet) → AreFrom a l → x.from ≡ a → AreFrom a (l ++ x ∷ [])
from-last a x [] f e = (e, tt)
from-last a x (y ∷ l) f e = (f.0, from-last a x l f.1 e)

pub from-drop : (a : ℕ) (l : List Packet) → AreFrom a l → AreFrom a (drop 1 l)
from-drop a [] f = tt
from-drop a (x ∷ l) f = f.1

-- The network's words, by the outboxes.

module _ (a b i m k : ℕ) (lss : List (List (List Packet))) (h : AreBoxes m k lss) (l : i < length lss) (e : a ≡ k + i) (lt : b < m) where
  here : List (List Packet)
  here = get_or lss i []

  all-from : AllFrom a (get_or lss i [])
  all-from = subst (λ p. AllFrom p (get_or lss i [])) (sym e) (box-at i m k lss h l).1

  list : List Packet
  list = list_to b (get_or lss i [])

  pub split : At a b i lss
  split = at a b i m k lss h l e lt

  -- as it is
  pub whole : waiting_in lss ≡ (at a b i m k lss h l e lt).low ++ (to_place b (list_to b (get_or lss i [])) ++ (at a b i m k lss h l e lt).high)
  whole =
      let s = at a b i m k lss h l e lt in
      ap waiting_in (sym (set-get_or lss i []) ∙ ap (set lss i) (sym (set-get_or (get_or lss i []) b []))) ∙ s.changed (list_to b (get_or lss i []))

  pub first-is : first_on a b (waiting_in lss) ≡ slice_get (list_to b (get_or lss i [])) 0
  first-is =
      let s = at a b i m k lss h l e lt in
      ap (first_on a b) whole ∙ first-at a b s.low (list_to b (get_or lss i [])) s.high s.are_low (list-from a b (get_or lss i []) all-from) s.are_high

  pub rest-is : rest_on a b (waiting_in lss) ≡ waiting_in (set lss i (without_first b (get_or lss i [])))
  rest-is =
      let s = at a b i m k lss h l e lt in
      ap (rest_on a b) whole ∙ rest-at a b s.low (list_to b (get_or lss i [])) s.high s.are_low (list-from a b (get_or lss i []) all-from) s.are_high
      ∙ sym (s.changed (drop 1 (list_to b (get_or lss i []))))

  pub put-is : (o : Outgoing) → o.packet.from ≡ a → o.to ≡ b → put o (waiting_in lss) ≡ waiting_in (set lss i (with_last b o.packet (get_or lss i [])))
  put-is o f g =
      let s = at a b i m k lss h l e lt in
      ap (put o) whole ∙ put-at a b o s.low (list_to b (get_or lss i [])) s.high f g s.are_low (list-from a b (get_or lss i []) all-from) s.are_high
      ∙ sym (s.changed (list_to b (get_or lss i []) ++ o.packet ∷ []))

-- with a packet that was taken out put back, the lists are as they were
pub put-back-is : (b : ℕ) (x : Packet) (ls : List (List Packet)) → slice_get (list_to b ls) 0 ≡ Some x → with_first b x (without_first b ls) ≡ ls
put-back-is b x [] h = absurd (cc)
put-back-is zero x (l ∷ ls) h = ap (λ k. k ∷ ls) (one l h)
  where
    one : (l : List Packet) → slice_get l 0 ≡ Some x → x ∷ drop 1 l ≡ l
    one [] h = absurd (cc)
    one (y ∷ l) h = (let same : y ≡ x = cc in ap (λ z. z ∷ l) (sym same))
put-back-is (suc b) x (l ∷ ls) h = ap (λ ks. l ∷ ks) (put-back-is b x ls h)

-- a packet that is put: from the place a, to one of the others
pub record IsPut (a m : ℕ) (o : Outgoing) : Type 0 where
  pub from : o.packet.from ≡ a
  pub to : o.to < m

pub put-all-is : (os : List Outgoing) (a i m k : ℕ) (lss : List (List (List Packet))) → AreBoxes m k lss → i < length lss → a ≡ k + i → All (IsPut a m) os
    → put_all os (waiting_in lss) ≡ waiting_in (set lss i (with_all os (get_or lss i [])))
put-all-is [] a i m k lss h l e p = ap waiting_in (sym (set-get_or lss i []))
put-all-is (o ∷ os) a i m k lss h l e p =
    let one = All-head (IsPut a m) o os p in
    let box = box-at i m k lss h l in
    let from : AllFrom a (get_or lss i []) = subst (λ q. AllFrom q (get_or lss i [])) (sym e) box.1 in
    let new = with_last o.to o.packet (get_or lss i []) in
    let new_from : AllFrom a (with_last o.to o.packet (get_or lss i [])) =
    from-set a o.to (list_to o.to (get_or lss i []) ++ o.packet ∷ []) (get_or lss i []) from (from-last a o.packet (list_to o.to (get_or lss i [])) (list-from a o.to (get_or lss i []) from) one.from) in
    let next : AreBoxes m k (set lss i (with_last o.to o.packet (get_or lss i []))) =
    boxes-set i m k (with_last o.to o.packet (get_or lss i [])) lss h (length-set (get_or lss i []) o.to _ ∙ box.0) (subst (λ q. AllFrom q (with_last o.to o.packet (get_or lss i []))) e new_from) in
    let l' : i < length (set lss i (with_last o.to o.packet (get_or lss i []))) = (let n = length-set lss i (with_last o.to o.packet (get_or lss i [])) in omega (arith, n, l)) in
    ap (put_all os) (put-is a o.to i m k lss h l e one.to o one.from refl)
    ∙ put-all-is os a i m k (set lss i (with_last o.to o.packet (get_or lss i []))) next l' e (All-tail (IsPut a m) o os p)
    ∙ ap (λ ls. waiting_in (set (set lss i (with_last o.to o.packet (get_or lss i []))) i (with_all os ls))) (get_or-set_same lss i (with_last o.to o.packet (get_or lss i [])) [] l)
    ∙ ap waiting_in (set-set lss i (with_last o.to o.packet (get_or lss i [])) (with_all os (with_last o.to o.packet (get_or lss i []))))

pub with-all-keeps : (os : List Outgoing) (a m : ℕ) (ls : List (List Packet)) → All (IsPut a m) os → AllFrom a ls → (length (with_all os ls) ≡ length ls) × AllFrom a (with_all os ls)
with-all-keeps [] a m ls p f = (refl, f)
with-all-keeps (o ∷ os) a m ls p f =
    let one = All-head (IsPut a m) o os p in
    let new = from-set a o.to (list_to o.to ls ++ o.packet ∷ []) ls f (from-last a o.packet (list_to o.to ls) (list-from a o.to ls f) one.from) in
    let rest = with-all-keeps os a m (with_last o.to o.packet ls) (All-tail (IsPut a m) o os p) new in
    (rest.0 ∙ length-set ls o.to _, rest.1)

pub without-keeps : (a b : ℕ) (ls : List (List Packet)) → AllFrom a ls → (length (without_first b ls) ≡ length ls) × AllFrom a (without_first b ls)
without-keeps a b ls f = (length-set ls b _, from-set a b (drop 1 (list_to b ls)) ls f (from-drop a (list_to b ls) (list-from a b ls f)))

-- where none waits there is no first packet
pub none-first : (b : ℕ) (ls : List (List Packet)) → count ls ≡ 0 → slice_get (list_to b ls) 0 ≡ None
none-first b [] h = refl
none-first zero ([] ∷ ls) h = refl
none-first zero ((x ∷ l) ∷ ls) h = absurd (omega (arith, h))
none-first (suc b) (l ∷ ls) h = none-first b ls (omega (arith, h))
