-- Where turns put packets, and what their counts tell of what is left.
use Rattle.std.proofs.Common.{ℕ, zero, suc, ◌≡◌, ◌+◌, ◌<◌, ◌≤◌, ◌==◌, ◌⊎◌, nat_le, Bool, true, false, ◌&&◌, not, cond, List, [], ◌∷◌, ◌++◌, map, length, refl, sym, ◌∙◌, ap, inl, inr, arith}
use Rattle.std.specs.List.{All, filter}
use Rattle.std.proofs.lemmas.Bool.{and_parts, leb-true, eqb-true, eq-eqb, cases_Bool, cases_lt, false≢true}
use Rattle.std.proofs.lemmas.List.Elements.{All-nil, All-cons, All-head, All-tail, All-weaker}
use Rattle.chorus_ui.specs.declared.layout.Layout.{Layout}
use Rattle.chorus_ui.specs.Layout as layout
use Rattle.chorus_ui.specs.Layout.{IsLayout, has_place}
use Rattle.chorus_entry.specs.declared.command.Command.{Command}
use Rattle.chorus_entry.specs.declared.packet.Packet.{Packet}
use Rattle.chorus_calls.specs.Callers.{Seated}
use Rattle.law_machine.specs.declared.outgoing.Outgoing.{Outgoing}
use Rattle.law_machine.specs.PlaceState.{PlaceState}
use Rattle.law_network.specs.Packets.{is_link}
use Rattle.law_network.specs.Network.{NetState, schedule}
use Rattle.law_network.specs.ByPlace.{IsBetweenPlaces}
use Rattle.law_network.proofs.Holdings.Passing.{packets-lie-between}
use Rattle.law_history.specs.Turns.{Input, Sent, puts_to, packet_from, put_to, got_from}
use Rattle.law_history.specs.Network.{Network}
use Rattle.law_history.specs.Histories.{Takes}
use Rattle.law_history.specs.PlaceTurns.{turn, may_take, may_come, machine, brings_entry, is_other}
use Rattle.law_history.specs.Journals.{PlaceTurn, Comer, AreHistories, IsTheirSchedule, events, at_start}
use Rattle.law_history.specs.Counts.{total, put_count, got_count, IsBelow, IsFromBelow}
use Rattle.law_history.specs.Places.{PutsForOthers, TurnsPutForOthers, all_put, all_got, CountsTellWhatIsLeft}
use Rattle.law_history.proofs.Counts.{nothing_left, no-more-got}
use Rattle.law_history.proofs.Scheduled.{journals-are-a-schedule}
use Rattle.law_history.proofs.Listed.{none-own}

-- Lists of packets.

front-nil : {X : Type 0} (xs ys : List X) → xs ++ ys ≡ [] → xs ≡ []
front-nil [] ys h = refl
front-nil (x ∷ xs) ys h = absurd (let n : length (x ∷ (xs ++ ys)) ≡ 0 = ap length h in omega (arith, n))

back-nil : {X : Type 0} (xs ys : List X) → xs ++ ys ≡ [] → ys ≡ []
back-nil [] ys h = h
back-nil (x ∷ xs) ys h = absurd (let n : length (x ∷ (xs ++ ys)) ≡ 0 = ap length h in omega (arith, n))

-- no packet of a network goes to a place that the layout does not have
none-elsewhere : (l : Layout) (a b : ℕ) (os : List Outgoing) → All (IsBetweenPlaces l) os → has_place l b ≡ false → filter (is_link a b) os ≡ []
none-elsewhere l a b [] h none = refl
none-elsewhere l a b (o ∷ os) h none =
    elim (cases_Bool (is_link a b o)) [
      | inl on ↦
          (let to = (and_parts (o.packet.from == a) (o.to == b) on).1 in
          let has : has_place l o.to ≡ true = (All-head (IsBetweenPlaces l) o os h).has_to in
          absurd (false≢true (sym none ∙ ap (has_place l) (sym (eqb-true o.to b to)) ∙ has)))
      | inr off ↦
          ap (λ c. cond c (o ∷ filter (is_link a b) os) (filter (is_link a b) os)) off ∙ none-elsewhere l a b os (All-tail (IsBetweenPlaces l) o os h) none
    ]

-- where nothing is put for a place that fails the test, all is put for places that pass it
only-to : (f : ℕ → Bool) (ss : List (Sent Packet)) → ((b : ℕ) → f b ≡ false → puts_to b ss ≡ []) → All (λ (s : Sent Packet). f s.to ≡ true) ss
only-to f [] h = All-nil (λ (s : Sent Packet). f s.to ≡ true)
only-to f (s ∷ ss) h =
    All-cons (λ (s : Sent Packet). f s.to ≡ true) s ss (first (f s.to) refl) (only-to f ss (λ b off. rest b (s.to == b) (h b off)))
  where
    rest : (b : ℕ) (c : Bool) → cond c (s.packet ∷ puts_to b ss) (puts_to b ss) ≡ [] → puts_to b ss ≡ []
    rest b true h = absurd (let n : length (s.packet ∷ puts_to b ss) ≡ 0 = ap length h in omega (arith, n))
    rest b false h = h

    first : (c : Bool) → f s.to ≡ c → f s.to ≡ true
    first true e = e
    first false e = absurd (
        let here : s.packet ∷ puts_to s.to ss ≡ [] = sym (ap (λ c. cond c (s.packet ∷ puts_to s.to ss) (puts_to s.to ss)) (eq-eqb s.to s.to refl)) ∙ h s.to e in
        let n : length (s.packet ∷ puts_to s.to ss) ≡ 0 = ap length here in omega (arith, n))

-- Places of the layout.

place-below : (l : Layout) (p : ℕ) → has_place l p ≡ true → p < layout.places l + 1
place-below l p h = (let two = and_parts (nat_le 1 p) (nat_le p (layout.places l)) h in let le = leb-true p (layout.places l) two.1 in omega (arith, le))

place-beyond : (l : Layout) (p : ℕ) → layout.places l + 1 ≤ p → has_place l p ≡ false
place-beyond l p le =
    elim (cases_Bool (has_place l p)) [
      | inl on ↦ absurd (let lt = place-below l p on in omega (arith, lt, le))
      | inr off ↦ off
    ]

-- what is no other place is not of the layout, or is the place itself
no-other : (l : Layout) (p b : ℕ) → is_other l p b ≡ false → (has_place l b ≡ false) ⊎ (b ≡ p)
no-other l p b h = by (has_place l b) (b == p) refl refl h
  where
    by : (c d : Bool) → has_place l b ≡ c → (b == p) ≡ d → c && not d ≡ false → (has_place l b ≡ false) ⊎ (b ≡ p)
    by false d e i h = inl e
    by true true e i h = inr (eqb-true b p i)
    by true false e i h = absurd (false≢true (sym h))

-- Turns.

-- a packet comes from another place of the layout
from-other : (l : Layout) (p a : ℕ) (k : Packet) (s : PlaceState) (w : Seated) → may_take l p (Input.Packet a k) s w ≡ true → is_other l p a ≡ true
from-other l p a k s w may =
    (let come = (and_parts (has_place l p) (may_come l p (Input.Packet a k) w) may).1 in (and_parts (is_other l p a) (brings_entry k.cargo) come).0)

none-of-own : (l : Layout) (p : ℕ) (i : Input Command Packet) (s : PlaceState) (w : Seated) → may_take l p i s w ≡ true → packet_from p i ≡ []
none-of-own l p (Input.Command c) s w may = refl
none-of-own l p (Input.Packet a k) s w may = by (a == p) (and_parts (has_place l a) (not (a == p)) (from-other l p a k s w may)).1
  where
    by : (c : Bool) → not c ≡ true → cond c (k ∷ []) [] ≡ []
    by true h = absurd (false≢true h)
    by false h = refl

got-of-own : (l : Layout) (p : ℕ) (x y : PlaceState) (ts : List PlaceTurn) → Takes (machine l) p x ts y → got_from p ts ≡ []
got-of-own l p x y [] h = refl
got-of-own l p x y (t ∷ ts) h =
    ap (λ ks. ks ++ got_from p ts) (none-of-own l p t.input x t.before h.0.may) ∙ got-of-own l p (turn t.input x t.before).place y ts h.1

-- no turn is taken at a place that the layout does not have
takes-none : (l : Layout) (p : ℕ) (x y : PlaceState) (ts : List PlaceTurn) → has_place l p ≡ false → Takes (machine l) p x ts y → ts ≡ []
takes-none l p x y [] none h = refl
takes-none l p x y (t ∷ ts) none h =
    absurd (false≢true (sym none ∙ (and_parts (has_place l p) (may_come l p t.input t.before) h.0.may).0))

put-for-others : (l : Layout) (p : ℕ) (ts : List PlaceTurn) → ((b : ℕ) → is_other l p b ≡ false → put_to b ts ≡ []) → All (PutsForOthers l p) ts
put-for-others l p [] none = All-nil (PutsForOthers l p)
put-for-others l p (t ∷ ts) none =
    All-cons (PutsForOthers l p) t ts (only-to (is_other l p) t.puts (λ b off. front-nil (puts_to b t.puts) (put_to b ts) (none b off)))
    (put-for-others l p ts (λ b off. back-nil (puts_to b t.puts) (put_to b ts) (none b off)))

from-below : (l : Layout) (p : ℕ) (i : Input Command Packet) (s : PlaceState) (w : Seated) → may_take l p i s w ≡ true → IsFromBelow (layout.places l + 1) i
from-below l p (Input.Command c) s w may = tt
from-below l p (Input.Packet a k) s w may = place-below l a (and_parts (has_place l a) (not (a == p)) (from-other l p a k s w may)).0

are-below : (l : Layout) (p : ℕ) (x y : PlaceState) (ts : List PlaceTurn) → Takes (machine l) p x ts y → All (PutsForOthers l p) ts → All (IsBelow (layout.places l + 1)) ts
are-below l p x y [] h puts = All-nil (IsBelow (layout.places l + 1))
are-below l p x y (t ∷ ts) h puts =
    All-cons (IsBelow (layout.places l + 1)) t ts (
      All-weaker (λ (s : Sent Packet). is_other l p s.to ≡ true) (λ (s : Sent Packet). s.to < layout.places l + 1)
          (λ s other. place-below l s.to (and_parts (has_place l s.to) (not (s.to == p)) other).0) t.puts (All-head (PutsForOthers l p) t ts puts),
      from-below l p t.input x t.before h.0.may,
    )
    (are-below l p (turn t.input x t.before).place y ts h.1 (All-tail (PutsForOthers l p) t ts puts))

-- the sum over the numbers below n + 1 is that over those from 1 to n, where that of 0 is nothing
total-first : (n : ℕ) (f : ℕ → ℕ) → f 0 ≡ 0 → total (suc n) f ≡ total n (λ k. f (k + 1))
total-first zero f h = omega (arith, h)
total-first (suc n) f h =
    (let ih = total-first n f h in let e : suc n ≡ n + 1 = omega arith in let last : f (suc n) ≡ f (n + 1) = ap f e in omega (arith, ih, last))

module _ (l : Layout) (shape : IsLayout l) (comers : List Comer) (of_places of_seats : ℕ → List PlaceTurn) (closing : Network PlaceState Seated Packet) (h : AreHistories l comers of_places of_seats closing) where
  abbrev its : (ts : List PlaceTurn) × IsTheirSchedule l comers of_places of_seats closing ts
  its = journals-are-a-schedule l comers of_places of_seats closing shape h

  abbrev n : NetState
  n = schedule l (events comers its.0)

  lie : All (IsBetweenPlaces l) n.packets
  lie = packets-lie-between l (events comers its.0) shape its.1.may

  nowhere : (a b : ℕ) → has_place l b ≡ false → closing.links a b ≡ []
  nowhere a b none =
      sym (its.1.ends.links a b) ∙ ap (λ os. map (λ (o : Outgoing). o.packet) os) (none-elsewhere l a b n.packets lie none)

  not-to-itself : (p : ℕ) → closing.links p p ≡ []
  not-to-itself p = sym (its.1.ends.links p p) ∙ ap (λ os. map (λ (o : Outgoing). o.packet) os) (none-own l p p n.packets refl lie)

  none-at : (p : ℕ) → has_place l p ≡ false → of_places p ≡ []
  none-at p none = takes-none l p ((at_start l comers).places p) (closing.places p) (of_places p) none (h.histories.takes p)

  put-none : (p b : ℕ) → is_other l p b ≡ false → put_to b (of_places p) ≡ []
  put-none p b off =
      elim (no-other l p b off) [
        | inl none ↦ h.histories.in_order p b ∙ ap (λ ts. got_from p ts ++ closing.links p b) (none-at b none) ∙ nowhere p b none
        | inr same ↦
            ap (λ c. put_to c (of_places p)) same ∙ h.histories.in_order p p
            ∙ ap (λ ks. ks ++ closing.links p p) (got-of-own l p ((at_start l comers).places p) (closing.places p) (of_places p) (h.histories.takes p))
            ∙ not-to-itself p
      ]

  pub for-others : (p : ℕ) → All (PutsForOthers l p) (of_places p)
  for-others p = put-for-others l p (of_places p) (put-none p)

  below : (p : ℕ) → All (IsBelow (layout.places l + 1)) (of_places p)
  below p = are-below l p ((at_start l comers).places p) (closing.places p) (of_places p) (h.histories.takes p) (for-others p)

  sum-put : total (layout.places l + 1) (λ p. put_count (of_places p)) ≡ all_put l of_places
  sum-put =
      (let e : layout.places l + 1 ≡ suc (layout.places l) = omega arith in
      ap (λ m. total m (λ p. put_count (of_places p))) e ∙ total-first (layout.places l) (λ p. put_count (of_places p)) (ap put_count (none-at 0 refl)))

  sum-got : total (layout.places l + 1) (λ p. got_count (of_places p)) ≡ all_got l of_places
  sum-got =
      (let e : layout.places l + 1 ≡ suc (layout.places l) = omega arith in
      ap (λ m. total m (λ p. got_count (of_places p))) e ∙ total-first (layout.places l) (λ p. got_count (of_places p)) (ap got_count (none-at 0 refl)))

  pub most-got : all_got l of_places ≤ all_put l of_places
  most-got =
      (let most = no-more-got PlaceState Seated Command Packet (machine l) (layout.places l + 1) (at_start l comers) closing of_places of_seats h.histories (λ a b. refl) below in
      let p = sum-put in let g = sum-got in omega (arith, most, p, g))

  pub even-leaves-none : all_put l of_places ≡ all_got l of_places → (a b : ℕ) → closing.links a b ≡ []
  even-leaves-none even a b =
      elim (cases_lt b (layout.places l + 1)) [
        | inl lt ↦ from-inside (cases_lt a (layout.places l + 1)) lt
        | inr le ↦ nowhere a b (place-beyond l b le)
      ]
    where
      inside : (a b : ℕ) → a < layout.places l + 1 → b < layout.places l + 1 → closing.links a b ≡ []
      inside =
          nothing_left PlaceState Seated Command Packet (machine l) (layout.places l + 1) (at_start l comers) closing of_places of_seats h.histories (λ a b. refl) below
          (sum-put ∙ even ∙ sym sum-got)

      from-inside : (a < layout.places l + 1) ⊎ (layout.places l + 1 ≤ a) → b < layout.places l + 1 → closing.links a b ≡ []
      from-inside (inl low) lt = inside a b low lt
      from-inside (inr high) lt =
          back-nil (got_from a (of_places b)) (closing.links a b) (sym (h.histories.in_order a b) ∙ ap (put_to b) (none-at a (place-beyond l a high)))

pub turns-put-for-others : TurnsPutForOthers
turns-put-for-others l comers places seats closing shape h = for-others l shape comers places seats closing h

pub counts-tell : CountsTellWhatIsLeft
counts-tell l comers places seats closing shape h = record {
  most = most-got l shape comers places seats closing h;
  even = even-leaves-none l shape comers places seats closing h;
}
