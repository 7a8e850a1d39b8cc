-- The network of a schedule, list by list: its packets are those of each link, one link after the other, and its places are those
-- that the histories end with.
use Rattle.std.proofs.Common.{ℕ, zero, suc, ◌≡◌, ◌≢◌, ◌+◌, ◌<◌, ◌≤◌, ◌==◌, ◌⊎◌, nat_le, nat_lt, Bool, true, false, ◌&&◌, ◌||◌, cond, List, [], ◌∷◌, ◌++◌, length, map, refl, sym, ◌∙◌, ap, subst, inl, inr, arith}
use Rattle.std.specs.List.{All, filter}
use Rattle.std.proofs.lemmas.Bool.{and_parts, and_from, eqb-true, eq-eqb, ne_eqb, leb-true, lt-ltb, le-ltb, cases_eq, cases_lt, cases_Bool, false≢true}
use Rattle.std.proofs.lemmas.List.{map-append}
use Rattle.std.proofs.lemmas.List.Elements.{All-head, All-tail}
use Rattle.chorus_ui.specs.declared.layout.Layout.{Layout}
use Rattle.chorus_ui.specs.Layout as layout
use Rattle.chorus_ui.specs.Layout.{has_place}
use Rattle.chorus_entry.specs.declared.packet.Packet.{Packet}
use Rattle.law_machine.specs.declared.outgoing.Outgoing.{Outgoing}
use Rattle.law_machine.specs.PlaceState.{PlaceState}
use Rattle.law_network.specs.Packets.{is_link, is_link_before, AreNotBefore, AreByLink}
use Rattle.law_network.specs.Network.{NetState, numbers, place_in, schedule}
use Rattle.law_network.specs.ByPlace.{IsBetweenPlaces, StandsByPlace}
use Rattle.law_network.proofs.Holdings.Passing.{schedules-stand-by-place}
use Rattle.law_history.specs.Journals.{events, on_link}
use Rattle.law_history.specs.Places.{up_to, from_one, by_link, SchedulesLeaveLists}

-- lists of numbers, one after the other

up-same : {A : Type 0} (n : ℕ) (f g : ℕ → List A) → ((q : ℕ) → 1 ≤ q → q ≤ n → f q ≡ g q) → up_to n f ≡ up_to n g
up-same zero f g h = refl
up-same (suc n) f g h =
    ap (λ xs. xs ++ f (suc n)) (up-same n f g (λ q low le. h q low (omega (arith, le)))) ∙ ap (λ xs. up_to n g ++ xs) (h (suc n) (omega arith) (omega arith))

link-same : {A : Type 0} (n : ℕ) (f g : ℕ → ℕ → List A) → ((a b : ℕ) → f a b ≡ g a b) → by_link n f ≡ by_link n g
link-same n f g h =
    up-same n (from_one n f) (from_one n g) (λ a low le. up-same n (λ b. cond (b == a) [] (f a b)) (λ b. cond (b == a) [] (g a b)) (λ b _ _. ap (cond (b == a) []) (h a b)))

-- a list whose keys do not fall

abbrev NoneBelow : {A : Type 0} → (A → ℕ) → ℕ → List A → Type 0
NoneBelow key n [] = Unit {0}
NoneBelow key n (x ∷ xs) = (n ≤ key x) × NoneBelow key n xs

abbrev AreRising : {A : Type 0} → (A → ℕ) → List A → Type 0
AreRising key [] = Unit {0}
AreRising key (x ∷ xs) = NoneBelow key (key x) xs × AreRising key xs

abbrev at_key : {A : Type 0} → (A → ℕ) → ℕ → List A → List A
at_key key n xs = filter (λ x. key x == n) xs

abbrev below : {A : Type 0} → (A → ℕ) → ℕ → List A → List A
below key n xs = filter (λ x. nat_lt (key x) n) xs

module _ {A : Type 0} (key : A → ℕ) where
  none-below : (n m : ℕ) (xs : List A) → n ≤ m → NoneBelow key m xs → below key n xs ≡ []
  none-below n m [] le h = refl
  none-below n m (x ∷ xs) le h =
      (let at = h.0 in ap (λ c. cond c (x ∷ below key n xs) (below key n xs)) (le-ltb (key x) n (omega (arith, le, at))) ∙ none-below n m xs le h.1)

  all-below : (n : ℕ) (xs : List A) → All (λ x. key x < n) xs → below key n xs ≡ xs
  all-below n [] h = refl
  all-below n (x ∷ xs) h =
      ap (λ c. cond c (x ∷ below key n xs) (below key n xs)) (lt-ltb (key x) n (All-head (λ x. key x < n) x xs h)) ∙ ap (λ ys. x ∷ ys) (all-below n xs (All-tail (λ x. key x < n) x xs h))

  below-next : (n : ℕ) (xs : List A) → AreRising key xs → below key (n + 1) xs ≡ below key n xs ++ at_key key n xs
  below-next n [] h = refl
  below-next n (x ∷ xs) h = by (below-next n xs h.1) (cases_lt (key x) n)
    where
      joined : (c d e : Bool) → nat_lt (key x) (n + 1) ≡ c → nat_lt (key x) n ≡ d → (key x == n) ≡ e
          → cond c (x ∷ below key (n + 1) xs) (below key (n + 1) xs) ≡ cond d (x ∷ below key n xs) (below key n xs) ++ cond e (x ∷ at_key key n xs) (at_key key n xs)
          → below key (n + 1) (x ∷ xs) ≡ below key n (x ∷ xs) ++ at_key key n (x ∷ xs)
      joined c d e ec ed ee h =
          ap (λ b. cond b (x ∷ below key (n + 1) xs) (below key (n + 1) xs)) ec ∙ h
          ∙ ap (λ ys. cond d (x ∷ below key n xs) (below key n xs) ++ ys) (sym (ap (λ b. cond b (x ∷ at_key key n xs) (at_key key n xs)) ee))
          ∙ sym (ap (λ b. cond b (x ∷ below key n xs) (below key n xs) ++ at_key key n (x ∷ xs)) ed)

      by : below key (n + 1) xs ≡ below key n xs ++ at_key key n xs → (key x < n) ⊎ (n ≤ key x) → below key (n + 1) (x ∷ xs) ≡ below key n (x ∷ xs) ++ at_key key n (x ∷ xs)
      by rest (inl lt) =
          joined true true false (lt-ltb (key x) (n + 1) (omega (arith, lt))) (lt-ltb (key x) n lt) (ne_eqb (key x) n (λ e. omega (arith, lt, e))) (ap (λ ys. x ∷ ys) rest)
      by rest (inr le) = at (cases_eq (key x) n)
        where
          at : (key x ≡ n) ⊎ (key x ≢ n) → below key (n + 1) (x ∷ xs) ≡ below key n (x ∷ xs) ++ at_key key n (x ∷ xs)
          at (inl e) =
              joined true false true (lt-ltb (key x) (n + 1) (omega (arith, e))) (le-ltb (key x) n le) (eq-eqb (key x) n e)
              (let none : below key n xs ≡ [] = none-below n (key x) xs le h.0 in
              ap (λ ys. x ∷ ys) (rest ∙ ap (λ ys. ys ++ at_key key n xs) none) ∙ sym (ap (λ ys. ys ++ x ∷ at_key key n xs) none))
          at (inr ne) = joined false false false (le-ltb (key x) (n + 1) (omega (arith, le, ne))) (le-ltb (key x) n le) (ne_eqb (key x) n ne) rest

  by-key : (n : ℕ) (xs : List A) → AreRising key xs → NoneBelow key 1 xs → below key (n + 1) xs ≡ up_to n (λ k. at_key key k xs)
  by-key zero xs h low = none-below 1 1 xs (omega arith) low
  by-key (suc n) xs h low =
      let e : n + 1 ≡ suc n = omega arith in
      below-next (suc n) xs h ∙ ap (λ ys. ys ++ at_key key (suc n) xs) (subst (λ m. below key m xs ≡ up_to n (λ k. at_key key k xs)) e (by-key n xs h low))

map-up : {A B : Type 0} (f : A → B) (n : ℕ) (g : ℕ → List A) → map f (up_to n g) ≡ up_to n (λ k. map f (g k))
map-up f zero g = refl
map-up f (suc n) g = map-append f (up_to n g) (g (suc n)) ∙ ap (λ ys. ys ++ map f (g (suc n))) (map-up f n g)

-- packets by their links

abbrev from_of : Outgoing → ℕ
from_of o = o.packet.from

abbrev to_of : Outgoing → ℕ
to_of o = o.to

abbrev packets : List Outgoing → List Packet
packets us = map (λ (o : Outgoing). o.packet) us

not-less : (a b c : ℕ) (r : Bool) → (nat_lt a b || r) ≡ false → b ≤ a
not-less a b c r h =
    elim (cases_lt a b) [
      | inl lt ↦ absurd (false≢true (sym h ∙ ap (λ x. x || r) (lt-ltb a b lt)))
      | inr le ↦ le
    ]

not-less-to : (o u : Outgoing) → is_link_before u o ≡ false → u.packet.from ≡ o.packet.from → o.to ≤ u.to
not-less-to o u h same =
    elim (cases_lt u.to o.to) [
      | inl lt ↦
          (let no : nat_lt u.packet.from o.packet.from ≡ false = le-ltb u.packet.from o.packet.from (omega (arith, same)) in
          let yes : (u.packet.from == o.packet.from) && nat_lt u.to o.to ≡ true = and_from (u.packet.from == o.packet.from) (nat_lt u.to o.to) (eq-eqb u.packet.from o.packet.from same) (lt-ltb u.to o.to lt) in
          absurd (false≢true (sym h ∙ ap (λ x. x || ((u.packet.from == o.packet.from) && nat_lt u.to o.to)) no ∙ yes)))
      | inr le ↦ le
    ]

from-below : (o : Outgoing) (us : List Outgoing) → AreNotBefore o us → NoneBelow from_of o.packet.from us
from-below o [] h = tt
from-below o (u ∷ us) h = (not-less u.packet.from o.packet.from 0 ((u.packet.from == o.packet.from) && nat_lt u.to o.to) h.0, from-below o us h.1)

from-rises : (us : List Outgoing) → AreByLink us → AreRising from_of us
from-rises [] h = tt
from-rises (o ∷ us) h = (from-below o us h.0, from-rises us h.1)

to-below : (o : Outgoing) (a : ℕ) (us : List Outgoing) → o.packet.from ≡ a → AreNotBefore o us → NoneBelow to_of o.to (at_key from_of a us)
to-below o a [] e h = tt
to-below o a (u ∷ us) e h = by (to-below o a us e h.1) (u.packet.from == a) refl
  where
    by : NoneBelow to_of o.to (at_key from_of a us) → (c : Bool) → (u.packet.from == a) ≡ c → NoneBelow to_of o.to (cond c (u ∷ at_key from_of a us) (at_key from_of a us))
    by more true t = (not-less-to o u h.0 (eqb-true u.packet.from a t ∙ sym e), more)
    by more false t = more

to-rises : (a : ℕ) (us : List Outgoing) → AreByLink us → AreRising to_of (at_key from_of a us)
to-rises a [] h = tt
to-rises a (o ∷ us) h = by (to-rises a us h.1) (o.packet.from == a) refl
  where
    by : AreRising to_of (at_key from_of a us) → (c : Bool) → (o.packet.from == a) ≡ c → AreRising to_of (cond c (o ∷ at_key from_of a us) (at_key from_of a us))
    by more true t = (to-below o a us (eqb-true o.packet.from a t) h.0, more)
    by more false t = more

both-keys : (a b : ℕ) (us : List Outgoing) → at_key to_of b (at_key from_of a us) ≡ filter (is_link a b) us
both-keys a b [] = refl
both-keys a b (o ∷ us) = by (both-keys a b us) (o.packet.from == a)
  where
    by : at_key to_of b (at_key from_of a us) ≡ filter (is_link a b) us → (c : Bool) → at_key to_of b (cond c (o ∷ at_key from_of a us) (at_key from_of a us)) ≡ cond (c && (o.to == b)) (o ∷ filter (is_link a b) us) (filter (is_link a b) us)
    by more true = ap (λ ys. cond (o.to == b) (o ∷ ys) ys) more
    by more false = more

module _ (l : Layout) where
  place-of : (p : ℕ) → has_place l p ≡ true → (1 ≤ p) × (p ≤ layout.places l)
  place-of p h = (let two = and_parts (nat_le 1 p) (nat_le p (layout.places l)) h in (leb-true 1 p two.0, leb-true p (layout.places l) two.1))

  from-one-on : (us : List Outgoing) → All (IsBetweenPlaces l) us → NoneBelow from_of 1 us
  from-one-on [] h = tt
  from-one-on (o ∷ us) h = ((place-of o.packet.from (All-head (IsBetweenPlaces l) o us h).has_from).0, from-one-on us (All-tail (IsBetweenPlaces l) o us h))

  from-most : (us : List Outgoing) → All (IsBetweenPlaces l) us → below from_of (layout.places l + 1) us ≡ us
  from-most [] h = refl
  from-most (o ∷ us) h =
      (let most = (place-of o.packet.from (All-head (IsBetweenPlaces l) o us h).has_from).1 in
      ap (λ c. cond c (o ∷ below from_of (layout.places l + 1) us) (below from_of (layout.places l + 1) us)) (lt-ltb o.packet.from (layout.places l + 1) (omega (arith, most)))
      ∙ ap (λ ys. o ∷ ys) (from-most us (All-tail (IsBetweenPlaces l) o us h)))

  to-one-on : (a : ℕ) (us : List Outgoing) → All (IsBetweenPlaces l) us → NoneBelow to_of 1 (at_key from_of a us)
  to-one-on a [] h = tt
  to-one-on a (o ∷ us) h = by (to-one-on a us (All-tail (IsBetweenPlaces l) o us h)) (o.packet.from == a)
    where
      by : NoneBelow to_of 1 (at_key from_of a us) → (c : Bool) → NoneBelow to_of 1 (cond c (o ∷ at_key from_of a us) (at_key from_of a us))
      by more true = ((place-of o.to (All-head (IsBetweenPlaces l) o us h).has_to).0, more)
      by more false = more

  to-most : (a : ℕ) (us : List Outgoing) → All (IsBetweenPlaces l) us → below to_of (layout.places l + 1) (at_key from_of a us) ≡ at_key from_of a us
  to-most a [] h = refl
  to-most a (o ∷ us) h = by (to-most a us (All-tail (IsBetweenPlaces l) o us h)) (o.packet.from == a)
    where
      by : below to_of (layout.places l + 1) (at_key from_of a us) ≡ at_key from_of a us → (c : Bool) → below to_of (layout.places l + 1) (cond c (o ∷ at_key from_of a us) (at_key from_of a us)) ≡ cond c (o ∷ at_key from_of a us) (at_key from_of a us)
      by more true =
          (let most = (place-of o.to (All-head (IsBetweenPlaces l) o us h).has_to).1 in
          ap (λ c. cond c (o ∷ below to_of (layout.places l + 1) (at_key from_of a us)) (below to_of (layout.places l + 1) (at_key from_of a us))) (lt-ltb o.to (layout.places l + 1) (omega (arith, most)))
          ∙ ap (λ ys. o ∷ ys) more)
      by more false = more

  pub none-own : (a b : ℕ) (us : List Outgoing) → b ≡ a → All (IsBetweenPlaces l) us → filter (is_link a b) us ≡ []
  none-own a b [] e h = refl
  none-own a b (o ∷ us) e h =
      elim (cases_Bool (is_link a b o)) [
        | inl on ↦
            (let two = and_parts (o.packet.from == a) (o.to == b) on in
            let same : o.packet.from ≡ o.to = eqb-true o.packet.from a two.0 ∙ sym e ∙ sym (eqb-true o.to b two.1) in
            absurd (false≢true (sym (All-head (IsBetweenPlaces l) o us h).apart ∙ eq-eqb o.packet.from o.to same)))
        | inr off ↦ ap (λ c. cond c (o ∷ filter (is_link a b) us) (filter (is_link a b) us)) off ∙ none-own a b us e (All-tail (IsBetweenPlaces l) o us h)
      ]

  row : (us : List Outgoing) → AreByLink us → All (IsBetweenPlaces l) us → (a : ℕ) → packets (at_key from_of a us) ≡ from_one (layout.places l) (λ p q. packets (filter (is_link p q) us)) a
  row us order h a =
      ap packets (sym (to-most a us h) ∙ by-key to_of (layout.places l) (at_key from_of a us) (to-rises a us order) (to-one-on a us h))
      ∙ map-up (λ (o : Outgoing). o.packet) (layout.places l) (λ b. at_key to_of b (at_key from_of a us))
      ∙ up-same (layout.places l) (λ b. packets (at_key to_of b (at_key from_of a us))) (λ b. cond (b == a) [] (packets (filter (is_link a b) us)))
      (λ b low le. ap packets (both-keys a b us) ∙ by b (b == a) refl)
    where
      by : (b : ℕ) (c : Bool) → (b == a) ≡ c → packets (filter (is_link a b) us) ≡ cond c [] (packets (filter (is_link a b) us))
      by b true e = ap packets (none-own a b us (eqb-true b a e) h)
      by b false e = refl

  packets-by-link : (us : List Outgoing) → AreByLink us → All (IsBetweenPlaces l) us → packets us ≡ by_link (layout.places l) (λ p q. packets (filter (is_link p q) us))
  packets-by-link us order h =
      ap packets (sym (from-most us h) ∙ by-key from_of (layout.places l) us (from-rises us order) (from-one-on us h))
      ∙ map-up (λ (o : Outgoing). o.packet) (layout.places l) (λ a. at_key from_of a us)
      ∙ up-same (layout.places l) (λ a. packets (at_key from_of a us)) (from_one (layout.places l) (λ p q. packets (filter (is_link p q) us))) (λ a low le. row us order h a)

-- places by their numbers
places-as : (l : Layout) (count i : ℕ) (ss : List PlaceState) (f : ℕ → PlaceState) → map (λ (s : PlaceState). s.number) ss ≡ numbers count i
    → ((p : ℕ) → i ≤ p → place_in l p ss ≡ f p) → ss ≡ map f (numbers count i)
places-as l zero i [] f e h = refl
places-as l (suc count) i [] f e h = absurd (let n : 0 ≡ suc (length (numbers count (i + 1))) = ap length e in omega (arith, n))
places-as l zero i (s ∷ ss) f e h = absurd (let n : suc (length (map (λ (s : PlaceState). s.number) ss)) ≡ 0 = ap length e in omega (arith, n))
places-as l (suc count) i (s ∷ ss) f e h =
    ap (λ ys. s ∷ ys) (places-as l count (i + 1) ss f later others) ∙ ap (λ y. y ∷ map f (numbers count (i + 1))) first
  where
    number : s.number ≡ i
    number = cc

    later : map (λ (s : PlaceState). s.number) ss ≡ numbers count (i + 1)
    later = cc

    first : s ≡ f i
    first = sym (ap (λ c. cond c s (place_in l i ss)) (eq-eqb s.number i number)) ∙ h i (omega arith)

    others : (p : ℕ) → i + 1 ≤ p → place_in l p ss ≡ f p
    others p le =
        sym (ap (λ c. cond c s (place_in l p ss)) (ne_eqb s.number p (λ x. omega (arith, number, x, le)))) ∙ h p (omega (arith, le))

pub schedules-leave-lists : SchedulesLeaveLists
schedules-leave-lists l comers places seats closing ts shape s = record {
  places = places-as n.layout (layout.places l) 1 n.places closing.places stands.places (λ p le. s.ends.places p);
  packets =
      packets-by-link l n.packets stands.order stands.between ∙ link-same (layout.places l) (λ a b. on_link a b n) closing.links s.ends.links;
}
  where
    n : NetState
    n = schedule l (events comers ts)

    stands : StandsByPlace l n
    stands = schedules-stand-by-place l (events comers ts) shape s.may
