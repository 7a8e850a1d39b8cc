-- The network machine, with its lists of places, packets and callers, shows what places, links and callers are.
use Rattle.std.proofs.Common.{ℕ, ◌≡◌, ◌==◌, Bool, true, false, ◌&&◌, cond, List, [], ◌∷◌, ◌++◌, map, Option, Some, None, slice_get, slice_set, eqb, refl, sym, ◌∙◌, ap, subst, inl, inr, append_assoc, arith}
use Rattle.std.specs.List.{All, filter}
use Rattle.std.specs.Option.{option_map}
use Rattle.std.proofs.lemmas.Bool.{and_parts, eqb-true, eqb-false, eq-eqb, cases_Bool}
use Rattle.std.proofs.lemmas.List.{append-nil}
use Rattle.std.proofs.lemmas.List.Elements.{All-head, All-tail}
use Rattle.chorus_ui.specs.declared.layout.Layout.{Layout}
use Rattle.chorus_ui.specs.Layout.{has_place}
use Rattle.chorus_entry.specs.declared.packet.Packet.{Packet}
use Rattle.chorus_calls.specs.Callers.{Seated}
use Rattle.law_machine.specs.declared.outgoing.Outgoing.{Outgoing}
use Rattle.law_machine.specs.PlaceState.{PlaceState, Turn}
use Rattle.law_network.specs.Packets.{is_link, AreByLink, put, put_all, first_on, rest_on}
use Rattle.law_network.specs.Network as law
use Rattle.law_network.specs.Network.{NetState, place}
use Rattle.law_network.specs.Stands.{AreOf}
use Rattle.law_network.proofs.Links.LinkViews.{put-last, put-out, put-order, view-other}
use Rattle.law_network.proofs.Standing.CallerList.{get-replaced, get-other}
use Rattle.law_network.proofs.Standing.Turning.{stands-there}
use Rattle.law_network.proofs.Places.PlacesStay.{place-other, place-same, stands_in}
use Rattle.law_network.proofs.Places.Layouts.{Keeps}
use Rattle.law_history.specs.Turns.{puts_to}
use Rattle.law_history.specs.Network.{Network, set, sent, relinked, ended}
use Rattle.law_history.specs.PlaceTurns.{as_sent, outcome, machine}
use Rattle.law_history.specs.Journals.{Comer}
use Rattle.law_history.proofs.Lists.{set_here, set_else}
use Rattle.law_history.proofs.Rising.{IsPut}

-- the packets from a to b of a list
abbrev pub packets_on : ℕ → ℕ → List Outgoing → List Packet
packets_on a b us = map (λ (o : Outgoing). o.packet) (filter (is_link a b) us)

pub record Shows (comers : List Comer) (n : Network PlaceState Seated Packet) (s : NetState) : Type 0 where
  pub order : AreByLink s.packets
  pub places : (p : ℕ) → place p s ≡ n.places p
  pub links : (a b : ℕ) → packets_on a b s.packets ≡ n.links a b
  pub callers : (q : ℕ) → slice_get s.callers q ≡ option_map (λ (c : Comer). n.callers q) (slice_get comers q)

-- Packets that a place puts.

map-last : (os us : List Outgoing) (o : Outgoing) → us ≡ os ++ o ∷ [] → map (λ (o : Outgoing). o.packet) us ≡ map (λ (o : Outgoing). o.packet) os ++ o.packet ∷ []
map-last os us o e = ap (map (λ (o : Outgoing). o.packet)) e ∙ appended os
  where
    appended : (xs : List Outgoing) → map (λ (o : Outgoing). o.packet) (xs ++ o ∷ []) ≡ map (λ (o : Outgoing). o.packet) xs ++ o.packet ∷ []
    appended [] = refl
    appended (x ∷ xs) = ap (λ ks. x.packet ∷ ks) (appended xs)

-- what lies on the pair of a packet
same-link : (a b c d : ℕ) → ((c == a) && (d == b)) ≡ true → (x y : ℕ) → ((x == a) && (y == b)) ≡ true → ((x == c) && (y == d)) ≡ true
same-link a b c d h x y k = grind (arith, h, k)

put-one : (a b : ℕ) (o : Outgoing) (us : List Outgoing) → AreByLink us → packets_on a b (put o us) ≡ packets_on a b us ++ cond (is_link a b o) (o.packet ∷ []) []
put-one a b o us order = by (is_link a b o) refl
  where
    by : (c : Bool) → is_link a b o ≡ c → packets_on a b (put o us) ≡ packets_on a b us ++ cond c (o.packet ∷ []) []
    by true e = map-last (filter (is_link a b) us) (filter (is_link a b) (put o us)) o
        (put-last (is_link a b) o us (λ w h. same-link a b o.packet.from o.to e w.packet.from w.to h) e order)
    by false e = ap (map (λ (o : Outgoing). o.packet)) (put-out (is_link a b) o us e) ∙ sym (append-nil (packets_on a b us))

add-choice : (c : Bool) (k : Packet) (xs ys : List Packet) → (xs ++ cond c (k ∷ []) []) ++ ys ≡ xs ++ cond c (k ∷ ys) ys
add-choice true k xs ys = append_assoc xs (k ∷ []) ys
add-choice false k xs ys = ap (λ zs. zs ++ ys) (append-nil xs)

-- the packets of other places stay
put-others : (p a b : ℕ) (os us : List Outgoing) → (p == a) ≡ false → {first : ℕ} → All (IsPut first p) os → AreByLink us → packets_on a b (put_all os us) ≡ packets_on a b us
put-others p a b [] us e h order = refl
put-others p a b (o ∷ os) us e {first} h order =
    let own = All-head (IsPut first p) o os h in
    let off : is_link a b o ≡ false = ap (λ f. (f == a) && (o.to == b)) own.from ∙ ap (λ c. c && (o.to == b)) e in
    put-others p a b os (put o us) e (All-tail (IsPut first p) o os h) (put-order o us order)
    ∙ put-one a b o us order ∙ ap (λ c. packets_on a b us ++ cond c (o.packet ∷ []) []) off ∙ append-nil (packets_on a b us)

-- its own come behind those that are there
put-own : (p b : ℕ) (os us : List Outgoing) → {first : ℕ} → All (IsPut first p) os → AreByLink us → packets_on p b (put_all os us) ≡ packets_on p b us ++ puts_to b (map as_sent os)
put-own p b [] us h order = sym (append-nil (packets_on p b us))
put-own p b (o ∷ os) us {first} h order =
    let own = All-head (IsPut first p) o os h in
    let on : is_link p b o ≡ (o.to == b) = ap (λ f. (f == p) && (o.to == b)) own.from ∙ ap (λ c. c && (o.to == b)) (eq-eqb p p refl) in
    put-own p b os (put o us) (All-tail (IsPut first p) o os h) (put-order o us order)
    ∙ ap (λ ks. ks ++ puts_to b (map as_sent os)) (put-one p b o us order ∙ ap (λ c. packets_on p b us ++ cond c (o.packet ∷ []) []) on)
    ∙ add-choice (o.to == b) o.packet (packets_on p b us) (puts_to b (map as_sent os))

order-all : (os us : List Outgoing) → AreByLink us → AreByLink (put_all os us)
order-all [] us order = order
order-all (o ∷ os) us order = order-all os (put o us) (put-order o us order)

-- A packet that is worked off.

other-link : (a b x y : ℕ) → ((a == x) && (b == y)) ≡ false → (c d : ℕ) → ((c == a) && (d == b)) ≡ true → ((c == x) && (d == y)) ≡ false
other-link a b x y h c d k = grind (arith, h, k)

-- the first packet of a pair
pub first-is : (a b : ℕ) (us : List Outgoing) (k : Packet) (ks : List Packet) → packets_on a b us ≡ k ∷ ks → first_on a b us ≡ Some k
first-is a b [] k ks e = absurd (cc)
first-is a b (u ∷ us) k ks e = by (is_link a b u) e (first-is a b us k ks)
  where
    by : (c : Bool) → map (λ (o : Outgoing). o.packet) (cond c (u ∷ filter (is_link a b) us) (filter (is_link a b) us)) ≡ k ∷ ks
        → (packets_on a b us ≡ k ∷ ks → first_on a b us ≡ Some k) → cond c (Some u.packet) (first_on a b us) ≡ Some k
    by true h ih = cc
    by false h ih = ih h

rest-here : (a b : ℕ) (us : List Outgoing) (k : Packet) (ks : List Packet) → packets_on a b us ≡ k ∷ ks → packets_on a b (rest_on a b us) ≡ ks
rest-here a b [] k ks e = absurd (cc)
rest-here a b (u ∷ us) k ks e = by (is_link a b u) refl e (rest-here a b us k ks)
  where
    by : (c : Bool) → is_link a b u ≡ c → map (λ (o : Outgoing). o.packet) (cond c (u ∷ filter (is_link a b) us) (filter (is_link a b) us)) ≡ k ∷ ks
        → (packets_on a b us ≡ k ∷ ks → packets_on a b (rest_on a b us) ≡ ks) → packets_on a b (cond c us (u ∷ rest_on a b us)) ≡ ks
    by true l h ih = cc
    by false l h ih = ap (λ z. map (λ (o : Outgoing). o.packet) (cond z (u ∷ filter (is_link a b) (rest_on a b us)) (filter (is_link a b) (rest_on a b us)))) l ∙ ih h

rest-else : (a b x y : ℕ) (us : List Outgoing) (k : Packet) → ((a == x) && (b == y)) ≡ false → first_on a b us ≡ Some k → packets_on x y (rest_on a b us) ≡ packets_on x y us
rest-else a b x y us k e h =
    ap (map (λ (o : Outgoing). o.packet)) (view-other (is_link x y) a b us k (λ w on same. other-link a b x y e w.packet.from w.to on) h)

-- the links without the first packet of one of them
pub relinks : (a b : ℕ) (us : List Outgoing) (k : Packet) (ks : List Packet) (links : ℕ → ℕ → List Packet) → ((x y : ℕ) → packets_on x y us ≡ links x y)
    → packets_on a b us ≡ k ∷ ks → (x y : ℕ) → packets_on x y (rest_on a b us) ≡ relinked a b ks links x y
relinks a b us k ks links are e x y = by ((a == x) && (b == y)) refl
  where
    by : (c : Bool) → ((a == x) && (b == y)) ≡ c → packets_on x y (rest_on a b us) ≡ cond c ks (links x y)
    by true h =
        let both = and_parts (a == x) (b == y) h in
        ap (λ v. packets_on v y (rest_on a b us)) (sym (eqb-true a x both.0)) ∙ ap (λ v. packets_on a v (rest_on a b us)) (sym (eqb-true b y both.1)) ∙ rest-here a b us k ks e
    by false h = rest-else a b x y us k h (first-is a b us k ks e) ∙ are x y

-- A turn that ended.

module _ (l : Layout) (comers : List Comer) (n : Network PlaceState Seated Packet) (s : NetState) (keeps : Keeps l s) (h : Shows comers n s) where
  abbrev ends_with : (p q : ℕ) → Turn → Turn → Network PlaceState Seated Packet
  ends_with p q t u = ended (machine l) p q n.links (outcome t u) n

  placed : (p q : ℕ) (t u : Turn) → has_place l p ≡ true → u.place.number ≡ p → (r : ℕ) → place r (law.ended q u s) ≡ set p u.place n.places r
  placed p q t u there number r =
      elim (cases_Bool (eqb p r)) [
        | inl here ↦
            (let same : u.place.number ≡ r = number ∙ eqb-true p r here in
            let of_layout : AreOf s.layout s.places = subst (λ v. AreOf v s.places) (sym keeps.layout) (record { numbers = keeps.numbers; layouts = keeps.layouts }) in
            let in_list : stands_in u.place.number s.places ≡ true = ap (λ v. stands_in v s.places) number ∙ stands-there s p of_layout (ap (λ v. has_place v p) keeps.layout ∙ there) in
            ap (λ v. place v (law.ended q u s)) (sym same) ∙ place-same s.layout u.place s.places in_list ∙ sym (set_here p u.place n.places r here))
        | inr away ↦
            (place-other s.layout r u.place s.places (ap (λ v. v == r) number ∙ away) ∙ h.places r ∙ sym (set_else p u.place n.places r away))
      ]

  linked : (p q : ℕ) (t u : Turn) → {first : ℕ} → All (IsPut first p) u.puts → (a b : ℕ) → packets_on a b (law.ended q u s).packets ≡ sent p (map as_sent u.puts) n.links a b
  linked p q t u {first} puts a b =
      elim (cases_Bool (eqb p a)) [
        | inl here ↦
            (let same : p ≡ a = eqb-true p a here in
            ap (λ v. packets_on v b (put_all u.puts s.packets)) (sym same) ∙ put-own p b u.puts s.packets puts h.order
            ∙ ap (λ ks. ks ++ puts_to b (map as_sent u.puts)) (ap (λ v. packets_on v b s.packets) same ∙ h.links a b)
            ∙ sym (ap (λ c. cond c (n.links a b ++ puts_to b (map as_sent u.puts)) (n.links a b)) here))
        | inr away ↦
            (put-others p a b u.puts s.packets away puts h.order ∙ h.links a b
            ∙ sym (ap (λ c. cond c (n.links a b ++ puts_to b (map as_sent u.puts)) (n.links a b)) away))
      ]

  pub called : (q : ℕ) (u w : Seated) → slice_get s.callers q ≡ Some w → (r : ℕ) → slice_get (slice_set s.callers q u) r ≡ option_map (λ (c : Comer). set q u n.callers r) (slice_get comers r)
  called q u w is r =
      elim (cases_Bool (eqb q r)) [
        | inl here ↦
            (let same : q ≡ r = eqb-true q r here in
            let new : slice_get (slice_set s.callers q u) r ≡ Some u = ap (λ v. slice_get (slice_set s.callers q u) v) (sym same) ∙ get-replaced s.callers q w u is in
            let some = sym (h.callers r) ∙ ap (slice_get s.callers) (sym same) ∙ is in
            new ∙ came (slice_get comers r) (n.callers r) w some u ∙ ap (λ x. option_map (λ (c : Comer). x) (slice_get comers r)) (sym (set_here q u n.callers r here)))
        | inr away ↦
            (get-other s.callers q r u (eqb-false q r away) ∙ h.callers r ∙ ap (λ x. option_map (λ (c : Comer). x) (slice_get comers r)) (sym (set_else q u n.callers r away)))
      ]
    where
      came : (o : Option Comer) (x w : Seated) → option_map (λ (c : Comer). x) o ≡ Some w → (y : Seated) → Some y ≡ option_map (λ (c : Comer). y) o
      came None x w e y = absurd (cc)
      came (Some c) x w e y = refl

  pub ended-shows : (p q : ℕ) (t u : Turn) (w : Seated) → {first : ℕ} → has_place l p ≡ true → u.place.number ≡ p → All (IsPut first p) u.puts → slice_get s.callers q ≡ Some w → Shows comers (ends_with p q t u) (law.ended q u s)
  ended-shows p q t u w there number puts is =
      record {
        order = order-all u.puts s.packets h.order;
        places = placed p q t u there number;
        links = linked p q t u puts;
        callers = called q u.caller w is;
      }
