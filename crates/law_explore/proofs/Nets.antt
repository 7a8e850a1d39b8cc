-- Networks that are alike stay alike: no event depends on a clock, nor on who delivers, nor on more of a journal than what is read.
use Rattle.std.proofs.Common.{ℕ, ◌≡◌, ◌≤◌, ◌==◌, max, Bool, true, false, cond, List, [], ◌∷◌, map, Option, Some, None, is_some, slice_get, slice_set, inl, inr, refl, sym, ◌∙◌, ap, subst, arith}
use Rattle.std.specs.Option.{option_map}
use Rattle.std.proofs.lemmas.Bool.{false≢true, cases_Bool, eqb-false}
use Rattle.chorus_ui.specs.declared.layout.Layout.{Layout}
use Rattle.chorus_entry.specs.declared.command.Command.{Command}
use Rattle.chorus_entry.specs.declared.entry.Entry.{Entry}
use Rattle.chorus_entry.specs.declared.packet.Packet.{Packet}
use Rattle.chorus_entry.specs.Places.{place_for}
use Rattle.chorus_calls.specs.Callers.{Seated, after_tick}
use Rattle.law_machine.specs.declared.outgoing.Outgoing.{Outgoing}
use Rattle.law_machine.specs.PlaceState.{PlaceState, Turn}
use Rattle.law_machine.specs.PlaceMachine.{begun, begun_by, act, work}
use Rattle.law_network.specs.Packets.{is_link, is_link_before, put, put_all, first_on, rest_on}
use Rattle.law_network.specs.Network.{NetState, place_in, place, with_place, ended, turn_for, commanded, works_off, delivered, Event, Act, Deliver, happened}
use Rattle.law_network.proofs.Standing.CallerList.{get-other, get-replaced}
use Rattle.law_explore.specs.Alike.{SameButLast, Anyone, unclocked, AreAlike, PlaceAlike, PlacesAlike, CallerAlike, NetsAlike, NetsStayAlike}
use Rattle.law_explore.proofs.Alike.{Keeping, commands-alike, works-alike}
use Rattle.law_explore.proofs.Neighbours.{some-is}

-- Packets.

put-map : (o : Outgoing) (us : List Outgoing) → map unclocked (put o us) ≡ put (unclocked o) (map unclocked us)
put-map o [] = refl
put-map o (u ∷ us) = by (is_link_before o u) (put-map o us)
  where
    by : (b : Bool) → map unclocked (put o us) ≡ put (unclocked o) (map unclocked us)
        → map unclocked (cond b (o ∷ u ∷ us) (u ∷ put o us)) ≡ cond b (unclocked o ∷ unclocked u ∷ map unclocked us) (unclocked u ∷ put (unclocked o) (map unclocked us))
    by true ih = refl
    by false ih = ap (λ xs. unclocked u ∷ xs) ih

put-all-map : (os us : List Outgoing) → map unclocked (put_all os us) ≡ put_all (map unclocked os) (map unclocked us)
put-all-map [] us = refl
put-all-map (o ∷ os) us = put-all-map os (put o us) ∙ ap (put_all (map unclocked os)) (put-map o us)

puts-alike : (os xs us ws : List Outgoing) → map unclocked os ≡ map unclocked xs → map unclocked us ≡ map unclocked ws → map unclocked (put_all os us) ≡ map unclocked (put_all xs ws)
puts-alike os xs us ws h k = put-all-map os us ∙ (λ i. put_all (h i) (k i)) ∙ sym (put-all-map xs ws)

rest-map : (a b : ℕ) (us : List Outgoing) → map unclocked (rest_on a b us) ≡ rest_on a b (map unclocked us)
rest-map a b [] = refl
rest-map a b (u ∷ us) = by (is_link a b u) (rest-map a b us)
  where
    by : (c : Bool) → map unclocked (rest_on a b us) ≡ rest_on a b (map unclocked us)
        → map unclocked (cond c us (u ∷ rest_on a b us)) ≡ cond c (map unclocked us) (unclocked u ∷ rest_on a b (map unclocked us))
    by true ih = refl
    by false ih = ap (λ xs. unclocked u ∷ xs) ih

abbrev still : Packet → Packet
still k = record { clock = 0; from = k.from; cargo = k.cargo }

first-map : (a b : ℕ) (us : List Outgoing) → first_on a b (map unclocked us) ≡ option_map still (first_on a b us)
first-map a b [] = refl
first-map a b (u ∷ us) = by (is_link a b u) (first-map a b us)
  where
    by : (c : Bool) → first_on a b (map unclocked us) ≡ option_map still (first_on a b us)
        → cond c (Some (still u.packet)) (first_on a b (map unclocked us)) ≡ option_map still (cond c (Some u.packet) (first_on a b us))
    by true ih = refl
    by false ih = ih

pub some-too : (a b : ℕ) (us ws : List Outgoing) → map unclocked us ≡ map unclocked ws → is_some (first_on a b us) ≡ true → is_some (first_on a b ws) ≡ true
some-too a b us ws h k =
    by (first_on a b us) (first_on a b ws) (sym (first-map a b us) ∙ ap (first_on a b) h ∙ first-map a b ws) k
  where
    by : (x z : Option Packet) → option_map still x ≡ option_map still z → is_some x ≡ true → is_some z ≡ true
    by None z e k = absurd (false≢true k)
    by (Some q) None e k = absurd (cc)
    by (Some q) (Some r) e k = refl

module _ (J : List Entry → List Entry → Type 0) (keep : Keeping J) where
  -- Places.

  place-alike : (l : Layout) (p : ℕ) (ss rs : List PlaceState) → PlacesAlike J ss rs → PlaceAlike J (place_in l p ss) (place_in l p rs)
  place-alike l p [] [] h = record { journal = []; is = refl; journals = keep.none }
  place-alike l p [] (r ∷ rs) h = absurd h
  place-alike l p (s ∷ ss) [] h = absurd h
  place-alike l p (s ∷ ss) (r ∷ rs) h =
      subst (λ (x : PlaceState). PlaceAlike J (place_in l p (s ∷ ss)) (place_in l p (x ∷ rs))) (sym h.0.is) (by (s.number == p) (place-alike l p ss rs h.1))
    where
      by : (c : Bool) → PlaceAlike J (place_in l p ss) (place_in l p rs) → PlaceAlike J (cond c s (place_in l p ss)) (cond c (record s { journal = h.0.journal }) (place_in l p rs))
      by true ih = record { journal = h.0.journal; is = refl; journals = h.0.journals }
      by false ih = ih

  with-alike : (s r : PlaceState) (ss rs : List PlaceState) → PlaceAlike J s r → PlacesAlike J ss rs → PlacesAlike J (with_place s ss) (with_place r rs)
  with-alike s r [] [] k h = tt
  with-alike s r [] (y ∷ rs) k h = absurd h
  with-alike s r (x ∷ ss) [] k h = absurd h
  with-alike s r (x ∷ ss) (y ∷ rs) k h =
      subst (λ (z : PlaceState). PlacesAlike J (with_place s (x ∷ ss)) (with_place z (y ∷ rs))) (sym k.is)
      (subst (λ (z : PlaceState). PlacesAlike J (with_place s (x ∷ ss)) (with_place (record s { journal = k.journal }) (z ∷ rs))) (sym h.0.is)
      (by (x.number == s.number) (subst (λ (z : PlaceState). PlacesAlike J (with_place s ss) (with_place z rs)) k.is (with-alike s r ss rs k h.1))))
    where
      by : (c : Bool) → PlacesAlike J (with_place s ss) (with_place (record s { journal = k.journal }) rs)
          → PlacesAlike J (cond c (s ∷ ss) (x ∷ with_place s ss)) (cond c (record s { journal = k.journal } ∷ rs) (record x { journal = h.0.journal } ∷ with_place (record s { journal = k.journal }) rs))
      by true ih = (record { journal = k.journal; is = refl; journals = k.journals }, h.1)
      by false ih = (record { journal = h.0.journal; is = refl; journals = h.0.journals }, ih)

  turned-place : (R : Seated → Seated → Type 0) (t u : Turn) → AreAlike J R t u → PlaceAlike J t.place u.place
  turned-place R t u a = record { journal = a.journal; is = ap (λ (x : Turn). x.place) a.is; journals = a.journals }

  module _ (count : ℕ) (n m : NetState) (h : NetsAlike J count n m) where
    places-at : (p : ℕ) → PlaceAlike J (place p n) (place p m)
    places-at p = subst (λ (l : Layout). PlaceAlike J (place p n) (place_in l p m.places)) (sym h.layout) (place-alike n.layout p n.places m.places h.places)

    -- a turn that ended, in both
    ends-alike : (R : Seated → Seated → Type 0) (i j : ℕ) (t u : Turn) (us ws : List Outgoing) → AreAlike J R t u → map unclocked us ≡ map unclocked ws
        → ((k : ℕ) → 1 ≤ k → k ≤ count → CallerAlike (slice_get (slice_set n.callers i t.caller) k) (slice_get (slice_set m.callers j u.caller) k))
        → NetsAlike J count (ended i t (record n { packets = us })) (ended j u (record m { packets = ws }))
    ends-alike R i j t u us ws a same callers =
        record {
          layout = h.layout;
          places = with-alike t.place u.place n.places m.places (turned-place R t u a) h.places;
          packets = puts-alike t.puts u.puts us ws (a.loads ∙ ap (λ (x : Turn). map unclocked x.puts) (sym a.is)) same;
          callers = callers;
        }

    -- A command.
    module _ (k : ℕ) (c : Command) (low : 1 ≤ k) (high : k ≤ count) where
      pub begins : (w v : Seated) → SameButLast w v → AreAlike J SameButLast (turn_for c w n) (turn_for c v m)
      begins w v same =
          let p = place_for n.layout w.actor c in
          let s = places-at p in
          let at_place : place_for m.layout v.actor c ≡ p = (λ i. place_for (h.layout i) (same.is i).actor c) in
          record {
            journal = s.journal;
            caller = v;
            puts = [];
            is = ap (λ i. begun (place i m) v) at_place ∙ ap (λ (x : PlaceState). begun x v) s.is;
            journals = s.journals;
            callers = same;
            loads = refl;
          }

      given : (w v : Seated) → slice_get n.callers k ≡ Some w → slice_get m.callers k ≡ Some v → SameButLast w v → NetsAlike J count (commanded k c (Some w) n) (commanded k c (Some v) m)
      given w v is_w is_v same =
          let a = commands-alike J keep c (turn_for c w n) (turn_for c v m) (begins w v same) in
          ends-alike SameButLast k k (act c (turn_for c w n)) (act c (turn_for c v m)) n.packets m.packets a h.packets (callers a)
        where
          callers : {t u : Turn} → AreAlike J SameButLast t u → (i : ℕ) → 1 ≤ i → i ≤ count → CallerAlike (slice_get (slice_set n.callers k t.caller) i) (slice_get (slice_set m.callers k u.caller) i)
          callers {t} {u} a i from to =
              elim (cases_Bool (k == i)) [
                | inl here ↦
                    (let same_seat : k ≡ i = equal k i here in
                    subst (λ z. CallerAlike (slice_get (slice_set n.callers k t.caller) z) (slice_get (slice_set m.callers k u.caller) z)) same_seat
                    (subst (λ z. CallerAlike z (slice_get (slice_set m.callers k u.caller) k)) (sym (get-replaced n.callers k w t.caller is_w))
                    (subst (λ z. CallerAlike (Some t.caller) z) (sym (get-replaced m.callers k v u.caller is_v))
                    (record { last = a.callers.last; is = ap (λ (x : Turn). x.caller) a.is ∙ a.callers.is }))))
                | inr away ↦
                    subst (λ z. CallerAlike z (slice_get (slice_set m.callers k u.caller) i)) (sym (get-other n.callers k i t.caller (eqb-false k i away)))
                    (subst (λ z. CallerAlike (slice_get n.callers i) z) (sym (get-other m.callers k i u.caller (eqb-false k i away))) (h.callers i from to))
              ]
            where
              equal : (a b : ℕ) → (a == b) ≡ true → a ≡ b
              equal a b g = grind (arith, g)

      pub command-alike : NetsAlike J count (happened (Act k c) n) (happened (Act k c) m)
      command-alike = by (slice_get n.callers k) (slice_get m.callers k) refl refl (h.callers k low high)
        where
          by : (x z : Option Seated) → slice_get n.callers k ≡ x → slice_get m.callers k ≡ z → CallerAlike x z → NetsAlike J count (commanded k c x n) (commanded k c z m)
          by None None e f g = h
          by None (Some v) e f g = absurd g
          by (Some w) None e f g = absurd g
          by (Some w) (Some v) e f g = given w v e f g

    -- A delivery.
    module _ (i j a b : ℕ) (apart : (k : ℕ) → 1 ≤ k → k ≤ count → (i ≡ k → ⊥) × (j ≡ k → ⊥)) where
      works : (w v : Seated) (q r : Packet) → still q ≡ still r → NetsAlike J count (works_off i a b w (Some q) n) (works_off j a b v (Some r) m)
      works w v q r same =
          let s = places-at b in
          let is : record q { clock = r.clock } ≡ r = ap (λ (k : Packet). let x : Packet = record k { clock = r.clock } in x) same in
          let t = begun_by (place b n) w q in
          let u = begun_by (place b m) v r in
          let begins : AreAlike J Anyone t u =
          record {
            journal = s.journal;
            caller = after_tick v (max v.last r.clock);
            puts = [];
            is = ap (λ (x : PlaceState). begun_by x v r) s.is;
            journals = s.journals;
            callers = tt;
            loads = refl;
          } in
          let done = subst (λ (k : Packet). AreAlike J Anyone (work q t) (work k u)) is (works-alike J keep Anyone (λ c d x y g. tt) q r.clock t u begins) in
          ends-alike Anyone i j (work q t) (work r u) (rest_on a b n.packets) (rest_on a b m.packets) done
          (rest-map a b n.packets ∙ ap (rest_on a b) h.packets ∙ sym (rest-map a b m.packets))
          (λ k low high.
          subst (λ z. CallerAlike z (slice_get (slice_set m.callers j (work r u).caller) k)) (sym (get-other n.callers i k (work q t).caller (apart k low high).0))
          (subst (λ z. CallerAlike (slice_get n.callers k) z) (sym (get-other m.callers j k (work r u).caller (apart k low high).1)) (h.callers k low high)))

      pub delivery-alike : is_some (slice_get n.callers i) ≡ true → is_some (slice_get m.callers j) ≡ true → NetsAlike J count (happened (Deliver i a b) n) (happened (Deliver j a b) m)
      delivery-alike one other =
          let w = some-is (slice_get n.callers i) one in
          let v = some-is (slice_get m.callers j) other in
          subst (λ x. NetsAlike J count (delivered i a b x n) (happened (Deliver j a b) m)) (sym w.1)
          (subst (λ x. NetsAlike J count (delivered i a b (Some w.0) n) (delivered j a b x m)) (sym v.1)
          (by w.0 v.0 (first_on a b n.packets) (first_on a b m.packets) (sym (first-map a b n.packets) ∙ ap (first_on a b) h.packets ∙ first-map a b m.packets)))
        where
          by : (w v : Seated) (x z : Option Packet) → option_map still x ≡ option_map still z → NetsAlike J count (works_off i a b w x n) (works_off j a b v z m)
          by w v None None e = h
          by w v None (Some r) e = absurd (cc)
          by w v (Some q) None e = absurd (cc)
          by w v (Some q) (Some r) e = works w v q r (some-same (still q) (still r) e)
            where
              some-same : (x z : Packet) → Some x ≡ Some z → x ≡ z
              some-same x z h = cc

  pub nets-stay-alike : NetsStayAlike J
  nets-stay-alike count n m e f h (inl c) =
      let k = c.0 in
      let command = c.1.0 in
      let p = c.1.1 in
      subst (λ (x : Event). NetsAlike J count (happened x n) (happened f m)) (sym p.0)
      (subst (λ (x : Event). NetsAlike J count (happened (Act k command) n) (happened x m)) (sym p.1)
      (command-alike count n m h k command p.2 p.3))
  nets-stay-alike count n m e f h (inr d) =
      let i = d.0 in
      let j = d.1.0 in
      let a = d.1.1.0 in
      let b = d.1.1.1.0 in
      let p = d.1.1.1.1 in
      subst (λ (x : Event). NetsAlike J count (happened x n) (happened f m)) (sym p.0)
      (subst (λ (x : Event). NetsAlike J count (happened (Deliver i a b) n) (happened x m)) (sym p.1)
      (delivery-alike count n m h i j a b p.4 p.2 p.3))
