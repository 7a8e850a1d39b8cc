-- A turn begins where the network stands for a past, and leaves one that stands for a longer one.
use Rattle.std.proofs.Common.{ℕ, zero, suc, ◌≡◌, ◌+◌, ◌<◌, ◌≤◌, ◌==◌, nat_le, max, Bool, true, false, cond, List, [], ◌∷◌, map, Option, Some, None, refl, sym, ◌∙◌, ap, subst, arith, eq-eqb, leb-true}
use Rattle.std.specs.Prelude.{slice_get}
use Rattle.std.specs.Option.{option_map}
use Rattle.std.proofs.lemmas.Bool.{and_parts, eqb-true, false≢true, eqb-false}
use Rattle.chorus_ui.specs.declared.ui.Ui.{Ui}
use Rattle.chorus_ui.specs.declared.layout.Layout.{Layout}
use Rattle.chorus_ui.specs.Layout as layout
use Rattle.chorus_entry.specs.declared.entry.Entry.{Entry}
use Rattle.chorus_world.specs.Views.{at, by}
use Rattle.chorus_world.specs.Places.{just_taken}
use Rattle.chorus_world.specs.Runs.{is_run}
use Rattle.chorus_world.specs.SortingLaws.{AllLookAtHome}
use Rattle.chorus_calls.specs.Callers.{Seated, after_tick}
use Rattle.law_machine.specs.declared.outgoing.Outgoing.{Outgoing}
use Rattle.law_machine.specs.PlaceState.{PlaceState, Turn}
use Rattle.law_machine.specs.PlaceMachine.{begun}
use Rattle.law_network.specs.Packets.{put_all}
use Rattle.law_network.proofs.Standing.CallerList.{get-replaced, get-other}
use Rattle.law_network.specs.Network.{NetState, numbers, place_numbers, place_in, place, ended}
use Rattle.law_network.specs.Stands.{AreOf, IsCaller, Stands, actor_of}
use Rattle.law_network.proofs.Places.PlacesStay.{with-numbers, with-layouts, place-other, place-same, stands_in}
use Rattle.law_network.proofs.Standing.InTurn.{IsPlace, ArePackets, InTurn}

-- Places by number.

pub number-is : (l : Layout) (p : ℕ) (rs : List PlaceState) → (place_in l p rs).number ≡ p
number-is l p [] = refl
number-is l p (r ∷ rs) = by (r.number == p) refl (number-is l p rs)
  where
    by : (b : Bool) → (r.number == p) ≡ b → (place_in l p rs).number ≡ p → (cond b r (place_in l p rs)).number ≡ p
    by true e ih = eqb-true r.number p e
    by false e ih = ih

layout-in : (l : Layout) (p : ℕ) (rs : List PlaceState) (ks : List ℕ) → map (λ (s : PlaceState). s.layout) rs ≡ map (λ (j : ℕ). l) ks → (place_in l p rs).layout ≡ l
layout-in l p [] ks h = refl
layout-in l p (r ∷ rs) [] h = absurd (cc)
layout-in l p (r ∷ rs) (j ∷ ks) h = by (r.number == p) (cc) (layout-in l p rs ks (cc))
  where
    by : (b : Bool) → r.layout ≡ l → (place_in l p rs).layout ≡ l → (cond b r (place_in l p rs)).layout ≡ l
    by true f ih = f
    by false f ih = ih

pub layout-is : (n : NetState) (p : ℕ) → AreOf n.layout n.places → (place p n).layout ≡ n.layout
layout-is n p h = layout-in n.layout p n.places (place_numbers n.layout) h.layouts

stands-from : (m i p : ℕ) (rs : List PlaceState) → map (λ (s : PlaceState). s.number) rs ≡ numbers m i → i ≤ p → p < i + m → stands_in p rs ≡ true
stands-from zero i p rs h le lt = absurd (omega (arith, le, lt))
stands-from (suc m) i p [] h le lt = absurd (cc)
stands-from (suc m) i p (r ∷ rs) h le lt =
    by (r.number == p) refl (λ ne. stands-from m (i + 1) p rs (cc) (omega (arith, ne, le)) (let z : i + suc m ≡ i + 1 + m = omega arith in omega (arith, lt, z)))
  where
    first : r.number ≡ i
    first = cc

    by : (b : Bool) → (r.number == p) ≡ b → (((i ≡ p) → ⊥) → stands_in p rs ≡ true) → cond b true (stands_in p rs) ≡ true
    by true e k = refl
    by false e k = k (λ same. false≢true (sym e ∙ eq-eqb r.number p (first ∙ same)))

pub stands-there : (n : NetState) (p : ℕ) → AreOf n.layout n.places → layout.has_place n.layout p ≡ true → stands_in p n.places ≡ true
stands-there n p h k =
    let two = and_parts (nat_le 1 p) (nat_le p (layout.places n.layout)) k in
    let low = leb-true 1 p two.0 in
    let high = leb-true p (layout.places n.layout) two.1 in
    stands-from (layout.places n.layout) 1 p n.places h.numbers low (omega (arith, high))

pub actor-some : (n : NetState) (k : ℕ) (a : Ui) → actor_of n k ≡ Some a → (c : Seated) × (slice_get n.callers k ≡ Some c)
actor-some n k a h = by (slice_get n.callers k) h
  where
    by : (o : Option Seated) → option_map (λ (c : Seated). c.actor) o ≡ Some a → (c : Seated) × (o ≡ Some c)
    by None e = absurd (cc)
    by (Some c) e = (c, refl)

-- A turn begins.

pub begins : (n : NetState) (past : List Entry) (p k : ℕ) (caller c : Seated) → layout.IsLayout n.layout → Stands n past → layout.has_place n.layout p ≡ true
    → ((r : ℕ) → just_taken past (at r past) ≡ None) → slice_get n.callers k ≡ Some caller → c.seat ≡ caller.seat → c.actor ≡ caller.actor → IsCaller n.layout past (by k past) k c
    → InTurn n n.packets past (begun (place p n) c)
begins n past p k caller c shape w inside rests h seat actor is =
    let num = number-is n.layout p n.places in
    let lay = layout-is n p w.places in
    let back = sym lay in
    let was : (r : ℕ) → IsPlace n.layout past r (place r n) =
    λ r. record { journal = w.journal r; ports = w.ports r; once = w.once r; known = w.known r; waiting = w.waiting r; unheard = w.unheard r } in
    record {
      shape = subst layout.IsLayout back shape;
      layout = back;
      is_place = ap (λ z. layout.has_place z (place p n).number) lay ∙ (ap (layout.has_place n.layout) num ∙ inside);
      seated = ap (actor_of n) is.seat ∙ (ap (λ (o : Option Seated). option_map (λ (d : Seated). d.actor) o) h ∙ ap (λ z. Some z) (sym actor));
      run = ap (λ z. is_run z (actor_of n) past) lay ∙ w.run;
      causal = w.causal;
      looks = subst (λ z. AllLookAtHome z past) back w.looks;
      here = subst (λ z. IsPlace (place p n).layout past z (place p n)) (sym num) (subst (λ z. IsPlace z past p (place p n)) back (was p));
      there = λ r ne. subst (λ z. IsPlace z past r (place r n)) back (was r);
      resting = λ r ne. rests r;
      caller = subst (λ z. IsCaller z past (by c.seat past) c.seat c) back (subst (λ z. IsCaller n.layout past (by z past) z c) (sym is.seat) is);
      callers = λ j d ne e. subst (λ z. IsCaller z past (by j past) j d) back (w.callers j d e);
      strangers = w.strangers;
      packets = subst (λ z. ArePackets z n.packets past) back (record { order = w.order; messages = w.messages; transfers = w.transfers; asks = w.asks });
    }

-- A caller whose clock is raised is the same caller.
pub raised : (l : Layout) (past mine : List Entry) (k m : ℕ) (c : Seated) → IsCaller l past mine k c → IsCaller l past mine k (after_tick c (max c.last m))
raised l past mine k m c h =
    let old = h.clock in
    record {
      seat = h.seat;
      kind = h.kind;
      actor = h.actor;
      posts = h.posts;
      given = h.given;
      call = h.call;
      hand = h.hand;
      clock = omega (arith, old);
      stays = h.stays;
    }

-- A turn ends. `us` are the packets that the turn left in the network when it began.
module _ (n : NetState) (us : List Outgoing) (past : List Entry) (t : Turn) (w : InTurn n (put_all t.puts us) past t) (places : AreOf n.layout n.places) where
  abbrev rest : NetState
  rest = record n { packets = us }

  abbrev last : NetState
  last = ended t.caller.seat t rest

  place-is : (p : ℕ) (b : Bool) → (t.place.number == p) ≡ b → IsPlace t.place.layout past p (place p last)
  place-is p true e =
      let same : t.place.number ≡ p = eqb-true t.place.number p e in
      let inside = ap (λ z. layout.has_place z t.place.number) w.layout ∙ w.is_place in
      let here : place t.place.number last ≡ t.place = place-same n.layout t.place n.places (stands-there n t.place.number places inside) in
      subst (λ z. IsPlace t.place.layout past z (place z last)) same (subst (IsPlace t.place.layout past t.place.number) (sym here) w.here)
  place-is p false e = subst (IsPlace t.place.layout past p) (sym (place-other n.layout p t.place n.places e)) (w.there p e)

  place-now : (p : ℕ) → IsPlace n.layout past p (place p last)
  place-now p = subst (λ z. IsPlace z past p (place p last)) (sym w.layout) (place-is p (t.place.number == p) refl)

  actors : (j : ℕ) (b : Bool) → (t.caller.seat == j) ≡ b → actor_of last j ≡ actor_of n j
  actors j false e = ap (option_map (λ (c : Seated). c.actor)) (get-other n.callers t.caller.seat j t.caller (eqb-false t.caller.seat j e))
  actors j true e =
      let same : t.caller.seat ≡ j = eqb-true t.caller.seat j e in
      let one = actor-some n t.caller.seat t.caller.actor w.seated in
      subst (λ z. actor_of last z ≡ actor_of n z) same
      (ap (option_map (λ (c : Seated). c.actor)) (get-replaced n.callers t.caller.seat one.0 t.caller one.1) ∙ sym w.seated)

  caller-is : (j : ℕ) (c : Seated) (b : Bool) → (t.caller.seat == j) ≡ b → slice_get last.callers j ≡ Some c → IsCaller t.place.layout past (by j past) j c
  caller-is j c false e h = w.callers j c e (sym (get-other n.callers t.caller.seat j t.caller (eqb-false t.caller.seat j e)) ∙ h)
  caller-is j c true e h =
      let same : t.caller.seat ≡ j = eqb-true t.caller.seat j e in
      let one = actor-some n t.caller.seat t.caller.actor w.seated in
      let here : slice_get last.callers t.caller.seat ≡ Some t.caller = get-replaced n.callers t.caller.seat one.0 t.caller one.1 in
      let found : slice_get last.callers t.caller.seat ≡ Some c = ap (slice_get last.callers) same ∙ h in
      let is : t.caller ≡ c = cc in
      subst (λ z. IsCaller t.place.layout past (by z past) z c) same (subst (IsCaller t.place.layout past (by t.caller.seat past) t.caller.seat) is w.caller)

  stranger-is : (j : ℕ) (b : Bool) → (t.caller.seat == j) ≡ b → slice_get last.callers j ≡ None → by j past ≡ []
  stranger-is j false e h = w.strangers j (sym (get-other n.callers t.caller.seat j t.caller (eqb-false t.caller.seat j e)) ∙ h)
  stranger-is j true e h =
      let same : t.caller.seat ≡ j = eqb-true t.caller.seat j e in
      let one = actor-some n t.caller.seat t.caller.actor w.seated in
      let here : slice_get last.callers t.caller.seat ≡ Some t.caller = get-replaced n.callers t.caller.seat one.0 t.caller one.1 in
      let none : slice_get last.callers t.caller.seat ≡ None = ap (slice_get last.callers) same ∙ h in
      absurd (cc)

  pub ends : Stands (ended t.caller.seat t (record n { packets = us })) past
  ends =
      let lay = w.layout in
      let pk : ArePackets n.layout (put_all t.puts us) past = subst (λ z. ArePackets z (put_all t.puts us) past) (sym lay) w.packets in
      record {
        run = ap (λ z. is_run z (actor_of last) past) lay ∙ ((λ i. is_run t.place.layout (λ j. actors j (t.caller.seat == j) refl i) past) ∙ w.run);
        causal = w.causal;
        looks = subst (λ z. AllLookAtHome z past) (sym lay) w.looks;
        places = record {
          numbers = with-numbers t.place n.places ∙ places.numbers;
          layouts = with-layouts n.layout t.place n.places (sym lay) (place_numbers n.layout) places.layouts;
        };
        journal = λ p. (place-now p).journal;
        ports = λ p. (place-now p).ports;
        once = λ p. (place-now p).once;
        known = λ p. (place-now p).known;
        waiting = λ p. (place-now p).waiting;
        unheard = λ p. (place-now p).unheard;
        order = pk.order;
        messages = pk.messages;
        transfers = pk.transfers;
        asks = pk.asks;
        callers = λ j c h. subst (λ z. IsCaller z past (by j past) j c) (sym lay) (caller-is j c (t.caller.seat == j) refl h);
        strangers = λ j h. stranger-is j (t.caller.seat == j) refl h;
      }
