-- Every event stands: it puts new entries in front of a past that the network stands for, and is ready again.
use Rattle.std.proofs.Common.{ℕ, ◌≡◌, ◌==◌, max, Bool, true, false, ◌&&◌, not, List, [], Option, Some, None, is_some, refl, sym, ◌∙◌, ap, subst, arith}
use Rattle.std.specs.Prelude.{slice_get}
use Rattle.std.proofs.lemmas.Bool.{and_parts, eqb-true, false≢true}
use Rattle.chorus_ui.specs.declared.ui.Ui.{Ui}
use Rattle.chorus_ui.specs.Layout.{IsLayout, has_place, has_actor}
use Rattle.chorus_entry.specs.declared.entry.Entry.{Entry}
use Rattle.chorus_entry.specs.declared.command.Command.{Command}
use Rattle.chorus_entry.specs.declared.packet.Packet.{Packet}
use Rattle.chorus_entry.specs.Command.{meets_conditions, has_body_in_limit}
use Rattle.chorus_ui.specs.NameKind.{is_actor}
use Rattle.chorus_entry.specs.Places.{place_for}
use Rattle.chorus_world.specs.Views.{at, by}
use Rattle.chorus_world.specs.Places.{just_taken}
use Rattle.chorus_world.specs.Groups.{posts_to, is_choosing_place, unchosen}
use Rattle.chorus_calls.specs.Callers.{Seated, after_tick}
use Rattle.place_unsettled.specs.declared.wait.Key.{Key}
use Rattle.law_machine.specs.declared.outgoing.Outgoing.{Outgoing}
use Rattle.law_machine.specs.PlaceState.{Turn, PlaceState}
use Rattle.law_machine.specs.PlaceMachine.{begun, begun_by, act, work}
use Rattle.law_machine.proofs.Machine.Stays.{act-stays, work-stays}
use Rattle.law_machine.proofs.Machine.Ready.{ReadyHere, acts-ready, works-ready}
use Rattle.law_network.specs.Packets.{first_on, rest_on}
use Rattle.law_network.specs.Network.{NetState, Event, Enter, Act, Deliver, See, place, ended, turn_for, commanded, works_off, delivered, happened, entered}
use Rattle.law_network.specs.Stands.{Stands}
use Rattle.law_network.specs.Ready.{IsReady}
use Rattle.law_network.specs.Schedules.{may_happen, may_give, has_number_left}
use Rattle.law_network.proofs.Places.PlacesStay.{place-other, place-same}
use Rattle.law_network.proofs.Standing.Onward.{Onward, stay, maps}
use Rattle.law_network.proofs.Standing.Leading.{Calm, LeadsOn}
use Rattle.law_network.proofs.Standing.Turning.{begins, raised, ends, number-is, layout-is, stands-there}
use Rattle.law_network.specs.History.{EventsStand}
use Rattle.law_network.proofs.Events.Entering.{enters}
use Rattle.law_network.proofs.Events.Seeing.{shown-stands}
use Rattle.law_network.proofs.Events.HavePlaces.{have-places}
use Rattle.law_network.proofs.Events.Cases.{commands-stand, packets-stand}
use Rattle.law_network.proofs.Standing.Given.{IsGiven, Comes}

-- The places behind a turn are ready.
module _ (n : NetState) (us : List Outgoing) (past : List Entry) (t : Turn) (i : Calm n us past t) (here : ReadyHere t) (old : List Entry) (was : Stands n old) (before : IsReady n old) where
  abbrev rest : NetState
  rest = record n { packets = us }

  abbrev last : NetState
  last = ended t.caller.seat t rest

  place-is : place t.place.number last ≡ t.place
  place-is = place-same n.layout t.place n.places (stands-there n t.place.number was.places (ap (λ z. has_place z t.place.number) i.stood.layout ∙ i.stood.is_place))

  other-is : (p : ℕ) → (t.place.number == p) ≡ false → place p last ≡ place p n
  other-is p e = place-other n.layout p t.place n.places e

  -- the view of another place
  same-view : (p : ℕ) → (t.place.number == p) ≡ false → at p past ≡ at p old
  same-view p e = sym (i.stood.there p e).journal ∙ was.journal p

  pub ready-behind : IsReady (ended t.caller.seat t (record n { packets = us })) past
  ready-behind =
      record {
        tried = λ p k h. go-tried p k (t.place.number == p) refl h;
        chosen = λ p g h. go-chosen p g (t.place.number == p) refl h;
        ended = λ p. go-ended p (t.place.number == p) refl;
      }
    where
      go-tried : (p : ℕ) (k : Key) (b : Bool) → (t.place.number == p) ≡ b → ((place p last).waiting k).tried ≡ None → ((place p last).waiting k).waits ≡ []
      go-tried p k false e h =
          let o = other-is p e in
          ap (λ (s : PlaceState). (s.waiting k).waits) o ∙ before.tried p k (ap (λ (s : PlaceState). (s.waiting k).tried) (sym o) ∙ h)
      go-tried p k true e h =
          let o : place p last ≡ t.place = subst (λ z. place z last ≡ t.place) (eqb-true t.place.number p e) place-is in
          ap (λ (s : PlaceState). (s.waiting k).waits) o ∙ here.tried k (ap (λ (s : PlaceState). (s.waiting k).tried) (sym o) ∙ h)

      go-chosen : (p : ℕ) (g : Ui) (b : Bool) → (t.place.number == p) ≡ b → is_choosing_place n.layout g p p ≡ true → unchosen (at p past) (posts_to g (at p past)) ≡ []
      go-chosen p g false e h = ap (λ v. unchosen v (posts_to g v)) (same-view p e) ∙ before.chosen p g h
      go-chosen p g true e h =
          let same : t.place.number ≡ p = eqb-true t.place.number p e in
          subst (λ z. unchosen (at z past) (posts_to g (at z past)) ≡ []) same
          (ap (λ v. unchosen v (posts_to g v)) (sym i.stood.here.journal) ∙ here.chosen g ((λ j. is_choosing_place (sym i.stood.layout j) g (same j) (same j)) ∙ h))

      go-ended : (p : ℕ) (b : Bool) → (t.place.number == p) ≡ b → just_taken past (at p past) ≡ None
      go-ended p false e = i.stood.resting p e
      go-ended p true e = subst (λ z. just_taken past (at z past) ≡ None) (eqb-true t.place.number p e) i.rests

-- what holds of a network behind an event
abbrev pub Stays : NetState → List Entry → Type 0
Stays n old = Onward (λ now. Stands n now × IsReady n now) old

-- a turn that leads on from a network that stands leaves one that stands
turned : (n : NetState) (us : List Outgoing) (t : Turn) (k : ℕ) (old : List Entry) → Stands n old → IsReady n old → t.caller.seat ≡ k → LeadsOn n us old t → ReadyHere t → Stays (ended k t (record n { packets = us })) old
turned n us t k old was before seat h ready =
    subst (λ z. Stays (ended z t (record n { packets = us })) old) seat
    (maps (λ now. Calm n us now t) (λ now. Stands (ended t.caller.seat t (record n { packets = us })) now × IsReady (ended t.caller.seat t (record n { packets = us })) now) old h
    (λ now i. (ends n us now t i.stood was.places, ready-behind n us now t i ready old was before)))

ready-now : (n : NetState) (past : List Entry) (p : ℕ) (c : Seated) → Stands n past → IsReady n past → ReadyHere (begun (place p n) c)
ready-now n past p c w r =
    let num = number-is n.layout p n.places in
    let lay = layout-is n p w.places in
    record {
      tried = r.tried p;
      chosen = λ g h. ap (λ v. unchosen v (posts_to g v)) (w.journal p) ∙ (
          r.chosen p g ((λ j. is_choosing_place (sym lay j) g (sym num j) (sym num j)) ∙ h));
    }

given-stands : (n : NetState) (past : List Entry) (k : ℕ) (c : Command) (o : Option Seated) → IsLayout n.layout → Stands n past → IsReady n past → slice_get n.callers k ≡ o → may_give o c ≡ true → Stays (commanded k c o n) past
given-stands n past k c None shape w r e h = absurd (false≢true h)
given-stands n past k c (Some caller) shape w r e h =
    let is = w.callers k caller e in
    let p = place_for n.layout caller.actor c in
    let t = turn_for c caller n in
    let three = and_parts (meets_conditions c && has_body_in_limit c) (has_number_left caller c) h in
    let two = and_parts (meets_conditions c) (has_body_in_limit c) three.0 in
    let stood = begins n past p k caller caller shape w (have-places n.layout caller.actor shape is.actor c) r.ended e refl refl is in
    let num = number-is n.layout p n.places in
    let lay = layout-is n p w.places in
    let given : IsGiven n n.packets past t c =
    record {
      stood = stood;
      rests = subst (λ z. just_taken past (at z past) ≡ None) (sym num) (r.ended p);
      place = num ∙ ap (λ z. place_for z caller.actor c) (sym lay);
      conditions = two.0;
    } in
    turned n n.packets (act c t) k past w r ((act-stays c t).seat ∙ is.seat)
    (commands-stand n n.packets past t c refl given (ready-now n past p caller w r) three.1) (acts-ready c t (ready-now n past p caller w r))

worked-stands : (n : NetState) (past : List Entry) (k a b : ℕ) (caller : Seated) (o : Option Packet) → IsLayout n.layout → Stands n past → IsReady n past → slice_get n.callers k ≡ Some caller → has_place n.layout b ≡ true → (a == b) ≡ false
    → first_on a b n.packets ≡ o → Stays (works_off k a b caller o n) past
worked-stands n past k a b caller None shape w r e inside apart f = stay (λ now. Stands n now × IsReady n now) past (w, r)
worked-stands n past k a b caller (Some q) shape w r e inside apart f =
    let is = raised n.layout past (by k past) k q.clock caller (w.callers k caller e) in
    let c = after_tick caller (max caller.last q.clock) in
    let t = begun_by (place b n) caller q in
    let stood = begins n past b k caller c shape w inside r.ended e refl refl is in
    let num = number-is n.layout b n.places in
    let comes : Comes n n.packets past t a q =
    record {
      calm = record { stood = stood; rests = subst (λ z. just_taken past (at z past) ≡ None) (sym num) (r.ended b) };
      none = refl;
      first = ap (λ z. first_on a z n.packets) num ∙ f;
      clock = omega arith;
    } in
    let leaves : LeadsOn n (rest_on a t.place.number n.packets) past (work q t) = packets-stand n n.packets past t a q comes (ap (λ z. a == z) num ∙ apart) in
    turned n (rest_on a b n.packets) (work q t) k past w r ((work-stays q t).seat ∙ is.seat)
    (subst (λ z. LeadsOn n (rest_on a z n.packets) past (work q t)) num leaves) (works-ready q t (ready-now n past b c w r))

delivered-stands : (n : NetState) (past : List Entry) (k a b : ℕ) (o : Option Seated) → IsLayout n.layout → Stands n past → IsReady n past → slice_get n.callers k ≡ o → has_place n.layout b ≡ true → (a == b) ≡ false → Stays (delivered k a b o n) past
delivered-stands n past k a b None shape w r e inside apart = stay (λ now. Stands n now × IsReady n now) past (w, r)
delivered-stands n past k a b (Some caller) shape w r e inside apart = worked-stands n past k a b caller (first_on a b n.packets) shape w r e inside apart refl

not-true : (b : Bool) → not b ≡ true → b ≡ false
not-true true h = absurd (false≢true h)
not-true false h = refl

event-stays : (n : NetState) (past : List Entry) (e : Event) → IsLayout n.layout → may_happen e n ≡ true → Stands n past → IsReady n past → Stays (happened e n) past
event-stays n past (Enter actor last) shape h w r =
    let two = and_parts (is_actor actor) (has_actor n.layout actor) h in
    stay (λ now. Stands (entered actor last n) now × IsReady (entered actor last n) now) past
    (enters n past actor last two.0 two.1 w, record { tried = r.tried; chosen = r.chosen; ended = r.ended })
event-stays n past (Act k c) shape h w r = given-stands n past k c (slice_get n.callers k) shape w r refl h
event-stays n past (Deliver k a b) shape h w r =
    let two = and_parts (is_some (slice_get n.callers k) && has_place n.layout a && has_place n.layout b) (not (a == b)) h in
    let one = and_parts (is_some (slice_get n.callers k) && has_place n.layout a) (has_place n.layout b) two.0 in
    delivered-stands n past k a b (slice_get n.callers k) shape w r refl one.1 (not-true (a == b) two.1)
event-stays n past (See k c) shape h w r =
    let now = happened (See k c) n in
    stay (λ past. Stands now past × IsReady now past) past (shown-stands n past k c (slice_get n.callers k) refl w r)

pub events-stand : EventsStand
events-stand n past e shape h w r =
    let s = event-stays n past e shape h w r in
    (s.1.0.0, subst (λ now. Stands (happened e n) now × IsReady (happened e n) now) s.1.0.1 s.1.1)
