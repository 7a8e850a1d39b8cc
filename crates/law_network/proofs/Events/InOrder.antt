-- The new entries that an event puts in front of the past that the network stands for are those that the event said: so each
-- schedule's network stands for its history.
use Rattle.std.proofs.Common.{ℕ, ◌≡◌, ◌≢◌, ◌==◌, Bool, true, false, cond, List, [], ◌∷◌, ◌++◌, map, Option, Some, None, is_some, slice_get, append_assoc, ◌&&◌, not, refl, sym, ◌∙◌, ap, subst, inl, inr}
use Rattle.std.proofs.lemmas.Bool.{cases_Bool, eqb-true, eqb-false, eq-eqb, ne_eqb, and_parts}
use Rattle.std.proofs.lemmas.List.{append_cancel_right}
use Rattle.std.proofs.lemmas.List.Elements.{filter-append, All-nil}
use Rattle.chorus_ui.specs.declared.layout.Layout.{Layout}
use Rattle.chorus_ui.specs.Layout.{IsLayout, has_place}
use Rattle.chorus_entry.specs.Places.{place_for}
use Rattle.chorus_entry.specs.declared.entry.Entry.{Entry}
use Rattle.chorus_entry.specs.declared.command.Command.{Command}
use Rattle.chorus_entry.specs.declared.packet.Packet.{Packet}
use Rattle.chorus_world.specs.Views.{at}
use Rattle.chorus_entry.specs.Order.{is_at}
use Rattle.chorus_calls.specs.Callers.{Seated}
use Rattle.law_machine.specs.PlaceState.{PlaceState, Turn, started, newest, next_entry}
use Rattle.law_machine.specs.Own.{own}
use Rattle.law_machine.specs.PlaceMachine.{begun_by, act, work}
use Rattle.law_machine.proofs.Machine.Stays.{act-stays, work-stays}
use Rattle.law_network.specs.Packets.{first_on, rest_on}
use Rattle.law_network.specs.Network.{NetState, place_numbers, opening, Event, Enter, Act, Deliver, See, place, place_in, with_place, ended, turn_for, commanded, works_off, delivered, shown, happened, schedule}
use Rattle.law_network.specs.Stands.{Stands}
use Rattle.law_network.specs.Ready.{IsReady}
use Rattle.law_network.specs.Schedules.{may_happen, may_be}
use Rattle.law_network.proofs.Places.PlacesStay.{place-other, place-same, stands_in}
use Rattle.law_network.proofs.Places.Layouts.{schedule-keeps, schedule-places}
use Rattle.chorus_world.specs.SortingLaws.{LooksAtHome}
use Rattle.chorus_ports.specs.Table.{find, are_distinct}
use Rattle.law_network.specs.History.{newer, said_by, history, SchedulesStandInOrder}
use Rattle.law_network.proofs.Standing.Turning.{number-is, stands-there}
use Rattle.law_network.proofs.Events.EachEvent.{events-stand}
use Rattle.law_network.proofs.Events.HavePlaces.{have-places}
use Rattle.law_network.proofs.Events.Said.{said, said_with, said_on, said_at, act-goes, work-goes, newer-is}

-- entries that stand at one place alone are its view
only-here : (p : ℕ) (es : List Entry) → ((r : ℕ) → r ≢ p → at r es ≡ []) → at p es ≡ es
only-here p [] h = refl
only-here p (e ∷ es) h =
    elim (cases_Bool (is_at p e)) [
      | inl here ↦ ap (λ b. cond b (e ∷ at p es) (at p es)) here ∙ ap (λ xs. e ∷ xs) (only-here p es (λ r ne. rest r (h r ne)))
      | inr other ↦ (
          let apart : e.place ≢ p = eqb-false e.place p other in
          let mine : at e.place (e ∷ es) ≡ e ∷ at e.place es = ap (λ b. cond b (e ∷ at e.place es) (at e.place es)) (eq-eqb e.place e.place refl) in
          let both : e ∷ at e.place es ≡ [] = sym mine ∙ h e.place apart in
          absurd (cc))
    ]
  where
    go : (b : Bool) (r : ℕ) → cond b (e ∷ at r es) (at r es) ≡ [] → at r es ≡ []
    go true r k = absurd (cc)
    go false r k = k

    rest : (r : ℕ) → at r (e ∷ es) ≡ [] → at r es ≡ []
    rest r k = go (is_at r e) r k

nothing-new : (xs ys : List Entry) → xs ++ ys ≡ ys → xs ≡ []
nothing-new xs ys h = append_cancel_right xs [] ys h

-- a network whose place p has these new entries, and no other place any
new-entries : (n m : NetState) (past new fresh : List Entry) (p : ℕ) → Stands n past → Stands m (new ++ past) → (place p m).journal ≡ fresh ++ (place p n).journal → ((r : ℕ) → r ≢ p → (place r m).journal ≡ (place r n).journal) → new ≡ fresh
new-entries n m past new fresh p s t here there =
    let view : (r : ℕ) → at r new ++ at r past ≡ (place r m).journal = λ r. sym (filter-append (is_at r) new past) ∙ sym (t.journal r) in
    let away : (r : ℕ) → r ≢ p → at r new ≡ [] = λ r ne. nothing-new (at r new) (at r past) (view r ∙ there r ne ∙ s.journal r) in
    sym (only-here p new away) ∙ append_cancel_right (at p new) fresh (at p past) (view p ∙ here ∙ ap (λ es. fresh ++ es) (s.journal p))

no-entries : (n m : NetState) (past new : List Entry) → Stands n past → Stands m (new ++ past) → ((r : ℕ) → (place r m).journal ≡ (place r n).journal) → new ≡ []
no-entries n m past new s t same = new-entries n m past new [] 0 s t (same 0) (λ r ne. same r)

-- a turn at a place of the network
turn-entries : (n m : NetState) (past new : List Entry) (t u : Turn) (p : ℕ) → m.layout ≡ n.layout → m.places ≡ with_place u.place n.places → Stands n past → Stands m (new ++ past) → t.place ≡ place p n → u.place.number ≡ t.place.number → stands_in p n.places ≡ true → (fresh : List Entry) → u.place.journal ≡ fresh ++ t.place.journal → new ≡ said t u
turn-entries n m past new t u p lay places s r begins same inside fresh grows =
    let number : u.place.number ≡ p = same ∙ ap (λ (z : PlaceState). z.number) begins ∙ number-is n.layout p n.places in
    let to_places : (i : ℕ) → place i m ≡ place_in n.layout i (with_place u.place n.places) = λ i. ap (λ (l : Layout). place_in l i m.places) lay ∙ ap (place_in n.layout i) places in
    let now : place p m ≡ u.place = to_places p ∙ subst (λ i. place_in n.layout i (with_place u.place n.places) ≡ u.place) number (place-same n.layout u.place n.places (subst (λ i. stands_in i n.places ≡ true) (sym number) inside)) in
    let here : (place p m).journal ≡ fresh ++ (place p n).journal = ap (λ (z : PlaceState). z.journal) now ∙ grows ∙ ap (λ (z : PlaceState). fresh ++ z.journal) begins in
    let there : (i : ℕ) → i ≢ p → (place i m).journal ≡ (place i n).journal = λ i ne. ap (λ (z : PlaceState). z.journal) (to_places i ∙ place-other n.layout i u.place n.places (ne_eqb u.place.number i (λ e. ne (sym e ∙ number)))) in
    new-entries n m past new fresh p s r here there ∙ sym (newer-is fresh t.place.journal) ∙ ap (newer t.place.journal) (sym grows)

-- each event
given-new : (n : NetState) (past new : List Entry) (k : ℕ) (c : Command) (o : Option Seated) → ((caller : Seated) → o ≡ Some caller → has_place n.layout (place_for n.layout caller.actor c) ≡ true) → Stands n past → Stands (commanded k c o n) (new ++ past) → new ≡ said_with c o n
given-new n past new k c None inside s r = no-entries n n past new s r (λ i. refl)
given-new n past new k c (Some caller) inside s r =
    let t = turn_for c caller n in
    let u = act c t in
    let p = place_for n.layout caller.actor c in
    let g = act-goes c t in
    turn-entries n (ended k u n) past new t u p refl refl s r refl (act-stays c t).number (stands-there n p s.places (inside caller refl)) (g.newer ++ next_entry (own c t) t ∷ [])
    (g.journal ∙ sym (append_assoc g.newer (next_entry (own c t) t ∷ []) t.place.journal))

worked-new : (n : NetState) (past new : List Entry) (k x y : ℕ) (caller : Seated) (o : Option Packet) → has_place n.layout y ≡ true → Stands n past → Stands (works_off k x y caller o n) (new ++ past) → new ≡ said_on y caller o n
worked-new n past new k x y caller None inside s r = no-entries n n past new s r (λ i. refl)
worked-new n past new k x y caller (Some q) inside s r =
    let t = begun_by (place y n) caller q in
    let g = work-goes q t in
    turn-entries n (ended k (work q t) (record n { packets = rest_on x y n.packets })) past new t (work q t) y refl refl s r refl (work-stays q t).number (stands-there n y s.places inside) g.newer g.journal

delivered-new : (n : NetState) (past new : List Entry) (k x y : ℕ) (o : Option Seated) → has_place n.layout y ≡ true → Stands n past → Stands (delivered k x y o n) (new ++ past) → new ≡ said_at x y o n
delivered-new n past new k x y None inside s r = no-entries n n past new s r (λ i. refl)
delivered-new n past new k x y (Some caller) inside s r = worked-new n past new k x y caller (first_on x y n.packets) inside s r

shown-new : (n : NetState) (past new : List Entry) (k c : ℕ) (o : Option Seated) → Stands n past → Stands (shown k c o n) (new ++ past) → new ≡ []
shown-new n past new k c None s r = no-entries n n past new s r (λ i. refl)
shown-new n past new k c (Some caller) s r = no-entries n (shown k c (Some caller) n) past new s r (λ i. refl)

event-new : (n : NetState) (past new : List Entry) (e : Event) → IsLayout n.layout → may_happen e n ≡ true → Stands n past → Stands (happened e n) (new ++ past) → new ≡ said_by e n
event-new n past new (Enter actor last) shape h s r = no-entries n (happened (Enter actor last) n) past new s r (λ i. refl)
event-new n past new (Act k c) shape h s r =
    given-new n past new k c (slice_get n.callers k) (λ caller e. have-places n.layout caller.actor shape (s.callers k caller e).actor c) s r
event-new n past new (Deliver k x y) shape h s r =
    let two = and_parts (is_some (slice_get n.callers k) && has_place n.layout x && has_place n.layout y) (not (x == y)) h in
    let one = and_parts (is_some (slice_get n.callers k) && has_place n.layout x) (has_place n.layout y) two.0 in
    delivered-new n past new k x y (slice_get n.callers k) one.1 s r
event-new n past new (See k c) shape h s r = shown-new n past new k c (slice_get n.callers k) s r

-- nothing happened yet
new-place : (l : Layout) (p : ℕ) (ks : List ℕ) → place_in l p (map (started l) ks) ≡ started l p
new-place l p [] = refl
new-place l p (k ∷ ks) = go (k == p) refl (new-place l p ks)
  where
    go : (b : Bool) → (k == p) ≡ b → place_in l p (map (started l) ks) ≡ started l p → cond b (started l k) (place_in l p (map (started l) ks)) ≡ started l p
    go true e ih = ap (started l) (eqb-true k p e)
    go false e ih = ih

opened : (l : Layout) → Stands (opening l) [] × IsReady (opening l) []
opened l =
    let new : (p : ℕ) → place p (opening l) ≡ started l p = λ p. new-place l p (place_numbers l) in (
      record {
        run = refl;
        causal = record { places = λ p. tt; seats = λ p. tt; messages = λ p. tt; ports = λ p. tt };
        looks = All-nil (λ (e : Entry). LooksAtHome l e.place e.act);
        places = schedule-places l [];
        journal = λ p. ap (λ (s : PlaceState). s.journal) (new p);
        ports = λ p q. ap (λ (s : PlaceState). find q s.ports) (new p);
        once = λ p. ap (λ (s : PlaceState). are_distinct s.ports) (new p);
        known = λ p q. ap (λ (s : PlaceState). newest s q) (new p);
        waiting = λ p k. ap (λ (s : PlaceState). s.waiting k) (new p);
        unheard = λ p x. ap (λ (s : PlaceState). s.unheard x) (new p);
        order = tt;
        messages = λ x. refl;
        transfers = λ q. refl;
        asks = λ g a p h. refl;
        callers = λ k c h. absurd (cc);
        strangers = λ k h. refl;
      },
      record {
        tried = λ p k h. ap (λ (s : PlaceState). (s.waiting k).waits) (new p);
        chosen = λ p g h. refl;
        ended = λ p. refl;
      },
    )

-- so each schedule's network stands for its history
pub in-order : SchedulesStandInOrder
in-order l [] shape may = opened l
in-order l (e ∷ es) shape may =
    let two = and_parts (may_happen e (schedule l es)) (may_be l es) may in
    let old = in-order l es shape two.1 in
    let shape_n = subst IsLayout (sym (schedule-keeps l es).layout) shape in
    let next = events-stand (schedule l es) (history l es) e shape_n two.0 old.0 old.1 in
    let same : next.0 ≡ said_by e (schedule l es) = event-new (schedule l es) (history l es) next.0 e shape_n two.0 old.0 next.1.0 in
    subst (λ new. Stands (schedule l (e ∷ es)) (new ++ history l es) × IsReady (schedule l (e ∷ es)) (new ++ history l es)) same next.1
