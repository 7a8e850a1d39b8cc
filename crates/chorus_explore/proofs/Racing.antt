-- The sites behind moves: whose caller is whose, what a move makes of them, and by which entry a command is answered.
-- c is a scenario, ms are moves, i is the place of a script, k a seat, n a network, p the number of a place, d a command.
use Rattle.std.proofs.Common.{ℕ, suc, ◌≡◌, ◌==◌, Bool, true, false, cond, List, [], ◌∷◌, ◌++◌, length, map, reverse, Option, Some, None, is_some, slice_get, refl, sym, ◌∙◌, ap, ap₂, subst, arith, append_assoc}
use Rattle.std.specs.Option.{option_map}
use Rattle.std.proofs.lemmas.Bool.{false≢true, and_parts, eqb-true}
use Rattle.std.proofs.lemmas.List.{map-append, reverse-append, reverse-reverse, length-map}
use Rattle.std.proofs.lemmas.Option.{slice_get-map}
use Rattle.chorus_ui.specs.declared.layout.Layout.{Layout}
use Rattle.chorus_ui.specs.declared.ui.Ui.{Ui}
use Rattle.chorus_ui.specs.Layout.{has_place}
use Rattle.chorus_entry.specs.declared.command.Command.{Command}
use Rattle.chorus_entry.specs.declared.packet.Packet.{Packet}
use Rattle.chorus_entry.specs.Places.{place_for}
use Rattle.chorus_calls.specs.Callers.{Seated}
use Rattle.law_machine.specs.PlaceState.{PlaceState, next_entry}
use Rattle.law_machine.specs.PlaceMachine.{act, begun_by, work}
use Rattle.law_machine.specs.Own.{own}
use Rattle.law_machine.proofs.Machine.Stays.{act-stays}
use Rattle.law_network.specs.Network.{NetState, Event, Enter, Act, Deliver, See, shown, happened, commanded, delivered, works_off, place, place_in, with_place, schedule, turn_for}
use Rattle.law_network.specs.Packets.{AreByLink, first_on, rest_on}
use Rattle.law_network.specs.Calls.{first_actor, starting}
use Rattle.law_network.proofs.Links.LinkViews.{rest-order}
use Rattle.law_explore.proofs.Packets.{order-all}
use Rattle.law_network.specs.Stands.{AreOf, actor_of}
use Rattle.law_network.specs.Tasks.{Do}
use Rattle.law_network.proofs.Events.Said.{act-goes}
use Rattle.law_network.proofs.Places.Layouts.{schedule-keeps, schedule-places}
use Rattle.law_network.proofs.Places.PlacesStay.{stands_in, place-same}
use Rattle.law_network.proofs.Standing.Turning.{stands-there, actor-some}
use Rattle.law_explore.specs.declared.moves.Move.{Move}
use Rattle.law_explore.specs.Search.{IsHistory}
use Rattle.law_explore.specs.Races.{Position, event_of, is_now, position_after, is_ready_by, seat_0, may_come, replaying, IsRace}
use Rattle.law_explore.proofs.Races.{same-actors, same-layout}
use Rattle.law_replay.specs.Shown.{orders_of, race_of}
use Rattle.chorus_scene.specs.Scene.{Scene, Script}
use Rattle.chorus_report.specs.Setup.{setup_commands}
use Rattle.chorus_net.specs.Sites.{IsScheduled}
use Rattle.chorus_replay.specs.Order.{in_setup, entering}
use Rattle.chorus_replay.proofs.Callers.{actors_in, actors_by, actor_in, callers-after, actor-after, actors-append, actors-reverse, acts-none, entering-all}
use Rattle.chorus_explore.specs.Stages.{position}

-- Whose caller is whose.

pub map-reverse : {X Y : Type 0} (f : X → Y) (xs : List X) → map f (reverse xs) ≡ reverse (map f xs)
map-reverse f [] = refl
map-reverse f (x ∷ xs) =
    ap (map f) (reverse-append (x ∷ []) xs) ∙ map-append f (reverse xs) (x ∷ []) ∙ ap (λ ys. ys ++ f x ∷ []) (map-reverse f xs)
    ∙ sym (reverse-append (f x ∷ []) (map f xs))

in-by : (es : List Event) → actors_in es ≡ actors_by (map Do es)
in-by [] = refl
in-by (Enter actor last ∷ es) = ap (λ xs. actor ∷ xs) (in-by es)
in-by (Act k d ∷ es) = in-by es
in-by (Deliver k a b ∷ es) = in-by es
in-by (See k clock ∷ es) = in-by es

module _ (c : Scene) where
  abbrev pub base : List Event
  base = starting ∷ in_setup c ++ entering c

  came : reverse (actors_in (reverse base)) ≡ first_actor ∷ map (λ (script : Script). script.actor) c.scripts
  came =
      ap reverse (in-by (reverse base) ∙ ap actors_by (map-reverse Do base) ∙ actors-reverse (map Do base)) ∙ reverse-reverse (actors_by (map Do base))
      ∙ ap (λ xs. first_actor ∷ xs)
      (ap actors_by (map-append Do (in_setup c) (entering c)) ∙ actors-append (map Do (in_setup c)) (map Do (entering c))
      ∙ ap₂ (λ xs ys. xs ++ ys) (acts-none 0 (setup_commands c)) (entering-all _ c.scripts))

  pub race-layout : (race_of c).net.layout ≡ c.layout
  race-layout = (schedule-keeps c.layout (reverse base)).layout

  -- a move that comes is an event that may come
  pub record Comes (m : Move) (ms : List Move) : Type 0 where
    pub event : Event
    pub is : event_of (race_of c).net.layout seat_0 m (position c ms).left ≡ Some event
    pub ready : is_ready_by (Some event) (position c ms).net ≡ true
    pub after : position c (m ∷ ms) ≡ position_after (Some event) m (position c ms)

  ready-of : (m : Move) (ms : List Move) → may_come (race_of c).net.layout m (position c ms) ≡ true → is_ready_by (event_of (race_of c).net.layout seat_0 m (position c ms).left) (position c ms).net ≡ true
  ready-of m ms h = (and_parts (is_ready_by (event_of (race_of c).net.layout seat_0 m (position c ms).left) (position c ms).net) (is_now m (position c ms).left (position c ms).net) h).0

  pub comes : (m : Move) (ms : List Move) → may_come (race_of c).net.layout m (position c ms) ≡ true → Comes m ms
  comes m ms h = by (event_of (race_of c).net.layout seat_0 m (position c ms).left) refl (ready-of m ms h)
    where
      by : (o : Option Event) → event_of (race_of c).net.layout seat_0 m (position c ms).left ≡ o → is_ready_by o (position c ms).net ≡ true → Comes m ms
      by None e k = absurd (false≢true k)
      by (Some f) e k = record { event = f; is = e; ready = k; after = ap (λ o. position_after o m (position c ms)) e }

  pub position-layout : (ms : List Move) → IsHistory (replaying (race_of c)) ms → (position c ms).net.layout ≡ c.layout
  position-layout [] h = race-layout
  position-layout (m ∷ ms) h =
      let k = comes m ms h.0 in
      ap (λ (s : Position). s.net.layout) k.after ∙ same-layout k.event (position c ms).net k.ready ∙ position-layout ms h.1

  pub actor-at : (ms : List Move) → IsHistory (replaying (race_of c)) ms → (i : ℕ) (script : Script) → slice_get c.scripts i ≡ Some script → actor_of (position c ms).net (suc i) ≡ Some script.actor
  actor-at [] h i script e =
      actor-after c.layout (reverse base) (suc i) ∙ ap (λ xs. slice_get xs (suc i)) came
      ∙ slice_get-map (λ (s : Script). s.actor) c.scripts i ∙ ap (option_map (λ (s : Script). s.actor)) e
  actor-at (m ∷ ms) h i script e =
      let k = comes m ms h.0 in
      ap (λ (s : Position). actor_of s.net (suc i)) k.after ∙ same-actors k.event (position c ms).net k.ready (suc i) ∙ actor-at ms h.1 i script e

  -- seat 0 is there
  pub first-at : (ms : List Move) → IsHistory (replaying (race_of c)) ms → is_some (slice_get (position c ms).net.callers 0) ≡ true
  first-at ms h = let w = actor-some (position c ms).net 0 first_actor (is-first ms h) in ap is_some w.1
    where
      is-first : (ms : List Move) → IsHistory (replaying (race_of c)) ms → actor_of (position c ms).net 0 ≡ Some first_actor
      is-first [] h = actor-after c.layout (reverse base) 0 ∙ ap (λ xs. slice_get xs 0) came
      is-first (m ∷ ms) h =
          let k = comes m ms h.0 in
          ap (λ (s : Position). actor_of s.net 0) k.after ∙ same-actors k.event (position c ms).net k.ready 0 ∙ is-first ms h.1

  pub record CallerAt (ms : List Move) (i : ℕ) (actor : Ui) : Type 0 where
    pub caller : Seated
    pub is : slice_get (position c ms).net.callers (suc i) ≡ Some caller
    pub actor_is : caller.actor ≡ actor

  pub caller-at : (ms : List Move) → IsHistory (replaying (race_of c)) ms → (i : ℕ) (script : Script) → slice_get c.scripts i ≡ Some script → CallerAt ms i script.actor
  caller-at ms h i script e =
      let a = actor-at ms h i script e in
      let w = actor-some (position c ms).net (suc i) script.actor a in
      record { caller = w.0; is = w.1; actor_is = (let both : Some w.0.actor ≡ Some script.actor = sym (ap (option_map (λ (z : Seated). z.actor)) w.1) ∙ a in cc) }

-- The entry that answers.

number-in : (l : Layout) (p : ℕ) (rs : List PlaceState) → (place_in l p rs).number ≡ p
number-in l p [] = refl
number-in l p (r ∷ rs) = by (r.number == p) refl (number-in l p rs)
  where
    by : (b : Bool) → (r.number == p) ≡ b → (place_in l p rs).number ≡ p → (cond b r (place_in l p rs)).number ≡ p
    by true e ih = eqb-true r.number p e
    by false e ih = ih

-- behind what the journal was, then what else the turn appends
pub own-entry : (l : Layout) (n : NetState) (k : ℕ) (d : Command) (w : Seated) → IsScheduled l n → slice_get n.callers k ≡ Some w → has_place n.layout (place_for n.layout w.actor d) ≡ true
    → (place (place_for n.layout w.actor d) (happened (Act k d) n)).journal
    ≡ (act-goes d (turn_for d w n)).newer ++ next_entry (own d (turn_for d w n)) (turn_for d w n) ∷ (place (place_for n.layout w.actor d) n).journal
own-entry l n k d w s e has =
    let p = place_for n.layout w.actor d in
    let t = turn_for d w n in
    let now = act d t in
    let number : now.place.number ≡ p = (act-stays d t).number ∙ number-in n.layout p n.places in
    let stands : stands_in p n.places ≡ true =
    stands-there n p (subst (λ (m : NetState). AreOf m.layout m.places) (sym s.is) (subst (λ (m : Layout). AreOf m (schedule l s.events).places) (sym (schedule-keeps l s.events).layout) (schedule-places l s.events))) has in
    ap (λ o. (place p (commanded k d o n)).journal) e
    ∙ ap (λ (z : PlaceState). z.journal)
    (subst (λ (q : ℕ). place_in n.layout q (with_place now.place n.places) ≡ now.place) number (place-same n.layout now.place n.places (subst (λ (q : ℕ). stands_in q n.places ≡ true) (sym number) stands)))
    ∙ (act-goes d t).journal

at-length : {X : Type 0} (xs : List X) (x : X) (ys : List X) → slice_get (xs ++ x ∷ ys) (length xs) ≡ Some x
at-length [] x ys = refl
at-length (z ∷ xs) x ys = at-length xs x ys

pub entry-at : {X : Type 0} (old new past newer : List X) (e : X) → reverse old ≡ past → reverse new ≡ newer ++ e ∷ past → slice_get new (length old) ≡ Some e
entry-at old new past newer e was is =
    let old-is : old ≡ reverse past = sym (reverse-reverse old) ∙ ap reverse was in
    let new-is : new ≡ reverse past ++ e ∷ reverse newer =
    sym (reverse-reverse new) ∙ ap reverse is ∙ reverse-append newer (e ∷ past) ∙ ap (λ xs. xs ++ reverse newer) (reverse-append (e ∷ []) past) ∙ append_assoc (reverse past) (e ∷ []) (reverse newer) in
    ap₂ (λ xs (m : ℕ). slice_get xs m) new-is (ap length old-is) ∙ at-length (reverse past) e (reverse newer)

-- A race may begin.

packets-ordered : (l : Layout) (es : List Event) → AreByLink (schedule l es).packets
packets-ordered l [] = tt
packets-ordered l (Enter actor last ∷ es) = packets-ordered l es
packets-ordered l (See k clock ∷ es) = by (slice_get (schedule l es).callers k) (packets-ordered l es)
  where
    by : (o : Option Seated) → AreByLink (schedule l es).packets → AreByLink (shown k clock o (schedule l es)).packets
    by None h = h
    by (Some w) h = h
packets-ordered l (Act k d ∷ es) = by (slice_get (schedule l es).callers k) (packets-ordered l es)
  where
    by : (o : Option Seated) → AreByLink (schedule l es).packets → AreByLink (commanded k d o (schedule l es)).packets
    by None h = h
    by (Some w) h = order-all (act d (turn_for d w (schedule l es))).puts (schedule l es).packets h
packets-ordered l (Deliver k a b ∷ es) = by (slice_get (schedule l es).callers k) (packets-ordered l es)
  where
    off : (w : Seated) (o : Option Packet) → AreByLink (schedule l es).packets → AreByLink (works_off k a b w o (schedule l es)).packets
    off w None h = h
    off w (Some q) h = order-all (work q (begun_by (place b (schedule l es)) w q)).puts (rest_on a b (schedule l es).packets) (rest-order a b (schedule l es).packets h)

    by : (o : Option Seated) → AreByLink (schedule l es).packets → AreByLink (delivered k a b o (schedule l es)).packets
    by None h = h
    by (Some w) h = off w (first_on a b (schedule l es).packets) h

pub is-race : (c : Scene) → IsRace (race_of c)
is-race c =
    let l = c.layout in
    let es = reverse (base c) in
    let callers = ap length (callers-after l es) in
    let mapped = length-map (schedule l es).callers actor_in in
    let all = ap length (came c) in
    let actors = length-map c.scripts (λ (script : Script). script.actor) in
    let scripts = length-map c.scripts orders_of in
    record { order = packets-ordered l es; seats = omega (arith, callers, mapped, all, actors, scripts) }
