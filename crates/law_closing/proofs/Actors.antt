-- Those who came, in given actors.
use Rattle.std.proofs.Common.{ℕ, zero, suc, ◌≡◌, ◌+◌, ◌<◌, ◌≤◌, Bool, true, false, cond, List, [], ◌∷◌, length, map, Option, Some, None, slice_get, refl, sym, ◌∙◌, ap, subst, inl, inr, arith}
use Rattle.std.specs.List.{All, filter, Contains}
use Rattle.std.specs.Option.{option_map}
use Rattle.std.proofs.lemmas.Bool.{cases_lt}
use Rattle.std.proofs.lemmas.List.Elements.{All-nil, All-cons, All-head, All-tail, All-contains}
use Rattle.chorus_ui.specs.declared.ui.Ui.{Ui}
use Rattle.chorus_ui.specs.declared.layout.Layout.{Layout}
use Rattle.chorus_ui.specs.Layout.{has_actor}
use Rattle.chorus_ui.specs.NameKind.{is_actor}
use Rattle.chorus_entry.specs.declared.packet.Packet.{Packet}
use Rattle.chorus_calls.specs.Callers.{Seated, new_caller, raised}
use Rattle.law_machine.specs.PlaceState.{PlaceState}
use Rattle.chorus_turn.specs.declared.knowledge.Placed.{Placed}
use Rattle.chorus_turn.specs.declared.knowledge.Note.{Note}
use Rattle.chorus_turn.specs.declared.knowledge.Knowledge.{Knowledge}
use Rattle.chorus_turn.specs.Knowing.{seats_of}
use Rattle.law_history.specs.Histories.{Follows}
use Rattle.law_history.specs.Network.{Network}
use Rattle.law_history.specs.PlaceTurns.{machine}
use Rattle.law_history.specs.Runs.{actor_among}
use Rattle.law_history.specs.Journals.{PlaceTurn, Comer, IsComer, new_from, AreHistories}
use Rattle.law_closing.specs.Places.{PlaceNote}
use Rattle.law_closing.specs.Remarks.{turn_of, begins, turns_in}
use Rattle.law_closing.specs.Actors.{AreIn, AreActors, ClosedPlacesHaveHistoriesIn}
use Rattle.law_closing.proofs.Places.{closed-places}

abbrev InTurn : Ui → PlaceTurn → Type 0
InTurn actor t = t.before.actor ≡ actor

abbrev firsts : List (Placed PlaceNote) → List (Placed PlaceNote)
firsts made = filter (λ (m : Placed PlaceNote). begins m.remarked) made

abbrev turns_of : List (Placed PlaceNote) → List PlaceTurn
turns_of made = map (λ (m : Placed PlaceNote). turn_of m.place m.remarked) made

one-more : (actor : Ui) (m : Placed PlaceNote) (ms : List (Placed PlaceNote)) (b : Bool) → m.remarked.remark.before.actor ≡ actor → All (InTurn actor) (turns_of ms) → All (InTurn actor) (turns_of (cond b (m ∷ ms) ms))
one-more actor m ms true is more = All-cons (InTurn actor) (turn_of m.place m.remarked) (turns_of ms) is more
one-more actor m ms false is more = more

turns-in : (actor : Ui) (made : List (Placed PlaceNote)) → AreIn actor made → All (InTurn actor) (turns_in made)
turns-in actor [] h = All-nil (InTurn actor)
turns-in actor (m ∷ ms) h =
    one-more actor m (firsts ms) (begins m.remarked) (All-head (λ (m : Placed PlaceNote). m.remarked.remark.before.actor ≡ actor) m ms h)
    (turns-in actor ms (All-tail (λ (m : Placed PlaceNote). m.remarked.remark.before.actor ≡ actor) m ms h))

abbrev in_actor : Ui → Comer → Comer
in_actor a c = record { actor = a; last = c.last }

abbrev in_actors : (ℕ → Ui) → ℕ → List Comer → List Comer
in_actors actors i [] = []
in_actors actors i (c ∷ cs) = in_actor (actors i) c ∷ in_actors actors (i + 1) cs

in-count : (actors : ℕ → Ui) (i : ℕ) (cs : List Comer) → length (in_actors actors i cs) ≡ length cs
in-count actors i [] = refl
in-count actors i (c ∷ cs) = ap suc (in-count actors (i + 1) cs)

in-at : (actors : ℕ → Ui) (i : ℕ) (cs : List Comer) (q : ℕ) → slice_get (in_actors actors i cs) q ≡ option_map (in_actor (actors (i + q))) (slice_get cs q)
in-at actors i [] q = refl
in-at actors i (c ∷ cs) zero = (let e : i ≡ i + 0 = omega arith in ap (λ j. Some (in_actor (actors j) c)) e)
in-at actors i (c ∷ cs) (suc q) = (let e : i + 1 + q ≡ i + suc q = omega arith in in-at actors (i + 1) cs q ∙ ap (λ j. option_map (in_actor (actors j)) (slice_get cs q)) e)

in-layout : (l : Layout) (actors : ℕ → Ui) (n i : ℕ) (cs : List Comer) → i + length cs ≡ n → ((q : ℕ) → q < n → is_actor (actors q) ≡ true) → ((q : ℕ) → q < n → has_actor l (actors q) ≡ true)
    → All (IsComer l) (in_actors actors i cs)
in-layout l actors n i [] end kinds has = All-nil (IsComer l)
in-layout l actors n i (c ∷ cs) end kinds has =
    All-cons (IsComer l) (in_actor (actors i) c) (in_actors actors (i + 1) cs) (record { kind = kinds i (omega (arith, end)); actor = has i (omega (arith, end)) })
    (in-layout l actors n (i + 1) cs (omega (arith, end)) kinds has)

-- a caller that takes a turn in the actor came in it
same-new : (q : ℕ) (a : Ui) (o : Option Comer) (w : Seated) → w ≡ raised w.last (new_from q o) → w.actor ≡ a → raised w.last (new_from q o) ≡ raised w.last (new_from q (option_map (in_actor a) o))
same-new q a None w e is = refl
same-new q a (Some c) w e is = ap (λ z. raised w.last (new_caller q z c.last)) (sym (ap (λ (x : Seated). x.actor) e) ∙ is)

-- the caller at the end: that of the last turn; where there is none, the new one
abbrev ends_with : List PlaceTurn → Seated → Seated → Seated
ends_with [] new last = new
ends_with (t ∷ ts) new last = last

follows-in : (l : Layout) (q : ℕ) (a : Ui) (o : Option Comer) (ts : List PlaceTurn) (last : Seated) → All (InTurn a) ts → Follows (machine l) (new_from q o) ts last
    → Follows (machine l) (new_from q (option_map (in_actor a) o)) ts (ends_with ts (new_from q (option_map (in_actor a) o)) last)
follows-in l q a o [] last all h = refl
follows-in l q a o (t ∷ ts) last all h = (h.0 ∙ same-new q a o t.before h.0 (All-head (InTurn a) t ts all), h.1)

none-in : (a : Ui) (o : Option Comer) → option_map (in_actor a) o ≡ None → o ≡ None
none-in a None e = refl
none-in a (Some c) e = absurd (cc)

there : (cs : List Comer) (q : ℕ) → q < length cs → (c : Comer) × (slice_get cs q ≡ Some c)
there [] q lt = absurd (omega (arith, lt))
there (c ∷ cs) zero lt = (c, refl)
there (c ∷ cs) (suc q) lt = there cs q (omega (arith, lt))

beyond : (cs : List Comer) (q : ℕ) → length cs ≤ q → slice_get cs q ≡ None
beyond [] q le = refl
beyond (c ∷ cs) zero le = absurd (omega (arith, le))
beyond (c ∷ cs) (suc q) le = beyond cs q (omega (arith, le))

module _ (l : Layout) (actors : ℕ → Ui) (v : Knowledge PlaceNote) (is : AreActors l actors v) (comers : List Comer) (of_places of_seats : ℕ → List PlaceTurn) (closing : Network PlaceState Seated Packet) (h : AreHistories l comers of_places of_seats closing)
    (count : length comers ≡ v.made) (mine : of_seats v.seat ≡ turns_in v.mine) (noted : All (λ (n : Note PlaceNote). of_seats n.seat ≡ turns_in n.mine) v.notes)
    (every : (q : ℕ) → q < v.made → Contains (v.seat ∷ seats_of v.notes) q) where
  abbrev Acts : ℕ → Type 0
  Acts q = All (InTurn (actors q)) (of_seats q)

  noted-acts : (ns : List (Note PlaceNote)) → All (λ (n : Note PlaceNote). AreIn (actors n.seat) n.mine) ns → All (λ (n : Note PlaceNote). of_seats n.seat ≡ turns_in n.mine) ns → All Acts (seats_of ns)
  noted-acts [] a b = All-nil Acts
  noted-acts (n ∷ ns) a b =
      All-cons Acts n.seat (seats_of ns)
      (subst (All (InTurn (actors n.seat))) (sym (All-head (λ (n : Note PlaceNote). of_seats n.seat ≡ turns_in n.mine) n ns b))
      (turns-in (actors n.seat) n.mine (All-head (λ (n : Note PlaceNote). AreIn (actors n.seat) n.mine) n ns a)))
      (noted-acts ns (All-tail (λ (n : Note PlaceNote). AreIn (actors n.seat) n.mine) n ns a) (All-tail (λ (n : Note PlaceNote). of_seats n.seat ≡ turns_in n.mine) n ns b))

  acts : (q : ℕ) → Acts q
  acts q =
      elim (cases_lt q v.made) [
        | inl lt ↦
            All-contains Acts (v.seat ∷ seats_of v.notes) q
            (All-cons Acts v.seat (seats_of v.notes) (subst (All (InTurn (actors v.seat))) (sym mine) (turns-in (actors v.seat) v.mine is.own)) (noted-acts v.notes is.noted noted)) (every q lt)
        | inr le ↦ (let n = count in subst (All (InTurn (actors q))) (sym (h.no_caller q (beyond comers q (omega (arith, le, n))))) (All-nil (InTurn (actors q))))
      ]

  abbrev pub came_in : List Comer
  came_in = in_actors actors 0 comers

  came-at : (q : ℕ) → slice_get came_in q ≡ option_map (in_actor (actors q)) (slice_get comers q)
  came-at q = (let e : 0 + q ≡ q = omega arith in in-at actors 0 comers q ∙ ap (λ j. option_map (in_actor (actors j)) (slice_get comers q)) e)

  abbrev pub closing_in : Network PlaceState Seated Packet
  closing_in = record {
    places = closing.places;
    links = closing.links;
    callers = λ q. ends_with (of_seats q) (new_from q (slice_get came_in q)) (closing.callers q);
  }

  pub histories-in : AreHistories l came_in of_places of_seats closing_in
  histories-in = record {
    came = in-layout l actors v.made 0 comers (let n = count in omega (arith, n)) is.kinds is.has;
    histories = record {
      takes = h.histories.takes;
      follows = λ q.
          subst (λ o. Follows (machine l) (new_from q o) (of_seats q) (ends_with (of_seats q) (new_from q o) (closing.callers q))) (sym (came-at q))
          (follows-in l q (actors q) (slice_get comers q) (of_seats q) (closing.callers q) (acts q) (h.histories.follows q));
      shared = h.histories.shared;
      in_order = h.histories.in_order;
    };
    no_caller = λ q none. h.no_caller q (none-in (actors q) (slice_get comers q) (sym (came-at q) ∙ none));
  }

  pub who-came : (q : ℕ) → q < v.made → actor_among came_in q ≡ Some (actors q)
  who-came q lt =
      (let n = count in let c = there comers q (omega (arith, lt, n)) in
      ap (option_map (λ (z : Comer). z.actor)) (came-at q ∙ ap (option_map (in_actor (actors q))) c.1))

pub closed-places-in : ClosedPlacesHaveHistoriesIn
closed-places-in l actors log v end pushed out popped hand left shape h is =
    let k = closed-places l log v end pushed out popped hand left shape h in
    let every = h.finished.every in
    record {
      histories = record {
        comers = in_actors actors 0 k.comers;
        of_places = k.of_places;
        of_seats = k.of_seats;
        closing = closing_in l actors v is k.comers k.of_places k.of_seats k.closing k.histories k.count k.mine k.noted every;
        histories = histories-in l actors v is k.comers k.of_places k.of_seats k.closing k.histories k.count k.mine k.noted every;
        count = in-count actors 0 k.comers ∙ k.count;
        ends = k.ends;
        rest = k.rest;
        made = k.made;
        mine = k.mine;
        noted = k.noted;
      };
      who = who-came l actors v is k.comers k.of_places k.of_seats k.closing k.histories k.count k.mine k.noted every;
    }
