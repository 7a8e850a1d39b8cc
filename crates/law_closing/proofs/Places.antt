-- The places of this project: the callers of the general law are new, so they came.
use Rattle.std.proofs.Common.{ℕ, zero, suc, ◌≡◌, ◌<◌, ◌≤◌, ◌+◌, ◌==◌, nat_lt, Bool, true, false, ◌&&◌, cond, List, [], ◌∷◌, length, Option, Some, None, slice_get, is_none, refl, sym, ◌∙◌, ap, subst, inl, inr, arith}
use Rattle.std.specs.List.{All}
use Rattle.std.proofs.lemmas.Bool.{and_parts, and_from, eqb-true, eq-eqb, le-leb, lt-ltb, le-ltb, cases_lt, false≢true}
use Rattle.std.proofs.lemmas.List.Elements.{All-nil, All-cons}
use Rattle.chorus_ui.specs.declared.layout.Layout.{Layout}
use Rattle.chorus_ui.specs.Layout.{places, has_actor, IsLayout}
use Rattle.chorus_entry.specs.declared.hand.Hand.{Hand}
use Rattle.chorus_entry.specs.declared.packet.Packet.{Packet}
use Rattle.chorus_ui.specs.NameKind.{is_actor}
use Rattle.chorus_calls.specs.Clients.{Call}
use Rattle.chorus_calls.specs.Callers.{Seated, new_caller}
use Rattle.chorus_turn.specs.declared.knowledge.Remarked.{Remarked}
use Rattle.chorus_turn.specs.declared.knowledge.Knowledge.{Knowledge}
use Rattle.law_machine.specs.PlaceState.{PlaceState, started}
use Rattle.law_network.specs.Calls.{first_actor}
use Rattle.law_history.specs.Network.{Network}
use Rattle.law_history.specs.Histories.{Follows}
use Rattle.law_history.specs.PlaceTurns.{machine}
use Rattle.law_history.specs.Journals.{Comer, IsComer, new_from}
use Rattle.law_history.proofs.Rising.{place-rises}
use Rattle.law_closing.specs.Closing.{HasSchedule}
use Rattle.law_closing.specs.Places.{PlaceNote, is_new, HaveHistories, ClosedPlacesHaveHistories}
use Rattle.law_closing.proofs.Schedules.{closed}

-- A new caller is one, in an actor of the layout.

no-call : (o : Option Call) → is_none o ≡ true → o ≡ None
no-call None h = refl
no-call (Some c) h = absurd (false≢true h)

no-hand : (o : Option Hand) → is_none o ≡ true → o ≡ None
no-hand None h = refl
no-hand (Some h) e = absurd (false≢true e)

record IsNew (l : Layout) (q : ℕ) (w : Seated) : Type 0 where
  pub is : w ≡ new_caller q w.actor w.last
  pub kind : is_actor w.actor ≡ true
  pub actor : has_actor l w.actor ≡ true

made-new : (l : Layout) (q : ℕ) (w : Seated) → is_new l q w ≡ true → IsNew l q w
made-new l q w h =
    let seven = and_parts ((w.seat == q) && (w.posts == 0) && (w.client.given == 0) && is_none w.client.outstanding && is_none w.hand && is_actor w.actor) (has_actor l w.actor) h in
    let six = and_parts ((w.seat == q) && (w.posts == 0) && (w.client.given == 0) && is_none w.client.outstanding && is_none w.hand) (is_actor w.actor) seven.0 in
    let five = and_parts ((w.seat == q) && (w.posts == 0) && (w.client.given == 0) && is_none w.client.outstanding) (is_none w.hand) six.0 in
    let four = and_parts ((w.seat == q) && (w.posts == 0) && (w.client.given == 0)) (is_none w.client.outstanding) five.0 in
    let three = and_parts ((w.seat == q) && (w.posts == 0)) (w.client.given == 0) four.0 in
    let two = and_parts (w.seat == q) (w.posts == 0) three.0 in
    let seat : w.seat ≡ q = eqb-true w.seat q two.0 in
    let posts : w.posts ≡ 0 = eqb-true w.posts 0 two.1 in
    let given : w.client.given ≡ 0 = eqb-true w.client.given 0 three.1 in
    let call : w.client.outstanding ≡ None = no-call w.client.outstanding four.1 in
    let hand : w.hand ≡ None = no-hand w.hand five.1 in
    record {
      is = λ i. record { seat = seat i; actor = w.actor; last = w.last; posts = posts i; client = record { outstanding = call i; given = given i }; hand = hand i };
      kind = six.1;
      actor = seven.1;
    }

-- there is one for each seat: in the first actor
first-new : (l : Layout) → IsLayout l → (q : ℕ) → (w : Seated) × (is_new l q w ≡ true)
first-new l shape q =
    (new_caller q first_actor 0, and_from ((q == q) && true && true && true && true && true) (has_actor l first_actor) (go (q == q) (eq-eqb q q refl)) there)
  where
    go : (b : Bool) → b ≡ true → b && true && true && true && true && true ≡ true
    go true h = refl
    go false h = h

    there : has_actor l first_actor ≡ true
    there = ap (λ b. b && true && true) (le-leb 1 l.sites shape.sites_from_one)

-- Those who came, by seats from i on.

abbrev comer_of : Seated → Comer
comer_of w = record { actor = w.actor; last = w.last }

abbrev came : (ℕ → Seated) → ℕ → ℕ → List Comer
came callers zero i = []
came callers (suc n) i = comer_of (callers i) ∷ came callers n (i + 1)

came-length : (callers : ℕ → Seated) (n i : ℕ) → length (came callers n i) ≡ n
came-length callers zero i = refl
came-length callers (suc n) i = ap suc (came-length callers n (i + 1))

came-well : (l : Layout) (callers : ℕ → Seated) (n i : ℕ) → ((q : ℕ) → IsNew l q (callers q)) → All (IsComer l) (came callers n i)
came-well l callers zero i new = All-nil (IsComer l)
came-well l callers (suc n) i new =
    let own = new i in
    All-cons (IsComer l) (comer_of (callers i)) (came callers n (i + 1)) (record { kind = own.kind; actor = own.actor })
    (came-well l callers n (i + 1) new)

came-in : (callers : ℕ → Seated) (n i q : ℕ) → q < n → slice_get (came callers n i) q ≡ Some (comer_of (callers (i + q)))
came-in callers zero i q lt = absurd (omega (arith, lt))
came-in callers (suc n) i zero lt = (let e : i ≡ i + 0 = omega arith in ap (λ j. Some (comer_of (callers j))) e)
came-in callers (suc n) i (suc q) lt =
    (let e : i + 1 + q ≡ i + suc q = omega arith in
    came-in callers n (i + 1) q (omega (arith, lt)) ∙ ap (λ j. Some (comer_of (callers j))) e)

-- So the histories of the general law are histories of those who came.

module _ (l : Layout) (shape : IsLayout l) (log : ℕ → List (Remarked PlaceNote)) (v : Knowledge PlaceNote) (end : ℕ → PlaceState) (out hand left : ℕ → ℕ → List Packet) (has : HasSchedule (machine l) (is_new l) (started l) (places l) log v end out hand left) where
  abbrev comers : List Comer
  comers = came has.callers v.made 0

  new : (q : ℕ) → IsNew l q (has.callers q)
  new q = made-new l q (has.callers q) (has.new q)

  -- the caller of a seat that was drawn is the new one of the comer
  same-caller : (q : ℕ) → q < v.made → new_from q (slice_get comers q) ≡ has.callers q
  same-caller q lt =
      let own = new q in
      let e : 0 + q ≡ q = omega arith in
      ap (new_from q) (came-in has.callers v.made 0 q lt ∙ ap (λ j. Some (comer_of (has.callers j))) e) ∙ sym own.is

  abbrev callers_end : ℕ → Seated
  callers_end q = cond (nat_lt q v.made) (has.closing.callers q) (new_from q (slice_get comers q))

  abbrev closing : Network PlaceState Seated Packet
  closing = record { places = has.closing.places; links = has.closing.links; callers = callers_end }

  follows-on : (q : ℕ) → Follows (machine l) (new_from q (slice_get comers q)) (has.seats q) (callers_end q)
  follows-on q =
      elim (cases_lt q v.made) [
        | inl lt ↦
            (let last : has.closing.callers q ≡ callers_end q = sym (ap (λ b. cond b (has.closing.callers q) (new_from q (slice_get comers q))) (lt-ltb q v.made lt)) in
            subst (λ w. Follows (machine l) w (has.seats q) (callers_end q)) (sym (same-caller q lt))
            (subst (λ w. Follows (machine l) (has.callers q) (has.seats q) w) last (has.histories.follows q)))
        | inr le ↦
            (let last : new_from q (slice_get comers q) ≡ callers_end q = sym (ap (λ b. cond b (has.closing.callers q) (new_from q (slice_get comers q))) (le-ltb q v.made le)) in
            subst (λ ts. Follows (machine l) (new_from q (slice_get comers q)) ts (callers_end q)) (sym (has.undrawn q le)) last)
      ]

  nobody : (q : ℕ) → slice_get comers q ≡ None → has.seats q ≡ []
  nobody q none =
      elim (cases_lt q v.made) [
        | inl lt ↦ absurd (let e = sym none ∙ came-in has.callers v.made 0 q lt in cc)
        | inr le ↦ has.undrawn q le
      ]

  pub have-histories : HaveHistories l log v end out hand left
  have-histories =
      record {
        comers = comers;
        of_places = has.places;
        of_seats = has.seats;
        closing = closing;
        histories = record {
          came = came-well l has.callers v.made 0 new;
          histories = record {
            takes = has.histories.takes;
            follows = follows-on;
            shared = has.histories.shared;
            in_order = has.histories.in_order;
          };
          no_caller = nobody;
        };
        count = came-length has.callers v.made 0;
        ends = has.ends;
        rest = has.rest;
        made = has.made;
        mine = has.mine;
        noted = has.noted;
      }

pub closed-places : ClosedPlacesHaveHistories
closed-places l log v end pushed out popped hand left shape h =
    have-histories l shape log v end out hand left
    (closed (machine l) (is_new l) (started l) (places l) log v end pushed out popped hand left (place-rises l) (first-new l shape) h)
