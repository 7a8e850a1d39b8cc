-- What was closed is the network of each schedule of its turns.
use Rattle.std.proofs.Common.{ℕ, zero, suc, ◌≡◌, ◌+◌, ◌-◌, ◌<◌, List, [], ◌∷◌, length, map, reverse, Some, slice_get, refl, sym, ◌∙◌, ap, arith}
use Rattle.std.specs.List.{All}
use Rattle.std.proofs.lemmas.List.Elements.{All-weaker}
use Rattle.chorus_ui.specs.declared.layout.Layout.{Layout}
use Rattle.chorus_ui.specs.Layout.{places, IsLayout}
use Rattle.chorus_entry.specs.declared.entry.Entry.{Entry}
use Rattle.chorus_entry.specs.declared.packet.Packet.{Packet}
use Rattle.law_machine.specs.PlaceState.{PlaceState}
use Rattle.chorus_place.specs.Calls.{Place, state}
use Rattle.chorus_ruled_ends.specs.Ruled.{Ruled}
use Rattle.chorus_serve.specs.Desks.{DeskOf}
use Rattle.chorus_turn.specs.declared.knowledge.Remarked.{Remarked}
use Rattle.chorus_turn.specs.declared.knowledge.Note.{Note}
use Rattle.chorus_turn.specs.declared.knowledge.Knowledge.{Knowledge}
use Rattle.chorus_turn.specs.Journals.{entries_of}
use Rattle.law_network.specs.Left as left
use Rattle.law_network.specs.Network.{schedule, numbers}
use Rattle.law_history.specs.PlaceTurns.{machine}
use Rattle.law_history.specs.Journals.{PlaceTurn, Comer, IsTheirSchedule, events}
use Rattle.law_history.specs.Places.{by_link}
use Rattle.law_history.proofs.Listed.{schedules-leave-lists}
use Rattle.law_closing.specs.Closing.{IsThread}
use Rattle.law_closing.specs.Places.{PlaceNote, HaveHistories, is_new}
use Rattle.law_closing.specs.Behind.{AllStandBehind, AreAtPlaces}
use Rattle.law_closing.proofs.Places.{closed-places}
use Rattle.law_closing.proofs.Actors.{closed-places-in}
use Rattle.chorus_net.specs.declared.closed.Closed.{Closed}
use Rattle.chorus_net.specs.Closing.{closed_journals, journals_in, ports_of, IsLeft}
use Rattle.chorus_net.proofs.Parts.{journals-are, ports-are}
use Rattle.chorus_nucleus.specs.Apart.{desk_at, places_in, goes_from}
use Rattle.chorus_nucleus.specs.Leaving.{state_of, left_at, waits_of, held_of, AreClosedWith}
use Rattle.chorus_nucleus.specs.Closing.{ClosesAs, ClosesFor}
use Rattle.chorus_nucleus.proofs.Beginning.{same-some}
use Rattle.chorus_nucleus.proofs.Leaving.{rest-is}

-- the states by their numbers are those of the places
states-are : (f : ℕ → PlaceState) (k : ℕ) (ps : List Place) → ((j : ℕ) (p : Place) → slice_get ps j ≡ Some p → f (k + j) ≡ state p) → map f (numbers (length ps) k) ≡ map state ps
states-are f k [] h = refl
states-are f k (p ∷ ps) h =
    let zero-more : k + 0 ≡ k = omega arith in
    let first : f k ≡ state p = sym (ap f zero-more) ∙ h 0 p refl in
    ap (λ s. s ∷ map f (numbers (length ps) (k + 1))) first
    ∙ ap (λ ss. state p ∷ ss) (states-are f (k + 1) ps (λ j q e. (let more : k + 1 + j ≡ k + suc j = omega arith in ap f more ∙ h (suc j) q e)))

place-at : (ds : List (DeskOf Ruled Packet)) (k : ℕ) (p : Place) → slice_get (places_in ds) k ≡ Some p → (d : DeskOf Ruled Packet) × (slice_get ds k ≡ Some d) × (d.place ≡ p) × (k < length ds)
place-at [] k p e = absurd (cc)
place-at (d ∷ ds) zero p e = (d, refl, same-some d.place p e, omega arith)
place-at (d ∷ ds) (suc k) p e = (let h = place-at ds k p e in let lt = h.3 in (h.0, h.1, h.2, omega (arith, lt)))

places-count : (ds : List (DeskOf Ruled Packet)) → length (places_in ds) ≡ length ds
places-count [] = refl
places-count (d ∷ ds) = ap suc (places-count ds)

journal-at : (ds : List (DeskOf Ruled Packet)) (k : ℕ) (journal : List Entry) → slice_get (journals_in (places_in ds)) k ≡ Some journal
    → (d : DeskOf Ruled Packet) × (slice_get ds k ≡ Some d) × (journal ≡ reverse d.place.journal)
journal-at [] k journal e = absurd (cc)
journal-at (d ∷ ds) zero journal e = (d, refl, sym (same-some (reverse d.place.journal) journal e))
journal-at (d ∷ ds) (suc k) journal e = journal-at ds k journal e

module _ (l : Layout) (shape : IsLayout l) (ds : List (DeskOf Ruled Packet)) (many : length ds ≡ places l) (log : ℕ → List (Remarked PlaceNote)) (v : Knowledge PlaceNote) (c : Closed)
    (journals : closed_journals c ≡ journals_in (places_in ds)) (rest : c.rest.items ≡ by_link (places l) (goes_from ds)) (ports : c.ports.items ≡ ports_of (places_in ds))
    (told : (k : ℕ) (d : DeskOf Ruled Packet) → slice_get ds k ≡ Some d → entries_of (log (k + 1)) ≡ reverse d.place.journal) (behind : AllStandBehind v) where
  abbrev Histories : Type 0
  Histories = HaveHistories l log v (λ p. state_of l p (desk_at p ds)) (λ a b. waits_of l a (log a) (desk_at a ds) b) (λ a b. held_of l b (desk_at b ds) a) (left_at ds)

  ends : (h : Histories) (j : ℕ) (p : Place) → slice_get (places_in ds) j ≡ Some p → h.closing.places (1 + j) ≡ state p
  ends h j p at =
      let d = place-at ds j p at in
      let lt = d.3 in
      let back : 1 + j - 1 ≡ j = omega arith in
      h.ends (1 + j) (omega arith, omega (arith, lt, many)) ∙ ap (state_of l (1 + j)) (ap (λ i. slice_get ds i) back ∙ d.1) ∙ ap state d.2

  left-is : (h : Histories) (turns : List PlaceTurn) → IsTheirSchedule l h.comers h.of_places h.of_seats h.closing turns → IsLeft (schedule l (events h.comers turns)) c
  left-is h turns s =
      let listed = schedules-leave-lists l h.comers h.of_places h.of_seats h.closing turns shape s in
      let n = schedule l (events h.comers turns) in
      let are : n.places ≡ map state (places_in ds) =
      listed.places ∙ ap (λ k. map h.closing.places (numbers k 1)) (sym (places-count ds ∙ many)) ∙ states-are h.closing.places 1 (places_in ds) (ends h) in
      record {
        journals = journals ∙ sym (ap (map (λ (z : PlaceState). reverse z.journal)) are ∙ journals-are (places_in ds));
        rest = rest ∙ rest-is l ds many log h.closing.links h.rest ∙ sym listed.packets;
        ports = ports ∙ sym (ap left.placed_in are ∙ ports-are (places_in ds));
      }

  entries-are : (p : ℕ) (journal : List Entry) → slice_get (closed_journals c) p ≡ Some journal → journal ≡ entries_of (log (p + 1))
  entries-are p journal is =
      let k = journal-at ds p journal (ap (λ js. slice_get js p) (sym journals) ∙ is) in
      k.2 ∙ sym (told p k.0 k.1)

  -- each thread is at places
  all-within : (ns : List (Note PlaceNote)) → All (λ (n : Note PlaceNote). IsThread (machine l) (is_new l) (places l) n.seat n.mine) ns → All (λ (n : Note PlaceNote). AreAtPlaces (places l) n.mine) ns
  all-within ns h = All-weaker (λ (n : Note PlaceNote). IsThread (machine l) (is_new l) (places l) n.seat n.mine) (λ (n : Note PlaceNote). AreAtPlaces (places l) n.mine) (λ n t. t.within) ns h

  closes-as : AreClosedWith l log v ds (left_at ds) → (h : Histories) → ClosesAs l v h.comers c
  closes-as is h = record {
    log = log;
    of_places = h.of_places;
    of_seats = h.of_seats;
    closing = h.closing;
    tells = is.finished;
    entries = entries-are;
    histories = h.histories;
    count = h.count;
    made = h.made;
    mine = h.mine;
    noted = h.noted;
    within = is.thread.within;
    noted_within = all-within v.notes is.threads;
    behind = behind;
    is_left = left-is h;
  }

  pub closes : AreClosedWith l log v ds (left_at ds) → (comers : List Comer) × ClosesAs l v comers c
  closes is = (let h : Histories = closed-places l log v _ _ _ _ _ (left_at ds) shape is in (h.comers, closes-as is h))

  pub closes-for : AreClosedWith l log v ds (left_at ds) → ClosesFor l v c
  closes-for is actors are = (let k = closed-places-in l actors log v _ _ _ _ _ (left_at ds) shape is are in (k.histories.comers, k.who, closes-as is k.histories))
