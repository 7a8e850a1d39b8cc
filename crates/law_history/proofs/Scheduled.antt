-- Journals are a schedule: the general law for the place machine, and what the network machine shows of it.
use Rattle.std.proofs.Common.{ℕ, ◌≡◌, ◌≤◌, ◌+◌, nat_le, Bool, true, false, cond, List, [], ◌∷◌, ◌++◌, map, reverse, Option, Some, None, is_some, slice_get, refl, sym, ◌∙◌, ap, subst, arith}
use Rattle.std.specs.List.{All, filter}
use Rattle.std.specs.Option.{option_map}
use Rattle.std.proofs.lemmas.Bool.{and_parts}
use Rattle.std.proofs.lemmas.List.{append-nil}
use Rattle.std.proofs.lemmas.List.Elements.{All-nil, All-cons}
use Rattle.chorus_ui.specs.declared.layout.Layout.{Layout}
use Rattle.chorus_ui.specs.Layout.{has_place, places}
use Rattle.chorus_entry.specs.declared.packet.Packet.{Packet}
use Rattle.chorus_calls.specs.Callers.{Seated}
use Rattle.law_machine.specs.PlaceState.{PlaceState}
use Rattle.law_network.specs.Network.{schedule}
use Rattle.law_network.specs.Schedules.{may_be}
use Rattle.law_history.specs.Turns.{is_by}
use Rattle.law_history.specs.Network.{Network, run}
use Rattle.law_history.specs.Histories as histories
use Rattle.law_history.specs.Histories.{Takes, IsScheduled}
use Rattle.law_history.specs.PlaceTurns.{may_come, machine}
use Rattle.law_history.specs.Journals.{Comer, PlaceTurn, at_start, AreHistories, coming, events_after, events, IsTheirSchedule, JournalsAreASchedule}
use Rattle.law_history.proofs.Lists.{filter_takes, eqb_same}
use Rattle.law_history.proofs.Runs.{scheduled}
use Rattle.law_history.proofs.Rising.{place-rises}
use Rattle.law_history.proofs.Showing.{Shows}
use Rattle.law_history.proofs.Arriving.{may-come, all-come}
use Rattle.law_history.proofs.Happening.{turns-show}

module _ (l : Layout) (comers : List Comer) (places-of seats : ℕ → List PlaceTurn) (closing : Network PlaceState Seated Packet) (h : AreHistories l comers places-of seats closing) where
  -- a place that takes a turn is one of the layout
  beyond : (p : ℕ) → places l + 1 ≤ p → (ts : List PlaceTurn) (x y : PlaceState) → Takes (machine l) p x ts y → ts ≡ []
  beyond p le [] x y t = refl
  beyond p le (t ∷ ts) x y takes =
      let its = takes.0 in
      let there = (and_parts (has_place l p) (may_come l p t.input t.before) its.may).0 in
      let last = (and_parts (nat_le 1 p) (nat_le p (places l)) there).1 in
      absurd (outside p (places l) le last)
    where
      outside : (p n : ℕ) → n + 1 ≤ p → nat_le p n ≡ true → ⊥
      outside p n le e = grind (arith, le, e)

  -- who is given a turn came
  all-came : (ts : List PlaceTurn) → ((q : ℕ) → filter (is_by q) ts ≡ seats q) → All (λ (t : PlaceTurn). is_some (slice_get comers t.seat) ≡ true) ts
  all-came ts by_seat = go ts (λ q none. by_seat q ∙ h.no_caller q none)
    where
      some : (o : Option Comer) → (o ≡ None → ⊥) → is_some o ≡ true
      some None f = absurd (f refl)
      some (Some c) f = refl

      tail : (b : Bool) (t : PlaceTurn) (us : List PlaceTurn) → cond b (t ∷ us) us ≡ [] → us ≡ []
      tail true t us e = absurd (cc)
      tail false t us e = e

      go : (us : List PlaceTurn) → ((q : ℕ) → slice_get comers q ≡ None → filter (is_by q) us ≡ []) → All (λ (t : PlaceTurn). is_some (slice_get comers t.seat) ≡ true) us
      go [] none = All-nil (λ (t : PlaceTurn). is_some (slice_get comers t.seat) ≡ true)
      go (u ∷ us) none =
          All-cons (λ (t : PlaceTurn). is_some (slice_get comers t.seat) ≡ true) u us
          (some (slice_get comers u.seat) (λ e. let f : u ∷ filter (is_by u.seat) us ≡ [] = sym (filter_takes (is_by u.seat) u us (eqb_same u.seat)) ∙ none u.seat e in absurd (cc)))
          (go us (λ q e. tail (is_by q u) u (filter (is_by q) us) (none q e)))

  pub their-schedule : (ts : List PlaceTurn) × IsTheirSchedule l comers places-of seats closing ts
  their-schedule =
      let open_net = at_start l comers in
      let found = scheduled (machine l) (places l + 1) open_net closing places-of seats (place-rises l)
      (λ p le. beyond p le (places-of p) (open_net.places p) (closing.places p) (h.histories.takes p)) h.histories in
      let ts : List PlaceTurn = found.0 in
      let is : IsScheduled (machine l) open_net places-of seats closing ts = found.1 in
      let older = reverse (map coming comers) ++ [] in
      let shown = turns-show l comers ts older open_net (all-come l comers) (may-come l comers [] h.came refl) (all-came ts is.by_seat) is.schedule in
      let same : events_after ts older ≡ events comers ts = ap (events_after ts) (append-nil (reverse (map coming comers))) in
      let done = run (machine l) (map (histories.event_of (machine l)) ts) open_net in
      let shows : Shows comers done (schedule l (events comers ts)) = subst (λ es. Shows comers done (schedule l es)) same shown.0 in (
        ts,
        record {
          sorted = is.sorted;
          by_place = is.by_place;
          by_seat = is.by_seat;
          may = subst (λ es. may_be l es ≡ true) same shown.1;
          ends = record {
            places = λ p. shows.places p ∙ is.places_end p;
            links = λ a b. shows.links a b ∙ is.links_end a b;
            callers = λ q. shows.callers q ∙ ap (λ x. option_map (λ (c : Comer). x) (slice_get comers q)) (is.callers_end q);
          };
        },
      )

pub journals-are-a-schedule : JournalsAreASchedule
journals-are-a-schedule l comers places-of seats closing shape h = their-schedule l comers places-of seats closing h
