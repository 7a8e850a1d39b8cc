-- What callers of running places are told, for histories.
use Rattle.std.proofs.Common.{ℕ, ◌≡◌, true, List, [], ◌∷◌, ◌++◌, reverse, Some, None, slice_get, refl, sym, ◌∙◌, ap, subst, append_assoc}
use Rattle.std.specs.List.{filter}
use Rattle.std.proofs.lemmas.List.{reverse-reverse}
use Rattle.std.proofs.lemmas.List.Elements.{filter-append}
use Rattle.chorus_ui.specs.declared.ui.Ui.{Ui}
use Rattle.chorus_ui.specs.declared.layout.Layout.{Layout}
use Rattle.chorus_ui.specs.Layout.{IsLayout}
use Rattle.chorus_entry.specs.declared.entry.Entry.{Entry}
use Rattle.chorus_entry.specs.declared.message.Message.{Message}
use Rattle.chorus_entry.specs.declared.command.Command.{Command}
use Rattle.chorus_entry.specs.declared.packet.Packet.{Packet}
use Rattle.chorus_entry.specs.Order.{is_at}
use Rattle.chorus_world.specs.Views.{at}
use Rattle.chorus_world.specs.SentLaws.{StandsIn}
use Rattle.chorus_world.specs.Steps.{is_legal}
use Rattle.chorus_world.proofs.Sorted.Holders.{run_is_legal}
use Rattle.chorus_ports.specs.Table.{find}
use Rattle.chorus_calls.specs.Callers.{Seated}
use Rattle.law_machine.specs.declared.reply.Reply.{Reply}
use Rattle.law_machine.specs.PlaceState.{PlaceState, started, next_entry}
use Rattle.law_machine.specs.Own.{own}
use Rattle.law_machine.specs.Doing.{first_message}
use Rattle.law_machine.specs.PlaceMachine.{begun, begun_by}
use Rattle.law_network.specs.Network.{Event, schedule, place}
use Rattle.law_network.specs.History.{history}
use Rattle.law_network.specs.Stands.{Stands}
use Rattle.law_network.proofs.Events.Said.{act-goes, work-goes}
use Rattle.law_network.proofs.Promises.Promised.{stands-at, legal-history}
use Rattle.law_history.specs.declared.turns.Input.{Input}
use Rattle.law_history.specs.Turns as turns
use Rattle.law_history.specs.Network.{Network}
use Rattle.law_history.specs.Histories.{Takes}
use Rattle.law_history.specs.PlaceTurns.{turn, machine}
use Rattle.law_history.specs.Journals.{PlaceTurn, Comer, AreHistories, at_start, events, IsTheirSchedule}
use Rattle.law_history.specs.Runs.{merged_at, actor_among, MergesAsARun}
use Rattle.law_history.proofs.Lists.{filter_takes, eqb_same}
use Rattle.law_history.proofs.Rising.{place-rises}
use Rattle.law_history.proofs.Scheduled.{journals-are-a-schedule}
use Rattle.law_history.proofs.Merging.{journals-merge-as-a-run}
use Rattle.law_replies.specs.AsPosted.{IsAsPosted}
use Rattle.law_replies.specs.Histories.{HistoriesTakePosted, HistoriesOutcomes}
use Rattle.law_replies.proofs.Cutting.{state_after, takes-front, takes-one, there, cut-there, place-there, split-at}
use Rattle.law_replies.proofs.AsPosted.{IsPostOf}
use Rattle.law_replies.proofs.Networks.{posted-as, first-is}
use Rattle.law_replies.proofs.Posts.{stands-behind, within}
use Rattle.law_replies.proofs.Told.{outcome-is-true}
use Rattle.law_replies.proofs.Turns.{turns-tell}
use Rattle.law_replies.proofs.Rows.{entries}

-- Turns put entries in front of a place's journal.

turn-more : (i : Input Command Packet) (s : PlaceState) (w : Seated) → (more : List Entry) × ((turn i s w).place.journal ≡ more ++ s.journal)
turn-more (Input.Command c) s w =
    let g = act-goes c (begun s w) in
    (entries c (begun s w), g.journal ∙ sym (append_assoc g.newer (next_entry (own c (begun s w)) (begun s w) ∷ []) s.journal))
turn-more (Input.Packet a k) s w = let g = work-goes k (begun_by s w k) in (g.newer, g.journal)

takes-more : (l : Layout) (p : ℕ) (ts : List PlaceTurn) (x y : PlaceState) → Takes (machine l) p x ts y → (more : List Entry) × (y.journal ≡ more ++ x.journal)
takes-more l p [] x y h = ([], ap (λ (s : PlaceState). s.journal) (sym h))
takes-more l p (t ∷ ts) x y h =
    let one = turn-more t.input x t.before in
    let rest = takes-more l p ts (turn t.input x t.before).place y h.1 in
    (rest.0 ++ one.0, rest.1 ∙ (ap (λ es. rest.0 ++ es) one.1 ∙ sym (append_assoc rest.0 one.0 x.journal)))

-- an entry that stands in a list stands in a view of it
stands-view : (e : Entry) (past : List Entry) → StandsIn e past → StandsIn e (at e.place past)
stands-view e past s =
    let view : at e.place past ≡ at e.place s.newer ++ e ∷ at e.place s.older =
    ap (at e.place) s.is ∙ (filter-append (is_at e.place) s.newer (e ∷ s.older) ∙ ap (λ es. at e.place s.newer ++ es) (filter_takes (is_at e.place) e s.older (eqb_same e.place))) in
    record { newer = at e.place s.newer; older = at e.place s.older; is = view }

module _ (l : Layout) (comers : List Comer) (places-of seats : ℕ → List PlaceTurn) (closing : Network PlaceState Seated Packet) (shape : IsLayout l) (h : AreHistories l comers places-of seats closing) where
  merges : MergesAsARun l comers seats closing
  merges = journals-merge-as-a-run l comers places-of seats closing shape h

  legal-all : is_legal l (merged_at l closing) ≡ true
  legal-all = run_is_legal l (actor_among comers) (merged_at l closing) merges.run

  -- what a place had after some of its turns, it has at the end
  had : (r : ℕ) (older later : List PlaceTurn) (s : PlaceState) → places-of r ≡ older ++ later → Takes (machine l) r (started l r) older s → (more : List Entry) × ((closing.places r).journal ≡ more ++ s.journal)
  had r older later s split led =
      let end = closing.places r in
      let all = takes-front (machine l) r older later (started l r) end (subst (λ ts. Takes (machine l) r (started l r) ts end) split (h.histories.takes r)) in
      let same : state_after (machine l) r (started l r) older ≡ s = sym (takes-one (machine l) r older (started l r) s led) in
      takes-more l r later s end (subst (λ z. Takes (machine l) r z later end) same all.1)

  -- so its entries stand in the merge
  stands-all : (r : ℕ) (older later : List PlaceTurn) (s : PlaceState) → places-of r ≡ older ++ later → Takes (machine l) r (started l r) older s → (e : Entry) → StandsIn e s.journal → StandsIn e (merged_at l closing)
  stands-all r older later s split led e there =
      let more = had r older later s split led in
      within (is_at r) (merged_at l closing) e (subst (StandsIn e) (sym (merges.journals r ∙ more.1)) (stands-behind e more.0 s.journal there))

  -- At a moment of the place p.
  module _ (p : ℕ) (s : PlaceState) (older later : List PlaceTurn) (split : places-of p ≡ older ++ later) (led : Takes (machine l) p (started l p) older s) where
    abbrev ts : List PlaceTurn
    ts = (journals-are-a-schedule l comers places-of seats closing shape h).0

    is-theirs : IsTheirSchedule l comers places-of seats closing ts
    is-theirs = (journals-are-a-schedule l comers places-of seats closing shape h).1

    cut : (front : List PlaceTurn) × ((back : List PlaceTurn) × ((ts ≡ front ++ back) × (filter (turns.is_at p) front ≡ older)))
    cut = split-at p ts older later (is-theirs.by_place p ∙ split)

    abbrev front : List PlaceTurn
    front = cut.0

    abbrev back : List PlaceTurn
    back = cut.1.0

    abbrev some-places : ℕ → List PlaceTurn
    some-places r = filter (turns.is_at r) front

    abbrev some-seats : ℕ → List PlaceTurn
    some-seats q = filter (turns.is_by q) front

    moment : Network PlaceState Seated Packet
    moment = there (machine l) (place-rises l) (at_start l comers) closing places-of seats ts front back h.histories is-theirs.sorted is-theirs.by_place is-theirs.by_seat cut.1.1.0

    none-left : (q : ℕ) → slice_get comers q ≡ None → some-seats q ≡ []
    none-left q none = empty (some-seats q) (filter (turns.is_by q) back) (sym (filter-append (turns.is_by q) front back) ∙ (ap (filter (turns.is_by q)) (sym cut.1.1.0) ∙ (is-theirs.by_seat q ∙ h.no_caller q none)))
      where
        empty : (xs ys : List PlaceTurn) → xs ++ ys ≡ [] → xs ≡ []
        empty [] ys e = refl
        empty (x ∷ xs) ys e = absurd (cc)

    histories-then : AreHistories l comers some-places some-seats moment
    unfolding moment
    histories-then =
        record {
          came = h.came;
          histories = cut-there (machine l) (place-rises l) (at_start l comers) closing places-of seats ts front back h.histories is-theirs.sorted is-theirs.by_place is-theirs.by_seat cut.1.1.0;
          no_caller = none-left;
        }

    place-then : (r : ℕ) → moment.places r ≡ state_after (machine l) r (started l r) (some-places r)
    unfolding moment
    place-then r = place-there (machine l) (place-rises l) (at_start l comers) closing places-of seats ts front back h.histories is-theirs.sorted is-theirs.by_place is-theirs.by_seat cut.1.1.0 r

    s-then : moment.places p ≡ s
    s-then = place-then p ∙ (ap (state_after (machine l) p (started l p)) cut.1.1.1 ∙ sym (takes-one (machine l) p older (started l p) s led))

    -- the turns up to there, in one order
    module _ (theirs : List PlaceTurn) (is : IsTheirSchedule l comers some-places some-seats moment theirs) where
      abbrev es : List Event
      es = events comers theirs

      stood : Stands (schedule l es) (history l es)
      stood = stands-at l es shape is.may

      here-is : place p (schedule l es) ≡ s
      here-is = is.ends.places p ∙ s-then

      journal-is : (r : ℕ) → at r (history l es) ≡ (moment.places r).journal
      journal-is r = sym (stood.journal r) ∙ ap (λ (z : PlaceState). z.journal) (is.ends.places r)

      turns-split : (r : ℕ) → places-of r ≡ some-places r ++ filter (turns.is_at r) back
      turns-split r = sym (is-theirs.by_place r) ∙ (ap (filter (turns.is_at r)) cut.1.1.0 ∙ filter-append (turns.is_at r) front back)

      -- what stood there stands in the merge
      still-stands : (e : Entry) → StandsIn e (history l es) → StandsIn e (merged_at l closing)
      still-stands e then =
          let r = e.place in
          stands-all r (some-places r) (filter (turns.is_at r) back) (moment.places r) (turns-split r) (histories-then.histories.takes r) e
          (subst (StandsIn e) (journal-is r) (stands-view e (history l es) then))

      still-posted : (m : Message) → IsAsPosted m (history l es) → IsAsPosted m (merged_at l closing)
      still-posted m f =
          record { entry = f.entry; message = f.message; dest = f.dest; stands = still-stands f.entry f.stands; posts = f.posts; id = f.id; tag = f.tag; body = f.body }

      first-then : (q : Ui) (m : Message) → first_message (find q s.ports) ≡ Some m → IsPostOf m (history l es)
      first-then q m first =
          first-is (schedule l es) (history l es) (history l es) stood l (legal-history l es shape is.may) (λ x. refl) p q m
          (ap (λ (z : PlaceState). first_message (find q z.ports)) here-is ∙ first)

      first-there : (q : Ui) (m : Message) → first_message (find q s.ports) ≡ Some m → IsAsPosted m (merged_at l closing)
      first-there q m first = still-posted m (posted-as (history l es) m (first-then q m first))

    first-posted : (q : Ui) (m : Message) → first_message (find q s.ports) ≡ Some m → IsAsPosted m (merged_at l closing)
    first-posted =
        let theirs = journals-are-a-schedule l comers some-places some-seats moment shape histories-then in first-there theirs.0 theirs.1

pub histories-take-posted : HistoriesTakePosted
histories-take-posted l comers places-of seats closing p s led w c position m settled is =
    let es = reverse (entries c (begun s w)) in
    let g = act-goes c (begun s w) in
    let all = g.journal ∙ (sym (append_assoc g.newer (next_entry (own c (begun s w)) (begun s w) ∷ []) s.journal) ∙ ap (λ zs. zs ++ s.journal) (sym (reverse-reverse (entries c (begun s w))))) in
    let told = (turns-tell l p led.older s w c es (Reply.Taken position m settled) led.leads all).0 is in
    first-posted l comers places-of seats closing led.shape led.histories p s led.older led.later led.turns led.leads told.0.0 m told.0.1.1

pub histories-outcomes : HistoriesOutcomes
histories-outcomes l comers places-of seats closing p s led x =
    outcome-is-true l (merged_at l closing) s.journal (legal-all l comers places-of seats closing led.shape led.histories)
    (stands-all l comers places-of seats closing led.shape led.histories p led.older led.later s led.turns led.leads) x
