-- What is in hand when all is closed: each message of it was handed out, by an entry of the run, and each that was handed out is there.
-- n is a nucleus, pass the one that closed it, c what was closed, q a port, js are journals.
use Rattle.std.proofs.Common.{ℕ, zero, suc, ◌≡◌, ◌<◌, ◌+◌, ◌-◌, ◌==◌, nat_le, inl, inr, true, false, List, [], ◌∷◌, ◌++◌, map, length, reverse, Some, slice_get, slice_index_or, refl, sym, ◌∙◌, ap, subst, arith}
use Rattle.std.specs.List.{All, filter}
use Rattle.std.proofs.lemmas.Bool.{and_parts, cases_order, false≢true, leb-true}
use Rattle.std.proofs.lemmas.Bool.Decides.{nat_tests}
use Rattle.std.proofs.lemmas.List.{length-map, map-append, reverse-reverse}
use Rattle.std.proofs.lemmas.List.Elements.{All-nil, All-cons, All-head, All-tail, All-weaker, All-contains}
use Rattle.chorus_ui.specs.declared.ui.Ui.{Ui}
use Rattle.chorus_ui.specs.declared.layout.Layout.{Layout}
use Rattle.chorus_ui.specs.Layout.{has_place, places}
use Rattle.chorus_entry.specs.declared.entry.Entry.{Entry}
use Rattle.chorus_entry.specs.declared.id.MsgId.{MsgId}
use Rattle.chorus_entry.specs.declared.act.Act.{Act}
use Rattle.chorus_entry.specs.declared.answer.Answer.{Answer}
use Rattle.chorus_world.specs.AcceptedLaws.{accepted_by}
use Rattle.chorus_world.proofs.Sorted.Holders.{run_is_legal}
use Rattle.chorus_merge.specs.Merge.{merged}
use Rattle.chorus_merge.specs.Laws.{Numbered}
use Rattle.chorus_merge.proofs.Numbering.{keeps_journals}
use Rattle.law_network.specs.Network.{Event, schedule, numbers}
use Rattle.law_network.proofs.Places.Layouts.{schedule-places}
use Rattle.law_machine.specs.PlaceState.{PlaceState}
use Rattle.law_history.specs.Journals.{events}
use Rattle.law_history.specs.Runs.{KeepsPromises, actor_among}
use Rattle.law_history.proofs.Merging.{journals-keep-promises}
use Rattle.law_closing.specs.Places.{PlaceNote, is_new}
use Rattle.law_history.specs.PlaceTurns.{machine}
use Rattle.law_closing.specs.Closing.{IsPlace, IsThread}
use Rattle.chorus_turn.specs.declared.knowledge.Remarked.{Remarked}
use Rattle.chorus_turn.specs.declared.knowledge.Placed.{Placed}
use Rattle.chorus_turn.specs.declared.knowledge.Note.{Note}
use Rattle.chorus_turn.specs.declared.knowledge.Knowledge.{Knowledge}
use Rattle.chorus_turn.specs.Journals.{by_seat, at_place, entries_of}
use Rattle.chorus_turn.specs.Knowing.{seats_of, seen_at, Shows}
use Rattle.chorus_net.specs.declared.closed.Closed.{Closed}
use Rattle.chorus_net.specs.Closing.{IsLeft, closed_journals, past_of}
use Rattle.chorus_nucleus.specs.declared.nucleus.Nucleus.{Nucleus}
use Rattle.chorus_nucleus.specs.declared.pass.Pass.{Pass}
use Rattle.chorus_nucleus.specs.Passes.{layout_of, known, IsPassOf}
use Rattle.chorus_nucleus.specs.Closing.{IsClosed}
use Rattle.chorus_nucleus.specs.Runs.{IsARun}
use Rattle.chorus_nucleus.proofs.Running.{a-closed-nucleus-is-a-run}
use Rattle.chorus_sessions.specs.declared.hand.Hand.{Hand}
use Rattle.chorus_sessions.specs.declared.hand.PortMessage.{PortMessage}
use Rattle.chorus_sessions.specs.Sessions.{HasAllBack, IsRunOf}
use Rattle.chorus_sessions.specs.Hands.{hands_out, entries_made, AreHandedOut, AreKept, IsDelivered, IsInSomeHand, IsKept, WereDelivered}
use Rattle.chorus_nucleus.proofs.Posted.{messages-taken-were-posted}
use Rattle.chorus_sessions.proofs.Ordered.{stands-before}
use Rattle.chorus_sessions.proofs.Lists.{In, get-in, in-front, in-filter, in-filter-back, in-filter-holds, in-map, in-map-back, in-reverse, in-row, all-in, each-in, get-low, get-or, get-some}
use Rattle.chorus_sessions.proofs.Received.{in-so, stands-so, one-entry}
use Rattle.chorus_sessions.proofs.Once.{received-once}
use Rattle.chorus_sessions.proofs.Positions.{has-position}
use Rattle.chorus_sessions.proofs.Seats.{one-index}
use Rattle.chorus_sessions.proofs.Told.{accepted-there, told-became}

count-numbers : (m p : ℕ) → length (numbers m p) ≡ m
count-numbers zero p = refl
count-numbers (suc m) p = ap suc (count-numbers m (p + 1))

in-merged : (js : List (List Entry)) (i : ℕ) (journal : List Entry) (e : Entry) → slice_get js i ≡ Some journal → In e journal → In e (merged js)
in-merged js i journal e found a =
    let all = keeps_journals js in
    let part = in-map-back (λ (z : Numbered). z.entry) e (filter (λ (z : Numbered). z.journal == i) all.numbered)
    (subst (λ es. In e es) (sym (all.parts i ∙ get-or js i journal [] found)) a) in
    subst (λ es. In e es) all.whole
    (subst (λ z. In z (map (λ (z : Numbered). z.entry) all.numbered)) part.1
    (in-map (λ (z : Numbered). z.entry) part.0 all.numbered (in-filter-back (λ (z : Numbered). z.journal == i) part.0 all.numbered part.2)))

itself : (p : ℕ) → (p == p) ≡ true
itself p = grind (arith, nat_tests)

same-test : (p k : ℕ) → p ≡ k → (p == k) ≡ true
same-test p k h = grind (arith, nat_tests)

same-number : (p k : ℕ) → (p == k) ≡ true → p ≡ k
same-number p k h = grind (arith, nat_tests)

module _ (n : Nucleus) (pass : Pass) (c : Closed) (h : IsClosed n pass c) (is : IsPassOf n pass) (back : HasAllBack pass) where
  abbrev l : Layout
  l = layout_of n

  abbrev v : Knowledge PlaceNote
  v = known pass

  kept : KeepsPromises l h.comers h.closes.of_places h.closes.of_seats h.closes.closing
  kept = journals-keep-promises l h.comers h.closes.of_places h.closes.of_seats h.closes.closing h.shape h.closes.histories

  abbrev es : List Event
  es = events h.comers kept.turns

  left : IsLeft (schedule l es) c
  left = h.closes.is_left kept.turns kept.scheduled

  count : length (closed_journals c) ≡ places l
  count =
      ap (λ (js : List (List Entry)). length js) left.journals ∙ length-map (schedule l es).places (λ (s : PlaceState). reverse s.journal)
      ∙ sym (length-map (schedule l es).places (λ (s : PlaceState). s.number)) ∙ ap (λ (ks : List ℕ). length ks) (schedule-places l es).numbers
      ∙ count-numbers (places l) 1

  in-past : (p : ℕ) (e : Entry) → IsPlace (places l) p → In e (entries_of (h.closes.log p)) → In e (past_of c)
  in-past p e place a =
      let at = get-some (closed_journals c) (p - 1) (omega (arith, place.0, place.1, count)) in
      let back : (p - 1) + 1 ≡ p = omega (arith, place.0) in
      let same : at.0 ≡ entries_of (h.closes.log p) = h.closes.entries (p - 1) at.0 at.1 ∙ ap (λ k. entries_of (h.closes.log k)) back in
      in-reverse e (merged (closed_journals c)) (in-merged (closed_journals c) (p - 1) at.0 e at.1 (subst (λ zs. In e zs) (sym same) a))

  shown : (p : ℕ) → IsPlace (places l) p → Shows p v (h.closes.log p)
  shown p place =
      let back : (p - 1) + 1 ≡ p = omega (arith, place.0) in
      subst (λ k. Shows k v (h.closes.log k)) back (h.closes.tells.shows (p - 1) (omega (arith, place.0, place.1)))

  -- what a pass of a note made stands in the run, by its seat
  made-stands : (note : Note PlaceNote) (m : Placed PlaceNote) → In note v.notes → In m note.mine → In m.remarked.entry (past_of c) × (m.remarked.entry.seat ≡ note.seat)
  made-stands note m noted made =
      let thread = all-in (λ (k : Note PlaceNote). IsThread (machine l) (is_new l) (places l) k.seat k.mine) note v.notes is.caller.threads noted in
      let place = all-in (λ (k : Placed PlaceNote). IsPlace (places l) k.place) m note.mine thread.within made in
      let shows = shown m.place place in
      let own = all-in (λ (k : Note PlaceNote). by_seat k.seat (h.closes.log m.place) ≡ at_place m.place k.mine) note v.notes shows.noted noted in
      let there = in-map (λ (k : Placed PlaceNote). k.remarked) m (filter (λ (k : Placed PlaceNote). k.place == m.place) note.mine)
      (in-filter (λ (k : Placed PlaceNote). k.place == m.place) m note.mine (itself m.place) made) in
      let mine = subst (λ (zs : List (Remarked PlaceNote)). In m.remarked zs) (sym own) there in
      let by = λ (r : Remarked PlaceNote). r.entry.seat == note.seat in (
        in-past m.place m.remarked.entry place
            (in-map (λ (r : Remarked PlaceNote). r.entry) m.remarked (h.closes.log m.place) (in-filter-back by m.remarked (h.closes.log m.place) mine)),
        same-number m.remarked.entry.seat note.seat (in-filter-holds by m.remarked (h.closes.log m.place) mine),
      )

  -- a message in hand was handed out by an entry of the run, by the hand's seat
  out : (note : Note PlaceNote) (hand : Hand) → In note v.notes → (k : IsKept l v note hand) (i : ℕ) (got : PortMessage) → slice_get hand.taken.items i ≡ Some got → In (k.holds.entry i) (past_of c) × ((k.holds.entry i).seat ≡ hand.seat)
  out note hand noted k i got found =
      let by = k.holds.by i got found in
      let m = in-map-back (λ (z : Placed PlaceNote). z.remarked.entry) (k.holds.entry i) note.mine (in-so (k.holds.entry i) (entries_made note.mine) by.stands) in
      let both = made-stands note m.0 noted m.2 in (
        subst (λ e. In e (past_of c)) m.1 both.0,
        ap (λ (e : Entry). e.seat) (sym m.1) ∙ both.1 ∙ k.seat_is,
      )

  law : IsARun l v h.comers c
  law = a-closed-nucleus-is-a-run l v h.comers c h.shape h.closes

  one : (q : Ui) (x : MsgId) (i j : ℕ) (e f : Entry) → In e (past_of c) → In f (past_of c) → e.act ≡ Act.Take q i x → f.act ≡ Act.Take q j x → e ≡ f
  one q x i j e f a b =
      one-entry q x i j e f (past_of c)
      (λ newer older split. received-once q older (law.receives newer older split) (law.holds newer older split)) a b

  position-of : (q : Ui) (i : ℕ) (x : MsgId) (e : Entry) → In e (past_of c) → e.act ≡ Act.Take q i x → slice_get (accepted_by q (past_of c)) i ≡ Some x
  position-of q i x e a act = has-position l (actor_among h.comers) (past_of c) q i x e h.shape law.run a act

  -- a message was accepted by one port
  same-port : (q r : Ui) (i j : ℕ) (x : MsgId) (e f : Entry) → In e (past_of c) → In f (past_of c) → e.act ≡ Act.Take q i x → f.act ≡ Act.Take r j x → r ≡ q
  same-port q r i j x e f a b here there =
      ((law.holds [] (past_of c) refl).alone r q j i x (position-of r j x f b there) (position-of q i x e a here)).0

  -- so it was handed out by one entry
  same-entry : (m k : PortMessage) (e f : Entry) → In e (past_of c) → In f (past_of c) → e.act ≡ Act.Take m.port m.position m.message.id
      → f.act ≡ Act.Take k.port k.position k.message.id → m.message.id ≡ k.message.id → e ≡ f
  same-entry m k e f a b act there same =
      let here : e.act ≡ Act.Take m.port m.position k.message.id = act ∙ ap (λ x. Act.Take m.port m.position x) same in
      let port = same-port m.port k.port m.position k.position k.message.id e f a b here there in
      one m.port k.message.id m.position k.position e f a b here (there ∙ ap (λ q. Act.Take q k.position k.message.id) port)

  once : (note : Note PlaceNote) (hand : Hand) → In note v.notes → (k : IsKept l v note hand) (i j : ℕ) (x y : PortMessage) → slice_get hand.taken.items i ≡ Some x → slice_get hand.taken.items j ≡ Some y → x.message.id ≡ y.message.id → i ≡ j
  once note hand noted k i j x y here there same =
      let first = out note hand noted k i x here in
      let second = out note hand noted k j y there in
      let equal = same-entry x y (k.holds.entry i) (k.holds.entry j) first.0 second.0 (k.holds.by i x here).act (k.holds.by j y there).act same in
      let clocks = ap (λ (e : Entry). e.clock) equal in
      let low = get-low hand.taken.items i x here in
      let low' = get-low hand.taken.items j y there in
      elim (cases_order i j) [
        | inl eq ↦ eq
        | inr (inl lt) ↦ (let apart = k.holds.apart i j lt low' in absurd (omega (arith, apart, clocks)))
        | inr (inr gt) ↦ (let apart = k.holds.apart j i gt low in absurd (omega (arith, apart, clocks)))
      ]

  -- None is lost.

  -- an entry of the run stands in the journal of a place
  from-past : (e : Entry) → In e (past_of c) → (k : ℕ) × (k < places l) × (r : Remarked PlaceNote) × (r.entry ≡ e) × In r (h.closes.log (k + 1))
  from-past e a =
      let js = closed_journals c in
      let all = keeps_journals js in
      let merge = subst (λ es. In e es) (reverse-reverse (merged js)) (in-reverse e (past_of c) a) in
      let z = in-map-back (λ (z : Numbered). z.entry) e all.numbered (subst (λ es. In e es) (sym all.whole) merge) in
      let i = z.0.journal in
      let part = in-map (λ (z : Numbered). z.entry) z.0 (filter (λ (z : Numbered). z.journal == i) all.numbered)
      (in-filter (λ (z : Numbered). z.journal == i) z.0 all.numbered (itself i) z.2) in
      let here = subst (λ f. In f (slice_index_or js i [])) z.1 (subst (λ es. In z.0.entry es) (all.parts i) part) in
      let row = in-row e js i here in
      let low : i < length (closed_journals c) = get-low js i row.0 row.1 in
      let r = in-map-back (λ (r : Remarked PlaceNote). r.entry) e (h.closes.log (i + 1)) (subst (λ es. In e es) (h.closes.entries i row.0 row.1) row.2) in
      (i, omega (arith, low, count), r.0, r.1, r.2)

  -- what a seat added to the journal of a place, and handed a message out by, is in one of these hands
  abbrev Out : ℕ → List Hand → ℕ → Type 0
  Out p hands seat = (r : Remarked PlaceNote) (q : Ui) (m : ℕ) (x : MsgId) → In r (h.closes.log p) → r.entry.seat ≡ seat → r.entry.act ≡ Act.Take q m x → IsInSomeHand q m x hands

  -- it made this there
  by-it : (p seat : ℕ) (mine : List (Placed PlaceNote)) → by_seat seat (h.closes.log p) ≡ at_place p mine → (r : Remarked PlaceNote) → In r (h.closes.log p) → r.entry.seat ≡ seat → (z : Placed PlaceNote) × (z.remarked ≡ r) × In z mine
  by-it p seat mine own r there same =
      let mine-there = in-filter (λ (r : Remarked PlaceNote). r.entry.seat == seat) r (h.closes.log p) (same-test r.entry.seat seat same) there in
      let z = in-map-back (λ (z : Placed PlaceNote). z.remarked) r (filter (λ (z : Placed PlaceNote). z.place == p) mine) (subst (λ zs. In r zs) own mine-there) in
      (z.0, z.1, in-filter-back (λ (z : Placed PlaceNote). z.place == p) z.0 mine z.2)

  out-own : (p : ℕ) (hands : List Hand) → by_seat v.seat (h.closes.log p) ≡ at_place p v.mine → Out p hands v.seat
  out-own p hands own r q m x there same act =
      let z = by-it p v.seat v.mine own r there same in
      let none = all-in (λ (z : Placed PlaceNote). hands_out z.remarked.entry.act ≡ false) z.0 v.mine back.quiet z.2 in
      absurd (false≢true (sym none ∙ ap (λ (r : Remarked PlaceNote). hands_out r.entry.act) z.1 ∙ ap hands_out act))

  behind : (q : Ui) (m : ℕ) (x : MsgId) (hand : Hand) (hands : List Hand) → IsInSomeHand q m x hands → IsInSomeHand q m x (hand ∷ hands)
  behind q m x hand hands found = (suc found.0, found.1, found.2, found.3)

  out-noted : (p : ℕ) (notes : List (Note PlaceNote)) (hands : List Hand) → AreKept l v notes hands → All (λ (k : Note PlaceNote). by_seat k.seat (h.closes.log p) ≡ at_place p k.mine) notes → All (Out p hands) (seats_of notes)
  out-noted p [] [] kept-all noted = All-nil (Out p [])
  out-noted p (note ∷ notes) (hand ∷ hands) kept-all noted =
      let D : Note PlaceNote → Type 0 = λ k. by_seat k.seat (h.closes.log p) ≡ at_place p k.mine in
      All-cons (Out p (hand ∷ hands)) note.seat (seats_of notes)
      (λ r q m x there same act.
      (let z = by-it p note.seat note.mine (All-head D note notes noted) r there same in
      let e = z.0.remarked.entry in
      let in-mine = in-map (λ (z : Placed PlaceNote). z.remarked.entry) z.0 note.mine z.2 in
      (0, hand, refl, kept-all.0.holds.all e q m x (stands-so e (entries_made note.mine) in-mine) (ap (λ (r : Remarked PlaceNote). r.entry.act) z.1 ∙ act))))
      (All-weaker (Out p hands) (Out p (hand ∷ hands)) (λ seat o r q m x there same act. behind q m x hand hands (o r q m x there same act)) (seats_of notes)
      (out-noted p notes hands kept-all.1 (All-tail D note notes noted)))
  out-noted p [] (hand ∷ hands) kept-all noted = absurd kept-all
  out-noted p (note ∷ notes) [] kept-all noted = absurd kept-all

  lost-none : (hands : List Hand) → AreKept l v v.notes hands → (e : Entry) (q : Ui) (m : ℕ) (x : MsgId) → In e (past_of c) → e.act ≡ Act.Take q m x → IsInSomeHand q m x hands
  lost-none hands kept-all e q m x a act =
      let at = from-past e a in
      let k = at.0 in
      let r = at.2 in
      let shows = h.closes.tells.shows k at.1 in
      let low = all-in (λ (r : Remarked PlaceNote). r.entry.seat < v.made) r (h.closes.log (k + 1)) (h.closes.tells.seats k at.1) at.4 in
      let every = h.closes.tells.every r.entry.seat low in
      let outs = All-cons (Out (k + 1) hands) v.seat (seats_of v.notes) (out-own (k + 1) hands shows.own) (out-noted (k + 1) v.notes hands kept-all shows.noted) in
      All-contains (Out (k + 1) hands) (v.seat ∷ seats_of v.notes) r.entry.seat outs every r q m x at.4 refl (ap (λ (e : Entry). e.act) at.3 ∙ act)

  -- the note of a hand
  kept-at : (notes : List (Note PlaceNote)) (hands : List Hand) → AreKept l v notes hands → (a : ℕ) (hand : Hand) → slice_get hands a ≡ Some hand → (note : Note PlaceNote) × In note notes × IsKept l v note hand
  kept-at [] [] all a hand found = absurd (cc)
  kept-at (note ∷ notes) (other ∷ hands) all zero hand found = let same : other ≡ hand = cc in (note, inl refl, subst (IsKept l v note) same all.0)
  kept-at (note ∷ notes) (other ∷ hands) all (suc a) hand found = let k = kept-at notes hands all.1 a hand found in (k.0, inr k.1, k.2)
  kept-at [] (other ∷ hands) all a hand found = absurd all
  kept-at (note ∷ notes) [] all a hand found = absurd all

  -- the seat of a hand is that of its note
  seat-at : (notes : List (Note PlaceNote)) (hands : List Hand) → AreKept l v notes hands → (a : ℕ) (hand : Hand) → slice_get hands a ≡ Some hand → slice_get (seats_of notes) a ≡ Some hand.seat
  seat-at [] [] all a hand found = absurd (cc)
  seat-at (note ∷ notes) (other ∷ hands) all zero hand found = let same : other ≡ hand = cc in ap Some (all.0.seat_is ∙ ap (λ (x : Hand). x.seat) same)
  seat-at (note ∷ notes) (other ∷ hands) all (suc a) hand found = seat-at notes hands all.1 a hand found
  seat-at [] (other ∷ hands) all a hand found = absurd all
  seat-at (note ∷ notes) [] all a hand found = absurd all

  -- and no seat stands twice: they are as many as numbers were drawn, and each of these is among them
  one-hand : (hands : List Hand) → AreKept l v v.notes hands → (a b : ℕ) (first other : Hand) → slice_get hands a ≡ Some first → slice_get hands b ≡ Some other → first.seat ≡ other.seat → a ≡ b
  one-hand hands all a b first other here there same =
      let seats = v.seat ∷ seats_of v.notes in
      let long : length seats ≡ length v.notes + 1 = ap suc (length-map v.notes (λ (k : Note PlaceNote). k.seat)) ∙ omega arith in
      let every : (q : ℕ) → q < length seats → In q seats = λ q low. All-contains (λ (k : ℕ). In k seats) seats q (each-in seats) (h.closes.tells.every q (omega (arith, low, long, back.ended))) in
      let is = one-index seats (suc a) (suc b) other.seat every (seat-at v.notes hands all a first here ∙ ap Some same) (seat-at v.notes hands all b other there) in
      omega (arith, is)

  pub are-handed-out : (hands : List Hand) → AreKept l v v.notes hands → AreHandedOut (past_of c) hands
  are-handed-out hands all = record {
    each = λ a i hand got here found.
        (let k = kept-at v.notes hands all a hand here in
        let has = k.2.holds in
        let there = out k.0 hand k.1 k.2 i got found in
        record {
          entry = has.entry i;
          stands = stands-so (has.entry i) (past_of c) there.0;
          tells = record { act = (has.by i got found).act; seat_is = there.1 };
          position = position-of got.port got.position got.message.id (has.entry i) there.0 (has.by i got found).act;
          posted = messages-taken-were-posted l v h.comers c got.port got.position got.message (has.by i got found).settled h.shape h.closes (has.by i got found).origin;
        });
    in_order = λ a i j hand m k here found found' lt.
        (let z = kept-at v.notes hands all a hand here in
        let has = z.2.holds in
        let first = out z.0 hand z.1 z.2 i m found in
        let second = out z.0 hand z.1 z.2 j k found' in
        record {
          early = has.entry i;
          late = has.entry j;
          order = stands-before l (actor_among h.comers) (has.entry i) (has.entry j) (past_of c) law.run first.0 second.0 (first.1 ∙ sym second.1)
              (has.apart i j lt (get-low hand.taken.items j k found'));
          first = record { act = (has.by i m found).act; seat_is = first.1 };
          second = record { act = (has.by j k found').act; seat_is = second.1 };
        });
    once = λ a i j hand x y here found found' same.
        (let k = kept-at v.notes hands all a hand here in once k.0 hand k.1 k.2 i j x y found found' same);
    alone = λ a b i j first other x y here there found found' same.
        (let k = kept-at v.notes hands all a first here in
        let m = kept-at v.notes hands all b other there in
        let one-here = out k.0 first k.1 k.2 i x found in
        let one-there = out m.0 other m.1 m.2 j y found' in
        let equal = same-entry x y (k.2.holds.entry i) (m.2.holds.entry j) one-here.0 one-there.0 (k.2.holds.by i x found).act (m.2.holds.by j y found').act same in
        one-hand hands all a b first other here there (sym one-here.1 ∙ ap (λ (e : Entry). e.seat) equal ∙ one-there.1));
    none_lost = λ e q m x stands act. lost-none hands all e q m x (in-so e (past_of c) stands) act;
  }

  place-of : (p : ℕ) → has_place l p ≡ true → IsPlace (places l) p
  place-of p there = (let two = and_parts (nat_le 1 p) (nat_le p (places l)) there in (leb-true 1 p two.0, leb-true p (places l) two.1))

  -- what was delivered was accepted
  pub were-delivered : (hands : List Hand) → AreKept l v v.notes hands → WereDelivered (past_of c) hands
  were-delivered hands all a i hand sent here found =
      let past = past_of c in
      let k = kept-at v.notes hands all a hand here in
      let d = all-in (IsDelivered l v k.0.mine) sent hand.delivered.items k.2.delivered (get-in hand.delivered.items i sent found) in
      let m = in-map-back (λ (z : Placed PlaceNote). z.remarked.entry) d.entry k.0.mine (in-so d.entry (entries_made k.0.mine) d.stands) in
      let both = made-stands k.0 m.0 k.1 m.2 in
      let posted = stands-so d.entry past (subst (λ e. In e past) m.1 both.0) in
      let heard = d.heard in
      let place = place-of heard.place heard.there in
      let begins = (shown heard.place place).begins in
      let journal : entries_of (h.closes.log heard.place) ≡ entries_of (seen_at heard.place v) ++ entries_of begins.0 =
      ap (λ (rs : List (Remarked PlaceNote)). entries_of rs) begins.1 ∙ map-append (λ (r : Remarked PlaceNote). r.entry) (seen_at heard.place v) begins.0 in
      let seen = in-front heard.entry (entries_of (seen_at heard.place v)) (entries_of begins.0) (in-so heard.entry (entries_of (seen_at heard.place v)) heard.seen) in
      let told = in-past heard.place heard.entry place (subst (λ es. In heard.entry es) (sym journal) seen) in
      let legal = run_is_legal l (actor_among h.comers) past law.run in
      record {
        entry = d.entry;
        stands = posted;
        posts = d.posts;
        seat_is = ap (λ (e : Entry). e.seat) (sym m.1) ∙ both.1 ∙ k.2.seat_is;
        position = accepted-there l past h.shape legal sent.message.id sent.port sent.position sent.message d.entry posted d.posts refl
            (told-became l past h.shape legal sent.message.id (Answer.Accepted sent.position) heard.entry (stands-so heard.entry past told) heard.tells);
      }

-- what was closed is a run
pub run-of : (n : Nucleus) (l : Layout) (pass : Pass) (c : Closed) → layout_of n ≡ l → IsClosed n pass c → IsRunOf l c
run-of n l pass c same h = subst (λ k. IsRunOf k c) same record {
  knowledge = known pass;
  comers = h.comers;
  is = a-closed-nucleus-is-a-run (layout_of n) (known pass) h.comers c h.shape h.closes;
}

pub ruleset standing = (are-handed-out, were-delivered, run-of)
