-- What each pass made stands in the merge of what was closed.
-- l is the layout, v what the closing pass knew, comers are those who came, c is what was closed, m the note of a pass, p the number of a
-- place. A past has its newest entry first.
use Rattle.std.proofs.Common.{ℕ, zero, suc, ◌≡◌, ◌+◌, ◌-◌, ◌<◌, ◌==◌, inl, inr, Bool, true, false, cond, nat_le, List, [], ◌∷◌, map, reverse, Some, slice_get, refl, sym, ◌∙◌, ap, subst, arith}
use Rattle.std.specs.List.{All, Contains, filter}
use Rattle.std.proofs.lemmas.Bool.{eqb-true, eq-eqb, and_parts, leb-true, le-leb, and_from}
use Rattle.std.proofs.lemmas.List.{reverse-reverse}
use Rattle.std.proofs.lemmas.List.Elements.{All-cons}
use Rattle.chorus_ui.specs.declared.layout.Layout.{Layout}
use Rattle.chorus_ui.specs.Layout.{IsLayout, has_place, places}
use Rattle.chorus_entry.specs.declared.entry.Entry.{Entry}
use Rattle.chorus_merge.specs.Merge.{merged}
use Rattle.chorus_world.specs.Order.{sort}
use Rattle.chorus_world.specs.SentLaws.{StandsIn}
use Rattle.chorus_world.specs.SortingLaws.{SortsViews}
use Rattle.chorus_world.specs.Views.{at, by, is_by}
use Rattle.chorus_entry.specs.Order.{is_at}
use Rattle.law_network.specs.History.{history}
use Rattle.law_network.specs.Left.{merged_past}
use Rattle.law_network.specs.Network.{Event, NetState, numbers, schedule}
use Rattle.law_network.specs.Stands.{Stands}
use Rattle.law_network.proofs.Merge.Journals.{journals-are, merge-is, views}
use Rattle.law_network.proofs.Merge.Parts.{filter-reverse, part}
use Rattle.law_network.proofs.Places.Layouts.{schedule-keeps}
use Rattle.law_network.proofs.Promises.Promised.{stands-at}
use Rattle.law_history.specs.Journals.{Comer, events}
use Rattle.law_history.specs.Runs.{KeepsPromises}
use Rattle.law_history.proofs.Merging.{journals-keep-promises}
use Rattle.law_closing.specs.Places.{PlaceNote}
use Rattle.law_closing.specs.Behind.{AreAtPlaces}
use Rattle.law_closing.specs.Closing.{IsPlace}
use Rattle.chorus_turn.specs.declared.knowledge.Note.{Note}
use Rattle.chorus_turn.specs.declared.knowledge.Placed.{Placed}
use Rattle.chorus_turn.specs.declared.knowledge.Remarked.{Remarked}
use Rattle.chorus_turn.specs.declared.knowledge.Knowledge.{Knowledge}
use Rattle.chorus_turn.specs.Journals.{at_place, by_seat, entries_of}
use Rattle.chorus_turn.specs.Knowing.{Shows, note_of}
use Rattle.chorus_net.specs.declared.closed.Closed.{Closed}
use Rattle.chorus_net.specs.Closing.{IsLeft, closed_journals, past_of}
use Rattle.chorus_nucleus.specs.Closing.{ClosesAs}
use Rattle.law_crews.specs.Passes.{passes_of}
use Rattle.law_crews.proofs.Lists.{In, all-in, in-filter, in-filter-back, in-filter-holds, in-map, in-reverse}

pub stands-so : (e : Entry) (past : List Entry) → In e past → StandsIn e past
stands-so e [] a = absurd a
stands-so e (f ∷ fs) (inl is) = record { newer = []; older = fs; is = ap (λ z. z ∷ fs) is }
stands-so e (f ∷ fs) (inr a) = let s = stands-so e fs a in record { newer = f ∷ s.newer; older = s.older; is = ap (λ zs. f ∷ zs) s.is }

pub contained-in : {A : Type 0} (x : A) (xs : List A) → Contains xs x → In x xs
contained-in x [] (k, lt, is) = absurd (omega (arith, lt))
contained-in x (y ∷ xs) (zero, lt, is) = inl is
contained-in x (y ∷ xs) (suc k, lt, is) = inr (contained-in x xs (k, omega (arith, lt), is))

pub numbers-get : {X : Type 0} (f : ℕ → X) (m a i : ℕ) → i < m → slice_get (map f (numbers m a)) i ≡ Some (f (a + i))
numbers-get f zero a i lt = absurd (omega (arith, lt))
numbers-get f (suc m) a zero lt = ap (λ z. Some (f z)) (let e : a ≡ a + 0 = omega arith in e)
numbers-get f (suc m) a (suc i) lt = numbers-get f m (a + 1) i (omega (arith, lt)) ∙ ap (λ z. Some (f z)) (let e : a + 1 + i ≡ a + suc i = omega arith in e)

by-entries : (q : ℕ) (log : List (Remarked PlaceNote)) → by q (entries_of log) ≡ entries_of (by_seat q log)
by-entries q [] = refl
by-entries q (r ∷ rs) = go (r.entry.seat == q) (by-entries q rs)
  where
    go : (b : Bool) → by q (entries_of rs) ≡ entries_of (by_seat q rs) → cond b (r.entry ∷ by q (entries_of rs)) (by q (entries_of rs)) ≡ entries_of (cond b (r ∷ by_seat q rs) (by_seat q rs))
    go true h = ap (λ es. r.entry ∷ es) h
    go false h = h

module _ (l : Layout) (v : Knowledge PlaceNote) (comers : List Comer) (c : Closed) (shape : IsLayout l) (k : ClosesAs l v comers c) where
  abbrev pub kept : KeepsPromises l comers k.of_places k.of_seats k.closing
  kept = journals-keep-promises l comers k.of_places k.of_seats k.closing shape k.histories

  abbrev pub es : List Event
  es = events comers kept.turns

  abbrev pub net : NetState
  net = schedule l es

  abbrev pub H : List Entry
  H = history l es

  pub stands : Stands net H
  stands = stands-at l es shape kept.scheduled.may

  pub left : IsLeft net c
  left = k.is_left kept.turns kept.scheduled

  pub past-net : past_of c ≡ merged_past net
  past-net = ap (λ js. reverse (merged js)) left.journals

  pub past-sort : past_of c ≡ sort H
  past-sort = past-net ∙ merge-is net H stands

  seen-by : SortsViews H
  seen-by = views net H stands

  pub by-past : (s : ℕ) → by s (past_of c) ≡ by s H
  by-past s = ap (by s) past-sort ∙ seen-by.seats s

  at-past : (p : ℕ) → at p (past_of c) ≡ at p H
  at-past p = ap (at p) past-sort ∙ seen-by.places p

  journal-at : (p : ℕ) → IsPlace (places l) p → slice_get (closed_journals c) (p - 1) ≡ Some (part H p)
  journal-at p at-it =
      ap (λ js. slice_get js (p - 1)) (left.journals ∙ journals-are net H stands)
      ∙ ap (λ (z : Layout). slice_get (map (part H) (numbers (places z) 1)) (p - 1)) (schedule-keeps l es).layout
      ∙ numbers-get (part H) (places l) 1 (p - 1) (omega (arith, at-it.0, at-it.1))
      ∙ ap (λ z. Some (part H z)) (let e : 1 + (p - 1) ≡ p = omega (arith, at-it.0) in e)

  is-place : (p : ℕ) → has_place l p ≡ true → IsPlace (places l) p
  is-place p has = (let two = and_parts (nat_le 1 p) (nat_le p (places l)) has in (leb-true 1 p two.0, leb-true p (places l) two.1))

  shown : (p : ℕ) → has_place l p ≡ true → All (λ (m : Note PlaceNote). by_seat m.seat (k.log p) ≡ at_place p m.mine) (passes_of v)
  shown p has =
      let is = is-place p has in
      let e : (p - 1) + 1 ≡ p = omega (arith, is.0) in
      let shows = subst (λ z. Shows z v (k.log z)) e (k.tells.shows (p - 1) (omega (arith, is.0, is.1))) in
      All-cons (λ (m : Note PlaceNote). by_seat m.seat (k.log p) ≡ at_place p m.mine) (note_of v) v.notes shows.own shows.noted

  -- of a pass: its entries at a place, in order
  pub at-one : (m : Note PlaceNote) (p : ℕ) → In m (passes_of v) → has_place l p ≡ true → by m.seat (at p (past_of c)) ≡ reverse (entries_of (at_place p m.mine))
  at-one m p among has =
      let is = is-place p has in
      let e : (p - 1) + 1 ≡ p = omega (arith, is.0) in
      let journal : part H p ≡ entries_of (k.log p) = k.entries (p - 1) (part H p) (journal-at p is) ∙ ap (λ z. entries_of (k.log z)) e in
      let shows = all-in (λ (z : Note PlaceNote). by_seat z.seat (k.log p) ≡ at_place p z.mine) m (passes_of v) (shown p has) among in
      let turned : reverse (by m.seat (at p H)) ≡ entries_of (at_place p m.mine) = sym (filter-reverse (is_by m.seat) (at p H)) ∙ ap (by m.seat) journal ∙ by-entries m.seat (k.log p) ∙ ap entries_of shows in
      ap (by m.seat) (at-past p) ∙ sym (reverse-reverse (by m.seat (at p H))) ∙ ap reverse turned

  -- one of them: it stands in the merge, by the pass, at the place
  pub record MadeStands (m : Note PlaceNote) (x : Placed PlaceNote) : Type 0 where
    pub there : In x.remarked.entry (past_of c)
    pub seat_is : x.remarked.entry.seat ≡ m.seat
    pub place_is : x.remarked.entry.place ≡ x.place

  pub made-stands : (m : Note PlaceNote) (x : Placed PlaceNote) → In m (passes_of v) → In x m.mine → MadeStands m x
  made-stands m x among made =
      let within = all-in (λ (z : Note PlaceNote). AreAtPlaces (places l) z.mine) m (passes_of v) (All-cons (λ (z : Note PlaceNote). AreAtPlaces (places l) z.mine) (note_of v) v.notes k.within k.noted_within) among in
      let place = all-in (λ (z : Placed PlaceNote). IsPlace (places l) z.place) x m.mine within made in
      let has : has_place l x.place ≡ true = and_from (nat_le 1 x.place) (nat_le x.place (places l)) (le-leb 1 x.place place.0) (le-leb x.place (places l) place.1) in
      let e = x.remarked.entry in
      let own : In x.remarked (at_place x.place m.mine) =
      in-map (λ (z : Placed PlaceNote). z.remarked) x (filter (λ (z : Placed PlaceNote). z.place == x.place) m.mine)
      (in-filter (λ (z : Placed PlaceNote). z.place == x.place) x m.mine (eq-eqb x.place x.place refl) made) in
      let listed : In e (by m.seat (at x.place (past_of c))) =
      subst (λ zs. In e zs) (sym (at-one m x.place among has))
      (in-reverse e (entries_of (at_place x.place m.mine)) (in-map (λ (r : Remarked PlaceNote). r.entry) x.remarked (at_place x.place m.mine) own)) in
      let here = in-filter-back (is_by m.seat) e (at x.place (past_of c)) listed in
      record {
        there = in-filter-back (is_at x.place) e (past_of c) here;
        seat_is = eqb-true e.seat m.seat (in-filter-holds (is_by m.seat) e (at x.place (past_of c)) listed);
        place_is = eqb-true e.place x.place (in-filter-holds (is_at x.place) e (past_of c) here);
      }
