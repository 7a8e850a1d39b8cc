-- When all is closed, the merge is what seat 0 made and then what the others took.
-- l is the layout, v what the closing pass knew, b what it knew before the others came, c is what was closed, s a site
-- and the seat of the pass that takes there. A past has its newest entry first.
use mathlib.Core.Logic.{dite}
use native.Mathlib.Decide.{ℕ_discrete}
use Rattle.std.proofs.Common.{ℕ, ◌≡◌, ◌≢◌, ◌+◌, ◌-◌, ◌<◌, ◌≤◌, ◌==◌, inl, inr, Bool, true, false, cond, nat_le, List, [], ◌∷◌, ◌++◌, append-nil, length, map, reverse, Option, Some, None, option_map, slice_get, refl, sym, ◌∙◌, ap, subst, arith}
use Rattle.std.specs.List.{All, filter}
use Rattle.std.proofs.lemmas.Bool.{eqb-true, eq-eqb, and_parts, false≢true, le-leb, and_from, cases_lt}
use Rattle.std.proofs.lemmas.List.{reverse-reverse}
use Rattle.std.proofs.lemmas.List.Elements.{All-nil, All-cons, All-head, All-tail, All-weaker, All-filter, filter-append, filter_passes}
use Rattle.chorus_ui.specs.declared.ui.Ui.{Ui}
use Rattle.chorus_ui.specs.declared.layout.Layout.{Layout}
use Rattle.chorus_ui.specs.Layout.{IsLayout, has_place, places}
use Rattle.chorus_entry.specs.declared.entry.Entry.{Entry}
use Rattle.chorus_entry.specs.Order.{IsInOrder, IsRising, comes_before, is_at}
use Rattle.chorus_calls.specs.Callers.{Seated}
use Rattle.chorus_merge.proofs.Order.{comes_before-true}
use Rattle.chorus_world.specs.Views.{at, by, is_by}
use Rattle.chorus_world.specs.Places.{last_clock}
use Rattle.chorus_world.specs.Runs.{is_run}
use Rattle.chorus_world.specs.Commands.{performs}
use Rattle.chorus_world.specs.Steps.{is_legal, may}
use Rattle.chorus_world.proofs.Ports.Paths.{timely-place}
use Rattle.chorus_world.proofs.Ports.Sites.{place-inside}
use Rattle.chorus_world.proofs.Sorted.Exchange.{sorts_in_order}
use Rattle.chorus_world.proofs.Sorted.Holders.{run_is_legal}
use Rattle.law_network.specs.Network.{Event, NetState}
use Rattle.law_network.specs.Stands.{Stands}
use Rattle.law_network.proofs.Merge.Parts.{All-reverse, in-order-reverse}
use Rattle.law_history.specs.Histories.{Follows}
use Rattle.law_history.specs.PlaceTurns.{machine}
use Rattle.law_history.specs.Journals.{PlaceTurn, Comer, new_from}
use Rattle.law_history.specs.Runs.{KeepsPromises, MergesAsARun, actor_among, commands_given, merged_at}
use Rattle.law_history.proofs.Merging.{journals-merge-as-a-run}
use Rattle.law_closing.specs.Places.{PlaceNote}
use Rattle.law_closing.specs.Remarks.{turns_in}
use Rattle.chorus_turn.specs.declared.knowledge.Note.{Note}
use Rattle.chorus_turn.specs.declared.knowledge.Placed.{Placed}
use Rattle.chorus_turn.specs.declared.knowledge.Knowledge.{Knowledge}
use Rattle.chorus_turn.specs.Journals.{at_place, entries_of}
use Rattle.chorus_net.specs.declared.closed.Closed.{Closed}
use Rattle.chorus_net.specs.Closing.{past_of}
use Rattle.chorus_nucleus.specs.Closing.{ClosesAs}
use Rattle.law_filled.specs.Filled.{AllAreSettled}
use Rattle.law_emptied.specs.Crewed.{AllFirst, AllTake, AreWithin, IsOfTake, Sending, place_on, port_on, script}
use Rattle.law_crews.specs.Crewed.{AreTakers, AreTheirs, CameSo, ClosedMergesAsCrewed, HasTakers, MergesAsCrewed, entries_made}
use Rattle.law_crews.proofs.Lists.{In}
use Rattle.law_crews.proofs.Passes as passes
use Rattle.law_crews.proofs.Silent.{all-from, all-two, beyond, no-links}

-- Entries by clock.

all-later : (clock : ℕ) (x : Entry) (xs : List Entry) → clock < x.clock → All (λ (f : Entry). comes_before x f ≡ true) xs → All (λ (f : Entry). clock < f.clock) xs
all-later clock x xs lt a = All-weaker (λ (f : Entry). comes_before x f ≡ true) (λ (f : Entry). clock < f.clock) (λ f is. let le = (comes_before-true x f is).0 in omega (arith, lt, le)) xs a

-- of entries with the newest first, all are later than the clock where the oldest is
later-than : (clock : ℕ) (es : List Entry) (x : Entry) (xs : List Entry) → IsRising es → es ≡ reverse (x ∷ xs) → clock < x.clock → All (λ (f : Entry). clock < f.clock) es
later-than clock es x xs rising is lt =
    let order : IsInOrder (x ∷ xs) = subst IsInOrder (ap reverse is ∙ reverse-reverse (x ∷ xs)) (in-order-reverse es rising) in
    let all = All-cons (λ (f : Entry). clock < f.clock) x xs lt (all-later clock x xs lt order.0) in
    subst (All (λ (f : Entry). clock < f.clock)) (sym is) (turned (x ∷ xs) all)
  where
    turned : (ys : List Entry) → All (λ (f : Entry). clock < f.clock) ys → All (λ (f : Entry). clock < f.clock) (reverse ys)
    turned ys a = All-reverse (λ (f : Entry). clock < f.clock) ys a

-- and none is later than the clock where the newest is not
upto : (clock : ℕ) (es : List Entry) → IsRising es → last_clock es ≤ clock → All (λ (f : Entry). f.clock ≤ clock) es
upto clock [] rising le = All-nil (λ (f : Entry). f.clock ≤ clock)
upto clock (e ∷ es) rising le =
    All-cons (λ (f : Entry). f.clock ≤ clock) e es le
    (All-weaker (λ (f : Entry). comes_before f e ≡ true) (λ (f : Entry). f.clock ≤ clock) (λ f is. let below = (comes_before-true f e is).0 in omega (arith, below, le)) es rising.0)

-- an entry of seat 0 is not later than the clock, and any other is
record IsTimed (clock : ℕ) (e : Entry) : Type 0 where
  first : e.seat ≡ 0 → e.clock ≤ clock
  others : e.seat ≢ 0 → clock < e.clock

record IsCut (past : List Entry) : Type 0 where
  newer : List Entry
  older : List Entry
  whole : past ≡ newer ++ older
  first : AllFirst older
  others : All (λ (e : Entry). e.seat ≢ 0) newer

all-first : (past : List Entry) → All (λ (e : Entry). e.seat ≡ 0) past → AllFirst past
all-first [] a = tt
all-first (e ∷ past) a = (All-head (λ (f : Entry). f.seat ≡ 0) e past a, all-first past (All-tail (λ (f : Entry). f.seat ≡ 0) e past a))

cut : (clock : ℕ) (past : List Entry) → IsRising past → All (IsTimed clock) past → IsCut past
cut clock [] rising a = record { newer = []; older = []; whole = refl; first = tt; others = All-nil (λ (e : Entry). e.seat ≢ 0) }
cut clock (e ∷ past) rising a =
    let here = All-head (IsTimed clock) e past a in
    let rest = All-tail (IsTimed clock) e past a in
    dite (ℕ_discrete e.seat 0)
    (λ none.
    let le = here.first none in
    record {
      newer = [];
      older = e ∷ past;
      whole = refl;
      first = (none, all-first past (all-two (IsTimed clock) (λ (f : Entry). comes_before f e ≡ true) (λ (f : Entry). f.seat ≡ 0) past (λ f t is. early f t is le) rest rising.0));
      others = All-nil (λ (f : Entry). f.seat ≢ 0);
    })
    (λ some.
    let c = cut clock past rising.1 rest in
    record { newer = e ∷ c.newer; older = c.older; whole = ap (λ zs. e ∷ zs) c.whole; first = c.first; others = All-cons (λ (f : Entry). f.seat ≢ 0) e c.newer some c.others })
  where
    early : (f : Entry) → IsTimed clock f → comes_before f e ≡ true → e.clock ≤ clock → f.seat ≡ 0
    early f t is le =
        dite (ℕ_discrete f.seat 0) (λ none. none)
        (λ some. absurd (let late = t.others some in let below = (comes_before-true f e is).0 in omega (arith, late, below, le)))

-- Entries of one seat.

by-none : (s : ℕ) (older : List Entry) → s ≢ 0 → AllFirst older → by s older ≡ []
by-none s [] some f = refl
by-none s (e ∷ older) some f = go (e.seat == s) refl (by-none s older some f.1)
  where
    go : (b : Bool) → (e.seat == s) ≡ b → by s older ≡ [] → cond b (e ∷ by s older) (by s older) ≡ []
    go false t ih = ih
    go true t ih = absurd (some (sym (eqb-true e.seat s t) ∙ f.0))

by-newer : (s : ℕ) (past newer older : List Entry) → s ≢ 0 → past ≡ newer ++ older → AllFirst older → by s past ≡ by s newer
by-newer s past newer older some is f =
    ap (by s) is ∙ filter-append (is_by s) newer older ∙ ap (λ zs. by s newer ++ zs) (by-none s older some f) ∙ append-nil (by s newer)

-- all that was made at one place
entries-there : (p : ℕ) (mine : List (Placed PlaceNote)) → All (λ (m : Placed PlaceNote). m.place ≡ p) mine → entries_of (at_place p mine) ≡ entries_made mine
entries-there p [] a = refl
entries-there p (m ∷ mine) a =
    ap (λ b. entries_of (map (λ (z : Placed PlaceNote). z.remarked) (cond b (m ∷ filter (λ (z : Placed PlaceNote). z.place == p) mine) (filter (λ (z : Placed PlaceNote). z.place == p) mine)))) (eq-eqb m.place p (All-head (λ (z : Placed PlaceNote). z.place ≡ p) m mine a))
    ∙ ap (λ es. m.remarked.entry ∷ es) (entries-there p mine (All-tail (λ (z : Placed PlaceNote). z.place ≡ p) m mine a))

entries-away : (p r : ℕ) (mine : List (Placed PlaceNote)) → r ≢ p → All (λ (m : Placed PlaceNote). m.place ≡ p) mine → entries_of (at_place r mine) ≡ []
entries-away p r [] apart a = refl
entries-away p r (m ∷ mine) apart a =
    ap (λ b. entries_of (map (λ (z : Placed PlaceNote). z.remarked) (cond b (m ∷ filter (λ (z : Placed PlaceNote). z.place == r) mine) (filter (λ (z : Placed PlaceNote). z.place == r) mine)))) (away (m.place == r) refl)
    ∙ entries-away p r mine apart (All-tail (λ (z : Placed PlaceNote). z.place ≡ p) m mine a)
  where
    away : (b : Bool) → (m.place == r) ≡ b → b ≡ false
    away false t = refl
    away true t = absurd (apart (sym (eqb-true m.place r t) ∙ All-head (λ (z : Placed PlaceNote). z.place ≡ p) m mine a))

none-more : (s : ℕ) (e : Entry) (b : Bool) (es : List Entry) → by s (cond b (e ∷ es) es) ≡ [] → by s es ≡ []
none-more s e false es h = h
none-more s e true es h = go (is_by s e) h
  where
    go : (b : Bool) → cond b (e ∷ by s es) (by s es) ≡ [] → by s es ≡ []
    go true k = absurd (cc)
    go false k = k

-- where a seat has entries at one place alone, they are those of the place
mine-at : (l : Layout) (s p : ℕ) (past : List Entry) → is_legal l past ≡ true → ((r : ℕ) → has_place l r ≡ true → r ≢ p → by s (at r past) ≡ []) → by s past ≡ by s (at p past)
mine-at l s p [] h away = refl
mine-at l s p (e ∷ past) h away =
    go (is_by s e) (is_at p e) refl refl (mine-at l s p past two.1 (λ r has apart. none-more s e (is_at r e) (at r past) (away r has apart)))
  where
    two : (may l past e ≡ true) × (is_legal l past ≡ true)
    two = and_parts (may l past e) (is_legal l past) h

    go : (b c : Bool) → is_by s e ≡ b → is_at p e ≡ c → by s past ≡ by s (at p past) → cond b (e ∷ by s past) (by s past) ≡ by s (cond c (e ∷ at p past) (at p past))
    go true true t u ih = ap (λ es. e ∷ es) ih ∙ sym (ap (λ z. cond z (e ∷ by s (at p past)) (by s (at p past))) t)
    go true false t u ih =
        let none = away e.place (timely-place l past e two.0) (λ same. false≢true (sym u ∙ eq-eqb e.place p same)) in
        let here : by s (e ∷ at e.place past) ≡ [] = ap (λ z. by s (cond z (e ∷ at e.place past) (at e.place past))) (sym (eq-eqb e.place e.place refl)) ∙ none in
        let bad : e ∷ by s (at e.place past) ≡ [] = ap (λ z. cond z (e ∷ by s (at e.place past)) (by s (at e.place past))) (sym t) ∙ here in
        absurd (cc)
    go false true t u ih = ih ∙ sym (ap (λ z. cond z (e ∷ by s (at p past)) (by s (at p past))) t)
    go false false t u ih = ih

-- Follow-ups.

same-after : (l : Layout) (x : Seated) (ts : List PlaceTurn) (d e : Seated) → Follows (machine l) x ts d → Follows (machine l) x ts e → d ≡ e
same-after l x [] d e f g = sym f ∙ g
same-after l x (t ∷ ts) d e f g = same-after l t.after ts d e f.1 g.1

same-end : (l : Layout) (c c2 : Seated) (ts : List PlaceTurn) (d e : Seated) → ts ≢ [] → Follows (machine l) c ts d → Follows (machine l) c2 ts e → d ≡ e
same-end l c c2 [] d e some f g = absurd (some refl)
same-end l c c2 (t ∷ ts) d e some f g = same-after l t.after ts d e f.1 g.1

map-some : {X Y : Type 0} (f : X → Y) (o : Option X) (y : Y) → option_map f o ≡ Some y → (x : X) × (o ≡ Some x)
map-some f None y h = absurd (cc)
map-some f (Some x) y h = (x, refl)

first-made : (mine : List (Placed PlaceNote)) (clock : ℕ) → ((m : Placed PlaceNote) (rest : List (Placed PlaceNote)) → mine ≡ m ∷ rest → clock < m.remarked.entry.clock) → (es : List Entry) → IsRising es → es ≡ reverse (entries_made mine) → All (λ (f : Entry). clock < f.clock) es
first-made [] clock h es rising is = subst (All (λ (f : Entry). clock < f.clock)) (sym is) (All-nil (λ (f : Entry). clock < f.clock))
first-made (m ∷ mine) clock h es rising is = later-than clock es m.remarked.entry (entries_made mine) rising is (h m mine refl)

module _ (l : Layout) (v b : Knowledge PlaceNote) (comers : List Comer) (c : Closed) (clock n : ℕ) (later : List Sending) (who : Ui) (shape : IsLayout l) (k : ClosesAs l v comers c) (h : HasTakers l v b clock n later) (came : CameSo comers who (length v.notes))
    (made : v.made ≡ length v.notes + 1) (sites : length v.notes ≤ l.sites) (within : AreWithin (length v.notes) later) where
  abbrev kept : KeepsPromises l comers k.of_places k.of_seats k.closing
  kept = passes.kept l v comers c shape k

  abbrev es : List Event
  es = passes.es l v comers c shape k

  abbrev net : NetState
  net = passes.net l v comers c shape k

  abbrev H : List Entry
  H = passes.H l v comers c shape k

  stands : Stands net H
  stands = passes.stands l v comers c shape k

  rising : IsRising (past_of c)
  rising = subst IsRising (sym (passes.past-sort l v comers c shape k)) (sorts_in_order H stands.causal)

  by-past : (s : ℕ) → by s (past_of c) ≡ by s H
  by-past s = passes.by-past l v comers c shape k s

  merges : MergesAsARun l comers k.of_seats k.closing
  merges = journals-merge-as-a-run l comers k.of_places k.of_seats k.closing shape k.histories

  past-merged : past_of c ≡ merged_at l k.closing
  past-merged = passes.past-net l v comers c shape k ∙ kept.merge

  run : is_run l (actor_among comers) (past_of c) ≡ true
  run = ap (is_run l (actor_among comers)) past-merged ∙ merges.run

  legal : is_legal l (past_of c) ≡ true
  legal = run_is_legal l (actor_among comers) (past_of c) run

  count : length comers ≡ length v.notes + 1
  count = k.count ∙ made

  -- Seat 0.

  its-turns : k.of_seats 0 ≡ turns_in v.mine
  its-turns = ap k.of_seats (sym h.seat) ∙ k.mine

  last-is : k.closing.callers 0 ≡ h.last
  last-is =
      same-end l (new_from 0 (slice_get comers 0)) h.first (turns_in v.mine) (k.closing.callers 0) h.last h.some
      (subst (λ ts. Follows (machine l) (new_from 0 (slice_get comers 0)) ts (k.closing.callers 0)) its-turns (k.histories.histories.follows 0)) h.follows

  first-upto : All (λ (f : Entry). f.clock ≤ clock) (by 0 H)
  first-upto =
      let o = map-some (λ (x : Comer). x.actor) (slice_get comers 0) who came.first_is in
      let there : slice_get net.callers 0 ≡ Some (k.closing.callers 0) = kept.scheduled.ends.callers 0 ∙ ap (option_map (λ (x : Comer). k.closing.callers 0)) o.1 in
      let last = (stands.callers 0 (k.closing.callers 0) there).clock in
      let same = ap (λ (w : Seated). w.last) last-is in
      let most = h.upto in
      upto clock (by 0 H) (stands.causal.seats 0) (omega (arith, last, same, most))

  -- The others.

  site-has : (s : ℕ) → 1 ≤ s → s ≤ length v.notes → has_place l (place_on l s) ≡ true
  site-has s low high = place-inside l s (port_on s) shape (and_from (nat_le 1 s) (nat_le s l.sites) (le-leb 1 s low) (le-leb s l.sites (omega (arith, high, sites))))

  -- all entries of the seat of a note
  all-of : (s : ℕ) (m : Note PlaceNote) → In m v.notes → m.seat ≡ s → has_place l (place_on l s) ≡ true → All (λ (z : Placed PlaceNote). z.place ≡ place_on l s) m.mine
      → (by s (past_of c) ≡ reverse (entries_made m.mine)) × (by s (past_of c) ≡ by s (at (place_on l s) (past_of c)))
  all-of s m among is has placed =
      let p = place_on l s in
      let there = λ (r : ℕ) (place : has_place l r ≡ true). passes.at-one l v comers c shape k m r (inr among) place in
      let one : by m.seat (past_of c) ≡ by m.seat (at p (past_of c)) = mine-at l m.seat p (past_of c) legal (λ r place apart. there r place ∙ ap reverse (entries-away p r m.mine apart placed)) in
      subst (λ z. (by z (past_of c) ≡ reverse (entries_made m.mine)) × (by z (past_of c) ≡ by z (at p (past_of c)))) is
      (one ∙ there p has ∙ ap reverse (entries-there p m.mine placed), one)

  at-its-place : (s p : ℕ) (past : List Entry) → by s past ≡ by s (at p past) → All (λ (e : Entry). e.place ≡ p) (by s past)
  at-its-place s p past is =
      subst (All (λ (e : Entry). e.place ≡ p)) (sym is)
      (All-filter (is_by s) (λ (e : Entry). e.place ≡ p) (at p past) (All-weaker (λ (e : Entry). is_at p e ≡ true) (λ (e : Entry). e.place ≡ p) (λ e t. eqb-true e.place p t) (at p past) (filter_passes (is_at p) past)))

  -- what is so of the entries of each seat but 0
  record IsOfSeat (s : ℕ) (past : List Entry) : Type 0 where
    later_all : All (λ (e : Entry). clock < e.clock) past
    takes_all : All (λ (e : Entry). IsOfTake (port_on s) e.act) past

  of-none : (s : ℕ) (past : List Entry) → past ≡ [] → IsOfSeat s past
  of-none s past none = subst (IsOfSeat s) (sym none) record { later_all = All-nil (λ (e : Entry). clock < e.clock); takes_all = All-nil (λ (e : Entry). IsOfTake (port_on s) e.act) }

  of-notes : (s : ℕ) (notes : List (Note PlaceNote)) → 1 ≤ s → s + length notes ≤ length v.notes + 1 → AreTakers l clock s notes → ((m : Note PlaceNote) → In m notes → In m v.notes)
      → AreTheirs l s notes (past_of c) × ((j : ℕ) → s ≤ j → j < s + length notes → IsOfSeat j (by j H))
  of-notes s [] low high a among = (tt, λ j le lt. absurd (omega (arith, le, lt)))
  of-notes s (m ∷ notes) low high a among =
      let rest = of-notes (s + 1) notes (omega arith) (omega (arith, high)) a.3 (λ z there. among z (inr there)) in
      let both = all-of s m (among m (inl refl)) a.0 (site-has s low (omega (arith, high))) a.1.places in
      let mine : by s H ≡ reverse (entries_made m.mine) = sym (by-past s) ∙ both.0 in
      let here : IsOfSeat s (by s H) = record {
        later_all = first-made m.mine clock a.1.first (by s H) (stands.causal.seats s) mine;
        takes_all = subst (All (λ (e : Entry). IsOfTake (port_on s) e.act)) (sym mine) (All-reverse (λ (e : Entry). IsOfTake (port_on s) e.act) (entries_made m.mine) a.2);
      } in
      ((both.0, at-its-place s (place_on l s) (past_of c) both.1, rest.0), λ j le lt. dite (ℕ_discrete j s) (λ same. subst (λ z. IsOfSeat z (by z H)) (sym same) here) (λ apart. rest.1 j (omega (arith, le, apart)) (omega (arith, lt))))

  noted : AreTheirs l 1 v.notes (past_of c) × ((j : ℕ) → 1 ≤ j → j < 1 + length v.notes → IsOfSeat j (by j H))
  noted = of-notes 1 v.notes (omega arith) (omega arith) h.takers (λ m there. there)

  of-seat : (j : ℕ) → j ≢ 0 → IsOfSeat j (by j H)
  of-seat j some = elim (cases_lt j (1 + length v.notes)) [
    | inl lt ↦ noted.1 j (omega (arith, some)) lt
    | inr le ↦ of-none j (by j H) (stands.strangers j (kept.scheduled.ends.callers j ∙ ap (option_map (λ (x : Comer). k.closing.callers j)) (beyond comers j (omega (arith, count, le)))))
  ]

  -- All of them.

  timed : All (IsTimed clock) (past_of c)
  timed = all-from (IsTimed clock) (λ (e : Entry). e.seat) (past_of c) (λ j. subst (All (IsTimed clock)) (sym (by-past j)) (of-one j))
    where
      of-one : (j : ℕ) → All (IsTimed clock) (by j H)
      of-one j =
          dite (ℕ_discrete j 0)
          (λ none. subst (λ z. All (IsTimed clock) (by z H)) (sym none)
          (all-two (λ (e : Entry). is_by 0 e ≡ true) (λ (e : Entry). e.clock ≤ clock) (IsTimed clock) (by 0 H)
          (λ e is le. record { first = λ z. le; others = λ some. absurd (some (eqb-true e.seat 0 is)) }) (filter_passes (is_by 0) H) first-upto))
          (λ some. all-two (λ (e : Entry). is_by j e ≡ true) (λ (e : Entry). clock < e.clock) (IsTimed clock) (by j H)
          (λ e is lt. record { first = λ z. absurd (some (sym (eqb-true e.seat j is) ∙ z)); others = λ z. lt }) (filter_passes (is_by j) H) (of-seat j some).later_all)

  abbrev TakesIfOther : Entry → Type 0
  TakesIfOther e = e.seat ≢ 0 → IsOfTake (port_on e.seat) e.act

  taking : All TakesIfOther (past_of c)
  taking = all-from TakesIfOther (λ (e : Entry). e.seat) (past_of c) (λ j. subst (All TakesIfOther) (sym (by-past j)) (of-one j))
    where
      of-one : (j : ℕ) → All TakesIfOther (by j H)
      of-one j =
          dite (ℕ_discrete j 0)
          (λ none. All-weaker (λ (e : Entry). is_by j e ≡ true) TakesIfOther (λ e is some. absurd (some (eqb-true e.seat j is ∙ none))) (by j H) (filter_passes (is_by j) H))
          (λ some. all-two (λ (e : Entry). is_by j e ≡ true) (λ (e : Entry). IsOfTake (port_on j) e.act) TakesIfOther (by j H)
          (λ e is t apart. subst (λ z. IsOfTake (port_on z) e.act) (sym (eqb-true e.seat j is)) t) (filter_passes (is_by j) H) (of-seat j some).takes_all)

  parts : IsCut (past_of c)
  parts = cut clock (past_of c) rising timed

  all-take : (newer : List Entry) → All (λ (e : Entry). e.seat ≢ 0) newer → All TakesIfOther newer → AllTake newer
  all-take [] a t = tt
  all-take (e ∷ newer) a t =
      let apart = All-head (λ (f : Entry). f.seat ≢ 0) e newer a in
      ((let some = apart in omega (arith, some)), All-head TakesIfOther e newer t apart, all-take newer (All-tail (λ (f : Entry). f.seat ≢ 0) e newer a) (All-tail TakesIfOther e newer t))

  all-left : (P : Entry → Type 0) (xs ys : List Entry) → All P (xs ++ ys) → All P xs
  all-left P [] ys a = All-nil P
  all-left P (x ∷ xs) ys a = All-cons P x xs (All-head P x (xs ++ ys) a) (all-left P xs ys (All-tail P x (xs ++ ys) a))

  performed : performs l 0 who (past_of c) (script n (length v.notes) later) ≡ true
  performed =
      let given : reverse (commands_given (k.of_seats 0)) ≡ script n (length v.notes) later = ap (λ ts. reverse (commands_given ts)) its-turns ∙ ap reverse h.gave_is ∙ reverse-reverse (script n (length v.notes) later) in
      (λ i. performs l 0 who (past-merged i) (sym given i)) ∙ merges.performed 0 who came.first_is

  quiet : AllAreSettled (past_of c)
  quiet =
      subst AllAreSettled (sym past-merged)
      (merges.quiet (no-links l v b comers k.log k.of_places k.of_seats k.closing clock k.histories k.made k.tells k.noted count h.seat h.takers h.settled shape)).messages

  theirs : (s : ℕ) (notes : List (Note PlaceNote)) → 1 ≤ s → AreTheirs l s notes (past_of c) → AreTheirs l s notes parts.newer
  theirs s [] low a = tt
  theirs s (m ∷ notes) low a =
      let same = by-newer s (past_of c) parts.newer parts.older (λ none. omega (arith, low, none)) parts.whole parts.first in
      (sym same ∙ a.0, subst (All (λ (e : Entry). e.place ≡ place_on l s)) same a.1, theirs (s + 1) notes (omega arith) a.2)

  pub merges-as-crewed : MergesAsCrewed l v comers c n later
  merges-as-crewed = record {
    newer = parts.newer;
    older = parts.older;
    whole = parts.whole;
    crewed = record {
      shape = shape;
      sites = sites;
      within = within;
      run = ap (is_run l (actor_among comers)) (sym parts.whole) ∙ run;
      first = parts.first;
      first_actor = who;
      performed = ap (λ past. performs l 0 who past (script n (length v.notes) later)) (sym parts.whole) ∙ performed;
      others = all-take parts.newer parts.others (all-left TakesIfOther parts.newer parts.older (subst (All TakesIfOther) parts.whole taking));
      settled = subst AllAreSettled parts.whole quiet;
    };
    theirs = theirs 1 v.notes (omega arith) noted.0;
  }

pub closed-merges-as-crewed : ClosedMergesAsCrewed
closed-merges-as-crewed l v b comers c clock n later first shape k h came made sites within = merges-as-crewed l v b comers c clock n later first shape k h came made sites within
