-- A turn more of a place, and packets that move.
-- d is the desk before, e the desk after, w and x the caller before and after.
use Rattle.std.proofs.Common.{ℕ, suc, ◌≡◌, ◌+◌, ◌-◌, ◌^◌, min, length, true, List, [], ◌∷◌, ◌++◌, map, reverse, Option, Some, None, option_to_list, refl, sym, ◌∙◌, ap, subst, arith}
use Rattle.std.specs.List.{All}
use Rattle.std.proofs.lemmas.Bool.{and_parts}
use Rattle.std.proofs.lemmas.List.{append-nil, map-append, reverse-append, reverse-reverse}
use Rattle.std.proofs.lemmas.List.Elements.{All-nil, All-cons, All-append, All-head, All-tail}
use Rattle.chorus_ui.specs.declared.layout.Layout.{Layout}
use Rattle.chorus_ui.specs.Layout.{has_place}
use Rattle.chorus_entry.specs.declared.entry.Entry.{Entry}
use Rattle.chorus_entry.specs.declared.command.Command.{Command}
use Rattle.chorus_entry.specs.declared.packet.Packet.{Packet}
use Rattle.chorus_calls.specs.Callers.{Seated}
use Rattle.law_machine.specs.declared.outgoing.Outgoing.{Outgoing}
use Rattle.law_machine.specs.PlaceState.{PlaceState, started}
use Rattle.law_machine.specs.PlaceMachine.{begun, begun_by, act, work}
use Rattle.law_machine.proofs.Machine.Stays.{act-stays, work-stays}
use Rattle.chorus_place.specs.Calls.{state}
use Rattle.chorus_ends.specs.Links.{Links}
use Rattle.chorus_serve.specs.Flows.{GoesOut}
use Rattle.chorus_serve.specs.Desks.{DeskState}
use Rattle.chorus_turn.specs.declared.knowledge.Remarked.{Remarked}
use Rattle.chorus_turn.specs.Journals.{entries_of, GrowsBy}
use Rattle.law_history.specs.declared.turns.Input.{Input}
use Rattle.law_history.specs.Turns.{Turn, puts_to, put_to, from_place}
use Rattle.law_history.specs.Counts.{put_count, got_count, packets_in}
use Rattle.law_history.specs.PlaceTurns.{as_sent, is_other, turn, may_take, may_come, machine}
use Rattle.law_history.specs.Entries.{IsMadeBy}
use Rattle.law_history.proofs.Appending.{turns-append}
use Rattle.law_history.proofs.Lists.{flat_map-append}
use Rattle.law_closing.specs.Remarks.{turn_of, turns_at, numbered, remarked}
use Rattle.law_closing.specs.Growth.{noted}
use Rattle.law_closing.specs.Places.{PlaceNote}
use Rattle.law_closing.proofs.Growth.{turns-keep-places, moves-keep-places, turns_at-append, turns_at-remarked}
use Rattle.chorus_nucleus.specs.SiteTurns.Sites.{sent_in, waits_in, received_in, held_in, FitsAt, entries, IsJournalOf}
use Rattle.chorus_nucleus.specs.SiteTurns.Turning.{IsNews}
use Rattle.chorus_io.specs.Count.{raised}
use Rattle.chorus_nucleus.proofs.SiteTurns.Owned.{turned-journal, owned}
use Rattle.chorus_nucleus.proofs.SiteTurns.Flowing.{taken, ComesFrom, goes-out, comes-in, in-hand, in-hand-more}

-- the packets that a turn of the place machine puts
abbrev pub outgoing : Input Command Packet → PlaceState → Seated → List Outgoing
outgoing (Input.Command c) s w = (act c (begun s w)).puts
outgoing (Input.Packet a k) s w = (work k (begun_by s w k)).puts

puts-are : (i : Input Command Packet) (s : PlaceState) (w : Seated) → (turn i s w).puts ≡ map as_sent (outgoing i s w)
puts-are (Input.Command c) s w = refl
puts-are (Input.Packet a k) s w = refl

pub layout-stays : (i : Input Command Packet) (s : PlaceState) (w : Seated) → (turn i s w).place.layout ≡ s.layout
layout-stays (Input.Command c) s w = (act-stays c (begun s w)).layout
layout-stays (Input.Packet a k) s w = (work-stays k (begun_by s w k)).layout

pub number-stays : (i : Input Command Packet) (s : PlaceState) (w : Seated) → (turn i s w).place.number ≡ s.number
number-stays (Input.Command c) s w = (act-stays c (begun s w)).number
number-stays (Input.Packet a k) s w = (work-stays k (begun_by s w k)).number

comes : (l : Layout) (p : ℕ) (i : Input Command Packet) (s : PlaceState) (w : Seated) → may_take l p i s w ≡ true → ComesFrom l p i
comes l p (Input.Command c) s w may = tt
comes l p (Input.Packet a k) s w may =
    (and_parts (is_other l p a) _ (and_parts (has_place l p) (may_come l p (Input.Packet a k) w) may).1).0

-- what a turn takes from the hand, if it is one
abbrev pub took : Option (Input Command Packet) → Option (ℕ × Packet)
took None = None
took (Some i) = taken i

-- the count of packets worked off, when this was taken
abbrev pub counted : Option (ℕ × Packet) → ℕ → ℕ
counted None n = n
counted (Some k) n = raised n

-- What moved in a turn with i: what it put waits behind what waited or was sent, at most one packet was received, and what it took
-- is no longer in hand.
pub record Flows (i : Option (Input Command Packet)) (os : List Outgoing) (d e : DeskState) : Type 0 where
  pub out : (b : ℕ) → has_place d.place.layout b ≡ true → GoesOut b (puts_to b (map as_sent os)) d.place.out.lists e.place.out.lists d.links e.links
  pub popped : Option (ℕ × Packet)
  pub received : (a : ℕ) → e.links.received a ≡ d.links.received a ++ from_place a (option_to_list popped)
  pub hand : option_to_list (took i) ++ option_to_list e.hand ≡ option_to_list d.hand ++ option_to_list popped
  pub puts : e.place.out.puts ≡ d.place.out.puts + length os
  pub worked : e.worked ≡ counted (took i) d.worked

-- the entries of news
numbered-entries : (n : ℕ) (r : PlaceNote) (es : List Entry) → entries_of (numbered n r es) ≡ es
numbered-entries n r [] = refl
numbered-entries n r (e ∷ es) = ap (λ xs. e ∷ xs) (numbered-entries (n + 1) r es)

-- what fits a place fits the same place named otherwise
pub fits-as : (l m : Layout) (p q : ℕ) (s t : PlaceState) (k : Links) (lists : List (List Packet)) (hand : Option (ℕ × Packet)) (log : List (Remarked PlaceNote))
    → l ≡ m → p ≡ q → s ≡ t → FitsAt l p s k lists hand log → FitsAt m q t k lists hand log
fits-as l m p q s t k lists hand log a b c h =
    subst (λ z. FitsAt z q t k lists hand log) a (subst (λ z. FitsAt l z t k lists hand log) b (subst (λ z. FitsAt l p z k lists hand log) c h))

-- Counts of turns.

put-append : (ts us : List (Turn Seated Command Packet)) → put_count (ts ++ us) ≡ put_count ts + put_count us
put-append [] us = omega arith
put-append (t ∷ ts) us = (let h = put-append ts us in omega (arith, h))

got-append : (ts us : List (Turn Seated Command Packet)) → got_count (ts ++ us) ≡ got_count ts + got_count us
got-append [] us = omega arith
got-append (t ∷ ts) us = (let h = got-append ts us in omega (arith, h))

-- a count that stops at 2^64 - 1
raised-min : (g : ℕ) → raised (min g (2 ^ 64 - 1)) ≡ min (g + 1) (2 ^ 64 - 1)
raised-min g = grind arith

worked-more : (i : Input Command Packet) (d e g : ℕ) → e ≡ counted (taken i) d → d ≡ min g (2 ^ 64 - 1) → e ≡ min (g + packets_in i) (2 ^ 64 - 1)
worked-more (Input.Command c) d e g h k = (let z : g + 0 ≡ g = omega arith in h ∙ k ∙ ap (λ n. min n (2 ^ 64 - 1)) (sym z))
worked-more (Input.Packet a p) d e g h k = h ∙ ap raised k ∙ raised-min g

map-length : {A B : Type 0} (f : A → B) (xs : List A) → length (map f xs) ≡ length xs
map-length f [] = refl
map-length f (x ∷ xs) = ap suc (map-length f xs)

-- the entries of a turn, the oldest first, are of its place
reversed : (P : Entry → Type 0) (fs : List Entry) → All P fs → All P (reverse fs)
reversed P [] g = g
reversed P (f ∷ fs) g =
    subst (All P) (sym (reverse-append (f ∷ []) fs))
    (All-append P (reverse fs) (f ∷ []) (reversed P fs (All-tail P f fs g)) (All-cons P f [] (All-head P f fs g) (All-nil P)))

made-so : (P : Entry → Type 0) (n q : ℕ) → ((f : Entry) → IsMadeBy n q f → P f) → (fs : List Entry) → All (IsMadeBy n q) fs → All P fs
made-so P n q so [] g = All-nil P
made-so P n q so (f ∷ fs) g = All-cons P f fs (so f (All-head (IsMadeBy n q) f fs g)) (made-so P n q so fs (All-tail (IsMadeBy n q) f fs g))

in-order : (P : Entry → Type 0) (newer : List Entry) (e : Entry) → All P (newer ++ e ∷ []) → All P (e ∷ reverse newer)
in-order P newer e h = subst (All P) (reverse-append newer (e ∷ [])) (reversed P (newer ++ e ∷ []) h)

module _ (i : Input Command Packet) (d e : DeskState) (w x : Seated) where
  abbrev l : Layout
  l = d.place.layout

  abbrev p : ℕ
  p = d.place.number

  abbrev s : PlaceState
  s = state d.place

  -- a turn more
  pub turned : may_take l p i s w ≡ true → state e.place ≡ (turn i s w).place → x ≡ (turn i s w).caller → Flows (Some i) (outgoing i s w) d e
      → (log : List (Remarked PlaceNote)) → IsJournalOf d log → (news : List (Remarked PlaceNote)) × IsJournalOf e (log ++ news) × IsNews i s w x news
  turned may now caller f log h =
      let app = turns-append l p i s w may in
      let r : PlaceNote = noted (machine l) p i s w in
      let later : List Entry = reverse app.newer in
      let news : List (Remarked PlaceNote) = remarked r (app.entry ∷ later) in
      let from = comes l p i s w may in
      let moved = moves-keep-places PlaceState Seated Command Packet (machine l) (started l p) p log s (sent_in l p d.links) (waits_in l p d.place.out.lists log)
      (received_in l p d.links) (held_in l p d.hand) (sent_in l p d.links) (waits_in l p d.place.out.lists log) (received_in l p e.links)
      (λ a. held_in l p d.hand a ++ held_in l p f.popped a) (held_in l p f.popped) h.1.keeps (λ b. refl) (λ a. comes-in l p a f.popped d.links e.links (f.received a)) (λ a. refl) in
      let all : turns_at p (log ++ news) ≡ turns_at p log ++ turn_of p record { entry = app.entry; remark = r } ∷ [] =
      turns_at-append p log news ∙ ap (λ ts. turns_at p log ++ ts) (turns_at-remarked p r app.entry later) in
      let away : (b : ℕ) → put_to b (turns_at p (log ++ news)) ≡ put_to b (turns_at p log) ++ puts_to b (map as_sent (outgoing i s w)) = λ b.
      ap (put_to b) all ∙ flat_map-append (λ (t : Turn Seated Command Packet). puts_to b t.puts) (turns_at p log) (turn_of p record { entry = app.entry; remark = r } ∷ [])
      ∙ ap (λ ks. put_to b (turns_at p log) ++ ks) (append-nil (puts_to b (turn i s w).puts) ∙ ap (puts_to b) (puts-are i s w)) in
      let kept = turns-keep-places PlaceState Seated Command Packet (machine l) (started l p) p log s (sent_in l p d.links) (waits_in l p d.place.out.lists log)
      (received_in l p e.links) (λ a. held_in l p d.hand a ++ held_in l p f.popped a) i w app.entry later
      (sent_in l p e.links) (waits_in l p e.place.out.lists (log ++ news)) (held_in l p e.hand) moved may app.clock
      (λ b. goes-out l p b (outgoing i s w) d.place.out.lists e.place.out.lists d.links e.links (put_to b (turns_at p log)) (put_to b (turns_at p (log ++ news))) (f.out b) (away b)
      ∙ ap (λ ks. (sent_in l p d.links b ++ waits_in l p d.place.out.lists log b) ++ puts_to b ks) (sym (puts-are i s w)))
      (λ a. in-hand l p a i d.hand f.popped e.hand from f.hand) in
      let same_layout : l ≡ e.place.layout = sym (ap (λ (z : PlaceState). z.layout) now ∙ layout-stays i s w) in
      let same_number : p ≡ e.place.number = sym (ap (λ (z : PlaceState). z.number) now ∙ app.number) in
      let appended : entries e ≡ entries d ++ app.entry ∷ later =
      ap (λ (z : PlaceState). reverse z.journal) now ∙ ap reverse app.journal ∙ turned-journal app.newer app.entry s.journal in
      let journal : (turn i s w).place.journal ≡ reverse later ++ app.entry ∷ s.journal =
      app.journal ∙ ap (λ es. es ++ app.entry ∷ s.journal) (sym (reverse-reverse app.newer)) in (
        news,
        (
          map-append (λ (r : Remarked PlaceNote). r.entry) log news ∙ ap (λ es. es ++ entries_of news) h.0
              ∙ ap (λ es. reverse s.journal ++ es) (numbered-entries 0 r (app.entry ∷ later)) ∙ sym (turned-journal app.newer app.entry s.journal)
              ∙ sym (ap reverse app.journal) ∙ sym (ap (λ (z : PlaceState). reverse z.journal) now),
          record {
            keeps = fits-as l e.place.layout p e.place.number (turn i s w).place (state e.place) e.links e.place.out.lists e.hand (log ++ news) same_layout same_number (sym now) kept;
            puts = subst (λ q. e.place.out.puts ≡ put_count (turns_at q (log ++ news))) same_number
                (f.puts ∙ (let a = h.1.puts in let b = ap put_count all ∙ put-append (turns_at p log) (turn_of p record { entry = app.entry; remark = r } ∷ []) in
                let m = ap length (puts-are i s w) ∙ map-length as_sent (outgoing i s w) in omega (arith, a, b, m)));
            worked = subst (λ q. e.worked ≡ min (got_count (turns_at q (log ++ news))) (2 ^ 64 - 1)) same_number
                (let last : got_count (turns_at p log) + packets_in i ≡ got_count (turns_at p log) + (packets_in i + 0) = omega arith in
                worked-more i d.worked e.worked (got_count (turns_at p log)) f.worked h.1.worked
                ∙ ap (λ n. min n (2 ^ 64 - 1)) (last ∙ sym (ap got_count all ∙ got-append (turns_at p log) (turn_of p record { entry = app.entry; remark = r } ∷ []))));
            own = subst (λ q. All (λ (f : Entry). f.place ≡ q) (entries e)) same_number (subst (All (λ (f : Entry). f.place ≡ p)) (sym appended) (All-append (λ (f : Entry). f.place ≡ p) (entries d) (app.entry ∷ later) h.1.own (in-order (λ (f : Entry). f.place ≡ p) app.newer app.entry (made-so (λ (f : Entry). f.place ≡ p) p w.seat (λ f made. made.place) (app.newer ++ app.entry ∷ []) app.made))));
          },
        ),
        record {
          entry = app.entry;
          later = later;
          is = refl;
          may = may;
          clock = app.clock;
          own_act = owned i s w app.newer app.entry app.journal;
          journal = journal;
          after = caller;
        },
      )

  -- the entries that it appended are of its caller
  pub grown : may_take l p i s w ≡ true → state e.place ≡ (turn i s w).place → GrowsBy w.seat (entries d) (entries e)
  grown may now =
      let app = turns-append l p i s w may in (
        app.entry ∷ reverse app.newer,
        ap (λ (z : PlaceState). reverse z.journal) now ∙ ap reverse app.journal ∙ turned-journal app.newer app.entry s.journal,
        in-order (λ (f : Entry). f.seat ≡ w.seat) app.newer app.entry
            (made-so (λ (f : Entry). f.seat ≡ w.seat) s.number w.seat (λ f made. made.seat_is) (app.newer ++ app.entry ∷ []) app.made),
      )

-- packets move, and no entry is appended
pub moved : (d e : DeskState) → state e.place ≡ state d.place → Flows None [] d e → (log : List (Remarked PlaceNote)) → IsJournalOf d log → IsJournalOf e (log ++ [])
moved d e same f log h =
    let l : Layout = d.place.layout in
    let p : ℕ = d.place.number in
    let s : PlaceState = state d.place in
    let kept = moves-keep-places PlaceState Seated Command Packet (machine l) (started l p) p log s (sent_in l p d.links) (waits_in l p d.place.out.lists log)
    (received_in l p d.links) (held_in l p d.hand) (sent_in l p e.links) (waits_in l p e.place.out.lists log) (received_in l p e.links) (held_in l p e.hand) (held_in l p f.popped) h.1.keeps
    (λ b. goes-out l p b [] d.place.out.lists e.place.out.lists d.links e.links (put_to b (turns_at p log)) (put_to b (turns_at p log)) (f.out b) (sym (append-nil (put_to b (turns_at p log))))
    ∙ append-nil (sent_in l p d.links b ++ waits_in l p d.place.out.lists log b))
    (λ a. comes-in l p a f.popped d.links e.links (f.received a)) (λ a. in-hand-more l p a d.hand f.popped e.hand f.hand) in
    subst (IsJournalOf e) (sym (append-nil log)) (
      h.0 ∙ sym (ap (λ (z : PlaceState). reverse z.journal) same),
      record {
        keeps = fits-as l e.place.layout p e.place.number s (state e.place) e.links e.place.out.lists e.hand log
            (sym (ap (λ (z : PlaceState). z.layout) same)) (sym (ap (λ (z : PlaceState). z.number) same)) (sym same) kept;
        puts = subst (λ q. e.place.out.puts ≡ put_count (turns_at q log)) (sym (ap (λ (z : PlaceState). z.number) same)) (let a = h.1.puts in let g = f.puts in omega (arith, a, g));
        worked = subst (λ q. e.worked ≡ min (got_count (turns_at q log)) (2 ^ 64 - 1)) (sym (ap (λ (z : PlaceState). z.number) same)) (f.worked ∙ h.1.worked);
        own = subst (λ (z : PlaceState). All (λ (g : Entry). g.place ≡ z.number) (reverse z.journal)) (sym same) h.1.own;
      },
    )
