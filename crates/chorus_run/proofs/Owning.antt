-- Of each pass the journals that are handed out have just what it made.
use Rattle.std.proofs.Common.{ℕ, zero, suc, ◌≡◌, ◌==◌, ◌+◌, ◌<◌, Bool, true, false, cond, List, [], ◌∷◌, length, Some, slice_get, refl, ◌∙◌, ap, arith}
use Rattle.std.specs.List.{All}
use Rattle.std.proofs.lemmas.List.{length-map}
use Rattle.std.proofs.lemmas.List.Elements.{All-nil, All-cons, All-head, All-tail, All-weaker}
use Rattle.chorus_entry.specs.declared.entry.Entry.{Entry}
use Rattle.chorus_world.specs.Views.{by}
use Rattle.chorus_turn.specs.declared.knowledge.Remarked.{Remarked}
use Rattle.chorus_turn.specs.declared.knowledge.Placed.{Placed}
use Rattle.chorus_turn.specs.declared.knowledge.Note.{Note}
use Rattle.chorus_turn.specs.Journals.{at_place, by_seat, entries_of}
use Rattle.chorus_turn.specs.Knowing.{Shows}
use Rattle.chorus_ui.specs.Layout.{places}
use Rattle.law_closing.specs.Places.{PlaceNote}
use Rattle.chorus_net.specs.declared.closed.Closed.{Closed}
use Rattle.chorus_net.specs.Closing.{closed_journals, IsLeft}
use Rattle.law_history.specs.Journals.{events}
use Rattle.law_history.specs.Runs.{KeepsPromises}
use Rattle.law_history.proofs.Merging.{journals-keep-promises}
use Rattle.law_network.specs.History.{history}
use Rattle.law_network.specs.Network.{numbers, schedule}
use Rattle.law_network.proofs.Merge.Journals.{journals-are}
use Rattle.law_network.proofs.Merge.Parts.{part}
use Rattle.law_network.proofs.Places.Layouts.{schedule-keeps}
use Rattle.law_network.proofs.Promises.Promised.{stands-at}
use Rattle.chorus_nucleus.specs.declared.nucleus.Nucleus.{Nucleus}
use Rattle.chorus_nucleus.specs.declared.pass.Pass.{Pass}
use Rattle.chorus_nucleus.specs.Passes.{known, layout_of}
use Rattle.chorus_nucleus.specs.Closing.{IsClosed}
use Rattle.chorus_nucleus.proofs.Running.{a-closed-nucleus-is-a-run}
use Rattle.chorus_perform.specs.Scripts.{IsSetUpFirst}
use Rattle.chorus_run.specs.Threads.{HasOwn, HasOwnIn, IsClosedBy, IsOfNucleus}

-- the entries of a seat, with remarks and without
by-entries : (q : ℕ) (log : List (Remarked PlaceNote)) → by q (entries_of log) ≡ entries_of (by_seat q log)
by-entries q [] = refl
by-entries q (r ∷ rs) = go (r.entry.seat == q) (by-entries q rs)
  where
    go : (b : Bool) → by q (entries_of rs) ≡ entries_of (by_seat q rs) → cond b (r.entry ∷ by q (entries_of rs)) (by q (entries_of rs)) ≡ entries_of (cond b (r ∷ by_seat q rs) (by_seat q rs))
    go true h = ap (λ es. r.entry ∷ es) h
    go false h = h

has-own : (p q : ℕ) (journal : List Entry) (log : List (Remarked PlaceNote)) (mine : List (Placed PlaceNote)) → journal ≡ entries_of log → by_seat q log ≡ at_place p mine → HasOwn p journal q mine
has-own p q journal log mine is shows = ap (by q) is ∙ by-entries q log ∙ ap entries_of shows

inside : {X : Type 0} (xs : List X) (i : ℕ) (x : X) → slice_get xs i ≡ Some x → i < length xs
inside [] i x e = absurd (cc)
inside (y ∷ xs) zero x e = omega arith
inside (y ∷ xs) (suc i) x e = let ih = inside xs i x e in omega (arith, ih)

-- there is a journal for each place
count-numbers : (m p : ℕ) → length (numbers m p) ≡ m
count-numbers zero p = refl
count-numbers (suc m) p = ap suc (count-numbers m (p + 1))

journals-of : (n : Nucleus) (last : Pass) (closed : Closed) → IsClosed n last closed → length (closed_journals closed) ≡ places (layout_of n)
journals-of n last closed h =
    let l = layout_of n in
    let so = h.closes in
    let kept : KeepsPromises l h.comers so.of_places so.of_seats so.closing = journals-keep-promises l h.comers so.of_places so.of_seats so.closing h.shape so.histories in
    let es = events h.comers kept.turns in
    let left : IsLeft (schedule l es) closed = so.is_left kept.turns kept.scheduled in
    ap length (left.journals ∙ journals-are (schedule l es) (history l es) (stands-at l es h.shape kept.scheduled.may))
    ∙ length-map (numbers (places (schedule l es).layout) 1) (part (history l es)) ∙ count-numbers (places (schedule l es).layout) 1
    ∙ ap places (schedule-keeps l es).layout

pub is-closed-by : (n : Nucleus) (last : Pass) (closed : Closed) → IsClosed n last closed → IsClosedBy n last closed
is-closed-by n last closed h = record {
  closes = h;
  own = λ p journal found. has-own (p + 1) (known last).seat journal (h.closes.log (p + 1)) (known last).mine (h.closes.entries p journal found) (shows p journal found).own;
  noted = all-at (known last).notes (λ p journal found.
      All-weaker (λ (m : Note PlaceNote). by_seat m.seat (h.closes.log (p + 1)) ≡ at_place (p + 1) m.mine) (λ (m : Note PlaceNote). HasOwn (p + 1) journal m.seat m.mine)
      (λ m s. has-own (p + 1) m.seat journal (h.closes.log (p + 1)) m.mine (h.closes.entries p journal found) s) (known last).notes (shows p journal found).noted);
  follows = (a-closed-nucleus-is-a-run (layout_of n) (known last) h.comers closed h.shape h.closes).follows;
}
  where
    all-at : (notes : List (Note PlaceNote)) → ((p : ℕ) (journal : List Entry) → slice_get (closed_journals closed) p ≡ Some journal → All (λ (m : Note PlaceNote). HasOwn (p + 1) journal m.seat m.mine) notes) → All (λ (m : Note PlaceNote). HasOwnIn closed m.seat m.mine) notes
    all-at [] each = All-nil (λ (m : Note PlaceNote). HasOwnIn closed m.seat m.mine)
    all-at (m ∷ ms) each =
        All-cons (λ (m : Note PlaceNote). HasOwnIn closed m.seat m.mine) m ms
        (λ p journal found. All-head (λ (m : Note PlaceNote). HasOwn (p + 1) journal m.seat m.mine) m ms (each p journal found))
        (all-at ms (λ p journal found. All-tail (λ (m : Note PlaceNote). HasOwn (p + 1) journal m.seat m.mine) m ms (each p journal found)))

    shows : (p : ℕ) (journal : List Entry) → slice_get (closed_journals closed) p ≡ Some journal → Shows (p + 1) (known last) (h.closes.log (p + 1))
    shows p journal found = let count = journals-of n last closed h in let lt = inside (closed_journals closed) p journal found in h.closes.tells.shows p (omega (arith, lt, count))

pub is-of-nucleus : (n : Nucleus) (last : Pass) (closed : Closed) → IsClosed n last closed → (known last).seat ≡ 0 → IsSetUpFirst (known last) → IsOfNucleus n closed
is-of-nucleus n last closed h opening first = record { last = last; by_last = is-closed-by n last closed h; opening = opening; first = first }
