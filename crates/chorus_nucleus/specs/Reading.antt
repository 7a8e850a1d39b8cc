-- What `publish` and `locate` do.
-- p is the number of a place, es are the entries of its journal as it was found.
use Rattle.std.specs.Prelude.{ℕ, ◌≡◌, ◌==◌, cond, List, length, Option, Some, None, Result, Ok, Err, IfOk, IfErr, OnErr}
use mathlib.Core.List.{IsPrefix}
use Rattle.chorus_ui.specs.declared.ui.Ui.{Ui}
use Rattle.chorus_ui.specs.declared.layout.Layout.{Layout}
use Rattle.chorus_entry.specs.declared.entry.Entry.{Entry}
use Rattle.chorus_calls.specs.Callers.{Seated, raised}
use Rattle.chorus_board.specs.declared.reader.BoardReader.{BoardReader}
use Rattle.chorus_board.specs.declared.reader.Located.{Located}
use Rattle.chorus_board.specs.Located.{located_on, pair_of, IsOfPlace}
use Rattle.chorus_board.specs.Boards as boards
use Rattle.chorus_ruled_ends.specs.Ruled.{Ruled}
use Rattle.chorus_entry.specs.declared.packet.Packet.{Packet}
use Rattle.law_machine.specs.PlaceState.{PlaceState}
use Rattle.law_closing.specs.Places.{PlaceNote}
use Rattle.chorus_turn.specs.declared.knowledge.Knowledge.{Knowledge}
use Rattle.chorus_turn.specs.Knowing.{IsSamePass}
use Rattle.chorus_turn.specs.Journals.{entries_of}
use Rattle.chorus_turn.specs.Calls.{FoundBusy}
use Rattle.chorus_turn.specs.Passes as turns
use Rattle.chorus_nucleus.specs.declared.site_turns.site.Site.{Site}
use Rattle.chorus_nucleus.specs.SiteTurns.Reading.{Follows}
use Rattle.chorus_nucleus.specs.SiteTurns.Turning.{HasSeenMore, Looks}
use Rattle.chorus_nucleus.specs.declared.fault.CallFault.{CallFault}
use Rattle.chorus_nucleus.specs.declared.fault.CallFault.TheVariants as call_faults
use Rattle.chorus_nucleus.specs.declared.locate.ReadersFull.{ReadersFull}
use Rattle.chorus_nucleus.specs.declared.nucleus.Nucleus.{Nucleus}
use Rattle.chorus_nucleus.specs.declared.pass.Pass.{Pass}
use Rattle.std.specs.declared.alloc.AllocError.{AllocError}
use Rattle.chorus_turn.specs.declared.turns.Busy.{Busy}
use Rattle.chorus_nucleus.specs.Passes.{IsCallerOf, layout_of, known, caller_of, worn_by, reader_of, readers_at, home_of, IsPlaceOf, IsPassOf}

-- what the reader had seen is a beginning of the entries, and it has then seen them all; so of the pass's own reader
-- where the place is its home
abbrev pub FollowsAt : ℕ → ℕ → Option BoardReader → Option BoardReader → List Entry → Type 0
FollowsAt home p old new es = cond (p == home) (Follows {E = CallFault} old new es (Ok tt)) (new ≡ old)

-- the board of the place of this number, of those that were handed in, has published these entries
abbrev pub HasPublished : List (Site Ruled Packet) → ℕ → List Entry → Type 0
HasPublished handed p es = (s : Site Ruled Packet) × IsPlaceOf handed p s × (boards.entries_published s.board ≡ es)

-- the answer of a publish, from that of its turn
abbrev pub answered_publish : Result (Result (Unit {0}) AllocError) Busy → Result (Unit {0}) CallFault
answered_publish (Ok (Ok u)) = Ok u
answered_publish (Ok (Err none)) = Err (call_faults.Memory none)
answered_publish (Err b) = Err (call_faults.Busy b.by)

-- all entries of the place that were found were published, on the board of its mark, and the pass's own reader follows
pub record Publishes (l : Layout) (handed : List (Site Ruled Packet)) (p : ℕ) (o q : Option BoardReader)
    (v : Knowledge PlaceNote) (w : Seated) (u : Knowledge PlaceNote) (x : Seated) : Type 0 where
  pub state : PlaceState
  pub looks : Looks l p state v w u x
  pub board : HasPublished handed p (entries_of looks.found)
  pub follows : FollowsAt (home_of l w) p o q (entries_of looks.found)

-- why nothing, or not all, was published: another pass held the place; or there was no memory
abbrev pub Unpublished : CallFault → Layout → ℕ → Knowledge PlaceNote → Seated → Knowledge PlaceNote → Seated → Type 0
Unpublished (call_faults.Busy by) l p v w u x = FoundBusy p by v u × (x ≡ w)
Unpublished (call_faults.Memory none) l p v w u x = (s : PlaceState) × Looks l p s v w u x
Unpublished (call_faults.Worn clock) l p v w u x = ⊥

-- what one turn that publishes did, for a caller w, which became x, with the reader o, which became q
pub record PublishDone (l : Layout) (handed : List (Site Ruled Packet)) (p : ℕ) (o q : Option BoardReader)
    (r : Result (Unit {0}) CallFault) (v u : Knowledge PlaceNote) (w x : Seated) : Type 0 where
  pub caller : IsCallerOf l u x
  pub same : HasSeenMore w x
  pub looks : IfOk r (λ _. (s : PlaceState) × (t : Looks l p s v w u x) × HasPublished handed p (entries_of t.found)
      × Follows {E = CallFault} o q (entries_of t.found) (Ok tt))
  pub fault : IfErr r (λ f. Unpublished f l p v w u x × (q ≡ o))
  pub mine : u.mine ≡ v.mine

-- what a publish at the place p did
pub record IsPublish (n : Nucleus) (p : ℕ) (old new : Pass) (r : Result (Unit {0}) CallFault) : Type 0 where
  pub pass : IsPassOf n new
  pub standing : IsSamePass (known old) (known new)
  pub published : IfOk r (λ _. Publishes (layout_of n) (turns.handed n.turns) p (reader_of old) (reader_of new)
      (known old) (caller_of old) (known new) (caller_of new))
  pub fault : IfErr r (λ f. Unpublished f (layout_of n) p (known old) (caller_of old) (known new) (caller_of new)
      × (reader_of new ≡ reader_of old))
  pub caller : HasSeenMore (caller_of old) (caller_of new)
  pub mine : (known new).mine ≡ (known old).mine
  pub worn : worn_by new ≡ worn_by old
  pub readers : (q : ℕ) → readers_at q new ≡ readers_at q old

-- the answer is the location after what the reader has then seen: entries of the home place, which begin with what it
-- had seen
abbrev pub Locates : Layout → ℕ → Ui → Option BoardReader → Option BoardReader → Located → Type 0
Locates l home port (Some r) (Some s) a =
    IsPrefix (boards.entries_seen r) (boards.entries_seen s) × IsOfPlace home (boards.entries_seen s)
    × (boards.pair_told a ≡ pair_of (located_on l (boards.entries_seen s) port))
    × (a.upto ≡ length (boards.entries_seen s))
Locates l home port _ _ a = ⊥

-- the caller of a pass that has read its board: it has seen the last entry for which that stands
abbrev pub after_reading : Option BoardReader → Seated → Seated
after_reading None w = w
after_reading (Some r) w = raised (boards.clock_seen r) w

-- what a locate did: it took no turn
pub record IsLocate (n : Nucleus) (port : Ui) (old new : Pass) (r : Result Located ReadersFull) : Type 0 where
  pub pass : IsPassOf n new
  pub knows : known new ≡ known old
  pub caller : caller_of new ≡ after_reading (reader_of new) (caller_of old)
  pub worn : worn_by new ≡ worn_by old
  pub found : IfOk r (λ a. Locates (layout_of n) (home_of (layout_of n) (caller_of old)) port (reader_of old)
      (reader_of new) a)
  pub full : OnErr r ((reader_of old ≡ None) × (reader_of new ≡ None))
  pub readers : (q : ℕ) → readers_at q new ≡ readers_at q old
