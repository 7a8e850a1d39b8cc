-- What one turn notes, and what it did.
-- i is what the turn takes, s the place before it, w and x the caller before and after, v and u what the pass knows
-- before and after.
use Rattle.std.specs.Prelude.{ℕ, ◌≡◌, ◌<◌, ◌≤◌, true, List, [], ◌∷◌, ◌++◌, Option, Some, None, reverse}
use Rattle.std.specs.List.{All}
use Rattle.std.specs.declared.snapshot.Snapshot.{Snapshot}
use Rattle.chorus_ui.specs.declared.limits.TheConstants.{CLOCK_LIMIT}
use Rattle.chorus_ui.specs.declared.layout.Layout.{Layout}
use Rattle.chorus_entry.specs.declared.entry.Entry.{Entry}
use Rattle.chorus_entry.specs.declared.command.Command.{Command}
use Rattle.chorus_entry.specs.declared.packet.Packet.{Packet}
use Rattle.chorus_world.specs.Places.{last_clock}
use Rattle.chorus_calls.specs.Callers.{Seated, raised}
use Rattle.law_machine.specs.PlaceState.{PlaceState, started, greatest_clock}
use Rattle.law_machine.specs.PlaceMachine.{begun, begun_by}
use Rattle.law_machine.specs.Lawful.{is_lawful}
use Rattle.law_machine.specs.Own.{own}
use Rattle.chorus_place.specs.Calls.{Place, state}
use Rattle.chorus_turn.specs.declared.knowledge.Remarked.{Remarked}
use Rattle.chorus_turn.specs.declared.knowledge.Knowledge.{Knowledge}
use Rattle.chorus_turn.specs.Journals.{entries_of}
use Rattle.chorus_turn.specs.Knowing.{Shows, after_turn}
use Rattle.law_history.specs.declared.turns.Input.{Input}
use Rattle.law_history.specs.Histories.{Takes}
use Rattle.law_history.specs.PlaceTurns.{turn, may_take, machine}
use Rattle.law_closing.specs.Remarks.{turns_at, remarked}
use Rattle.law_closing.specs.Growth.{noted}
use Rattle.law_closing.specs.Places.{PlaceNote}
use Rattle.law_closing.specs.Behind.{HasSeenBelow}

-- the first entry of a command's turn is the command's own act
abbrev pub IsOwn : Input Command Packet → PlaceState → Seated → Entry → Type 0
IsOwn (Input.Command c) s w e = e.act ≡ own c (begun s w)
IsOwn (Input.Packet a k) s w e = Unit {0}

-- The news are the entries of one turn that the place machine takes, each with the remark of the turn.
pub record IsNews (i : Input Command Packet) (s : PlaceState) (w x : Seated)
    (news : List (Remarked PlaceNote)) : Type 0 where
  pub entry : Entry
  pub later : List Entry
  pub is : news ≡ remarked (noted (machine s.layout) s.number i s w) (entry ∷ later)
  pub may : may_take s.layout s.number i s w ≡ true
  pub clock : entry.clock ≡ (turn i s w).first
  pub own_act : IsOwn i s w entry
  pub journal : (turn i s w).place.journal ≡ reverse later ++ entry ∷ s.journal
  pub after : x ≡ (turn i s w).caller

-- what a job that performs a command notes, where it kept the place before the turn if it took one
abbrev pub NotesAct : Command → Option (Snapshot Place) → Seated → Seated → List (Remarked PlaceNote) → Type 0
NotesAct c None w x news = news ≡ []
NotesAct c (Some z) w x news = IsNews (Input.Command c) (state z.value) w x news

-- the packet from there may be worked off, and no clock is worn
abbrev pub MayWork : ℕ → Packet → PlaceState → Seated → Type 0
MayWork from k s w = (is_lawful from k s ≡ true) × (greatest_clock (begun_by s w k) < CLOCK_LIMIT)

-- what a job that serves notes, by the number of the place from which the packet came, if it worked one off, and by the
-- place before
abbrev pub NotesFrom : Option ℕ → Place → Seated → Seated → List (Remarked PlaceNote) → Type 0
NotesFrom None z w x news = news ≡ []
NotesFrom (Some from) z w x news = (k : Packet) × MayWork from k (state z) w
    × IsNews (Input.Packet from k) (state z) w x news

abbrev pub NotesServe : Option ℕ → Option (Snapshot Place) → Seated → Seated → List (Remarked PlaceNote) → Type 0
NotesServe a None w x news = ⊥
NotesServe a (Some z) w x news = NotesFrom a z.value w x news

-- the caller is as it was, but that entries may have been shown to it: its last clock may be higher
abbrev pub HasSeenMore : Seated → Seated → Type 0
HasSeenMore w x = x ≡ raised x.last w

-- A turn at the place p: the pass found a journal that leads to the state s, and added the entries that the machine
-- gives. The clock of the first is above the caller's last clock before, and above those of all entries that the pass
-- has seen, at any place, with those that it found here; those of the others are above it, and at most the caller's last
-- clock after.
pub record TakesTurn (l : Layout) (p : ℕ) (i : Input Command Packet) (s : PlaceState) (v : Knowledge PlaceNote)
    (w : Seated) (u : Knowledge PlaceNote) (x : Seated) : Type 0 where
  pub found : List (Remarked PlaceNote)
  pub shows : Shows p v found
  pub entries : entries_of found ≡ reverse s.journal
  pub leads : Takes (machine l) p (started l p) (turns_at p found) s
  pub may : may_take l p i s w ≡ true
  pub entry : Entry
  pub later : List Entry
  pub clock : entry.clock ≡ (turn i s w).first
  pub own_act : IsOwn i s w entry
  pub journal : (turn i s w).place.journal ≡ reverse later ++ entry ∷ s.journal
  pub above : w.last < entry.clock
  pub behind : HasSeenBelow entry.clock (after_turn p found [] v)
  pub rises : All (λ (e : Entry). (entry.clock < e.clock) × (e.clock ≤ x.last)) later
  pub upto : entry.clock ≤ x.last
  pub after : x ≡ (turn i s w).caller
  pub knows : u ≡ after_turn p found (remarked (noted (machine l) p i s w) (entry ∷ later)) v

-- a look at the place p: the pass found a journal, and added nothing; the caller's last clock is then at least the
-- place's
pub record Looks (l : Layout) (p : ℕ) (s : PlaceState) (v : Knowledge PlaceNote) (w : Seated)
    (u : Knowledge PlaceNote) (x : Seated) : Type 0 where
  pub found : List (Remarked PlaceNote)
  pub shows : Shows p v found
  pub entries : entries_of found ≡ reverse s.journal
  pub leads : Takes (machine l) p (started l p) (turns_at p found) s
  pub after : x ≡ raised (last_clock s.journal) w
  pub knows : u ≡ after_turn p found [] v
