-- What a crew asks and gives. n is the nucleus, l its layout, q a port, way how messages are folded into a state, value
-- what a message at its position is worth.
use Rattle.std.specs.Prelude.{ℕ, ◌≡◌, ◌+◌, ◌<◌, ◌≤◌, ◌⊎◌, ◌↔◌, true, Option, Some, None, Result, Ok, Err, List, [], ◌∷◌, ◌++◌, length}
use Rattle.std.specs.List.{All}
use Rattle.std.specs.Global.{Vec}
use Rattle.chorus_ui.specs.declared.ui.Ui.{Ui}
use Rattle.chorus_ui.specs.declared.layout.Layout.{Layout}
use Rattle.chorus_ui.specs.NameKind.{is_port}
use Rattle.chorus_entry.specs.declared.act.Act.{Act}
use Rattle.chorus_entry.specs.declared.message.Message.{Message}
use Rattle.chorus_turn.specs.declared.knowledge.Knowledge.{Knowledge}
use Rattle.chorus_turn.specs.declared.knowledge.Note.{Note}
use Rattle.chorus_turn.specs.declared.knowledge.Placed.{Placed}
use Rattle.chorus_turn.specs.Knowing.{limit}
use Rattle.law_closing.specs.Places.{PlaceNote}
use Rattle.chorus_nucleus.specs.declared.nucleus.Nucleus.{Nucleus}
use Rattle.chorus_nucleus.specs.declared.pass.Pass.{Pass}
use Rattle.chorus_nucleus.specs.Passes.{layout_of, known, caller_of, worn_by, IsPassOf}
use Rattle.chorus_nucleus.specs.declared.taken_message.TakenMessage.{TakenMessage}
use Rattle.chorus_nucleus.specs.Taking.{acts_made, IsByTakes, IsMiss, SeesMore}
use Rattle.chorus_crew.specs.declared.pairs.TheConstants.{PAIRS_LIMIT}
use Rattle.chorus_crew.specs.declared.fault.CrewFault.{CrewFault}
use Rattle.chorus_crew.specs.declared.fault.CrewFault.TheVariants as faults
use Rattle.chorus_crew.specs.declared.fault.Unfinished.{Unfinished}
use Rattle.chorus_crew.specs.declared.folding.Folded.{Folded}
use Rattle.chorus_crew.specs.declared.handler.Handled.{Handled}
use Rattle.chorus_crew.specs.Endings.{last_acts, fault_of}
use Rattle.chorus_crew.specs.Handling.{Way, adding, took_acts, AreGiven, Folds, Counts}
use Rattle.chorus_crew.specs.Jobs.{AreTheActors}
use Rattle.chorus_crew.specs.Retiring.{HasTakenNothing}

-- the caller's pass draws numbers, and was not worn
pub record IsCaller (n : Nucleus) (p : Pass) : Type 0 where
  pub pass : IsPassOf n p
  pub keeper : (known p).keeper ≡ true
  pub unworn : worn_by p ≡ None

-- at most 64 pairs of a port and an actor of the layout
pub record ArePairs (l : Layout) (pairs : List (Ui × Ui)) : Type 0 where
  pub few : length pairs ≤ PAIRS_LIMIT
  pub ports : All (λ (p : Ui × Ui). is_port p.0 ≡ true) pairs
  pub actors : AreTheActors l pairs

-- such pairs, for each of which the pass has a number left
pub record HasSeats (l : Layout) (pairs : List (Ui × Ui)) (p : Pass) : Type 0 where
  pub pairs_are : ArePairs l pairs
  pub seats : (known p).made + length pairs ≤ limit

-- Of what the pass of a job made: the takes of the port, and then the Empty or the NotHere by which they ended, or
-- nothing where a fault ended them. Each message that it took was handled once, in the order of the takes: the state is
-- that after all of them, from the one that the port begins with. Each message is that of a turn that the pass v has seen.
pub record IsFolded {S : Type 0} (way : Way S) (l : Layout) (v : Knowledge PlaceNote) (q : Ui)
    (made : List (Placed PlaceNote)) (f : Folded S) : Type 0 where
  pub port : f.port ≡ q
  pub took : List TakenMessage
  pub given : AreGiven l q took v
  pub acts : acts_made made ≡ took_acts q took ++ last_acts q f.ended
  pub folds : Folds way q took f.from f.count f.state

-- the same with values that are added up, of a job that was done to its end
pub record IsHandled (value : Ui → ℕ → Message → ℕ) (l : Layout) (v : Knowledge PlaceNote) (q : Ui)
    (made : List (Placed PlaceNote)) (h : Handled) : Type 0 where
  pub port : h.port ≡ q
  pub took : List TakenMessage
  pub given : AreGiven l q took v
  pub last : Act
  pub missed : IsMiss q last
  pub acts : acts_made made ≡ took_acts q took ++ last ∷ []
  pub counts : Counts value q took h.from h.count h.total

-- so of each pair, whose pass has the next number, and took in the pair's actor, above this clock
abbrev pub AreEach : {H : Type 0} → (Ui → List (Placed PlaceNote) → H → Type 0) → Layout → ℕ → ℕ → List (Ui × Ui)
    → List (Note PlaceNote) → List H → Type 0
AreEach is l clock seat [] [] [] = Unit {0}
AreEach is l clock seat (p ∷ pairs) (m ∷ notes) (h ∷ all) =
    (m.seat ≡ seat) × IsByTakes l p.0 p.1 clock m.mine × is p.0 m.mine h × AreEach is l clock (seat + 1) pairs notes all
AreEach is l clock seat _ _ _ = ⊥

abbrev pub AreHandled : (Ui → ℕ → Message → ℕ) → Layout → Knowledge PlaceNote → ℕ → ℕ → List (Ui × Ui)
    → List (Note PlaceNote) → List Handled → Type 0
AreHandled value l v clock seat pairs notes handled = AreEach (IsHandled value l v) l clock seat pairs notes handled

-- So of all pairs, and the pass of each is now a note of the caller's. They took above the clock that the caller had,
-- so that each take came behind all that the caller had made; and the caller has seen more.
pub record HasEach {H : Type 0} (is : Ui → List (Placed PlaceNote) → H → Type 0) (l : Layout) (pairs : List (Ui × Ui))
    (each_is : List H) (old new : Pass) : Type 0 where
  pub news : List (Note PlaceNote)
  pub notes : (known new).notes ≡ (known old).notes ++ news
  pub each : AreEach is l (caller_of old).last (known old).made pairs news each_is
  pub sees : SeesMore (known old) (known new)

abbrev pub HasFolded : {S : Type 0} → Way S → Nucleus → List (Ui × Ui) → List (Folded S) → Pass → Pass → Type 0
HasFolded way n pairs folded old new =
    HasEach (IsFolded way (layout_of n) (known new)) (layout_of n) pairs folded old new

-- each to its end
abbrev pub HasFoldedAll : {S : Type 0} → Way S → Nucleus → List (Ui × Ui) → List (Folded S) → Pass → Pass → Type 0
HasFoldedAll {S} way n pairs folded old new =
    HasFolded way n pairs folded old new × All (λ (f : Folded S). fault_of f.ended ≡ None) folded

abbrev pub HasHandled : (Ui → ℕ → Message → ℕ) → Nucleus → List (Ui × Ui) → List Handled → Pass → Pass → Type 0
HasHandled value n pairs handled old new =
    HasEach (IsHandled value (layout_of n) (known new)) (layout_of n) pairs handled old new

-- not each to its end, or a clock is worn
abbrev pub HasCause : {S : Type 0} → Option ℕ → List (Folded S) → Type 0
HasCause {S} worn folded = worn ≡ None → All (λ (f : Folded S). fault_of f.ended ≡ None) folded → ⊥

-- At a fault: nothing was taken, and nothing is told; or what was taken of each pair was handled, and is told, with the
-- cause.
abbrev pub HasStopped : {S : Type 0} → Way S → Nucleus → List (Ui × Ui) → List (Folded S) → Pass → Pass → Type 0
HasStopped way n pairs folded old new = ((folded ≡ []) × HasTakenNothing old new)
    ⊎ (HasFolded way n pairs folded old new × HasCause (worn_by new) folded)

-- so where values are added up, of which a fault tells nothing
abbrev pub HasStoppedAdding : (Ui → ℕ → Message → ℕ) → Nucleus → List (Ui × Ui) → Pass → Pass → Type 0
HasStoppedAdding value n pairs old new = (folded : List (Folded ℕ)) × HasStopped (adding value) n pairs folded old new

-- What the faults of a crew tell of its pairs: a worn clock is the pass's; and NoSeat comes exactly where fewer numbers
-- are left than there are pairs, and then nothing was done.
pub record FaultsTell (gives : CrewFault → Type 0) (count : ℕ) (old new : Pass) : Type 0 where
  pub worn : (clock : ℕ) → gives (faults.Worn clock) → worn_by new ≡ Some clock
  pub no_seat : (made : ℕ) → gives (faults.NoSeat made)
      ↔ ((made ≡ (known old).made) × (limit < (known old).made + count))
  pub unchanged : (made : ℕ) → gives (faults.NoSeat made) → new ≡ old

-- the crew stopped for this fault
abbrev pub GivesFault : {S : Type 0} → Result (Vec (Folded S)) (Unfinished S) → CrewFault → Type 0
GivesFault (Ok v) f = ⊥
GivesFault (Err u) f = u.fault ≡ f
