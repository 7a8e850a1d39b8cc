-- What the calls of a pass do.
use Rattle.std.specs.Prelude.{◌≡◌, ◌≢◌, ℕ, ◌+◌, ◌-◌, ◌<◌, true, Some, List, ◌∷◌, ◌++◌, length, slice_get}
use Rattle.std.specs.List.{All, Contains}
use Rattle.chorus_entry.specs.declared.entry.Entry.{Entry}
use Rattle.chorus_turn.specs.declared.knowledge.Remarked.{Remarked}
use Rattle.chorus_turn.specs.declared.knowledge.Knowledge.{Knowledge}
use Rattle.chorus_turn.specs.Journals.{IsJournal, IsBy}
use Rattle.chorus_turn.specs.Knowing.{limit, seats_of, after_turn, after_refusal, Shows}

-- the mark is that of the state that was handed in for the place
abbrev pub IsMarkAt : {S M : Type 0} → (S → M) → List S → ℕ → M → Type 0
IsMarkAt {S} mark handed place m = (y : S) × (slice_get handed (place - 1) ≡ Some y) × (m ≡ mark y)

-- the state has that mark
abbrev pub IsMarked : {S M : Type 0} → (S → M) → List S → ℕ → S → Type 0
IsMarked mark handed place x = IsMarkAt mark handed place (mark x)

-- what is accepted of a mark is so of that of the place
abbrev pub AcceptsAt : {S M : Type 0} → (S → M) → List S → ℕ → (M → Type 0) → Type 0
AcceptsAt {S} {M} mark handed place accepted = (m : M) → IsMarkAt mark handed place m → accepted m

-- fewer passes have ended than the keeper v has made
abbrev pub AreOut : {R : Type 0} → Knowledge R → ℕ → ℕ → Type 0
AreOut v made ended = (made ≡ v.made) × (ended ≡ length v.notes) × (ended + 1 < made)

module _ {S M R : Type 0} (entries : S → List Entry) (fits : S → List (Remarked R) → Type 0) (mark : S → M)
    (handed : List S) where
  -- the job ran on the state of the place, and a pass that knew v knows w
  pub record Worked (did : S → S → Type 0) (notes : List (Remarked R) → Type 0) (place : ℕ)
      (v w : Knowledge R) : Type 0 where
    pub before : S
    pub after : S
    pub found : List (Remarked R)
    pub news : List (Remarked R)
    pub ran : did before after
    pub marked : IsMarkAt mark handed place (mark before)
    pub same_mark : mark after ≡ mark before
    pub journal : IsJournal entries fits before found
    pub shows : Shows place v found
    pub own : IsBy v.seat news
    pub noted : notes news
    pub left : IsJournal entries fits after (found ++ news)
    pub knows : w ≡ after_turn place found news v

  -- the states, after all passes have ended in one that knew v; that of place p stands at p - 1
  pub record Finished (states : List S) (v : Knowledge R) : Type 0 where
    pub log : ℕ → List (Remarked R)
    pub all_back : length states ≡ length handed
    pub marks : (k : ℕ) (x : S) → slice_get states k ≡ Some x → IsMarkAt mark handed (k + 1) (mark x)
    pub journals : (k : ℕ) (x : S) → slice_get states k ≡ Some x → IsJournal entries fits x (log (k + 1))
    pub shows : (k : ℕ) → k < length states → Shows (k + 1) v (log (k + 1))
    pub seats : (k : ℕ) → k < length states → All (λ (r : Remarked R). r.entry.seat < v.made) (log (k + 1))
    pub every : (q : ℕ) → q < v.made → Contains (v.seat ∷ seats_of v.notes) q

-- another pass held the place, and a pass that knew v knows w
pub record FoundBusy {R : Type 0} (place by : ℕ) (v w : Knowledge R) : Type 0 where
  pub knows : w ≡ after_refusal place by v
  pub drawn : by < limit
  pub other : by ≢ v.seat
  pub some_out : v.keeper ≡ true → length v.notes + 1 ≢ v.made
