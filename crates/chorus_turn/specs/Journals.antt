-- Entries with their remarks: by seat, and by place.
use Rattle.std.specs.Prelude.{◌≡◌, ℕ, ◌==◌, List, ◌++◌, map}
use Rattle.std.specs.List.{All, filter}
use Rattle.chorus_entry.specs.declared.entry.Entry.{Entry}
use Rattle.chorus_turn.specs.declared.knowledge.Remarked.{Remarked}
use Rattle.chorus_turn.specs.declared.knowledge.Placed.{Placed}

-- the new list is the old one and then entries of this seat
abbrev pub GrowsBy : ℕ → List Entry → List Entry → Type 0
GrowsBy seat old new = (added : List Entry) × (new ≡ old ++ added) × All (λ (e : Entry). e.seat ≡ seat) added

module _ {R : Type 0} where
  -- the entries without their remarks
  abbrev pub entries_of : List (Remarked R) → List Entry
  entries_of log = map (λ (r : Remarked R). r.entry) log

  -- the entries of one seat
  abbrev pub by_seat : ℕ → List (Remarked R) → List (Remarked R)
  by_seat seat log = filter (λ (r : Remarked R). r.entry.seat == seat) log

  -- each entry is of this seat
  abbrev pub IsBy : ℕ → List (Remarked R) → Type 0
  IsBy seat log = All (λ (r : Remarked R). r.entry.seat ≡ seat) log

  -- the entries, as made at this place by a pass that had seen this of each place
  abbrev pub with_place : ℕ → List (List (Remarked R)) → List (Remarked R) → List (Placed R)
  with_place place seen log = map (λ (r : Remarked R). record { place = place; seen = seen; remarked = r }) log

  -- of what was made, the entries of one place
  abbrev pub at_place : ℕ → List (Placed R) → List (Remarked R)
  at_place place made =
      map (λ (m : Placed R). m.remarked) (filter (λ (m : Placed R). m.place == place) made)

module _ {S R : Type 0} (entries : S → List Entry) (fits : S → List (Remarked R) → Type 0) where
  -- the state has these entries, and the remarks fit them
  abbrev pub IsJournal : S → List (Remarked R) → Type 0
  IsJournal state log = (entries_of log ≡ entries state) × fits state log

  -- each journal of the old state is, with news of which `notes` holds behind it, a journal of the new one
  abbrev pub GoesOn : (List (Remarked R) → Type 0) → S → S → Type 0
  GoesOn notes old new =
      (log : List (Remarked R)) → IsJournal old log → (news : List (Remarked R)) × IsJournal new (log ++ news) ×
      notes news

  -- what a job is to be given: it accepts the state, which has a journal
  pub record MayRun (accepted : Type 0) (state : S) : Type 0 where
    pub accepts : accepted
    pub log : List (Remarked R)
    pub kept : IsJournal state log

  -- what a job that ran leaves, as `Job::run` says it
  pub record HasRun {M : Type 0} (mark : S → M) (seat : ℕ) (done : Type 0) (notes : List (Remarked R) → Type 0)
      (old new : S) : Type 0 where
    pub ran : done
    pub marked : mark new ≡ mark old
    pub grows : GrowsBy seat (entries old) (entries new)
    pub goes_on : GoesOn notes old new
