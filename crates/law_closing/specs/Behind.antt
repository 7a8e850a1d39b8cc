-- What a pass makes stands behind all that it had seen (happens-before, by Lamport's clocks).
-- v is what a pass knows, m an entry that it made, p the number of a place, of `count`, numbered from 1.
use Rattle.std.specs.Prelude.{ℕ, ◌≡◌, ◌<◌, List, ◌∷◌, ◌++◌}
use Rattle.std.specs.List.{All, filter}
use Rattle.chorus_entry.specs.declared.entry.Entry.{Entry}
use Rattle.chorus_entry.specs.Order.{IsInOrder, is_at}
use Rattle.chorus_turn.specs.declared.knowledge.Remarked.{Remarked}
use Rattle.chorus_turn.specs.declared.knowledge.Placed.{Placed}
use Rattle.chorus_turn.specs.declared.knowledge.Note.{Note}
use Rattle.chorus_turn.specs.declared.knowledge.Knowledge.{Knowledge}
use Rattle.chorus_turn.specs.Lists.{StartsWith, list_at}
use Rattle.chorus_turn.specs.Journals.{entries_of}
use Rattle.chorus_turn.specs.Knowing.{seen_at}
use Rattle.law_closing.specs.Closing.{IsPlace, Tells}

-- e stands before f in the list
abbrev pub StandsBefore : Entry → Entry → List Entry → Type 0
StandsBefore e f xs = (front mid rest : List Entry) × (xs ≡ front ++ e ∷ mid ++ f ∷ rest)

module _ {R : Type 0} where
  -- each entry that the pass has seen, at any place, has a clock below this one
  abbrev pub HasSeenBelow : ℕ → Knowledge R → Type 0
  HasSeenBelow clock v = (p : ℕ) → All (λ (r : Remarked R). r.entry.clock < clock) (seen_at p v)

  -- by clocks: all that its pass had seen before the turn, at any place, has lower ones; and that is a beginning of what
  -- is seen there now
  pub record StandsBehind (v : Knowledge R) (m : Placed R) : Type 0 where
    pub behind : (p : ℕ) → All (λ (r : Remarked R). r.entry.clock < m.remarked.entry.clock) (list_at p m.seen)
    pub front : (p : ℕ) → StartsWith (seen_at p v) (list_at p m.seen)

  -- so does each entry that the pass made, and each that a pass in its notes made
  pub record AllStandBehind (v : Knowledge R) : Type 0 where
    pub own : All (StandsBehind v) v.mine
    pub noted : All (λ (n : Note R). All (StandsBehind v) n.mine) v.notes

  -- by positions: each entry that its pass had seen before the turn, at any place, stands before it in the merge
  abbrev pub Follows : ℕ → List Entry → Placed R → Type 0
  Follows count merge m = (p : ℕ) → IsPlace count p →
      All (λ (r : Remarked R). StandsBefore r.entry m.remarked.entry merge) (list_at p m.seen)

  pub record AllFollow (count : ℕ) (merge : List Entry) (v : Knowledge R) : Type 0 where
    pub own : All (Follows count merge) v.mine
    pub noted : All (λ (n : Note R). All (Follows count merge) n.mine) v.notes

  abbrev pub AreAtPlaces : ℕ → List (Placed R) → Type 0
  AreAtPlaces count mine = All (λ (m : Placed R). IsPlace count m.place) mine

  -- the merge of the journals stands in order, and its part at each place is the journal of that place
  pub record IsMergeOf (count : ℕ) (log : ℕ → List (Remarked R)) (merge : List Entry) : Type 0 where
    pub order : IsInOrder merge
    pub parts : (p : ℕ) → IsPlace count p → filter (is_at p) merge ≡ entries_of (log p)

-- Where journals were closed that tell all that passes made, what stands behind by clocks stands so in their merge.
abbrev pub MergesFollow : Type 0 → Type 0
MergesFollow R =
    (count : ℕ) (log : ℕ → List (Remarked R)) (v : Knowledge R) (merge : List Entry) → IsMergeOf count log merge →
    Tells count log v → AreAtPlaces count v.mine → All (λ (n : Note R). AreAtPlaces count n.mine) v.notes →
    AllStandBehind v → AllFollow count merge v
