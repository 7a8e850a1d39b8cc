-- What a clause says of passes and places.
use Rattle.std.specs.Prelude.{◌≡◌, ℕ, ◌+◌, ◌≤◌, List, length}
use Rattle.atomic_table.specs.Seated.{TableId}
use Rattle.chorus_turn.specs.declared.knowledge.Knowledge.{Knowledge}
use Rattle.chorus_turn.specs.declared.turns.Turns.{Turns}
use Rattle.chorus_turn.specs.declared.pass.Pass.{Pass}
use Rattle.chorus_turn.specs.declared.close.Spent.{Spent}
use Rattle.chorus_turn.specs.Rule.{known_of}

module _ {R : Type 0} where
  -- what the pass knows
  abbrev pub known : Pass R → Knowledge R
  known pass = known_of pass.badge

  -- what the pass that closed the places knew
  abbrev pub known_at_close : Spent R → Knowledge R
  known_at_close spent = known_of spent.badge

module _ {S M R : Type 0} where
  -- which table of places it is
  abbrev pub table_of : Turns S M R → TableId
  table_of turns = turns.table.shared.table_id

  -- the states as they were handed in, that of place p at p - 1
  abbrev pub handed : Turns S M R → List S
  handed turns = turns.table.shared.key.value.items

  abbrev pub places : Turns S M R → ℕ
  places turns = length (handed turns)

  abbrev pub IsPlaceOf : Turns S M R → ℕ → Type 0
  IsPlaceOf turns place = (1 ≤ place) × (place ≤ places turns)

  -- the pass is one of these places
  abbrev pub IsPassOf : Turns S M R → Pass R → Type 0
  IsPassOf turns pass = pass.badge.table_id ≡ table_of turns

  -- these places were closed by the pass
  abbrev pub IsSpentOf : Turns S M R → Spent R → Type 0
  IsSpentOf turns spent = spent.badge.table_id ≡ table_of turns

  -- these places were closed by this pass, and all others had ended in it
  abbrev pub IsLeftOf : Turns S M R → Pass R → Spent R → Type 0
  IsLeftOf turns pass spent = IsSpentOf turns spent × (known_at_close spent ≡ known pass)
      × ((known pass).made ≤ length (known pass).notes + 1)
