-- The rule of a bell: tokens that were taken, and the one that is there, were put by rings.
use Rattle.std.specs.Prelude.{ℕ, ◌+◌, ◌≤◌, Bool, true, false, List, length}
use Rattle.chorus_turn.specs.Lists.{total}
use Rattle.chorus_choose.specs.declared.rule.BellCounts.{BellCounts}

abbrev pub counts : ℕ → List ℕ → BellCounts
counts rings waits = record { rings = rings; waits = waits }

-- how many tokens are there
abbrev pub tokens : Bool → ℕ
tokens true = 1
tokens false = 0

-- all waits together took at most what all rings together put, and the token that is there is one more
abbrev pub Rung : Bool → List BellCounts → Type 0
Rung there ends =
    total (λ (v : BellCounts). length v.waits) ends + tokens there ≤ total (λ (v : BellCounts). v.rings) ends
