-- What is known of a claim whose text is not refused.
use Rattle.std.specs.Prelude.{◌≡◌, ◌≤◌, ℕ, List, length, None}
use Rattle.chorus_claims.specs.Pieces.{Claim}
use Rattle.chorus_claims.specs.Shapes.{claim_of, fault_of}

-- no side has more than 4 facts
pub record IsShort (claim : Claim) : Type 0 where
  pub few_left : length claim.left ≤ 4
  pub few_right : length claim.right ≤ 4

abbrev pub ClaimsAreShort : Type 0
ClaimsAreShort = (sites : ℕ) (commands text : List ℕ) → fault_of sites commands text ≡ None → IsShort (claim_of text)
