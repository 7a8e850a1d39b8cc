-- What a check comes to.
-- c is a scenario, ks are its claims, vs is what is said of them, n the number of a claim.
use Rattle.std.specs.Prelude.{ℕ, ◌+◌, if◌then◌else◌, Bool, true, false, not, List, [], ◌∷◌, map, Option, Some, None}
use Rattle.chorus_claims.specs.Pieces.{Claim}
use Rattle.chorus_claims.specs.Shapes.{claim_of}
use Rattle.chorus_scene.specs.Scene.{Scene}
use Rattle.chorus_explore.specs.Checked as verdicts
use Rattle.chorus_explore.specs.Checked.{Verdict}
use Rattle.chorus_check.specs.declared.checked.Checked.{Checked}
use Rattle.chorus_check.specs.declared.checked.Checked.TheVariants.{Holds, Fails, Open}

-- the claims that the scenario has
abbrev pub claims_of : Scene → List Claim
claims_of c = map claim_of c.claims

-- A claim fails where a schedule does not meet it. `possible F` is kept as `never F`: it holds where
-- a schedule does not meet that, and fails where all do.
abbrev pub claim_fails : Claim → Verdict → Bool
claim_fails k verdicts.Holds = k.possible
claim_fails k (verdicts.Fails ms) = not k.possible
claim_fails k (verdicts.Open d) = false

abbrev pub is_open : Verdict → Bool
is_open verdicts.Holds = false
is_open (verdicts.Fails ms) = false
is_open (verdicts.Open d) = true

-- the first claim that fails, and the first that is open, of those that are numbered from n on
abbrev pub first_failed : ℕ → List Claim → List Verdict → Option ℕ
first_failed n (k ∷ ks) (v ∷ vs) = if claim_fails k v then Some n else first_failed (n + 1) ks vs
first_failed n _ _ = None

abbrev pub first_open : ℕ → List Verdict → Option ℕ
first_open n [] = None
first_open n (v ∷ vs) = if is_open v then Some n else first_open (n + 1) vs

abbrev pub checked_by : Option ℕ → Option ℕ → Checked
checked_by (Some failed) _ = Fails failed
checked_by None (Some undecided) = Open undecided
checked_by None None = Holds

abbrev pub checked_of : List Claim → List Verdict → Checked
checked_of ks vs = checked_by (first_failed 1 ks vs) (first_open 1 vs)

abbrev pub checked_number : Checked → ℕ
checked_number Holds = 0
checked_number (Fails claim) = 7
checked_number (Open claim) = 8
