use Rattle.std.proofs.Common.{◌≡◌, ◌++◌, map, drop}
use Rattle.chorus_claims.specs.Shapes.{claim_of}
use Rattle.chorus_check.proofs.checking.read_claims.Given as goal

-- those that are left complete the claims
abbrev pub invariant-loop-text : goal.invariant-loop-text
invariant-loop-text l = l.claims.items ++ map claim_of (drop l.text-index l.texts) ≡ map claim_of l.texts
