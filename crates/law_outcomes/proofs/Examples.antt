-- The limits of an exploration: computed.
use Rattle.std.proofs.Common.{◌≡◌, ◌^◌, ◌-◌, false, [], ◌∷◌, ◌++◌, codes, refl}
use Rattle.law_explore.specs.Explores.{told_number}
use Rattle.explore_report.specs.Reports.{limit_line}
use Rattle.chorus_scene.specs.declared.limits.TheConstants.{CLAIMS_LIMIT, STEPS_LIMIT}

pub moves : STEPS_LIMIT ≡ 131072
moves = refl

pub claims : CLAIMS_LIMIT ≡ 64
claims = refl

pub most : told_number (2 ^ 64) ≡ 2 ^ 64 - 1
most = refl

pub fewer : told_number 7 ≡ 7
fewer = refl

pub uncut : limit_line false 7 ≡ codes "all" ++ 10 ∷ []
uncut = refl
