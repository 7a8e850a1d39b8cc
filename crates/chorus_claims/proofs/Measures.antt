-- How much is left to look for.
use Rattle.std.proofs.Common.{ℕ, ◌+◌, ◌*◌}
use Rattle.std.specs.Option.{option_copied}
use Rattle.chorus_claims.specs.Words.{text_left}
use Rattle.chorus_claims.specs.declared.matching.Right.{Right}
use Rattle.chorus_claims.specs.declared.matching.Right.TheVariants.{Nothing, Facts}
use Rattle.chorus_claims.specs.declared.matching.Ending.{Ending}
use Rattle.chorus_claims.specs.declared.matching.Ending.TheVariants.{Goes, Found}

abbrev pub right_left : Right → ℕ
right_left Nothing = 0
right_left (Facts text) = text_left (option_copied text)

-- behind the facts on the left those on the right come
abbrev pub more_left : Ending → Right → ℕ
more_left Goes right = 1 + right_left right
more_left Found right = 0
