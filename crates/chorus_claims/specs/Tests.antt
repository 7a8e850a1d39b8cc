-- The tests 5 to 8 of a word at its place, as the code names them.
use Rattle.std.specs.Prelude.{ℕ, Bool, List}
use Rattle.chorus_claims.specs.Places.{is_word, is_spelled, is_within, is_known}
use Rattle.chorus_claims.specs.declared.place.Place.{Place}
use Rattle.chorus_claims.specs.declared.fault.Test.{Test}
use Rattle.chorus_claims.specs.declared.fault.Test.TheVariants.{Fits, Spelled, Within, Known}

abbrev pub passes : Test → Place → List ℕ → Bool
passes Fits p w = is_word p w
passes Spelled p w = is_spelled p w
passes Within p w = is_within p w
passes (Known sites commands) p w = is_known sites commands.now p w
