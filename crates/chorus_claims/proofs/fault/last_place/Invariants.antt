use Rattle.std.proofs.Common.{◌≡◌, length}
use Rattle.std.specs.Option.{option_copied}
use Rattle.chorus_claims.specs.Words.{words_behind}
use Rattle.chorus_claims.specs.Shapes.{last_place}
use Rattle.chorus_claims.specs.declared.place.Place.TheVariants.{Start}
use Rattle.chorus_claims.proofs.fault.last_place.Given as goal

abbrev pub invariant-loop-word : goal.invariant-loop-word
invariant-loop-word l = last_place l.place l.words ≡ last_place Start (words_behind (option_copied l.fn.facts))

abbrev pub decreases-loop-word : goal.decreases-loop-word
decreases-loop-word l = length l.words
