use Rattle.std.proofs.Common.{◌≡◌, length}
use Rattle.std.specs.Option.{option_copied}
use Rattle.chorus_claims.specs.Words.{words_behind}
use Rattle.chorus_claims.specs.Shapes.{each_word}
use Rattle.chorus_claims.specs.Tests.{passes}
use Rattle.chorus_claims.specs.declared.place.Place.TheVariants.{Start}
use Rattle.chorus_claims.proofs.fault.each_word.Given as goal

abbrev pub invariant-loop-word : goal.invariant-loop-word
invariant-loop-word l =
    each_word (passes l.fn.test) l.place l.words ≡ each_word (passes l.fn.test) Start (words_behind (option_copied l.fn.facts))

abbrev pub decreases-loop-word : goal.decreases-loop-word
decreases-loop-word l = length l.words
