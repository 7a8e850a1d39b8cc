use Rattle.std.proofs.Common.{◌≡◌, length}
use Rattle.std.specs.Option.{option_copied}
use Rattle.chorus_claims.specs.Words.{words_behind}
use Rattle.chorus_claims.specs.Shapes.{are_few}
use Rattle.chorus_claims.proofs.form.are_few.Given as goal

abbrev pub invariant-loop-word : goal.invariant-loop-word
invariant-loop-word l = are_few l.left l.words ≡ are_few l.fn.more (words_behind (option_copied l.fn.facts))

abbrev pub decreases-loop-word : goal.decreases-loop-word
decreases-loop-word l = length l.words
