use Rattle.std.proofs.Common.{◌≡◌, length}
use Rattle.std.specs.Option.{option_copied}
use Rattle.chorus_claims.specs.Words.{words_behind}
use Rattle.chorus_claims.specs.Shapes.{marks_fit}
use Rattle.chorus_claims.proofs.form.marks_fit.Given as goal

abbrev pub invariant-loop-word : goal.invariant-loop-word
invariant-loop-word l = marks_fit l.here l.words ≡ marks_fit l.fn.side (words_behind (option_copied l.fn.facts))

abbrev pub decreases-loop-word : goal.decreases-loop-word
decreases-loop-word l = length l.words
