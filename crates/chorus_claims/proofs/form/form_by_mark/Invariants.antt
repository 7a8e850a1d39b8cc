use Rattle.std.proofs.Common.{◌≡◌, length}
use Rattle.chorus_claims.specs.Words.{words}
use Rattle.chorus_claims.specs.Shapes.{form_by_mark}
use Rattle.chorus_claims.proofs.form.form_by_mark.Given as goal

abbrev pub invariant-loop-word : goal.invariant-loop-word
invariant-loop-word l = form_by_mark l.words ≡ form_by_mark (words l.fn.text)

abbrev pub decreases-loop-word : goal.decreases-loop-word
decreases-loop-word l = length l.words
