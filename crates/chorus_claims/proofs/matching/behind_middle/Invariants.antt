use Rattle.std.proofs.Common.{◌≡◌}
use Rattle.std.specs.Option.{option_copied}
use Rattle.chorus_claims.specs.Words.{text_left, words_behind}
use Rattle.chorus_claims.specs.Shapes.{behind_middle}
use Rattle.chorus_claims.proofs.matching.behind_middle.Given as goal

abbrev pub invariant-loop-word : goal.invariant-loop-word
invariant-loop-word l =
    behind_middle (words_behind (option_copied l.left)) ≡ behind_middle (words_behind (option_copied l.fn.facts))

abbrev pub decreases-loop-word : goal.decreases-loop-word
decreases-loop-word l = text_left (option_copied l.left)
