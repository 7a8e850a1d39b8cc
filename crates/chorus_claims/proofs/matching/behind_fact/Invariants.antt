use Rattle.std.proofs.Common.{◌≡◌, ◌≤◌}
use Rattle.std.specs.Option.{option_copied}
use Rattle.chorus_claims.specs.Words.{text_left, words_behind}
use Rattle.chorus_claims.specs.Shapes.{facts_in}
use Rattle.chorus_claims.specs.Ways.{later_facts}
use Rattle.chorus_claims.proofs.matching.behind_fact.Given as goal

abbrev pub invariant-loop-word : goal.invariant-loop-word
invariant-loop-word l =
    (later_facts (facts_in (words_behind (option_copied l.left))) ≡ later_facts (facts_in (words_behind (option_copied l.fn.fact))))
    × (text_left (option_copied l.left) ≤ text_left (option_copied l.fn.fact))

abbrev pub decreases-loop-word : goal.decreases-loop-word
decreases-loop-word l = text_left (option_copied l.left)
