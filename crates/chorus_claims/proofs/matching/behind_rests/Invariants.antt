use Rattle.std.proofs.Common.{◌≡◌, ◌≤◌}
use Rattle.std.specs.Option.{option_copied}
use Rattle.chorus_claims.specs.Words.{text_left, words_behind}
use Rattle.chorus_claims.specs.Ways.{behind_rests}
use Rattle.chorus_claims.proofs.matching.behind_rests.Given as goal

abbrev pub invariant-loop-piece : goal.invariant-loop-piece
invariant-loop-piece l =
    (behind_rests (words_behind (option_copied l.left)) ≡ behind_rests (words_behind (option_copied l.fn.pieces)))
    × (text_left (option_copied l.left) ≤ text_left (option_copied l.fn.pieces))

abbrev pub decreases-loop-piece : goal.decreases-loop-piece
decreases-loop-piece l = text_left (option_copied l.left)
