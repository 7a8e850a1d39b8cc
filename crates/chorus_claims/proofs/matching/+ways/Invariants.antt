use Rattle.std.proofs.Common.{ℕ, ◌≡◌, ◌≤◌, ◌+◌, ◌*◌, length, List}
use Rattle.std.specs.List.{list_all}
use Rattle.std.specs.Option.{option_copied}
use Rattle.chorus_claims.specs.Words.{text_left, words_behind, words_in}
use Rattle.chorus_claims.specs.Ways.{meanings_of, way_from, each_tail, each_line}
use Rattle.chorus_claims.proofs.Measures.{right_left, more_left}
use Rattle.chorus_claims.proofs.matching.+ways.Given as goal

abbrev pub decreases-ends : goal.decreases-ends
decreases-ends l = 8 * more_left l.ending l.asked.now.right

abbrev pub decreases-way_from : goal.decreases-way_from
decreases-way_from l = 8 * (text_left (option_copied l.pieces) + more_left l.ending l.asked.now.right) + 1

abbrev pub decreases-each_tail : goal.decreases-each_tail
decreases-each_tail l = 8 * (text_left (option_copied l.pieces) + more_left l.ending l.asked.now.right) + 2

abbrev pub decreases-each_line : goal.decreases-each_line
decreases-each_line l = 8 * (text_left (option_copied l.fact) + more_left l.ending l.asked.now.right) + 2

abbrev pub decreases-goes_on : goal.decreases-goes_on
decreases-goes_on l = 8 * (text_left (option_copied l.later) + more_left l.ending l.asked.now.right) + 3

abbrev pub decreases-one_fact : goal.decreases-one_fact
decreases-one_fact l = 8 * text_left (option_copied l.fact) + 3

abbrev pub decreases-one_right : goal.decreases-one_right
decreases-one_right l = 8 * right_left l.asked.now.right + 4

abbrev pub invariant-each_line-loop-left : goal.invariant-each_line-loop-left
invariant-each_line-loop-left l =
    list_all (λ (line : List (List ℕ)). way_from l.asked l.ending (words_behind (option_copied l.fact)) line (meanings_of l.letters)) (words_in l.left)
    ≡ each_line l.asked l.ending (words_behind (option_copied l.fact)) (meanings_of l.letters)

abbrev pub decreases-each_line-loop-left : goal.decreases-each_line-loop-left
decreases-each_line-loop-left l = length l.left

abbrev pub invariant-each_tail-loop-behind : goal.invariant-each_tail-loop-behind
invariant-each_tail-loop-behind l =
    each_tail l.asked l.ending (words_behind (option_copied l.pieces)) (words_behind (option_copied l.tail)) (meanings_of l.letters)
    ≡ each_tail l.asked l.ending (words_behind (option_copied l.pieces)) (words_behind (option_copied l.line)) (meanings_of l.letters)

abbrev pub decreases-each_tail-loop-behind : goal.decreases-each_tail-loop-behind
decreases-each_tail-loop-behind l = text_left (option_copied l.tail)

abbrev pub invariant-way_from-loop-piece : goal.invariant-way_from-loop-piece
invariant-way_from-loop-piece l =
    (way_from l.asked l.ending (words_behind (option_copied l.pieces)) (words_behind (option_copied l.line)) (meanings_of l.letters)
    ≡ way_from l.asked l.ending (words_behind (option_copied l.fn.pieces)) (words_behind (option_copied l.fn.line)) (meanings_of l.letters))
    × (text_left (option_copied l.pieces) ≤ text_left (option_copied l.fn.pieces))

abbrev pub decreases-way_from-loop-piece : goal.decreases-way_from-loop-piece
decreases-way_from-loop-piece l = text_left (option_copied l.pieces)
