use Rattle.picture_rows.proofs.Drawn.{Drawn}
use Rattle.picture_rows.proofs.LinesLeft.{LinesLeft}
use Rattle.picture_rows.proofs.rows.push_rows.Given as goal

-- the rows so far, and the lines that are left
abbrev pub invariant-loop-entry : goal.invariant-loop-entry
invariant-loop-entry l =
    Drawn l.initial.ground.items l.initial.arrows.items l.initial.marks.items l.ground.items l.arrows.items l.marks.items l.columns l.entries l.entry-index
    l.tables l.bodies
    × LinesLeft l.text l.left l.entries l.entry-index
