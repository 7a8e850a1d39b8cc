use Rattle.std.proofs.Common.{◌≡◌, List, length}
use Rattle.law_explore.specs.declared.moves.Move.{Move}
use Rattle.chorus_explore.proofs.DrawnClaims.{HasDrawn}
use Rattle.chorus_explore.proofs.drawing.draw_all.Given as goal

-- so many histories were drawn
abbrev pub invariant-loop-history : goal.invariant-loop-history
invariant-loop-history l = (front : List (List Move)) × (HasDrawn l.scenario l.claims l.first front l.drawing × (length front ≡ l._history))
