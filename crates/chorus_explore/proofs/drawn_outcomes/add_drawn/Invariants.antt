use Rattle.std.proofs.Common.{◌≡◌, List, length}
use Rattle.law_explore.specs.declared.moves.Move.{Move}
use Rattle.chorus_explore.specs.DrawnOutcomes.{HasTold}
use Rattle.chorus_explore.proofs.drawn_outcomes.add_drawn.Given as goal

-- so many histories were drawn
abbrev pub invariant-loop-history : goal.invariant-loop-history
invariant-loop-history l = (front : List (List Move)) × (HasTold l.scenario l.first front l.fn.explored l.outcomes l.explored × (length front ≡ l._history))
