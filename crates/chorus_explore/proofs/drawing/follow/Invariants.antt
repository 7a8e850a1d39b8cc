use Rattle.chorus_explore.proofs.DrawnClaims.{IsFollowed}
use Rattle.chorus_explore.proofs.drawing.follow.Given as goal

-- what was drawn so far leads on, and was asked
abbrev pub invariant-loop-step : goal.invariant-loop-step
invariant-loop-step l = IsFollowed l.scenario l.claims l.state l._step l.fn.judged.items l.judged.items l.moves.items l.to l.stage
