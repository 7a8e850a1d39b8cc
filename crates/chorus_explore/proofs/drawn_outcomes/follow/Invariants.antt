use Rattle.std.proofs.Common.{◌≡◌}
use Rattle.law_replay.specs.Shown.{race_of}
use Rattle.chorus_explore.specs.Stages.{IsReached, moves_of}
use Rattle.chorus_explore.proofs.DrawnHistories.{LeadsOn}
use Rattle.chorus_explore.proofs.drawn_outcomes.follow.Given as goal

-- what was drawn so far leads on
abbrev pub invariant-loop-step : goal.invariant-loop-step
invariant-loop-step l = IsReached l.scenario l.stage × (l.stage.asks ≡ l.fn.stage.asks) × LeadsOn (race_of l.scenario) l.state l._step (moves_of l.stage) l.to
