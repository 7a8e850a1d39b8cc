use Rattle.std.proofs.Common.{◌≡◌, take}
use Rattle.chorus_nucleus.specs.Passes.{worn_by, IsPassOf}
use Rattle.chorus_perform.specs.Going.{Goes}
use Rattle.chorus_perform.proofs.waiting.perform_waiting.Given as goal

abbrev pub invariant-loop-step : goal.invariant-loop-step
invariant-loop-step g l =
    IsPassOf l.nucleus l.pass × Goes (take l.step l.script.commands) l.fn.pass l.pass × (worn_by l.pass ≡ worn_by l.fn.pass)
