use Rattle.std.proofs.Common.{◌≡◌, []}
use Rattle.chorus_nucleus.specs.Passes.{worn_by, IsPassOf}
use Rattle.chorus_perform.specs.Going.{Goes}
use Rattle.chorus_perform.proofs.waiting.wait_for.Given as goal

abbrev pub invariant-loop : goal.invariant-loop
invariant-loop g l = IsPassOf l.nucleus l.pass × Goes [] l.fn.pass l.pass × (worn_by l.pass ≡ worn_by l.fn.pass)
