use Rattle.std.proofs.Common.{◌≡◌, ◌<◌, []}
use Rattle.chorus_nucleus.specs.Passes.{worn_by, IsPassOf}
use Rattle.chorus_perform.specs.declared.commands.TheConstants.{TRIES}
use Rattle.chorus_perform.specs.Going.{Goes}
use Rattle.chorus_perform.proofs.commands.perform_command.Given as goal

abbrev pub invariant-loop : goal.invariant-loop
invariant-loop g l = IsPassOf l.nucleus l.pass × Goes [] l.fn.pass l.pass × (l.tries < TRIES) × (worn_by l.pass ≡ worn_by l.fn.pass)
