use Rattle.std.proofs.Common.{◌+◌, ◌-◌}
use Rattle.chorus_turn.specs.Knowing.{IsSamePass}
use Rattle.chorus_nucleus.specs.Passes.{known, IsPassOf}
use Rattle.chorus_run.specs.declared.drawn_crew.names.TheConstants.{CREW_PORTS}
use Rattle.chorus_run.specs.DrawnCrew.Filling.{makes}
use Rattle.chorus_run.proofs.DrawnCrew.Sent.{LeadsOn}
use Rattle.chorus_run.proofs.drawn_crew.filling.make_ports.Given as goal

abbrev pub invariant-loop-index : goal.invariant-loop-index
invariant-loop-index g l = record {
  pass : IsPassOf l.nucleus l.pass;
  same : IsSamePass (known l.fn.pass) (known l.pass);
  leads : LeadsOn (makes (CREW_PORTS - l.index) (l.index + 1)) l.pass (makes CREW_PORTS 1) l.fn.pass;
}
