use Rattle.std.proofs.Common.{◌≤◌, ◌+◌, ◌-◌}
use Rattle.chorus_turn.specs.Knowing.{IsSamePass}
use Rattle.chorus_nucleus.specs.Passes.{caller_of, known, IsPassOf}
use Rattle.chorus_run.specs.declared.drawn_crew.names.TheConstants.{CREW_PORTS}
use Rattle.chorus_run.specs.DrawnCrew.Sends.{sendings}
use Rattle.chorus_run.specs.DrawnCrew.Filling.{commands_of, sends_of}
use Rattle.chorus_run.proofs.DrawnCrew.Sent.{LeadsOn}
use Rattle.chorus_run.proofs.drawn_crew.filling.send_all.Given as goal

abbrev pub invariant-loop-index : goal.invariant-loop-index
invariant-loop-index g l = record {
  pass : IsPassOf l.nucleus l.pass;
  same : IsSamePass (known l.fn.pass) (known l.pass);
  posts : (caller_of l.pass).posts ≤ CREW_PORTS + l.index;
  leads : LeadsOn (commands_of (sendings (l.commands - l.index) (l.index + 1) l.state)) l.pass (sends_of l.first l.commands) l.fn.pass;
}
