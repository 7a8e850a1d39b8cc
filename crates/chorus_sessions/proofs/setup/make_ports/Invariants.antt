use Rattle.std.proofs.Common.{take}
use Rattle.chorus_sessions.specs.Playing.{AreMade}
use Rattle.chorus_sessions.specs.Sessions.{Goes}
use Rattle.chorus_sessions.proofs.setup.make_ports.Given as goal

abbrev pub invariant-loop-index : goal.invariant-loop-index
invariant-loop-index l = Goes l.nucleus l.fn.pass l.pass × AreMade l.nucleus (take l.index l.ports) l.fn.pass l.pass
