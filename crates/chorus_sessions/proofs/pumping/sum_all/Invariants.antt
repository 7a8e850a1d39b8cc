use Rattle.std.proofs.Common.{◌≡◌, true}
use Rattle.chorus_nucleus.specs.Passes.{known}
use Rattle.chorus_nucleus.specs.Rounds.{IsRound}
use Rattle.chorus_sessions.specs.Delivering.{Pumps}
use Rattle.chorus_sessions.specs.Sessions.{Goes}
use Rattle.chorus_sessions.proofs.pumping.sum_all.Given as goal

abbrev pub invariant-loop-index : goal.invariant-loop-index
invariant-loop-index g l =
    Goes l.nucleus l.fn.pass l.pass × Pumps l.nucleus l.fn.pass l.pass × (l.sums.idle ≡ true → IsRound l.index l.sums.put l.sums.worked (known l.pass))
