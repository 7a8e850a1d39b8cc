use Rattle.std.proofs.Common.{◌≡◌, [], true}
use Rattle.chorus_nucleus.specs.Passes.{known, worn_by, IsPassOf}
use Rattle.chorus_perform.specs.Going.{Goes}
use Rattle.chorus_nucleus.specs.Rounds.{IsRound}
use Rattle.chorus_perform.proofs.rounds.round.Given as goal

abbrev pub invariant-loop-index : goal.invariant-loop-index
invariant-loop-index g l =
    IsPassOf l.nucleus l.pass × Goes [] l.fn.pass l.pass × (l.sums.idle ≡ true → IsRound l.index l.sums.put l.sums.worked (known l.pass)) × (worn_by l.pass ≡ worn_by l.fn.pass)
