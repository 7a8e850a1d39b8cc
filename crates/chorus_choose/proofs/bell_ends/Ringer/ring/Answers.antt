use Rattle.chorus_choose.proofs.Ringing.{admits, ringing}
use Rattle.chorus_choose.proofs.bell_ends.Ringer.ring.Goals as goal

pub pass-pass-requires : goal.pass-pass-requires
pass-pass-requires c = admits

pub unpark_as-requires-clause-rule : goal.unpark_as-requires-clause-rule
unpark_as-requires-clause-rule c = ringing _ _
