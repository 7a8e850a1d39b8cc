use Rattle.chorus_audit.proofs.Steps.{Found}
use Rattle.chorus_audit.proofs.judging.read_in.Given as goal

-- the entries that were taken are those that the text begins with
abbrev pub invariant-loop-taken : goal.invariant-loop-taken
invariant-loop-taken l = Found l.fn.layout l.text l.count l.world l.rest l.taken
