use Rattle.chorus_audit.proofs.Lined.{Read}
use Rattle.chorus_audit.proofs.lines.read_lines.Given as goal

-- the entries so far are those that the text begins with
abbrev pub invariant-loop-taken : goal.invariant-loop-taken
invariant-loop-taken l = Read l.text l.count l.entries.items l.rest l.taken
