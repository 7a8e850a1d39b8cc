use Rattle.std.proofs.Common.{◌≡◌, reverse, take}
use Rattle.law_judge.specs.Open.{open_in}
use Rattle.chorus_judge.proofs.finding.open_entries.Given as goal

-- what the entries so far began
abbrev pub invariant-loop-i : goal.invariant-loop-i
invariant-loop-i l = l.found.items ≡ open_in l.layout l.ledger.past (reverse (take l.i l.entries))
