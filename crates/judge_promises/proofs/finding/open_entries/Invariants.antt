use Rattle.std.proofs.Common.{◌≡◌, reverse, take}
use Rattle.judge_promises.specs.Open.{open_in}
use Rattle.judge_promises.specs.Terms.{read}
use Rattle.judge_promises.proofs.finding.open_entries.Given as goal

-- what the entries so far began
abbrev pub invariant-loop-i : goal.invariant-loop-i
invariant-loop-i l = l.found.items ≡ open_in (read l.log.past) (reverse (take l.i l.entries))
