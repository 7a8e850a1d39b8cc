use Rattle.std.proofs.Common.{◌≡◌, drop}
use Rattle.explore_report.specs.Findings.{sum_from}
use Rattle.explore_report.proofs.findings.sum_of.Given as goal

-- what is left gives the sum
abbrev pub invariant-loop-byte : goal.invariant-loop-byte
invariant-loop-byte l = sum_from l.sum (drop l.byte-index l.text) ≡ sum_from 0 l.text
