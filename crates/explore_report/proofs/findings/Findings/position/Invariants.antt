use Rattle.std.proofs.Common.{◌≢◌, take, All}
use Rattle.explore_report.specs.declared.findings.Finding.{Finding}
use Rattle.explore_report.proofs.findings.Findings.position.Given as goal

-- none of those passed has the lines
abbrev pub invariant-loop-index : goal.invariant-loop-index
invariant-loop-index l = All (λ (f : Finding). f.text.items ≢ l.text) (take l.index l.self.items.items)
