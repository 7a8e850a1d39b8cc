use Rattle.std.proofs.Common.{◌≡◌, drop}
use Rattle.explore_report.specs.Outcomes.{held_among}
use Rattle.explore_report.proofs.outcomes.push_port.Given as goal

-- none of those passed has the name
abbrev pub invariant-loop-placed : goal.invariant-loop-placed
invariant-loop-placed l = (l.text ≡ l.initial.text) × (held_among l.name (drop l.placed-index l.ports) ≡ held_among l.name l.ports)
