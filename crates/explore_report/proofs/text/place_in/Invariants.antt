use Rattle.std.proofs.Common.{◌≡◌, ◌≤◌, length, map, drop}
use Rattle.explore_report.specs.Reports.{place_from, place_in, told_of}
use Rattle.explore_report.proofs.text.place_in.Given as goal

-- those that are left decide, where the place is that of those passed
abbrev pub invariant-loop-index : goal.invariant-loop-index
invariant-loop-index l = (l.place ≤ length l.facts) × (place_from l.index l.place l.subject (map told_of (drop l.index l.facts)) ≡ place_in l.line (map told_of l.facts))
