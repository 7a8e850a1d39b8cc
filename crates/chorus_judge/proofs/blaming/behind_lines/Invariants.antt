use Rattle.std.proofs.Common.{◌≡◌}
use Rattle.chorus_judge.specs.Blaming.{behind_lines}
use Rattle.chorus_judge.proofs.blaming.behind_lines.Given as goal

-- what is left behind the lines so far
abbrev pub invariant-loop : goal.invariant-loop
invariant-loop l = l.left ≡ behind_lines l.counter l.text
