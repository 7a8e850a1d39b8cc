use Rattle.std.proofs.Common.{◌≡◌, reverse, take}
use Rattle.judge_promises.specs.Blames.{read_line}
use Rattle.judge_promises.proofs.blaming.read_line.Given as goal

-- of the entries so far
abbrev pub invariant-loop-i : goal.invariant-loop-i
invariant-loop-i l = l.line ≡ read_line (reverse (take l.i l.entries)) l.about
