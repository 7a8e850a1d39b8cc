use Rattle.std.proofs.Common.{◌≡◌, reverse, take}
use Rattle.judge_rules.specs.About.{about_line}
use Rattle.judge_rules.proofs.about.about_line.Given as goal

-- of the entries so far
abbrev pub invariant-loop-i : goal.invariant-loop-i
invariant-loop-i l = l.line ≡ about_line (reverse (take l.i l.entries)) l.about
