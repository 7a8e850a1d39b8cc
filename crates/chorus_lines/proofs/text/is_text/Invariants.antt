use Rattle.std.proofs.Common.{◌≡◌, drop}
use Rattle.chorus_lines.specs.Text.{is_text}
use Rattle.chorus_lines.proofs.text.is_text.Given as goal

abbrev pub invariant-loop-c : goal.invariant-loop-c
invariant-loop-c l = is_text (drop l.c-index l.line) ≡ is_text l.line
