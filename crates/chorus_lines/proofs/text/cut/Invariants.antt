use Rattle.std.proofs.Common.{◌≡◌, take, drop}
use Rattle.chorus_lines.specs.Text.{cut}
use Rattle.chorus_lines.proofs.Texts.{cut_behind}
use Rattle.chorus_lines.proofs.text.cut.Given as goal

abbrev pub invariant-loop-i : goal.invariant-loop-i
invariant-loop-i l = cut_behind (take l.i l.text) (cut l.mark (drop l.i l.text)) ≡ cut l.mark l.text
