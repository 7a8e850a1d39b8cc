use Rattle.std.proofs.Common.{◌≡◌, length}
use Rattle.chorus_picture.specs.Found.{behind_lines}
use Rattle.chorus_picture.proofs.below_rows.behind_lines.Given as goal

abbrev pub invariant-loop-rest : goal.invariant-loop-rest
invariant-loop-rest l = behind_lines l.left l.rest ≡ behind_lines l.lines l.text

abbrev pub decreases-loop-rest : goal.decreases-loop-rest
decreases-loop-rest l = length l.rest
