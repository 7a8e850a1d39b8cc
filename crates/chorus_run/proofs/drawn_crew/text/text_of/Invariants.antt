use Rattle.std.proofs.Common.{◌≡◌, take}
use Rattle.chorus_run.specs.DrawnCrew.Text.{handled_lines}
use Rattle.chorus_run.proofs.drawn_crew.text.text_of.Given as goal

abbrev pub invariant-loop-index : goal.invariant-loop-index
invariant-loop-index l = l.text.items ≡ handled_lines 1 (take l.index l.handled)
