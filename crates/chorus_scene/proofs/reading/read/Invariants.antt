use Rattle.std.proofs.Common.{◌≡◌, ◌≤◌, ◌+◌, length}
use Rattle.chorus_lines.specs.Text.{lines}
use Rattle.chorus_scene.specs.Grammar.{judge, opening}
use Rattle.chorus_scene.specs.Reader.{Stands, state_of}
use Rattle.chorus_scene.proofs.reading.read.Given as goal

-- judging what is left, from what the reader has read, is judging all
abbrev pub invariant-loop-rest : goal.invariant-loop-rest
invariant-loop-rest l = record {
  judged : judge l.number (state_of l.reader) (lines l.rest) ≡ judge 1 (opening l.fn.layout) (lines l.text);
  stands : Stands l.reader;
  small : l.number + length l.rest ≤ 4194305;
}

abbrev pub decreases-loop-rest : goal.decreases-loop-rest
decreases-loop-rest l = length l.rest
