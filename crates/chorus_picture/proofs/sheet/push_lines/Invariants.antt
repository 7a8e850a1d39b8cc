use Rattle.std.proofs.Common.{◌≡◌, ◌++◌, take}
use Rattle.std.specs.List.{flat_map}
use Rattle.chorus_picture.specs.Sheet.{line_of}
use Rattle.chorus_picture.proofs.sheet.push_lines.Given as goal

abbrev pub invariant-loop-column : goal.invariant-loop-column
invariant-loop-column l =
    l.out.items ≡ l.initial.out.items ++ flat_map (line_of l.y) (take l.column-index l.columns)
