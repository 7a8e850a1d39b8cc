use Rattle.std.proofs.Common.{◌≡◌, ◌++◌, take}
use Rattle.std.specs.List.{flat_map}
use Rattle.chorus_picture.specs.Sheet.{column_head}
use Rattle.chorus_picture.proofs.sheet.push_column_heads.Given as goal

abbrev pub invariant-loop-column : goal.invariant-loop-column
invariant-loop-column l =
    l.out.items ≡ l.initial.out.items ++ flat_map (column_head l.layout l.y) (take l.column-index l.columns)
