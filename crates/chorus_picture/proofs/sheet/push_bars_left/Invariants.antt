use Rattle.std.proofs.Common.{◌≡◌, ◌++◌, take}
use Rattle.std.specs.List.{flat_map}
use Rattle.chorus_picture.specs.Sheet.{bars_left}
use Rattle.picture_rows.specs.Tables.{bar_of}
use Rattle.chorus_picture.proofs.sheet.push_bars_left.Given as goal

abbrev pub invariant-loop-column : goal.invariant-loop-column
invariant-loop-column l =
    l.out.items ≡ l.initial.out.items ++ flat_map (bars_left (bar_of l.tables.bars) l.y) (take l.column-index l.columns)
