use Rattle.std.proofs.Common.{◌≡◌, ◌++◌, take}
use Rattle.std.specs.List.{flat_map}
use Rattle.chorus_picture.specs.Sheet.{bar_left}
use Rattle.picture_rows.specs.Tables.{bar_of}
use Rattle.chorus_picture.proofs.sheet.push_column_bars.Given as goal

abbrev pub invariant-loop-port : goal.invariant-loop-port
invariant-loop-port l =
    l.out.items ≡ l.initial.out.items ++ flat_map (λ q. bar_left l.column q l.y (bar_of l.tables.bars q)) (take l.port-index l.ports)
