use Rattle.std.proofs.Common.{◌≡◌, ◌++◌, ◌+◌, take}
use Rattle.std.specs.List.{flat_map}
use Rattle.picture_rows.specs.Columns.{lane_of}
use Rattle.chorus_picture.specs.Sheet.{lane_head}
use Rattle.chorus_picture.proofs.sheet.push_lane_heads.Given as goal

abbrev pub invariant-loop-port : goal.invariant-loop-port
invariant-loop-port l =
    l.out.items ≡ l.initial.out.items ++ flat_map (λ q. lane_head (lane_of q l.column + 9) l.y q) (take l.port-index l.ports)
