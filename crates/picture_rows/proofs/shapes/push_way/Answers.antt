use Rattle.std.proofs.Common.{◌≡◌, ℕ, ◌+◌, ◌++◌, ap, ◌∙◌}
use Rattle.picture_texts.proofs.Pieces.{four_right}
use Rattle.picture_rows.specs.Pieces.{ends_piece, packet_open, packet_title, way_piece}
use Rattle.picture_rows.specs.Rows.{row_y}
use Rattle.picture_rows.specs.Shapes.{start_x, stop_x, turn_x}
use Rattle.picture_rows.proofs.PieceTexts.{arrow_is}
use Rattle.picture_rows.proofs.shapes.push_way.Goals as goal

pub returns : goal.returns
returns c =
    let o = c.args.out.now.items in
    let way = c.args.way.now in
    let start : ℕ = start_x way.rightward c.args.x in
    let turn : ℕ = turn_x way.rightward c.args.column.now in
    let stop : ℕ = stop_x way.rightward c.args.column.now in
    let top : ℕ = row_y way.from.number in
    let y : ℕ = row_y way.to in
    let opened : c.extend_from_slice.new.self.items ≡ o ++ packet_open way.kind = cc (c.in_ok-extend_from_slice.ensures.items, c.as_bytes.ensures.value, c.packet_open.ensures) in
    let points : c.push_points.new.out.items ≡ c.extend_from_slice.new.self.items ++ way_piece start top turn stop y =
    cc (c.in_ok-push_points.ensures, c.start_x-start.ensures, c.turn_x-turn.ensures, c.stop_x-stop.ensures, c.row_y.ensures.value, c.row_y-2.ensures.value) in
    let title : c.extend_from_slice-2.new.self.items ≡ c.push_points.new.out.items ++ packet_title way.kind =
    cc (c.in_ok-extend_from_slice-2.ensures.items, c.as_bytes-2.ensures.value, c.packet_title.ensures) in
    let ends : c.push_ends.new.out.items ≡ c.extend_from_slice-2.new.self.items ++ ends_piece (way.from.number + 2) (way.to + 2) =
    cc (c.in_ok-push_ends.ensures, c.from.ensures, c.from-2.ensures) in
    four_right o (packet_open way.kind) (way_piece start top turn stop y) (packet_title way.kind) (ends_piece (way.from.number + 2) (way.to + 2))
    c.extend_from_slice.new.self.items c.push_points.new.out.items c.extend_from_slice-2.new.self.items c.push_ends.new.out.items opened points title ends
    ∙ ap (λ t. o ++ t) (arrow_is start top turn stop y (way.from.number + 2) (way.to + 2) way.kind)
