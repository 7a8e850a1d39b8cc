use Rattle.std.proofs.Common.{◌≡◌, ℕ, ◌-◌, ◌++◌, List, ap, ◌∙◌}
use Rattle.chorus_ui.specs.Text.{name_text}
use Rattle.picture_texts.proofs.Pieces.{three_right}
use Rattle.picture_rows.specs.Columns.{lane_of}
use Rattle.picture_rows.specs.Pieces.{bar_open}
use Rattle.picture_rows.specs.Rows.{row_y}
use Rattle.picture_rows.specs.Shapes.{bar_down, bar_in}
use Rattle.picture_rows.proofs.PieceTexts.{bar_open_is}
use Rattle.picture_rows.proofs.bars.push_bar.Goals as goal

pub returns : goal.returns
unfolding bar_in
returns c =
    let o = c.args.out.now.items in
    let q = c.args.port in
    let waits = c.args.bar.waits in
    let top : ℕ = row_y c.args.bar.row.number in
    let down : List ℕ = bar_down waits (lane_of q c.args.column.now) top (c.args.y - top) in
    let opened : c.extend_from_slice.new.self.items ≡ o ++ bar_open waits = cc (c.in_ok-extend_from_slice.ensures.items, c.as_bytes.ensures.value, c.bar_open.ensures) in
    let last : c.push_down.new.out.items ≡ c.text.new.out.items ++ down = cc (c.in_ok-push_down.ensures, c.from.ensures, c.lane.ensures.value, c.row_y-top.ensures.value, c.saturating_sub.ensures) in
    three_right o (bar_open waits) (name_text q) down c.extend_from_slice.new.self.items c.text.new.out.items c.push_down.new.out.items
    opened c.in_ok-text.ensures.ok last
    ∙ ap (λ t. o ++ t) (bar_open_is waits (name_text q) down)
