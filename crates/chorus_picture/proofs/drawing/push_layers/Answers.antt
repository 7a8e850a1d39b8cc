use Rattle.std.proofs.Common.{◌≡◌, [], ◌++◌, length, reverse, ap, ◌∙◌}
use Rattle.std.specs.List.{flat_map}
use Rattle.law_picture.specs.Bars.{bar}
use Rattle.picture_rows.specs.Rows.{end_y}
use Rattle.picture_rows.specs.Shapes.{arrow_text, each_row, ground_text, marks_text}
use Rattle.picture_rows.specs.Tables.{bar_of}
use Rattle.picture_texts.proofs.Pieces.{four}
use Rattle.chorus_picture.specs.Sheet.{bars_left}
use Rattle.chorus_picture.proofs.Left.{left_is}
use Rattle.chorus_picture.proofs.drawing.push_layers.Goals as goal

pub returns-clause-text : goal.returns-clause-text
returns-clause-text c =
    let es = c.args.entries.now in
    let n = length es in
    let cs = c.args.columns.now in
    let tables = c.push_rows.new.tables in
    let arrows : c.extend_from_slice.new.self.items ≡ c.push_bars_left.new.out.items ++ each_row (arrow_text cs) [] es =
    c.in_ok-extend_from_slice.ensures.items
    ∙ ap (λ t. c.push_bars_left.new.out.items ++ t)
    (c.deref.ensures.value ∙ c.in_ok-passed.ensures.arrows ∙ ap (λ o. o ++ each_row (arrow_text cs) [] es) c.new-arrows.ensures.items) in
    let marks : c.extend_from_slice-2.new.self.items ≡ c.extend_from_slice.new.self.items ++ each_row (marks_text cs) [] es =
    c.in_ok-extend_from_slice-2.ensures.items
    ∙ ap (λ t. c.extend_from_slice.new.self.items ++ t)
    (c.deref-2.ensures.value ∙ c.in_ok-passed.ensures.marks ∙ ap (λ o. o ++ each_row (marks_text cs) [] es) c.in_ok-marks.ensures.items) in
    four c.args.out.now.items (each_row (ground_text cs) [] es) (flat_map (bars_left (λ q. bar q (reverse es)) (end_y n)) cs)
    (each_row (arrow_text cs) [] es) (each_row (marks_text cs) [] es)
    c.push_rows.new.ground.items c.push_bars_left.new.out.items c.extend_from_slice.new.self.items c.extend_from_slice-2.new.self.items
    c.in_ok-passed.ensures.ground
    (c.in_ok-push_bars_left.ensures ∙ ap (λ y. c.push_rows.new.ground.items ++ flat_map (bars_left (bar_of tables.bars) y) cs) c.end_y.ensures.value
    ∙ ap (λ text. c.push_rows.new.ground.items ++ text) (left_is cs tables (reverse es) (end_y n) c.in_ok-passed.ensures.tables))
    arrows marks
