use Rattle.std.proofs.Common.{◌++◌, length, ap, ◌∙◌}
use Rattle.chorus_picture.specs.Found.{behind_entries, foot, found_by}
use Rattle.picture_rows.specs.Rows.{end_y}
use Rattle.chorus_picture.specs.Sheet.{all_heads}
use Rattle.picture_texts.proofs.Pieces.{three}
use Rattle.chorus_picture.proofs.drawing.push_behind_rows.Goals as goal

pub returns : goal.returns
returns c =
    let es = c.args.entries.now in
    let n = length es in
    let cs = c.args.columns.now in
    let end = c.end_y-end.ensures.value in
    three c.args.out.now.items (all_heads c.args.layout cs n) (found_by c.args.text.now (behind_entries c.args.text.now es) c.args.audit (end_y n)) (foot (end_y n))
    c.push_heads.new.out.items c.push_found.new.out.items c.push_foot.new.out.items
    c.in_ok-push_heads.ensures
    (c.in_ok-push_found.ensures ∙ ap (λ y. c.push_heads.new.out.items ++ found_by c.args.text.now c.args.summary.now c.args.audit y) end
    ∙ ap (λ summary. c.push_heads.new.out.items ++ found_by c.args.text.now summary c.args.audit (end_y n)) c.requires.summary)
    (c.in_ok-push_foot.ensures ∙ ap (λ y. c.push_found.new.out.items ++ foot y) end)
