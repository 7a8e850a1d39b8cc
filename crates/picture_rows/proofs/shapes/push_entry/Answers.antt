use Rattle.std.proofs.Common.{◌≡◌, ℕ, ◌+◌, ◌++◌, List, codes, decimal, ap, ◌∙◌}
use Rattle.chorus_show.specs.Lines.{act_text}
use Rattle.picture_texts.specs.Filling.{markup, shown_act}
use Rattle.picture_texts.proofs.Pieces.{five_right}
use Rattle.picture_rows.specs.Columns.{column_at, x_of}
use Rattle.picture_rows.specs.Marks.{mark_of}
use Rattle.picture_rows.specs.Pieces.{mark_open, mark_use, spot_piece, texts_piece}
use Rattle.picture_rows.specs.Rows.{row_y}
use Rattle.picture_rows.specs.Shapes.{line_text}
use Rattle.picture_rows.proofs.PieceTexts.{entry_is}
use Rattle.picture_rows.proofs.shapes.push_entry.Goals as goal

pub push_title-requires : goal.push_title-requires
push_title-requires c = c.requires.line.plain

pub push_texts-requires-clause-plain : goal.push_texts-requires-clause-plain
push_texts-requires-clause-plain c = c.requires.line.plain_act

pub returns : goal.returns
returns c =
    let o = c.args.out.now.items in
    let e = c.args.entry.now in
    let line = c.requires.line in
    let right = c.args.edge.now.right in
    let m = mark_of c.args.cause e.act in
    let x : ℕ = x_of (column_at e.place c.args.columns.now) in
    let y : ℕ = row_y c.args.row in
    let note = c.args.note.now in
    let last : List ℕ = texts_piece right (y + 4) (decimal e.clock) (decimal e.seat) ++ shown_act (act_text e.act) ++ note ++ codes "</text></g>\n" in
    let opened : c.extend_from_slice.new.self.items ≡ o ++ mark_open m =
    cc (c.in_ok-extend_from_slice.ensures.items, c.as_bytes.ensures.value, c.mark_open.ensures, c.mark_of-mark.ensures) in
    let title : c.push_title.new.out.items ≡ c.extend_from_slice.new.self.items ++ markup (line_text e) =
    c.in_ok-push_title.ensures ∙ ap (λ t. c.extend_from_slice.new.self.items ++ markup t) line.text in
    let place : c.extend_from_slice-2.new.self.items ≡ c.push_title.new.out.items ++ mark_use m =
    cc (c.in_ok-extend_from_slice-2.ensures.items, c.as_bytes-2.ensures.value, c.mark_use.ensures, c.mark_of-mark.ensures) in
    let spot : c.push_spot.new.out.items ≡ c.extend_from_slice-2.new.self.items ++ spot_piece x y =
    cc (c.in_ok-push_spot.ensures, c.x_at.ensures.value, c.row_y.ensures.value) in
    let texts : c.push_texts.new.out.items ≡ c.push_spot.new.out.items ++ last =
    c.in_ok-push_texts.ensures
    ∙ (λ i. c.push_spot.new.out.items ++ (texts_piece right (c.row_y-2.ensures.value i + 4) (line.clock i) (line.seat i) ++ shown_act (line.act i) ++ note ++ codes "</text></g>\n")) in
    five_right o (mark_open m) (markup (line_text e)) (mark_use m) (spot_piece x y) last
    c.extend_from_slice.new.self.items c.push_title.new.out.items c.extend_from_slice-2.new.self.items c.push_spot.new.out.items c.push_texts.new.out.items
    opened title place spot texts
    ∙ ap (λ t. o ++ t) (entry_is right x y e note m)
