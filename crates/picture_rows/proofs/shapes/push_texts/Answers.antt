use Rattle.std.proofs.Common.{codes}
use Rattle.picture_texts.specs.Filling.{shown_act}
use Rattle.picture_texts.proofs.Pieces.{four}
use Rattle.picture_rows.specs.Pieces.{texts_piece}
use Rattle.picture_rows.proofs.shapes.push_texts.Goals as goal

pub push_act_text-requires : goal.push_act_text-requires
push_act_text-requires c = c.requires.plain

pub returns : goal.returns
returns c =
    let line = c.args.line.now in
    four c.args.out.now.items (texts_piece c.args.edge.now.right c.args.y line.clock.now line.seat.now) (shown_act line.act.now) c.args.note.now
    (codes "</text></g>\n")
    c.push_texts_front.new.out.items c.push_act_text.new.out.items c.extend_from_slice.new.self.items c.extend_from_slice-2.new.self.items
    c.in_ok-push_texts_front.ensures c.in_ok-push_act_text.ensures c.in_ok-extend_from_slice.ensures.items c.in_ok-extend_from_slice-2.ensures.items
