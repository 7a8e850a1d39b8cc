use Rattle.std.proofs.Common.{◌≡◌, decimal, ◌∙◌}
use Rattle.picture_rows.proofs.RoundTexts.{texts_in_pieces}
use Rattle.picture_rows.proofs.shapes.push_texts_front.Goals as goal

pub returns : goal.returns
returns c =
    let tall : c.as_bytes-y.result.now ≡ decimal c.args.y = cc (c.as_bytes-y.ensures.value, c.format.ensures.text) in
    texts_in_pieces c.args.edge.now.right c.args.y c.args.line.now.clock.now c.args.line.now.seat.now c.args.out.now.items c.extend_from_slice.new.self.items
    c.push_both.new.out.items c.push_both-2.new.out.items c.push_both-3.new.out.items c.push_both-4.new.out.items c.extend_from_slice-2.new.self.items
    c.as_bytes-y.result.now c.deref.result.now c.deref-2.result.now tall (c.deref.ensures.value ∙ c.requires.seat) (c.deref-2.ensures.value ∙ c.requires.act)
    c.in_ok-extend_from_slice.ensures.items c.in_ok-push_both.ensures c.in_ok-push_both-2.ensures c.in_ok-push_both-3.ensures
    c.in_ok-push_both-4.ensures c.in_ok-extend_from_slice-2.ensures.items
