use Rattle.std.proofs.Common.{◌++◌, codes, decimal}
use Rattle.picture_texts.proofs.Pieces.{five_right}
use Rattle.picture_rows.proofs.shapes.push_points.Goals as goal

pub returns : goal.returns
returns c =
    five_right c.args.out.now.items (decimal c.args.start) (codes " " ++ decimal c.args.top) (codes "H" ++ decimal c.args.turn) (codes "L" ++ decimal c.args.stop)
    (codes " " ++ decimal c.args.y)
    c.push_decimal.new.out.items c.push_numbered.new.out.items c.push_numbered-2.new.out.items c.push_numbered-3.new.out.items c.push_numbered-4.new.out.items
    c.in_ok-push_decimal.ensures.ok c.in_ok-push_numbered.ensures c.in_ok-push_numbered-2.ensures c.in_ok-push_numbered-3.ensures c.in_ok-push_numbered-4.ensures
