use Rattle.std.proofs.Common.{◌++◌, codes, decimal}
use Rattle.picture_texts.proofs.Pieces.{three_right}
use Rattle.picture_rows.proofs.shapes.push_spot.Goals as goal

pub returns : goal.returns
returns c =
    three_right c.args.out.now.items (decimal c.args.x) (codes "' y='" ++ decimal c.args.y) (codes "'/><text x='8' y='")
    c.push_decimal.new.out.items c.push_numbered.new.out.items c.extend_from_slice.new.self.items
    c.in_ok-push_decimal.ensures.ok c.in_ok-push_numbered.ensures c.in_ok-extend_from_slice.ensures.items
