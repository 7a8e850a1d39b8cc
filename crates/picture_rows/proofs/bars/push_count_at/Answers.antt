use Rattle.std.proofs.Common.{◌≡◌, ℕ, ◌++◌, List, codes, decimal}
use Rattle.picture_rows.specs.Shapes.{count_at}
use Rattle.picture_texts.proofs.Pieces.{two}
use Rattle.picture_rows.proofs.bars.push_count_at.Goals as goal

pub returns : goal.returns
unfolding count_at
returns c =
    let o = c.args.out.now.items in
    let w = c.extend_from_slice.new.self.items in
    let r3 : List ℕ = codes "</text>\n" in
    let r2 : List ℕ = (codes "'>" ++ decimal c.args.waits) ++ r3 in
    let r1 : List ℕ = (codes "' y='" ++ decimal c.args.y) ++ r2 in
    let h2 : w ≡ c.push_numbered-2.new.out.items ++ ((codes "'>" ++ decimal c.args.waits) ++ r3) = two c.push_numbered-2.new.out.items (codes "'>" ++ decimal c.args.waits) r3 c.push_numbered-3.new.out.items w c.in_ok-push_numbered-3.ensures c.in_ok-extend_from_slice.ensures.items in
    let h1 : w ≡ c.push_numbered.new.out.items ++ ((codes "' y='" ++ decimal c.args.y) ++ r2) = two c.push_numbered.new.out.items (codes "' y='" ++ decimal c.args.y) r2 c.push_numbered-2.new.out.items w c.in_ok-push_numbered-2.ensures h2 in
    two o (codes "<text class='count' x='" ++ decimal c.args.x) r1 c.push_numbered.new.out.items w c.in_ok-push_numbered.ensures h1
