use Rattle.std.proofs.Common.{◌≡◌, ℕ, ◌++◌, List, codes, decimal}
use Rattle.picture_rows.specs.Shapes.{bar_down}
use Rattle.picture_texts.proofs.Pieces.{two}
use Rattle.picture_rows.proofs.bars.push_down.Goals as goal

pub returns : goal.returns
unfolding bar_down
returns c =
    let o = c.args.out.now.items in
    let w = c.extend_from_slice.new.self.items in
    let r4 : List ℕ = codes "'/></g>\n" in
    let r3 : List ℕ = (codes "' width='12' height='" ++ decimal c.args.height) ++ r4 in
    let r2 : List ℕ = (codes "' y='" ++ decimal c.args.top) ++ r3 in
    let r1 : List ℕ = (codes "</title><rect x='" ++ decimal c.args.lane) ++ r2 in
    let h3 : w ≡ c.push_numbered-3.new.out.items ++ ((codes "' width='12' height='" ++ decimal c.args.height) ++ r4) = two c.push_numbered-3.new.out.items (codes "' width='12' height='" ++ decimal c.args.height) r4 c.push_numbered-4.new.out.items w c.in_ok-push_numbered-4.ensures c.in_ok-extend_from_slice.ensures.items in
    let h2 : w ≡ c.push_numbered-2.new.out.items ++ ((codes "' y='" ++ decimal c.args.top) ++ r3) = two c.push_numbered-2.new.out.items (codes "' y='" ++ decimal c.args.top) r3 c.push_numbered-3.new.out.items w c.in_ok-push_numbered-3.ensures h3 in
    let h1 : w ≡ c.push_numbered.new.out.items ++ ((codes "</title><rect x='" ++ decimal c.args.lane) ++ r2) = two c.push_numbered.new.out.items (codes "</title><rect x='" ++ decimal c.args.lane) r2 c.push_numbered-2.new.out.items w c.in_ok-push_numbered-2.ensures h2 in
    let h0 : w ≡ o ++ ((codes ", " ++ decimal c.args.waits) ++ r1) = two o (codes ", " ++ decimal c.args.waits) r1 c.push_numbered.new.out.items w c.in_ok-push_numbered.ensures h1 in
    h0
