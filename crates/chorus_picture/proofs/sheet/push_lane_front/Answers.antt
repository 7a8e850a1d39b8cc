use Rattle.std.proofs.Common.{◌≡◌, ℕ, ◌++◌, List, codes, decimal}
use Rattle.chorus_picture.specs.Sheet.{lane_front}
use Rattle.picture_texts.proofs.Pieces.{two}
use Rattle.chorus_picture.proofs.sheet.push_lane_front.Goals as goal

pub returns : goal.returns
unfolding lane_front
returns c =
    let o = c.args.out.now.items in
    let w = c.extend_from_slice.new.self.items in
    let r4 : List ℕ = codes "'>" in
    let r3 : List ℕ = (codes "' y='" ++ decimal c.args.y) ++ r4 in
    let r2 : List ℕ = (codes ")' x='" ++ decimal c.args.x) ++ r3 in
    let r1 : List ℕ = (codes " " ++ decimal c.args.y) ++ r2 in
    let h3 : w ≡ c.push_numbered-3.new.out.items ++ ((codes "' y='" ++ decimal c.args.y) ++ r4) = two c.push_numbered-3.new.out.items (codes "' y='" ++ decimal c.args.y) r4 c.push_numbered-4.new.out.items w c.in_ok-push_numbered-4.ensures c.in_ok-extend_from_slice.ensures.items in
    let h2 : w ≡ c.push_numbered-2.new.out.items ++ ((codes ")' x='" ++ decimal c.args.x) ++ r3) = two c.push_numbered-2.new.out.items (codes ")' x='" ++ decimal c.args.x) r3 c.push_numbered-3.new.out.items w c.in_ok-push_numbered-3.ensures h3 in
    let h1 : w ≡ c.push_numbered.new.out.items ++ ((codes " " ++ decimal c.args.y) ++ r2) = two c.push_numbered.new.out.items (codes " " ++ decimal c.args.y) r2 c.push_numbered-2.new.out.items w c.in_ok-push_numbered-2.ensures h2 in
    let h0 : w ≡ o ++ ((codes "<text class='name' transform='rotate(-90 " ++ decimal c.args.x) ++ r1) = two o (codes "<text class='name' transform='rotate(-90 " ++ decimal c.args.x) r1 c.push_numbered.new.out.items w c.in_ok-push_numbered.ensures h1 in
    h0
