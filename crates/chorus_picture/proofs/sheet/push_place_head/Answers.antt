use Rattle.std.proofs.Common.{◌≡◌, ℕ, ◌+◌, ◌++◌, List, codes, decimal}
use Rattle.chorus_picture.specs.Sheet.{place_head}
use Rattle.picture_texts.proofs.Pieces.{two}
use Rattle.chorus_picture.proofs.sheet.push_place_head.Goals as goal

pub returns : goal.returns
unfolding place_head
returns c =
    let o = c.args.out.now.items in
    let w = c.extend_from_slice.new.self.items in
    let r6 : List ℕ = codes "</text>\n" in
    let r5 : List ℕ = (codes "'>place " ++ decimal c.args.place) ++ r6 in
    let r4 : List ℕ = (codes "' y='" ++ decimal (c.args.y + 32)) ++ r5 in
    let r3 : List ℕ = (codes "</text><text class='head' x='" ++ decimal (c.args.x + 6)) ++ r4 in
    let r2 : List ℕ = (codes "'>site " ++ decimal c.args.site) ++ r3 in
    let r1 : List ℕ = (codes "' y='" ++ decimal (c.args.y + 16)) ++ r2 in
    let h5 : w ≡ c.push_numbered-5.new.out.items ++ ((codes "'>place " ++ decimal c.args.place) ++ r6) = two c.push_numbered-5.new.out.items (codes "'>place " ++ decimal c.args.place) r6 c.push_numbered-6.new.out.items w c.in_ok-push_numbered-6.ensures c.in_ok-extend_from_slice.ensures.items in
    let h4 : w ≡ c.push_numbered-4.new.out.items ++ ((codes "' y='" ++ decimal (c.args.y + 32)) ++ r5) = two c.push_numbered-4.new.out.items (codes "' y='" ++ decimal (c.args.y + 32)) r5 c.push_numbered-5.new.out.items w c.in_ok-push_numbered-5.ensures h5 in
    let h3 : w ≡ c.push_numbered-3.new.out.items ++ ((codes "</text><text class='head' x='" ++ decimal (c.args.x + 6)) ++ r4) = two c.push_numbered-3.new.out.items (codes "</text><text class='head' x='" ++ decimal (c.args.x + 6)) r4 c.push_numbered-4.new.out.items w c.in_ok-push_numbered-4.ensures h4 in
    let h2 : w ≡ c.push_numbered-2.new.out.items ++ ((codes "'>site " ++ decimal c.args.site) ++ r3) = two c.push_numbered-2.new.out.items (codes "'>site " ++ decimal c.args.site) r3 c.push_numbered-3.new.out.items w c.in_ok-push_numbered-3.ensures h3 in
    let h1 : w ≡ c.push_numbered.new.out.items ++ ((codes "' y='" ++ decimal (c.args.y + 16)) ++ r2) = two c.push_numbered.new.out.items (codes "' y='" ++ decimal (c.args.y + 16)) r2 c.push_numbered-2.new.out.items w c.in_ok-push_numbered-2.ensures h2 in
    let h0 : w ≡ o ++ ((codes "<text class='head' x='" ++ decimal (c.args.x + 6)) ++ r1) = two o (codes "<text class='head' x='" ++ decimal (c.args.x + 6)) r1 c.push_numbered.new.out.items w c.in_ok-push_numbered.ensures h1 in
    h0
