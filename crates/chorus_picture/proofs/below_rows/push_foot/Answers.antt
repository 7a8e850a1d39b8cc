use Rattle.std.proofs.Common.{◌≡◌, ◌++◌, codes}
use Rattle.chorus_picture.specs.declared.style.TheConstants.{LEGEND}
use Rattle.picture_texts.proofs.Pieces.{three}
use Rattle.chorus_picture.proofs.below_rows.push_foot.Goals as goal

pub returns : goal.returns
returns c =
    let legend : c.extend_from_slice.new.self.items ≡ c.push_foot_front.new.out.items ++ LEGEND.now = cc (c.in_ok-extend_from_slice.ensures.items, c.as_bytes.ensures.value) in
    three c.args.out.now.items _ LEGEND.now (codes "</g>\n</svg>\n") c.push_foot_front.new.out.items c.extend_from_slice.new.self.items c.extend_from_slice-2.new.self.items
    c.in_ok-push_foot_front.ensures legend c.in_ok-extend_from_slice-2.ensures.items
