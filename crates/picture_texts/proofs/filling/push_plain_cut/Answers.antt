use Rattle.std.proofs.Common.{◌≡◌, ◌<◌, ◌≤◌, ◌++◌, length, take, codes, sym, ap, ◌∙◌, arith}
use Rattle.picture_texts.proofs.Pieces.{two}
use Rattle.picture_texts.proofs.PlainTexts.{plain_long_is, plain_short_is}
use Rattle.picture_texts.proofs.filling.push_plain_cut.Goals as goal

pub returns-then-text-most : goal.returns-then-text-most
returns-then-text-most c =
    let short : length c.args.text.now ≤ c.args.most = omega arith in
    c.in_ok-extend_from_slice.ensures.items ∙ ap (λ t. c.args.out.now.items ++ t) (sym (plain_short_is c.args.most c.args.text.now short c.requires))

pub returns : goal.returns
returns c =
    let o = c.args.out.now.items in
    let text = c.args.text.now in
    let long : c.args.most < length text = omega arith in
    let front : c.extend_from_slice-2.new.self.items ≡ o ++ take c.args.most text =
    c.in_ok-extend_from_slice-2.ensures.items ∙ ap (λ t. o ++ t) c.split_at.ensures.front in
    two o (take c.args.most text) (codes "...") c.extend_from_slice-2.new.self.items c.extend_from_slice-3.new.self.items front c.in_ok-extend_from_slice-3.ensures.items
    ∙ ap (λ t. o ++ t) (sym (plain_long_is c.args.most text long c.requires))
