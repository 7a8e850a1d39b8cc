use Rattle.std.proofs.Common.{◌≡◌, ◌-◌, ◌++◌, OnOk, length, take, drop, slice_index_or, refl, sym, ap, ◌∙◌, subst}
use Rattle.picture_texts.specs.Filling.{markup, markup_byte}
use Rattle.picture_texts.proofs.Pieces.{joined}
use Rattle.picture_texts.proofs.Stretches.{markup_end, markup_more}
use Rattle.picture_texts.proofs.filling.+push_markup.Goals as goal

pub returns-in_default : goal.returns-in_default
returns-in_default t c =
    let cut = c.split_at.ensures in
    c.in_ok-extend_from_slice.ensures.items ∙ ap (λ text. c.args.out.now.items ++ text) (sym (
    markup_end c.args.text.now c.split_at.result.0.now c.split_at.result.1.now c.plain_front.result c.plain_front.ensures.value cut.front cut.back c.in_default.len_below
    ))

pub returns : goal.returns
returns t c =
    let cut = c.split_at.ensures in
    let front = c.split_at.result.0.now in
    let rest = c.split_at.result.1.now in
    let out = c.args.out.now.items in
    let special = markup_byte (slice_index_or rest 0 0) in
    let more = markup (take (length rest - 1) (drop 1 rest)) in
    let whole = markup_more c.args.text.now front rest c.plain_front.result c.plain_front.ensures.value cut.front cut.back c.in-len1-up.len_at_least in
    let written = c.in_ok-push_markup_byte.ensures
    ∙ joined out front c.extend_from_slice.new.self.items special (front ++ special) c.in_ok-extend_from_slice.ensures.items refl in
    subst (λ items. OnOk c.push_markup.result (c.push_markup.new.out.items ≡ items))
    (joined out (front ++ special) c.push_markup_byte.new.out.items more (markup c.args.text.now) written whole) c.push_markup.ensures
