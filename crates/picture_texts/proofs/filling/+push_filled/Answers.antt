use Rattle.std.proofs.Common.{◌≡◌, ◌-◌, ◌++◌, OnOk, decimal, length, take, drop, slice_index_or, refl, sym, ap, ◌∙◌, subst}
use Rattle.picture_texts.specs.Filling.{filled}
use Rattle.picture_texts.proofs.Pieces.{joined}
use Rattle.picture_texts.proofs.Stretches.{filled_end, filled_more, filled_rest}
use Rattle.picture_texts.proofs.filling.+push_filled.Goals as goal

pub returns-in_default : goal.returns-in_default
returns-in_default t c =
    let cut = c.split_at.ensures in
    c.in_ok-extend_from_slice.ensures.items ∙ ap (λ text. c.args.out.now.items ++ text) (sym (
    filled_end c.args.template.now c.args.numbers.now c.split_at.result.0.now c.split_at.result.1.now c.front_of.result c.front_of.ensures.value cut.front cut.back
    c.in_default.len_below
    ))

pub returns-in_default-numbers : goal.returns-in_default-numbers
returns-in_default-numbers t c =
    let cut = c.split_at.ensures in
    let front = c.split_at.result.0.now in
    let rest = c.split_at.result.1.now in
    let out = c.args.out.now.items in
    let whole = filled_rest c.args.template.now c.args.numbers.now front rest c.front_of.result c.front_of.ensures.value cut.front cut.back c.in_default-numbers.len_below in
    c.in_ok-extend_from_slice-2.ensures.items
    ∙ joined out front c.extend_from_slice.new.self.items rest (filled c.args.template.now c.args.numbers.now) c.in_ok-extend_from_slice.ensures.items whole

pub returns : goal.returns
returns t c =
    let cut = c.split_at.ensures in
    let front = c.split_at.result.0.now in
    let rest = c.split_at.result.1.now in
    let ns = c.args.numbers.now in
    let out = c.args.out.now.items in
    let number = decimal (slice_index_or ns 0 0) in
    let more = filled (take (length rest - 1) (drop 1 rest)) (take (length ns - 1) (drop 1 ns)) in
    let whole = filled_more c.args.template.now ns front rest c.front_of.result c.front_of.ensures.value cut.front cut.back c.in-len1-up.len_at_least c.in-len1-up-numbers.len_at_least in
    let written = c.in_ok-push_decimal.ensures.ok
    ∙ joined out front c.extend_from_slice.new.self.items number (front ++ number) c.in_ok-extend_from_slice.ensures.items refl in
    subst (λ items. OnOk c.push_filled.result (c.push_filled.new.out.items ≡ items))
    (joined out (front ++ number) c.push_decimal.new.out.items more (filled c.args.template.now ns) written whole) c.push_filled.ensures
