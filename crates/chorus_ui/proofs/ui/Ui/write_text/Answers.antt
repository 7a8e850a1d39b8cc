use Rattle.std.proofs.Common.{◌≡◌, ◌-◌, ◌+◌, decimal, drop, [], append-nil, refl, arith}
use Rattle.std.proofs.lemmas.Grind.{common_steps}
use Rattle.chorus_ui.proofs.Texts.{length-decimal_site, length-decimal_number, drop-three}
use Rattle.chorus_ui.proofs.ui.Ui.write_text.Goals as goal

pub write_digits-behind-requires : goal.write_digits-behind-requires
write_digits-behind-requires c = omega (arith, length-decimal_number c.number.result (omega arith))

pub overflow_sub-dots : goal.overflow_sub-dots
overflow_sub-dots c = omega (arith, length-decimal_number c.number.result (omega arith))

pub write_digits-requires : goal.write_digits-requires
write_digits-requires c = omega (arith, length-decimal_number c.number.result (omega arith), length-decimal_site c.from.result (omega arith))

pub returns-clause-written : goal.returns-clause-written
returns-clause-written c =
    let behind = c.write_digits-behind.result in
    let dots : behind - 3 + 3 ≡ behind = omega (arith, length-decimal_number c.number.result (omega arith)) in
    let end : drop 21 c.args.text.now ≡ [] = grind (arith, common_steps) in
    rw (c.write_digits.ensures.written, drop-three c.write_digits-behind.new.buf (behind - 3) 46 c.letter.result 46 (omega arith), dots, c.write_digits-behind.ensures.written, end, append-nil (decimal c.number.result), c.number.ensures.value, c.letter.ensures, c.kind.ensures, c.from.ensures, c.site.ensures.value) refl
