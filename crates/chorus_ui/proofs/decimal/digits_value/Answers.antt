use Rattle.std.proofs.Common.{◌∙◌}
use Rattle.chorus_ui.proofs.Decimals.{read_off, read_end, read_digits_value}
use Rattle.chorus_ui.proofs.decimal.digits_value.Goals as goal

pub returns-in_err-number : goal.returns-in_err-number
returns-in_err-number c =
    c.from_residual.ensures
    ∙ (read_off c.args.text.now c.loop-c.c-index c.loop-c.number _ c.loop-c.invariant c.loop-c-test.true c.in_err-number.ensures
    ∙ read_digits_value c.args.text.now)

pub returns : goal.returns
returns c =
    read_end c.args.text.now c.loop-c.c-index c.loop-c.number _ c.loop-c.invariant c.loop-c-test.false
    ∙ read_digits_value c.args.text.now
