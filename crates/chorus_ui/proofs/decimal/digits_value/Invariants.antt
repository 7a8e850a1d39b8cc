use Rattle.std.proofs.Common.{◌≡◌, drop}
use Rattle.chorus_ui.proofs.Decimals.{read_digits}
use Rattle.chorus_ui.proofs.decimal.digits_value.Given as goal

abbrev pub invariant-loop-c : goal.invariant-loop-c
invariant-loop-c l = read_digits l.number (drop l.c-index l.text) ≡ read_digits 0 l.text
