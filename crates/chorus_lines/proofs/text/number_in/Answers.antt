use Rattle.std.proofs.Common.{sym, ap, ◌∙◌, Some}
use Rattle.chorus_lines.proofs.Numbers.{number_in_some, number_in_huge}
use Rattle.chorus_lines.proofs.text.number_in.Goals as goal

pub returns-in-Some : goal.returns-in-Some
returns-in-Some c = ap Some c.from.ensures ∙ sym (number_in_some c.args.text.now c.in-Some.number (sym c.in-Some.ensures.value))

pub returns-in-None : goal.returns-in-None
returns-in-None c = sym (number_in_huge c.args.text.now (sym c.in-None.ensures.value) (cc))
