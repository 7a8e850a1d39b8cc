use Rattle.std.proofs.Common.{length, ap, arith}
use Rattle.picture_rows.proofs.FirstLine.{tail_is}
use Rattle.picture_rows.proofs.lines.behind_first.Goals as goal

pub returns-in_default : goal.returns-in_default
returns-in_default c = λ d more is. absurd (omega (arith, ap length is, c.in_default.len_below))

pub returns : goal.returns
returns c = λ d more is. tail_is c.args.text.now more d is
