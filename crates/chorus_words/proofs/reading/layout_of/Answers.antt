use Rattle.std.proofs.Common.{arith, subst}
use Rattle.std.specs.Option.{IsNone}
use Rattle.chorus_words.proofs.Spelling.{no_layout_read}
use Rattle.chorus_words.proofs.reading.layout_of.Goals as goal

pub returns-clause-none : goal.returns-clause-none
returns-clause-none c = λ none.
    no_layout_read _ _ _ _ c.in_ok-small_decimal.ensures.some c.in_ok-small_decimal-2.ensures.some (omega arith) (omega arith) (subst IsNone c.new.ensures none)
