use Rattle.std.proofs.Common.{◌∙◌, arith, refl, subst, sym}
use Rattle.std.specs.Option.{IsNone}
use Rattle.chorus_words.proofs.Spelling.{no_turns_read}
use Rattle.chorus_words.proofs.reading.turns_of.Goals as goal

pub returns-in_err-layout-clause-none : goal.returns-in_err-layout-clause-none
returns-in_err-layout-clause-none c = λ none.
    no_turns_read _ _ c.in_ok-small_decimal.ensures.some (omega arith) (subst IsNone (sym c.in_err-layout.was ∙ c.new.ensures) refl)
