use Rattle.std.proofs.Common.{rules, ◌≡◌, ◌∙◌, sym, arith}
use Rattle.std.proofs.lemmas.Fmt.{decimal_injective}
use Rattle.chorus_words.proofs.reading.most_of.Goals as goal

pub returns-in_default-clause-none : goal.returns-in_default-clause-none
returns-in_default-clause-none c = λ _ n within spells.
    let same : c.in-Some.number ≡ n = decimal_injective c.in-Some.number n (search rules) (omega arith) (sym (search rules) ∙ spells) in
    absurd (omega arith)
