use Rattle.std.proofs.Common.{◌≡◌, ◌<◌, ◌∙◌, ap, sym, subst}
use Rattle.std.specs.Option.{option_copied}
use Rattle.chorus_claims.specs.Words.{words_behind, text_left}
use Rattle.chorus_claims.proofs.Cuts.{words_cut, less_left}
use Rattle.chorus_claims.proofs.words.next_word.Goals as goal

pub returns-clause-words : goal.returns-clause-words
returns-clause-words c =
    ap (λ o. words_behind (option_copied o)) c.in_ok-text.was
    ∙ words_cut c.in_ok-text.text.now c.cut.result.0.now (option_copied c.cut.result.1) c.cut.ensures

pub returns-clause-shorter : goal.returns-clause-shorter
returns-clause-shorter c =
    subst (λ o. text_left (option_copied c.cut.result.1) < text_left (option_copied o)) (sym c.in_ok-text.was)
    (less_left c.in_ok-text.text.now c.cut.result.0.now (option_copied c.cut.result.1) c.cut.ensures)
