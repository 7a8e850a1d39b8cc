use Rattle.std.proofs.Common.{rules, ◌≡◌, ◌++◌, ap, sym, ◌∙◌, Some, codes}
use Rattle.std.specs.Option.{option_copied}
use Rattle.chorus_audit.specs.Calls.{behind}
use Rattle.chorus_audit.proofs.Steps.{no_count, is_told}
use Rattle.chorus_audit.proofs.judging.told.Goals as goal

pub returns-in_err-count : goal.returns-in_err-count
returns-in_err-count c =
    let number : c.cut-2.result.1 ≡ Some c.in_ok-number.field-0 = c.in_ok-number.was in
    rw c.from_residual-in_err-count.ensures
    (no_count c.args.text.now c.cut.result.0.now c.cut-2.result.0.now c.in_ok-number.field-0.now (option_copied c.cut.result.1) (option_copied c.cut-2.result.1)
    c.cut.ensures.before c.cut.ensures.whole c.cut-2.ensures.before c.cut-2.ensures.whole (ap option_copied number) (sym c.in_err-count.ensures.value))

pub returns : goal.returns
returns c =
    let rest : c.cut.result.1 ≡ Some c.in_ok-rest.field-0 = c.in_ok-rest.was in
    let number : c.cut-2.result.1 ≡ Some c.in_ok-number.field-0 = c.in_ok-number.was in
    let is_word : c.cut-2.result.0.now ≡ codes "journal" = search rules in
    is_told c.args.text.now c.cut.result.0.now c.cut-2.result.0.now c.in_ok-rest.field-0.now c.in_ok-number.field-0.now c.in_ok-count.count
    (c.cut.ensures.whole ∙ ap (λ o. c.cut.result.0.now ++ behind 10 (option_copied o)) rest)
    (c.cut-2.ensures.whole ∙ ap (λ o. c.cut-2.result.0.now ++ behind 32 (option_copied o)) number)
    is_word (sym c.in_ok-count.ensures.value)
