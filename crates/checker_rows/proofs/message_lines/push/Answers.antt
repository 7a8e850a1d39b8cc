use Rattle.std.proofs.Common.{ap, sym, ◌∙◌, ◌++◌, ◌∷◌, [], Some, is_some, cond}
use Rattle.std.specs.Option.{option_copied_mut}
use Rattle.std.specs.HashMap.{get}
use Rattle.std.proofs.lemmas.Result.{MatchResult-from_err}
use Rattle.checker_rows.specs.Keys.{same_line}
use Rattle.checker_rows.specs.Lines.{items_of}
use Rattle.checker_rows.proofs.LineChanges.{put_longer, put_same}
use Rattle.checker_rows.proofs.message_lines.push.Goals as goal

pub returns-in_err-push_back-clause-err : goal.returns-in_err-push_back-clause-err
returns-in_err-push_back-clause-err c =
    let found = sym c.get_mut.ensures.value ∙ ap option_copied_mut c.in-Some.is in
    MatchResult-from_err c.from_residual.result _ _ c.from_residual.ensures.0 (λ _ k.
    put_same (get same_line c.args.lines.now) (get same_line (c.get_mut.follows.lender c.push_back.new.self)) c.args.key c.push_back.new.self
    (((c.get_mut.follows.holds c.push_back.new.self).3 (ap is_some found)).0)
    (c.in_err-push_back.ensures.items ∙ ap items_of (sym found)) k)

pub returns-in-Some-clause-ok : goal.returns-in-Some-clause-ok
returns-in-Some-clause-ok c =
    let found = sym c.get_mut.ensures.value ∙ ap option_copied_mut c.in-Some.is in
    put_longer (get same_line c.args.lines.now) (get same_line (c.get_mut.follows.lender c.push_back.new.self)) c.args.key c.push_back.new.self c.args.id
    (((c.get_mut.follows.holds c.push_back.new.self).3 (ap is_some found)).0)
    (c.in_ok-push_back.ensures.items ∙ ap (λ o. items_of o ++ c.args.id ∷ []) (sym found))

pub returns-clause-ok : goal.returns-clause-ok
returns-clause-ok c =
    let none = sym c.get_mut.ensures.value ∙ ap option_copied_mut c.in_default.is in
    let same = c.get_mut.follows.holds-at-none in
    put_longer (get same_line c.args.lines.now) (get same_line c.insert.new.self) c.args.key c.push_back_reserved.new.self c.args.id
    (λ q. c.in_ok-insert.ensures.updates.0 q ∙ ap (λ m. cond (same_line c.args.key q) (Some c.push_back_reserved.new.self) (get same_line m q)) same)
    (c.push_back_reserved.ensures.items ∙ (ap (λ xs. xs ++ c.args.id ∷ []) c.in_ok-line.ensures.items ∙ ap (λ o. items_of o ++ c.args.id ∷ []) (sym none)))
