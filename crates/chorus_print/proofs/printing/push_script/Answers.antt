use Rattle.std.proofs.Common.{◌≡◌, ◌<◌, List, ap, subst, ◌∙◌, ◌++◌, ◌∷◌, [], length, get_or}
use Rattle.chorus_entry.specs.declared.command.Command.{Command}
use Rattle.chorus_scene.specs.Print.{actor_text, said_as}
use Rattle.chorus_print.proofs.Kept.{kept_after, on_err}
use Rattle.chorus_print.proofs.PrintedLines.{commands_on}
use Rattle.chorus_print.proofs.printing.push_script.Goals as goal

pub loop-index-preserved : goal.loop-index-preserved
loop-index-preserved c =
    let s = c.args.script.now in
    let i = c.loop-index.index in
    let x = c.index-commands-index.result in
    c.in_ok-end_line-2.ensures.ok
    ∙ ap (λ o. o ++ 10 ∷ []) (c.in_ok-push_said.ensures.ok ∙ ap (λ b. c.loop-index.out.items ++ said_as b x) c.is_await.ensures)
    ∙ commands_on s.waits c.args.out.now.items c.loop-index.out.items (actor_text s.actor) s.commands i x (subst (λ (xs : List Command). i < length xs) c.commands-index-end.ensures c.loop-index-test.true)
    (subst (λ (xs : List Command). x ≡ get_or xs i x) c.commands.ensures c.index-commands-index.is) c.loop-index.invariant

pub returns-in_err-push_said-clause-err : goal.returns-in_err-push_said-clause-err
returns-in_err-push_said-clause-err c =
    on_err _ (kept_after _ _ _ _ c.loop-index.invariant c.in_err-push_said.ensures.err)

pub returns-in_err-end_line-2-clause-err : goal.returns-in_err-end_line-2-clause-err
returns-in_err-end_line-2-clause-err c =
    on_err _ (kept_after _ _ _ _ c.loop-index.invariant (kept_after _ _ _ _ c.in_ok-push_said.ensures.ok c.in_err-end_line-2.ensures.err))
