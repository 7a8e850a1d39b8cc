use Rattle.std.proofs.Common.{◌≡◌, ◌++◌, ◌∷◌, [], ap, ◌∙◌, arith, append_assoc}
use Rattle.chorus_scene.specs.Print.{all_ended, said_texts}
use Rattle.chorus_print.proofs.Kept.{kept_behind, kept_through, kept_after, on_err}
use Rattle.chorus_print.proofs.PrintedLines.{setup_on, setup_end}
use Rattle.chorus_print.proofs.printing.push_setup.Goals as goal

pub loop-at-preserved : goal.loop-at-preserved
loop-at-preserved c =
    let names = c.args.names.now in
    let lines = c.args.lines.now in
    let total = c.args.out.now.items ++ all_ended (said_texts names lines) in
    let i = c.loop-at.at in
    let now = c.loop-at.out.items in
    let grown = c.in_ok-end_line.ensures.ok ∙ ap (λ o. o ++ 10 ∷ []) c.in_ok-push_setup_line.ensures.ok in
    let so = setup_on now total names lines i c.index-lines-at.result c.index-names-at.result (omega (arith, c.requires)) (omega arith) c.index-lines-at.is c.index-names-at.is c.loop-at.invariant.written in
    record {
      written = rw grown so;
      kept = kept_through _ now _ c.loop-at.invariant.kept (kept_behind now _ _ (grown ∙ append_assoc now _ (10 ∷ [])));
    }

pub returns-in_err-push_setup_line-clause-err : goal.returns-in_err-push_setup_line-clause-err
returns-in_err-push_setup_line-clause-err c =
    on_err _ (kept_through _ c.loop-at.out.items _ c.loop-at.invariant.kept c.in_err-push_setup_line.ensures.err)

pub returns-in_err-end_line-clause-err : goal.returns-in_err-end_line-clause-err
returns-in_err-end_line-clause-err c =
    on_err _ (kept_through _ c.loop-at.out.items _ c.loop-at.invariant.kept (kept_after _ _ _ _ c.in_ok-push_setup_line.ensures.ok c.in_err-end_line.ensures.err))

pub returns-clause-ok : goal.returns-clause-ok
returns-clause-ok c = setup_end c.loop-at.out.items _ c.args.names.now c.args.lines.now c.loop-at.at (omega (arith, c.requires)) c.loop-at.invariant.written
