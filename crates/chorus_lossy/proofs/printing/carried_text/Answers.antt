use Rattle.std.proofs.Common.{◌∙◌}
use Rattle.std.proofs.lemmas.Result.{IfOk-weaker}
use Rattle.chorus_lossy.proofs.Running.{on_err, on_ok}
use Rattle.chorus_lossy.proofs.Whole.{has_carried, text_of_run, within_all}
use Rattle.chorus_lossy.proofs.printing.carried_text.Goals as goal

pub returns-clause-text : goal.returns-clause-text
returns-clause-text c =
    let told = c.in_ok-carried.ensures in
    let same = text_of_run c.args.first c.args.bytes.now _ _ _ _ told.carried told.delivered in
    IfOk-weaker c.text_of.result _ _ (λ text is. is ∙ same) c.text_of.ensures

pub returns-clause-carried : goal.returns-clause-carried
returns-clause-carried c =
    let told = c.in_ok-carried.ensures in
    on_ok c.text_of.result (has_carried c.args.first c.args.bytes.now _ _ _ told.carried told.put told.acknowledged)

pub returns-clause-memory : goal.returns-clause-memory
returns-clause-memory c = on_err c.text_of.result (within_all c.args.first c.args.bytes.now _ _ _ c.in_ok-carried.ensures.carried)
