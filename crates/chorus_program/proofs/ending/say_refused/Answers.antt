use Rattle.std.proofs.Common.{◌∙◌, [], ◌∷◌, ◌++◌, ap, ap₂, subst, codes, decimal}
use Rattle.std.proofs.lemmas.Result.{on_ok_weaker}
use Rattle.std.proofs.KnownBytes.{Appends-trans}
use Rattle.std.specs.Io.KnownBytes.{Appends}
use Rattle.chorus_io.specs.Bytes.{AppendsPrefix}
use Rattle.chorus_io.proofs.Callers.{AppendsPrefix-first, AppendsPrefix-rest}
use Rattle.chorus_show.specs.declared.status.Status.TheVariants.{Scenario}
use Rattle.chorus_show.specs.Faults.{fault_line}
use Rattle.chorus_program.proofs.Lines.{scenario_line}
use Rattle.chorus_program.proofs.ending.say_refused.Goals as goal

pub returns-in_err-write_number-clause-prefix : goal.returns-in_err-write_number-clause-prefix
returns-in_err-write_number-clause-prefix g c =
    subst (AppendsPrefix _ _) (scenario_line c.from.result c.args.reason ∙ ap (λ l. fault_line (Scenario l c.args.reason)) c.from.ensures)
    (AppendsPrefix-first _ _ _ ((codes " reason " ++ decimal c.args.reason) ++ 10 ∷ []) c.in_err-write_number.ensures.prefix)

pub returns-in_err-write_number-2-clause-prefix : goal.returns-in_err-write_number-2-clause-prefix
returns-in_err-write_number-2-clause-prefix g c =
    subst (AppendsPrefix _ _) (scenario_line c.from.result c.from-2.result ∙ ap₂ (λ l r. fault_line (Scenario l r)) c.from.ensures c.from-2.ensures)
    (AppendsPrefix-rest _ _ _ _ _ c.in_ok-write_number.ensures.ok
    (AppendsPrefix-first _ _ _ (10 ∷ []) c.in_err-write_number-2.ensures.prefix))

pub returns-clause-ok : goal.returns-clause-ok
returns-clause-ok g c =
    let line = scenario_line c.from.result c.from-2.result ∙ ap₂ (λ l r. fault_line (Scenario l r)) c.from.ensures c.from-2.ensures in
    on_ok_weaker c.write_all.result (λ h. subst (Appends _ _) line
    (Appends-trans _ _ _ _ _ c.in_ok-write_number.ensures.ok (Appends-trans _ _ _ _ _ c.in_ok-write_number-2.ensures.ok h))) c.write_all.ensures.ok

pub returns-clause-prefix : goal.returns-clause-prefix
returns-clause-prefix g c =
    subst (AppendsPrefix _ _) (scenario_line c.from.result c.from-2.result ∙ ap₂ (λ l r. fault_line (Scenario l r)) c.from.ensures c.from-2.ensures)
    (AppendsPrefix-rest _ _ _ _ _ c.in_ok-write_number.ensures.ok
    (AppendsPrefix-rest _ _ _ _ _ c.in_ok-write_number-2.ensures.ok c.write_all.ensures.prefix))
