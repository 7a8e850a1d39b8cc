use Rattle.std.proofs.Common.{sym, ◌∙◌, refl}
use Rattle.std.proofs.lemmas.Result.{err_from_is_err_and}
use Rattle.chorus_show.specs.declared.status.Status.{Status}
use Rattle.chorus_report.proofs.Ends.{err-so, given-ok, still-refused, waits-refused}
use Rattle.chorus_report.proofs.reading.read_without_awaits.Goals as goal

pub returns-in_err-scenario-clause-ends : goal.returns-in_err-scenario-clause-ends
returns-in_err-scenario-clause-ends g c =
    let p = err_from_is_err_and c.from_residual.result c.from_residual.ensures.1 in
    err-so c.from_residual.result p.0 _ _ p.1 p.2 (still-refused c.args.layout _ g.S.Source.left g.S.Source.faults g.S.Source.reliable c.args.source.now c.read_scenario.new.source c.in_err-scenario.ensures.ends)

pub returns-then-has_wait-clause-ends : goal.returns-then-has_wait-clause-ends
returns-then-has_wait-clause-ends g c =
    waits-refused c.args.layout g.S.Source.left g.S.Source.faults g.S.Source.reliable c.args.source.now c.read_scenario.new.source c.in_ok-scenario.scenario c.refused.result _ _
    c.in_ok-scenario.ensures.given (sym c.has_wait.ensures ∙ c.if-has_wait.true) c.refused.ensures refl refl (c.in_ok-scenario.ensures.reads Status.Done tt)

pub returns-clause-given : goal.returns-clause-given
returns-clause-given g c =
    given-ok c.args.layout _ c.in_ok-scenario.scenario c.in_ok-scenario.ensures.given (sym c.has_wait.ensures ∙ c.if-has_wait.false)
