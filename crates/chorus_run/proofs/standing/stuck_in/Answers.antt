use Rattle.std.proofs.Common.{◌∙◌, ap}
use Rattle.chorus_merge.specs.Merge.{merged}
use Rattle.chorus_merge.specs.Steps.{journals_of, lent}
use Rattle.chorus_run.proofs.Asked.{stand-asked}
use Rattle.chorus_run.proofs.standing.stuck_in.Goals as goal

pub returns : goal.returns
returns c =
    stand-asked c.args.scenario.now c.args.closed.now c.deref-2.result.now (lent c.deref-3.result.now) c.ask_all.result c.has_wait.result c.has_wait.ensures c.if-not-has_wait.false c.deref-2.ensures.value
    (ap lent c.deref-3.ensures.value ∙ c.in_ok-entries.ensures ∙ ap (λ js. merged (journals_of js)) c.deref.ensures.value) c.ask_all.ensures
