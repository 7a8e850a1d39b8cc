use Rattle.std.proofs.Common.{sym}
use Rattle.chorus_program.specs.Concluding.{inquiry_in}
use Rattle.chorus_program.specs.Running.{Does}
use Rattle.chorus_program.proofs.Concluding.{answers, answers-none}
use Rattle.chorus_program.proofs.running.conclude_asked.Goals as goal

pub returns-in-Some-clause-concludes : goal.returns-in-Some-clause-concludes
returns-in-Some-clause-concludes g c =
    answers _ c.answer.result _ _ _ _ _ _ _ _ _ (inquiry_in c.args.asked) c.in-Some.asks (sym c.in-Some.ensures) c.answer.ensures.answers

pub returns-in-None-clause-concludes : goal.returns-in-None-clause-concludes
returns-in-None-clause-concludes g c =
    answers-none
    (λ finished. Does c.args.nucleus c.args.asked finished g.S.Source.left g.S.Source.faults g.S.Source.reliable c.args.source.now c.does.new.source g.K.Sink.held g.K.Sink.faults c.args.sink.now c.does.new.sink)
    c.without_verdict.result _ _ _ _ _ _ _ _ _ (inquiry_in c.args.asked) c.does.result (sym c.in-None.ensures) c.without_verdict.ensures c.does.ensures.does
