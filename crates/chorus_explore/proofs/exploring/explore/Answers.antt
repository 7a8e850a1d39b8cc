use Rattle.std.proofs.Common.{List, ℕ, Err, ap, subst}
use Rattle.chorus_report.specs.Output.{Writes}
use Rattle.chorus_explore.proofs.Called.{wanted, wore, wrote}
use Rattle.chorus_explore.proofs.exploring.explore.Goals as goal

pub returns-in-Ok-explore_scenario : goal.returns-in-Ok-explore_scenario
returns-in-Ok-explore_scenario g c =
    wrote c.args.layout c.args.most c.args.first g.S.Source.left g.S.Source.faults g.S.Source.reliable c.args.source.now c.read_scenario.new.source g.K.Sink.held g.K.Sink.faults
    c.in-Ok.scenario c.in-Ok.ensures.given c.in-Ok.ensures.reads c.args.sink.now c.write.new.sink c.write.result c.in-Ok-explore_scenario.text.items c.in-Ok-explore_scenario.ensures.explored
    c.write.ensures.status (subst (λ (xs : List ℕ). Writes c.write.result (g.K.Sink.held c.args.sink.now) (g.K.Sink.held c.write.new.sink) xs) c.deref.ensures.value c.write.ensures.written) c.write.ensures.write_fault

pub returns-in-Err-Memory : goal.returns-in-Err-Memory
returns-in-Err-Memory g c =
    wanted c.args.layout c.args.most c.args.first g.S.Source.left g.S.Source.faults g.S.Source.reliable c.args.source.now c.read_scenario.new.source g.K.Sink.held g.K.Sink.faults
    c.in-Ok.scenario c.in-Ok.ensures.given c.in-Ok.ensures.reads c.args.sink.now

pub returns : goal.returns
returns g c =
    wore c.args.layout c.args.most c.args.first g.S.Source.left g.S.Source.faults g.S.Source.reliable c.args.source.now c.read_scenario.new.source g.K.Sink.held g.K.Sink.faults
    c.in-Ok.scenario c.in-Ok.ensures.given c.in-Ok.ensures.reads c.args.sink.now c.in-Err-Worn.clock (c.in-Err-Worn.ensures.worn c.in-Err-Worn.clock (ap Err c.in-Err-Worn.field-0-is))
