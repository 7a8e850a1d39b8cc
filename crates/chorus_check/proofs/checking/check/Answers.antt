use Rattle.std.proofs.Common.{List, ℕ, Err, ap, subst}
use Rattle.chorus_report.specs.Output.{Writes}
use Rattle.chorus_check.specs.Ends.{status_of}
use Rattle.chorus_check.proofs.Called.{wanted, wore, wrote}
use Rattle.chorus_check.proofs.checking.check.Goals as goal

pub returns-in-Ok-check_claims : goal.returns-in-Ok-check_claims
returns-in-Ok-check_claims g c =
    wrote c.args.layout c.args.schedules g.S.Source.left g.S.Source.faults g.S.Source.reliable c.args.source.now c.read_scenario.new.source g.K.Sink.held g.K.Sink.faults
    c.in-Ok.scenario c.in-Ok.ensures.given c.in-Ok.ensures.reads c.args.sink.now c.written.new.sink c.written.result c.in-Ok-check_claims.text.items c.in-Ok-check_claims.checked c.in-Ok-check_claims.ensures.checked
    c.written.ensures.ends (subst (λ (xs : List ℕ). Writes (status_of c.written.result) (g.K.Sink.held c.args.sink.now) (g.K.Sink.held c.written.new.sink) xs) c.deref.ensures.value c.written.ensures.written) c.written.ensures.write_fault

pub returns-in-Err-Memory : goal.returns-in-Err-Memory
returns-in-Err-Memory g c =
    wanted c.args.layout c.args.schedules g.S.Source.left g.S.Source.faults g.S.Source.reliable c.args.source.now c.read_scenario.new.source g.K.Sink.held g.K.Sink.faults
    c.in-Ok.scenario c.in-Ok.ensures.given c.in-Ok.ensures.reads c.args.sink.now

pub returns : goal.returns
returns g c =
    wore c.args.layout c.args.schedules g.S.Source.left g.S.Source.faults g.S.Source.reliable c.args.source.now c.read_scenario.new.source g.K.Sink.held g.K.Sink.faults
    c.in-Ok.scenario c.in-Ok.ensures.given c.in-Ok.ensures.reads c.args.sink.now c.in-Err-Worn.clock (c.in-Err-Worn.ensures.worn c.in-Err-Worn.clock (ap Err c.in-Err-Worn.field-0-is))
