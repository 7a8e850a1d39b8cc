use Rattle.std.proofs.Common.{◌≡◌, subst}
use Rattle.chorus_ui.specs.declared.layout.Layout.{Layout}
use Rattle.chorus_check.specs.Ends.{EndsAsCheck}
use Rattle.chorus_program.specs.Running.{replay_layout}
use Rattle.chorus_program.proofs.Concluding.{causes-checked}
use Rattle.chorus_program.proofs.inquiries.check_for.Goals as goal

pub returns-clause-checks : goal.returns-clause-checks
returns-clause-checks g c =
    let is : c.unwrap-layout.result ≡ replay_layout = cc in
    record {
      given = c.check.result;
      verdict = c.checked.ensures.verdict;
      ends = record {
        is = c.checked.ensures.finished;
        checks = subst (λ (l : Layout). EndsAsCheck l c.args.schedules c.check.result g.S.Source.left g.S.Source.faults g.S.Source.reliable c.args.source.now c.check.new.source g.K.Sink.held g.K.Sink.faults c.args.sink.now c.check.new.sink) is
            c.check.ensures;
      };
    }

pub returns-clause-causes : goal.returns-clause-causes
returns-clause-causes g c =
    let is : c.unwrap-layout.result ≡ replay_layout = cc in
    causes-checked c.args.schedules g.S.Source.left g.S.Source.faults g.S.Source.reliable c.args.source.now c.check.new.source g.K.Sink.held g.K.Sink.faults c.args.sink.now c.check.new.sink
    c.checked.result.finished c.check.result
    (record {
      is = c.checked.ensures.finished;
      checks = subst (λ (l : Layout). EndsAsCheck l c.args.schedules c.check.result g.S.Source.left g.S.Source.faults g.S.Source.reliable c.args.source.now c.check.new.source g.K.Sink.held g.K.Sink.faults c.args.sink.now c.check.new.sink) is
          c.check.ensures;
    })
