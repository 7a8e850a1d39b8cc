use Rattle.std.proofs.Common.{◌≡◌, ap, sym, subst}
use Rattle.chorus_ui.specs.declared.layout.Layout.{Layout}
use Rattle.chorus_explore.specs.Ends.{EndsAsExplore}
use Rattle.chorus_report.specs.declared.finished.Finished.{Finished}
use Rattle.chorus_program.specs.Running.{replay_layout}
use Rattle.chorus_program.proofs.Doing.{causes-explored}
use Rattle.chorus_program.proofs.one_thread.start_explore.Goals as goal

pub returns-clause-causes : goal.returns-clause-causes
returns-clause-causes g c =
    let is : c.unwrap-layout.result ≡ replay_layout = cc in
    causes-explored c.args.most c.args.first c.closed_nothing.result g.S.Source.left g.S.Source.faults g.S.Source.reliable c.args.source.now c.explore.new.source g.K.Sink.held g.K.Sink.faults c.args.sink.now c.explore.new.sink
    (record {
      closed = ap (λ (x : Finished). x.closed) c.closed_nothing.ensures;
      explores =
          subst (λ (l : Layout). EndsAsExplore l c.args.most c.args.first c.closed_nothing.result.status g.S.Source.left g.S.Source.faults g.S.Source.reliable c.args.source.now c.explore.new.source g.K.Sink.held g.K.Sink.faults c.args.sink.now c.explore.new.sink) is
          (subst (λ (x : Finished). EndsAsExplore c.unwrap-layout.result c.args.most c.args.first x.status g.S.Source.left g.S.Source.faults g.S.Source.reliable c.args.source.now c.explore.new.source g.K.Sink.held g.K.Sink.faults c.args.sink.now c.explore.new.sink) (sym c.closed_nothing.ensures) c.explore.ensures);
    })
