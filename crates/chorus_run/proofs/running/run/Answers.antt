use Rattle.std.proofs.Common.{Ok, Err, [], ◌∙◌, subst, refl}
use Rattle.chorus_nucleus.specs.Passes.{layout_of}
use Rattle.chorus_report.specs.Ending.{EndsWriting}
use Rattle.chorus_report.specs.Output.{text_with}
use Rattle.chorus_report.specs.Reading.{IsGiven}
use Rattle.chorus_report.proofs.Ends.{gave-up-writes, none-closed, reads-as, reads-at}
use Rattle.chorus_run.specs.Ends.{RunsTo}
use Rattle.chorus_run.specs.Threads.{HasAllPerformed, HasWornOf, IsOfNucleus}
use Rattle.chorus_run.proofs.Ending.{has-worn, origin-so, performs-so, worn-so, runs-so}
use Rattle.chorus_run.proofs.running.run.Goals as goal

pub returns-in-Err : goal.returns-in-Err
returns-in-Err g c = record {
  stuck = [];
  reads = reads-as c.layout.result (layout_of c.args.nucleus) c.in-Err.status c.gave_up.result _ _ _ _ _ c.layout.ensures c.gave_up.ensures c.in-Err.ensures.ends;
  writes = gave-up-writes _ c.in-Err.status c.gave_up.result _ _ _ _ c.in-Err.ensures.gives_up c.gave_up.ensures refl;
  runs = none-closed c.in-Err.status c.gave_up.result (λ s. RunsTo (layout_of c.args.nucleus) (g.S.Source.left c.args.source.now) [] s) c.gave_up.ensures;
  performs = none-closed c.in-Err.status c.gave_up.result (λ s. HasAllPerformed c.args.nucleus (g.S.Source.left c.args.source.now) s) c.gave_up.ensures;
  origin = none-closed c.in-Err.status c.gave_up.result (λ s. IsOfNucleus c.args.nucleus) c.gave_up.ensures;
  worn = none-closed c.in-Err.status c.gave_up.result HasWornOf c.gave_up.ensures;
}

pub finish-requires : goal.finish-requires
finish-requires g c = (c.type_bounds.sync-R, has-worn c.args.nucleus c.in-Ok.scenario c.in-Ok-play.stuck.items (Ok c.in-Ok-play.played) c.in-Ok-play.ensures)

pub returns-in-Ok-play : goal.returns-in-Ok-play
returns-in-Ok-play g c =
    let told = g.S.Source.left c.args.source.now in
    let given = subst (λ l. IsGiven l told (Ok c.in-Ok.scenario)) c.layout.ensures c.in-Ok.ensures.given in
    let n = c.args.nucleus in
    let scene = c.in-Ok.scenario in
    let stuck = c.in-Ok-play.stuck.items in
    let played = Ok c.in-Ok-play.played in
    let so = c.in-Ok-play.ensures in
    let status = c.finish.result.status in
    let closed = c.finish.result.closed in
    let finished = c.finish.ensures.finished in
    record {
      stuck = stuck;
      reads = reads-at c.layout.result (layout_of n) status _ _ _ _ _ c.layout.ensures (c.in-Ok.ensures.reads status c.finish.ensures.status);
      writes = subst (λ zs. EndsWriting (text_with zs closed) c.finish.result g.K.Sink.held g.K.Sink.faults c.args.sink.now c.finish.new.sink) c.deref.ensures.value c.finish.ensures.writes;
      runs = runs-so n scene stuck played status so (layout_of n) told closed (c.in-Ok.ensures.ok.0 ∙ c.layout.ensures) given finished c.finish.ensures.within;
      performs = performs-so n scene stuck played status so told closed given finished;
      origin = origin-so n scene stuck played status so closed finished;
      worn = worn-so n scene stuck played status so closed finished;
    }

pub returns : goal.returns
returns g c =
    let told = g.S.Source.left c.args.source.now in
    let given = subst (λ l. IsGiven l told (Ok c.in-Ok.scenario)) c.layout.ensures c.in-Ok.ensures.given in
    let n = c.args.nucleus in
    let scene = c.in-Ok.scenario in
    let played = Err c.in-Err-play.error in
    let end = c.finish-in-Err-play in
    let status = end.result.status in
    let closed = end.result.closed in
    let finished = end.ensures.finished in
    record {
      stuck = [];
      reads = reads-at c.layout.result (layout_of n) status _ _ _ _ _ c.layout.ensures (c.in-Ok.ensures.reads status end.ensures.status);
      writes = end.ensures.writes;
      runs = runs-so n scene [] played status tt (layout_of n) told closed (c.in-Ok.ensures.ok.0 ∙ c.layout.ensures) given finished end.ensures.within;
      performs = performs-so n scene [] played status tt told closed given finished;
      origin = origin-so n scene [] played status tt closed finished;
      worn = worn-so n scene [] played status tt closed finished;
    }
