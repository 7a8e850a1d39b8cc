use Rattle.std.proofs.Common.{Ok, Err, [], sym, ◌∙◌, subst, refl}
use Rattle.chorus_ui.specs.Layout.{IsLayout}
use Rattle.chorus_net.specs.Closing.{HasMark}
use Rattle.chorus_net.specs.Sites.{net}
use Rattle.chorus_report.specs.Ending.{EndsWriting}
use Rattle.chorus_report.specs.Output.{text_with}
use Rattle.chorus_report.specs.Reading.{IsGiven}
use Rattle.chorus_report.proofs.Ends.{gave-up-writes, none-closed, reads-as, reads-at}
use Rattle.chorus_replay.specs.Ordered.{Replays}
use Rattle.chorus_replay.proofs.Ending.{played-worn, replays-so, still-marked}
use Rattle.chorus_replay.proofs.replaying.replay.Goals as goal

pub returns-in-Err-clause-ends : goal.returns-in-Err-clause-ends
returns-in-Err-clause-ends g c = record {
  stuck = [];
  reads = reads-as c.layout.result (net c.args.sites).layout c.in-Err.status c.gave_up.result _ _ _ _ _ c.layout.ensures.value c.gave_up.ensures c.in-Err.ensures.ends;
  writes = gave-up-writes _ c.in-Err.status c.gave_up.result _ _ _ _ c.in-Err.ensures.gives_up c.gave_up.ensures refl;
  replays = none-closed c.in-Err.status c.gave_up.result (λ s. Replays (net c.args.sites).layout (g.S.Source.left c.args.source.now) [] s) c.gave_up.ensures;
}

pub finish-requires : goal.finish-requires
finish-requires g c =
    let scene = c.in-Ok.scenario in
    let ok = c.in-Ok.ensures.ok in
    let shape = subst IsLayout (sym (ok.0 ∙ c.layout.ensures.value)) c.layout.ensures.shape in
    played-worn scene shape ok.1 (Ok c.in-Ok-play.played) (λ p. c.in-Ok-play.stuck.items) c.in-Ok-play.ensures.played

pub returns-in-Ok-play-clause-ends : goal.returns-in-Ok-play-clause-ends
returns-in-Ok-play-clause-ends g c =
    let scene = c.in-Ok.scenario in
    let ok = c.in-Ok.ensures.ok in
    let value = c.layout.ensures.value in
    let shape = subst IsLayout (sym (ok.0 ∙ value)) c.layout.ensures.shape in
    let told = g.S.Source.left c.args.source.now in
    let stuck = c.in-Ok-play.stuck.items in
    record {
      stuck = stuck;
      reads = reads-at c.layout.result (net c.args.sites).layout c.finish.result.status _ _ _ _ _ value (c.in-Ok.ensures.reads c.finish.result.status c.finish.ensures.status);
      writes = subst (λ zs. EndsWriting (text_with zs c.finish.result.closed) c.finish.result g.K.Sink.held g.K.Sink.faults c.args.sink.now c.finish.new.sink) c.deref.ensures.value c.finish.ensures.writes;
      replays = replays-so scene shape ok.1 (net c.args.sites).layout told (Ok c.in-Ok-play.played) stuck c.finish.result.status c.finish.result.closed (ok.0 ∙ value)
          (subst (λ l. IsGiven l told (Ok scene)) value c.in-Ok.ensures.given) c.in-Ok-play.ensures.played c.finish.ensures.finished (c.finish.ensures.within refl);
    }

pub returns-clause-ends : goal.returns-clause-ends
returns-clause-ends g c =
    let scene = c.in-Ok.scenario in
    let ok = c.in-Ok.ensures.ok in
    let value = c.layout.ensures.value in
    let shape = subst IsLayout (sym (ok.0 ∙ value)) c.layout.ensures.shape in
    let told = g.S.Source.left c.args.source.now in
    let end = c.finish-in-Err-play in
    record {
      stuck = [];
      reads = reads-at c.layout.result (net c.args.sites).layout end.result.status _ _ _ _ _ value (c.in-Ok.ensures.reads end.result.status end.ensures.status);
      writes = end.ensures.writes;
      replays = replays-so scene shape ok.1 (net c.args.sites).layout told (Err c.in-Err-play.error) [] end.result.status end.result.closed (ok.0 ∙ value)
          (subst (λ l. IsGiven l told (Ok scene)) value c.in-Ok.ensures.given) tt end.ensures.finished (end.ensures.within refl);
    }

pub returns-in-Err-clause-mark : goal.returns-in-Err-clause-mark
returns-in-Err-clause-mark g c = none-closed c.in-Err.status c.gave_up.result (λ s. HasMark c.args.sites.mark) c.gave_up.ensures

pub returns-in-Ok-play-clause-mark : goal.returns-in-Ok-play-clause-mark
returns-in-Ok-play-clause-mark g c =
    still-marked c.args.sites.mark (Ok c.in-Ok-play.played) c.finish.result.status c.finish.result.closed c.in-Ok-play.ensures.mark c.finish.ensures.finished

pub returns-clause-mark : goal.returns-clause-mark
returns-clause-mark g c =
    still-marked c.args.sites.mark (Err c.in-Err-play.error) c.finish-in-Err-play.result.status c.finish-in-Err-play.result.closed tt c.finish-in-Err-play.ensures.finished
