use Rattle.chorus_replay.specs.Load.{load_layout, load_order}
use Rattle.chorus_replay.proofs.Ending.{has-worn, loads-so, still-marked}
use Rattle.chorus_replay.proofs.LoadTasks.{load-can}
use Rattle.chorus_replay.proofs.loading.load.Goals as goal

pub finish-requires : goal.finish-requires
finish-requires g c =
    let first = c.args.first in
    let commands = c.args.commands in
    has-worn load_layout (load_order first commands) (load-can first commands c.requires.commands) c.play-played.result c.play-played.ensures.played

pub returns-clause-ends : goal.returns-clause-ends
returns-clause-ends g c =
    let first = c.args.first in
    let commands = c.args.commands in
    record {
      status = c.finish.ensures.status;
      writes = c.finish.ensures.writes;
      loads = loads-so first commands (load-can first commands c.requires.commands) c.play-played.result c.finish.result.status c.finish.result.closed c.play-played.ensures.played c.finish.ensures.finished;
    }

pub returns-clause-mark : goal.returns-clause-mark
returns-clause-mark g c =
    still-marked c.args.sites.mark c.play-played.result c.finish.result.status c.finish.result.closed c.play-played.ensures.mark c.finish.ensures.finished
