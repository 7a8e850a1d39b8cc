use Rattle.chorus_run.proofs.Asked.{next-is}
use Rattle.chorus_run.proofs.standing.is_stuck.Goals as goal

pub returns : goal.returns
returns c =
    next-is c.args.layout c.args.ports.now c.args.script.now c.args.done c.is_await.result c.gets_nothing.result c.commands.result.now c.index-commands-done.result c.actor.result c.is_await.ensures c.if-not-is_await.false
    c.commands.ensures c.requires.left c.index-commands-done.is c.actor.ensures c.gets_nothing.ensures
