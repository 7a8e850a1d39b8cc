use Rattle.chorus_replay.proofs.Static.{replays-without-waits}
use Rattle.chorus_replay.proofs.laws.without_awaits_the_scenario_tells_the_order.Goals as goal

pub returns : goal.returns
returns c = replays-without-waits
