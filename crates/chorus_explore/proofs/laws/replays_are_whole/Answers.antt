use Rattle.chorus_explore.proofs.Returning.{replays-are-whole}
use Rattle.chorus_explore.proofs.laws.replays_are_whole.Goals as goal

pub returns : goal.returns
returns c = replays-are-whole
