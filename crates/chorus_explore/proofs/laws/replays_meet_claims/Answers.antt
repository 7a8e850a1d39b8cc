use Rattle.chorus_explore.proofs.Deciding.{replays-meet-claims}
use Rattle.chorus_explore.proofs.laws.replays_meet_claims.Goals as goal

pub returns : goal.returns
returns c = replays-meet-claims
