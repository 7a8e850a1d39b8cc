use Rattle.chorus_transport.proofs.RoundLemmas.{round_brings_all}
use Rattle.chorus_transport.proofs.rounds.one_round_brings_all.Goals as goal

pub returns : goal.returns
returns c = round_brings_all
