use Rattle.chorus_transport.proofs.FairLemmas.{fair_brings}
use Rattle.chorus_transport.proofs.rounds.fair_lines_bring_the_input.Goals as goal

pub returns : goal.returns
returns c = fair_brings
