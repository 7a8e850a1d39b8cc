use Rattle.law_explore.proofs.Showing.{moves-are-replayed}
use Rattle.law_explore.proofs.laws.moves_are_replayed.Goals as goal

pub returns : goal.returns
returns c = λ l ts base es r ms carried net none all. moves-are-replayed l ts base es r ms carried net none all
