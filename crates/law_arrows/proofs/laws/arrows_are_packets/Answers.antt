use Rattle.law_arrows.proofs.Merges.{arrows_of_merges}
use Rattle.law_arrows.proofs.Schedules.{arrows_are_packets}
use Rattle.law_arrows.proofs.laws.arrows_are_packets.Goals as goal

pub returns-clause-history : goal.returns-clause-history
returns-clause-history c = arrows_are_packets

pub returns-clause-merge : goal.returns-clause-merge
returns-clause-merge c = arrows_of_merges
