use Rattle.chorus_world.proofs.Moments.{always-on}
use Rattle.law_network.specs.Fates.{WorldHolds}
use Rattle.law_network.proofs.Holdings.ByFate.{holds-by-fate, world-holds}
use Rattle.law_network.proofs.Holdings.EachMessage.{holdings-hold-each}
use Rattle.law_network.proofs.Promises.AllPromises.{networks-hold-each, closed-hold-each}
use Rattle.law_network.proofs.network.each_message_stands_once.Goals as goal

pub returns-clause-holdings : goal.returns-clause-holdings
returns-clause-holdings c = holdings-hold-each

pub returns-clause-network : goal.returns-clause-network
returns-clause-network c = networks-hold-each

pub returns-clause-closed : goal.returns-clause-closed
returns-clause-closed c = closed-hold-each

pub returns-clause-world : goal.returns-clause-world
returns-clause-world c = always-on WorldHolds world-holds

pub returns-clause-by_fate : goal.returns-clause-by_fate
returns-clause-by_fate c = λ l past holdings layout legal stands. holds-by-fate l past layout legal holdings stands
