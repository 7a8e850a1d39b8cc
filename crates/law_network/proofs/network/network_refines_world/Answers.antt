use Rattle.law_network.proofs.Events.EachEvent.{events-stand}
use Rattle.law_network.proofs.Events.InOrder.{in-order}
use Rattle.law_network.proofs.Promises.AllPromises.{keeps-promises}
use Rattle.law_network.proofs.network.network_refines_world.Goals as goal

-- src/network.rt:8:1
pub returns-clause-events : goal.returns-clause-events
returns-clause-events c = events-stand

-- src/network.rt:8:1
pub returns-clause-stands : goal.returns-clause-stands
returns-clause-stands c = in-order

-- src/network.rt:8:1
pub returns-clause-promises : goal.returns-clause-promises
returns-clause-promises c = keeps-promises
