use Rattle.law_network.proofs.Draining.Drained.{drains-rest, drains-end}
use Rattle.law_network.proofs.Draining.Drains.{carried-out-once}
use Rattle.law_network.proofs.Draining.Emptied.{drains-leave-nothing}
use Rattle.law_network.proofs.Draining.Ending.{tasks-carried-out}
use Rattle.law_network.proofs.Draining.Stopped.{fronts-performed}
use Rattle.law_network.proofs.network.drains_leave_nothing_to_do.Goals as goal

-- src/network.rt:32:1
pub returns-clause-events : goal.returns-clause-events
returns-clause-events c = tasks-carried-out

-- src/network.rt:32:1
pub returns-clause-once : goal.returns-clause-once
returns-clause-once c = carried-out-once

-- src/network.rt:32:1
pub returns-clause-ends : goal.returns-clause-ends
returns-clause-ends c = drains-end

-- src/network.rt:32:1
pub returns-clause-empty : goal.returns-clause-empty
returns-clause-empty c = drains-leave-nothing

-- src/network.rt:32:1
pub returns-clause-rests : goal.returns-clause-rests
returns-clause-rests c = drains-rest

-- src/network.rt:32:1
pub returns-clause-front : goal.returns-clause-front
returns-clause-front c = fronts-performed
