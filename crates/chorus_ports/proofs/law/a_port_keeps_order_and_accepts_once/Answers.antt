use Rattle.chorus_ports.specs.History.{history}
use Rattle.chorus_ports.proofs.Histories.{history_holds, next_position}
use Rattle.chorus_ports.proofs.law.a_port_keeps_order_and_accepts_once.Goals as goal

pub returns-clause-front : goal.returns-clause-front
returns-clause-front c = λ ui actor capacity events. ((history ui actor capacity events).port.pending, (history_holds ui actor capacity events).waiting)

pub returns-clause-waiting : goal.returns-clause-waiting
returns-clause-waiting c = λ ui actor capacity events. (history_holds ui actor capacity events).waiting

pub returns-clause-counted : goal.returns-clause-counted
returns-clause-counted c = λ ui actor capacity events. (history_holds ui actor capacity events).counted

pub returns-clause-once : goal.returns-clause-once
returns-clause-once c = λ ui actor capacity events client number. (history_holds ui actor capacity events).once client number

pub returns-clause-positions : goal.returns-clause-positions
returns-clause-positions c = λ ui actor capacity events message pos e. next_position (history ui actor capacity events) message pos (history_holds ui actor capacity events) e
