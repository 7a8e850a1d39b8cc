use Rattle.std.proofs.Common.{sym, ◌∙◌, ap}
use Rattle.chorus_transport.specs.Sending.{after_ack}
use Rattle.chorus_lossy.proofs.Running.{ack_lost, ack_heard}
use Rattle.chorus_lossy.proofs.rounds.acknowledge.Goals as goal

pub returns-then-is_lost-clause-ok : goal.returns-then-is_lost-clause-ok
returns-then-is_lost-clause-ok c = λ m e.
    ack_lost c.args.round c.draw-fate.result m c.args.run.now c.draw-fate.new.run c.args.sender.now c.args.receiver.now e
    c.draw-fate.ensures.state c.draw-fate.ensures.fate (sym c.is_lost.ensures ∙ c.if-is_lost.true)

pub returns-else-is_lost-clause-ok : goal.returns-else-is_lost-clause-ok
returns-else-is_lost-clause-ok c = λ m e.
    ack_heard c.args.round c.draw-fate.result m c.args.run.now c.draw-fate.new.run c.args.sender.now c.acked.new.self c.args.receiver.now e
    c.draw-fate.ensures.state c.draw-fate.ensures.fate (sym c.is_lost.ensures ∙ c.if-is_lost.false)
    (c.acked.ensures.after ∙ ap (after_ack c.args.sender.now) c.ack.ensures.value)
