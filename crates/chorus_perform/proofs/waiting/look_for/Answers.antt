use Rattle.std.proofs.Common.{Ok, Err, sym, subst}
use Rattle.law_machine.specs.declared.reply.Reply.{Reply}
use Rattle.chorus_nucleus.specs.Ready.{IsReadyTake}
use Rattle.chorus_perform.specs.Halting.{Halts}
use Rattle.chorus_perform.proofs.Steps.{goes-looked}
use Rattle.chorus_perform.proofs.Readies.{goes-taken, goes-in-vain, ready-unworn, ready-halted}
use Rattle.chorus_perform.proofs.waiting.look_for.Goals as goal

pub returns-in-Ok-Some-clause-came : goal.returns-in-Ok-Some-clause-came
returns-in-Ok-Some-clause-came c = λ is.
    goes-taken c.args.nucleus.now c.args.port c.args.pass.now c.take_ready.new.pass _ (subst (λ o. IsReadyTake c.args.nucleus.now c.args.port (Ok o) c.args.pass.now c.take_ready.new.pass) c.in-Ok-Some.field-0-is c.in-Ok-Some.ensures)

pub returns-in-Ok-Some-clause-unworn : goal.returns-in-Ok-Some-clause-unworn
returns-in-Ok-Some-clause-unworn c = ready-unworn c.args.nucleus.now c.args.port c.args.pass.now c.take_ready.new.pass (Ok _) c.in-Ok-Some.ensures (λ h. h)

pub returns-in-Ok-None-clause-missed : goal.returns-in-Ok-None-clause-missed
returns-in-Ok-None-clause-missed c = λ other.
    goes-looked c.args.nucleus.now c.args.port c.args.pass.now c.take_ready.new.pass (subst (λ o. IsReadyTake c.args.nucleus.now c.args.port (Ok o) c.args.pass.now c.take_ready.new.pass) c.in-Ok-None.field-0-is c.in-Ok-None.ensures)

pub returns-in-Err-Busy-clause-missed : goal.returns-in-Err-Busy-clause-missed
returns-in-Err-Busy-clause-missed c = λ other. goes-in-vain c.args.nucleus.now c.args.port c.args.pass.now c.take_ready.new.pass _ c.in-Err-Busy.ensures

pub returns-in-Err-Memory-clause-missed : goal.returns-in-Err-Memory-clause-missed
returns-in-Err-Memory-clause-missed c = λ other. goes-in-vain c.args.nucleus.now c.args.port c.args.pass.now c.take_ready.new.pass _ c.in-Err-Memory.ensures

pub returns-in-Err-Memory-clause-halted : goal.returns-in-Err-Memory-clause-halted
returns-in-Err-Memory-clause-halted c =
    ready-halted c.args.nucleus.now c.args.port c.args.pass.now c.take_ready.new.pass _ c.in-Err-Memory.ensures (subst (λ f. Halts {T = Reply} (Err f)) (sym c.in-Err-Memory.field-0-is) tt)

pub returns-clause-missed : goal.returns-clause-missed
returns-clause-missed c = λ other. goes-in-vain c.args.nucleus.now c.args.port c.args.pass.now c.take_ready.new.pass _ c.in-Err-Worn.ensures

pub returns-clause-halted : goal.returns-clause-halted
returns-clause-halted c =
    ready-halted c.args.nucleus.now c.args.port c.args.pass.now c.take_ready.new.pass _ c.in-Err-Worn.ensures (subst (λ f. Halts {T = Reply} (Err f)) (sym c.in-Err-Worn.field-0-is) tt)
