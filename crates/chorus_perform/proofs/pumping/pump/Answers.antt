use Rattle.chorus_serve.specs.declared.served.Pump.{Pump}
use Rattle.chorus_perform.specs.Halting.{Halts}
use Rattle.std.proofs.Common.{Ok, Err, sym, subst}
use Rattle.chorus_perform.proofs.Steps.{goes-serve}
use Rattle.chorus_perform.proofs.pumping.pump.Goals as goal

pub returns-in-Ok-Served-clause-goes : goal.returns-in-Ok-Served-clause-goes
returns-in-Ok-Served-clause-goes g c = goes-serve c.args.nucleus.now c.args.place c.args.pass.now c.serve.new.pass c.serve.result c.serve.ensures

pub returns-in-Ok-Idle-clause-goes : goal.returns-in-Ok-Idle-clause-goes
returns-in-Ok-Idle-clause-goes g c = goes-serve c.args.nucleus.now c.args.place c.args.pass.now c.serve.new.pass c.serve.result c.serve.ensures

pub returns-in-Err-Busy-clause-goes : goal.returns-in-Err-Busy-clause-goes
returns-in-Err-Busy-clause-goes g c = goes-serve c.args.nucleus.now c.args.place c.args.pass.now c.serve.new.pass c.serve.result c.serve.ensures

pub returns-in-Err-Memory-clause-goes : goal.returns-in-Err-Memory-clause-goes
returns-in-Err-Memory-clause-goes g c = goes-serve c.args.nucleus.now c.args.place c.args.pass.now c.serve.new.pass c.serve.result c.serve.ensures

pub returns-in-Err-Worn-clause-goes : goal.returns-in-Err-Worn-clause-goes
returns-in-Err-Worn-clause-goes g c = goes-serve c.args.nucleus.now c.args.place c.args.pass.now c.serve.new.pass c.serve.result c.serve.ensures

pub returns-in-Ok-Served-clause-told : goal.returns-in-Ok-Served-clause-told
returns-in-Ok-Served-clause-told g c = (Ok _, (c.in-Ok-Served.ensures, λ h. h))

pub returns-in-Ok-Idle-clause-told : goal.returns-in-Ok-Idle-clause-told
returns-in-Ok-Idle-clause-told g c = (Ok _, (c.in-Ok-Idle.ensures, λ h. h))

pub returns-in-Err-Busy-clause-told : goal.returns-in-Err-Busy-clause-told
returns-in-Err-Busy-clause-told g c = (Err _, (c.in-Err-Busy.ensures, λ h. subst (λ f. Halts {T = Pump} (Err f)) c.in-Err-Busy.field-0-is h))

pub returns-in-Err-Memory-clause-told : goal.returns-in-Err-Memory-clause-told
returns-in-Err-Memory-clause-told g c = (Err _, (c.in-Err-Memory.ensures, subst (λ f. Halts {T = Pump} (Err f)) (sym c.in-Err-Memory.field-0-is) tt))

pub returns-in-Err-Worn-clause-told : goal.returns-in-Err-Worn-clause-told
returns-in-Err-Worn-clause-told g c = (Err _, (c.in-Err-Worn.ensures, subst (λ f. Halts {T = Pump} (Err f)) (sym c.in-Err-Worn.field-0-is) tt))
