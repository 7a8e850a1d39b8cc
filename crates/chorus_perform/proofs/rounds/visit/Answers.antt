use Rattle.chorus_serve.specs.declared.served.Pump.{Pump}
use Rattle.chorus_perform.specs.Halting.{Halts}
use Rattle.std.proofs.Common.{◌+◌, subst, Ok, Err, sym}
use Rattle.std.proofs.lemmas.Bool.{false≢true}
use Rattle.chorus_serve.specs.declared.served.Pump.TheVariants as pumps
use Rattle.chorus_nucleus.specs.Calls.{Serves}
use Rattle.chorus_nucleus.specs.Passes.{caller_of, known, layout_of}
use Rattle.chorus_nucleus.proofs.Idling.{count-exact, count-up-to, round-more}
use Rattle.chorus_perform.proofs.Steps.{goes-serve}
use Rattle.chorus_perform.proofs.rounds.visit.Goals as goal

pub returns-in-Ok-Idle-clause-round : goal.returns-in-Ok-Idle-clause-round
returns-in-Ok-Idle-clause-round g c is =
    let l = layout_of c.args.nucleus.now in
    let a = c.args.pass.now in
    let b = c.serve.new.pass in
    let told : Serves c.args.nucleus.now (c.args.index + 1) (pumps.Idle c.in-Ok-Idle.put c.in-Ok-Idle.worked) (known a) (caller_of a) (known b) (caller_of b) =
    subst (λ u. Serves c.args.nucleus.now (c.args.index + 1) u (known a) (caller_of a) (known b) (caller_of b)) c.in-Ok-Idle.field-0-is c.in-Ok-Idle.ensures.served in
    round-more l c.args.index told.0 (known a) (caller_of a) (known b) (caller_of b) told.1 c.args.sums.now.put c.args.sums.now.worked c.in-Ok-Idle.put c.in-Ok-Idle.worked
    c.saturating_add-sums.result c.saturating_add-sums-in-Ok-Idle.result (c.requires.so_far is) (count-exact _ _ told.2) (count-up-to _ _ told.3)
    (count-up-to c.saturating_add-sums.result (c.args.sums.now.put + c.in-Ok-Idle.put) c.saturating_add-sums.ensures)
    (count-up-to c.saturating_add-sums-in-Ok-Idle.result (c.args.sums.now.worked + c.in-Ok-Idle.worked) c.saturating_add-sums-in-Ok-Idle.ensures)

pub returns-in-Ok-Served-clause-goes : goal.returns-in-Ok-Served-clause-goes
returns-in-Ok-Served-clause-goes g c = goes-serve c.args.nucleus.now (c.args.index + 1) c.args.pass.now c.serve.new.pass c.serve.result c.serve.ensures

pub returns-in-Ok-Idle-clause-goes : goal.returns-in-Ok-Idle-clause-goes
returns-in-Ok-Idle-clause-goes g c = goes-serve c.args.nucleus.now (c.args.index + 1) c.args.pass.now c.serve.new.pass c.serve.result c.serve.ensures

pub returns-in-Err-Busy-clause-goes : goal.returns-in-Err-Busy-clause-goes
returns-in-Err-Busy-clause-goes g c = goes-serve c.args.nucleus.now (c.args.index + 1) c.args.pass.now c.serve.new.pass c.serve.result c.serve.ensures

pub returns-in-Err-Memory-clause-goes : goal.returns-in-Err-Memory-clause-goes
returns-in-Err-Memory-clause-goes g c = goes-serve c.args.nucleus.now (c.args.index + 1) c.args.pass.now c.serve.new.pass c.serve.result c.serve.ensures

pub returns-in-Err-Memory-clause-round : goal.returns-in-Err-Memory-clause-round
returns-in-Err-Memory-clause-round g c = λ e. absurd (false≢true e)

pub returns-in-Err-Worn-clause-goes : goal.returns-in-Err-Worn-clause-goes
returns-in-Err-Worn-clause-goes g c = goes-serve c.args.nucleus.now (c.args.index + 1) c.args.pass.now c.serve.new.pass c.serve.result c.serve.ensures

pub returns-in-Err-Worn-clause-round : goal.returns-in-Err-Worn-clause-round
returns-in-Err-Worn-clause-round g c = λ e. absurd (false≢true e)

pub returns-in-Ok-Served-clause-told : goal.returns-in-Ok-Served-clause-told
returns-in-Ok-Served-clause-told g c = (Ok _, (c.in-Ok-Served.ensures, λ h. h))

pub returns-in-Ok-Idle-clause-told : goal.returns-in-Ok-Idle-clause-told
returns-in-Ok-Idle-clause-told g c = (Ok _, (c.in-Ok-Idle.ensures, λ h. h))

pub returns-in-Err-Busy-clause-told : goal.returns-in-Err-Busy-clause-told
returns-in-Err-Busy-clause-told g c = (Err _, (c.in-Err-Busy.ensures, λ h. subst (λ f. Halts {T = Pump} (Err f)) c.in-Err-Busy.field-0-is h))

pub returns-in-Err-Memory-clause-told : goal.returns-in-Err-Memory-clause-told
returns-in-Err-Memory-clause-told g c = (Err _, (c.in-Err-Memory.ensures, subst (λ f. Halts {T = Pump} (Err f)) (sym c.in-Err-Memory.field-0-is) tt))

pub returns-in-Err-Worn-clause-told : goal.returns-in-Err-Worn-clause-told
returns-in-Err-Worn-clause-told g c = (Err _, (c.in-Err-Worn.ensures, subst (λ f. Halts {T = Pump} (Err f)) (sym c.in-Err-Worn.field-0-is) tt))
