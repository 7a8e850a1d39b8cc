use Rattle.std.proofs.Common.{◌+◌, subst}
use Rattle.chorus_serve.specs.declared.served.Pump.TheVariants as pumps
use Rattle.chorus_nucleus.specs.Calls.{Serves}
use Rattle.chorus_nucleus.specs.Passes.{caller_of, known, layout_of}
use Rattle.chorus_nucleus.proofs.Idling.{count-exact, count-up-to, round-more}
use Rattle.chorus_sessions.proofs.pumping.visit.Goals as goal

pub returns-in-Ok-Idle-clause-round : goal.returns-in-Ok-Idle-clause-round
returns-in-Ok-Idle-clause-round g c is =
    let l = layout_of c.args.nucleus.now in
    let a = c.args.pass.now in
    let b = c.serve.new.pass in
    let told : Serves c.args.nucleus.now (c.args.index + 1) (pumps.Idle c.in-Ok-Idle.put c.in-Ok-Idle.worked) (known a) (caller_of a) (known b) (caller_of b) =
    subst (λ u. Serves c.args.nucleus.now (c.args.index + 1) u (known a) (caller_of a) (known b) (caller_of b)) c.in-Ok-Idle.field-0-is c.in-Ok-Idle.ensures.served in
    round-more l c.args.index told.0 (known a) (caller_of a) (known b) (caller_of b) told.1 c.args.sums.now.put c.args.sums.now.worked c.in-Ok-Idle.put c.in-Ok-Idle.worked
    c.saturating_add-sums.result c.saturating_add-sums-in-Ok-Idle.result (c.requires.so_far is) (count-exact _ _ told.2) (count-up-to _ _ told.3)
    (count-up-to c.saturating_add-sums.result (c.args.sums.now.put + c.in-Ok-Idle.put) c.saturating_add-sums.ensures)
    (count-up-to c.saturating_add-sums-in-Ok-Idle.result (c.args.sums.now.worked + c.in-Ok-Idle.worked) c.saturating_add-sums-in-Ok-Idle.ensures)
