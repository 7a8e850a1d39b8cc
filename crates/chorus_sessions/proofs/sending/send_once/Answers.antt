use Rattle.std.proofs.Common.{sym, subst}
use Rattle.chorus_sessions.specs.declared.sending.Told.{Told}
use Rattle.chorus_sessions.specs.Sending.{Sends}
use Rattle.chorus_sessions.proofs.Delivering.{posts-later, sends-told}
use Rattle.chorus_sessions.proofs.Steps.{goes-send, goes-then}
use Rattle.chorus_sessions.proofs.sending.send_once.Goals as goal

pub returns-in-Ok-Posted-clause-goes : goal.returns-in-Ok-Posted-clause-goes
returns-in-Ok-Posted-clause-goes g c =
    let n = c.args.nucleus.now in
    let first = c.args.pass.now in
    goes-then n first c.send.new.pass c.verdict.new.pass (goes-send n _ _ first c.send.new.pass _ c.in-Ok-Posted.ensures) c.verdict.ensures.goes

pub returns-in-Ok-Posted-clause-told : goal.returns-in-Ok-Posted-clause-told
returns-in-Ok-Posted-clause-told g c =
    let n = c.args.nucleus.now in
    let call = rw c.in-Ok-Posted.field-0-is at c.in-Ok-Posted.ensures in
    subst (λ (z : Told). Sends n c.args.port c.args.body.now z c.args.pass.now c.verdict.new.pass) (sym c.meaning_later.ensures)
    (sends-told n c.args.port c.args.body.now c.in-Ok-Posted.id c.verdict.result c.args.pass.now c.verdict.new.pass
    (posts-later n c.args.port c.args.body.now c.in-Ok-Posted.id c.verdict.result c.args.pass.now c.send.new.pass c.verdict.new.pass call c.verdict.ensures.told))
