use Rattle.std.proofs.Common.{sym, subst}
use Rattle.chorus_turn.specs.Passes.{handed, known}
use Rattle.chorus_nucleus.specs.Pumping.{PumpDone}
use Rattle.chorus_nucleus.proofs.Called.{place-is}
use Rattle.chorus_nucleus.proofs.Joined.{same-held}
use Rattle.chorus_nucleus.proofs.Publishing.{may-read}
use Rattle.chorus_nucleus.proofs.Pumping.{pump-done}
use Rattle.chorus_nucleus.proofs.nucleus.Nucleus.pump_with.Goals as goal

pub with-done-requires-clause-job : goal.with-done-requires-clause-job
with-done-requires-clause-job g c = λ m at. (
  c.requires.caller.seat,
  may-read c.args.self.now.layout (handed c.args.self.now.turns) c.requires.sites c.args.place (place-is c.args.self.now.layout c.args.place c.requires.place) c.args.reader c.requires.reader m at,
)

pub returns-clause-done : goal.returns-clause-done
returns-clause-done g c =
    let n = c.args.self.now in
    let job = c.with-done.new.job in
    let busy = c.with-done.ensures.busy in
    subst (λ r. PumpDone n c.args.place c.args.reader job.reader r (known c.args.turner.now) c.args.caller (known c.with-done.new.pass) job.serves.caller) (sym c.answer_pump.ensures)
    (pump-done n c.requires.sites c.args.place (place-is n.layout c.args.place c.requires.place) job.serves.took job.serves.before c.args.reader job.reader job.published (known c.args.turner.now) (known c.with-done.new.pass) c.args.caller
    job.serves.caller c.requires.caller c.requires.reader c.with-done.result c.with-done.ensures.ok (same-held _ (λ j. j.serves.caller) _ _ c.with-done.result busy) (same-held _ (λ j. j.reader) _ _ c.with-done.result busy))
