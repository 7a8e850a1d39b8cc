use Rattle.std.proofs.Common.{sym, subst}
use Rattle.chorus_turn.specs.Passes.{handed, known}
use Rattle.chorus_nucleus.specs.Reading.{PublishDone}
use Rattle.chorus_nucleus.proofs.Called.{place-is}
use Rattle.chorus_nucleus.proofs.Joined.{same-held}
use Rattle.chorus_nucleus.proofs.Publishing.{may-read, still-reads, publish-done}
use Rattle.chorus_nucleus.proofs.nucleus.Nucleus.publish_with.Goals as goal

pub with-done-requires-clause-job : goal.with-done-requires-clause-job
with-done-requires-clause-job g c =
    may-read c.args.self.now.layout (handed c.args.self.now.turns) c.requires.sites c.args.place (place-is c.args.self.now.layout c.args.place c.requires.place) c.args.reader c.requires.reader

pub returns-clause-reader : goal.returns-clause-reader
returns-clause-reader g c =
    still-reads c.args.self.now.layout (handed c.args.self.now.turns) c.args.place c.args.reader c.with-done.new.job.reader c.with-done.new.job.clock (known c.args.turner.now) (known c.with-done.new.pass) c.with-done.result
    c.with-done.ensures.ok (same-held _ (λ j. j.reader) _ _ c.with-done.result c.with-done.ensures.busy) c.requires.reader

pub returns-clause-done : goal.returns-clause-done
returns-clause-done g c = λ h.
    subst (λ r. PublishDone c.args.self.now.layout (handed c.args.self.now.turns) c.args.place c.args.reader c.with-done.new.job.reader r (known c.args.turner.now) (known c.with-done.new.pass) c.args.caller.now c.see.new.self) (sym c.answer_publish.ensures)
    (publish-done c.args.self.now.layout (handed c.args.self.now.turns) c.requires.sites c.args.place (place-is c.args.self.now.layout c.args.place c.requires.place) c.args.reader c.with-done.new.job.reader
    c.with-done.new.job.clock (known c.args.turner.now) (known c.with-done.new.pass) c.args.caller.now c.see.new.self c.see.ensures h c.with-done.result c.with-done.ensures.ok
    (same-held _ (λ j. j.reader) _ _ c.with-done.result c.with-done.ensures.busy) (same-held _ (λ j. j.clock) _ _ c.with-done.result c.with-done.ensures.busy))
