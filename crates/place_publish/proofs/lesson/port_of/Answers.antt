use Rattle.std.proofs.Common.{◌≡◌, ◌+◌, slice_get, Some, sym, ◌∙◌, ap, arith}
use Rattle.place_publish.specs.Lessons.{port_in}
use Rattle.place_publish.proofs.Growing.{slice-at}
use Rattle.place_publish.proofs.Senders.{sent-next, port-none, sent-further}
use Rattle.place_publish.proofs.lesson.port_of.Goals as goal

pub returns-in-Some-sent_in : goal.returns-in-Some-sent_in
returns-in-Some-sent_in c =
    let at : slice_get c.args.journal.now c.loop-index.index ≡ Some c.in-Some.entry.now = slice-at c.args.journal.now c.loop-index.index c.in-Some.entry.now (let lt = c.loop-index-test.true in let le = c.requires in omega (arith, lt, le)) c.in-Some.ensures.lookup.1 in
    let lt = c.loop-index-test.true in
    sym (sent-further c.args.journal.now (c.loop-index.index + 1) c.args.upto c.args.id c.in-Some-sent_in.port (omega (arith, lt)) c.requires
    (ap port_in (sent-next c.args.journal.now c.loop-index.index c.in-Some.entry.now c.args.id at c.loop-index.invariant.1) ∙ sym c.sent_in.ensures ∙ c.in-Some-sent_in.is))

pub loop-index-preserved : goal.loop-index-preserved
loop-index-preserved c =
    let at : slice_get c.args.journal.now c.loop-index.index ≡ Some c.in-Some.entry.now = slice-at c.args.journal.now c.loop-index.index c.in-Some.entry.now (let lt = c.loop-index-test.true in let le = c.requires in omega (arith, lt, le)) c.in-Some.ensures.lookup.1 in
    let lt = c.loop-index-test.true in
    (omega (arith, lt), sent-next c.args.journal.now c.loop-index.index c.in-Some.entry.now c.args.id at c.loop-index.invariant.1 ∙ port-none _ (sym c.sent_in.ensures ∙ c.in_default-sent_in.is))
