use Rattle.std.proofs.Common.{◌∙◌, ap, Bor}
use Rattle.chorus_entry.specs.declared.entry.Entry.{Entry}
use Rattle.chorus_run.proofs.Ending.{has-at}
use Rattle.chorus_run.proofs.closing.has_clock.Goals as goal

pub returns-then-entries-index : goal.returns-then-entries-index
returns-then-entries-index c is =
    has-at c.args.entries.now c.loop-index.index c.index-entries-index.result c.args.clock c.loop-index-test.true c.index-entries-index.is
    (ap (λ (z : Bor Entry). z.now.clock) c.index-entries-index.is ∙ c.if-entries-index.true)
