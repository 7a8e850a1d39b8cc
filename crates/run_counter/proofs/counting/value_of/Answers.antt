use Rattle.std.proofs.Common.{◌∙◌, ap, count_by}
use Rattle.chorus_entry.specs.declared.entry.Entry.{Entry}
use Rattle.chorus_merge.specs.Merge.{merged}
use Rattle.chorus_merge.specs.Steps.{journals_of}
use Rattle.chorus_net.specs.Closing.{merge_of}
use Rattle.run_counter.specs.Counting.{counts}
use Rattle.run_counter.proofs.Counts.{value-is}
use Rattle.run_counter.proofs.counting.value_of.Goals as goal

pub returns : goal.returns
returns c =
    let entries = c.deref-2.ensures.value ∙ (c.in_ok-entries.ensures ∙ ap (λ js. merged (journals_of js)) c.deref.ensures.value) in
    c.count.ensures ∙ (ap (λ es. count_by (λ (e : Entry). counts c.args.counter e.act) es) entries ∙ value-is c.args.counter (merge_of c.args.closed.now))
