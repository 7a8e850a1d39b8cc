use Rattle.std.proofs.Common.{sym, ◌∙◌}
use Rattle.chorus_entry.specs.Ranges.{has_range_of_client}
use Rattle.place_ranges.proofs.Passing.{all-fails, all-passes}
use Rattle.place_ranges.proofs.ranges.are_numbered.Goals as goal

pub returns-then-not-has_range_of_client : goal.returns-then-not-has_range_of_client
returns-then-not-has_range_of_client c =
    sym (c.loop-at.invariant
    ∙ all-fails has_range_of_client c.args.clients.now c.loop-at.at c.in-Some.entry (sym c.get.ensures ∙ c.in-Some.is)
    (sym c.has_range_of_client.ensures ∙ c.if-not-has_range_of_client.true))

pub loop-at-preserved : goal.loop-at-preserved
loop-at-preserved c =
    c.loop-at.invariant
    ∙ all-passes has_range_of_client c.args.clients.now c.loop-at.at c.in-Some.entry (sym c.get.ensures ∙ c.in-Some.is)
    (sym c.has_range_of_client.ensures ∙ c.if-not-has_range_of_client.false)
