use Rattle.std.proofs.Common.{ap, sym, ◌∙◌}
use Rattle.std.specs.Option.{option_copied}
use Rattle.chorus_entry.specs.Ranges.{has_ranges_of_message}
use Rattle.place_ranges.proofs.Passing.{all-fails, all-passes}
use Rattle.place_ranges.proofs.ranges.have_ranges.Goals as goal

pub returns-then-not-has_ranges_of_message : goal.returns-then-not-has_ranges_of_message
returns-then-not-has_ranges_of_message c =
    sym (c.loop-at.invariant
    ∙ all-fails has_ranges_of_message c.args.pending.now c.loop-at.at c.in-Some.message.now (sym c.get.ensures ∙ ap option_copied c.in-Some.is)
    (sym c.has_ranges_of_message.ensures ∙ c.if-not-has_ranges_of_message.true))

pub loop-at-preserved : goal.loop-at-preserved
loop-at-preserved c =
    c.loop-at.invariant
    ∙ all-passes has_ranges_of_message c.args.pending.now c.loop-at.at c.in-Some.message.now (sym c.get.ensures ∙ ap option_copied c.in-Some.is)
    (sym c.has_ranges_of_message.ensures ∙ c.if-not-has_ranges_of_message.false)
