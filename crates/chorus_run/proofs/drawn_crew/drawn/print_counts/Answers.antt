use Rattle.std.proofs.Common.{◌∙◌}
use Rattle.chorus_run.proofs.DrawnCrew.Counted.{crew-tallied}
use Rattle.chorus_run.proofs.DrawnCrew.Endings.{ends-printed, text-so}
use Rattle.chorus_run.proofs.drawn_crew.drawn.print_counts.Goals as goal

pub returns : goal.returns
returns g c n last first commands sites few by crewed =
    let tallied = crew-tallied n last c.args.closed first commands c.args.handled.now sites few by crewed in
    ends-printed n first commands c.print.result _ _ c.args.sink.now c.print.new.sink c.args.closed c.deref.result.now
    (c.deref.ensures.value ∙ c.in-Ok.ensures ∙ text-so first commands c.args.handled.now c.requires tallied)
    (record { last = last; closes = by; handled = c.args.handled.now; crewed = crewed; tallied = tallied })
    c.print.ensures.status c.print.ensures.write_fault c.print.ensures.closed c.print.ensures.hands_out c.print.ensures.prints
