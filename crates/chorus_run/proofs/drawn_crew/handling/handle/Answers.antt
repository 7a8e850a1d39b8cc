use Rattle.std.proofs.Common.{List, ap, length}
use Rattle.chorus_ui.specs.declared.ui.Ui.{Ui}
use Rattle.chorus_run.proofs.DrawnCrew.Endings.{no-seat-left}
use Rattle.chorus_run.proofs.drawn_crew.handling.handle.Goals as goal

pub unreachable-requires : goal.unreachable-requires
unreachable-requires g c =
    no-seat-left _ _ _ _ _ c.in-Err-NoSeat.is c.in-Err-NoSeat.field-0-is c.crew.ensures.faults.no_seat c.requires.keeper.made
    (ap (λ (ps : List (Ui × Ui)). length ps) c.crew_pairs-pairs.ensures)
