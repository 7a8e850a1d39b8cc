-- A run is legal, and so its report is.
use Rattle.std.proofs.Common.{ℕ, ◌≡◌, refl}
use Rattle.chorus_world.proofs.Moments.{runs-are-legal}
use Rattle.chorus_net.specs.declared.closed.Closed.{Closed}
use Rattle.chorus_show.specs.declared.status.Status.{Status}
use Rattle.chorus_show.specs.declared.status.Status.TheVariants.{Done, Usage, Scenario, ReadFault, WriteFault, Memory, Worn}
use Rattle.chorus_show.specs.Bounds.{AreWithin}
use Rattle.chorus_report.specs.Headline.{callers_of, AreWithinUnless}
use Rattle.chorus_net.specs.Closing.{merge_of, past_of}
use Rattle.chorus_program.specs.Circle.{RunsAreLegal}

within-both : (status : Status) (closed : Closed) → AreWithinUnless status closed → ((clock : ℕ) → status ≡ Worn clock → AreWithin (merge_of closed)) → AreWithin (merge_of closed)
within-both Done closed h worn = h
within-both Usage closed h worn = h
within-both (Scenario line reason) closed h worn = h
within-both ReadFault closed h worn = h
within-both WriteFault closed h worn = h
within-both Memory closed h worn = h
within-both (Worn clock) closed h worn = worn clock refl

pub runs_are_legal : RunsAreLegal
runs_are_legal l told status closed h worn few stuck may = (
  merge_of closed,
  record {
    number = few;
    within = within-both status closed h.within worn;
    legal = runs-are-legal l (callers_of h.scene) (past_of closed) h.plays.run;
    stuck = stuck;
    are = may;
    is = refl;
  },
  refl,
)
