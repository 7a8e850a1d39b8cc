use Rattle.std.proofs.Common.{subst}
use Rattle.std.specs.List.{Contains}
use Rattle.chorus_explore.specs.Stages.{comes}
use Rattle.chorus_explore.proofs.Explaining.{outcomes-are}
use Rattle.chorus_explore.proofs.Returning.{replays-are-whole}
use Rattle.law_replay.specs.Shown.{race_of}
use Rattle.chorus_explore.proofs.laws.replays_are_told.Goals as goal

pub returns : goal.returns
returns c = λ scene most first text shape told uncut steps status closed keeps played unworn.
    let w = replays-are-whole scene steps status closed shape keeps played unworn in
    let fs = told.explored.findings.items.items in
    (w.0, (w.1.1, subst (λ ts. Contains ts (comes scene w.0)) (outcomes-are (race_of scene) (comes scene) fs) ((told.all uncut).all w.0 w.1.0)))
