-- What a replay or a run prints is judged a run, also with the scripts that a replay is stuck at.
use Rattle.std.specs.Prelude.{◌≡◌, ◌≢◌, ℕ, ◌<◌, ◌^◌, List, length, Option, Some, None}
use Rattle.chorus_ui.specs.declared.layout.Layout.{Layout}
use Rattle.chorus_ui.specs.Layout.{IsLayout}
use Rattle.chorus_show.specs.declared.status.Status.{Status}
use Rattle.chorus_show.specs.declared.status.Status.TheVariants.{Worn}
use Rattle.chorus_show.specs.declared.stuck.Stuck.{Stuck}
use Rattle.chorus_show.specs.Bounds.{AreWithin}
use Rattle.chorus_net.specs.declared.closed.Closed.{Closed}
use Rattle.chorus_net.specs.Closing.{merge_of, past_of}
use Rattle.chorus_report.specs.Awaiting.{stuck_of}
use Rattle.chorus_report.specs.Headline.{Runs}
use Rattle.chorus_report.specs.Output.{text_with}
use Rattle.chorus_audit.specs.Stuck.{AreStuck}
use Rattle.law_judge.specs.Open.{all_open}
use Rattle.judge_seats.specs.Seats.{seats_in}
use Rattle.chorus_judge.specs.declared.judgement.Judgement.{Judgement}
use Rattle.chorus_judge.specs.Output.{IsJudgedFor}
use Rattle.chorus_judge.specs.Texts.{legal_text}

-- Whatever is said of it for the layout that ran it says so, whichever scripts it says to be stuck that may be stuck
-- behind its entries. Where a clock was worn nothing was printed, and the entries are taken to be within the bounds of a
-- line.
abbrev pub WhatIsPrintedIsJudgedARun : Type 0
WhatIsPrintedIsJudgedARun =
    (l : Layout) (told : Option (List ℕ)) (status : Status) (closed : Closed) → IsLayout l →
    Runs l told status closed →
    ((clock : ℕ) → status ≡ Worn clock → AreWithin (merge_of closed)) →
    length (merge_of closed) < 2 ^ 32 →
    (stuck : List Stuck) → AreStuck (merge_of closed) 0 stuck →
    (judgement : Judgement) (said : List ℕ) → IsJudgedFor l (text_with stuck (Some closed)) judgement said →
    said ≡ legal_text (length (merge_of closed)) None (seats_in l (past_of closed)) (all_open l (past_of closed))

-- and those that a replay is stuck at may be, unless a clock was worn
abbrev pub WhatIsStuckMayBe : Type 0
WhatIsStuckMayBe =
    (l : Layout) (told : Option (List ℕ)) (status : Status) (closed : Closed) (r : Runs l told status closed) →
    ((clock : ℕ) → status ≢ Worn clock) →
    AreStuck (merge_of closed) 0 (stuck_of r.scene r.done)
