-- What a replay or a run prints, an audit for the layout that ran it finds legal, if it takes a text of that length.
use Rattle.std.specs.Prelude.{◌≡◌, ℕ, ◌<◌, ◌^◌, List, length, Option, Some}
use Rattle.chorus_ui.specs.declared.layout.Layout.{Layout}
use Rattle.chorus_show.specs.declared.status.Status.{Status}
use Rattle.chorus_show.specs.declared.status.Status.TheVariants.{Worn}
use Rattle.chorus_show.specs.declared.stuck.Stuck.{Stuck}
use Rattle.chorus_show.specs.Bounds.{AreWithin}
use Rattle.chorus_net.specs.declared.closed.Closed.{Closed}
use Rattle.chorus_report.specs.Headline.{Runs}
use Rattle.chorus_net.specs.Closing.{merge_of}
use Rattle.chorus_report.specs.Output.{text_with}
use Rattle.chorus_audit.specs.declared.judging.Audit.TheVariants.{Legal}
use Rattle.chorus_audit.specs.Stuck.{AreStuck}
use Rattle.chorus_audit.specs.Tests.{IsVerdict}

-- where the entries are fewer than 2^32, whichever scripts it says to be stuck that may be stuck behind its entries; that
-- those of a replay may be is a law of law_judged. Where a clock was worn nothing was printed, and the entries are taken
-- to be within the bounds of a line
abbrev pub RunsAreLegal : Type 0
RunsAreLegal =
    (l : Layout) (told : Option (List ℕ)) (status : Status) (closed : Closed) →
    Runs l told status closed →
    ((clock : ℕ) → status ≡ Worn clock → AreWithin (merge_of closed)) →
    length (merge_of closed) < 2 ^ 32 →
    (stuck : List Stuck) → AreStuck (merge_of closed) 0 stuck →
    IsVerdict l (text_with stuck (Some closed)) (Legal (length (merge_of closed)))
