-- What a top call did to its sink, by its status.
use Rattle.std.specs.Prelude.{◌≡◌, ℕ, List, [], ◌++◌, Option, Some, None, codes}
use Rattle.std.specs.Io.KnownBytes.{Appends}
use Rattle.chorus_io.specs.Bytes.{AppendsPrefix}
use Rattle.chorus_show.specs.Summary.{summary_text}
use Rattle.chorus_show.specs.Report.{report, report_with}
use Rattle.chorus_net.specs.declared.closed.Closed.{Closed}
use Rattle.chorus_show.specs.declared.stuck.Stuck.{Stuck}
use Rattle.chorus_report.specs.declared.writing.Text.{Text}
use Rattle.chorus_report.specs.declared.writing.Text.TheVariants as texts
use Rattle.chorus_net.specs.Closing.{merge_of}
use Rattle.chorus_show.specs.declared.status.Status.{Status}
use Rattle.chorus_show.specs.declared.status.Status.TheVariants.{Done, Scenario, ReadFault, WriteFault, Memory, Worn}

-- the sink took the whole text at Done, a prefix of it at WriteFault, and nothing with any other status
abbrev pub Writes : Status → Option (List ℕ) → Option (List ℕ) → List ℕ → Type 0
Writes Done old new text = Appends old new text
Writes WriteFault old new text = AppendsPrefix old new text
Writes _ old new text = new ≡ old

-- the call closed what it played on: it wrote, or tried to, or a clock was worn
abbrev pub HandsOut : Status → Type 0
HandsOut Done = Unit {0}
HandsOut WriteFault = Unit {0}
HandsOut (Worn clock) = Unit {0}
HandsOut _ = ⊥

-- a call that reads gave up before it worked
abbrev pub GivesUp : Status → Type 0
GivesUp (Scenario line reason) = Unit {0}
GivesUp ReadFault = Unit {0}
GivesUp Memory = Unit {0}
GivesUp _ = ⊥

-- a call ends so that reads nothing, or has read all
abbrev pub EndsUnread : Status → Type 0
EndsUnread Done = Unit {0}
EndsUnread WriteFault = Unit {0}
EndsUnread Memory = Unit {0}
EndsUnread (Worn clock) = Unit {0}
EndsUnread _ = ⊥

-- the text of what was closed: the report of the merge of its journals
abbrev pub text_of : Option Closed → List ℕ
text_of None = []
text_of (Some closed) = report (merge_of closed)

-- the bytes end so
abbrev pub IsEnded : List ℕ → Type 0
IsEnded bytes = (front : List ℕ) × (bytes ≡ front ++ codes "end\n")

abbrev pub text_with : List Stuck → Option Closed → List ℕ
text_with stuck None = []
text_with stuck (Some closed) = report_with stuck (merge_of closed)

-- or the summary text alone
abbrev pub summary : Closed → List ℕ
summary closed = summary_text (merge_of closed)

abbrev pub summary_of : Option Closed → List ℕ
summary_of None = []
summary_of (Some closed) = summary closed

abbrev pub text_as : Text → List Stuck → Option Closed → List ℕ
text_as texts.Report stuck closed = text_with stuck closed
text_as texts.Summary stuck closed = summary_of closed
