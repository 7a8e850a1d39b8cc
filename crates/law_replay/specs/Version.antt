-- Version one stays: a text of version 1 says the same on 8 and on 16 sites of one place each, and it is replayed the
-- same. c and d are scenarios, es and fs are events, s and t are statuses.
use Rattle.std.specs.Prelude.{ℕ, ◌≡◌, List, Some, None, Ok}
use Rattle.chorus_ui.specs.declared.layout.Layout.{Layout}
use Rattle.law_network.specs.Left.{merge}
use Rattle.law_network.specs.Network.{Event, schedule}
use Rattle.law_network.specs.Tasks.{CarryOut}
use Rattle.chorus_net.specs.declared.closed.Closed.{Closed}
use Rattle.chorus_scene.specs.Scene.{Scene}
use Rattle.chorus_scene.specs.Grammar.{read_scene}
use Rattle.chorus_show.specs.declared.status.Status.{Status}
use Rattle.chorus_show.specs.declared.stuck.Stuck.{Stuck}
use Rattle.chorus_report.specs.Output.{text_with}
use Rattle.chorus_replay.specs.Order.{tasks}
use Rattle.chorus_net.specs.Closing.{merge_of}
use Rattle.chorus_replay.specs.Ordered.{IsOrdered, Replays}
use Rattle.chorus_replay.specs.Laws.{worn_clock}
use Rattle.chorus_show.specs.Report.{report}

-- 8 sites, and 16, of one place each
abbrev pub eight : Layout
eight = record { sites = 8; turns = 1 }

abbrev pub sixteen : Layout
sixteen = record { sites = 16; turns = 1 }

-- what the scenario says, for another layout
abbrev pub with_layout : Layout → Scene → Scene
with_layout l c = record c { layout = l }

-- a text of version 1 that the grammar accepts for the one layout is accepted for the other, and says the same
abbrev pub SaysFor : Layout → Layout → Type 0
SaysFor l k =
    (text : List ℕ) (c : Scene) → read_scene l text ≡ Ok c → c.version ≡ 1 → read_scene k text ≡ Ok (with_layout k c)

abbrev pub SaysTheSame : Type 0
SaysTheSame = SaysFor eight sixteen × SaysFor sixteen eight

-- the text is of version 1, and says this on 8 and on 16 sites
pub record IsOfVersionOne (text : List ℕ) (c d : Scene) : Type 0 where
  pub eight : read_scene eight text ≡ Ok c
  pub sixteen : read_scene sixteen text ≡ Ok d
  pub one : c.version ≡ 1

-- whatever events carry out the tasks of a replay on 8 and on 16 sites, the journals that they leave have one merge
abbrev pub MergesTheSame : Type 0
MergesTheSame =
    (text : List ℕ) (c d : Scene) (es fs : List Event) → IsOfVersionOne text c d →
    CarryOut eight (tasks c) es → CarryOut sixteen (tasks d) fs →
    merge (schedule eight es) ≡ merge (schedule sixteen fs)

-- what was closed on the one and on the other has one merge, and so one text; and where a clock was worn it is the same
-- clock
pub record AreAlike (s t : Status) (one other : Closed) : Type 0 where
  pub worn : worn_clock s ≡ worn_clock t
  pub merge : merge_of one ≡ merge_of other
  pub text : report (merge_of one) ≡ report (merge_of other)

-- so it is with two replays in the order of the scenario, also where a clock is worn
abbrev pub ClosesTheSame : Type 0
ClosesTheSame =
    (text : List ℕ) (c d : Scene) (s t : Status) (one other : Closed) → IsOfVersionOne text c d →
    IsOrdered eight (tasks c) s one → IsOrdered sixteen (tasks d) t other → AreAlike s t one other

-- and with what `replay` promises of two sources that give the same bytes; where no clock is worn it writes the same
abbrev pub WritesTheSame : Type 0
WritesTheSame =
    (input : List ℕ) (stuck others : List Stuck) (s t : Status) (one other : Closed)
    (these : Replays eight (Some input) stuck s one) (those : Replays sixteen (Some input) others t other) →
    these.runs.scene.version ≡ 1 →
    AreAlike s t one other × (worn_clock s ≡ None → text_with stuck (Some one) ≡ text_with others (Some other))
