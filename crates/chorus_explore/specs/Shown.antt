-- What an exploration shows is seen in a replay.
-- c is a scenario, most is how many events may be carried out, text is what is told, ms are moves, the latest first, f is
-- an outcome that was found.
use Rattle.std.specs.Prelude.{ℕ, ◌≡◌, false, List, reverse, None, Contains}
use Rattle.std.specs.List.{All}
use Rattle.chorus_ui.specs.Layout.{IsLayout}
use Rattle.law_explore.specs.declared.moves.Move.{Move}
use Rattle.law_explore.specs.Races.{IsWhole}
use Rattle.law_replay.specs.Shown.{race_of, with_schedule, IsEnded, IsPlayed}
use Rattle.chorus_scene.specs.Limits.{Keeps}
use Rattle.chorus_scene.specs.Scene.{Scene}
use Rattle.chorus_scene.specs.declared.scenario.Step.{Step}
use Rattle.chorus_show.specs.declared.status.Status.{Status}
use Rattle.chorus_net.specs.declared.closed.Closed.{Closed}
use Rattle.chorus_net.specs.Closing.{IsClosed}
use Rattle.chorus_replay.specs.Laws.{worn_clock}
use Rattle.explore_report.specs.declared.findings.Finding.{Finding}
use Rattle.explore_report.specs.Findings.{texts_of}
use Rattle.chorus_explore.specs.Explored.{IsExploration}
use Rattle.chorus_explore.specs.Stages.{comes, position}

-- Whatever schedule the scenario is given, its replay, unless a clock is worn, closes the network that a whole history of
-- its race comes to: so each replay is one of those that are gone over.
abbrev pub ReplaysAreWhole : Type 0
ReplaysAreWhole =
    (c : Scene) (steps : List Step) (status : Status) (closed : Closed) → IsLayout c.layout →
    Keeps (record c { schedule = steps }) → IsPlayed (record c { schedule = steps }) status closed →
    worn_clock status ≡ None → (ms : List Move) × (IsWhole (race_of c) ms × IsClosed (position c ms).net closed)

-- behind a history behind which nothing may come, no packet is left, and no script's next command may come
abbrev pub WholeSchedulesLeaveNothing : Type 0
WholeSchedulesLeaveNothing =
    (c : Scene) (ms : List Move) → IsLayout c.layout → Keeps c → IsWhole (race_of c) ms → IsEnded (position c ms)

-- the moves come to the lines, and, as the schedule of the scenario, are replayed to the network that they come to
pub record IsReplayed (c : Scene) (f : Finding) : Type 0 where
  pub comes_to : comes c (reverse f.moves.items) ≡ f.text.items
  pub closes : (status : Status) (closed : Closed) →
      IsPlayed (with_schedule (reverse f.moves.items) c) status closed →
      worn_clock status ≡ None → IsClosed (position c (reverse f.moves.items)).net closed

abbrev pub ShownSchedulesAreReplayed : Type 0
ShownSchedulesAreReplayed =
    (c : Scene) (most first : ℕ) (text : List ℕ) → IsLayout c.layout → Keeps c → (told : IsExploration c most first text) →
    All (IsReplayed c) told.explored.findings.items.items

-- and where no limit was met the lines of that history are among the outcomes that are told
abbrev pub ReplaysAreTold : Type 0
ReplaysAreTold =
    (c : Scene) (most first : ℕ) (text : List ℕ) → IsLayout c.layout → (told : IsExploration c most first text) →
    told.explored.is_cut ≡ false → (steps : List Step) (status : Status) (closed : Closed) →
    Keeps (record c { schedule = steps }) → IsPlayed (record c { schedule = steps }) status closed →
    worn_clock status ≡ None →
    (ms : List Move) × (IsClosed (position c ms).net closed ×
    Contains (texts_of told.explored.findings.items.items) (comes c ms))
