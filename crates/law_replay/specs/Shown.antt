-- The moves of a race as the schedule of a scenario.
-- c is a scenario, ms are moves, the latest first, s is a position, k the number of a script, i that of a command.
use Rattle.std.specs.Prelude.{ℕ, ◌≡◌, ◌+◌, false, List, [], ◌∷◌, ◌++◌, map, reverse, None}
use Rattle.chorus_entry.specs.declared.command.Command.{Command}
use Rattle.law_network.specs.Network.{schedule}
use Rattle.law_network.specs.Calls.{starting}
use Rattle.law_explore.specs.declared.moves.Move.{Move}
use Rattle.law_explore.specs.declared.moves.Move.TheVariants.{Go, Carry}
use Rattle.law_explore.specs.Outcome.{Fact, stuck_facts}
use Rattle.law_explore.specs.Outcome as facts
use Rattle.law_explore.specs.Search.{IsHistory, state_after}
use Rattle.law_explore.specs.Races.{Race, Order, Position, may_script, replaying}
use Rattle.chorus_scene.specs.Scene.{Scene, Script, is_await}
use Rattle.chorus_scene.specs.declared.scenario.Step as step
use Rattle.chorus_scene.specs.declared.scenario.Step.TheVariants as steps
use Rattle.chorus_show.specs.declared.status.Status.{Status}
use Rattle.chorus_show.specs.declared.stuck.Stuck.{Stuck}
use Rattle.chorus_net.specs.declared.closed.Closed.{Closed}
use Rattle.chorus_net.specs.Closing.{IsClosed}
use Rattle.chorus_report.specs.Awaiting.{stuck_of}
use Rattle.chorus_replay.specs.Order.{in_setup, entering}
use Rattle.chorus_replay.specs.Ordered.{IsOrdered}
use Rattle.chorus_replay.specs.Laws.{worn_clock}
use Rattle.chorus_replay.specs.Waiting.{Standing, Follows, IsOverUnless, opened}

-- the commands of a script, which of them wait by their numbers
abbrev pub orders_from : List ℕ → ℕ → List Command → List Order
orders_from waits i [] = []
orders_from waits i (command ∷ commands) =
    record { command = command; waits = is_await waits i } ∷ orders_from waits (i + 1) commands

abbrev pub orders_of : Script → List Order
orders_of script = orders_from script.waits 0 script.commands

-- the race begins where the setup is done and the callers of the scripts have entered
abbrev pub race_of : Scene → Race
race_of c =
    record {
      net = schedule c.layout (reverse (starting ∷ in_setup c ++ entering c));
      scripts = map orders_of c.scripts;
    }

abbrev pub step_of : Move → step.Step
step_of (Go script) = steps.Step (script + 1)
step_of (Carry from to) = steps.Deliver from to

-- the scenario with the moves as its schedule
abbrev pub with_schedule : List Move → Scene → Scene
with_schedule ms c = record c { schedule = map step_of (reverse ms) }

-- no packet is left, and no script's next command may come
abbrev pub IsEnded : Position → Type 0
IsEnded s = ((i : ℕ) → may_script i s ≡ false) × (s.net.packets ≡ [])

-- what was closed plays the scenario in the order of a replay: step by step, until no script may go on, or a clock was
-- worn
pub record IsPlayed (c : Scene) (status : Status) (closed : Closed) : Type 0 where
  pub standing : Standing
  pub follows : Follows c (opened c) standing
  pub over : IsOverUnless status c standing
  pub ordered : IsOrdered c.layout standing.tasks status closed

-- what a replay of it closes, unless a clock is worn, is the network that the moves come to
abbrev pub ScheduleShowsItsOutcome : Type 0
ScheduleShowsItsOutcome =
    (c : Scene) (ms : List Move) (status : Status) (closed : Closed) →
    IsHistory (replaying (race_of c)) ms → IsEnded (state_after (replaying (race_of c)) ms) →
    IsPlayed (with_schedule ms c) status closed → worn_clock status ≡ None →
    IsClosed (state_after (replaying (race_of c)) ms).net closed

-- and the scripts that are stuck then are those that the outcome tells
abbrev pub fact_of : Stuck → Fact
fact_of s = facts.Stuck s.script s.command

abbrev pub ScheduleIsStuckThere : Type 0
ScheduleIsStuckThere =
    (c : Scene) (ms : List Move) (status : Status) (closed : Closed) →
    IsHistory (replaying (race_of c)) ms → IsEnded (state_after (replaying (race_of c)) ms) →
    (p : IsPlayed (with_schedule ms c) status closed) → worn_clock status ≡ None →
    map fact_of (stuck_of (with_schedule ms c) p.standing.done)
    ≡ stuck_facts (race_of c).scripts (state_after (replaying (race_of c)) ms).left
