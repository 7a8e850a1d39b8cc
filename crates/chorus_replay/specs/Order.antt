-- The order of a replay: the tasks that a scenario gives, which are done one after the other when it is replayed.
-- c is a scenario, k the number of a script and of its seat. Lists stand in order, but for `tasks`, which has the
-- latest first.
use Rattle.std.specs.Prelude.{ℕ, ◌+◌, List, [], ◌∷◌, ◌++◌, map, drop, reverse, option_to_list, slice_get, count_by}
use Rattle.std.specs.Option.{option_map}
use Rattle.chorus_ui.specs.declared.layout.Layout.{Layout}
use Rattle.chorus_entry.specs.declared.command.Command.{Command}
use Rattle.law_network.specs.Network.{NetState, Event, Enter, Act, Deliver, schedule}
use Rattle.law_network.specs.Calls.{starting, last_of}
use Rattle.law_network.specs.Tasks.{Task, Do, Drain}
use Rattle.chorus_scene.specs.Scene.{Scene, Script}
use Rattle.chorus_scene.specs.Grammar.{script_at, is_step}
use Rattle.chorus_report.specs.Setup.{setup_commands}
use Rattle.chorus_scene.specs.declared.scenario.Step as step
use Rattle.chorus_scene.specs.declared.scenario.Step.TheVariants as steps

-- seat 0 performs the commands of the setup
abbrev pub in_setup : Scene → List Event
in_setup c = map (Act 0) (setup_commands c)

-- the sites behind the commands of a setup
abbrev pub after_setup : Layout → List Command → NetState
after_setup l setup = schedule l (reverse (starting ∷ map (Act 0) setup))

abbrev pub set_up : Scene → NetState
set_up c = after_setup c.layout (setup_commands c)

-- then a seat is entered for each script, in their order, so that script k has seat k; its last clock is that of seat 0
abbrev pub entering : Scene → List Event
entering c = map (λ (script : Script). Enter script.actor (last_of (slice_get (set_up c).callers 0))) c.scripts

-- A step performs the next command of its script, where these steps stand before it; seat 0 delivers and drains.
abbrev pub step_tasks : List Script → List step.Step → step.Step → List Task
step_tasks scripts before (steps.Step k) =
    option_to_list (option_map (λ (command : Command). Do (Act k command))
    (slice_get (script_at k scripts).commands (count_by (is_step k) before)))
step_tasks scripts before (steps.Deliver from to) = Do (Deliver 0 from to) ∷ []
step_tasks scripts before steps.Drain = Drain 0 ∷ []

abbrev pub in_schedule : List Script → List step.Step → List step.Step → List Task
in_schedule scripts before [] = []
in_schedule scripts before (step ∷ rest) =
    step_tasks scripts before step ++ in_schedule scripts (before ++ step ∷ []) rest

-- the commands that are left, script by script from script k on, and a drain behind each
abbrev pub then_drain : ℕ → List Command → List Task
then_drain k [] = []
then_drain k (command ∷ commands) = Do (Act k command) ∷ Drain 0 ∷ then_drain k commands

abbrev pub left_from : List step.Step → ℕ → List Script → List Task
left_from schedule k [] = []
left_from schedule k (script ∷ scripts) =
    then_drain k (drop (count_by (is_step k) schedule) script.commands) ++ left_from schedule (k + 1) scripts

-- the first of it: the start of the sites, the setup and the callers of the scripts
abbrev pub opening_order : Scene → List Task
opening_order c = map Do (starting ∷ in_setup c ++ entering c)

-- all of it, where nothing waits; a last drain ends it
abbrev pub order : Scene → List Task
order c =
    opening_order c ++ in_schedule c.scripts [] c.schedule
    ++ left_from c.schedule 1 c.scripts ++ Drain 0 ∷ []

abbrev pub tasks : Scene → List Task
tasks c = reverse (order c)
