-- The order of two small scenarios, task by task, and draws of a load.
use Rattle.std.proofs.Common.{◌≡◌, [], ◌∷◌, map, Some, decimal, refl}
use Rattle.chorus_ui.specs.declared.kind.Kind.TheVariants as kinds
use Rattle.chorus_ui.specs.declared.ui.Ui.{Ui}
use Rattle.chorus_entry.specs.declared.dest.Dest.{Dest}
use Rattle.chorus_entry.specs.declared.command.Command.{Command}
use Rattle.law_network.specs.Network.{Enter, Act, Deliver}
use Rattle.law_network.specs.Calls.{first_actor}
use Rattle.law_network.specs.Tasks.{Do, Drain}
use Rattle.chorus_scene.specs.declared.scenario.SetupLine.TheVariants as setups
use Rattle.chorus_scene.specs.declared.scenario.Step.TheVariants as steps
use Rattle.chorus_scene.specs.Scene.{Scene, scene_with}
use Rattle.chorus_replay.specs.Order.{order}
use Rattle.chorus_report.specs.Headline.{callers_of, commands_by}
use Rattle.chorus_draw.specs.Draws.{next_state, number_of}
use Rattle.chorus_replay.specs.Load.{load_actor, load_port, load_group, drawn_command, draws, load_callers, load_commands}

abbrev other : Ui
other = record { site = 2; kind = kinds.Actor; number = 1 }

abbrev q : Ui
q = record { site = 1; kind = kinds.Port; number = 1 }

-- seat 0 makes a port; the one script sends to it and takes from it; the schedule has the first command, a delivery and a drain
abbrev small : Scene
small =
    scene_with (record { sites = 2; turns = 1 }) 2 2 (setups.Port first_actor 4 ∷ [])
    (record { actor = other; commands = Command.Send (Dest.Port q) [] ∷ Command.Take q ∷ []; waits = [] } ∷ [])
    (steps.Step 1 ∷ steps.Deliver 2 1 ∷ steps.Drain ∷ [])

-- the caller comes with the clock of the port's entry; the Take is left, with a drain behind it, and a last drain ends it all
pub small-order : order small ≡
    Do (Enter first_actor 0) ∷ Do (Act 0 (Command.Make first_actor 4)) ∷ Do (Enter other 1)
    ∷ Do (Act 1 (Command.Send (Dest.Port q) [])) ∷ Do (Deliver 0 2 1) ∷ Drain 0
    ∷ Do (Act 1 (Command.Take q)) ∷ Drain 0 ∷ Drain 0 ∷ []
small-order = refl

pub small-caller : callers_of small 1 ≡ Some other
small-caller = refl

pub small-commands : commands_by small 0 ≡ Some (Command.Make first_actor 4 ∷ [])
small-commands = refl

-- Two scripts, and each kind of line of the setup; the schedule has the first command of the second script.

abbrev group : Ui
group = record { site = 1; kind = kinds.Group; number = 1 }

abbrev two : Scene
two =
    scene_with (record { sites = 2; turns = 1 }) 2 2 (setups.Port first_actor 4 ∷ setups.Group 1 ∷ setups.Member group q ∷ [])
    (record { actor = first_actor; commands = Command.Take q ∷ []; waits = [] }
    ∷ record { actor = other; commands = Command.Send (Dest.All group) [] ∷ Command.Cancel ∷ []; waits = [] } ∷ [])
    (steps.Step 2 ∷ [])

pub two-order : order two ≡
    Do (Enter first_actor 0) ∷ Do (Act 0 (Command.Make first_actor 4)) ∷ Do (Act 0 (Command.GroupMake 1)) ∷ Do (Act 0 (Command.Join group q))
    ∷ Do (Enter first_actor 3) ∷ Do (Enter other 3) ∷ Do (Act 2 (Command.Send (Dest.All group) []))
    ∷ Do (Act 1 (Command.Take q)) ∷ Drain 0 ∷ Do (Act 2 Command.Cancel) ∷ Drain 0 ∷ Drain 0 ∷ []
two-order = refl

-- the first draw from 7 is a send to one of the group by seat 1, and a delivery from place 3 to place 2 behind it
pub seven-state : next_state 7 ≡ 9098160460397411210
seven-state = refl

pub seven-number : number_of (next_state 7) ≡ 1059165278
seven-number = refl

pub seven-drawn : draws 1 1 7 ≡ record { seat = 1; command = Command.Send (Dest.One load_group) (decimal 1); from = 3; to = 2 } ∷ []
seven-drawn = refl

pub seven-commands : load_commands 7 1 1 ≡ Some (Command.Send (Dest.One load_group) (decimal 1) ∷ [])
seven-commands = refl

pub eight-callers : load_callers 8 ≡ Some (load_actor 8)
eight-callers = refl

-- by what is left of the number that is drawn: to a port, a take, to one of the group, a move
abbrev to_third : Command
to_third = Command.Send (Dest.Port (load_port 3)) (decimal 5)

pub each-command : map (drawn_command 5) (16 ∷ 17 ∷ 18 ∷ 19 ∷ 20 ∷ 21 ∷ 22 ∷ 23 ∷ []) ≡
    to_third ∷ to_third ∷ to_third ∷ to_third ∷ Command.Take (load_port 3) ∷ Command.Take (load_port 3)
    ∷ Command.Send (Dest.One load_group) (decimal 5) ∷ Command.Move (load_port 3) (load_actor 1) ∷ []
each-command = refl
