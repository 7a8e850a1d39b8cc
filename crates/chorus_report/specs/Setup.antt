-- The commands of the setup.
-- c is a scenario.
use Rattle.std.specs.Prelude.{List, map}
use Rattle.chorus_entry.specs.declared.command.Command.{Command}
use Rattle.chorus_scene.specs.Scene.{Scene}
use Rattle.chorus_scene.specs.declared.scenario.SetupLine.{SetupLine}
use Rattle.chorus_scene.specs.declared.scenario.SetupLine.TheVariants as setups

-- seat 0 performs the lines of the setup
abbrev pub setup_command : SetupLine → Command
setup_command (setups.Port actor capacity) = Command.Make actor capacity
setup_command (setups.Group site) = Command.GroupMake site
setup_command (setups.Member group port) = Command.Join group port

abbrev pub setup_commands : Scene → List Command
setup_commands c = map setup_command c.setup
