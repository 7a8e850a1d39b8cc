-- The commands by which the ports are made and filled.
use Rattle.std.specs.Prelude.{ℕ, zero, suc, ◌+◌, List, [], ◌∷◌, ◌++◌, map, decimal}
use Rattle.chorus_ui.specs.declared.limits.TheConstants.{PENDING_LIMIT}
use Rattle.chorus_entry.specs.declared.command.Command.{Command}
use Rattle.chorus_entry.specs.declared.dest.Dest.{Dest}
use Rattle.chorus_run.specs.declared.drawn_crew.names.TheConstants.{CREW_PORTS}
use Rattle.chorus_run.specs.DrawnCrew.Names.{crew_actor, crew_port}
use Rattle.chorus_run.specs.DrawnCrew.Sends.{Sending, sendings}

abbrev pub make_port : ℕ → Command
make_port site = Command.Make (crew_actor site) PENDING_LIMIT

-- on so many sites, from this one on
abbrev pub makes : ℕ → ℕ → List Command
makes zero site = []
makes (suc count) site = make_port site ∷ makes count (site + 1)

abbrev pub send_command : ℕ → ℕ → Command
send_command site number = Command.Send (Dest.Port (crew_port site)) (decimal number)

abbrev pub commands_of : List Sending → List Command
commands_of sends = map (λ (s : Sending). send_command s.site s.number) sends

-- the sends among so many draws
abbrev pub sends_of : ℕ → ℕ → List Command
sends_of first commands = commands_of (sendings commands 1 first)

-- seat 0 makes the ports and sends
abbrev pub crew_commands : ℕ → ℕ → List Command
crew_commands first commands = makes CREW_PORTS 1 ++ sends_of first commands
