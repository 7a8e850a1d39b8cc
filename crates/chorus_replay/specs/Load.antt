-- The load: commands that are drawn from a first number, for eight seats, one on each of eight sites.
-- x is what the generator has come to, r what it draws, i the number of a command, from 1; k is a seat.
use Rattle.std.specs.Prelude.{ℕ, zero, suc, ◌+◌, ◌-◌, ◌/◌, ◌%◌, ◌==◌, nat_lt, if◌then◌else◌, List, [], ◌∷◌, ◌++◌, map, reverse, decimal, Option, Some, slice_get}
use Rattle.chorus_draw.specs.Draws.{next_state, number_of}
use Rattle.chorus_ui.specs.declared.kind.Kind.TheVariants as kinds
use Rattle.chorus_ui.specs.declared.ui.Ui.{Ui}
use Rattle.chorus_ui.specs.declared.layout.Layout.{Layout}
use Rattle.chorus_ui.specs.declared.limits.TheConstants.{PENDING_LIMIT}
use Rattle.chorus_entry.specs.declared.command.Command.{Command}
use Rattle.chorus_entry.specs.declared.dest.Dest.{Dest}
use Rattle.law_network.specs.Network.{Event, Enter, Act, Deliver, numbers}
use Rattle.law_network.specs.Calls.{first_actor, starting, last_of}
use Rattle.law_network.specs.Tasks.{Task, Do, Drain}
use Rattle.chorus_net.specs.declared.closed.Closed.{Closed}
use Rattle.chorus_show.specs.declared.status.Status.{Status}
use Rattle.chorus_replay.specs.declared.draws.Draw.{Draw}
use Rattle.chorus_replay.specs.declared.draws.TheConstants.{LOAD_SITES}
use Rattle.chorus_replay.specs.Order.{after_setup}
use Rattle.chorus_report.specs.Headline.{Plays}
use Rattle.chorus_replay.specs.Ordered.{IsOrdered}

-- eight sites with one place each; each has an actor and a port, and the first one a group
abbrev pub load_layout : Layout
load_layout = record { sites = LOAD_SITES; turns = 1 }

abbrev pub load_actor : ℕ → Ui
load_actor site = record { site = site; kind = kinds.Actor; number = 1 }

abbrev pub load_port : ℕ → Ui
load_port site = record { site = site; kind = kinds.Port; number = 1 }

abbrev pub load_group : Ui
load_group = record { site = 1; kind = kinds.Group; number = 1 }

-- The draws.

-- a site by what is left of a number where it is divided by how many there are
abbrev pub site_by : ℕ → ℕ
site_by n = n % LOAD_SITES + 1

-- the command of this number: half of them send to a port, a quarter take, the others send to one of the group or move
-- a port
abbrev pub drawn_command : ℕ → ℕ → Command
drawn_command i r =
    let port = load_port (site_by (r / 8)) in
    if nat_lt (r % 8) 4 then Command.Send (Dest.Port port) (decimal i)
    else if nat_lt (r % 8) 6 then Command.Take port
    else if r % 8 == 6 then Command.Send (Dest.One load_group) (decimal i)
    else Command.Move port (load_actor (site_by (r / 64)))

-- the seats take turns
abbrev pub drawn : ℕ → ℕ → Draw
drawn i r = record {
  seat = site_by (i - 1);
  command = drawn_command i r;
  from = site_by (r / 512);
  to = site_by (r / 4096);
}

-- so many draws, from the command of this number on
abbrev pub draws : ℕ → ℕ → ℕ → List Draw
draws zero i x = []
draws (suc count) i x = drawn i (number_of (next_state x)) ∷ draws count (i + 1) (next_state x)

-- The order of a load.

-- seat 0 makes a port on each site, and the group, of which all ports become members
abbrev pub make_port : ℕ → Command
make_port site = Command.Make (load_actor site) PENDING_LIMIT

abbrev pub join_port : ℕ → Command
join_port site = Command.Join load_group (load_port site)

abbrev pub load_setup : List Command
load_setup = map make_port (numbers LOAD_SITES 1) ++ Command.GroupMake 1 ∷ map join_port (numbers LOAD_SITES 1)

-- then a seat is entered on each site; its last clock is that of seat 0
abbrev pub enter_site : ℕ → Event
enter_site site = Enter (load_actor site) (last_of (slice_get (after_setup load_layout load_setup).callers 0))

abbrev pub load_entering : List Event
load_entering = map enter_site (numbers LOAD_SITES 1)

-- each command is performed by its seat, and one packet is delivered by seat 0 where two places were drawn
abbrev pub turn_tasks : Draw → List Task
turn_tasks d = Do (Act d.seat d.command) ∷ (if d.from == d.to then [] else Do (Deliver 0 d.from d.to) ∷ [])

abbrev pub turns : List Draw → List Task
turns [] = []
turns (d ∷ ds) = turn_tasks d ++ turns ds

-- what is left: from this draw on, behind the setup, and behind the start of the sites; a drain ends it
abbrev pub to_draw : ℕ → ℕ → ℕ → List Task
to_draw count i x = turns (draws count i x) ++ Drain 0 ∷ []

abbrev pub to_enter : ℕ → ℕ → List Task
to_enter first commands = map Do load_entering ++ to_draw commands 1 first

abbrev pub to_set_up : ℕ → ℕ → List Task
to_set_up first commands = map Do (map (Act 0) load_setup) ++ to_enter first commands

-- all of it
abbrev pub load_order : ℕ → ℕ → List Task
load_order first commands = Do starting ∷ to_set_up first commands

-- the latest first
abbrev pub load_tasks : ℕ → ℕ → List Task
load_tasks first commands = reverse (load_order first commands)

-- What a load gives.

-- the callers: seat 0 in the first actor, and seat k in the actor of site k
abbrev pub load_callers : ℕ → Option Ui
load_callers k = slice_get (first_actor ∷ map load_actor (numbers LOAD_SITES 1)) k

-- the commands of each seat: those of the setup for seat 0, and for another those that are drawn for it
abbrev pub drawn_for : ℕ → List Draw → List Command
drawn_for k [] = []
drawn_for k (d ∷ ds) = if d.seat == k then d.command ∷ drawn_for k ds else drawn_for k ds

abbrev pub load_commands : ℕ → ℕ → ℕ → Option (List Command)
load_commands first commands zero = Some load_setup
load_commands first commands (suc k) = Some (drawn_for (suc k) (draws commands 1 first))

-- what was closed plays the load, in its order
pub record Loads (first commands : ℕ) (status : Status) (closed : Closed) : Type 0 where
  pub plays : Plays load_layout load_callers (load_commands first commands) status closed
  pub ordered : IsOrdered load_layout (load_tasks first commands) status closed
