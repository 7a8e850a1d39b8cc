-- How far tasks were performed.
-- l is a layout, all are the tasks of an order, which stand in order, c is a scenario, n a network.
use Rattle.std.specs.Prelude.{ℕ, ◌≡◌, ◌+◌, ◌-◌, ◌<◌, ◌≤◌, ◌⊎◌, Bool, true, false, List, [], ◌∷◌, ◌++◌, length, map, reverse, sum, slice_get, Option, Some, None}
use Rattle.std.specs.List.{All}
use Rattle.chorus_entry.specs.declared.entry.Entry.{Entry}
use Rattle.chorus_ui.specs.declared.layout.Layout.{Layout}
use Rattle.chorus_calls.specs.Callers.{Seated}
use Rattle.law_machine.specs.declared.outgoing.Outgoing.{Outgoing}
use Rattle.chorus_net.specs.declared.closed.Closed.{Closed}
use Rattle.law_network.specs.History.{history}
use Rattle.chorus_entry.specs.declared.command.Command.{Command}
use Rattle.chorus_ui.specs.declared.limits.TheConstants.{CLOCK_LIMIT}
use Rattle.law_network.specs.Calls.{compared}
use Rattle.law_network.specs.Network.{NetState, Event, Act, happened, numbers, opening, schedule}
use Rattle.law_network.specs.Schedules.{may_be, may_happen}
use Rattle.law_network.specs.Tasks.{Task, Do, Drain, CarryOut}
use Rattle.chorus_scene.specs.Scene.{Scene}
use Rattle.chorus_report.specs.Awaiting.{stuck_of}
use Rattle.chorus_show.specs.declared.stuck.Stuck.{Stuck}
use Rattle.chorus_replay.specs.Order.{in_setup, entering, in_schedule, left_from, opening_order, order}
use Rattle.chorus_replay.specs.Waiting.{Phase, BehindRound, Standing, Follows, IsScript, may_go_on, next_command, one_more, opened}
use Rattle.chorus_net.specs.Closing.{IsClosed}
use Rattle.chorus_net.specs.Worn.{AreUnworn}
use Rattle.chorus_replay.specs.Worn.{AreWornBy}
use Rattle.chorus_report.specs.Headline.{HasClock}

-- it is the clock of an entry, or none yet
abbrev pub IsClock : List Entry → ℕ → Type 0
IsClock past clock = (clock ≡ 0) ⊎ HasClock clock past

-- the last clock of each caller is one, and so is that of each packet
pub record HaveClocks (past : List Entry) (n : NetState) : Type 0 where
  pub lasts : (k : ℕ) (caller : Seated) → slice_get n.callers k ≡ Some caller → IsClock past caller.last
  pub packets : All (λ (o : Outgoing). IsClock past o.packet.clock) n.packets

-- of all tasks these are left, and the network is what the events left that carried out those before them
pub record AreLeft (l : Layout) (all rest : List Task) (n : NetState) : Type 0 where
  pub done : List Task
  pub whole : all ≡ done ++ rest
  pub events : List Event
  pub is : n ≡ schedule l events
  pub carried : CarryOut l (reverse done) events
  pub may : may_be l events ≡ true
  pub unworn : AreUnworn events (opening l)
  pub clocks : HaveClocks (history l events) (schedule l events)

-- the event that came next would have compared this clock
pub record AreStopped (l : Layout) (all : List Task) (clock : ℕ) (n : NetState) : Type 0 where
  pub events : List Event
  pub is : n ≡ schedule l events
  pub may : may_be l events ≡ true
  pub unworn : AreUnworn events (opening l)
  pub clocks : HaveClocks (history l events) (schedule l events)
  pub worn : AreWornBy l (reverse all) events clock

-- all was performed, or a clock was worn
abbrev pub ArePerformed : Layout → List Task → Option ℕ → NetState → Type 0
ArePerformed l all None n = AreLeft l all [] n
ArePerformed l all (Some clock) n = AreStopped l all clock n

-- what was closed is the network that was reached
abbrev pub ArePlayed : Layout → List Task → Option ℕ → Closed → Type 0
ArePlayed l all worn closed = (n : NetState) × (ArePerformed l all worn n × IsClosed n closed)

-- The same of a scenario.

abbrev pub IsBefore : Scene → List Task → NetState → Type 0
IsBefore c rest n = AreLeft c.layout (order c) rest n

abbrev pub IsWornAt : Scene → ℕ → NetState → Type 0
IsWornAt c clock n = AreStopped c.layout (order c) clock n

-- what is left: behind the schedule, behind the callers, behind the setup, and from the start of the sites on
abbrev pub to_finish : Scene → List Task
to_finish c = left_from c.schedule 1 c.scripts ++ Drain 0 ∷ []

abbrev pub to_follow : Scene → List Task
to_follow c = in_schedule c.scripts [] c.schedule ++ to_finish c

abbrev pub to_enter : Scene → List Task
to_enter c = map Do (entering c) ++ to_follow c

abbrev pub to_set_up : Scene → List Task
to_set_up c = map Do (in_setup c) ++ to_enter c

-- a clock was worn before all callers had come
abbrev pub OpensWorn : Scene → ℕ → NetState → Type 0
OpensWorn c clock n = AreStopped c.layout (opening_order c) clock n

-- Then it goes on step by step.

-- these tasks, the latest first, were carried out, and this network was reached
abbrev pub AreDone : Layout → List Task → NetState → Type 0
AreDone l ts n = AreLeft l (reverse ts) [] n

-- it came to this phase, with so many commands of each script done
pub record IsAt (c : Scene) (phase : Phase) (done : List ℕ) (n : NetState) : Type 0 where
  pub standing : Standing
  pub follows : Follows c (opened c) standing
  pub phase_is : standing.phase ≡ phase
  pub done_is : standing.done ≡ done
  pub tasks : AreDone c.layout standing.tasks n

-- a clock was worn at one of its tasks
pub record StopsAt (c : Scene) (clock : ℕ) (n : NetState) : Type 0 where
  pub standing : Standing
  pub follows : Follows c (opened c) standing
  pub stopped : AreStopped c.layout (reverse standing.tasks) clock n

-- the seat may give the next command of its script
abbrev pub MayDo : Scene → List ℕ → ℕ → NetState → Type 0
MayDo c done k n =
    (command : Command) → next_command c done k ≡ Some command → may_happen (Act k command) n ≡ true

abbrev pub MayAllDo : Scene → List ℕ → NetState → Type 0
MayAllDo c done n = (k : ℕ) → IsScript c k → MayDo c done k n

-- one of the scripts may go on, or none
abbrev pub SomeGoes : Scene → List ℕ → NetState → Type 0
SomeGoes c done n = (k : ℕ) × IsScript c k × (may_go_on c done k n ≡ true)

abbrev pub NoneGoes : Scene → List ℕ → NetState → Type 0
NoneGoes c done n = (k : ℕ) → IsScript c k → may_go_on c done k n ≡ false

-- the script did its next command
pub record Went (c : Scene) (k : ℕ) (before after : List ℕ) (old new : NetState) : Type 0 where
  pub command : Command
  pub is : next_command c before k ≡ Some command
  pub may : may_go_on c before k old ≡ true
  pub happens : new ≡ happened (Act k command) old
  pub unworn : compared k command old < CLOCK_LIMIT
  pub done : after ≡ one_more k before

-- it may not go on
pub record Waits (c : Scene) (k : ℕ) (before after : List ℕ) (old new : NetState) : Type 0 where
  pub may : may_go_on c before k old ≡ false
  pub same : new ≡ old
  pub done : after ≡ before

abbrev pub GoesIf : Bool → Scene → ℕ → List ℕ → List ℕ → NetState → NetState → Type 0
GoesIf true c k before after old new = Went c k before after old new
GoesIf false c k before after old new = Waits c k before after old new

-- its next command would have compared this clock
pub record Wears (c : Scene) (k clock : ℕ) (before : List ℕ) (old new : NetState) : Type 0 where
  pub command : Command
  pub is : next_command c before k ≡ Some command
  pub may : may_go_on c before k old ≡ true
  pub same : new ≡ old
  pub worn : CLOCK_LIMIT ≤ clock
  pub compares : clock ≡ compared k command old

-- it did some commands, or it may not go on
abbrev pub GoesFarther : Scene → ℕ → List ℕ → List ℕ → NetState → NetState → Type 0
GoesFarther c k before after old new = (sum before < sum after) ⊎ Waits c k before after old new

-- the scripts that a round has still to go on with, from this one on
abbrev pub from_script : Scene → ℕ → List ℕ
from_script c k = numbers (length c.scripts + 1 - k) k

-- all was done that comes, and so many commands of each script; or a clock was worn
abbrev pub HasCome : Scene → Option ℕ → List ℕ → NetState → Type 0
HasCome c None done n = IsAt c BehindRound done n × NoneGoes c done n
HasCome c (Some clock) done n = StopsAt c clock n

-- these are stuck, unless a clock was worn
abbrev pub IsStuckUnless : Option ℕ → Scene → List ℕ → List Stuck → Type 0
IsStuckUnless None c done stuck = stuck ≡ stuck_of c done
IsStuckUnless (Some clock) c done stuck = Unit {0}

-- what was closed is the network that was reached
pub record IsPlayed (c : Scene) (worn : Option ℕ) (done : List ℕ) (closed : Closed) : Type 0 where
  pub net : NetState
  pub come : HasCome c worn done net
  pub closes : IsClosed net closed

-- and these scripts are stuck
pub record HasPlayed (c : Scene) (worn : Option ℕ) (stuck : List Stuck) (closed : Closed) : Type 0 where
  pub done : List ℕ
  pub played : IsPlayed c worn done closed
  pub stuck_is : IsStuckUnless worn c done stuck
