-- Waiting: whether a take of a seat would be answered by a message now.
-- c is a command, n a network, p the number of a place, a an actor, q a port, f what became of a port.
use Rattle.std.specs.Prelude.{ℕ, ◌≡◌, Bool, true, false, ◌&&◌, not, List, map, reverse, Option, Some, None, slice_get}
use Rattle.std.specs.List.{filter}
use Rattle.chorus_ui.specs.declared.ui.Ui.{Ui}
use Rattle.chorus_entry.specs.declared.act.Act.{Act}
use Rattle.chorus_entry.specs.declared.command.Command.{Command}
use Rattle.chorus_entry.specs.declared.entry.Entry.{Entry}
use Rattle.chorus_entry.specs.Places.{place_for}
use Rattle.chorus_world.specs.Commands.{is_own_of}
use Rattle.chorus_world.specs.Views.{on}
use Rattle.chorus_world.specs.Ports.{PortState, fate, is_empty}
use Rattle.chorus_world.specs.Runs.{is_held_at_by}
use Rattle.chorus_calls.specs.Callers.{Seated}
use Rattle.law_machine.specs.Own.{own}
use Rattle.law_network.specs.Network.{NetState, turn_for}
use Rattle.law_network.specs.Left.{merged_past}
use Rattle.law_network.specs.Stands.{actor_of}
use Rattle.law_network.specs.Schedules.{OfSchedules}

-- the act receives a message
abbrev pub is_taken : Act → Bool
is_taken (Act.Take q position x) = true
is_taken _ = false

-- the command of this caller, if there is one, would be answered so
abbrev pub takes_by : Command → NetState → Option Seated → Bool
takes_by c n None = false
takes_by c n (Some caller) = is_taken (own c (turn_for c caller n))

abbrev pub would_take : ℕ → Command → NetState → Bool
would_take seat c n = takes_by c n (slice_get n.callers seat)

-- the same in the world: the actor holds the port at the place, and a message waits in it
abbrev pub gives : ℕ → Ui → Option PortState → Bool
gives p a f = is_held_at_by p a f && not (is_empty f)

-- the acts that answered the seat's commands, in order; the past has its newest entry first
abbrev pub own_acts : ℕ → List Entry → List Act
own_acts k past = reverse (map (λ (e : Entry). e.act) (filter (is_own_of k) past))

-- so it is behind each schedule: a take of the seat would be answered so exactly where the port gives one in the merge
-- of the journals
abbrev pub WouldTakeIsGives : Type 0
WouldTakeIsGives = OfSchedules (λ l es n. (seat : ℕ) (a q : Ui) → actor_of n seat ≡ Some a →
    would_take seat (Command.Take q) n ≡ gives (place_for l a (Command.Take q)) a (fate (on q (merged_past n))))
