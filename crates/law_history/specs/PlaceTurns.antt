-- The place machine as a machine of histories.
-- l is a layout, p and a are numbers of places, s is a place, w a caller, c a command, k a packet, t a turn as it
-- began, u as it ended.
use Rattle.std.specs.Prelude.{ℕ, ◌==◌, Bool, true, false, ◌&&◌, not, map, Some}
use Rattle.chorus_ui.specs.declared.layout.Layout.{Layout}
use Rattle.chorus_ui.specs.Layout.{has_place}
use Rattle.chorus_entry.specs.declared.command.Command.{Command}
use Rattle.chorus_entry.specs.declared.dest.Dest.{Dest}
use Rattle.chorus_entry.specs.declared.packet.Packet.{Packet}
use Rattle.chorus_entry.specs.declared.packet.Cargo.{Cargo}
use Rattle.chorus_entry.specs.Places.{place_for}
use Rattle.chorus_world.specs.Places.{last_clock}
use Rattle.chorus_calls.specs.Callers.{Seated, raised}
use Rattle.law_machine.specs.PlaceState as place
use Rattle.law_machine.specs.declared.outgoing.Outgoing.{Outgoing}
use Rattle.law_machine.specs.PlaceState.{PlaceState, next_clock}
use Rattle.law_machine.specs.PlaceMachine.{begun, begun_by, act, work}
use Rattle.law_network.specs.Schedules.{may_give}
use Rattle.law_history.specs.Turns.{Input, Sent, Outcome, Machine}

abbrev pub as_sent : Outgoing → Sent Packet
as_sent o = record { to = o.to; packet = o.packet }

-- what a turn gives: its first entry has the clock that was next when it began
abbrev pub outcome : place.Turn → place.Turn → Outcome PlaceState Seated Packet
outcome t u = record { first = next_clock t; place = u.place; caller = u.caller; puts = map as_sent u.puts }

abbrev pub turn : Input Command Packet → PlaceState → Seated → Outcome PlaceState Seated Packet
turn (Input.Command c) s w = let t = begun s w in outcome t (act c t)
turn (Input.Packet a k) s w = let t = begun_by s w k in outcome t (work k t)

-- working the packet off appends an entry: all do, but an Ask for the members of a port, which no place puts
abbrev pub brings_entry : Cargo → Bool
brings_entry (Cargo.Ask m (Dest.Port q)) = false
brings_entry _ = true

-- another place of the layout than p
abbrev pub is_other : Layout → ℕ → ℕ → Bool
is_other l p a = has_place l a && not (a == p)

-- a command is given at its place, by a caller that may give it; a packet comes from another place of the layout
abbrev pub may_come : Layout → ℕ → Input Command Packet → Seated → Bool
may_come l p (Input.Command c) w = (place_for l w.actor c == p) && may_give (Some w) c
may_come l p (Input.Packet a k) w = is_other l p a && brings_entry k.cargo

-- and a turn is taken at a place of the layout
abbrev pub may_take : Layout → ℕ → Input Command Packet → PlaceState → Seated → Bool
may_take l p i s w = has_place l p && may_come l p i w

abbrev pub machine : Layout → Machine PlaceState Seated Command Packet
machine l =
    record {
      turn = λ p i s w. turn i s w;
      may = may_take l;
      goes = λ w c. place_for l w.actor c;
      clock = λ s. last_clock s.journal;
      last = λ w. w.last;
      stamp = λ k. k.clock;
      shown = raised;
    }
