-- The place machine: a turn with a command, or with a packet.
-- s is the place, t the turn.
use Rattle.std.specs.Prelude.{max, []}
use Rattle.chorus_entry.specs.declared.command.Command.{Command}
use Rattle.chorus_entry.specs.declared.packet.Packet.{Packet}
use Rattle.chorus_calls.specs.Callers.{Seated, after_tick}
use Rattle.law_machine.specs.PlaceState.{PlaceState, Turn}
use Rattle.law_machine.specs.Own.{own}
use Rattle.law_machine.specs.Doing.{does}
use Rattle.law_machine.specs.Working.{opens}

-- a turn begins with the place and the caller as they are, and nothing put
abbrev pub begun : PlaceState → Seated → Turn
begun s caller = record { place = s; caller = caller; puts = [] }

-- with a packet the caller's last clock is at least the packet's
abbrev pub begun_by : PlaceState → Seated → Packet → Turn
begun_by s caller packet = begun s (after_tick caller (max caller.last packet.clock))

-- the turn after the caller's command: its own act, and what follows from it
abbrev pub act : Command → Turn → Turn
act command t = does (own command t) t

-- the turn after the packet is worked off
abbrev pub work : Packet → Turn → Turn
work packet t = opens packet.from packet.cargo t
