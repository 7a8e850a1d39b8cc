-- Receiving from a port, and changing its holder.
use Rattle.std.specs.Prelude.{ℕ, ◌+◌, if◌then◌else◌, Option, Some, None, List, [], ◌∷◌}
use Rattle.chorus_ui.specs.declared.ui.Ui.{Ui}
use Rattle.chorus_ui.specs.Name.{same_ui}
use Rattle.chorus_entry.specs.declared.message.Message.{Message}
use Rattle.chorus_entry.specs.declared.record.PortRecord.{PortRecord}
use Rattle.chorus_ports.specs.declared.taking.Taken.{Taken}
use Rattle.chorus_ports.specs.declared.taking.Taken.TheVariants as T

-- the first of the messages, at this position
abbrev pub first_at : ℕ → List Message → Taken
first_at pos [] = T.Empty
first_at pos (m ∷ ms) = T.Message pos m

-- a port hands its first message to the actor that holds it, and to no other
abbrev pub taken_from : Ui → PortRecord → Taken
taken_from actor port = if same_ui port.actor actor then first_at port.first port.pending else T.NotHere

-- what an actor takes at a place, from a port that may not be held there
abbrev pub taken : Ui → Option PortRecord → Taken
taken actor None = T.NotHere
taken actor (Some port) = taken_from actor port

-- what is so where nothing was taken
abbrev pub OnNotTaken : Taken → Type 0 → Type 0
OnNotTaken (T.Message pos m) P = Unit {0}
OnNotTaken T.Empty P = P
OnNotTaken T.NotHere P = P

-- the port behind its first message
abbrev pub passed : List Message → PortRecord → PortRecord
passed [] port = port
passed (m ∷ ms) port = record port { first = port.first + 1; pending = ms }

-- the port after the actor took from it
abbrev pub after_take : Ui → PortRecord → PortRecord
after_take actor port = if same_ui port.actor actor then passed port.pending port else port

-- the port in the hands of an actor of the same site
abbrev pub rehomed : Ui → PortRecord → PortRecord
rehomed actor port = record port { actor = actor }
