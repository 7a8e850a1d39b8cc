-- Deciding on a message at a place that holds its port: the answer, and what the port keeps after it.
use Rattle.std.specs.Prelude.{◌+◌, ◌==◌, Bool, if◌then◌else◌, [], ◌∷◌, ◌++◌, length}
use Rattle.chorus_entry.specs.declared.message.Message.{Message}
use Rattle.chorus_entry.specs.declared.record.PortRecord.{PortRecord}
use Rattle.chorus_entry.specs.Clients.{is_repeated, is_one_too_many, remembered}
use Rattle.chorus_ports.specs.declared.deciding.Accept.{Accept}
use Rattle.chorus_ports.specs.declared.deciding.Accept.TheVariants.{Accepted, Already, ClientsFull, Full}

-- as many messages wait as may
abbrev pub is_full : PortRecord → Bool
is_full port = length port.pending == port.capacity

-- the answer is the first of these that holds, and else the message is accepted behind those that wait. The client of a
-- request is the seat that posted it
abbrev pub answer_to : Message → PortRecord → Accept
answer_to m port =
    if is_repeated m.id.seat m.tag port.clients then Already m
    else if is_one_too_many m.id.seat m.tag port.clients then ClientsFull m
    else if is_full port then Full (length port.pending) m
    else Accepted (port.first + length port.pending)

-- the port with the message behind those that wait
abbrev pub enqueued : Message → PortRecord → PortRecord
enqueued m port =
    record port { pending = port.pending ++ m ∷ []; clients = remembered m.id.seat m.tag port.clients }

-- a refusal changes nothing
abbrev pub answered : Accept → Message → PortRecord → PortRecord
answered (Accepted pos) m port = enqueued m port
answered (Already back) m port = port
answered (ClientsFull back) m port = port
answered (Full len back) m port = port

-- the port after it decided on the message
abbrev pub after_offer : Message → PortRecord → PortRecord
after_offer m port = answered (answer_to m port) m port

-- what is so where the message was refused
abbrev pub OnRefused : Accept → Type 0 → Type 0
OnRefused (Accepted pos) P = Unit {0}
OnRefused (Already back) P = P
OnRefused (ClientsFull back) P = P
OnRefused (Full len back) P = P
