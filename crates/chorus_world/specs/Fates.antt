-- Fates: what became of each message that a port accepted.
use Rattle.std.specs.Prelude.{ℕ, nat_lt, if◌then◌else◌}
use Rattle.chorus_world.specs.declared.spot.Spot.{Spot}
use Rattle.chorus_world.specs.declared.spot.Spot.TheVariants.{Held, Moving, Ended}
use Rattle.chorus_world.specs.Ports.{PortState}

pub data MessageFate : Type 0 where
  Received : MessageFate
  Queued : MessageFate
  UnderWay : MessageFate
  Discarded : MessageFate

-- of the messages that were not received
abbrev pub fate_left : Spot → MessageFate
fate_left (Held a) = Queued
fate_left (Moving a) = UnderWay
fate_left Ended = Discarded

-- the fate of the message that a port accepted at position i
abbrev pub fate_at : ℕ → PortState → MessageFate
fate_at i f = if nat_lt i f.taken then Received else fate_left f.spot
