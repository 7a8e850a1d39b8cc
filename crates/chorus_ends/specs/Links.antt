-- What the ends of links show, and what a push, a pop and a look do to it.
-- p is a place, l a list of packets, old and new are what the ends show before and after a call.
use Rattle.std.specs.Prelude.{ℕ, ◌≡◌, ◌==◌, ◌-◌, ◌^◌, ◌<◌, ◌≤◌, if◌then◌else◌, Bool, List, [], ◌∷◌, ◌++◌}
use Rattle.chorus_entry.specs.declared.packet.Packet.{Packet}
use Rattle.chorus_ends.specs.declared.ends.EndsName.{EndsName}

-- which ends they are; and of each place: whether the ends reach it, the packets that were sent to it and received from
-- it so far, in order, and how often a link to it was found full and one from it empty
pub record Links : Type 0 where
  pub name : EndsName
  pub reaches : ℕ → Bool
  pub sent : ℕ → List Packet
  pub received : ℕ → List Packet
  pub fulls : ℕ → ℕ
  pub empties : ℕ → ℕ

-- the list of the place p, with the packet behind it where this is the place
abbrev pub with_packet : ℕ → Packet → ℕ → List Packet → List Packet
with_packet place packet p l = if p == place then l ++ packet ∷ [] else l

-- they are the same ends, they reach the same places, and no count fell
pub record Counts (old new : Links) : Type 0 where
  pub name : new.name ≡ old.name
  pub reaches : (p : ℕ) → new.reaches p ≡ old.reaches p
  pub fulls : (p : ℕ) → old.fulls p ≤ new.fulls p
  pub empties : (p : ℕ) → old.empties p ≤ new.empties p

-- the packet was sent to the place, and nothing was received
pub record Sends (place : ℕ) (packet : Packet) (old new : Links) : Type 0 where
  pub sent : (p : ℕ) → new.sent p ≡ with_packet place packet p (old.sent p)
  pub received : (p : ℕ) → new.received p ≡ old.received p

-- the packet was received from the place, and nothing was sent
pub record Receives (place : ℕ) (packet : Packet) (old new : Links) : Type 0 where
  pub sent : (p : ℕ) → new.sent p ≡ old.sent p
  pub received : (p : ℕ) → new.received p ≡ with_packet place packet p (old.received p)

-- nothing was sent or received
pub record MovesNothing (old new : Links) : Type 0 where
  pub sent : (p : ℕ) → new.sent p ≡ old.sent p
  pub received : (p : ℕ) → new.received p ≡ old.received p
