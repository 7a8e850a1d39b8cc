-- Ends in memory: what they show.
-- p is a place.
use Rattle.std.specs.Prelude.{ℕ, ◌≡◌, ◌≢◌, ◌==◌, ◌-◌, ◌+◌, ◌^◌, ◌<◌, Bool, true, if◌then◌else◌, List, [], ◌∷◌, ◌++◌, length, take, slice_index_or}
use Rattle.std.specs.List.{filter}
use Rattle.chorus_entry.specs.declared.packet.Packet.{Packet}
use Rattle.chorus_ends.specs.Links.{Links, with_packet}

-- the packets that are left to be received, those that were received, those that were sent, by the number of the place
-- that they went to, and how often nothing was left to be received
pub record Kept : Type 0 where
  pub left : List Packet
  pub received : List Packet
  pub sent : List (List Packet)
  pub empties : ℕ

abbrev pub is_from : ℕ → Packet → Bool
is_from p packet = packet.from == p

-- the packets that come from the place
abbrev pub from_place : ℕ → List Packet → List Packet
from_place p packets = filter (is_from p) packets

abbrev pub to_place : ℕ → List (List Packet) → List Packet
to_place p lists = slice_index_or lists p []

abbrev pub links : Kept → Links
links k =
    record {
      name = record { out = []; into = [] };
      reaches = λ p. true;
      sent = λ p. to_place p k.sent;
      received = λ p. from_place p k.received;
      fulls = λ p. 0;
      empties = λ p. k.empties;
    }

-- of the packets that were sent, by place: none more, or one more to this place
abbrev pub IsSame : List (List Packet) → List (List Packet) → Type 0
IsSame old new = (p : ℕ) → to_place p new ≡ to_place p old

abbrev pub GoesTo : ℕ → Packet → List (List Packet) → List (List Packet) → Type 0
GoesTo place packet old new = (p : ℕ) → to_place p new ≡ with_packet place packet p (to_place p old)

-- nothing of the place comes up to here
abbrev pub NoneFrom : ℕ → ℕ → List Packet → Type 0
NoneFrom p at packets = from_place p (take at packets) ≡ []

-- the packet at this index is the first one that comes from the place
pub record IsFirstFrom (p at : ℕ) (packets : List Packet) : Type 0 where
  pub below : at < length packets
  pub none : NoneFrom p at packets
  pub is_from : (d : Packet) → (slice_index_or packets at d).from ≡ p

-- the first packet that was left from the place was received, and no other
pub record Gets (place : ℕ) (packet : Packet) (old new : Kept) : Type 0 where
  pub from : packet.from ≡ place
  pub next : from_place place old.left ≡ packet ∷ from_place place new.left
  pub others : (p : ℕ) → p ≢ place → from_place p new.left ≡ from_place p old.left
  pub received : new.received ≡ old.received ++ packet ∷ []
  pub sent : new.sent ≡ old.sent
  pub empties : new.empties ≡ old.empties
