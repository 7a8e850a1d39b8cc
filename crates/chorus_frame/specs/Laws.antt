-- Frames both ways.
use Rattle.std.specs.Prelude.{◌≡◌, ◌≢◌, ℕ, ◌<◌, List, [], ◌++◌, length, take, slice_index, Ok, Err, IsTrue}
use Rattle.chorus_entry.specs.declared.packet.Packet.{Packet}
use Rattle.chorus_entry.specs.Ranges.{has_ranges}
use Rattle.chorus_frame.specs.Fault.{Short, Trailing}
use Rattle.chorus_frame.specs.Spelling.{frame}
use Rattle.chorus_frame.specs.Reading.{packet_at, packet_of}
use Rattle.chorus_frame.specs.Held.{IsHeld}

abbrev pub AreBytes : List ℕ → Type 0
AreBytes bytes = (i : ℕ) → slice_index bytes i < 256

-- each packet within the ranges is read back from its frame, whatever stands behind it
abbrev pub EachIsReadBack : Type 0
EachIsReadBack = (packet : Packet) (rest : List ℕ) → IsHeld packet → IsTrue (has_ranges packet) →
    packet_at (frame packet ++ rest) ≡ Ok (packet, rest)

-- so the bytes of its frame are that packet
abbrev pub EachFrameIsItsPacket : Type 0
EachFrameIsItsPacket =
    (packet : Packet) → IsHeld packet → IsTrue (has_ranges packet) → packet_of (frame packet) ≡ Ok packet

-- and with more bytes behind them they are none
abbrev pub MoreIsTrailing : Type 0
MoreIsTrailing = (packet : Packet) (rest : List ℕ) → IsHeld packet → IsTrue (has_ranges packet) → rest ≢ [] →
    packet_of (frame packet ++ rest) ≡ Err Trailing

-- bytes that are a packet are its frame
abbrev pub EachReadIsItsFrame : Type 0
EachReadIsItsFrame =
    (bytes : List ℕ) (packet : Packet) → AreBytes bytes → packet_of bytes ≡ Ok packet → bytes ≡ frame packet

-- and the packet is within the ranges, and one that the types hold
abbrev pub EachReadIsInRange : Type 0
EachReadIsInRange =
    (bytes : List ℕ) (packet : Packet) → AreBytes bytes → packet_of bytes ≡ Ok packet → IsTrue (has_ranges packet)

abbrev pub EachReadIsHeld : Type 0
EachReadIsHeld = (bytes : List ℕ) (packet : Packet) → AreBytes bytes → packet_of bytes ≡ Ok packet → IsHeld packet

-- a front of a frame that is not all of it is short
abbrev pub FrontsAreShort : Type 0
FrontsAreShort = (packet : Packet) (n : ℕ) → IsHeld packet → IsTrue (has_ranges packet) → n < length (frame packet) →
    packet_of (take n (frame packet)) ≡ Err Short
