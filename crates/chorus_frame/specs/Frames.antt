-- Bytes that are a frame, and the packet that they are.
use Rattle.std.specs.Prelude.{◌≡◌, ℕ, List, IsTrue, is_ok}
use Rattle.std.specs.Result.{result_unwrap_or}
use Rattle.chorus_entry.specs.declared.answer.Answer.TheVariants.{NoMember}
use Rattle.chorus_entry.specs.declared.packet.Packet.{Packet}
use Rattle.chorus_entry.specs.declared.packet.Cargo.TheVariants.{Report}
use Rattle.chorus_entry.specs.Ranges.{has_ranges}
use Rattle.chorus_frame.specs.Spelling.{frame}
use Rattle.chorus_frame.specs.Reading.{packet_of}

-- what bytes stand for that are no frame; none of a `Frame` is
abbrev pub no_packet : Packet
no_packet = record { clock = 0; from = 0; cargo = Report (record { seat = 0; number = 0; copy = 0 }) NoMember }

-- the packet whose frame the bytes are
abbrev pub packet_held : List ℕ → Packet
packet_held bytes = result_unwrap_or (packet_of bytes) no_packet

-- the bytes are the frame of a packet within the ranges
pub record HoldsFrame (bytes : List ℕ) : Type 0 where
  pub read : IsTrue (is_ok (packet_of bytes))
  pub spelled : bytes ≡ frame (packet_held bytes)
  pub in_range : IsTrue (has_ranges (packet_held bytes))
