-- Arrows: of a list of entries, and of the packets that a schedule worked off.
-- e is an entry, past what stands before it, the newest first; es are events, the latest first; n is a network, b a
-- place's number.
use Rattle.std.specs.Prelude.{ℕ, ◌≡◌, List, [], ◌∷◌, ◌++◌, Option, Some, None, slice_get, IsPermutation}
use Rattle.chorus_ui.specs.declared.layout.Layout.{Layout}
use Rattle.chorus_entry.specs.declared.entry.Entry.{Entry}
use Rattle.chorus_entry.specs.declared.packet.Packet.{Packet}
use Rattle.chorus_entry.specs.declared.packet.Cargo.{Cargo}
use Rattle.chorus_calls.specs.Callers.{Seated}
use Rattle.law_network.specs.Packets.{first_on}
use Rattle.law_network.specs.Network.{NetState, Event, Enter, Act, Deliver, See, schedule}
use Rattle.law_network.specs.Schedules.{OfSchedules}
use Rattle.law_network.specs.History.{history}
use Rattle.law_network.specs.Left.{merged_past}
use Rattle.law_picture.specs.declared.row.Row.{Row}
use Rattle.law_picture.specs.declared.row.PacketKind.{PacketKind}
use Rattle.law_picture.specs.declared.row.PacketKind.TheVariants.{Try, Verdict, Transfer, Ask, Report}
use Rattle.law_picture.specs.Causes.{caused_by, packet_of}

-- what the packet carried, the place and the clock of the entry that put it, and the place that worked it off
pub record Arrow : Type 0 where
  pub kind : PacketKind
  pub from : ℕ
  pub clock : ℕ
  pub to : ℕ

-- Of entries: those that have a cause.

abbrev pub arrow_from : Entry → Option Row → List Arrow
arrow_from e None = []
arrow_from e (Some r) = record { kind = packet_of e.act; from = r.place; clock = r.clock; to = e.place } ∷ []

abbrev pub arrows : List Entry → List Arrow
arrows [] = []
arrows (e ∷ past) = arrow_from e (caused_by past e) ++ arrows past

-- Of a schedule: each packet that was worked off.

abbrev pub kind_of : Cargo → PacketKind
kind_of (Cargo.Try m q route only hop) = Try
kind_of (Cargo.Verdict x q route answer) = Verdict
kind_of (Cargo.Transfer port) = Transfer
kind_of (Cargo.Ask m d) = Ask
kind_of (Cargo.Report x answer) = Report

abbrev pub arrow_of : ℕ → Packet → Arrow
arrow_of b packet = record { kind = kind_of packet.cargo; from = packet.from; clock = packet.clock; to = b }

abbrev pub served : ℕ → Option Seated → Option Packet → List Arrow
served b (Some caller) (Some packet) = arrow_of b packet ∷ []
served b _ _ = []

abbrev pub served_by : Event → NetState → List Arrow
served_by (Deliver seat a b) n = served b (slice_get n.callers seat) (first_on a b n.packets)
served_by (Enter actor last) n = []
served_by (Act seat command) n = []
served_by (See seat clock) n = []

abbrev pub worked_off : Layout → List Event → List Arrow
worked_off l [] = []
worked_off l (e ∷ es) = served_by e (schedule l es) ++ worked_off l es

-- they are the same, one by one as they come
abbrev pub ArrowsArePackets : Type 0
ArrowsArePackets = OfSchedules (λ l es n. arrows (history l es) ≡ worked_off l es)

-- and so are those of the merged journals, in another order
abbrev pub ArrowsOfMergesArePackets : Type 0
ArrowsOfMergesArePackets = OfSchedules (λ l es n. IsPermutation (arrows (merged_past n)) (worked_off l es))
