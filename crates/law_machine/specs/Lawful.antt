-- Lawful packets: those that a place works off. No schedule brings another one.
-- l is a layout, p a place's number, q a port, x an id, s the place that the packet is handed to.
use Rattle.chorus_world.specs.Places.{is_made_here}
use Rattle.std.specs.Prelude.{ℕ, ◌+◌, ◌==◌, nat_le, Bool, true, false, ◌&&◌, ◌||◌, not, List, [], ◌∷◌, length, Option, Some, None, is_none}
use Rattle.chorus_ui.specs.declared.ui.Ui.{Ui}
use Rattle.chorus_ui.specs.declared.layout.Layout.{Layout}
use Rattle.chorus_ui.specs.Layout.{has_site, has_place, has_actor, can_make_port, creation_place, place_at, site_of}
use Rattle.chorus_entry.specs.declared.id.MsgId.{MsgId}
use Rattle.chorus_entry.specs.declared.answer.Answer.{Answer}
use Rattle.chorus_entry.specs.declared.answer.Answer.TheVariants as A
use Rattle.chorus_entry.specs.declared.packet.Packet.{Packet}
use Rattle.chorus_entry.specs.declared.packet.Cargo.{Cargo}
use Rattle.chorus_entry.specs.declared.record.PortRecord.{PortRecord}
use Rattle.chorus_entry.specs.Dest.{group_in}
use Rattle.chorus_entry.specs.MsgId.{same_id}
use Rattle.chorus_entry.specs.Ranges.{has_ranges}
use Rattle.chorus_entry.specs.Same.{is_number}
use Rattle.chorus_world.specs.Groups.{is_group_place}
use Rattle.chorus_ports.specs.Table.{find}
use Rattle.place_unsettled.specs.declared.wait.Wait.{Wait}
use Rattle.place_unsettled.specs.Queues.{Queue}
use Rattle.law_machine.specs.PlaceState.{PlaceState}

-- the first of these messages has this id
abbrev pub is_first_of : MsgId → List Wait → Bool
is_first_of x [] = false
is_first_of x (w ∷ ws) = same_id w.message.id x

-- and is under way to the place p
abbrev pub is_under_way : MsgId → ℕ → Queue → Bool
is_under_way x p queue = is_first_of x queue.waits && is_number p queue.tried

-- the place that an answer names is one of the layout
abbrev pub is_known_answer : Layout → Answer → Bool
is_known_answer l (A.Stale to hop) = has_place l to
is_known_answer l (A.Elsewhere to hop) = has_place l to
is_known_answer l _ = true

-- where it teaches a location, the port is one that the layout can make, and the hop at least 1
abbrev pub may_teach : Layout → Ui → Answer → Bool
may_teach l q (A.Stale to hop) = can_make_port l q && nat_le 1 hop
may_teach l q (A.Elsewhere to hop) = can_make_port l q && nat_le 1 hop
may_teach l q _ = true

-- the port may be held here: this is its place on this site, it is not held here, and it was made here if anywhere; its
-- actor is one of this site; it moved at least once; and no position of its messages is above the packet's clock
abbrev pub may_receive : ℕ → PortRecord → PlaceState → Bool
may_receive clock port s =
    can_make_port s.layout port.ui && (place_at s.layout (site_of s.layout s.number) port.ui == s.number)
    && is_none (find port.ui s.ports)
    && has_actor s.layout port.actor && (port.actor.site == site_of s.layout s.number)
    && nat_le 1 port.hop
    && (not (creation_place s.layout port.ui == s.number) || is_made_here port.ui s.journal)
    && nat_le (port.first + length port.pending) clock

-- this is the place of the group
abbrev pub is_asked_here : Option Ui → PlaceState → Bool
is_asked_here None s = false
is_asked_here (Some g) s = is_group_place s.layout g s.number

abbrev pub is_lawful_cargo : ℕ → ℕ → Cargo → PlaceState → Bool
is_lawful_cargo clock from (Cargo.Try m q route only tried) s = has_site s.layout q.site
is_lawful_cargo clock from (Cargo.Verdict x q route answer) s =
    is_under_way x from (s.waiting (record { port = q; route = route }))
    && is_known_answer s.layout answer && may_teach s.layout q answer
is_lawful_cargo clock from (Cargo.Transfer port) s = may_receive clock port s
is_lawful_cargo clock from (Cargo.Ask m d) s = is_asked_here (group_in d) s
is_lawful_cargo clock from (Cargo.Report x answer) s = s.unheard x && is_known_answer s.layout answer

-- the packet, which came from the place `from`, may be worked off
abbrev pub is_lawful : ℕ → Packet → PlaceState → Bool
is_lawful from packet s =
    (packet.from == from) && not (from == s.number) && has_place s.layout from && has_ranges packet
    && is_lawful_cargo packet.clock from packet.cargo s
