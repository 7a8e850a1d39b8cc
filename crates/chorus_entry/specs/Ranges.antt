-- The ranges of what a packet holds.
use Rattle.std.specs.Prelude.{ℕ, Bool, true, false, ◌&&◌, nat_le, Option, Some, None, List, length}
use Rattle.std.specs.List.{list_all}
use Rattle.chorus_ui.specs.declared.ui.Ui.{Ui}
use Rattle.chorus_ui.specs.declared.limits.TheConstants.{SITES_LIMIT, PLACES_LIMIT, MEMBERS_LIMIT, PENDING_LIMIT, CLIENTS_LIMIT, BODY_LIMIT}
use Rattle.chorus_entry.specs.declared.id.MsgId.{MsgId}
use Rattle.chorus_entry.specs.declared.tag.Tag.{Tag}
use Rattle.chorus_entry.specs.declared.tag.Tag.TheVariants.{Plain, Request, Reply}
use Rattle.chorus_entry.specs.declared.dest.Dest.{Dest}
use Rattle.chorus_entry.specs.declared.dest.Dest.TheVariants.{Port, All, One, OneAt}
use Rattle.chorus_entry.specs.Answer.{is_final}
use Rattle.chorus_entry.specs.declared.message.Message.{Message}
use Rattle.chorus_entry.specs.declared.answer.Answer.{Answer}
use Rattle.chorus_entry.specs.declared.answer.Answer.TheVariants as A
use Rattle.chorus_entry.specs.declared.record.PortRecord.{PortRecord}
use Rattle.chorus_entry.specs.declared.packet.Packet.{Packet}
use Rattle.chorus_entry.specs.declared.packet.Cargo.{Cargo}
use Rattle.chorus_entry.specs.declared.packet.Cargo.TheVariants.{Try, Verdict, Transfer, Ask, Report}
use Rattle.chorus_entry.specs.ClientTable.{are_distinct}
use Rattle.chorus_ui.specs.NameKind.{is_actor, is_port, is_group}
use Rattle.chorus_entry.specs.Kinds.{has_kinds_in_tag}

-- n is from low to high
abbrev pub is_from : ℕ → ℕ → ℕ → Bool
is_from low high n = nat_le low n && nat_le n high

-- the number of a place in the largest layout
abbrev pub is_place_number : ℕ → Bool
is_place_number = is_from 1 PLACES_LIMIT

-- the number of a site in the largest layout
abbrev pub is_site_number : ℕ → Bool
is_site_number = is_from 1 SITES_LIMIT

abbrev pub has_range_of_id : MsgId → Bool
has_range_of_id id = nat_le 1 id.number && nat_le id.copy MEMBERS_LIMIT

abbrev pub has_range_of_tag : Tag → Bool
has_range_of_tag Plain = true
has_range_of_tag (Request number back) = nat_le 1 number
has_range_of_tag (Reply client number) = nat_le 1 number

abbrev pub has_ranges_of_message : Message → Bool
has_ranges_of_message m =
    has_range_of_id m.id && has_range_of_tag m.tag && has_kinds_in_tag m.tag && nat_le (length m.body) BODY_LIMIT

-- the route of a message is the group that it went through
abbrev pub is_route : Option Ui → Bool
is_route None = true
is_route (Some group) = is_group group

-- the site that a message for one site demands
abbrev pub is_demanded_site : Option ℕ → Bool
is_demanded_site None = true
is_demanded_site (Some site) = is_site_number site

-- no hop and no position is above the clock
abbrev pub has_ranges_of_answer : ℕ → Answer → Bool
has_ranges_of_answer clock (A.Accepted pos) = nat_le pos clock
has_ranges_of_answer clock (A.Full len) = is_from 1 PENDING_LIMIT len
has_ranges_of_answer clock (A.Stale to hop) = is_place_number to && nat_le hop clock
has_ranges_of_answer clock (A.Early hop) = nat_le hop clock
has_ranges_of_answer clock A.NoPort = true
has_ranges_of_answer clock A.Already = true
has_ranges_of_answer clock A.ClientsFull = true
has_ranges_of_answer clock (A.Elsewhere to hop) = is_place_number to && nat_le hop clock
has_ranges_of_answer clock A.NoMember = true
has_ranges_of_answer clock (A.Chosen count) = is_from 1 MEMBERS_LIMIT count
has_ranges_of_answer clock A.Gone = true

-- a decision may be told
abbrev pub is_told : Answer → Bool
is_told (A.Accepted pos) = true
is_told (A.Full len) = true
is_told (A.Stale to hop) = true
is_told (A.Early hop) = true
is_told A.NoPort = true
is_told A.Already = true
is_told A.ClientsFull = true
is_told (A.Elsewhere to hop) = true
is_told A.NoMember = false
is_told (A.Chosen count) = false
is_told A.Gone = true

-- every answer but Stale, after which the message is tried again, may be reported
abbrev pub is_reported : Answer → Bool
is_reported answer = is_final answer

abbrev pub has_range_of_client : ℕ × ℕ → Bool
has_range_of_client entry = nat_le 1 entry.1

abbrev pub has_ranges_of_clients : List (ℕ × ℕ) → Bool
has_ranges_of_clients clients =
    nat_le (length clients) CLIENTS_LIMIT && are_distinct clients && list_all has_range_of_client clients

abbrev pub has_ranges_of_record : ℕ → PortRecord → Bool
has_ranges_of_record clock port =
    is_port port.ui && is_actor port.actor && is_from 1 PENDING_LIMIT port.capacity
    && nat_le port.hop clock && nat_le port.first clock
    && nat_le (length port.pending) port.capacity && list_all has_ranges_of_message port.pending
    && has_ranges_of_clients port.clients

-- a post that is asked for goes to a group
abbrev pub is_asked : Dest → Bool
is_asked (Port port) = false
is_asked (All group) = is_group group
is_asked (One group) = is_group group
is_asked (OneAt group site) = is_group group && is_site_number site

abbrev pub has_ranges_of_cargo : ℕ → Cargo → Bool
has_ranges_of_cargo clock (Try message port route only hop) =
    is_route route && is_demanded_site only && nat_le hop clock && is_port port && has_ranges_of_message message
has_ranges_of_cargo clock (Verdict id port route answer) =
    has_range_of_id id && is_port port && is_route route && is_told answer && has_ranges_of_answer clock answer
has_ranges_of_cargo clock (Transfer port) = has_ranges_of_record clock port
has_ranges_of_cargo clock (Ask message dest) = is_asked dest && has_ranges_of_message message
has_ranges_of_cargo clock (Report id answer) =
    has_range_of_id id && is_reported answer && has_ranges_of_answer clock answer

-- the packet is within the ranges
abbrev pub has_ranges : Packet → Bool
has_ranges packet = is_place_number packet.from && has_ranges_of_cargo packet.clock packet.cargo
