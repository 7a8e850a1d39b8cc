-- Ends over ruled links: what they show.
-- p is a place, a and b are places, r are the ends of a place, all are those of each place, that of place p at p - 1.
use Rattle.std.specs.Prelude.{ℕ, ◌≡◌, ◌≢◌, ◌+◌, ◌-◌, ◌≤◌, ◌&&◌, List, [], map, Option, Some, None, is_some, slice_index_or}
use Rattle.chorus_entry.specs.declared.packet.Packet.{Packet}
use Rattle.chorus_link.specs.declared.ends.SendEnd.{SendEnd}
use Rattle.chorus_link.specs.declared.ends.RecvEnd.{RecvEnd}
use Rattle.chorus_link.specs.declared.name.LinkName.{LinkName}
use Rattle.chorus_link.specs.Ends.{send_name, recv_name, packets_put, packets_got, fulls_of, empties_of}
use Rattle.chorus_ends.specs.declared.ends.EndsName.{EndsName}
use Rattle.chorus_ends.specs.Links.{Links}

-- the ends of the links, by the number of the place that they lead to or come from
pub record Ruled : Type 0 where
  pub out : List (Option (SendEnd Packet))
  pub into : List (Option (RecvEnd Packet))

abbrev pub end_to : ℕ → Ruled → Option (SendEnd Packet)
end_to p r = slice_index_or r.out p None

abbrev pub end_from : ℕ → Ruled → Option (RecvEnd Packet)
end_from p r = slice_index_or r.into p None

-- what one end shows; nothing where there is none

abbrev pub sent_by : Option (SendEnd Packet) → List Packet
sent_by None = []
sent_by (Some e) = packets_put e

abbrev pub received_by : Option (RecvEnd Packet) → List Packet
received_by None = []
received_by (Some e) = packets_got e

abbrev pub fulls_by : Option (SendEnd Packet) → ℕ
fulls_by None = 0
fulls_by (Some e) = fulls_of e

abbrev pub empties_by : Option (RecvEnd Packet) → ℕ
empties_by None = 0
empties_by (Some e) = empties_of e

abbrev pub name_to : Option (SendEnd Packet) → Option LinkName
name_to None = None
name_to (Some e) = Some (send_name e)

abbrev pub name_from : Option (RecvEnd Packet) → Option LinkName
name_from None = None
name_from (Some e) = Some (recv_name e)

abbrev pub name : Ruled → EndsName
name r = record { out = map name_to r.out; into = map name_from r.into }

abbrev pub links : Ruled → Links
links r =
    record {
      name = name r;
      reaches = λ p. is_some (end_to p r) && is_some (end_from p r);
      sent = λ p. sent_by (end_to p r);
      received = λ p. received_by (end_from p r);
      fulls = λ p. fulls_by (end_to p r);
      empties = λ p. empties_by (end_from p r);
    }
