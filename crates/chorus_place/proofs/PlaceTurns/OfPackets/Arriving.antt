-- What a lawful packet says of the port that it brings.
use Rattle.std.proofs.Common.{◌≡◌, ℕ, ◌+◌, ◌^◌, ◌<◌, ◌≤◌, ◌==◌, Bool, true, ◌&&◌, ◌||◌, not, nat_le, Option, Some, None, is_none, IsNone, List, [], ◌∷◌, length, All, refl, sym, ◌∙◌, ap, arith}
use Rattle.std.specs.List.{list_all}
use Rattle.std.proofs.lemmas.Bool.{false≢true, and_parts}
use Rattle.std.proofs.lemmas.List.Elements.{All-nil, All-cons}
use Rattle.chorus_ui.specs.declared.kind.Kind.TheVariants as kinds
use Rattle.chorus_ui.specs.Layout.{has_place, has_actor, can_make_port, creation_place, place_at, site_of}
use Rattle.chorus_ui.proofs.Names.{from_same_kind}
use Rattle.chorus_entry.specs.declared.message.Message.{Message}
use Rattle.chorus_entry.specs.declared.packet.Cargo.{Cargo}
use Rattle.chorus_entry.specs.declared.packet.Packet.{Packet}
use Rattle.chorus_entry.specs.declared.record.PortRecord.{PortRecord}
use Rattle.chorus_entry.specs.ClientTable.{are_distinct as are_distinct_clients}
use Rattle.chorus_ui.specs.NameKind.{is_actor, is_port}
use Rattle.chorus_entry.specs.Ranges.{is_from, is_place_number, has_ranges_of_message, has_range_of_client, has_ranges_of_clients, has_ranges_of_record}
use Rattle.chorus_world.specs.Places.{is_made_here}
use Rattle.chorus_ports.specs.Table.{find}
use Rattle.law_machine.specs.PlaceState.{PlaceState, Turn, greatest_clock}
use Rattle.law_machine.specs.Lawful.{may_receive, is_lawful}
use Rattle.chorus_place.specs.PlaceTables.Tables.{IsSound}
use Rattle.chorus_place.specs.PlaceTables.Ports.{MayArrive}

all-sound : (ms : List Message) → list_all has_ranges_of_message ms ≡ true → All IsSound ms
all-sound [] h = All-nil IsSound
all-sound (m ∷ ms) h =
    let parts = and_parts (has_ranges_of_message m) (list_all has_ranges_of_message ms) h in
    All-cons IsSound m ms parts.0 (all-sound ms parts.1)

and_8 : (a b c d e f g h : Bool) → a && b && c && d && e && f && g && h ≡ true
    → (a ≡ true) × (b ≡ true) × (c ≡ true) × (d ≡ true) × (e ≡ true) × (f ≡ true) × (g ≡ true) × (h ≡ true)
and_8 a b c d e f g h k =
    let k7 = and_parts (a && b && c && d && e && f && g) h k in
    let k6 = and_parts (a && b && c && d && e && f) g k7.0 in
    let k5 = and_parts (a && b && c && d && e) f k6.0 in
    let k4 = and_parts (a && b && c && d) e k5.0 in
    let k3 = and_parts (a && b && c) d k4.0 in
    let k2 = and_parts (a && b) c k3.0 in
    let k1 = and_parts a b k2.0 in
    (k1.0, k1.1, k2.1, k3.1, k4.1, k5.1, k6.1, k7.1)

-- a number that is within, as a test
within : (m n : ℕ) → nat_le m n ≡ true → m ≤ n
within m n h = grind (arith, h)

none-of : (o : Option PortRecord) → is_none o ≡ true → IsNone o
none-of None h = refl
none-of (Some r) h = absurd (false≢true h)

-- at its creation place, where it was made here if that is this place
own-of : (at here : ℕ) (made : Bool) → (not (at == here) || made) ≡ true → at ≡ here → made ≡ true
own-of at here made h e = grind (arith, h, e)

pub may-arrive : (from : ℕ) (packet : Packet) (r : PortRecord) (t : Turn) → packet.cargo ≡ Cargo.Transfer r → packet.clock < 2 ^ 64
    → is_lawful from packet t.place ≡ true → packet.clock ≤ greatest_clock t → MayArrive r t
may-arrive from packet r t cargo small lawful heard = by (ap (λ x. is_lawful from (record { clock = packet.clock; from = packet.from; cargo = x }) t.place) (sym cargo) ∙ lawful)
  where
    s : PlaceState
    s = t.place

    clock : ℕ
    clock = packet.clock

    by : is_lawful from (record { clock = clock; from = packet.from; cargo = Cargo.Transfer r }) s ≡ true → MayArrive r t
    by k =
        let one = and_parts ((packet.from == from) && not (from == s.number) && has_place s.layout from && (is_place_number packet.from && has_ranges_of_record clock r)) (may_receive clock r s) k in
        let two = and_parts ((packet.from == from) && not (from == s.number) && has_place s.layout from) (is_place_number packet.from && has_ranges_of_record clock r) one.0 in
        let ranges = (and_parts (is_place_number packet.from) (has_ranges_of_record clock r) two.1).1 in
        let m = and_8 (can_make_port s.layout r.ui) (place_at s.layout (site_of s.layout s.number) r.ui == s.number) (is_none (find r.ui s.ports)) (has_actor s.layout r.actor)
        (r.actor.site == site_of s.layout s.number) (nat_le 1 r.hop) (not (creation_place s.layout r.ui == s.number) || is_made_here r.ui s.journal)
        (nat_le (r.first + length r.pending) clock) one.1 in
        let n = and_8 (is_port r.ui) (is_actor r.actor) (is_from 1 64 r.capacity) (nat_le r.hop clock) (nat_le r.first clock) (nat_le (length r.pending) r.capacity)
        (list_all has_ranges_of_message r.pending) (has_ranges_of_clients r.clients) ranges in
        let capacity = and_parts (nat_le 1 r.capacity) (nat_le r.capacity 64) n.2 in
        let clients = and_parts (nat_le (length r.clients) 64 && are_distinct_clients r.clients) (list_all has_range_of_client r.clients) n.7 in
        let few = (and_parts (nat_le (length r.clients) 64) (are_distinct_clients r.clients) clients.0).0 in
        let end = within (r.first + length r.pending) clock m.7 in
        let hop = within r.hop clock n.3 in
        record {
          kind = from_same_kind r.ui.kind kinds.Port n.0;
          can_make = m.0;
          absent = none-of (find r.ui s.ports) m.2;
          own = own-of (creation_place s.layout r.ui) s.number (is_made_here r.ui s.journal) m.6;
          limits = record {
            capacity_from_one = within 1 r.capacity capacity.0;
            capacity_in_limit = within r.capacity 64 capacity.1;
            pending_in_capacity = within (length r.pending) r.capacity n.5;
            clients_in_limit = within (length r.clients) 64 few;
            positions_in_64_bits = omega (arith, end, small);
          };
          pending = all-sound r.pending n.6;
          position = omega (arith, end, heard);
          hop = omega (arith, hop, heard);
        }
