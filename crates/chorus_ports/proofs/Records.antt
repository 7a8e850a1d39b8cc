-- What an offer, a take and a change of holder leave of a port: its name, its capacity, its hop and the limits.
use Rattle.std.proofs.Common.{◌≡◌, ℕ, ◌+◌, ◌-◌, ◌^◌, ◌<◌, ◌≤◌, Bool, true, false, ◌&&◌, not, nat_le, if◌then◌else◌, cond, is_some, List, [], ◌∷◌, length, refl, ap, arith, length-append}
use Rattle.std.proofs.lemmas.Bool.Decides.{nat_tests}
use Rattle.chorus_ui.specs.declared.ui.Ui.{Ui}
use Rattle.chorus_ui.specs.Name.{same_ui}
use Rattle.chorus_entry.specs.declared.message.Message.{Message}
use Rattle.chorus_entry.specs.declared.tag.Tag.{Tag}
use Rattle.chorus_entry.specs.declared.tag.Tag.TheVariants.{Plain, Request, Reply}
use Rattle.chorus_entry.specs.declared.record.PortRecord.{PortRecord}
use Rattle.chorus_ui.specs.declared.limits.TheConstants.{CLIENTS_LIMIT}
use Rattle.chorus_entry.specs.ClientTable.{number_of}
use Rattle.chorus_entry.proofs.Clients.{length-with_client}
use Rattle.chorus_ports.specs.declared.deciding.Accept.{Accept}
use Rattle.chorus_ports.specs.declared.deciding.Accept.TheVariants.{Accepted, Already, ClientsFull, Full}
use Rattle.chorus_ports.specs.Limits.{IsWithinLimits}
use Rattle.chorus_ports.specs.Deciding.{is_full, answer_to, enqueued, answered, after_offer}
use Rattle.chorus_entry.specs.Clients.{is_repeated, is_one_too_many, with_client, remembered}
use Rattle.chorus_ports.specs.Taking.{passed, after_take, rehomed}

-- the two records are of one port of one hop, with one capacity
pub record IsSamePort (port other : PortRecord) : Type 0 where
  pub ui : port.ui ≡ other.ui
  pub capacity : port.capacity ≡ other.capacity
  pub hop : port.hop ≡ other.hop

same_port-self : (port : PortRecord) → IsSamePort port port
same_port-self port = record { ui = refl; capacity = refl; hop = refl }

same_port-answered : (a : Accept) (m : Message) (port : PortRecord) → IsSamePort (answered a m port) port
same_port-answered (Accepted pos) m port = record { ui = refl; capacity = refl; hop = refl }
same_port-answered (Already back) m port = same_port-self port
same_port-answered (ClientsFull back) m port = same_port-self port
same_port-answered (Full len back) m port = same_port-self port

pub after_offer-same_port : (m : Message) (port : PortRecord) → IsSamePort (after_offer m port) port
after_offer-same_port m port = same_port-answered (answer_to m port) m port

same_port-passed : (ms : List Message) (port : PortRecord) → IsSamePort (passed ms port) port
same_port-passed [] port = same_port-self port
same_port-passed (m ∷ ms) port = record { ui = refl; capacity = refl; hop = refl }

pub after_take-same_port : (actor : Ui) (port : PortRecord) → IsSamePort (after_take actor port) port
after_take-same_port actor port = by (same_ui port.actor actor)
  where
    by : (b : Bool) → IsSamePort (if b then passed port.pending port else port) port
    by true = same_port-passed port.pending port
    by false = same_port-self port

-- a client more is remembered only where there is room
room-with_client : (clients : List (ℕ × ℕ)) (client number : ℕ) → (not (is_some (number_of clients client)) && nat_le CLIENTS_LIMIT (length clients)) ≡ false → length clients ≤ CLIENTS_LIMIT → length (with_client clients client number) ≤ CLIENTS_LIMIT
room-with_client clients client number room within =
    rw (length-with_client clients client number) (by (is_some (number_of clients client)) room)
  where
    by : (b : Bool) → (not b && nat_le CLIENTS_LIMIT (length clients)) ≡ false → length clients + cond b 0 1 ≤ CLIENTS_LIMIT
    by true room = omega (arith, within)
    by false room = grind (arith, nat_tests)

length-remembered : (client : ℕ) (tag : Tag) (clients : List (ℕ × ℕ)) → is_one_too_many client tag clients ≡ false → length clients ≤ CLIENTS_LIMIT → length (remembered client tag clients) ≤ CLIENTS_LIMIT
length-remembered client Plain clients room within = within
length-remembered client (Request number back) clients room within = room-with_client clients client number room within
length-remembered client (Reply of number) clients room within = within

limits-enqueued : (m : Message) (port : PortRecord) → IsWithinLimits port → port.first + length port.pending < 2 ^ 64 - 1 → is_one_too_many m.id.seat m.tag port.clients ≡ false → is_full port ≡ false → IsWithinLimits (enqueued m port)
limits-enqueued m port h pos room fits =
    record {
      capacity_from_one = h.capacity_from_one;
      capacity_in_limit = h.capacity_in_limit;
      pending_in_capacity = rw length-append (grind (arith, nat_tests, h.pending_in_capacity));
      clients_in_limit = length-remembered m.id.seat m.tag port.clients room h.clients_in_limit;
      positions_in_64_bits = rw length-append (omega (arith, pos));
    }

pub limits-after_offer : (m : Message) (port : PortRecord) → IsWithinLimits port → port.first + length port.pending < 2 ^ 64 - 1 → IsWithinLimits (after_offer m port)
limits-after_offer m port h pos =
    by (is_repeated m.id.seat m.tag port.clients) (is_one_too_many m.id.seat m.tag port.clients) (is_full port) refl refl
  where
    by : (r o f : Bool) → is_one_too_many m.id.seat m.tag port.clients ≡ o → is_full port ≡ f → IsWithinLimits (answered (if r then Already m else if o then ClientsFull m else if f then Full (length port.pending) m else Accepted (port.first + length port.pending)) m port)
    by true o f eo ef = h
    by false true f eo ef = h
    by false false true eo ef = h
    by false false false eo ef = limits-enqueued m port h pos eo ef

limits-passed : (ms : List Message) (port : PortRecord) → ms ≡ port.pending → IsWithinLimits port → IsWithinLimits (passed ms port)
limits-passed [] port e h = h
limits-passed (m ∷ ms) port e h =
    let long : length (m ∷ ms) ≡ length port.pending = ap length e in
    record {
      capacity_from_one = h.capacity_from_one;
      capacity_in_limit = h.capacity_in_limit;
      pending_in_capacity = omega (arith, long, h.pending_in_capacity);
      clients_in_limit = h.clients_in_limit;
      positions_in_64_bits = omega (arith, long, h.positions_in_64_bits);
    }

pub limits-after_take : (actor : Ui) (port : PortRecord) → IsWithinLimits port → IsWithinLimits (after_take actor port)
limits-after_take actor port h = by (same_ui port.actor actor)
  where
    by : (b : Bool) → IsWithinLimits (if b then passed port.pending port else port)
    by true = limits-passed port.pending port refl h
    by false = h

pub limits-rehomed : (actor : Ui) (port : PortRecord) → IsWithinLimits port → IsWithinLimits (rehomed actor port)
limits-rehomed actor port h =
    record {
      capacity_from_one = h.capacity_from_one;
      capacity_in_limit = h.capacity_in_limit;
      pending_in_capacity = h.pending_in_capacity;
      clients_in_limit = h.clients_in_limit;
      positions_in_64_bits = h.positions_in_64_bits;
    }
