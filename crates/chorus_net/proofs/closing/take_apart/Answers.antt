use Rattle.std.proofs.Common.{◌≡◌, ◌+◌, ◌++◌, ◌∷◌, [], List, sym, ◌∙◌, ap, length, reverse, arith, length-append}
use Rattle.std.proofs.lemmas.List.{map-append, reverse-reverse}
use Rattle.std.specs.Global.{Vec}
use Rattle.chorus_entry.specs.declared.entry.Entry.{Entry}
use Rattle.place_outbox.specs.Waiting.{count}
use Rattle.law_network.specs.Left.{placed_at}
use Rattle.chorus_place.specs.Calls.{Place}
use Rattle.chorus_merge.specs.Steps.{journals_of}
use Rattle.chorus_net.specs.Closing.{journals_in, flat, packets_of, ports_of, total_waiting, total_held}
use Rattle.chorus_net.proofs.Parts.{last-first, one-more, length-flat, length-placed}
use Rattle.chorus_net.proofs.closing.take_apart.Goals as goal

pub loop-place-preserved : goal.loop-place-preserved
loop-place-preserved c =
    let i = c.loop-place.invariant in
    let p = c.in-Some.place in
    let rev : reverse c.loop-place.places.items ≡ c.in-Some.place ∷ reverse c.pop.new.self.items = last-first c.loop-place.places.items c.pop.new.self.items c.in-Some.place c.in-Some.ensures.items in
    let journal : c.finish-journal.result.0.items ≡ reverse c.in-Some.place.journal = sym (reverse-reverse c.finish-journal.result.0.items) ∙ ap reverse c.finish-journal.ensures.journal in
    let journals : journals_of c.push_reserved.new.self.items ≡ journals_of c.loop-place.journals.items ++ reverse c.in-Some.place.journal ∷ [] =
    ap journals_of c.push_reserved.ensures.items ∙ map-append (λ (j : Vec Entry). j.items) c.loop-place.journals.items (c.finish-journal.result.0 ∷ [])
    ∙ ap (λ (j : List Entry). journals_of c.loop-place.journals.items ++ j ∷ []) journal in
    let rest : c.take_packets.new.rest.items ≡ c.loop-place.rest.items ++ flat c.in-Some.place.out.lists =
    c.take_packets.ensures.items ∙ ap (λ ls. c.loop-place.rest.items ++ flat ls) c.finish-journal.ensures.out in
    let ports : c.take_ports.new.placed.items ≡ c.loop-place.ports.items ++ placed_at c.in-Some.place.number c.in-Some.place.ports =
    c.take_ports.ensures.items ∙ ap (λ n. c.loop-place.ports.items ++ placed_at n c.finish-journal.result.2.records) c.number-number.ensures.value
    ∙ ap (λ rs. c.loop-place.ports.items ++ placed_at c.in-Some.place.number rs) c.finish-journal.ensures.ports in
    let room-journals = i.room_for_journals in
    let room-packets = i.room_for_packets in
    let room-ports = i.room_for_ports in
    let waiting : total_waiting (reverse c.loop-place.places.items) ≡ count c.in-Some.place.out.lists + total_waiting (reverse c.pop.new.self.items) = ap total_waiting rev in
    let held : total_held (reverse c.loop-place.places.items) ≡ length c.in-Some.place.ports + total_held (reverse c.pop.new.self.items) = ap total_held rev in
    let places : length c.loop-place.places.items ≡ length c.pop.new.self.items + 1 = ap (λ (ps : List Place). length ps) c.in-Some.ensures.items ∙ length-append c.pop.new.self.items (c.in-Some.place ∷ []) in
    let more-journals = c.push_reserved.ensures.len in
    let cap-journals = c.push_reserved.ensures.capacity in
    let more-rest : length c.take_packets.new.rest.items ≡ length c.loop-place.rest.items + count c.in-Some.place.out.lists =
    ap (λ xs. length xs) rest ∙ length-append c.loop-place.rest.items (flat c.in-Some.place.out.lists) ∙ ap (λ n. length c.loop-place.rest.items + n) (length-flat c.in-Some.place.out.lists) in
    let cap-rest = c.take_packets.ensures.capacity in
    let ok-rest = c.take_packets.new.rest.ok in
    let ok-rest-old = c.loop-place.rest.ok in
    let more-ports : length c.take_ports.new.placed.items ≡ length c.loop-place.ports.items + length c.in-Some.place.ports =
    ap (λ xs. length xs) ports ∙ length-append c.loop-place.ports.items (placed_at c.in-Some.place.number c.in-Some.place.ports) ∙ ap (λ n. length c.loop-place.ports.items + n) (length-placed c.in-Some.place.number c.in-Some.place.ports) in
    let cap-ports = c.take_ports.ensures.capacity in
    let ok-ports = c.take_ports.new.placed.ok in
    let ok-ports-old = c.loop-place.ports.ok in
    record {
      journals = one-more (journals_of c.loop-place.journals.items) (reverse c.in-Some.place.journal ∷ []) (journals_in (reverse c.pop.new.self.items)) _
          (ap (λ ps. journals_of c.loop-place.journals.items ++ journals_in ps) (sym rev) ∙ i.journals) (journals_of c.push_reserved.new.self.items) journals;
      rest = one-more c.loop-place.rest.items (flat c.in-Some.place.out.lists) (packets_of (reverse c.pop.new.self.items)) _
          (ap (λ ps. c.loop-place.rest.items ++ packets_of ps) (sym rev) ∙ i.rest) c.take_packets.new.rest.items rest;
      ports = one-more c.loop-place.ports.items (placed_at c.in-Some.place.number c.in-Some.place.ports) (ports_of (reverse c.pop.new.self.items)) _
          (ap (λ ps. c.loop-place.ports.items ++ ports_of ps) (sym rev) ∙ i.ports) c.take_ports.new.placed.items ports;
      room_for_journals = omega (arith, room-journals, places, more-journals, cap-journals);
      room_for_packets = omega (arith, room-packets, waiting, more-rest, cap-rest, ok-rest, ok-rest-old);
      room_for_ports = omega (arith, room-ports, held, more-ports, cap-ports, ok-ports, ok-ports-old);
    }
