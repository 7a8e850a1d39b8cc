-- A turn with a packet.
use Rattle.std.proofs.Common.{ℕ, ◌≡◌, ◌≤◌, ◌+◌, ◌==◌, nat_le, true, ◌&&◌, ◌||◌, not, List, [], ◌∷◌, ◌++◌, length, Option, IfSome, is_none, refl, arith, leb-true, All}
use Rattle.std.proofs.lemmas.Bool.{and_parts, and_from}
use Rattle.std.proofs.lemmas.List.Elements.{All-nil, All-cons, All-drop, All-push}
use Rattle.chorus_ui.specs.declared.ui.Ui.{Ui}
use Rattle.chorus_ui.specs.Layout.{has_place, can_make_port, place_at, site_of, has_actor, creation_place}
use Rattle.chorus_entry.specs.declared.id.MsgId.{MsgId}
use Rattle.chorus_entry.specs.declared.message.Message.{Message}
use Rattle.chorus_entry.specs.declared.dest.Dest.{Dest}
use Rattle.chorus_entry.specs.declared.dest.Dest.TheVariants as dests
use Rattle.chorus_entry.specs.declared.act.Act.{Act}
use Rattle.chorus_entry.specs.declared.answer.Answer.{Answer}
use Rattle.chorus_entry.specs.declared.answer.Answer.TheVariants as A
use Rattle.chorus_entry.specs.declared.packet.Packet.{Packet}
use Rattle.chorus_entry.specs.declared.packet.Cargo.{Cargo}
use Rattle.chorus_entry.specs.declared.packet.Cargo.TheVariants as cargos
use Rattle.chorus_entry.specs.declared.record.PortRecord.{PortRecord}
use Rattle.chorus_ui.specs.NameKind.{is_port, is_group}
use Rattle.chorus_entry.specs.Ranges.{is_place_number, is_site_number, has_range_of_id, has_ranges_of_message, is_route, is_demanded_site, has_ranges_of_answer, is_told, has_ranges_of_record, is_asked, has_ranges_of_cargo, has_ranges}
use Rattle.chorus_world.specs.Places.{taught, is_made_here}
use Rattle.chorus_ports.specs.Table.{find}
use Rattle.chorus_hints.specs.Known.{learned}
use Rattle.place_unsettled.specs.declared.wait.Key.{Key}
use Rattle.place_unsettled.specs.declared.wait.Wait.{Wait}
use Rattle.place_unsettled.specs.Queues.{changed}
use Rattle.place_unsettled.specs.Unheard.{heard}
use Rattle.law_machine.specs.PlaceState.{Turn, greatest_clock, next_clock, unchanged, say}
use Rattle.law_machine.specs.Deciding.{decide, decision, records_after}
use Rattle.law_machine.specs.Working.{answers_try, taught_of, told, report_of, hears_verdict, receives_port, answers_ask, hears, opens}
use Rattle.law_machine.specs.Lawful.{is_lawful_cargo, is_lawful}
use Rattle.law_machine.specs.PlaceMachine.{work}
use Rattle.law_bounds.specs.Bounds.{IsPortWithin, IsPairWithin, IsWaitWithin, IsTurnWithin}
use Rattle.law_bounds.proofs.Ranges.{answer-later, message-parts}
use Rattle.law_bounds.proofs.Ports as ports
use Rattle.law_bounds.proofs.Entries.{IsLoadWithin, clock-later, says, ports-still, known-still, members-still, learned-within, waiting-changed}
use Rattle.law_bounds.proofs.Trying.{IsDecided, decided, decision-mute, report-within, go-within}
use Rattle.law_bounds.proofs.Groups.{chooses-within}

module _ (t : Turn) (h : IsTurnWithin t) where
  try-within : (from : ℕ) (m : Message) (q : Ui) (route : Option Ui) (only : Option ℕ) (hop : ℕ) → has_ranges_of_message m ≡ true → is_port q ≡ true → is_route route ≡ true → hop ≤ greatest_clock t
      → IsTurnWithin (answers_try from m q route hop (decide m q only hop t.place) t)
  try-within from m q route only hop message named way le =
      says (decision m.id q hop a) (record (unchanged t) {
        ports = records_after a m q t.place.ports;
        loads = (from, Cargo.Verdict m.id q route a) ∷ [];
      }) t h (record {
        ports = d.records;
        known = known-still t h;
        waiting = h.place.waiting;
        members = members-still (decision m.id q hop a) t (decision-mute m.id q hop a) h;
        loads =
            All-cons (IsLoadWithin (next_clock t)) (from, Cargo.Verdict m.id q route a) []
            (and_from (has_range_of_id m.id && is_port q && is_route route && is_told a) (has_ranges_of_answer (next_clock t) a)
            (and_from (has_range_of_id m.id && is_port q && is_route route) (is_told a)
            (and_from (has_range_of_id m.id && is_port q) (is_route route) (and_from (has_range_of_id m.id) (is_port q) (message-parts m message).id named) way) d.told)
            (answer-later (greatest_clock t) (next_clock t) a (omega arith) d.ranges)) (All-nil (IsLoadWithin (next_clock t)));
      })
    where
      a : Answer
      a = decide m q only hop t.place

      d : IsDecided (greatest_clock t) m q a t.place.ports
      d = decided (greatest_clock t) t.place m q only hop h.place message (clock-later t) le

  taught-within : (q : Ui) (a : Answer) → has_ranges_of_answer (next_clock t) a ≡ true → (u : Ui) → IfSome (taught_of q (taught a) t.place.known u) (IsPairWithin (next_clock t))
  taught-within q (A.Stale to hop) r =
      let two = and_parts (is_place_number to) (nat_le hop (next_clock t)) r in
      learned-within (next_clock t) q to hop t.place.known two.0 (leb-true hop (next_clock t) two.1) (known-still t h)
  taught-within q (A.Elsewhere to hop) r =
      let two = and_parts (is_place_number to) (nat_le hop (next_clock t)) r in
      learned-within (next_clock t) q to hop t.place.known two.0 (leb-true hop (next_clock t) two.1) (known-still t h)
  taught-within q _ r = known-still t h

  told-within : (k : Key) (a : Answer) → All (IsWaitWithin k) (told a (t.place.waiting k)).waits
  told-within k (A.Stale to hop) = h.place.waiting k
  told-within k _ = All-drop (IsWaitWithin k) 1 (t.place.waiting k).waits (h.place.waiting k)

  verdict-heard : (x : MsgId) (k : Key) (a : Answer) → has_range_of_id x ≡ true → has_ranges_of_answer (next_clock t) a ≡ true → IsTurnWithin (hears_verdict x k a t)
  verdict-heard x k a id r =
      go-within k (say (Act.Told x a) (record (unchanged t) {
        known = taught_of k.port (taught a) t.place.known;
        waiting = changed k (told a) t.place.waiting;
        loads = report_of t.place.number x a (t.place.waiting k).waits;
      }) t)
      (says (Act.Told x a) (record (unchanged t) {
        known = taught_of k.port (taught a) t.place.known;
        waiting = changed k (told a) t.place.waiting;
        loads = report_of t.place.number x a (t.place.waiting k).waits;
      }) t h (record {
        ports = ports-still t h;
        known = taught-within k.port a r;
        waiting = waiting-changed k (told a) t.place.waiting h.place.waiting (told-within k a);
        members = h.place.members;
        loads = loads (t.place.waiting k).waits;
      }))
    where
      loads : (ws : List Wait) → All (IsLoadWithin (next_clock t)) (report_of t.place.number x a ws)
      loads [] = All-nil (IsLoadWithin (next_clock t))
      loads (w ∷ ws) = report-within (next_clock t) t.place.number w.home x a id r

  port-received : (clock : ℕ) (port : PortRecord) → clock ≤ greatest_clock t → has_ranges_of_record clock port ≡ true → port.first + length port.pending ≤ clock → IsTurnWithin (receives_port port t)
  port-received clock port le r end =
      let fits = ports.later clock (next_clock t) port (omega (arith, le)) (record { ranges = r; position = end }) in
      let p = ports.parts (next_clock t) port fits in
      says (Act.Arrive port.ui port.hop) (record (unchanged t) {
        ports = t.place.ports ++ port ∷ [];
        known = learned port.ui t.place.number port.hop t.place.known;
      }) t h (record {
        ports = All-push (IsPortWithin (next_clock t)) t.place.ports port (ports-still t h) fits;
        known = learned-within (next_clock t) port.ui t.place.number port.hop t.place.known h.place.number (leb-true port.hop (next_clock t) p.hop) (known-still t h);
        waiting = h.place.waiting;
        members = h.place.members;
        loads = All-nil (IsLoadWithin (next_clock t));
      })

  ask-answered : (from : ℕ) (m : Message) (d : Dest) → is_asked d ≡ true → has_ranges_of_message m ≡ true → IsTurnWithin (answers_ask from m d t)
  ask-answered from m (dests.Port q) asked message = h
  ask-answered from m (dests.All g) asked message = chooses-within m (dests.All g) g from message asked refl t h
  ask-answered from m (dests.One g) asked message = chooses-within m (dests.One g) g from message asked refl t h
  ask-answered from m (dests.OneAt g site) asked message =
      let two = and_parts (is_group g) (is_site_number site) asked in chooses-within m (dests.OneAt g site) g from message two.0 two.1 t h

  report-heard : (x : MsgId) (a : Answer) → IsTurnWithin (hears x a t)
  report-heard x a =
      says (Act.Heard x a) (record (unchanged t) { unheard = heard x t.place.unheard }) t h (record {
        ports = ports-still t h;
        known = known-still t h;
        waiting = h.place.waiting;
        members = h.place.members;
        loads = All-nil (IsLoadWithin (next_clock t));
      })

  opens-within : (clock from : ℕ) (k : Cargo) → clock ≤ greatest_clock t → has_ranges_of_cargo clock k ≡ true → is_lawful_cargo clock from k t.place ≡ true → IsTurnWithin (opens from k t)
  opens-within clock from (cargos.Try m q route only hop) le r lawful =
      let five = and_parts (is_route route && is_demanded_site only && nat_le hop clock && is_port q) (has_ranges_of_message m) r in
      let four = and_parts (is_route route && is_demanded_site only && nat_le hop clock) (is_port q) five.0 in
      let three = and_parts (is_route route && is_demanded_site only) (nat_le hop clock) four.0 in
      let two = and_parts (is_route route) (is_demanded_site only) three.0 in
      let low = leb-true hop clock three.1 in
      try-within from m q route only hop five.1 four.1 two.0 (omega (arith, low, le))
  opens-within clock from (cargos.Verdict x q route a) le r lawful =
      let five = and_parts (has_range_of_id x && is_port q && is_route route && is_told a) (has_ranges_of_answer clock a) r in
      let four = and_parts (has_range_of_id x && is_port q && is_route route) (is_told a) five.0 in
      let three = and_parts (has_range_of_id x && is_port q) (is_route route) four.0 in
      verdict-heard x (record { port = q; route = route }) a (and_parts (has_range_of_id x) (is_port q) three.0).0 (answer-later clock (next_clock t) a (omega (arith, le)) five.1)
  opens-within clock from (cargos.Transfer port) le r lawful =
      port-received clock port le r (leb-true (port.first + length port.pending) clock (and_parts
      (can_make_port t.place.layout port.ui && (place_at t.place.layout (site_of t.place.layout t.place.number) port.ui == t.place.number)
      && is_none (find port.ui t.place.ports)
      && has_actor t.place.layout port.actor && (port.actor.site == site_of t.place.layout t.place.number)
      && nat_le 1 port.hop
      && (not (creation_place t.place.layout port.ui == t.place.number) || is_made_here port.ui t.place.journal)) (nat_le (port.first + length port.pending) clock) lawful).1)
  opens-within clock from (cargos.Ask m d) le r lawful =
      let two = and_parts (is_asked d) (has_ranges_of_message m) r in ask-answered from m d two.0 two.1
  opens-within clock from (cargos.Report x a) le r lawful = report-heard x a

pub work-within : (k : Packet) (t : Turn) → is_lawful k.from k t.place ≡ true → k.clock ≤ greatest_clock t → IsTurnWithin t → IsTurnWithin (work k t)
work-within k t lawful le h =
    let five = and_parts ((k.from == k.from) && not (k.from == t.place.number) && has_place t.place.layout k.from && has_ranges k) (is_lawful_cargo k.clock k.from k.cargo t.place) lawful in
    let four = and_parts ((k.from == k.from) && not (k.from == t.place.number) && has_place t.place.layout k.from) (has_ranges k) five.0 in
    let two = and_parts (is_place_number k.from) (has_ranges_of_cargo k.clock k.cargo) four.1 in
    opens-within t h k.clock k.from k.cargo le two.1 five.1
