-- What a lawful packet says of what it brings.
use Rattle.std.proofs.Common.{◌≡◌, ℕ, ◌^◌, ◌<◌, ◌≤◌, ◌==◌, true, ◌&&◌, not, nat_le, slice_get, None, IsSome, List, [], ◌∷◌, refl, arith}
use Rattle.std.proofs.lemmas.Bool.{false≢true, and_parts}
use Rattle.chorus_ui.specs.declared.ui.Ui.{Ui}
use Rattle.chorus_ui.specs.declared.layout.Layout.{Layout}
use Rattle.chorus_ui.specs.declared.kind.Kind.TheVariants as kinds
use Rattle.chorus_ui.specs.Layout.{has_place, can_make_port}
use Rattle.chorus_ui.proofs.Names.{from_same_kind}
use Rattle.chorus_entry.specs.declared.id.MsgId.{MsgId}
use Rattle.chorus_entry.specs.declared.answer.Answer.{Answer}
use Rattle.chorus_entry.specs.declared.answer.Answer.TheVariants as A
use Rattle.chorus_entry.specs.declared.packet.Cargo.{Cargo}
use Rattle.chorus_entry.specs.declared.packet.Packet.{Packet}
use Rattle.chorus_entry.specs.declared.dest.Dest.{Dest}
use Rattle.chorus_entry.specs.declared.dest.Dest.TheVariants as D
use Rattle.chorus_entry.specs.Dest.{port_in}
use Rattle.chorus_ui.specs.NameKind.{is_port}
use Rattle.chorus_entry.specs.Same.{is_number}
use Rattle.chorus_entry.specs.Ranges.{is_place_number, is_route, is_demanded_site, is_told, is_reported, is_asked, has_range_of_id, has_ranges_of_message, has_ranges_of_answer, has_ranges_of_cargo, has_ranges}
use Rattle.chorus_world.specs.Places.{taught}
use Rattle.place_unsettled.specs.declared.wait.Wait.{Wait}
use Rattle.law_machine.specs.PlaceState.{PlaceState, Turn, greatest_clock}
use Rattle.law_machine.specs.Lawful.{is_first_of, is_under_way, is_known_answer, may_teach, is_lawful_cargo, is_lawful}
use Rattle.chorus_place.specs.PlaceTables.Steps.{MayTeach}
use Rattle.chorus_place.specs.PlaceTurns.OfPackets.Opening.{MayHear, MayOpen}
use Rattle.chorus_place.proofs.PlaceTurns.OfPackets.Arriving.{may-arrive}

-- a number that is within, as a test
within : (m n : ℕ) → nat_le m n ≡ true → m ≤ n
within m n h = grind (arith, h)

first-there : (x : MsgId) (ws : List Wait) → is_first_of x ws ≡ true → IsSome (slice_get ws 0)
first-there x [] h = absurd (false≢true h)
first-there x (w ∷ ws) h = refl

teaches : (l : Layout) (q : Ui) (a : Answer) → is_known_answer l a ≡ true → may_teach l q a ≡ true → MayTeach l q (taught a)
teaches l q (A.Accepted n) k h = tt
teaches l q (A.Full n) k h = tt
teaches l q (A.Stale to hop) k h = ((and_parts (can_make_port l q) (nat_le 1 hop) h).0, k)
teaches l q (A.Early hop) k h = tt
teaches l q A.NoPort k h = tt
teaches l q A.Already k h = tt
teaches l q A.ClientsFull k h = tt
teaches l q (A.Elsewhere to hop) k h = ((and_parts (can_make_port l q) (nat_le 1 hop) h).0, k)
teaches l q A.NoMember k h = tt
teaches l q (A.Chosen n) k h = tt
teaches l q A.Gone k h = tt

is-asked : (d : Dest) → is_asked d ≡ true → port_in d ≡ None
is-asked (D.Port q) h = absurd (false≢true h)
is-asked (D.All g) h = refl
is-asked (D.One g) h = refl
is-asked (D.OneAt g site) h = refl

pub may-hear : (packet : Packet) (t : Turn) → is_lawful packet.from packet t.place ≡ true → MayHear packet.from packet.cargo t
may-hear packet t lawful = by packet.cargo ranges.1 one.1
  where
    s : PlaceState
    s = t.place

    from : ℕ
    from = packet.from

    clock : ℕ
    clock = packet.clock

    one : ((packet.from == from) && not (from == s.number) && has_place s.layout from && has_ranges packet ≡ true) × (is_lawful_cargo clock from packet.cargo s ≡ true)
    one = and_parts ((packet.from == from) && not (from == s.number) && has_place s.layout from && has_ranges packet) (is_lawful_cargo clock from packet.cargo s) lawful

    two : ((packet.from == from) && not (from == s.number) && has_place s.layout from ≡ true) × (has_ranges packet ≡ true)
    two = and_parts ((packet.from == from) && not (from == s.number) && has_place s.layout from) (has_ranges packet) one.0

    here : has_place s.layout from ≡ true
    here = (and_parts ((packet.from == from) && not (from == s.number)) (has_place s.layout from) two.0).1

    ranges : (is_place_number from ≡ true) × (has_ranges_of_cargo clock packet.cargo ≡ true)
    ranges = and_parts (is_place_number from) (has_ranges_of_cargo clock packet.cargo) two.1

    by : (cargo : Cargo) → has_ranges_of_cargo clock cargo ≡ true → is_lawful_cargo clock from cargo s ≡ true → MayHear from cargo t
    by (Cargo.Try m q route only tried) r k =
        let a = and_parts (is_route route && is_demanded_site only && nat_le tried clock && is_port q) (has_ranges_of_message m) r in
        let b = and_parts (is_route route && is_demanded_site only && nat_le tried clock) (is_port q) a.0 in
        record { kind = from_same_kind q.kind kinds.Port b.1; site = k; place = here; sound = a.1 }
    by (Cargo.Verdict x q route answer) r k =
        let a = and_parts (has_range_of_id x && is_port q && is_route route && is_told answer) (has_ranges_of_answer clock answer) r in
        let b = and_parts (has_range_of_id x && is_port q && is_route route) (is_told answer) a.0 in
        let c = and_parts (has_range_of_id x && is_port q) (is_route route) b.0 in
        let d = and_parts (has_range_of_id x) (is_port q) c.0 in
        let queue = s.waiting (record { port = q; route = route }) in
        let f = and_parts (is_under_way x from queue && is_known_answer s.layout answer) (may_teach s.layout q answer) k in
        let g = and_parts (is_under_way x from queue) (is_known_answer s.layout answer) f.0 in
        let h = and_parts (is_first_of x queue.waits) (is_number from queue.tried) g.0 in
        record { kind = from_same_kind q.kind kinds.Port d.1; teaches = teaches s.layout q answer g.1 f.1; first = first-there x queue.waits h.0 }
    by (Cargo.Transfer port) r k = tt
    by (Cargo.Ask m d) r k =
        let a = and_parts (is_asked d) (has_ranges_of_message m) r in
        record { group = is-asked d a.0; place = here; sound = a.1 }
    by (Cargo.Report x answer) r k =
        let a = and_parts (has_range_of_id x && is_reported answer) (has_ranges_of_answer clock answer) r in
        let b = and_parts (has_range_of_id x) (is_reported answer) a.0 in
        let c = and_parts (nat_le 1 x.number) (nat_le x.copy 32) b.0 in
        within x.copy 32 c.1

pub may-open : (packet : Packet) (t : Turn) → is_lawful packet.from packet t.place ≡ true → packet.clock < 2 ^ 64 → packet.clock ≤ greatest_clock t
    → MayOpen packet.from packet.cargo t
may-open packet t lawful small heard = by packet.cargo refl (may-hear packet t lawful)
  where
    by : (cargo : Cargo) → packet.cargo ≡ cargo → MayHear packet.from cargo t → MayOpen packet.from cargo t
    by (Cargo.Try m q route only tried) e h = h
    by (Cargo.Verdict x q route answer) e h = h
    by (Cargo.Transfer port) e h = may-arrive packet.from packet port t e small lawful heard
    by (Cargo.Ask m d) e h = h
    by (Cargo.Report x answer) e h = h
