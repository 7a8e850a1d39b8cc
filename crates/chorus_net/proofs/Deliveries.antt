-- A delivery: a packet is taken out at one place, and worked off at another, or put back.
use Rattle.std.proofs.Common.{ℕ, zero, suc, ◌≡◌, ◌≢◌, ◌+◌, ◌<◌, ◌≤◌, ◌==◌, nat_lt, Bool, true, false, ◌&&◌, not, List, [], ◌∷◌, length, map, get_or, set, Option, Some, None, is_some, slice_get, Result, Ok, Err, ◌↔◌, refl, sym, ◌∙◌, ap, subst, arith}
use Rattle.std.specs.List.{All}
use Rattle.std.proofs.lemmas.Option.{same_Some, none-some}
use Rattle.chorus_ui.specs.declared.limits.TheConstants.{CLOCK_LIMIT}
use Rattle.chorus_place.specs.declared.fault.PlaceFault.{PlaceFault}
use Rattle.chorus_place.specs.declared.fault.PlaceFault.TheVariants as faults
use Rattle.std.proofs.lemmas.Bool.{and_parts, and_from, ne_eqb, eqb-true, ltb-true, ltb-false}
use Rattle.std.proofs.lemmas.List.{length-set, set-get_or, set-set, get_or-set_same, get_or-set_other}
use Rattle.chorus_ui.specs.Layout.{has_place, places}
use Rattle.chorus_entry.specs.declared.packet.Packet.{Packet}
use Rattle.chorus_entry.specs.Ranges.{has_ranges}
use Rattle.chorus_calls.specs.Callers.{Seated}
use Rattle.place_outbox.specs.Waiting.{list_to, with_first, without_first}
use Rattle.law_machine.specs.declared.outgoing.Outgoing.{Outgoing}
use Rattle.law_machine.specs.PlaceState.{PlaceState, greatest_clock}
use Rattle.law_machine.specs.PlaceMachine.{begun_by, work}
use Rattle.law_machine.specs.Lawful.{is_lawful, is_lawful_cargo}
use Rattle.law_machine.proofs.Machine.Stays.{work-stays}
use Rattle.law_network.specs.declared.delivery.Delivered.{Delivered}
use Rattle.law_network.specs.Packets.{put_all, first_on, rest_on}
use Rattle.law_network.specs.Network.{NetState, Deliver, place, place_in, with_place, ended, works_off, delivered, delivery, delivery_of, happened}
use Rattle.law_network.specs.History.{put_by, put_in, taken_at, taken_on}
use Rattle.law_network.specs.Schedules.{may_happen}
use Rattle.law_network.specs.Calls.{compared_at, compared_on}
use Rattle.law_network.proofs.Promises.AllPromises.{delivers-lawfully}
use Rattle.chorus_place.specs.Calls.{Place, state, Ended, Stays}
use Rattle.chorus_net.specs.Sites.{SitesState, waiting_in, boxes, net, AllFrom, IsPlaceOf, ArePlaces, IsSites}
use Rattle.chorus_net.proofs.Boxes.{IsPut, first-is, rest-is, put-back-is, without-keeps}
use Rattle.chorus_net.proofs.Changes.{place-of, are-set, finds, still, are-boxes, box-of, boxes-set-is, length-boxes}
use Rattle.chorus_net.proofs.Events.{next-event, next-between, are-put, turned-are, turned-places, turned-packets, stayed-are, stayed-boxes}
use Rattle.chorus_net.proofs.Puts.{work-from, work-ticks}
use Rattle.chorus_net.specs.Room.{UsesRoom, count_from, puts_in}
use Rattle.chorus_net.proofs.Rooms.{uses-set, uses-on, turn-uses}

-- one of two places is as it was set, where the other one was set behind it
pub set-apart : (ps : List Place) (a b i j : ℕ) (p q d : Place) → a ≡ 1 + i → b ≡ 1 + j → i < length ps → a ≢ b → get_or (set (set ps i p) j q) i d ≡ p
set-apart ps a b i j p q d from to lt apart =
    get_or-set_other (set ps i p) j i q d (λ e. apart (let f : a ≡ b = omega (arith, from, to, e) in f)) ∙ get_or-set_same ps i p d lt

pub none-without : (b : ℕ) (ls : List (List Packet)) → slice_get (list_to b ls) 0 ≡ None → without_first b ls ≡ ls
none-without b [] h = refl
none-without zero ([] ∷ ls) h = refl
none-without zero ((x ∷ l) ∷ ls) h = absurd (cc)
none-without (suc b) (l ∷ ls) h = ap (λ ks. l ∷ ks) (none-without b ls h)

module _ (s : SitesState) (a b i j : ℕ) (x : Seated) (p p' : Place) (h : IsSites s) (from : a ≡ 1 + i) (to : b ≡ 1 + j) (lt : i < length s.places) (lt' : j < length s.places)
    (apart : a ≢ b) (at : p ≡ get_or s.places i p) (found : slice_get s.callers 0 ≡ Some x) (has : has_place s.layout a ≡ true) (has' : has_place s.layout b ≡ true)
    (st : state p' ≡ state p) (out : p'.out.lists ≡ without_first b p.out.lists) where
  of : IsPlaceOf s.layout (1 + i) p
  of = subst (IsPlaceOf s.layout (1 + i)) (sym at) (place-of s.layout 1 i s.places p h.places lt)

  low : b < places s.layout + 1
  low = let n = h.all in omega (arith, n, to, lt')

  lb : i < length (boxes s.places)
  lb = let n = length-boxes s.places in omega (arith, n, lt)

  box : get_or (boxes s.places) i [] ≡ p.out.lists
  box = box-of s.places i p at lt

  pub taken-are : ArePlaces s.layout 1 (set s.places i p')
  taken-are =
      let keeps = without-keeps (1 + i) b p.out.lists of.from in
      are-set s.layout 1 i s.places p' h.places record {
        number = ap (λ (z : PlaceState). z.number) st ∙ of.number;
        layout = ap (λ (z : PlaceState). z.layout) st ∙ of.layout;
        lists = ap length out ∙ keeps.0 ∙ of.lists;
        from = subst (AllFrom (1 + i)) (sym out) keeps.1;
      }

  taken-places : map state (set s.places i p') ≡ map state s.places
  taken-places = still s.places i p p' at lt st

  taken-packets : rest_on a b (waiting_in (boxes s.places)) ≡ waiting_in (boxes (set s.places i p'))
  taken-packets =
      rest-is a b i (places s.layout + 1) 1 (boxes s.places) (are-boxes s.layout 1 s.places h.places) lb from low
      ∙ ap (λ ls. waiting_in (set (boxes s.places) i (without_first b ls))) box
      ∙ ap (λ ls. waiting_in (set (boxes s.places) i ls)) (sym out)
      ∙ ap waiting_in (sym (boxes-set-is s.places i p'))

  pub first : first_on a b (waiting_in (boxes s.places)) ≡ slice_get (list_to b p.out.lists) 0
  first =
      first-is a b i (places s.layout + 1) 1 (boxes s.places) (are-boxes s.layout 1 s.places h.places) lb from low
      ∙ ap (λ ls. slice_get (list_to b ls) 0) box

  pub delivery-may : may_happen (Deliver 0 a b) (net s) ≡ true
  delivery-may =
      let one = and_from (is_some (slice_get s.callers 0)) (has_place s.layout a) (ap is_some found) has in
      let two = and_from (is_some (slice_get s.callers 0) && has_place s.layout a) (has_place s.layout b) one has' in
      and_from (is_some (slice_get s.callers 0) && has_place s.layout a && has_place s.layout b) (not (a == b)) two (ap not (ne_eqb a b apart))

  pub taken-uses : (f : ℕ → ℕ) → p.spare ≤ p'.spare → UsesRoom f s.places (set s.places i p')
  taken-uses f room =
      uses-set f s.places i p p' at (ap (λ (z : PlaceState). z.number) st)
      (let j = ap (λ (z : PlaceState). length z.journal) st in omega (arith, j, room))

  -- Nothing waits.

  module _ (none : slice_get (list_to b p.out.lists) 0 ≡ None) where
    still-boxes : boxes (set s.places i p') ≡ boxes s.places
    still-boxes = boxes-set-is s.places i p' ∙ ap (set (boxes s.places) i) (out ∙ none-without b p.out.lists none ∙ sym box) ∙ set-get_or (boxes s.places) i []

    pub idle-net : net (record { layout = s.layout; mark = s.mark; places = set s.places i p'; callers = s.callers }) ≡ net s
    idle-net = λ k. record { layout = s.layout; places = taken-places k; packets = waiting_in (still-boxes k); callers = s.callers }

    pub idle-sites : IsSites (record { layout = s.layout; mark = s.mark; places = set s.places i p'; callers = s.callers })
    idle-sites = record {
      shape = h.shape;
      places = taken-are;
      all = length-set s.places i p' ∙ h.all;
      scheduled = record { events = h.scheduled.events; may = h.scheduled.may; is = idle-net ∙ h.scheduled.is };
      some_seat = h.some_seat;
      few_seats = h.few_seats;
    }

    pub idle-event : happened (Deliver 0 a b) (net s) ≡ net s
    idle-event = ap (λ o. delivered 0 a b o (net s)) found ∙ ap (λ o. works_off 0 a b x o (net s)) (first ∙ none)

    pub idle-answer : Delivered.Nothing ≡ delivery a b (net s)
    idle-answer = sym (ap delivery_of (first ∙ none))

    pub idle-compared : compared_at 0 a b (net s) ≡ None
    idle-compared = ap (λ o. compared_on b o (first_on a b (waiting_in (boxes s.places))) (net s)) found ∙ ap (λ o. compared_on b (Some x) o (net s)) (first ∙ none)

  -- A packet waits.

  module _ (k : Packet) (r : Place) (some : slice_get (list_to b p.out.lists) 0 ≡ Some k) (rt : r ≡ get_or (set s.places i p') j r) where
    lt1 : j < length (set s.places i p')
    lt1 = let n = length-set s.places i p' in omega (arith, n, lt')

    of-r : IsPlaceOf s.layout (1 + j) r
    of-r = subst (IsPlaceOf s.layout (1 + j)) (sym rt) (place-of s.layout 1 j (set s.places i p') r taken-are lt1)

    r-found : place b (net s) ≡ state r
    r-found = ap (place_in s.layout b) (sym taken-places) ∙ finds s.layout s.layout 1 j b (set s.places i p') r taken-are lt1 to rt

    pub served-answer : Delivered.Served ≡ delivery a b (net s)
    served-answer = sym (ap delivery_of (first ∙ some))

    pub served-compared : compared_at 0 a b (net s) ≡ Some (greatest_clock (begun_by (state r) x k))
    served-compared =
        ap (λ o. compared_on b o (first_on a b (waiting_in (boxes s.places))) (net s)) found ∙ ap (λ o. compared_on b (Some x) o (net s)) (first ∙ some)
        ∙ ap (λ z. Some (greatest_clock (begun_by z x k))) r-found

    lawful-from : is_lawful a k (place b (net s)) ≡ true
    lawful-from =
        ap (λ (n : NetState). is_lawful a k (place b n)) h.scheduled.is
        ∙ delivers-lawfully s.layout h.scheduled.events h.shape h.scheduled.may a b k (ap (λ (n : NetState). first_on a b n.packets) (sym h.scheduled.is) ∙ first ∙ some)

    -- it is lawful, by the law
    pub lawful : is_lawful k.from k (state r) ≡ true
    lawful =
        let z = state r in
        let here : is_lawful a k (state r) ≡ true = ap (is_lawful a k) (sym r-found) ∙ lawful-from in
        let one = and_parts ((k.from == a) && not (a == z.number) && has_place z.layout a && has_ranges k) (is_lawful_cargo k.clock a k.cargo z) here in
        let two = and_parts ((k.from == a) && not (a == z.number) && has_place z.layout a) (has_ranges k) one.0 in
        let three = and_parts ((k.from == a) && not (a == z.number)) (has_place z.layout a) two.0 in
        let four = and_parts (k.from == a) (not (a == z.number)) three.0 in
        subst (λ n. is_lawful n k (state r) ≡ true) (sym (eqb-true k.from a four.0)) here

    event-is : happened (Deliver 0 a b) (net s) ≡ ended 0 (work k (begun_by (state r) x k)) (record (net s) { packets = rest_on a b (waiting_in (boxes s.places)) })
    event-is =
        ap (λ o. delivered 0 a b o (net s)) found ∙ ap (λ o. works_off 0 a b x o (net s)) (first ∙ some)
        ∙ ap (λ z. ended 0 (work k (begun_by z x k)) (record (net s) { packets = rest_on a b (waiting_in (boxes s.places)) })) r-found

    -- what the delivery puts
    pub worked-puts : put_by (Deliver 0 a b) (net s) ≡ (work k (begun_by (state r) x k)).puts
    worked-puts =
        ap (λ o. put_in (taken_at a b o (net s))) found ∙ ap (λ o. put_in (taken_on b x o (net s))) (first ∙ some)
        ∙ ap (λ z. (work k (begun_by z x k)).puts) r-found

    puts : All (IsPut (1 + j) (places s.layout + 1)) (work k (begun_by (state r) x k)).puts
    puts =
        are-put s.layout j (work k (begun_by (state r) x k)).puts (rest_on a b (waiting_in (boxes s.places)))
        (subst (λ n. All (λ (o : Outgoing). o.packet.from ≡ n) (work k (begun_by (state r) x k)).puts) of-r.number (work-from k (begun_by (state r) x k) refl))
        (next-between s.layout (net s) _ (Deliver 0 a b) h.shape h.scheduled delivery-may event-is)

    module _ (q : Place) (y : Seated) (e : Ended (work k (begun_by (state r) x k)) r q y) where
      stays : (work k (begun_by (state r) x k)).place.number ≡ r.number
      stays = (work-stays k (begun_by (state r) x k)).number

      stays-layout : (work k (begun_by (state r) x k)).place.layout ≡ r.layout
      stays-layout = (work-stays k (begun_by (state r) x k)).layout

      pub worked-net : net (record { layout = s.layout; mark = s.mark; places = set (set s.places i p') j q; callers = set s.callers 0 y }) ≡ happened (Deliver 0 a b) (net s)
      worked-net =
          let t = work k (begun_by (state r) x k) in
          let one : with_place (work k (begun_by (state r) x k)).place (map state s.places) ≡ map state (set (set s.places i p') j q) =
          ap (with_place (work k (begun_by (state r) x k)).place) (sym taken-places)
          ∙ turned-places s.layout (set s.places i p') j r q t x y taken-are lt1 rt puts e stays stays-layout in
          let two : put_all (work k (begun_by (state r) x k)).puts (rest_on a b (waiting_in (boxes s.places))) ≡ waiting_in (boxes (set (set s.places i p') j q)) =
          ap (put_all (work k (begun_by (state r) x k)).puts) taken-packets
          ∙ turned-packets s.layout (set s.places i p') j r q t x y taken-are lt1 rt puts e stays stays-layout in
          let same : net (record { layout = s.layout; mark = s.mark; places = set (set s.places i p') j q; callers = set s.callers 0 y })
          ≡ ended 0 (work k (begun_by (state r) x k)) (record (net s) { packets = rest_on a b (waiting_in (boxes s.places)) }) =
          (λ n. record { layout = s.layout; places = sym one n; packets = sym two n; callers = set s.callers 0 (e.caller_is n) }) in
          same ∙ sym event-is

      pub worked-sites : IsSites (record { layout = s.layout; mark = s.mark; places = set (set s.places i p') j q; callers = set s.callers 0 y })
      worked-sites = record {
        shape = h.shape;
        places = turned-are s.layout (set s.places i p') j r q (work k (begun_by (state r) x k)) x y taken-are lt1 rt puts e stays stays-layout;
        all = length-set (set s.places i p') j q ∙ length-set s.places i p' ∙ h.all;
        scheduled = next-event s.layout (net s) _ (Deliver 0 a b) h.scheduled delivery-may worked-net;
        some_seat = (let n = length-set s.callers 0 y in let o = h.some_seat in omega (arith, n, o));
        few_seats = (let n = length-set s.callers 0 y in let o = h.few_seats in omega (arith, n, o));
      }

      -- the room that it uses
      pub worked-uses : p.spare ≤ p'.spare → UsesRoom (puts_in (Deliver 0 a b) (net s)) s.places (set (set s.places i p') j q)
      worked-uses room =
          uses-on (puts_in (Deliver 0 a b) (net s)) s.places (set s.places i p') (set (set s.places i p') j q) (taken-uses (λ n. 0) room)
          (subst (λ os. UsesRoom (λ n. count_from n os) (set s.places i p') (set (set s.places i p') j q)) (sym worked-puts)
          (turn-uses (work k (begun_by (state r) x k)) (set s.places i p') j r q y rt e stays (work-from k (begun_by (state r) x k) refl)))

      -- the caller's clock has risen
      pub risen : x.last < y.last
      risen =
          let z = state r in
          let cargo = (and_parts ((k.from == k.from) && not (k.from == z.number) && has_place z.layout k.from && has_ranges k) (is_lawful_cargo k.clock k.from k.cargo z) lawful).1 in
          let up = work-ticks k (begun_by (state r) x k) cargo in
          let is : y.last ≡ (work k (begun_by (state r) x k)).caller.last = ap (λ (w : Seated). w.last) e.caller_is in
          omega (arith, up, is)

    -- It was refused, and is put back.

    module _ (q p2 r2 : Place) (y : Seated) (stays : Stays r q) (same : y ≡ x) (here : x ≡ get_or s.callers 0 x) (at2 : p2 ≡ get_or (set (set s.places i p') j q) i p2)
        (st2 : state r2 ≡ state p2) (back : r2.out.lists ≡ with_first b k p2.out.lists) where
      p2-is : p2 ≡ p'
      p2-is = at2 ∙ set-apart s.places a b i j p' q p2 from to lt apart

      lt2 : i < length (set (set s.places i p') j q)
      lt2 = let m = length-set (set s.places i p') j q in let n = length-set s.places i p' in omega (arith, m, n, lt)

      lists-are : r2.out.lists ≡ p.out.lists
      lists-are =
          back ∙ ap (λ (z : Place). with_first b k z.out.lists) p2-is ∙ ap (with_first b k) out ∙ put-back-is b k p.out.lists some

      states-are : map state (set (set (set s.places i p') j q) i r2) ≡ map state s.places
      states-are =
          still (set (set s.places i p') j q) i p2 r2 at2 lt2 st2 ∙ still (set s.places i p') j r q rt lt1 stays.state ∙ taken-places

      boxes-are : boxes (set (set (set s.places i p') j q) i r2) ≡ boxes s.places
      boxes-are =
          boxes-set-is (set (set s.places i p') j q) i r2
          ∙ ap (λ lss. set lss i r2.out.lists) (stayed-boxes s.layout (set s.places i p') j r q taken-are lt1 rt stays)
          ∙ ap (λ lss. set lss i r2.out.lists) (boxes-set-is s.places i p')
          ∙ set-set (boxes s.places) i p'.out.lists r2.out.lists
          ∙ ap (set (boxes s.places) i) (lists-are ∙ sym box)
          ∙ set-get_or (boxes s.places) i []

      callers-are : set s.callers 0 y ≡ s.callers
      callers-are = ap (set s.callers 0) (same ∙ here) ∙ set-get_or s.callers 0 x

      pub restored-net : net (record { layout = s.layout; mark = s.mark; places = set (set (set s.places i p') j q) i r2; callers = set s.callers 0 y }) ≡ net s
      restored-net = λ n. record { layout = s.layout; places = states-are n; packets = waiting_in (boxes-are n); callers = callers-are n }

      state-is : state r2 ≡ state p
      state-is = st2 ∙ ap state p2-is ∙ st

      pub restored-sites : IsSites (record { layout = s.layout; mark = s.mark; places = set (set (set s.places i p') j q) i r2; callers = set s.callers 0 y })
      restored-sites = record {
        shape = h.shape;
        places = are-set s.layout 1 i (set (set s.places i p') j q) r2 (stayed-are s.layout (set s.places i p') j r q taken-are lt1 rt stays) record {
          number = ap (λ (z : PlaceState). z.number) state-is ∙ of.number;
          layout = ap (λ (z : PlaceState). z.layout) state-is ∙ of.layout;
          lists = ap length lists-are ∙ of.lists;
          from = subst (AllFrom (1 + i)) (sym lists-are) of.from;
        };
        all = length-set (set (set s.places i p') j q) i r2 ∙ length-set (set s.places i p') j q ∙ length-set s.places i p' ∙ h.all;
        scheduled = record { events = h.scheduled.events; may = h.scheduled.may; is = restored-net ∙ h.scheduled.is };
        some_seat = (let n = length-set s.callers 0 y in let o = h.some_seat in omega (arith, n, o));
        few_seats = (let n = length-set s.callers 0 y in let o = h.few_seats in omega (arith, n, o));
      }

-- The answers of calls.

pub first-caller : (cs : List Seated) → 1 ≤ length cs → (x : Seated) × (slice_get cs 0 ≡ Some x)
first-caller [] h = absurd (omega (arith, h))
first-caller (x ∷ cs) h = (x, refl)

abbrev fault-of : {T : Type 0} → Result T (Packet × PlaceFault) → PlaceFault → PlaceFault
fault-of (Ok v) d = d
fault-of (Err e) d = e.1

abbrev pub fault-in : {T : Type 0} → Result T PlaceFault → PlaceFault → PlaceFault
fault-in (Ok v) d = d
fault-in (Err e) d = e

-- a call that worked the packet off was not worn
pub not-worn : {T : Type 0} (D : Delivered) (r : Result T (Packet × PlaceFault)) (v : T) (k : Packet) (clock g : ℕ) (o : Option ℕ) → r ≡ Ok v → o ≡ Some g
    → ((back : Packet) (n : ℕ) → (r ≡ Err (back, faults.Worn n)) ↔ ((CLOCK_LIMIT ≤ g) × (n ≡ g) × (back ≡ k)))
    → (◌≡◌ {A = Result Delivered PlaceFault} (Ok D) (Err (faults.Worn clock))) ↔ ((CLOCK_LIMIT ≤ clock) × (o ≡ Some clock))
not-worn D r v k clock g o ok is worn = (
  λ e. absurd (cc),
  λ h. (
      let same : g ≡ clock = same_Some g clock (sym is ∙ h.1) in
      let le = h.0 in
      let bad : r ≡ Err (k, faults.Worn g) = (worn k g).1 (omega (arith, same, le), refl, refl) in
      absurd (ok-err r v (k, faults.Worn g) ok bad)),
)
  where
    ok-err : {A E : Type 0} (r : Result A E) (v : A) (e : E) → r ≡ Ok v → r ≡ Err e → ⊥
    ok-err r v e a b = cc

-- and one that was refused says why
pub why-worn : {T : Type 0} (r : Result T (Packet × PlaceFault)) (back k : Packet) (f : PlaceFault) (clock g : ℕ) (o : Option ℕ) → r ≡ Err (back, f) → o ≡ Some g
    → ((back : Packet) (n : ℕ) → (r ≡ Err (back, faults.Worn n)) ↔ ((CLOCK_LIMIT ≤ g) × (n ≡ g) × (back ≡ k)))
    → (◌≡◌ {A = Result Delivered PlaceFault} (Err f) (Err (faults.Worn clock))) ↔ ((CLOCK_LIMIT ≤ clock) × (o ≡ Some clock))
why-worn r back k f clock g o err is worn = (
  λ e. (
      let same : f ≡ faults.Worn clock = ap (λ z. fault-in z f) e in
      let w = (worn back clock).0 (err ∙ ap (λ z. Err (back, z)) same) in
      let le = w.0 in
      let n = w.1 in
      (omega (arith, le, n), is ∙ ap Some (sym n))),
  λ h. (
      let same : g ≡ clock = same_Some g clock (sym is ∙ h.1) in
      let le = h.0 in
      let w : r ≡ Err (k, faults.Worn clock) = (worn k clock).1 (omega (arith, same, le), sym same, refl) in
      let f-is : f ≡ faults.Worn clock = ap (λ z. fault-of z f) (sym err ∙ w) in
      ap Err f-is),
)

pub nobody-worn : (D : Delivered) (clock : ℕ) (o : Option ℕ) → o ≡ None
    → (◌≡◌ {A = Result Delivered PlaceFault} (Ok D) (Err (faults.Worn clock))) ↔ ((CLOCK_LIMIT ≤ clock) × (o ≡ Some clock))
nobody-worn D clock o none = (λ e. absurd (cc), λ h. absurd (none-some clock (sym none ∙ h.1)))

-- a call that worked a packet off found the caller's clock below the limit
pub below-limit : {T : Type 0} (r : Result T (Packet × PlaceFault)) (v : T) (k : Packet) (g : ℕ) → r ≡ Ok v
    → ((back : Packet) (n : ℕ) → (r ≡ Err (back, faults.Worn n)) ↔ ((CLOCK_LIMIT ≤ g) × (n ≡ g) × (back ≡ k))) → g < CLOCK_LIMIT
below-limit r v k g ok worn = go (nat_lt g CLOCK_LIMIT) refl
  where
    ok-err : {A E : Type 0} (r : Result A E) (v : A) (e : E) → r ≡ Ok v → r ≡ Err e → ⊥
    ok-err r v e a b = cc

    go : (b : Bool) → nat_lt g CLOCK_LIMIT ≡ b → g < CLOCK_LIMIT
    go true e = ltb-true g CLOCK_LIMIT e
    go false e = absurd (ok-err r v (k, faults.Worn g) ok ((worn k g).1 (ltb-false g CLOCK_LIMIT e, refl, refl)))

pub slice_get-set : (cs : List Seated) (y : Seated) → 1 ≤ length cs → slice_get (set cs 0 y) 0 ≡ Some y
slice_get-set [] y h = absurd (omega (arith, h))
slice_get-set (x ∷ cs) y h = refl
