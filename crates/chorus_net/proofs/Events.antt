-- What happens on the sites is an event of the network.
use Rattle.std.proofs.Common.{ℕ, zero, suc, ◌≡◌, ◌+◌, ◌-◌, ◌<◌, nat_le, nat_lt, Bool, true, false, ◌&&◌, ◌||◌, not, cond, List, [], ◌∷◌, length, map, get_or, set, Some, None, is_some, slice_get, Result, Ok, Err, IfOk, OnErr, refl, sym, ◌∙◌, ap, subst, arith}
use Rattle.std.specs.List.{All}
use Rattle.std.specs.Option.{option_map}
use Rattle.std.proofs.lemmas.Bool.{and_parts, and_from, false≢true, le-leb, leb-true, ltb-true}
use Rattle.std.proofs.lemmas.List.{length-set, set-get_or}
use Rattle.chorus_ui.specs.declared.layout.Layout.{Layout}
use Rattle.chorus_ui.specs.Layout.{IsLayout, has_site, has_actor, has_place, places}
use Rattle.chorus_entry.specs.declared.command.Command.{Command}
use Rattle.chorus_entry.specs.Command.{meets_conditions, has_body_in_limit, is_post}
use Rattle.chorus_ui.specs.NameKind.{is_actor}
use Rattle.chorus_entry.specs.Places.{place_for}
use Rattle.chorus_calls.specs.Callers.{Seated}
use Rattle.law_machine.specs.declared.reply.Reply.{Reply}
use Rattle.law_machine.specs.declared.outgoing.Outgoing.{Outgoing}
use Rattle.law_machine.specs.PlaceState.{PlaceState, Turn}
use Rattle.law_machine.specs.PlaceMachine.{begun, act}
use Rattle.law_machine.specs.Replies.{reply}
use Rattle.law_machine.proofs.Machine.Stays.{act-stays}
use Rattle.law_network.specs.Packets.{put_all}
use Rattle.law_network.specs.Network.{NetState, Event, Act, place, with_place, ended, commanded, replied, happened, schedule}
use Rattle.law_network.specs.History.{put_by, put_in, taken_with}
use Rattle.law_network.specs.Schedules.{may_give, has_number_left, may_happen, may_be}
use Rattle.law_network.specs.Calls.{first_actor}
use Rattle.law_network.specs.ByPlace.{IsBetweenPlaces}
use Rattle.law_network.proofs.Holdings.Passing.{packets-lie-between}
use Rattle.law_network.proofs.Places.Layouts.{schedule-keeps}
use Rattle.law_network.proofs.Promises.Promised.{stands-at}
use Rattle.chorus_place.specs.Calls.{Place, state, Ended, MayCall, Stays}
use Rattle.chorus_place.specs.PlaceTables.Sending.{with_all}
use Rattle.chorus_net.specs.Sites.{SitesState, waiting_in, boxes, net, AllFrom, IsPlaceOf, ArePlaces, IsScheduled, IsSites}
use Rattle.chorus_net.proofs.Boxes.{IsPut, put-all-is, with-all-keeps}
use Rattle.chorus_net.proofs.Changes.{place-of, are-set, finds, replaces, still, are-boxes, box-of, boxes-set-is, length-boxes, all-put-parts, both}
use Rattle.chorus_net.proofs.Puts.{act-from}
use Rattle.chorus_net.specs.Room.{UsesRoom, count_from, puts_in}
use Rattle.chorus_net.proofs.Rooms.{turn-uses}

-- Schedules.

-- one event more, from the network as it is
pub next-may : (l : Layout) (n : NetState) (e : Event) (s : IsScheduled l n) → may_happen e n ≡ true → may_be l (e ∷ s.events) ≡ true
next-may l n e s may = and_from (may_happen e (schedule l s.events)) (may_be l s.events) (ap (may_happen e) (sym s.is) ∙ may) s.may

pub next-event : (l : Layout) (n m : NetState) (e : Event) (s : IsScheduled l n) → may_happen e n ≡ true → m ≡ happened e n → IsScheduled l m
next-event l n m e s may is = record {
  events = e ∷ s.events;
  may = next-may l n e s may;
  is = is ∙ ap (happened e) s.is;
}

-- then each packet goes between two places
pub next-between : (l : Layout) (n m : NetState) (e : Event) → IsLayout l → (s : IsScheduled l n) → may_happen e n ≡ true → happened e n ≡ m → All (IsBetweenPlaces l) m.packets
next-between l n m e shape s may is =
    subst (λ (k : NetState). All (IsBetweenPlaces l) k.packets) (ap (happened e) (sym s.is) ∙ is) (packets-lie-between l (e ∷ s.events) shape (next-may l n e s may))

-- each caller runs in an actor of the layout
pub caller-of : (l : Layout) (n : NetState) → IsLayout l → (s : IsScheduled l n) → (k : ℕ) (x : Seated) → slice_get n.callers k ≡ Some x → (is_actor x.actor ≡ true) × (has_actor l x.actor ≡ true)
caller-of l n shape s k x found =
    let layout : (schedule l s.events).layout ≡ l = (schedule-keeps l s.events).layout in
    let c = (stands-at l s.events shape s.may).callers k x (ap (λ (m : NetState). slice_get m.callers k) (sym s.is) ∙ found) in
    (c.kind, ap (λ (m : Layout). has_actor m x.actor) (sym layout) ∙ c.actor)

-- A turn at one place.

module _ (l : Layout) (ps : List Place) (i : ℕ) (p q : Place) (t : Turn) (x y : Seated) (are : ArePlaces l 1 ps) (lt : i < length ps) (at : p ≡ get_or ps i p)
    (puts : All (IsPut (1 + i) (places l + 1)) t.puts) (e : Ended t p q y) (number : t.place.number ≡ p.number) (layout : t.place.layout ≡ p.layout) where
  is-of : IsPlaceOf l (1 + i) p
  is-of = subst (IsPlaceOf l (1 + i)) (sym at) (place-of l 1 i ps p are lt)

  keeps : (length (with_all t.puts p.out.lists) ≡ length p.out.lists) × AllFrom (1 + i) (with_all t.puts p.out.lists)
  keeps = with-all-keeps t.puts (1 + i) (places l + 1) p.out.lists puts is-of.from

  number-is : q.number ≡ 1 + i
  number-is = ap (λ (s : PlaceState). s.number) e.state ∙ number ∙ is-of.number

  pub turned-are : ArePlaces l 1 (set ps i q)
  turned-are = are-set l 1 i ps q are record {
    number = number-is;
    layout = ap (λ (s : PlaceState). s.layout) e.state ∙ layout ∙ is-of.layout;
    lists = ap length e.waits ∙ keeps.0 ∙ is-of.lists;
    from = subst (AllFrom (1 + i)) (sym e.waits) keeps.1;
  }

  pub turned-places : with_place t.place (map state ps) ≡ map state (set ps i q)
  turned-places = ap (λ z. with_place z (map state ps)) (sym e.state) ∙ replaces l 1 i ps q are lt number-is

  pub turned-packets : put_all t.puts (waiting_in (boxes ps)) ≡ waiting_in (boxes (set ps i q))
  turned-packets =
      put-all-is t.puts (1 + i) i (places l + 1) 1 (boxes ps) (are-boxes l 1 ps are) (let n = length-boxes ps in omega (arith, n, lt)) refl puts
      ∙ ap (λ ls. waiting_in (set (boxes ps) i (with_all t.puts ls))) (box-of ps i p at lt)
      ∙ ap (λ ls. waiting_in (set (boxes ps) i ls)) (sym e.waits)
      ∙ ap waiting_in (sym (boxes-set-is ps i q))

-- what was put goes from the place to a place of the layout
pub are-put : (l : Layout) (i : ℕ) (os us : List Outgoing) → All (λ (o : Outgoing). o.packet.from ≡ 1 + i) os → All (IsBetweenPlaces l) (put_all os us) → All (IsPut (1 + i) (places l + 1)) os
are-put l i os us from between =
    both (λ (o : Outgoing). o.packet.from ≡ 1 + i) (IsBetweenPlaces l) (IsPut (1 + i) (places l + 1))
    (λ o f b. record { from = f; to = (let two = and_parts (nat_le 1 o.to) (nat_le o.to (places l)) b.has_to in let le = leb-true o.to (places l) two.1 in omega (arith, le)) })
    os from (all-put-parts (IsBetweenPlaces l) os us between).0

-- A command.

module _ (s : SitesState) (k i : ℕ) (c : Command) (x : Seated) (p : Place) (h : IsSites s) (may : may_happen (Act k c) (net s) ≡ true)
    (found : slice_get s.callers k ≡ Some x) (number : place_for s.layout x.actor c ≡ 1 + i) (lt : i < length s.places) (at : p ≡ get_or s.places i p) where
  parts : may_give (Some x) c ≡ true
  parts = ap (λ o. may_give o c) (sym found) ∙ may

  -- what the place asks for
  pub given-may : MayCall (state p) x c
  given-may =
      let two = and_parts (meets_conditions c && has_body_in_limit c) (has_number_left x c) parts in
      let of = subst (IsPlaceOf s.layout (1 + i)) (sym at) (place-of s.layout 1 i s.places p h.places lt) in
      record {
        conditions = (and_parts (meets_conditions c) (has_body_in_limit c) two.0).0;
        here = ap (λ (m : Layout). place_for m x.actor c) of.layout ∙ number ∙ sym of.number;
      }

  pub given-posts : is_post c ≡ true → x.posts < 4294967295
  given-posts post =
      let two = and_parts (meets_conditions c && has_body_in_limit c) (has_number_left x c) parts in
      let left : (not true || nat_lt x.posts 4294967295) ≡ true = ap (λ b. not b || nat_lt x.posts 4294967295) (sym post) ∙ two.1 in
      ltb-true x.posts 4294967295 left

  pub place-found : place (place_for s.layout x.actor c) (net s) ≡ state p
  place-found = finds s.layout s.layout 1 i (place_for s.layout x.actor c) s.places p h.places lt number at

  turn : Turn
  turn = act c (begun (state p) x)

  event-is : happened (Act k c) (net s) ≡ ended k (act c (begun (state p) x)) (net s)
  event-is = ap (λ o. commanded k c o (net s)) found ∙ ap (λ z. ended k (act c (begun z x)) (net s)) place-found

  -- what the command puts
  pub acted-puts : put_by (Act k c) (net s) ≡ (act c (begun (state p) x)).puts
  acted-puts = ap (λ o. put_in (taken_with c o (net s))) found ∙ ap (λ z. (act c (begun z x)).puts) place-found

  puts : All (IsPut (1 + i) (places s.layout + 1)) (act c (begun (state p) x)).puts
  puts =
      let of = subst (IsPlaceOf s.layout (1 + i)) (sym at) (place-of s.layout 1 i s.places p h.places lt) in
      are-put s.layout i (act c (begun (state p) x)).puts (waiting_in (boxes s.places))
      (subst (λ n. All (λ (o : Outgoing). o.packet.from ≡ n) (act c (begun (state p) x)).puts) of.number (act-from c (begun (state p) x) refl))
      (next-between s.layout (net s) (ended k (act c (begun (state p) x)) (net s)) (Act k c) h.shape h.scheduled may event-is)

  module _ (q : Place) (y : Seated) (e : Ended (act c (begun (state p) x)) p q y) where
    stays : (act c (begun (state p) x)).place.number ≡ p.number
    stays = (act-stays c (begun (state p) x)).number

    stays-layout : (act c (begun (state p) x)).place.layout ≡ p.layout
    stays-layout = (act-stays c (begun (state p) x)).layout

    pub acted-net : net (record { layout = s.layout; mark = s.mark; places = set s.places i q; callers = set s.callers k y }) ≡ happened (Act k c) (net s)
    acted-net =
        let t = act c (begun (state p) x) in
        let a = turned-places s.layout s.places i p q t x y h.places lt at puts e stays stays-layout in
        let b = turned-packets s.layout s.places i p q t x y h.places lt at puts e stays stays-layout in
        let same : net (record { layout = s.layout; mark = s.mark; places = set s.places i q; callers = set s.callers k y }) ≡ ended k (act c (begun (state p) x)) (net s) =
        (λ j. record { layout = s.layout; places = sym a j; packets = sym b j; callers = set s.callers k (e.caller_is j) }) in
        same ∙ sym event-is

    pub acted-sites : IsSites (record { layout = s.layout; mark = s.mark; places = set s.places i q; callers = set s.callers k y })
    acted-sites = record {
      shape = h.shape;
      places = turned-are s.layout s.places i p q (act c (begun (state p) x)) x y h.places lt at puts e stays stays-layout;
      all = length-set s.places i q ∙ h.all;
      scheduled = next-event s.layout (net s) _ (Act k c) h.scheduled may acted-net;
      some_seat = (let n = length-set s.callers k y in let o = h.some_seat in omega (arith, n, o));
      few_seats = (let n = length-set s.callers k y in let o = h.few_seats in omega (arith, n, o));
    }

    -- the room that it uses
    pub acted-uses : UsesRoom (puts_in (Act k c) (net s)) s.places (set s.places i q)
    acted-uses =
        subst (λ os. UsesRoom (λ n. count_from n os) s.places (set s.places i q)) (sym acted-puts)
        (turn-uses (act c (begun (state p) x)) s.places i p q y at e stays (act-from c (begun (state p) x) refl))

    pub acted-reply : (r : Reply) → r ≡ reply c (begun (state p) x) → Some r ≡ replied k c (net s)
    acted-reply r is =
        ap Some is ∙ ap (λ z. Some (reply c (begun z x))) (sym place-found)
        ∙ ap (option_map (λ (w : Seated). reply c (begun (place (place_for s.layout w.actor c) (net s)) w))) (sym found)

-- Nothing changed.

module _ (l : Layout) (ps : List Place) (i : ℕ) (p q : Place) (are : ArePlaces l 1 ps) (lt : i < length ps) (at : p ≡ get_or ps i p) (h : Stays p q) where
  pub stayed-places : map state (set ps i q) ≡ map state ps
  stayed-places = still ps i p q at lt h.state

  pub stayed-boxes : boxes (set ps i q) ≡ boxes ps
  stayed-boxes = boxes-set-is ps i q ∙ ap (set (boxes ps) i) (h.waits ∙ sym (box-of ps i p at lt)) ∙ set-get_or (boxes ps) i []

  pub stayed-are : ArePlaces l 1 (set ps i q)
  stayed-are =
      let of = subst (IsPlaceOf l (1 + i)) (sym at) (place-of l 1 i ps p are lt) in
      are-set l 1 i ps q are record {
        number = ap (λ (s : PlaceState). s.number) h.state ∙ of.number;
        layout = ap (λ (s : PlaceState). s.layout) h.state ∙ of.layout;
        lists = ap length h.waits ∙ of.lists;
        from = subst (AllFrom (1 + i)) (sym h.waits) of.from;
      }

module _ (s : SitesState) (i : ℕ) (p q : Place) (h : IsSites s) (lt : i < length s.places) (at : p ≡ get_or s.places i p) (stays : Stays p q) where
  pub kept-net : net (record { layout = s.layout; mark = s.mark; places = set s.places i q; callers = s.callers }) ≡ net s
  kept-net =
      let a = stayed-places s.layout s.places i p q h.places lt at stays in
      let b = stayed-boxes s.layout s.places i p q h.places lt at stays in
      λ j. record { layout = s.layout; places = a j; packets = waiting_in (b j); callers = s.callers }

  pub kept-sites : IsSites (record { layout = s.layout; mark = s.mark; places = set s.places i q; callers = s.callers })
  kept-sites = record {
    shape = h.shape;
    places = stayed-are s.layout s.places i p q h.places lt at stays;
    all = length-set s.places i q ∙ h.all;
    scheduled = record { events = h.scheduled.events; may = h.scheduled.may; is = kept-net ∙ h.scheduled.is };
    some_seat = h.some_seat;
    few_seats = h.few_seats;
  }

module _ (s : SitesState) (k i : ℕ) (x y : Seated) (p q : Place) (h : IsSites s) (lt : i < length s.places) (at : p ≡ get_or s.places i p)
    (here : x ≡ get_or s.callers k x) (stays : Stays p q) (same : y ≡ x) where
  callers-are : set s.callers k y ≡ s.callers
  callers-are = ap (set s.callers k) (same ∙ here) ∙ set-get_or s.callers k x

  pub refused-net : net (record { layout = s.layout; mark = s.mark; places = set s.places i q; callers = set s.callers k y }) ≡ net s
  refused-net =
      let a = stayed-places s.layout s.places i p q h.places lt at stays in
      let b = stayed-boxes s.layout s.places i p q h.places lt at stays in
      λ j. record { layout = s.layout; places = a j; packets = waiting_in (b j); callers = callers-are j }

  pub refused-sites : IsSites (record { layout = s.layout; mark = s.mark; places = set s.places i q; callers = set s.callers k y })
  refused-sites = record {
    shape = h.shape;
    places = stayed-are s.layout s.places i p q h.places lt at stays;
    all = length-set s.places i q ∙ h.all;
    scheduled = record { events = h.scheduled.events; may = h.scheduled.may; is = refused-net ∙ h.scheduled.is };
    some_seat = (let n = length-set s.callers k y in let o = h.some_seat in omega (arith, n, o));
    few_seats = (let n = length-set s.callers k y in let o = h.few_seats in omega (arith, n, o));
  }

pub by-result : {T E : Type 0} (r : Result T E) (P : T → Type 0) (Q X : Type 0) → IfOk r P → OnErr r Q → ((v : T) → P v → X) → (Q → X) → X
by-result (Ok v) P Q X a b f g = f v a
by-result (Err d) P Q X a b f g = g b

pub if-ok : {T E : Type 0} (r : Result T E) (P Q : T → Type 0) → IfOk r P → ((v : T) → P v → Q v) → IfOk r Q
if-ok (Ok v) P Q a f = f v a
if-ok (Err d) P Q a f = tt

pub on-err : {T E : Type 0} (r : Result T E) (P Q : Type 0) → OnErr r P → (P → Q) → OnErr r Q
on-err (Ok v) P Q a f = tt
on-err (Err d) P Q a f = f a

-- Starting, and a caller that comes.

pub first-may : (l : Layout) → IsLayout l → has_actor l first_actor ≡ true
first-may l shape =
    and_from (has_site l 1 && nat_le 1 1) (nat_le 1 8)
    (and_from (has_site l 1) (nat_le 1 1) (and_from (nat_le 1 1) (nat_le 1 l.sites) refl (le-leb 1 l.sites shape.sites_from_one)) refl) refl

pub has-home : (b : Bool) (p : ℕ) → is_some (cond b (Some p) None) ≡ true → b ≡ true
has-home true p h = refl
has-home false p h = absurd (false≢true h)

-- the seat was given
pub seat-given : (cs : List Seated) (k : ℕ) (c : Command) → may_give (slice_get cs k) c ≡ true → k < length cs
seat-given [] k c h = absurd (false≢true h)
seat-given (x ∷ cs) zero c h = omega arith
seat-given (x ∷ cs) (suc k) c h = (let rest = seat-given cs k c h in omega (arith, rest))

-- where the place of this number stands
pub stands-at-index : (l : Layout) (n k m : ℕ) → has_place l n ≡ true → k ≡ n → m ≡ places l → (n ≡ 1 + (k - 1)) × (k - 1 < m)
stands-at-index l n k m h e a =
    let two = and_parts (nat_le 1 n) (nat_le n (places l)) h in
    let low = leb-true 1 n two.0 in
    let high = leb-true n (places l) two.1 in
    (omega (arith, low, e), omega (arith, low, high, e, a))
