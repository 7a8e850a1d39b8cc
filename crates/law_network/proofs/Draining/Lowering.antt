-- A delivery lowers the rank of a network.
use Rattle.std.proofs.Common.{ℕ, ◌≡◌, ◌≤◌, ◌+◌, ◌==◌, Bool, true, false, cond, List, [], ◌∷◌, Some, refl, sym, ◌∙◌, ap, subst, arith}
use Rattle.std.proofs.lemmas.Bool.{false≢true}
use Rattle.chorus_ui.specs.declared.layout.Layout.{Layout}
use Rattle.chorus_entry.specs.declared.packet.Packet.{Packet}
use Rattle.chorus_calls.specs.Callers.{Seated}
use Rattle.place_unsettled.specs.declared.wait.Key.{Key}
use Rattle.law_machine.specs.declared.outgoing.Outgoing.{Outgoing}
use Rattle.law_machine.specs.PlaceState.{PlaceState}
use Rattle.law_machine.specs.PlaceMachine.{begun_by, work}
use Rattle.law_machine.proofs.Machine.Stays.{work-stays}
use Rattle.law_network.specs.Packets.{is_link, is_link_before, put, put_all, first_on, rest_on}
use Rattle.law_network.specs.Network.{NetState, place, place_in, with_place, works_off}
use Rattle.law_network.proofs.Places.PlacesStay.{stands_in}
use Rattle.law_network.specs.Rank.{Bounds, cargo_rank, packets_rank, waits_rank, places_rank, rank_by}
use Rattle.law_network.proofs.Standing.Turning.{number-is}
use Rattle.law_network.proofs.Draining.Weights.{AreApart}
use Rattle.law_network.proofs.Draining.Working.{IsWithin, IsToldFor, work-lower}

put-rank : (b : Bounds) (o : Outgoing) (us : List Outgoing) → packets_rank b (put o us) ≡ cargo_rank b o.packet.cargo + packets_rank b us
put-rank b o [] = refl
put-rank b o (u ∷ us) = go (is_link_before o u) (put-rank b o us)
  where
    go : (c : Bool) → packets_rank b (put o us) ≡ cargo_rank b o.packet.cargo + packets_rank b us → packets_rank b (cond c (o ∷ u ∷ us) (u ∷ put o us)) ≡ cargo_rank b o.packet.cargo + (cargo_rank b u.packet.cargo + packets_rank b us)
    go true e = refl
    go false e = omega (arith, e)

put-all-rank : (b : Bounds) (os us : List Outgoing) → packets_rank b (put_all os us) ≡ packets_rank b os + packets_rank b us
put-all-rank b [] us = omega arith
put-all-rank b (o ∷ os) us =
    (let one = put-rank b o us in let rest = put-all-rank b os (put o us) in omega (arith, one, rest))

rest-rank : (b : Bounds) (x y : ℕ) (us : List Outgoing) (k : Packet) → first_on x y us ≡ Some k → packets_rank b us ≡ cargo_rank b k.cargo + packets_rank b (rest_on x y us)
rest-rank b x y [] k h = absurd (cc)
rest-rank b x y (u ∷ us) k h = go (is_link x y u) h (rest-rank b x y us k)
  where
    go : (c : Bool) → cond c (Some u.packet) (first_on x y us) ≡ Some k → (first_on x y us ≡ Some k → packets_rank b us ≡ cargo_rank b k.cargo + packets_rank b (rest_on x y us)) → cargo_rank b u.packet.cargo + packets_rank b us ≡ cargo_rank b k.cargo + packets_rank b (cond c us (u ∷ rest_on x y us))
    go true e ih = (let same : u.packet ≡ k = cc in ap (λ (z : Packet). cargo_rank b z.cargo + packets_rank b us) same)
    go false e ih = (let rest = ih e in omega (arith, rest))

with-rank : (b : Bounds) (ks : List Key) (l : Layout) (s : PlaceState) (rs : List PlaceState) → stands_in s.number rs ≡ true → places_rank b ks (with_place s rs) + waits_rank b ks (place_in l s.number rs).waiting ≡ places_rank b ks rs + waits_rank b ks s.waiting
with-rank b ks l s [] h = absurd (false≢true h)
with-rank b ks l s (r ∷ rs) h = go (r.number == s.number) h (with-rank b ks l s rs)
  where
    go : (c : Bool) → cond c true (stands_in s.number rs) ≡ true → (stands_in s.number rs ≡ true → places_rank b ks (with_place s rs) + waits_rank b ks (place_in l s.number rs).waiting ≡ places_rank b ks rs + waits_rank b ks s.waiting) → places_rank b ks (cond c (s ∷ rs) (r ∷ with_place s rs)) + waits_rank b ks (cond c r (place_in l s.number rs)).waiting ≡ (waits_rank b ks r.waiting + places_rank b ks rs) + waits_rank b ks s.waiting
    go true e ih = omega arith
    go false e ih = (let rest = ih e in omega (arith, rest))

-- the network after a delivery that finds a packet
pub delivery-lower : (b : Bounds) (ks : List Key) → AreApart ks → (k x y : ℕ) (caller : Seated) (q : Packet) (n : NetState) → first_on x y n.packets ≡ Some q → stands_in y n.places ≡ true → IsWithin b ks (place y n) → IsToldFor q.cargo (place y n) → rank_by b ks (works_off k x y caller (Some q) n) + 1 ≤ rank_by b ks n
delivery-lower b ks apart k x y caller q n found here within front =
    let t = begun_by (place y n) caller q in
    let u = work q t in
    let number : y ≡ u.place.number = sym ((work-stays q t).number ∙ number-is n.layout y n.places) in
    let less = work-lower b ks apart t within q front in
    let rest = rest-rank b x y n.packets q found in
    let puts = put-all-rank b u.puts (rest_on x y n.packets) in
    let places = with-rank b ks n.layout u.place n.places (subst (λ i. stands_in i n.places ≡ true) number here) in
    let same : waits_rank b ks (place_in n.layout u.place.number n.places).waiting ≡ waits_rank b ks (place y n).waiting = ap (λ i. waits_rank b ks (place_in n.layout i n.places).waiting) (sym number) in
    omega (arith, less, rest, puts, places, same)
