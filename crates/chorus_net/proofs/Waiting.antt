-- A look at whether a packet waits: the first one is taken out and put back.
use Rattle.std.proofs.Common.{ℕ, suc, ◌≡◌, ◌+◌, ◌<◌, ◌≤◌, nat_le, true, List, [], ◌∷◌, get_or, length, Some, None, is_some, slice_get, refl, ◌∙◌, ap, arith}
use Rattle.std.proofs.lemmas.Bool.{and_parts, leb-true}
use Rattle.chorus_ui.specs.Layout.{has_place, places}
use Rattle.chorus_entry.specs.declared.packet.Packet.{Packet}
use Rattle.place_outbox.specs.Waiting.{count, list_to, with_first, without_first}
use Rattle.law_network.specs.Packets.{first_on}
use Rattle.chorus_place.specs.Calls.{Place, state, Stays}
use Rattle.chorus_net.specs.Sites.{SitesState, boxes, net, waiting_in, IsSending, IsSites}
use Rattle.chorus_net.proofs.Boxes.{first-is, put-back-is}
use Rattle.chorus_net.proofs.Changes.{are-boxes, box-of, length-boxes, place-of}
use Rattle.chorus_net.proofs.Deliveries.{none-without}

-- the first packet on a link stands in the outbox of the place that put it
pub first-waiting : (s : SitesState) (a b i : ℕ) (p : Place) → IsSites s → a ≡ 1 + i → i < length s.places → p ≡ get_or s.places i p → has_place s.layout b ≡ true
    → first_on a b (waiting_in (boxes s.places)) ≡ slice_get (list_to b p.out.lists) 0
first-waiting s a b i p h e lt at has =
    let high = leb-true b (places s.layout) (and_parts (nat_le 1 b) (nat_le b (places s.layout)) has).1 in
    first-is a b i (places s.layout + 1) 1 (boxes s.places) (are-boxes s.layout 1 s.places h.places) (let n = length-boxes s.places in omega (arith, n, lt)) e (omega (arith, high))
    ∙ ap (λ ls. slice_get (list_to b ls) 0) (box-of s.places i p at lt)

module _ (b : ℕ) (p q : Place) (st : state q ≡ state p) (waits : q.out.lists ≡ without_first b p.out.lists) (puts : q.out.puts ≡ p.out.puts) (room : p.spare ≤ q.spare) where
  pub none-stays : slice_get (list_to b p.out.lists) 0 ≡ None → Stays p q
  none-stays none = record { state = st; waits = waits ∙ none-without b p.out.lists none; puts = puts; spare = room }

  pub back-stays : (r : Place) (k : Packet) → slice_get (list_to b p.out.lists) 0 ≡ Some k → state r ≡ state q → r.out.lists ≡ with_first b k q.out.lists → r.out.puts ≡ q.out.puts
      → q.spare ≤ r.spare → Stays p r
  back-stays r k some st' back puts' room' = record {
    state = st' ∙ st;
    waits = back ∙ ap (with_first b k) waits ∙ put-back-is b k p.out.lists some;
    puts = puts' ∙ puts;
    spare = omega (arith, room, room');
  }

-- Where some wait, a packet goes from the place.

some-waits : (ls : List (List Packet)) → (count ls ≡ 0 → ⊥) → (b : ℕ) × ((b < length ls) × (is_some (slice_get (list_to b ls) 0) ≡ true))
some-waits [] h = absurd (h refl)
some-waits ([] ∷ ls) h = (let rest = some-waits ls (λ none. h (omega (arith, none))) in (suc rest.0, (let lt = rest.1.0 in omega (arith, lt), rest.1.1)))
some-waits ((x ∷ l) ∷ ls) h = (0, (omega arith, refl))

pub sends : (s : SitesState) (a i : ℕ) (p : Place) → IsSites s → a ≡ 1 + i → i < length s.places → p ≡ get_or s.places i p → (count p.out.lists ≡ 0 → ⊥) → IsSending a (net s)
sends s a i p h e lt at some =
    let waits = some-waits p.out.lists some in
    let place = place-of s.layout 1 i s.places p h.places lt in
    let lists : length p.out.lists ≡ places s.layout + 1 = ap (λ (q : Place). length q.out.lists) at ∙ place.lists in
    record {
      to = waits.0;
      waits =
          ap is_some (first-is a waits.0 i (places s.layout + 1) 1 (boxes s.places) (are-boxes s.layout 1 s.places h.places) (let n = length-boxes s.places in omega (arith, n, lt)) e
          (let below = waits.1.0 in omega (arith, below, lists)) ∙ ap (λ ls. slice_get (list_to waits.0 ls) 0) (box-of s.places i p at lt)) ∙ waits.1.1;
    }
