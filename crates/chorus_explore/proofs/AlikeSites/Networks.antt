-- Callers, places and networks that are alike.
-- w and v are callers, p and q places, ps and qs lists of them.
use Rattle.std.proofs.Common.{ℕ, suc, ◌≡◌, ◌<◌, ◌≤◌, ◌+◌, Bool, List, [], ◌∷◌, ◌++◌, length, map, Some, slice_get, get_or, refl, sym, ◌∙◌, ap, subst, arith}
use Rattle.std.proofs.lemmas.List.{map-append}
use Rattle.std.proofs.lemmas.Option.{slice_get_read}
use Rattle.chorus_ui.specs.Layout.{places}
use Rattle.chorus_entry.specs.declared.packet.Packet.{Packet}
use Rattle.chorus_calls.specs.Callers.{Seated}
use Rattle.chorus_hints.specs.Known.{kept}
use Rattle.place_unsettled.specs.Queues.{queue}
use Rattle.place_unsettled.specs.Unheard.{is_unheard}
use Rattle.chorus_place.specs.PlaceTables.Tables.{Tables}
use Rattle.chorus_place.specs.Calls.{Place, state, place_of}
use Rattle.chorus_net.specs.Sites.{to_place, waiting_from, all_waiting, net, SitesState, IsSites, IsPlaceOf, ArePlaces}
use Rattle.chorus_net.proofs.Changes.{place-of}
use Rattle.law_explore.specs.Alike.{SameButLast, CallerAlike, PlacesAlike, NetsAlike, unclocked}
use Rattle.law_explore.specs.Positions.{AskAlike}
use Rattle.chorus_explore.specs.AlikeSites.Packets.{plain, are_plain}
use Rattle.chorus_explore.specs.AlikeSites.Places.{SamePlace}
use Rattle.chorus_explore.proofs.AlikeSites.Lists.{some}

-- Callers.

pub same-caller : (w v : Seated) → w.seat ≡ v.seat → w.actor ≡ v.actor → w.posts ≡ v.posts → w.hand ≡ v.hand
    → w.client ≡ v.client → SameButLast w v
same-caller w v seat actor posts hand client =
    record {
      last = v.last;
      is = λ i. record {
        seat = sym seat i;
        actor = sym actor i;
        last = v.last;
        posts = sym posts i;
        client = sym client i;
        hand = sym hand i;
      };
    }

-- Places.

pub same-place : (asks : Bool) (p q : Place) → q.layout ≡ p.layout → q.number ≡ p.number → p.ports ≡ q.ports → p.known ≡ q.known
    → queue p.waits ≡ queue q.waits → is_unheard p.unheard ≡ is_unheard q.unheard
    → map are_plain p.out.lists ≡ map are_plain q.out.lists → AskAlike asks p.journal q.journal → SamePlace asks p q
same-place asks p q layout number ports known waits unheard packets journal =
    record {
      alike =
          record {
            journal = q.journal;
            is = λ i. record {
              layout = layout i;
              number = number i;
              journal = q.journal;
              ports = sym ports i;
              known = kept (sym known i);
              waiting = sym waits i;
              unheard = sym unheard i;
            };
            journals = journal;
          };
      packets = packets;
    }

-- the places that have these tables
pub same-tables : (asks : Bool) (t u : Tables) (p q : Place) → place_of t ≡ p → place_of u ≡ q → q.layout ≡ p.layout → q.number ≡ p.number
    → t.ports.records ≡ u.ports.records → t.known ≡ u.known → queue t.waits ≡ queue u.waits → is_unheard t.unheard ≡ is_unheard u.unheard
    → map are_plain t.out.lists ≡ map are_plain u.out.lists → AskAlike asks t.journal.past u.journal.past → SamePlace asks p q
same-tables asks t u p q is_p is_q layout number ports known waits unheard packets journal =
    subst (λ (y : Place). SamePlace asks p y) is_q
    (subst (λ (x : Place). SamePlace asks x (place_of u)) is_p
    (same-place asks (place_of t) (place_of u)
    (ap (λ (y : Place). y.layout) is_q ∙ layout ∙ ap (λ (x : Place). x.layout) (sym is_p))
    (ap (λ (y : Place). y.number) is_q ∙ number ∙ ap (λ (x : Place). x.number) (sym is_p))
    ports known waits unheard packets journal))

abbrev pub AllSame : Bool → List Place → List Place → Type 0
AllSame asks ps qs = (i : ℕ) → i < length ps → (p q : Place) → slice_get ps i ≡ Some p → slice_get qs i ≡ Some q → SamePlace asks p q

all-rest : (asks : Bool) (p q : Place) (ps qs : List Place) → AllSame asks (p ∷ ps) (q ∷ qs) → AllSame asks ps qs
all-rest asks p q ps qs h i l a b e f = h (suc i) (omega (arith, l)) a b e f

pub places-alike : (asks : Bool) (ps qs : List Place) → length ps ≡ length qs → AllSame asks ps qs → PlacesAlike (AskAlike asks) (map state ps) (map state qs)
places-alike asks [] [] n h = tt
places-alike asks [] (q ∷ qs) n h = absurd (omega (arith, n))
places-alike asks (p ∷ ps) [] n h = absurd (omega (arith, n))
places-alike asks (p ∷ ps) (q ∷ qs) n h =
    ((h 0 (omega arith) p q refl refl).alike, places-alike asks ps qs (omega (arith, n)) (all-rest asks p q ps qs h))

-- Packets.

unclocked-to : (b : ℕ) (l : List Packet) → map unclocked (to_place b l) ≡ to_place b (are_plain l)
unclocked-to b [] = refl
unclocked-to b (packet ∷ l) = ap (λ os. record { to = b; packet = plain packet } ∷ os) (unclocked-to b l)

unclocked-from : (b : ℕ) (ls : List (List Packet)) → map unclocked (waiting_from b ls) ≡ waiting_from b (map are_plain ls)
unclocked-from b [] = refl
unclocked-from b (l ∷ ls) =
    map-append unclocked (to_place b l) (waiting_from (b + 1) ls)
    ∙ (λ i. unclocked-to b l i ++ unclocked-from (b + 1) ls i)

pub packets-alike : (asks : Bool) (ps qs : List Place) → length ps ≡ length qs → AllSame asks ps qs → map unclocked (all_waiting ps) ≡ map unclocked (all_waiting qs)
packets-alike asks [] [] n h = refl
packets-alike asks [] (q ∷ qs) n h = absurd (omega (arith, n))
packets-alike asks (p ∷ ps) [] n h = absurd (omega (arith, n))
packets-alike asks (p ∷ ps) (q ∷ qs) n h =
    map-append unclocked (waiting_from 0 p.out.lists) (all_waiting ps)
    ∙ (λ i. first i ++ packets-alike asks ps qs (omega (arith, n)) (all-rest asks p q ps qs h) i)
    ∙ sym (map-append unclocked (waiting_from 0 q.out.lists) (all_waiting qs))
  where
    first : map unclocked (waiting_from 0 p.out.lists) ≡ map unclocked (waiting_from 0 q.out.lists)
    first =
        unclocked-from 0 p.out.lists
        ∙ ap (waiting_from 0) (h 0 (omega arith) p q refl refl).packets
        ∙ sym (unclocked-from 0 q.out.lists)

-- Sites.

-- what is read of the places of sites is the place of its number
pub read-place : (s : SitesState) (ps : List Place) (i : ℕ) (p : Place) → ps ≡ s.places → IsSites s → i < length ps → p ≡ get_or ps i p
    → IsPlaceOf s.layout (1 + i) p
read-place s ps i p e kept lt is =
    subst (λ (x : Place). IsPlaceOf s.layout (1 + i) x) (sym is)
    (place-of s.layout 1 i ps p (subst (λ (xs : List Place). ArePlaces s.layout 1 xs) (sym e) kept.places) lt)

-- sites of one layout have as many places
pub as-many : (s t : SitesState) → t.layout ≡ s.layout → IsSites s → IsSites t → length s.places ≡ length t.places
as-many s t l h k = h.all ∙ ap places (sym l) ∙ sym k.all

-- the places that were read are those that stand there
pub read-alike : (asks : Bool) (ps qs : List Place) (i : ℕ) (a b : Place) → i < length ps → i < length qs → a ≡ get_or ps i a → b ≡ get_or qs i b
    → SamePlace asks a b → (p q : Place) → slice_get ps i ≡ Some p → slice_get qs i ≡ Some q → SamePlace asks p q
read-alike asks ps qs i a b l k is_a is_b same p q e f =
    subst (λ (y : Place). SamePlace asks p y) (some b q (sym (slice_get_read qs (length qs) i b refl k is_b) ∙ f))
    (subst (λ (x : Place). SamePlace asks x b) (some a p (sym (slice_get_read ps (length ps) i a refl l is_a) ∙ e)) same)

pub nets-alike : (asks : Bool) (count : ℕ) (s t : SitesState) → t.layout ≡ s.layout → IsSites s → IsSites t → AllSame asks s.places t.places
    → ((k : ℕ) → 1 ≤ k → k ≤ count → CallerAlike (slice_get s.callers k) (slice_get t.callers k))
    → NetsAlike (AskAlike asks) count (net s) (net t)
nets-alike asks count s t l h k same callers =
    record {
      layout = l;
      places = places-alike asks s.places t.places (as-many s t l h k) same;
      packets = packets-alike asks s.places t.places (as-many s t l h k) same;
      callers = callers;
    }
