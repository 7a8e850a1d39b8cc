-- What is taken of places.
-- The words are those of specs/Apart.antt.
use Rattle.std.proofs.Common.{ℕ, zero, suc, ◌≡◌, ◌≢◌, ◌-◌, ◌<◌, ◌==◌, cond, List, [], ◌∷◌, ◌++◌, length, reverse, get_or, Option, Some, None, is_some, option_to_list, slice_get, refl, sym, ◌∙◌, ap, subst, arith, append_assoc}
use Rattle.std.specs.Global.{Vec}
use Rattle.std.proofs.lemmas.List.{append-nil, map-append, reverse-append, reverse-reverse}
use Rattle.chorus_entry.specs.declared.entry.Entry.{Entry}
use Rattle.chorus_entry.specs.declared.packet.Packet.{Packet}
use Rattle.chorus_entry.specs.declared.record.PortRecord.{PortRecord}
use Rattle.place_outbox.specs.Waiting.{list_to}
use Rattle.chorus_merge.specs.Steps.{journals_of}
use Rattle.law_network.specs.Left.{placed_at}
use Rattle.chorus_ruled_ends.specs.Ruled.{Ruled, end_to, end_from, sent_by, received_by}
use Rattle.chorus_ruled_ends.specs.Linked.{AreOfOneLink}
use Rattle.chorus_serve.specs.declared.hand.Held.{Held}
use Rattle.chorus_serve.specs.declared.hand.Content.{Content}
use Rattle.chorus_serve.specs.declared.hand.Content.TheVariants as contents
use Rattle.chorus_serve.specs.Desks.{DeskOf, in_hand, packet_in, packet_of, parcel_of, from_in, opened_in, sealed_in}
use Rattle.law_history.specs.Turns.{from_place}
use Rattle.law_closing.specs.Closing.{IsPlace}
use Rattle.chorus_net.specs.Closing.{journals_in, ports_of}
use Rattle.chorus_nucleus.specs.declared.leavings.Remains.{Remains}
use Rattle.chorus_nucleus.specs.declared.apart.Heap.{Heap}
use Rattle.chorus_nucleus.specs.Leavings.{is_from, content, hand_from, unreceived, goes_between, slot, remains_of, the, AreThere, AreLinkedAll, TakesAll}
use Rattle.law_history.specs.Places.{by_link}
use Rattle.chorus_nucleus.specs.Apart.{IsRemains, desk_at, places_in, TakesDesk, AreRemains, TakesDesks, ends_of, held_from, waits_to, ends_at, left_between, goes_from, AreDesksLinked}
use Rattle.chorus_nucleus.proofs.Pairs.{link-same}

pub found : (p : ℕ) (ss : List (DeskOf Ruled Packet)) (n : ℕ) → length ss ≡ n → IsPlace n p → (s : DeskOf Ruled Packet) × (desk_at p ss ≡ Some s)
found p ss n many is = by (p - 1) ss (let low = is.0 in let high = is.1 in omega (arith, low, high, many))
  where
    by : (k : ℕ) (xs : List (DeskOf Ruled Packet)) → k < length xs → (s : DeskOf Ruled Packet) × (slice_get xs k ≡ Some s)
    by k [] lt = absurd (omega (arith, lt))
    by zero (s ∷ xs) lt = (s, refl)
    by (suc k) (s ∷ xs) lt = by k xs (omega (arith, lt))

-- what is in hand

content-is : (a b : ℕ) (c : Content Packet) → cond (b == a) (option_to_list (packet_of c) ++ option_to_list (parcel_of c)) [] ≡ from_place a ((b, packet_in (λ f. f) c) ∷ [])
content-is a b (contents.Sealed x) = refl
content-is a b (contents.Opened x) = refl

hand-of : (a : ℕ) (h : Option (Held Packet)) → cond (is_from a (from_in h)) (option_to_list (opened_in h) ++ option_to_list (sealed_in h)) [] ≡ from_place a (option_to_list (in_hand (λ f. f) h))
hand-of a None = refl
hand-of a (Some h) = content-is a h.from h.content

hand-is : (h : Option (Held Packet)) (t : Remains) → t.from ≡ from_in h → t.hand ≡ opened_in h → t.parcel ≡ sealed_in h → (a : ℕ) → hand_from a t ≡ from_place a (option_to_list (in_hand (λ f. f) h))
hand-is h t from hand parcel a =
    ap (λ o. cond (is_from a o) (content t) []) from ∙ ap (λ x. cond (is_from a (from_in h)) (option_to_list x ++ option_to_list t.parcel) []) hand
    ∙ ap (λ x. cond (is_from a (from_in h)) (option_to_list (opened_in h) ++ option_to_list x) []) parcel ∙ hand-of a h

-- a place

pub takes-desk : (s : DeskOf Ruled Packet) (t : Remains) (old new : Heap) (j : Vec Entry) (number : ℕ) (ports : List PortRecord) → t.ends ≡ s.ends → t.out.lists ≡ s.place.out.lists
    → t.from ≡ from_in s.hand → t.hand ≡ opened_in s.hand → t.parcel ≡ sealed_in s.hand → reverse j.items ≡ s.place.journal → new.journals.items ≡ old.journals.items ++ j ∷ []
    → number ≡ s.place.number → ports ≡ s.place.ports → new.ports.items ≡ old.ports.items ++ placed_at number ports → TakesDesk s t old new
takes-desk s t old new j number ports ends lists from hand parcel journal journals numbered held placed = record {
  remains = record { ends = ends; lists = lists; hand = hand-is s.hand t from hand parcel };
  journals = ap journals_of journals ∙ map-append (λ (x : Vec Entry). x.items) old.journals.items (j ∷ [])
      ∙ ap (λ (x : List Entry). journals_of old.journals.items ++ x ∷ []) (sym (reverse-reverse j.items) ∙ ap reverse journal);
  ports = placed ∙ ap (λ n. old.ports.items ++ placed_at n ports) numbered ∙ ap (λ ps. old.ports.items ++ placed_at s.place.number ps) held;
}

-- one place after the other

remains-more : (ss : List (DeskOf Ruled Packet)) (ts : List (Option Remains)) (s : DeskOf Ruled Packet) (t : Remains) → AreRemains ss ts → IsRemains s t → AreRemains (ss ++ s ∷ []) (ts ++ Some t ∷ [])
remains-more [] [] s t are is = (is, tt)
remains-more [] (x ∷ ts) s t are is = absurd are
remains-more (z ∷ ss) [] s t are is = absurd are
remains-more (z ∷ ss) (None ∷ ts) s t are is = absurd are
remains-more (z ∷ ss) (Some x ∷ ts) s t are is = (are.0, remains-more ss ts s t are.1 is)

ports-last : (ss : List (DeskOf Ruled Packet)) (s : DeskOf Ruled Packet) → ports_of (places_in (ss ++ s ∷ [])) ≡ ports_of (places_in ss) ++ placed_at s.place.number s.place.ports
ports-last [] s = append-nil (placed_at s.place.number s.place.ports)
ports-last (z ∷ ss) s =
    ap (λ ps. placed_at z.place.number z.place.ports ++ ps) (ports-last ss s)
    ∙ sym (append_assoc (placed_at z.place.number z.place.ports) (ports_of (places_in ss)) (placed_at s.place.number s.place.ports))

journals-last : (ss : List (DeskOf Ruled Packet)) (s : DeskOf Ruled Packet) → journals_in (places_in (ss ++ s ∷ [])) ≡ journals_in (places_in ss) ++ reverse s.place.journal ∷ []
journals-last [] s = refl
journals-last (z ∷ ss) s = ap (λ js. reverse z.place.journal ∷ js) (journals-last ss s)

pub desks-more : (ss : List (DeskOf Ruled Packet)) (ts : List (Option Remains)) (s : DeskOf Ruled Packet) (t : Remains) (h0 h1 h2 : Heap) → TakesDesks ss ts h0 h1 → TakesDesk s t h1 h2
    → TakesDesks (ss ++ s ∷ []) (ts ++ Some t ∷ []) h0 h2
desks-more ss ts s t h0 h1 h2 all one = record {
  remains = remains-more ss ts s t all.remains one.remains;
  journals = one.journals ∙ ap (λ js. js ++ reverse s.place.journal ∷ []) all.journals
      ∙ append_assoc (journals_of h0.journals.items) (journals_in (places_in ss)) (reverse s.place.journal ∷ [])
      ∙ ap (λ js. journals_of h0.journals.items ++ js) (sym (journals-last ss s));
  ports = one.ports ∙ ap (λ ps. ps ++ placed_at s.place.number s.place.ports) all.ports
      ∙ append_assoc h0.ports.items (ports_of (places_in ss)) (placed_at s.place.number s.place.ports)
      ∙ ap (λ ps. h0.ports.items ++ ps) (sym (ports-last ss s));
}

-- the last of the places that are still to come
pub next-desk : (all done now later : List (DeskOf Ruled Packet)) (s : DeskOf Ruled Packet) → all ≡ done ++ reverse now → now ≡ later ++ s ∷ [] → all ≡ (done ++ s ∷ []) ++ reverse later
next-desk all done now later s e f = e ∙ ap (λ xs. done ++ xs) (ap reverse f ∙ reverse-append later (s ∷ [])) ∙ sym (append_assoc done (s ∷ []) (reverse later))

-- all places

remains-count : (ss : List (DeskOf Ruled Packet)) (ts : List (Option Remains)) → AreRemains ss ts → length ts ≡ length ss
remains-count [] [] are = refl
remains-count [] (x ∷ ts) are = absurd are
remains-count (s ∷ ss) [] are = absurd are
remains-count (s ∷ ss) (None ∷ ts) are = absurd are
remains-count (s ∷ ss) (Some t ∷ ts) are = ap suc (remains-count ss ts are.1)

remains-at : (ss : List (DeskOf Ruled Packet)) (ts : List (Option Remains)) (k : ℕ) (s : DeskOf Ruled Packet) → AreRemains ss ts → slice_get ss k ≡ Some s → (t : Remains) × (get_or ts k None ≡ Some t) × IsRemains s t
remains-at [] ts k s are e = absurd (cc)
remains-at (z ∷ ss) [] k s are e = absurd are
remains-at (z ∷ ss) (None ∷ ts) k s are e = absurd are
remains-at (z ∷ ss) (Some t ∷ ts) zero s are e = (let same : z ≡ s = cc in (t, refl, subst (λ y. IsRemains y t) same are.0))
remains-at (z ∷ ss) (Some t ∷ ts) (suc k) s are e = remains-at ss ts k s are.1 e

module _ (ss : List (DeskOf Ruled Packet)) (ts : List (Option Remains)) (are : AreRemains ss ts) where
  pub slots-count : length ts ≡ length ss
  slots-count = remains-count ss ts are

  at-place : (p : ℕ) → IsPlace (length ss) p → (s : DeskOf Ruled Packet) × (t : Remains) × (desk_at p ss ≡ Some s) × (slot p ts ≡ Some t) × IsRemains s t
  at-place p is = (let s = found p ss (length ss) refl is in let t = remains-at ss ts (p - 1) s.0 are s.1 in (s.0, t.0, s.1, t.1, t.2))

  of-slot : (p : ℕ) → IsPlace (length ts) p → IsPlace (length ss) p
  of-slot p is = subst (λ n. IsPlace n p) slots-count is

  ends-same : (p : ℕ) → IsPlace (length ss) p → (remains_of p ts).ends ≡ ends_at p ss
  ends-same p is = (let a = at-place p is in ap (λ o. (the o).ends) a.3 ∙ a.4.ends ∙ sym (ap ends_of a.2))

  waits-same : (p b : ℕ) → IsPlace (length ss) p → list_to b (remains_of p ts).out.lists ≡ waits_to b (desk_at p ss)
  waits-same p b is = (let a = at-place p is in ap (λ o. list_to b (the o).out.lists) a.3 ∙ ap (list_to b) a.4.lists ∙ sym (ap (waits_to b) a.2))

  hand-same : (p a : ℕ) → IsPlace (length ss) p → hand_from a (remains_of p ts) ≡ held_from a (desk_at p ss)
  hand-same p a is = (let z = at-place p is in ap (λ o. hand_from a (the o)) z.3 ∙ z.4.hand a ∙ sym (ap (held_from a) z.2))

  pub slots-there : AreThere ts
  slots-there q is = (let a = at-place q (of-slot q is) in ap is_some a.3)

  pub slots-linked : AreDesksLinked ss → AreLinkedAll ts
  slots-linked linked p inp q inq ne =
      let a = of-slot p inp in
      let b = of-slot q inq in
      subst (λ r. AreOfOneLink (end_to q r) (end_from p (remains_of q ts).ends)) (sym (ends-same p a))
      (subst (λ r. AreOfOneLink (end_to q (ends_at p ss)) (end_from p r)) (sym (ends-same q b)) (linked p q a b ne))

  goes-same : (a b : ℕ) → IsPlace (length ss) a → IsPlace (length ss) b → goes_between ts a b ≡ goes_from ss a b
  goes-same a b ina inb =
      ap (λ xs. xs ++ (unreceived (end_to b (remains_of a ts).ends) (end_from a (remains_of b ts).ends) ++ list_to b (remains_of a ts).out.lists)) (hand-same b a inb)
      ∙ ap (λ r. held_from a (desk_at b ss) ++ (unreceived (end_to b r) (end_from a (remains_of b ts).ends) ++ list_to b (remains_of a ts).out.lists)) (ends-same a ina)
      ∙ ap (λ r. held_from a (desk_at b ss) ++ (unreceived (end_to b (ends_at a ss)) (end_from a r) ++ list_to b (remains_of a ts).out.lists)) (ends-same b inb)
      ∙ ap (λ xs. held_from a (desk_at b ss) ++ (left_between ss a b ++ xs)) (waits-same a b ina)

  pub parted-rest : (rest : List Packet) → TakesAll [] rest ts → rest ≡ by_link (length ss) (goes_from ss)
  parted-rest rest all =
      all.packets ∙ ap (λ n. by_link n (goes_between ts)) slots-count ∙ link-same (length ss) (goes_between ts) (goes_from ss) (λ p q inp inq ne. goes-same p q inp inq)

  pub parted-settled : (rest : List Packet) → TakesAll [] rest ts → (a b : ℕ) → IsPlace (length ss) a → IsPlace (length ss) b → b ≢ a
      → sent_by (end_to b (ends_at a ss)) ≡ received_by (end_from a (ends_at b ss)) ++ left_between ss a b
  parted-settled rest all a b ina inb ne =
      let slot-a : IsPlace (length ts) a = subst (λ n. IsPlace n a) (sym slots-count) ina in
      let slot-b : IsPlace (length ts) b = subst (λ n. IsPlace n b) (sym slots-count) inb in
      subst (λ r. sent_by (end_to b r) ≡ received_by (end_from a (ends_at b ss)) ++ unreceived (end_to b r) (end_from a (ends_at b ss))) (ends-same a ina)
      (subst (λ r. sent_by (end_to b (remains_of a ts).ends) ≡ received_by (end_from a r) ++ unreceived (end_to b (remains_of a ts).ends) (end_from a r)) (ends-same b inb) (all.settled a b slot-a slot-b ne))
