-- Where each packet goes between two different places of the layout, a drain leaves no packet.
use Rattle.std.proofs.Common.{ℕ, zero, suc, ◌≡◌, ◌≢◌, ◌<◌, ◌≤◌, ◌+◌, ◌==◌, nat_le, true, false, cond, List, [], ◌∷◌, Some, is_some, slice_get, refl, sym, ◌∙◌, ap, subst, inl, inr, arith}
use Rattle.std.specs.List.{All}
use Rattle.std.proofs.lemmas.Bool.{cases_Bool, eqb-true, eq-eqb, false≢true, and_parts, and_from, leb-true}
use Rattle.std.proofs.lemmas.List.{reverse-reverse}
use Rattle.std.proofs.lemmas.List.Elements.{All-nil, All-cons, All-head}
use Rattle.chorus_ui.specs.declared.layout.Layout.{Layout}
use Rattle.chorus_ui.specs.Layout as layout
use Rattle.chorus_ui.specs.Layout.{has_place}
use Rattle.chorus_merge.proofs.Places.{All-append_parts}
use Rattle.law_machine.specs.declared.outgoing.Outgoing.{Outgoing}
use Rattle.law_network.specs.Packets.{is_link, first_on}
use Rattle.law_network.specs.Network.{NetState, Event, Deliver, numbers, place_numbers, after, schedule, from_one, from_each, round, one_if, serves, served}
use Rattle.law_network.specs.Tasks.{DrainsLeaveNothing}
use Rattle.law_network.proofs.Merge.Parts.{All-reverse}
use Rattle.law_network.proofs.Draining.Drains.{idle}
use Rattle.law_network.specs.ByPlace.{IsBetweenPlaces}
use Rattle.law_network.proofs.Holdings.Passing.{packets-lie-between}

each-idle : (es : List Event) (n : NetState) → served es n ≡ 0 → All (λ (e : Event). serves e n ≡ 0) es
each-idle [] n h = All-nil (λ (e : Event). serves e n ≡ 0)
each-idle (e ∷ es) n h =
    let rest : served es n ≡ 0 = omega (arith, h) in
    let first : serves e (after es n) ≡ 0 = omega (arith, h) in
    All-cons (λ (f : Event). serves f n ≡ 0) e es (ap (serves e) (sym (idle es n rest)) ∙ first) (each-idle es n rest)

module _ (Q : Event → Type 0) (k : ℕ) where
  -- of the deliveries from a, that to b
  pick-one : (a m p b : ℕ) → All Q (from_one k a (numbers m p)) → p ≤ b → b < p + m → (a == b) ≡ false → Q (Deliver k a b)
  pick-one a zero p b h le lt ne = absurd (omega (arith, le, lt))
  pick-one a (suc m) p b h le lt ne =
      let two = All-append_parts Q (cond (a == p) [] (Deliver k a p ∷ [])) (from_one k a (numbers m (p + 1))) h in
      elim (cases_Bool (p == b)) [
        | inl here ↦ (
            let same : p ≡ b = eqb-true p b here in
            let off : (a == p) ≡ false = ap (λ i. a == i) same ∙ ne in
            subst (λ i. Q (Deliver k a i)) same (All-head Q (Deliver k a p) [] (subst (λ c. All Q (cond c [] (Deliver k a p ∷ []))) off two.0)))
        | inr other ↦ (
            let apart : p ≢ b = (λ same. false≢true (sym other ∙ eq-eqb p b same)) in
            pick-one a m (p + 1) b two.1 (omega (arith, le, apart)) (omega (arith, lt)) ne)
      ]

  pick-each : (a m p : ℕ) (bs : List ℕ) → All Q (from_each k (numbers m p) bs) → p ≤ a → a < p + m → All Q (from_one k a bs)
  pick-each a zero p bs h le lt = absurd (omega (arith, le, lt))
  pick-each a (suc m) p bs h le lt =
      let two = All-append_parts Q (from_one k p bs) (from_each k (numbers m (p + 1)) bs) h in
      elim (cases_Bool (p == a)) [
        | inl here ↦ subst (λ i. All Q (from_one k i bs)) (eqb-true p a here) two.0
        | inr other ↦ (
            let apart : p ≢ a = (λ same. false≢true (sym other ∙ eq-eqb p a same)) in
            pick-each a m (p + 1) bs two.1 (omega (arith, le, apart)) (omega (arith, lt)))
      ]

  pick : (l : Layout) (a b : ℕ) → All Q (round l k) → has_place l a ≡ true → has_place l b ≡ true → (a == b) ≡ false → Q (Deliver k a b)
  pick l a b h ha hb ne =
      let ns = place_numbers l in
      let all : All Q (from_each k ns ns) = subst (All Q) (reverse-reverse (from_each k ns ns)) (All-reverse Q (round l k) h) in
      let x = and_parts (nat_le 1 a) (nat_le a (layout.places l)) ha in
      let y = and_parts (nat_le 1 b) (nat_le b (layout.places l)) hb in
      let x0 = leb-true 1 a x.0 in
      let x1 = leb-true a (layout.places l) x.1 in
      let y0 = leb-true 1 b y.0 in
      let y1 = leb-true b (layout.places l) y.1 in
      pick-one a (layout.places l) 1 b (pick-each a (layout.places l) 1 ns all x0 (omega (arith, x1))) y0 (omega (arith, y1)) ne

emptied : (l : Layout) (k : ℕ) (n : NetState) (os : List Outgoing) → n.packets ≡ os → served (round l k) n ≡ 0 → is_some (slice_get n.callers k) ≡ true → All (IsBetweenPlaces l) os → n.packets ≡ []
emptied l k n [] e dry who h = e
emptied l k n (o ∷ os) e dry who h =
    let b = All-head (IsBetweenPlaces l) o os h in
    let none : serves (Deliver k o.packet.from o.to) n ≡ 0 = pick (λ (f : Event). serves f n ≡ 0) k l o.packet.from o.to (each-idle (round l k) n dry) b.has_from b.has_to b.apart in
    let here : is_link o.packet.from o.to o ≡ true = and_from (o.packet.from == o.packet.from) (o.to == o.to) (eq-eqb o.packet.from o.packet.from refl) (eq-eqb o.to o.to refl) in
    let found : is_some (first_on o.packet.from o.to n.packets) ≡ true = ap (λ us. is_some (first_on o.packet.from o.to us)) e ∙ ap (λ c. is_some (cond c (Some o.packet) (first_on o.packet.from o.to os))) here in
    let one : serves (Deliver k o.packet.from o.to) n ≡ 1 = ap one_if (and_from (is_some (slice_get n.callers k)) (is_some (first_on o.packet.from o.to n.packets)) who found) in
    absurd (omega (arith, none, one))

pub drains-leave-nothing : DrainsLeaveNothing
drains-leave-nothing l k older es shape may who d =
    emptied l k (schedule l es) (schedule l es).packets refl d.dry who (packets-lie-between l es shape may)
