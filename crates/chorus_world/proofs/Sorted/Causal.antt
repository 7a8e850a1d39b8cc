-- An entry above the last clock of each of its views keeps the past causal.
use Rattle.std.proofs.Common.{◌≡◌, ◌<◌, Bool, true, false, ◌&&◌, ◌==◌, nat_lt, cond, List, [], ◌∷◌, Some, inl, inr, refl, subst, arith, lt-ltb}
use Rattle.std.specs.List.{filter, All}
use Rattle.std.proofs.lemmas.Bool.{eqb-true, or_left}
use Rattle.std.proofs.lemmas.List.Elements.{All-nil, All-cons, All-head, All-tail}
use Rattle.chorus_entry.specs.declared.entry.Entry.{Entry}
use Rattle.chorus_entry.specs.Act.{message_of, held_port_of}
use Rattle.chorus_world.specs.Views.{is_by, is_about, is_on}
use Rattle.chorus_entry.specs.Order.{is_at, comes_before, IsRising}
use Rattle.chorus_world.specs.Places.{last_clock}
use Rattle.chorus_world.specs.Order.{IsCausal}
use Rattle.chorus_world.proofs.Sorted.Exchange.{before_parts}
use Rattle.chorus_world.proofs.Ports.LineLemmas.{id_is}
use Rattle.chorus_world.proofs.Steps.LegalLemmas.{on_is}

earlier : (f e : Entry) → f.clock < e.clock → comes_before f e ≡ true
earlier f e h = or_left (nat_lt f.clock e.clock) ((f.clock == e.clock) && nat_lt f.place e.place) (lt-ltb f.clock e.clock h)

through : (f g e : Entry) → comes_before f g ≡ true → g.clock < e.clock → comes_before f e ≡ true
through f g e h lt =
    elim (before_parts f g h) [
      | inl x ↦ earlier f e (omega (arith, x, lt))
      | inr x ↦ earlier f e (let same = x.0 in omega (arith, same, lt))
    ]

all-earlier : (e g : Entry) (v : List Entry) → g.clock < e.clock → All (λ (f : Entry). comes_before f g ≡ true) v → All (λ (f : Entry). comes_before f e ≡ true) v
all-earlier e g [] lt h = All-nil (λ (f : Entry). comes_before f e ≡ true)
all-earlier e g (f ∷ v) lt h =
    All-cons (λ (f : Entry). comes_before f e ≡ true) f v
    (through f g e (All-head (λ (f : Entry). comes_before f g ≡ true) f v h) lt)
    (all-earlier e g v lt (All-tail (λ (f : Entry). comes_before f g ≡ true) f v h))

rises-more : (e : Entry) (v : List Entry) → IsRising v → last_clock v < e.clock → IsRising (e ∷ v)
rises-more e [] r lt = (All-nil (λ (f : Entry). comes_before f e ≡ true), r)
rises-more e (g ∷ v) r lt = (
  All-cons (λ (f : Entry). comes_before f e ≡ true) g v (earlier g e lt) (all-earlier e g v lt r.0),
  r,
)

view-more : (t : Entry → Bool) (e : Entry) (past : List Entry) → IsRising (filter t past) → (t e ≡ true → last_clock (filter t past) < e.clock) → IsRising (filter t (e ∷ past))
view-more t e past r h = by (t e) h
  where
    by : (b : Bool) → (b ≡ true → last_clock (filter t past) < e.clock) → IsRising (cond b (e ∷ filter t past) (filter t past))
    by true k = rises-more e (filter t past) r (k refl)
    by false k = r

pub causal-more : (e : Entry) (past : List Entry) → IsCausal past → last_clock (filter (is_at e.place) past) < e.clock → last_clock (filter (is_by e.seat) past) < e.clock
    → last_clock (filter (is_about (message_of e.act)) past) < e.clock → last_clock (filter (is_on (held_port_of e.act)) past) < e.clock → IsCausal (e ∷ past)
causal-more e past c here mine message port =
    record {
      places = λ p. view-more (is_at p) e past (c.places p) (λ h. subst (λ z. last_clock (filter (is_at z) past) < e.clock) (eqb-true e.place p h) here);
      seats = λ k. view-more (is_by k) e past (c.seats k) (λ h. subst (λ z. last_clock (filter (is_by z) past) < e.clock) (eqb-true e.seat k h) mine);
      messages = λ x. view-more (is_about (Some x)) e past (c.messages x) (λ h. subst (λ z. last_clock (filter (is_about z) past) < e.clock) (id_is x (message_of e.act) h) message);
      ports = λ q. view-more (is_on (Some q)) e past (c.ports q) (λ h. subst (λ z. last_clock (filter (is_on z) past) < e.clock) (on_is q (held_port_of e.act) h) port);
    }
