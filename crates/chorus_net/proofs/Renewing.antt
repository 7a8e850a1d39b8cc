-- Places that are started again, one after the other.
use Rattle.std.proofs.Common.{ℕ, zero, suc, ◌≡◌, ◌+◌, ◌<◌, List, [], ◌∷◌, ◌++◌, length, map, reverse, drop, get_or, set, replicate, refl, sym, ◌∙◌, ap, subst, arith}
use Rattle.std.specs.List.{All}
use Rattle.std.proofs.lemmas.List.{append-nil}
use Rattle.std.proofs.lemmas.List.Elements.{All-head, All-tail}
use Rattle.chorus_ui.specs.declared.layout.Layout.{Layout}
use Rattle.chorus_ui.specs.Layout.{places}
use Rattle.chorus_entry.specs.declared.packet.Packet.{Packet}
use Rattle.place_outbox.specs.Waiting.{count}
use Rattle.law_machine.specs.PlaceState.{PlaceState, started}
use Rattle.law_network.specs.Left.{placed_at}
use Rattle.law_network.specs.Network.{NetState}
use Rattle.chorus_place.specs.Calls.{Place, state}
use Rattle.chorus_net.specs.declared.closed.Closed.{Closed}
use Rattle.chorus_net.specs.Closing.{closed_journals, flat, journals_in, packets_of, ports_of, HasMark, IsWith}
use Rattle.chorus_net.specs.Sites.{SitesState, ArePlaces, IsPlaceOf, IsSites}
use Rattle.chorus_net.specs.Starting.{HasStarted, HaveStarted, IsUntouched}
use Rattle.chorus_net.proofs.Parts.{one-more}
use Rattle.chorus_net.proofs.Untouched.{scheduled-untouched}

-- the first ones have started, so many; the others are as sites keep them, and as they were started where they have no
-- entry
pub record IsOld (l : Layout) (k : ℕ) (p : Place) : Type 0 where
  pub place : IsPlaceOf l k p
  pub untouched : IsUntouched (state p)

abbrev pub AreRestarted : Layout → ℕ → ℕ → List Place → Type 0
AreRestarted l k done [] = Unit {0}
AreRestarted l k zero (p ∷ ps) = IsOld l k p × AreRestarted l (k + 1) zero ps
AreRestarted l k (suc done) (p ∷ ps) = HasStarted l k p × AreRestarted l (k + 1) done ps

pub none-restarted : (l : Layout) (k : ℕ) (ps : List Place) → ArePlaces l k ps → All IsUntouched (map state ps) → AreRestarted l k 0 ps
none-restarted l k [] h u = tt
none-restarted l k (p ∷ ps) h u = (
  record { place = h.0; untouched = All-head IsUntouched (state p) (map state ps) u },
  none-restarted l (k + 1) ps h.1 (All-tail IsUntouched (state p) (map state ps) u),
)

pub one-restarted : (l : Layout) (k i : ℕ) (ps : List Place) (q : Place) → AreRestarted l k i ps → HasStarted l (k + i) q → AreRestarted l k (suc i) (set ps i q)
one-restarted l k i [] q h s = tt
one-restarted l k zero (p ∷ ps) q h s = ((let e : k + 0 ≡ k = omega arith in subst (λ j. HasStarted l j q) e s), h.1)
one-restarted l k (suc i) (p ∷ ps) q h s =
    (h.0, one-restarted l (k + 1) i ps q h.1 (let e : k + suc i ≡ (k + 1) + i = omega arith in subst (λ j. HasStarted l j q) e s))

none-wait : (n : ℕ) (ls : List (List Packet)) → length ls ≡ n → count ls ≡ 0 → ls ≡ replicate n []
none-wait zero [] e h = refl
none-wait zero (l ∷ ls) e h = absurd (omega (arith, e))
none-wait (suc n) [] e h = absurd (omega (arith, e))
none-wait (suc n) ([] ∷ ls) e h = ap (λ ks. [] ∷ ks) (none-wait n ls (omega (arith, e)) (omega (arith, h)))
none-wait (suc n) ((x ∷ l) ∷ ls) e h = absurd (omega (arith, h))

pub still-started : (l : Layout) (k : ℕ) (p : Place) → IsOld l k p → p.journal ≡ [] → count p.out.lists ≡ 0 → HasStarted l k p
still-started l k p h none empty = record {
  state = h.untouched none ∙ ap (λ m. started m p.number) h.place.layout ∙ ap (started l) h.place.number;
  waits = none-wait (places l + 1) p.out.lists h.place.lists empty;
}

pub all-restarted : (l : Layout) (k i : ℕ) (ps : List Place) → AreRestarted l k i ps → length ps ≡ i → HaveStarted l k ps
all-restarted l k i [] h e = tt
all-restarted l k zero (p ∷ ps) h e = absurd (omega (arith, e))
all-restarted l k (suc i) (p ∷ ps) h e = (h.0, all-restarted l (k + 1) i ps h.1 (omega (arith, e)))

-- One place after the other: the first ones, so many, have started again, and what was left of them is taken.

pub record AreTaken (l : Layout) (mark i : ℕ) (all ps : List Place) (closed : Closed) : Type 0 where
  pub restarted : AreRestarted l 1 i ps
  pub journals : closed_journals closed ++ journals_in (drop i ps) ≡ journals_in all
  pub rest : closed.rest.items ++ packets_of (drop i ps) ≡ packets_of all
  pub ports : closed.ports.items ++ ports_of (drop i ps) ≡ ports_of all
  pub origin : HasMark mark closed

pub none-taken : (l : Layout) (mark : ℕ) (ps : List Place) (closed : Closed) → ArePlaces l 1 ps → All IsUntouched (map state ps) → closed_journals closed ≡ []
    → closed.rest.items ≡ [] → closed.ports.items ≡ [] → HasMark mark closed → AreTaken l mark 0 ps ps closed
none-taken l mark ps closed h u j r q o = record {
  restarted = none-restarted l 1 ps h u;
  journals = ap (λ js. js ++ journals_in ps) j;
  rest = ap (λ xs. xs ++ packets_of ps) r;
  ports = ap (λ xs. xs ++ ports_of ps) q;
  origin = o;
}

drop-at : (i : ℕ) (ps : List Place) (p q : Place) → p ≡ get_or ps i p → i < length ps → drop i ps ≡ p ∷ drop (suc i) (set ps i q)
drop-at i [] p q e lt = absurd (omega (arith, lt))
drop-at zero (r ∷ ps) p q e lt = ap (λ x. x ∷ ps) (sym e)
drop-at (suc i) (r ∷ ps) p q e lt = drop-at i ps p q e (omega (arith, lt))

pub old-at : (l : Layout) (k i : ℕ) (ps : List Place) (p : Place) → AreRestarted l k i ps → p ≡ get_or ps i p → i < length ps → IsOld l (k + i) p
old-at l k i [] p h e lt = absurd (omega (arith, lt))
old-at l k zero (r ∷ ps) p h e lt = (let n : k ≡ k + 0 = omega arith in subst (λ j. IsOld l j p) n (subst (IsOld l k) (sym e) h.0))
old-at l k (suc i) (r ∷ ps) p h e lt =
    (let n : (k + 1) + i ≡ k + suc i = omega arith in subst (λ j. IsOld l j p) n (old-at l (k + 1) i ps p h.1 e (omega (arith, lt))))

pub one-taken : (l : Layout) (mark i : ℕ) (all ps : List Place) (p q : Place) (old new : Closed) → AreTaken l mark i all ps old → p ≡ get_or ps i p → i < length ps
    → IsWith p old new → HasStarted l (1 + i) q → AreTaken l mark (suc i) all (set ps i q) new
one-taken l mark i all ps p q old new h e lt w s =
    let d = drop-at i ps p q e lt in
    let rest = drop (suc i) (set ps i q) in
    record {
      restarted = one-restarted l 1 i ps q h.restarted s;
      journals = one-more (closed_journals old) (reverse p.journal ∷ []) (journals_in rest) (journals_in all)
          (ap (λ ds. closed_journals old ++ journals_in ds) (sym d) ∙ h.journals) (closed_journals new) w.journals;
      rest = one-more old.rest.items (flat p.out.lists) (packets_of rest) (packets_of all)
          (ap (λ ds. old.rest.items ++ packets_of ds) (sym d) ∙ h.rest) new.rest.items w.rest;
      ports = one-more old.ports.items (placed_at p.number p.ports) (ports_of rest) (ports_of all)
          (ap (λ ds. old.ports.items ++ ports_of ds) (sym d) ∙ h.ports) new.ports.items w.ports;
      origin = w.origin ∙ h.origin;
    }

-- What is left of a place that has nothing.

none-flat : (ls : List (List Packet)) → count ls ≡ 0 → flat ls ≡ []
none-flat [] h = refl
none-flat ([] ∷ ls) h = none-flat ls (omega (arith, h))
none-flat ((x ∷ l) ∷ ls) h = absurd (omega (arith, h))

pub with-nothing : (l : Layout) (k : ℕ) (p : Place) (old new : Closed) → IsOld l k p → p.journal ≡ [] → count p.out.lists ≡ 0
    → closed_journals new ≡ closed_journals old ++ [] ∷ [] → new.rest.items ≡ old.rest.items → new.ports.items ≡ old.ports.items → new.origin ≡ old.origin
    → IsWith p old new
with-nothing l k p old new h none empty j r q o =
    let ports : p.ports ≡ [] = ap (λ (s : PlaceState). s.ports) (h.untouched none) in
    record {
      journals = j ∙ ap (λ js. closed_journals old ++ reverse js ∷ []) (sym none);
      rest = r ∙ sym (append-nil old.rest.items) ∙ ap (λ xs. old.rest.items ++ xs) (sym (none-flat p.out.lists empty));
      ports = q ∙ sym (append-nil old.ports.items) ∙ ap (λ rs. old.ports.items ++ placed_at p.number rs) (sym ports);
      origin = o;
    }

-- what sites keep
pub sites-untouched : (s : SitesState) → IsSites s → All IsUntouched (map state s.places)
sites-untouched s h =
    subst (λ (n : NetState). All IsUntouched n.places) (sym h.scheduled.is) (scheduled-untouched s.layout h.scheduled.events)
