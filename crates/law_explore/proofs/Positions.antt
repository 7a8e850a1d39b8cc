-- Positions that are alike: being so is an equivalence, and what comes behind the one comes behind the other.
-- r is a race, s, t and u are positions, m is a move, ms, os and more are moves.
use Rattle.std.proofs.Common.{ℕ, ◌≡◌, ◌<◌, ◌≤◌, Bool, true, List, [], ◌∷◌, ◌++◌, length, Option, Some, None, is_some, slice_get, refl, sym, ◌∙◌, ap, subst, arith}
use Rattle.std.specs.List.{filter}
use Rattle.std.proofs.lemmas.Bool.{false≢true, and_parts}
use Rattle.chorus_ui.specs.declared.layout.Layout.{Layout}
use Rattle.chorus_entry.specs.declared.entry.Entry.{Entry}
use Rattle.chorus_calls.specs.Callers.{Seated}
use Rattle.law_machine.specs.PlaceState.{PlaceState}
use Rattle.law_network.specs.Network.{Event}
use Rattle.law_explore.specs.Alike.{ReadAlike, CallerAlike, PlaceAlike, PlacesAlike}
use Rattle.law_explore.specs.Search.{state_after, IsHistory}
use Rattle.law_explore.specs.declared.moves.Move.{Move}
use Rattle.law_explore.specs.Races.{Race, Order, Position, event_of, is_now, position_after, is_ready_by, seat_0, may_come, replaying, all_moves, next_moves, IsRace}
use Rattle.law_explore.specs.Outcome.{outcome_with}
use Rattle.law_explore.specs.Positions.{TellAlike, OrderAlike, AskAlike, PositionsAlike, ComeAlike}
use Rattle.law_explore.specs.Laws.{AlikePositionsComeToTheSame, AlikeIsAnEquivalence}
use Rattle.law_explore.proofs.Carriers.{some-inside, same-filter, same-Bool}
use Rattle.law_explore.proofs.Telling.{keep_tells, outcomes}
use Rattle.law_explore.proofs.Told.{SamePlain, grow-plain, outcome-same}
use Rattle.law_explore.proofs.Replays.{Stay, follows, stays-there, long}

-- An equivalence: of journals, places, callers, networks.

reads-turned : (j k : List Entry) → ReadAlike j k → ReadAlike k j
reads-turned j k h =
    record {
      ports = sym h.ports;
      groups = sym h.groups;
      named = λ g. sym (h.named g);
      members_are = λ g. sym (h.members_are g);
      rotates = λ g. sym (h.rotates g);
      gone = λ q. sym (h.gone q);
    }

reads-joined : (j k i : List Entry) → ReadAlike j k → ReadAlike k i → ReadAlike j i
reads-joined j k i h f =
    record {
      ports = h.ports ∙ f.ports;
      groups = h.groups ∙ f.groups;
      named = λ g. h.named g ∙ f.named g;
      members_are = λ g. h.members_are g ∙ f.members_are g;
      rotates = λ g. h.rotates g ∙ f.rotates g;
      gone = λ q. h.gone q ∙ f.gone q;
    }

tells-itself : (j : List Entry) → TellAlike j j
tells-itself j =
    record {
      reads = record { ports = refl; groups = refl; named = λ g. refl; members_are = λ g. refl; rotates = λ g. refl; gone = λ q. refl };
      verdicts = λ x. refl;
      copies = λ x. refl;
      stale = λ x. refl;
      made = refl;
    }

tells-turned : (j k : List Entry) → TellAlike j k → TellAlike k j
tells-turned j k h =
    record {
      reads = reads-turned j k h.reads;
      verdicts = λ x. sym (h.verdicts x);
      copies = λ x. sym (h.copies x);
      stale = λ x. sym (h.stale x);
      made = sym h.made;
    }

tells-joined : (j k i : List Entry) → TellAlike j k → TellAlike k i → TellAlike j i
tells-joined j k i h f =
    record {
      reads = reads-joined j k i h.reads f.reads;
      verdicts = λ x. h.verdicts x ∙ f.verdicts x;
      copies = λ x. h.copies x ∙ f.copies x;
      stale = λ x. h.stale x ∙ f.stale x;
      made = h.made ∙ f.made;
    }

order-itself : (j : List Entry) → OrderAlike j j
order-itself j = record { accepts = λ q. refl; sent = λ x. refl }

order-turned : (j k : List Entry) → OrderAlike j k → OrderAlike k j
order-turned j k h = record { accepts = λ q. sym (h.accepts q); sent = λ x. sym (h.sent x) }

order-joined : (j k i : List Entry) → OrderAlike j k → OrderAlike k i → OrderAlike j i
order-joined j k i h f = record { accepts = λ q. h.accepts q ∙ f.accepts q; sent = λ x. h.sent x ∙ f.sent x }

module _ (asks : Bool) where
  pub asks-itself : (j : List Entry) → AskAlike asks j j
  asks-itself j = record { tells = tells-itself j; order = λ a. order-itself j }

  pub asks-turned : (j k : List Entry) → AskAlike asks j k → AskAlike asks k j
  asks-turned j k h = record { tells = tells-turned j k h.tells; order = λ a. order-turned j k (h.order a) }

  pub asks-joined : (j k i : List Entry) → AskAlike asks j k → AskAlike asks k i → AskAlike asks j i
  asks-joined j k i h f = record { tells = tells-joined j k i h.tells f.tells; order = λ a. order-joined j k i (h.order a) (f.order a) }

-- so it is of places, where it is of journals

module _ (J : List Entry → List Entry → Type 0) (itself-by : (j : List Entry) → J j j) where
  pub places-itself : (ss : List PlaceState) → PlacesAlike J ss ss
  places-itself [] = tt
  places-itself (s ∷ ss) = (record { journal = s.journal; is = refl; journals = itself-by s.journal }, places-itself ss)

module _ (J : List Entry → List Entry → Type 0) (turned-by : (j k : List Entry) → J j k → J k j) where
  place-turned : (s r : PlaceState) → PlaceAlike J s r → PlaceAlike J r s
  place-turned s r h =
      record {
        journal = s.journal;
        is = ap (λ (x : PlaceState). let y : PlaceState = record x { journal = s.journal } in y) (sym h.is);
        journals = subst (λ (x : PlaceState). J x.journal s.journal) (sym h.is) (turned-by s.journal h.journal h.journals);
      }

  pub places-turned : (ss rs : List PlaceState) → PlacesAlike J ss rs → PlacesAlike J rs ss
  places-turned [] [] h = tt
  places-turned [] (r ∷ rs) h = absurd h
  places-turned (s ∷ ss) [] h = absurd h
  places-turned (s ∷ ss) (r ∷ rs) h = (place-turned s r h.0, places-turned ss rs h.1)

module _ (J : List Entry → List Entry → Type 0) (joined-by : (j k i : List Entry) → J j k → J k i → J j i) where
  place-joined : (s r p : PlaceState) → PlaceAlike J s r → PlaceAlike J r p → PlaceAlike J s p
  place-joined s r p h f =
      record {
        journal = f.journal;
        is = f.is ∙ ap (λ (x : PlaceState). let y : PlaceState = record x { journal = f.journal } in y) h.is;
        journals = joined-by s.journal h.journal f.journal h.journals (subst (λ (x : PlaceState). J x.journal f.journal) h.is f.journals);
      }

  pub places-joined : (ss rs ps : List PlaceState) → PlacesAlike J ss rs → PlacesAlike J rs ps → PlacesAlike J ss ps
  places-joined [] [] [] h f = tt
  places-joined [] [] (p ∷ ps) h f = absurd f
  places-joined [] (r ∷ rs) ps h f = absurd h
  places-joined (s ∷ ss) [] ps h f = absurd h
  places-joined (s ∷ ss) (r ∷ rs) [] h f = absurd f
  places-joined (s ∷ ss) (r ∷ rs) (p ∷ ps) h f = (place-joined s r p h.0 f.0, places-joined ss rs ps h.1 f.1)

pub caller-itself : (o : Option Seated) → CallerAlike o o
caller-itself None = tt
caller-itself (Some w) = record { last = w.last; is = refl }

pub caller-turned : (o p : Option Seated) → CallerAlike o p → CallerAlike p o
caller-turned None None h = tt
caller-turned None (Some v) h = absurd h
caller-turned (Some w) None h = absurd h
caller-turned (Some w) (Some v) h =
    record { last = w.last; is = ap (λ (x : Seated). let y : Seated = record x { last = w.last } in y) (sym h.is) }

pub caller-joined : (o p q : Option Seated) → CallerAlike o p → CallerAlike p q → CallerAlike o q
caller-joined None None None h f = tt
caller-joined None None (Some u) h f = absurd f
caller-joined None (Some v) q h f = absurd h
caller-joined (Some w) None q h f = absurd h
caller-joined (Some w) (Some v) None h f = absurd f
caller-joined (Some w) (Some v) (Some u) h f =
    record { last = f.last; is = f.is ∙ ap (λ (x : Seated). let y : Seated = record x { last = f.last } in y) h.is }

pub itself : (count : ℕ) (s : Position) → PositionsAlike count s s
itself count s =
    record {
      nets =
          record {
            layout = refl;
            places = places-itself TellAlike tells-itself s.net.places;
            packets = refl;
            callers = λ k low high. caller-itself (slice_get s.net.callers k);
          };
      left = refl;
      told = refl;
    }

pub turned : (count : ℕ) (s t : Position) → PositionsAlike count s t → PositionsAlike count t s
turned count s t h =
    record {
      nets =
          record {
            layout = sym h.nets.layout;
            places = places-turned TellAlike tells-turned s.net.places t.net.places h.nets.places;
            packets = sym h.nets.packets;
            callers = λ k low high. caller-turned (slice_get s.net.callers k) (slice_get t.net.callers k) (h.nets.callers k low high);
          };
      left = sym h.left;
      told = sym h.told;
    }

pub joined : (count : ℕ) (s t u : Position) → PositionsAlike count s t → PositionsAlike count t u → PositionsAlike count s u
joined count s t u h f =
    record {
      nets =
          record {
            layout = f.nets.layout ∙ h.nets.layout;
            places = places-joined TellAlike tells-joined s.net.places t.net.places u.net.places h.nets.places f.nets.places;
            packets = h.nets.packets ∙ f.nets.packets;
            callers = λ k low high. caller-joined (slice_get s.net.callers k) (slice_get t.net.callers k) (slice_get u.net.callers k) (h.nets.callers k low high) (f.nets.callers k low high);
          };
      left = f.left ∙ h.left;
      told = f.told ∙ h.told;
    }

pub alike-is-an-equivalence : AlikeIsAnEquivalence
alike-is-an-equivalence count = record { itself = itself count; turned = turned count; joined = joined count }

-- What comes behind.

module _ (r : Race) (race : IsRace r) where
  abbrev l : Layout
  l = r.net.layout

  abbrev at : List Move → Position
  at ms = state_after (replaying r) ms

  as-many-by : (o : Option Event) (m : Move) (s : Position) → length (position_after o m s).left ≡ length s.left
  as-many-by None m s = refl
  as-many-by (Some e) m s = long m s.left

  pub as-many : (ms : List Move) → length (at ms).left ≡ length r.scripts
  as-many [] = refl
  as-many (m ∷ ms) = as-many-by (event_of l seat_0 m (at ms).left) m (at ms) ∙ as-many ms

  -- seat 0 is there
  there-by : (o : Option Event) (m : Move) (s : Position) → is_ready_by o s.net ≡ true → is_some (slice_get s.net.callers 0) ≡ true → is_some (slice_get (position_after o m s).net.callers 0) ≡ true
  there-by None m s h there = absurd (false≢true h)
  there-by (Some e) m s h there = stays-there e s.net 0 h there

  first : (n k : ℕ) → n < k → 0 < k
  first n k lt = omega (arith, lt)

  pub there : (ms : List Move) → IsHistory (replaying r) ms → is_some (slice_get (at ms).net.callers 0) ≡ true
  there [] h = some-inside r.net.callers 0 (first (length r.scripts) (length r.net.callers) race.seats)
  there (m ∷ ms) h =
      let ready = (and_parts (is_ready_by (event_of l seat_0 m (at ms).left) (at ms).net) (is_now m (at ms).left (at ms).net) h.0).0 in
      there-by (event_of l seat_0 m (at ms).left) m (at ms) ready (there ms h.1)

  pub not-scripted : (b k : ℕ) → 1 ≤ k → k ≤ length r.scripts → (0 ≡ k → ⊥) × (0 ≡ k → ⊥)
  not-scripted b k low high = (not-0 k low, not-0 k low)
    where
      not-0 : (k : ℕ) → 1 ≤ k → 0 ≡ k → ⊥
      not-0 k low e = omega (arith, low, e)

  stay : (ms os : List Move) → IsHistory (replaying r) os → ComeAlike r ms os → Stay TellAlike SamePlain (length r.scripts) seat_0 (at ms) (at os)
  stay ms os h alike =
      record { nets = alike.nets; left = alike.left; told = alike.told; all = as-many ms; there = λ b. there os h }

  -- one move more
  pub one-more : (ms os : List Move) (m : Move) → IsHistory (replaying r) os → ComeAlike r ms os → may_come l m (at ms) ≡ true → (may_come l m (at os) ≡ true) × ComeAlike r (m ∷ ms) (m ∷ os)
  one-more ms os m h alike may =
      let next = follows TellAlike keep_tells SamePlain grow-plain l (length r.scripts) seat_0 seat_0 not-scripted (at ms) (at os) (stay ms os h alike) m may in
      (next.0, record { nets = next.1.nets; left = next.1.left; told = next.1.told })

  pub goes-on : (ms os more : List Move) → IsHistory (replaying r) os → ComeAlike r ms os → IsHistory (replaying r) (more ++ ms)
      → IsHistory (replaying r) (more ++ os) × ComeAlike r (more ++ ms) (more ++ os)
  goes-on ms os [] history alike h = (history, alike)
  goes-on ms os (m ∷ more) history alike h =
      let before = goes-on ms os more history alike h.1 in
      let next = one-more (more ++ ms) (more ++ os) m before.0 before.1 h.0 in
      ((next.0, before.0), next.1)

  pub same-next : (ms os : List Move) → IsHistory (replaying r) ms → IsHistory (replaying r) os → ComeAlike r ms os → next_moves r (at os) ≡ next_moves r (at ms)
  same-next ms os h k alike =
      let back = turned (length r.scripts) (at ms) (at os) alike in
      same-filter (λ (m : Move). may_come l m (at os)) (λ (m : Move). may_come l m (at ms)) (all_moves l (at os).left)
      (λ m. same-Bool (may_come l m (at os)) (may_come l m (at ms)) (λ may. (one-more os ms m h back may).0) (λ may. (one-more ms os m k alike may).0))
      ∙ ap (λ (left : List (List Order)). filter (λ (m : Move). may_come l m (at ms)) (all_moves l left)) alike.left

pub alike-come : AlikePositionsComeToTheSame
alike-come r ms os more race history alike h =
    let on = goes-on r race ms os more history alike h in
    let s = state_after (replaying r) (more ++ ms) in
    let t = state_after (replaying r) (more ++ os) in
    record {
      may = on.0;
      alike = on.1;
      comes =
          outcome-same r.scripts t.left t.told s.told t.net.places (sym on.1.told)
          ∙ sym (outcomes TellAlike (λ j k x. x) r.scripts t.left s.told s.net.places t.net.places on.1.nets.places)
          ∙ ap (λ (left : List (List Order)). outcome_with r.scripts left s.told s.net.places) on.1.left;
      next = same-next r race (more ++ ms) (more ++ os) h on.0 on.1;
    }
