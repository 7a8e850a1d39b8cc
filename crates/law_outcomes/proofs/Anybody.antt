-- Networks stay alike, whoever delivers, and whoever sees entries.
-- n and m are networks, w and v are callers, i, j and k are seats, a and b numbers of places.
use Rattle.std.proofs.Common.{ℕ, ◌≡◌, ◌≤◌, ◌==◌, max, true, List, Option, Some, None, is_some, slice_get, slice_set, inl, inr, refl, sym, ◌∙◌, ap, subst, arith}
use Rattle.std.proofs.lemmas.Bool.{cases_Bool, eqb-true, eqb-false}
use Rattle.chorus_entry.specs.declared.packet.Packet.{Packet}
use Rattle.chorus_calls.specs.Callers.{Seated, after_tick, raised}
use Rattle.law_machine.specs.PlaceState.{Turn}
use Rattle.law_machine.specs.PlaceMachine.{begun_by, work}
use Rattle.law_network.specs.Network.{NetState, Deliver, See, delivered, happened, place, shown, works_off}
use Rattle.law_network.specs.Packets.{first_on}
use Rattle.law_network.proofs.Standing.CallerList.{get-other, get-replaced}
use Rattle.law_explore.specs.Alike.{ActAlike, CallerAlike, NetsAlike, SameButLast, with_other}
use Rattle.law_explore.proofs.Alike.{itself, keep_acts, works-alike}
use Rattle.law_explore.proofs.Nets.{delivery-alike}

-- Callers of whom the last clock alone changes.

pub kept : (w v : Seated) (z : Option Seated) → SameButLast w v → CallerAlike (Some w) z → CallerAlike (Some v) z
kept w v None s a = absurd a
kept w v (Some u) s a = record { last = a.last; is = a.is ∙ sym (ap (λ (x : Seated). after_tick x a.last) s.is) }

pub replaced : (cs : List Seated) (i k : ℕ) (w v : Seated) (z : Option Seated) → slice_get cs i ≡ Some w → SameButLast w v → CallerAlike (slice_get cs k) z → CallerAlike (slice_get (slice_set cs i v) k) z
replaced cs i k w v z e s a =
    elim (cases_Bool (i == k)) [
      | inl here ↦
          (let same : i ≡ k = eqb-true i k here in
          subst (λ (j : ℕ). CallerAlike (slice_get (slice_set cs i v) j) z) same
          (subst (λ o. CallerAlike o z) (sym (get-replaced cs i w v e)) (kept w v z s (subst (λ o. CallerAlike o z) (ap (slice_get cs) (sym same) ∙ e) a))))
      | inr away ↦ subst (λ o. CallerAlike o z) (sym (get-other cs i k v (eqb-false i k away))) a
    ]

ticked : (base c d : Seated) (x y : ℕ) → SameButLast base c → SameButLast base (after_tick c x)
ticked base c d x y h = record { last = x; is = ap (λ (w : Seated). after_tick w x) h.is }

-- who works a packet off stays the same but for that
worked : (q : Packet) (t : Turn) → SameButLast t.caller (work q t).caller
worked q t =
    (works-alike ActAlike keep_acts (λ c d. SameButLast t.caller c) (ticked t.caller) q q.clock t (with_other t.place.journal t.caller t.puts t)
    (itself ActAlike keep_acts (λ c d. SameButLast t.caller c) (ticked t.caller) t t.place.journal t.caller t.puts refl refl (record { last = t.caller.last; is = refl }))).callers

-- Deliveries.

delivered-keeps : (i a b : ℕ) (n : NetState) (k : ℕ) (z : Option Seated) → CallerAlike (slice_get n.callers k) z → CallerAlike (slice_get (happened (Deliver i a b) n).callers k) z
delivered-keeps i a b n k z h = by (slice_get n.callers i) refl
  where
    off : (w : Seated) → slice_get n.callers i ≡ Some w → (o : Option Packet) → CallerAlike (slice_get (works_off i a b w o n).callers k) z
    off w e None = h
    off w e (Some q) =
        let s = worked q (begun_by (place b n) w q) in
        replaced n.callers i k w (work q (begun_by (place b n) w q)).caller z e (record { last = s.last; is = s.is }) h

    by : (o : Option Seated) → slice_get n.callers i ≡ o → CallerAlike (slice_get (delivered i a b o n).callers k) z
    by None e = h
    by (Some w) e = off w e (first_on a b n.packets)

-- what seat 0 delivers leaves all others as they are
delivered-others : (a b : ℕ) (m : NetState) (k : ℕ) → 1 ≤ k → slice_get (happened (Deliver 0 a b) m).callers k ≡ slice_get m.callers k
delivered-others a b m k low = by (slice_get m.callers 0)
  where
    off : (w : Seated) (o : Option Packet) → slice_get (works_off 0 a b w o m).callers k ≡ slice_get m.callers k
    off w None = refl
    off w (Some q) = get-other m.callers 0 k (work q (begun_by (place b m) w q)).caller (λ same. omega (arith, low, same))

    by : (o : Option Seated) → slice_get (delivered 0 a b o m).callers k ≡ slice_get m.callers k
    by None = refl
    by (Some w) = off w (first_on a b m.packets)

module _ (count : ℕ) (n m : NetState) (h : NetsAlike ActAlike count n m) where
  pub delivers-alike : (i a b : ℕ) → is_some (slice_get n.callers i) ≡ true → is_some (slice_get m.callers 0) ≡ true → NetsAlike ActAlike count (happened (Deliver i a b) n) (happened (Deliver 0 a b) m)
  delivers-alike i a b one other =
      let none : NetsAlike ActAlike 0 n m = record { layout = h.layout; places = h.places; packets = h.packets; callers = λ k low high. absurd (omega (arith, low, high)) } in
      let d = delivery-alike ActAlike keep_acts 0 n m none i 0 a b (λ k low high. absurd (omega (arith, low, high))) one other in
      record {
        layout = d.layout;
        places = d.places;
        packets = d.packets;
        callers = λ k low high.
            subst (CallerAlike (slice_get (happened (Deliver i a b) n).callers k)) (sym (delivered-others a b m k low))
            (delivered-keeps i a b n k (slice_get m.callers k) (h.callers k low high));
      }

  -- Entries that are seen.
  pub sees-alike : (k clock : ℕ) → NetsAlike ActAlike count (happened (See k clock) n) m
  sees-alike k clock = by (slice_get n.callers k) refl
    where
      by : (o : Option Seated) → slice_get n.callers k ≡ o → NetsAlike ActAlike count (shown k clock o n) m
      by None e = h
      by (Some w) e = record {
        layout = h.layout;
        places = h.places;
        packets = h.packets;
        callers = λ i low high. replaced n.callers k i w (raised clock w) (slice_get m.callers i) e (record { last = max w.last clock; is = refl }) (h.callers i low high);
      }
