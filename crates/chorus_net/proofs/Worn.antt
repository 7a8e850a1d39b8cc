-- Deliveries that compare no clock from 2^62 on.
use Rattle.std.proofs.Common.{ℕ, ◌≡◌, ◌≤◌, ◌<◌, ◌↔◌, nat_lt, Bool, true, false, List, [], ◌∷◌, ◌++◌, reverse, Option, Some, None, is_some, slice_get, Result, Ok, Err, refl, sym, subst}
use Rattle.std.proofs.lemmas.Bool.{ltb-true, ltb-false}
use Rattle.std.proofs.lemmas.List.{reverse-append}
use Rattle.chorus_ui.specs.declared.limits.TheConstants.{CLOCK_LIMIT}
use Rattle.chorus_entry.specs.declared.packet.Packet.{Packet}
use Rattle.chorus_calls.specs.Callers.{Seated}
use Rattle.chorus_place.specs.declared.fault.PlaceFault.{PlaceFault}
use Rattle.chorus_place.specs.declared.fault.PlaceFault.TheVariants as faults
use Rattle.law_network.specs.declared.delivery.Delivered.{Delivered}
use Rattle.law_network.specs.Packets.{first_on}
use Rattle.law_network.specs.Calls.{compared_on, compared_at}
use Rattle.law_network.specs.Network.{NetState, Event, happened, after}
use Rattle.law_network.proofs.Draining.Drains.{after-append}
use Rattle.chorus_net.specs.Drains.{forward}
use Rattle.chorus_net.specs.Worn.{compared_by, IsUnworn, AreUnworn, ComeUnworn}

pub unworn-append : (xs ys : List Event) (n : NetState) → AreUnworn xs (after ys n) → AreUnworn ys n → AreUnworn (xs ++ ys) n
unworn-append [] ys n h k = k
unworn-append (x ∷ xs) ys n h k = (subst (λ m. IsUnworn (compared_by x m)) (sym (after-append xs ys n)) h.0, unworn-append xs ys n h.1 k)

pub come-append : (es fs : List Event) (n : NetState) → ComeUnworn es n → ComeUnworn fs (forward es n) → ComeUnworn (es ++ fs) n
come-append [] fs n h k = k
come-append (e ∷ es) fs n h k = (h.0, come-append es fs (happened e n) h.1 k)

pub unworn-reverse : (es : List Event) (n : NetState) → ComeUnworn es n → AreUnworn (reverse es) n
unworn-reverse [] n h = tt
unworn-reverse (e ∷ es) n h =
    subst (λ fs. AreUnworn fs n) (sym (reverse-append (e ∷ []) es))
    (unworn-append (reverse es) (e ∷ []) n (unworn-reverse es (happened e n) h.1) (h.0, tt))

-- a delivery of nothing
pub nothing-unworn : (a b : ℕ) (n : NetState) → is_some (first_on a b n.packets) ≡ false → IsUnworn (compared_at 0 a b n)
nothing-unworn a b n h = go (slice_get n.callers 0) (first_on a b n.packets) h
  where
    go : (who : Option Seated) (packet : Option Packet) → is_some packet ≡ false → IsUnworn (compared_on b who packet n)
    go None packet h = tt
    go (Some x) None h = tt
    go (Some x) (Some k) h = absurd (cc)

-- one that was not refused
pub done-unworn : (r : Result Delivered PlaceFault) (v : Delivered) (o : Option ℕ) → r ≡ Ok v
    → ((clock : ℕ) → (r ≡ Err (faults.Worn clock)) ↔ ((CLOCK_LIMIT ≤ clock) × (o ≡ Some clock))) → IsUnworn o
done-unworn r v None ok worn = tt
done-unworn r v (Some g) ok worn = go (nat_lt g CLOCK_LIMIT) refl
  where
    ok-err : {A E : Type 0} (r : Result A E) (v : A) (e : E) → r ≡ Ok v → r ≡ Err e → ⊥
    ok-err r v e a b = cc

    go : (b : Bool) → nat_lt g CLOCK_LIMIT ≡ b → g < CLOCK_LIMIT
    go true e = ltb-true g CLOCK_LIMIT e
    go false e = absurd (ok-err r v (faults.Worn g) ok ((worn g).1 (ltb-false g CLOCK_LIMIT e, refl)))
