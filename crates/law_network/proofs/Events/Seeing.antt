-- A caller sees an entry: nothing changes but its last clock.
use Rattle.std.proofs.Common.{ℕ, ◌≡◌, ◌==◌, Bool, true, false, List, [], Option, Some, None, slice_get, refl, sym, ◌∙◌, ap, subst}
use Rattle.std.specs.Option.{option_map}
use Rattle.std.proofs.lemmas.Bool.{eqb-true, eqb-false}
use Rattle.chorus_entry.specs.declared.entry.Entry.{Entry}
use Rattle.chorus_world.specs.Views.{by}
use Rattle.chorus_world.specs.Runs.{is_run}
use Rattle.chorus_calls.specs.Callers.{Seated, raised}
use Rattle.law_network.specs.Network.{NetState, shown}
use Rattle.law_network.specs.Stands.{IsCaller, Stands, actor_of}
use Rattle.law_network.specs.Ready.{IsReady}
use Rattle.law_network.proofs.Standing.CallerList.{get-replaced, get-other}
use Rattle.law_network.proofs.Standing.Turning as turning

module _ (n : NetState) (k clock : ℕ) (caller : Seated) (found : slice_get n.callers k ≡ Some caller) where
  abbrev seen : NetState
  seen = shown k clock (Some caller) n

  here : slice_get seen.callers k ≡ Some (raised clock caller)
  here = get-replaced n.callers k caller (raised clock caller) found

  there : (j : ℕ) → (k == j) ≡ false → slice_get seen.callers j ≡ slice_get n.callers j
  there j ne = get-other n.callers k j (raised clock caller) (eqb-false k j ne)

  same-actor : (j : ℕ) → actor_of seen j ≡ actor_of n j
  same-actor j = go (k == j) refl
    where
      go : (b : Bool) → (k == j) ≡ b → actor_of seen j ≡ actor_of n j
      go false e = ap (option_map (λ (c : Seated). c.actor)) (there j e)
      go true e =
          subst (λ z. actor_of seen z ≡ actor_of n z) (eqb-true k j e)
          (ap (option_map (λ (c : Seated). c.actor)) here ∙ sym (ap (option_map (λ (c : Seated). c.actor)) found))

  caller-is : (past : List Entry) → Stands n past → (j : ℕ) (c : Seated) → slice_get seen.callers j ≡ Some c → IsCaller n.layout past (by j past) j c
  caller-is past w j c h = go (k == j) refl
    where
      go : (b : Bool) → (k == j) ≡ b → IsCaller n.layout past (by j past) j c
      go false e = w.callers j c (sym (there j e) ∙ h)
      go true e =
          let same : k ≡ j = eqb-true k j e in
          let now : slice_get seen.callers k ≡ Some c = ap (slice_get seen.callers) same ∙ h in
          let is : raised clock caller ≡ c = (let both : Some (raised clock caller) ≡ Some c = sym here ∙ now in cc) in
          subst (λ z. IsCaller n.layout past (by z past) z c) same
          (subst (IsCaller n.layout past (by k past) k) is (turning.raised n.layout past (by k past) k clock caller (w.callers k caller found)))

  stranger-is : (past : List Entry) → Stands n past → (j : ℕ) → slice_get seen.callers j ≡ None → by j past ≡ []
  stranger-is past w j h = go (k == j) refl
    where
      go : (b : Bool) → (k == j) ≡ b → by j past ≡ []
      go false e = w.strangers j (sym (there j e) ∙ h)
      go true e =
          let now : slice_get seen.callers k ≡ None = ap (slice_get seen.callers) (eqb-true k j e) ∙ h in
          let none : Some (raised clock caller) ≡ None = sym here ∙ now in
          absurd (cc)

  stands : (past : List Entry) → Stands n past → Stands seen past
  stands past w =
      record {
        run = (λ i. is_run n.layout (λ j. same-actor j i) past) ∙ w.run;
        causal = w.causal;
        looks = w.looks;
        places = w.places;
        journal = w.journal;
        ports = w.ports;
        once = w.once;
        known = w.known;
        waiting = w.waiting;
        unheard = w.unheard;
        order = w.order;
        messages = w.messages;
        transfers = w.transfers;
        asks = w.asks;
        callers = caller-is past w;
        strangers = stranger-is past w;
      }

pub shown-actors : (n : NetState) (k clock : ℕ) (o : Option Seated) (j : ℕ) → slice_get n.callers k ≡ o → actor_of (shown k clock o n) j ≡ actor_of n j
shown-actors n k clock None j e = refl
shown-actors n k clock (Some caller) j e = same-actor n k clock caller e j

pub shown-stands : (n : NetState) (past : List Entry) (k clock : ℕ) (o : Option Seated) → slice_get n.callers k ≡ o → Stands n past → IsReady n past
    → Stands (shown k clock o n) past × IsReady (shown k clock o n) past
shown-stands n past k clock None e w r = (w, r)
shown-stands n past k clock (Some caller) e w r =
    (stands n k clock caller e past w, record { tried = r.tried; chosen = r.chosen; ended = r.ended })
