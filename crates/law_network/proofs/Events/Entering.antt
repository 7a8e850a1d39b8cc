-- A caller comes.
use Rattle.std.proofs.Common.{ℕ, zero, suc, ◌≡◌, inl, inr, true, ◌&&◌, List, [], ◌∷◌, ◌++◌, length, Option, Some, None, refl, sym, ◌∙◌, ap, subst, arith, nat_lt}
use Rattle.std.specs.Prelude.{slice_get}
use Rattle.std.specs.Option.{option_map}
use Rattle.std.proofs.lemmas.Bool.{and_parts, and_from, false≢true}
use Rattle.std.proofs.lemmas.Option.{slice_get_past}
use Rattle.chorus_ui.specs.declared.ui.Ui.{Ui}
use Rattle.chorus_ui.specs.declared.layout.Layout.{Layout}
use Rattle.chorus_ui.specs.Layout.{has_actor}
use Rattle.chorus_entry.specs.declared.entry.Entry.{Entry}
use Rattle.chorus_ui.specs.NameKind.{is_actor}
use Rattle.chorus_world.specs.Views.{by}
use Rattle.chorus_world.specs.Places.{last_clock}
use Rattle.chorus_world.specs.Steps.{may}
use Rattle.chorus_world.specs.Runs.{is_run, may_run, fits_callers}
use Rattle.chorus_world.proofs.Messages.AcceptedLemmas.{get_push}
use Rattle.chorus_calls.specs.Callers.{Seated, new_caller}
use Rattle.law_network.specs.Network.{NetState, entered}
use Rattle.law_network.specs.Stands.{IsCaller, Stands, actor_of}

-- a run stays one for more callers
fits-more : (f g : Option Ui) (past : List Entry) (e : Entry) → ((a : Ui) → f ≡ Some a → g ≡ Some a) → fits_callers past e.place f e.act ≡ true → fits_callers past e.place g e.act ≡ true
fits-more None g past e h k = absurd (false≢true k)
fits-more (Some a) g past e h k = ap (λ z. fits_callers past e.place z e.act) (h a refl) ∙ k

pub run-more : (l : Layout) (f g : ℕ → Option Ui) (past : List Entry) → ((k : ℕ) (a : Ui) → f k ≡ Some a → g k ≡ Some a) → is_run l f past ≡ true → is_run l g past ≡ true
run-more l f g [] h k = refl
run-more l f g (e ∷ past) h k =
    let two = and_parts (may l past e && may_run f past e) (is_run l f past) k in
    let one = and_parts (may l past e) (may_run f past e) two.0 in
    let seat = and_parts (nat_lt (last_clock (by e.seat past)) e.clock) (fits_callers past e.place (f e.seat) e.act) one.1 in
    and_from (may l past e && may_run g past e) (is_run l g past)
    (and_from (may l past e) (may_run g past e) one.0
    (and_from (nat_lt (last_clock (by e.seat past)) e.clock) (fits_callers past e.place (g e.seat) e.act) seat.0 (fits-more (f e.seat) (g e.seat) past e (h e.seat) seat.1)))
    (run-more l f g past h two.1)

get-front : (cs : List Seated) (x : Seated) (k : ℕ) (a : Ui) → option_map (λ (c : Seated). c.actor) (slice_get cs k) ≡ Some a → option_map (λ (c : Seated). c.actor) (slice_get (cs ++ x ∷ []) k) ≡ Some a
get-front [] x k a h = absurd (cc)
get-front (c ∷ cs) x zero a h = h
get-front (c ∷ cs) x (suc k) a h = get-front cs x k a h

none-front : (cs : List Seated) (x : Seated) (k : ℕ) → slice_get (cs ++ x ∷ []) k ≡ None → slice_get cs k ≡ None
none-front [] x k h = refl
none-front (c ∷ cs) x zero h = absurd (cc)
none-front (c ∷ cs) x (suc k) h = none-front cs x k h

new-is : (l : Layout) (past : List Entry) (k : ℕ) (actor : Ui) (last : ℕ) → is_actor actor ≡ true → has_actor l actor ≡ true → IsCaller l past [] k (new_caller k actor last)
new-is l past k actor last kind here =
    record { seat = refl; kind = kind; actor = here; posts = refl; given = refl; call = refl; hand = refl; clock = omega arith; stays = refl }

pub enters : (n : NetState) (past : List Entry) (actor : Ui) (last : ℕ) → is_actor actor ≡ true → has_actor n.layout actor ≡ true → Stands n past → Stands (entered actor last n) past
enters n past actor last kind here w =
    let l = n.layout in
    let x = new_caller (length n.callers) actor last in
    let m = entered actor last n in
    let none : by (length n.callers) past ≡ [] = w.strangers (length n.callers) (slice_get_past n.callers (length n.callers) (omega arith)) in
    let new = subst (λ v. IsCaller l past v (length n.callers) x) (sym none) (new-is l past (length n.callers) actor last kind here) in
    record {
      run = run-more l (actor_of n) (actor_of m) past (get-front n.callers x) w.run;
      causal = w.causal;
      looks = w.looks;
      places = w.places;
      journal = w.journal;
      ports = w.ports;
      once = w.once;
      known = w.known;
      waiting = w.waiting;
      unheard = w.unheard;
      order = w.order;
      messages = w.messages;
      transfers = w.transfers;
      asks = w.asks;
      callers = λ k c h. elim (get_push n.callers x k c h) [
        | inl old ↦ w.callers k c old
        | inr now ↦ (
            let seat : length n.callers ≡ k = sym now.0 in
            subst (λ z. IsCaller l past (by z past) z c) seat (subst (IsCaller l past (by (length n.callers) past) (length n.callers)) now.1 new))
      ];
      strangers = λ k h. w.strangers k (none-front n.callers x k h);
    }
