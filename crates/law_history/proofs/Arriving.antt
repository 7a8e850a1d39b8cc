-- Who comes: after all have come nothing else happened, and each has the new caller of its seat.
use Rattle.std.proofs.Common.{ℕ, zero, suc, ◌≡◌, ◌+◌, ◌==◌, Bool, true, false, ◌&&◌, cond, List, [], ◌∷◌, ◌++◌, length, map, reverse, Option, Some, None, slice_get, refl, sym, ◌∙◌, ap, subst, append_assoc, arith}
use Rattle.std.specs.List.{All}
use Rattle.std.specs.Option.{option_map}
use Rattle.std.proofs.lemmas.Bool.{and_from, eqb-true}
use Rattle.std.proofs.lemmas.List.{append-nil, length-append}
use Rattle.std.proofs.lemmas.List.Elements.{All-head, All-tail}
use Rattle.chorus_ui.specs.declared.layout.Layout.{Layout}
use Rattle.chorus_ui.specs.Layout.{has_actor}
use Rattle.chorus_ui.specs.NameKind.{is_actor}
use Rattle.chorus_calls.specs.Callers.{Seated, new_caller}
use Rattle.law_machine.specs.PlaceState.{started}
use Rattle.law_network.specs.Network.{Event, place_numbers, place_in, schedule}
use Rattle.law_network.specs.Schedules.{may_be}
use Rattle.law_network.proofs.Places.Layouts.{schedule-keeps}
use Rattle.law_history.specs.Journals.{Comer, IsComer, new_from, at_start, coming}
use Rattle.law_network.specs.Packets.{AreByLink}
use Rattle.law_history.proofs.Lists.{reverse-first}
use Rattle.law_history.proofs.Showing.{Shows, packets_on}

-- the events of those who come, the latest first, after older ones
abbrev arriving : List Comer → List Event → List Event
arriving cs es = reverse (map coming cs) ++ es

one-more : (c : Comer) (cs : List Comer) (es : List Event) → arriving (c ∷ cs) es ≡ arriving cs (coming c ∷ es)
one-more c cs es = reverse-first (coming c) (map coming cs) es

-- the new callers, from the seat i on
abbrev new_callers : ℕ → List Comer → List Seated
new_callers i [] = []
new_callers i (c ∷ cs) = new_caller i c.actor c.last ∷ new_callers (i + 1) cs

get-new : (i : ℕ) (cs : List Comer) (q : ℕ) → slice_get (new_callers i cs) q ≡ option_map (λ (c : Comer). new_caller (i + q) c.actor c.last) (slice_get cs q)
get-new i [] q = refl
get-new i (c ∷ cs) zero = (let e : i ≡ i + 0 = omega arith in ap (λ j. Some (new_caller j c.actor c.last)) e)
get-new i (c ∷ cs) (suc q) =
    (let e : i + 1 + q ≡ i + suc q = omega arith in
    get-new (i + 1) cs q ∙ ap (λ j. option_map (λ (c : Comer). new_caller j c.actor c.last) (slice_get cs q)) e)

module _ (l : Layout) where
  callers-come : (cs : List Comer) (es : List Event) → (schedule l (arriving cs es)).callers ≡ (schedule l es).callers ++ new_callers (length (schedule l es).callers) cs
  callers-come [] es = sym (append-nil (schedule l es).callers)
  callers-come (c ∷ cs) es =
      let now : List Seated = (schedule l es).callers in
      let x : Seated = new_caller (length now) c.actor c.last in
      ap (λ es. (schedule l es).callers) (one-more c cs es) ∙ callers-come cs (coming c ∷ es)
      ∙ ap (λ i. (now ++ x ∷ []) ++ new_callers i cs) (length-append now (x ∷ [])) ∙ append_assoc now (x ∷ []) (new_callers (length now + 1) cs)

  places-stay : (cs : List Comer) (es : List Event) → (schedule l (arriving cs es)).places ≡ (schedule l es).places
  places-stay [] es = refl
  places-stay (c ∷ cs) es = ap (λ es. (schedule l es).places) (one-more c cs es) ∙ places-stay cs (coming c ∷ es)

  packets-stay : (cs : List Comer) (es : List Event) → (schedule l (arriving cs es)).packets ≡ (schedule l es).packets
  packets-stay [] es = refl
  packets-stay (c ∷ cs) es = ap (λ es. (schedule l es).packets) (one-more c cs es) ∙ packets-stay cs (coming c ∷ es)

  pub may-come : (cs : List Comer) (es : List Event) → All (IsComer l) cs → may_be l es ≡ true → may_be l (arriving cs es) ≡ true
  may-come [] es h may = may
  may-come (c ∷ cs) es h may =
      let own = All-head (IsComer l) c cs h in
      let keeps = schedule-keeps l es in
      let comes : is_actor c.actor && has_actor (schedule l es).layout c.actor ≡ true =
      and_from (is_actor c.actor) (has_actor (schedule l es).layout c.actor) own.kind (ap (λ k. has_actor k c.actor) keeps.layout ∙ own.actor) in
      ap (may_be l) (one-more c cs es)
      ∙ may-come cs (coming c ∷ es) (All-tail (IsComer l) c cs h) (and_from (is_actor c.actor && has_actor (schedule l es).layout c.actor) (may_be l es) comes may)

  started-in : (p : ℕ) (ks : List ℕ) → place_in l p (map (started l) ks) ≡ started l p
  started-in p [] = refl
  started-in p (k ∷ ks) = by (k == p) refl (started-in p ks)
    where
      by : (b : Bool) → (k == p) ≡ b → place_in l p (map (started l) ks) ≡ started l p → cond b (started l k) (place_in l p (map (started l) ks)) ≡ started l p
      by true e ih = ap (started l) (eqb-true k p e)
      by false e ih = ih

  new-there : (q : ℕ) (o : Option Comer) → option_map (λ (c : Comer). new_caller (0 + q) c.actor c.last) o ≡ option_map (λ (c : Comer). new_from q o) o
  new-there q None = refl
  new-there q (Some c) = (let e : 0 + q ≡ q = omega arith in ap (λ j. Some (new_caller j c.actor c.last)) e)

  pub all-come : (comers : List Comer) → Shows comers (at_start l comers) (schedule l (reverse (map coming comers) ++ []))
  all-come comers =
      let keeps = schedule-keeps l (arriving comers []) in
      let none = packets-stay comers [] in
      record {
        order = subst AreByLink (sym none) tt;
        places = λ p. ap (λ k. place_in k p (schedule l (arriving comers [])).places) keeps.layout ∙ ap (place_in l p) (places-stay comers []) ∙ started-in p (place_numbers l);
        links = λ a b. ap (packets_on a b) none;
        callers = λ q. ap (λ cs. slice_get cs q) (callers-come comers []) ∙ get-new 0 comers q ∙ new-there q (slice_get comers q);
      }
