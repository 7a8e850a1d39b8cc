-- Clocks that are worn, on more sites: what an event compares is the same, so the events stop at the same clock.
-- l is a layout, n a number of sites, `more` the places of the further sites, ts are tasks, es and fs events, the latest first.
use Rattle.std.proofs.Common.{ℕ, ◌≡◌, ◌≤◌, Bool, true, false, ◌&&◌, cond, List, [], ◌∷◌, ◌++◌, Option, Some, None, slice_get, inl, inr, refl, sym, ◌∙◌, ap, subst}
use Rattle.std.specs.List.{All}
use Rattle.std.proofs.lemmas.Bool.{and_parts}
use Rattle.std.proofs.lemmas.List.Elements.{All-head, All-tail, All-append, filter-append}
use Rattle.chorus_ui.specs.declared.layout.Layout.{Layout}
use Rattle.chorus_ui.specs.Layout.{IsLayout, has_place}
use Rattle.chorus_entry.specs.declared.entry.Entry.{Entry}
use Rattle.chorus_entry.specs.declared.command.Command.{Command}
use Rattle.chorus_entry.specs.declared.packet.Packet.{Packet}
use Rattle.chorus_calls.specs.Callers.{Seated}
use Rattle.law_machine.specs.PlaceState.{PlaceState, Turn, greatest_clock}
use Rattle.law_network.specs.Packets.{first_on}
use Rattle.law_network.specs.Network.{NetState, Event, Enter, Act, Deliver, See, opening, schedule, round}
use Rattle.law_network.specs.Calls.{compared_with, compared_on}
use Rattle.law_network.specs.Schedules.{may_be}
use Rattle.law_network.specs.Tasks.{Task, Do, Drain}
use Rattle.law_network.specs.History.{history}
use Rattle.law_network.proofs.Places.Layouts.{schedule-keeps}
use Rattle.chorus_net.specs.Worn.{compared_by, IsUnworn, AreUnworn}
use Rattle.chorus_replay.specs.Worn.{ComesNext, AreWornBy}
use Rattle.chorus_replay.proofs.Stepping.{may-suffix}
use Rattle.law_replay.proofs.Places.{layout_on, CommandWithin}
use Rattle.law_replay.proofs.Nets.{net_on, EventWithin, is_near, near, IsWithin, turn-on, begun-on, far-none}
use Rattle.law_replay.proofs.Schedules.{is-within, Agree, agree}
use Rattle.law_replay.proofs.Carrying.{TaskWithin, near-first, rounds-within, carried-within, rounds-near, carry-down}

module _ (n : ℕ) (more : List PlaceState) (net : NetState) (past : List Entry) (w : IsWithin n net past) where
  given-same : (seat : ℕ) (c : Command) (o : Option Seated) → slice_get net.callers seat ≡ o → CommandWithin n net.layout c → compared_with c o (net_on n more net) ≡ compared_with c o net
  given-same seat c None found h = refl
  given-same seat c (Some caller) found h = ap (λ (t : Turn). greatest_clock t) (turn-on n more net past w seat caller found c h)

  worked-same : (a b : ℕ) → has_place net.layout b ≡ true → (o : Option Seated) (p : Option Packet) → compared_on b o p (net_on n more net) ≡ compared_on b o p net
  worked-same a b has None p = refl
  worked-same a b has (Some caller) None = refl
  worked-same a b has (Some caller) (Some k) = ap (λ (t : Turn). Some (greatest_clock t)) (begun-on n more net past w a b has caller k)

  compared-same : (e : Event) → EventWithin n net.layout e → is_near net.layout e ≡ true → compared_by e (net_on n more net) ≡ compared_by e net
  compared-same (Enter actor last) h t = refl
  compared-same (See seat clock) h t = refl
  compared-same (Act seat c) h t = ap (λ (m : ℕ). Some m) (given-same seat c (slice_get net.callers seat) refl h)
  compared-same (Deliver seat a b) h t =
      worked-same a b (and_parts (has_place net.layout a) (has_place net.layout b) t).1 (slice_get net.callers seat) (first_on a b net.packets)

  none-compared : (b : ℕ) (o : Option Seated) (m : NetState) → compared_on b o None m ≡ None
  none-compared b None m = refl
  none-compared b (Some caller) m = refl

  -- what compares a clock is near
  compares-near : (e : Event) (clock : ℕ) → compared_by e (net_on n more net) ≡ Some clock → is_near net.layout e ≡ true
  compares-near (Enter actor last) clock h = refl
  compares-near (See seat seen) clock h = refl
  compares-near (Act seat c) clock h = refl
  compares-near (Deliver seat a b) clock h = by (has_place net.layout a && has_place net.layout b) refl
    where
      by : (t : Bool) → (has_place net.layout a && has_place net.layout b) ≡ t → t ≡ true
      by true e = refl
      by false e =
          let none = ap (λ (p : Option Packet). compared_on b (slice_get net.callers seat) p (net_on n more net)) (far-none n more net past w a b e) ∙ none-compared b (slice_get net.callers seat) (net_on n more net) in
          (let bad : None ≡ Some clock = sym none ∙ h in absurd (cc))

module _ (n : ℕ) (more : List PlaceState) (l : Layout) (shape : IsLayout l) (wider : l.sites ≤ n) (start : opening (layout_on n l) ≡ net_on n more (opening l))
    (fit : (seat : ℕ) → near l (round (layout_on n l) seat) ≡ round l seat) where
  -- What comes next.

  comes-within : (ts : List Task) (next : Event) (fs : List Event) → All (TaskWithin n l) ts → ComesNext (layout_on n l) ts next fs → EventWithin n l next × All (EventWithin n l) fs
  comes-within [] next fs all c = absurd c
  comes-within (Do e ∷ ts) next fs all (inl now) =
      (subst (EventWithin n l) (sym now.0) (All-head (TaskWithin n l) (Do e) ts all).0, carried-within n l (layout_on n l) ts fs (All-tail (TaskWithin n l) (Do e) ts all) now.1)
  comes-within (Do e ∷ ts) next fs all (inr less) = comes-within ts next fs (All-tail (TaskWithin n l) (Do e) ts all) less
  comes-within (Drain seat ∷ ts) next fs all (inl part) =
      let P : Event → Type 0 = EventWithin n l in
      let inside = part.1.1.0 in
      let rest = behind P inside.later (next ∷ part.0) (subst (λ (xs : List Event). All P xs) inside.are (rounds-within n l seat (layout_on n l) inside.count)) in
      let older = carried-within n l (layout_on n l) ts part.1.0 (All-tail (TaskWithin n l) (Drain seat) ts all) part.1.1.2 in
      (All-head P next part.0 rest, subst (λ (xs : List Event). All P xs) (sym part.1.1.1) (All-append P part.0 part.1.0 (All-tail P next part.0 rest) older))
    where
      behind : (P : Event → Type 0) (xs ys : List Event) → All P (xs ++ ys) → All P ys
      behind P [] ys h = h
      behind P (x ∷ xs) ys h = behind P xs ys (All-tail P x (xs ++ ys) h)
  comes-within (Drain seat ∷ ts) next fs all (inr less) = comes-within ts next fs (All-tail (TaskWithin n l) (Drain seat) ts all) less

  comes-down : (ts : List Task) (next : Event) (fs : List Event) → All (TaskWithin n l) ts → may_be (layout_on n l) fs ≡ true → is_near l next ≡ true → ComesNext (layout_on n l) ts next fs → ComesNext l ts next (near l fs)
  comes-down [] next fs all may t c = c
  comes-down (Do e ∷ ts) next fs all may t (inl now) = inl (now.0, carry-down n more l shape wider start fit ts fs (All-tail (TaskWithin n l) (Do e) ts all) may now.1)
  comes-down (Do e ∷ ts) next fs all may t (inr less) = inr (comes-down ts next fs (All-tail (TaskWithin n l) (Do e) ts all) may t less)
  comes-down (Drain seat ∷ ts) next fs all may t (inl part) =
      let wide = layout_on n l in
      let done = part.0 in
      let older = part.1.0 in
      let inside = part.1.1.0 in
      let turned = sym (rounds-near n more l shape wider start fit seat inside.count) ∙ ap (near l) inside.are ∙ filter-append (is_near l) inside.later (next ∷ done) ∙ ap (λ (xs : List Event). near l inside.later ++ xs) (near-first n l next done t) in
      let rest = carry-down n more l shape wider start fit ts older (All-tail (TaskWithin n l) (Drain seat) ts all) (may-suffix wide done older (ap (may_be wide) (sym part.1.1.1) ∙ may)) part.1.1.2 in
      inl (near l done, (near l older, (record { count = inside.count; later = near l inside.later; are = turned }, ap (near l) part.1.1.1 ∙ filter-append (is_near l) done older, rest)))
  comes-down (Drain seat ∷ ts) next fs all may t (inr less) = inr (comes-down ts next fs (All-tail (TaskWithin n l) (Drain seat) ts all) may t less)

  -- What is compared.

  module _ (fs : List Event) (a : Agree n more l fs) where
    net-within : IsWithin n (schedule l (near l fs)) (history l (near l fs))
    net-within = is-within n l shape wider (near l fs) a.may a.all

    lay : (schedule l (near l fs)).layout ≡ l
    lay = (schedule-keeps l (near l fs)).layout

    compared-down : (e : Event) → EventWithin n l e → is_near l e ≡ true → compared_by e (schedule (layout_on n l) fs) ≡ compared_by e (schedule l (near l fs))
    compared-down e h t =
        ap (compared_by e) a.same
        ∙ compared-same n more (schedule l (near l fs)) (history l (near l fs)) net-within e (subst (λ (z : Layout). EventWithin n z e) (sym lay) h) (ap (λ (z : Layout). is_near z e) lay ∙ t)

    compares-there : (e : Event) (clock : ℕ) → compared_by e (schedule (layout_on n l) fs) ≡ Some clock → is_near l e ≡ true
    compares-there e clock h =
        ap (λ (z : Layout). is_near z e) (sym lay)
        ∙ compares-near n more (schedule l (near l fs)) (history l (near l fs)) net-within e clock (ap (compared_by e) (sym a.same) ∙ h)

  pub unworn-down : (fs : List Event) → All (EventWithin n l) fs → may_be (layout_on n l) fs ≡ true → AreUnworn fs (opening (layout_on n l)) → AreUnworn (near l fs) (opening l)
  unworn-down [] all may free = tt
  unworn-down (e ∷ fs) all may free =
      let rest_all = All-tail (EventWithin n l) e fs all in
      let rest_may = may-suffix (layout_on n l) (e ∷ []) fs may in
      by (is_near l e) refl (unworn-down fs rest_all rest_may free.1) (compared-down fs (agree n more l shape wider start fs rest_may rest_all) e (All-head (EventWithin n l) e fs all))
    where
      by : (b : Bool) → is_near l e ≡ b → AreUnworn (near l fs) (opening l) → (is_near l e ≡ true → compared_by e (schedule (layout_on n l) fs) ≡ compared_by e (schedule l (near l fs))) → AreUnworn (cond b (e ∷ near l fs) (near l fs)) (opening l)
      by true t ih same = (subst IsUnworn (same t) free.0, ih)
      by false t ih same = ih

  pub worn-down : (ts : List Task) (fs : List Event) (clock : ℕ) → All (TaskWithin n l) ts → may_be (layout_on n l) fs ≡ true → AreWornBy (layout_on n l) ts fs clock → AreWornBy l ts (near l fs) clock
  worn-down ts fs clock all may v =
      let within = comes-within ts v.next fs all v.comes in
      let a = agree n more l shape wider start fs may within.1 in
      let t = compares-there fs a v.next clock v.is in
      record {
        next = v.next;
        comes = comes-down ts v.next fs all may t v.comes;
        is = sym (compared-down fs a v.next within.0 t) ∙ v.is;
        worn = v.worn;
      }

  -- the events that carried them out, or came so far, are within
  pub worn-within : (ts : List Task) (fs : List Event) (clock : ℕ) → All (TaskWithin n l) ts → AreWornBy (layout_on n l) ts fs clock → All (EventWithin n l) fs
  worn-within ts fs clock all v = (comes-within ts v.next fs all v.comes).1
