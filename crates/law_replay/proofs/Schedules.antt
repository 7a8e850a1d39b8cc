-- Schedules on more sites: where all that is named is within, a schedule leaves what its events that are near leave on fewer
-- sites, with the places of the further sites as they were started.
-- l is a layout, n a number of sites, `more` the places of the further sites, es and fs are events, the latest first.
use Rattle.std.proofs.Common.{ℕ, ◌≡◌, ◌≤◌, Bool, true, false, cond, List, [], ◌∷◌, Option, Some, None, slice_get, refl, sym, ◌∙◌, ap, subst}
use Rattle.std.specs.List.{All}
use Rattle.std.proofs.lemmas.Bool.{and_parts, and_from}
use Rattle.std.proofs.lemmas.List.Elements.{All-nil, All-cons, All-head, All-tail, All-append, All-weaker}
use Rattle.chorus_ui.specs.declared.layout.Layout.{Layout}
use Rattle.chorus_ui.specs.Layout.{IsLayout}
use Rattle.chorus_entry.specs.declared.entry.Entry.{Entry}
use Rattle.chorus_entry.specs.declared.command.Command.{Command}
use Rattle.chorus_entry.specs.declared.packet.Packet.{Packet}
use Rattle.chorus_entry.specs.Act.{is_command_entry}
use Rattle.chorus_world.specs.Views.{by}
use Rattle.chorus_calls.specs.Callers.{Seated}
use Rattle.law_machine.specs.PlaceState.{PlaceState, next_entry}
use Rattle.law_machine.specs.Own.{own}
use Rattle.law_machine.specs.PlaceMachine.{begun_by}
use Rattle.law_network.specs.Packets.{first_on}
use Rattle.law_network.specs.Network.{NetState, place, turn_for, Event, Enter, Act, Deliver, See, happened, opening, schedule}
use Rattle.law_network.specs.Schedules.{may_happen, may_be}
use Rattle.law_network.specs.Stands.{IsCaller}
use Rattle.law_network.specs.History.{said_by, history}
use Rattle.law_network.proofs.Places.Layouts.{schedule-keeps}
use Rattle.law_network.proofs.Events.InOrder.{in-order}
use Rattle.law_network.proofs.Events.Said.{said_with, said_on, said_at, act-goes, work-goes, said-act, said-work}
use Rattle.law_replay.proofs.Places.{layout_on, CommandWithin, CallerWithin, own-within}
use Rattle.law_replay.proofs.Pasts.{EntryWithin, follows-within, caller-within}
use Rattle.law_replay.proofs.Nets.{net_on, EventWithin, is_near, near, IsWithin, happened-on, far-nothing, may-down}

-- What events say is within.

module _ (n : ℕ) (l : Layout) where
  follow-within : (es : List Entry) → All (λ (e : Entry). is_command_entry e.act ≡ false) es → All (EntryWithin n l) es
  follow-within es h = All-weaker (λ (e : Entry). is_command_entry e.act ≡ false) (EntryWithin n l) (λ e k. follows-within n l e.act k) es h

  given-within : (c : Command) (o : Option Seated) (net : NetState) → CommandWithin n l c → ((caller : Seated) → o ≡ Some caller → CallerWithin n l caller) → All (EntryWithin n l) (said_with c o net)
  given-within c None net h callers = All-nil (EntryWithin n l)
  given-within c (Some caller) net h callers =
      let t = turn_for c caller net in
      let g = act-goes c t in
      let e = next_entry (own c t) t in
      let first = All-cons (EntryWithin n l) e [] (own-within n l c t h (callers caller refl)) (All-nil (EntryWithin n l)) in
      subst (λ (es : List Entry). All (EntryWithin n l) es) (sym (said-act c t)) (All-append (EntryWithin n l) g.newer (e ∷ []) (follow-within g.newer g.follow) first)

  worked-within : (b : ℕ) (caller : Seated) (o : Option Packet) (net : NetState) → All (EntryWithin n l) (said_on b caller o net)
  worked-within b caller None net = All-nil (EntryWithin n l)
  worked-within b caller (Some k) net =
      let t = begun_by (place b net) caller k in
      let g = work-goes k t in
      subst (λ (es : List Entry). All (EntryWithin n l) es) (sym (said-work k t)) (follow-within g.newer g.follow)

  delivered-within : (a b : ℕ) (o : Option Seated) (net : NetState) → All (EntryWithin n l) (said_at a b o net)
  delivered-within a b None net = All-nil (EntryWithin n l)
  delivered-within a b (Some caller) net = worked-within b caller (first_on a b net.packets) net

  module _ (shape : IsLayout l) where
    said-within : (es : List Event) → may_be l es ≡ true → All (EntryWithin n l) (history l es) → (e : Event) → EventWithin n l e → All (EntryWithin n l) (said_by e (schedule l es))
    said-within es may all (Enter actor last) h = All-nil (EntryWithin n l)
    said-within es may all (See seat clock) h = All-nil (EntryWithin n l)
    said-within es may all (Act seat c) h =
        let net = schedule l es in
        given-within c (slice_get net.callers seat) net h
        (λ caller found. caller-within n l (history l es) seat caller all (subst (λ (z : Layout). IsCaller z (history l es) (by seat (history l es)) seat caller) (schedule-keeps l es).layout ((in-order l es shape may).0.callers seat caller found)))
    said-within es may all (Deliver seat a b) h = delivered-within a b (slice_get (schedule l es).callers seat) (schedule l es)

    history-within : (es : List Event) → may_be l es ≡ true → All (EventWithin n l) es → All (EntryWithin n l) (history l es)
    history-within [] may all = All-nil (EntryWithin n l)
    history-within (e ∷ es) may all =
        let two = and_parts (may_happen e (schedule l es)) (may_be l es) may in
        let old = history-within es two.1 (All-tail (EventWithin n l) e es all) in
        All-append (EntryWithin n l) (said_by e (schedule l es)) (history l es) (said-within es two.1 old e (All-head (EventWithin n l) e es all)) old

    pub is-within : l.sites ≤ n → (es : List Event) → may_be l es ≡ true → All (EventWithin n l) es → IsWithin n (schedule l es) (history l es)
    is-within wider es may all =
        let back = sym (schedule-keeps l es).layout in
        record {
          shape = subst IsLayout back shape;
          wider = subst (λ (z : Layout). z.sites ≤ n) back wider;
          stands = (in-order l es shape may).0;
          said = subst (λ (z : Layout). All (EntryWithin n z) (history l es)) back (history-within es may all);
        }

-- The events that are near leave the same on fewer sites.

pub record Agree (n : ℕ) (more : List PlaceState) (l : Layout) (fs : List Event) : Type 0 where
  pub same : schedule (layout_on n l) fs ≡ net_on n more (schedule l (near l fs))
  pub may : may_be l (near l fs) ≡ true
  pub all : All (EventWithin n l) (near l fs)

module _ (n : ℕ) (more : List PlaceState) (l : Layout) (shape : IsLayout l) (wider : l.sites ≤ n) (start : opening (layout_on n l) ≡ net_on n more (opening l)) where
  agree-on : (e : Event) (fs : List Event) → Agree n more l fs → EventWithin n l e → may_happen e (schedule (layout_on n l) fs) ≡ true → Agree n more l (e ∷ fs)
  agree-on e fs old h may =
      let es = near l fs in
      let net = schedule l es in
      let w = is-within n l shape wider es old.may old.all in
      let lay = (schedule-keeps l es).layout in
      let h_net : EventWithin n net.layout e = subst (λ (z : Layout). EventWithin n z e) (sym lay) h in
      let may_net : may_happen e (net_on n more net) ≡ true = ap (may_happen e) (sym old.same) ∙ may in
      by e fs old h net refl w lay h_net may_net (is_near l e) refl
    where
      by : (e : Event) (fs : List Event) → Agree n more l fs → EventWithin n l e → (net : NetState) → net ≡ schedule l (near l fs) → IsWithin n net (history l (near l fs)) → net.layout ≡ l → EventWithin n net.layout e → may_happen e (net_on n more net) ≡ true
          → (b : Bool) → is_near l e ≡ b → Agree n more l (e ∷ fs)
      by e fs old h net is w lay h_net may_net true t =
          let es = near l fs in
          let here : near l (e ∷ fs) ≡ e ∷ es = ap (λ c. cond c (e ∷ es) es) t in
          let t_net : is_near net.layout e ≡ true = ap (λ (z : Layout). is_near z e) lay ∙ t in
          let same = ap (happened e) old.same ∙ ap (λ (m : NetState). happened e (net_on n more m)) (sym is) ∙ happened-on n more net (history l es) w e h_net t_net ∙ ap (λ (m : NetState). net_on n more (happened e m)) is in
          let may : may_be l (e ∷ es) ≡ true = and_from (may_happen e (schedule l es)) (may_be l es) (ap (may_happen e) (sym is) ∙ may-down n more net (history l es) w e h_net t_net may_net) old.may in
          record {
            same = same ∙ ap (λ (xs : List Event). net_on n more (schedule l xs)) (sym here);
            may = ap (may_be l) here ∙ may;
            all = subst (λ (xs : List Event). All (EventWithin n l) xs) (sym here) (All-cons (EventWithin n l) e es h old.all);
          }
      by e fs old h net is w lay h_net may_net false t =
          let es = near l fs in
          let here : near l (e ∷ fs) ≡ es = ap (λ c. cond c (e ∷ es) es) t in
          let t_net : is_near net.layout e ≡ false = ap (λ (z : Layout). is_near z e) lay ∙ t in
          let same = ap (happened e) old.same ∙ ap (λ (m : NetState). happened e (net_on n more m)) (sym is) ∙ far-nothing n more net (history l es) w e t_net ∙ ap (λ (m : NetState). net_on n more m) is in
          record {
            same = same ∙ ap (λ (xs : List Event). net_on n more (schedule l xs)) (sym here);
            may = ap (may_be l) here ∙ old.may;
            all = subst (λ (xs : List Event). All (EventWithin n l) xs) (sym here) old.all;
          }

  pub agree : (fs : List Event) → may_be (layout_on n l) fs ≡ true → All (EventWithin n l) fs → Agree n more l fs
  agree [] may all = record { same = start; may = refl; all = All-nil (EventWithin n l) }
  agree (e ∷ fs) may all =
      let two = and_parts (may_happen e (schedule (layout_on n l) fs)) (may_be (layout_on n l) fs) may in
      agree-on e fs (agree fs two.1 (All-tail (EventWithin n l) e fs all)) (All-head (EventWithin n l) e fs all) two.0
