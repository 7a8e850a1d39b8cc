-- The generic lemma: where the next entry owes what `Says` lists, the network stands for the past with it.
use Rattle.std.proofs.Common.{ℕ, ◌≡◌, ◌<◌, ◌≤◌, ◌==◌, nat_lt, Bool, true, false, ◌&&◌, List, [], ◌∷◌, Option, Some, None, refl, sym, ◌∙◌, ap, arith, lt-ltb}
use Rattle.std.specs.Prelude.{slice_get}
use Rattle.std.specs.Option.{option_map}
use Rattle.std.proofs.lemmas.Bool.{and_from, and_parts, eqb-true}
use Rattle.std.proofs.lemmas.List.Elements.{All-cons}
use Rattle.chorus_ui.specs.declared.ui.Ui.{Ui}
use Rattle.chorus_ui.specs.declared.layout.Layout.{Layout}
use Rattle.chorus_ui.specs.Layout.{has_place}
use Rattle.chorus_entry.specs.declared.entry.Entry.{Entry}
use Rattle.chorus_entry.specs.declared.act.Act.{Act}
use Rattle.chorus_entry.specs.Kinds.{has_kinds}
use Rattle.chorus_world.specs.Views.{at, by}
use Rattle.chorus_entry.specs.Order.{is_at}
use Rattle.chorus_world.specs.Places.{last_clock, just_taken, located}
use Rattle.chorus_world.specs.Steps.{may, is_timely, may_stand_behind, is_legal}
use Rattle.chorus_world.specs.Runs.{is_run, may_run, fits_callers}
use Rattle.chorus_world.specs.SortingLaws.{LooksAtHome}
use Rattle.chorus_world.proofs.Sorted.Local.{local_views, act_may_here, follows_here}
use Rattle.chorus_world.proofs.Steps.LegalLemmas.{skips}
use Rattle.chorus_world.proofs.Messages.Posted.{filtered}
use Rattle.chorus_world.proofs.Sorted.Agreement.{extends_self, taken_agrees}
use Rattle.chorus_world.proofs.Sorted.Observers.{Laws, legal_laws, may_same}
use Rattle.chorus_world.proofs.Messages.SendingLemmas.{at_same}
use Rattle.chorus_calls.specs.Callers.{Seated}
use Rattle.law_machine.specs.declared.outgoing.Outgoing.{Outgoing}
use Rattle.law_machine.specs.PlaceState.{Turn, Change, next_clock, next_entry, say}
use Rattle.law_network.specs.Network.{NetState, place}
use Rattle.law_network.specs.Stands.{actor_of}
use Rattle.law_network.proofs.Standing.InTurn.{InTurn}
use Rattle.law_network.proofs.Standing.Says.{known_clock, MaySay, Says}
use Rattle.chorus_world.proofs.Sorted.Causal.{causal-more}
use Rattle.law_network.proofs.Tables.Queues.{queue-elsewhere}
use Rattle.law_network.proofs.Tables.TablesSay.{unheard-elsewhere}
use Rattle.law_network.proofs.Standing.Callers.{by-there, other-caller, this-caller}
use Rattle.chorus_world.proofs.Messages.Growing.{goes-on}

-- a run is legal
pub run-legal : (l : Layout) (f : ℕ → Option Ui) (past : List Entry) → is_run l f past ≡ true → is_legal l past ≡ true
run-legal l f [] h = refl
run-legal l f (e ∷ past) h =
    let two = and_parts (may l past e && may_run f past e) (is_run l f past) h in
    let one = and_parts (may l past e) (may_run f past e) two.0 in
    and_from (may l past e) (is_legal l past) one.0 (run-legal l f past two.1)

module _ (n : NetState) (os : List Outgoing) (past : List Entry) (t : Turn) (w : InTurn n os past t) where
  abbrev l : Layout
  l = t.place.layout

  abbrev p : ℕ
  p = t.place.number

  abbrev k : ℕ
  k = t.caller.seat

  pub legal-now : is_legal t.place.layout past ≡ true
  legal-now = run-legal l (actor_of n) past w.run

  pub laws-now : Laws t.place.layout past
  laws-now = legal_laws l past w.shape legal-now

  pub known-here : last_clock (at t.place.number past) ≤ known_clock t
  known-here = let e = ap last_clock w.here.journal in omega (arith, e)

  pub known-mine : last_clock (by t.caller.seat past) ≤ known_clock t
  known-mine = let e = w.caller.clock in omega (arith, e)

  may-now : (a : Act) → MaySay past t a → may l past (next_entry a t) ≡ true
  may-now a o =
      let e = next_entry a t in
      let v = local_views past past p k a in
      let le = known-here in
      let lt : last_clock (at p past) < next_clock t = omega (arith, le) in
      may_same l past past e laws-now (extends_self past) o.looks
      ∙ and_from (is_timely l v e) (follows_here l v p k a)
      (and_from (has_place l p) (nat_lt (last_clock (at p past)) (next_clock t)) w.is_place (lt-ltb (last_clock (at p past)) (next_clock t) lt))
      (and_from (has_kinds a && may_stand_behind (just_taken past (at p past)) a) (act_may_here l v p k a)
      (and_from (has_kinds a) (may_stand_behind (just_taken past (at p past)) a) o.kinds o.behind) o.may)

  -- so the past is legal with it
  pub legal-next : (a : Act) → MaySay past t a → is_legal t.place.layout (next_entry a t ∷ past) ≡ true
  legal-next a o = and_from (may l past (next_entry a t)) (is_legal l past) (may-now a o) legal-now

  run-now : (a : Act) → MaySay past t a → is_run l (actor_of n) (next_entry a t ∷ past) ≡ true
  run-now a o =
      let e = next_entry a t in
      let le = known-mine in
      let lt : last_clock (by k past) < next_clock t = omega (arith, le) in
      let above = lt-ltb (last_clock (by k past)) (next_clock t) lt in
      let fits : fits_callers past p (actor_of n k) a ≡ true = ap (λ z. fits_callers past p z a) w.seated ∙ o.fits in
      and_from (may l past e && may_run (actor_of n) past e) (is_run l (actor_of n) past)
      (and_from (may l past e) (may_run (actor_of n) past e) (may-now a o)
      (and_from (nat_lt (last_clock (by k past)) (next_clock t)) (fits_callers past p (actor_of n k) a) above fits)) w.run

  pub say-stands : (now : List Outgoing) (a : Act) (c : Change) → Says now past t a c → InTurn n now (next_entry a t ∷ past) (say a c t)
  say-stands now a c o =
      let e = next_entry a t in
      let u = say a c t in
      let all = laws-now.posted in
      let here = known-here in
      let mine = known-mine in
      let message = o.may.message in
      let port = o.may.port in
      let legal = legal-next a o.may in
      record {
        shape = w.shape;
        layout = w.layout;
        is_place = w.is_place;
        seated = ap (actor_of n) o.caller.seat ∙ (w.seated ∙ ap (λ z. Some z) (sym o.caller.actor));
        run = run-now a o.may;
        causal = causal-more e past w.causal (omega (arith, here)) (omega (arith, mine)) (omega (arith, message)) (omega (arith, port));
        looks = All-cons (λ (f : Entry). LooksAtHome l f.place f.act) e past o.may.looks w.looks;
        here = record {
          journal = ap (λ es. e ∷ es) w.here.journal ∙ sym (at_same p e past refl);
          ports = o.ports.here;
          once = o.ports.once;
          known = λ q. o.tables.known q ∙ sym (ap (located l q) (at_same p e past refl));
          waiting = o.tables.waiting;
          unheard = o.tables.unheard;
        };
        there = λ r ne. (
            let old = w.there r ne in
            record {
              journal = old.journal ∙ sym (skips (is_at r) e past ne);
              ports = λ q. old.ports q ∙ sym (o.ports.there r ne q);
              once = old.once;
              known = λ q. old.known q ∙ sym (ap (located l q) (skips (is_at r) e past ne));
              waiting = λ j. old.waiting j ∙ sym (queue-elsewhere l past e r j all legal ne);
              unheard = unheard-elsewhere l past e r (place r n).unheard ne old.unheard;
            });
        resting = λ r ne. ap (just_taken (e ∷ past)) (skips (is_at r) e past ne) ∙ (taken_agrees (e ∷ past) past (at r past) (goes-on e past) (filtered past (is_at r) past all) ∙ w.resting r ne);
        caller = this-caller past t a c.caller all o.caller w.caller;
        callers = λ j d ne h. (
            let other : (k == j) ≡ false = ap (λ z. z == j) (sym o.caller.seat) ∙ ne in
            other-caller l e past j d other all (w.callers j d other h));
        strangers = λ j h. by-there e past j (apart j (k == j) refl h) ∙ w.strangers j h;
        packets = o.packets;
      }
    where
      apart : (j : ℕ) (b : Bool) → (k == j) ≡ b → slice_get n.callers j ≡ None → b ≡ false
      apart j false h none = refl
      apart j true h none =
          let same : k ≡ j = eqb-true k j h in
          let f : None ≡ Some t.caller.actor = sym (ap (λ (o : Option Seated). option_map (λ (c : Seated). c.actor) o) (ap (slice_get n.callers) same ∙ none)) ∙ w.seated in
          absurd (cc)
