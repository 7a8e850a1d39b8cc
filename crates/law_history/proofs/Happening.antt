-- Each event of the network machine shows what the turn leaves of places, links and callers.
use Rattle.std.proofs.Common.{ℕ, ◌≡◌, ◌==◌, Bool, true, false, ◌&&◌, not, cond, List, [], ◌∷◌, map, Option, Some, None, is_some, slice_get, refl, sym, ◌∙◌, ap, subst}
use Rattle.std.specs.List.{All}
use Rattle.std.specs.Option.{option_map}
use Rattle.std.proofs.lemmas.Bool.{and_parts, and_from, false≢true}
use Rattle.std.proofs.lemmas.List.Elements.{All-head, All-tail}
use Rattle.chorus_ui.specs.declared.layout.Layout.{Layout}
use Rattle.chorus_ui.specs.Layout.{has_place}
use Rattle.chorus_entry.specs.declared.command.Command.{Command}
use Rattle.chorus_entry.specs.declared.packet.Packet.{Packet}
use Rattle.chorus_entry.specs.Places.{place_for}
use Rattle.chorus_calls.specs.Callers.{Seated, raised}
use Rattle.law_machine.specs.PlaceState.{PlaceState, Turn, next_clock}
use Rattle.law_machine.specs.PlaceMachine.{begun, begun_by, act, work}
use Rattle.law_network.specs.Packets.{rest_on}
use Rattle.law_network.specs.Network as law
use Rattle.law_network.specs.Network.{NetState, place, schedule, turn_for, commanded, works_off, delivered, shown}
use Rattle.law_network.specs.Schedules.{may_give, may_happen, may_be}
use Rattle.law_network.proofs.Links.LinkViews.{rest-order}
use Rattle.law_network.proofs.Standing.Turning.{number-is}
use Rattle.law_network.proofs.Places.Layouts.{Keeps, schedule-keeps}
use Rattle.law_history.specs.Turns.{Input, Outcome}
use Rattle.law_history.specs.Network.{Network, Event, May, MayHappen, MayCarry, set, relinked, ended, did, carried, happens, run, IsSchedule}
use Rattle.law_history.specs.Histories as histories
use Rattle.law_history.specs.PlaceTurns.{brings_entry, may_come, machine}
use Rattle.law_history.specs.Journals.{Comer, PlaceTurn, event_with, event_of, events_after}
use Rattle.law_history.proofs.Lists.{set_here, eqb_same}
use Rattle.law_history.proofs.Rising.{IsPut, act-rises, work-rises}
use Rattle.law_history.proofs.Showing.{Shows, first-is, relinks, called, ended-shows}

came : (o : Option Comer) (w : Seated) → is_some o ≡ true → option_map (λ (c : Comer). w) o ≡ Some w
came None w h = absurd (false≢true h)
came (Some c) w h = refl

module _ (l : Layout) (comers : List Comer) (es : List law.Event) (n : Network PlaceState Seated Packet) (h : Shows comers n (schedule l es)) (q : ℕ) (there : is_some (slice_get comers q) ≡ true) where
  abbrev s : NetState
  s = schedule l es

  abbrev w : Seated
  w = n.callers q

  keeps : Keeps l s
  keeps = schedule-keeps l es

  is : slice_get s.callers q ≡ Some w
  is = h.callers q ∙ came (slice_get comers q) w there

  number-of : (p : ℕ) → (n.places p).number ≡ p
  number-of p = ap (λ (z : PlaceState). z.number) (sym (h.places p)) ∙ number-is s.layout p s.places

  pub command-shows : (c : Command) → May (machine l) (place_for l w.actor c) w (Input.Command c) n →
      Shows comers (did (machine l) (place_for l w.actor c) q w (Input.Command c) n.links n) (schedule l (law.Act q c ∷ es)) × (may_happen (law.Act q c) s ≡ true)
  command-shows c may =
      let p = place_for l w.actor c in
      let t : Turn = begun (n.places p) w in
      let parts = and_parts (has_place l p) (may_come l p (Input.Command c) w) may in
      let rose = act-rises c t refl in
      let begins : turn_for c w s ≡ t = ap (λ k. begun (place (place_for k w.actor c) s) w) keeps.layout ∙ ap (λ z. begun z w) (h.places p) in
      let after : commanded q c (slice_get s.callers q) s ≡ law.ended q (act c t) s = ap (λ o. commanded q c o s) is ∙ ap (λ u. law.ended q (act c u) s) begins in
      let shows = ended-shows l comers n s keeps h p q t (act c t) w parts.0 (rose.number ∙ number-of p) (subst (λ k. All (IsPut (next_clock t) k) (act c t).puts) (number-of p) rose.puts) is in
      let gives : may_give (slice_get s.callers q) c ≡ true = ap (λ o. may_give o c) is ∙ (and_parts (place_for l w.actor c == p) (may_give (Some w) c) parts.1).1 in
      (subst (Shows comers (did (machine l) p q w (Input.Command c) n.links n)) (sym after) shows, gives)

  carried-shows : (a b : ℕ) (ls : List Packet) → n.links a b ≡ ls → MayCarry (machine l) (n.callers q) a b ls n →
      Shows comers (carried (machine l) q (n.callers q) a b ls n) (schedule l (law.Deliver q a b ∷ es)) × (may_happen (law.Deliver q a b) s ≡ true)
  carried-shows a b [] e may = absurd may
  carried-shows a b (k ∷ ks) e may =
      let t : Turn = begun_by (n.places b) w k in
      let parts = and_parts (has_place l b) (may_come l b (Input.Packet a k) w) may in
      let comes = and_parts (has_place l a && not (a == b)) (brings_entry k.cargo) parts.1 in
      let between = and_parts (has_place l a) (not (a == b)) comes.0 in
      let rose = work-rises k t refl comes.1 in
      let first = h.links a b ∙ e in
      let rest : NetState = record s { packets = rest_on a b s.packets } in
      let less : Network PlaceState Seated Packet = record n { links = relinked a b ks n.links } in
      let shows-rest : Shows comers less rest = record {
        order = rest-order a b s.packets h.order;
        places = h.places;
        links = relinks a b s.packets k ks n.links h.links first;
        callers = h.callers;
      } in
      let after : delivered q a b (slice_get s.callers q) s ≡ law.ended q (work k t) rest =
      ap (λ o. delivered q a b o s) is ∙ ap (λ o. works_off q a b w o s) (first-is a b s.packets k ks first) ∙ ap (λ z. law.ended q (work k (begun_by z w k)) rest) (h.places b) in
      let shows = ended-shows l comers less rest (record { layout = keeps.layout; numbers = keeps.numbers; layouts = keeps.layouts }) shows-rest b q t (work k t) w parts.0 (rose.number ∙ number-of b)
      (subst (λ j. All (IsPut (next_clock t) j) (work k t).puts) (number-of b) rose.puts) is in
      let place_there : (p : ℕ) → has_place l p ≡ true → has_place s.layout p ≡ true = λ p is_there. ap (λ z. has_place z p) keeps.layout ∙ is_there in
      let someone : is_some (slice_get s.callers q) ≡ true = ap (λ (o : Option Seated). is_some o) is in
      let delivers : may_happen (law.Deliver q a b) s ≡ true =
      and_from (is_some (slice_get s.callers q) && has_place s.layout a && has_place s.layout b) (not (a == b))
      (and_from (is_some (slice_get s.callers q) && has_place s.layout a) (has_place s.layout b) (and_from (is_some (slice_get s.callers q)) (has_place s.layout a) someone (place_there a between.0)) (place_there b parts.0)) between.1 in
      (subst (Shows comers (carried (machine l) q w a b (k ∷ ks) n)) (sym after) shows, delivers)

  pub packet-shows : (a b : ℕ) → MayCarry (machine l) (n.callers q) a b (n.links a b) n →
      Shows comers (carried (machine l) q (n.callers q) a b (n.links a b) n) (schedule l (law.Deliver q a b ∷ es)) × (may_happen (law.Deliver q a b) s ≡ true)
  packet-shows a b may = carried-shows a b (n.links a b) refl may

-- a caller sees an entry with this clock
module _ (l : Layout) (comers : List Comer) (es : List law.Event) (n : Network PlaceState Seated Packet) (h : Shows comers n (schedule l es)) (q clock : ℕ) (there : is_some (slice_get comers q) ≡ true) where
  abbrev v : Seated
  v = raised clock (n.callers q)

  -- the callers as they are then
  abbrev now : Network PlaceState Seated Packet
  now = record n { callers = set q v n.callers }

  abbrev later : List law.Event
  later = law.See q clock ∷ es

  was : slice_get (schedule l es).callers q ≡ Some (n.callers q)
  was = h.callers q ∙ came (slice_get comers q) (n.callers q) there

  it : now.callers q ≡ v
  it = set_here q v n.callers q (eqb_same q)

  see-shows : Shows comers now (schedule l later) × (may_happen (law.See q clock) (schedule l es) ≡ true)
  see-shows = (
    subst (Shows comers now) (sym (ap (λ o. shown q clock o (schedule l es)) was))
        record { order = h.order; places = h.places; links = h.links; callers = called l comers n (schedule l es) (schedule-keeps l es) h q v (n.callers q) was },
    ap (λ (o : Option Seated). is_some o) was,
  )

  twice : (x y : Seated) (r : ℕ) → set q x (set q y n.callers) r ≡ set q x n.callers r
  twice x y r = go (q == r)
    where
      go : (b : Bool) → cond b x (cond b y (n.callers r)) ≡ cond b x (n.callers r)
      go true = refl
      go false = refl

  -- what a turn of it leaves is the same as from the callers as they were
  same : (p : ℕ) (links : ℕ → ℕ → List Packet) (o : Outcome PlaceState Seated Packet) (s : NetState) → Shows comers (ended (machine l) p q links o now) s → Shows comers (ended (machine l) p q links o n) s
  same p links o s k =
      record {
        order = k.order;
        places = k.places;
        links = k.links;
        callers = λ r. k.callers r ∙ ap (λ x. option_map (λ (c : Comer). x) (slice_get comers r)) (twice o.caller v r);
      }

  pub gives-shows : (c : Command) → MayHappen (machine l) (Event.Gives q clock c) n →
      Shows comers (happens (machine l) (Event.Gives q clock c) n) (schedule l (law.Act q c ∷ later)) × (may_happen (law.Act q c) (schedule l later) ≡ true)
  gives-shows c may =
      let p = place_for l v.actor c in
      let done : Shows comers (did (machine l) p q v (Input.Command c) n.links now) (schedule l (law.Act q c ∷ later)) × (may_happen (law.Act q c) (schedule l later) ≡ true) =
      subst (λ x. May (machine l) (place_for l x.actor c) x (Input.Command c) now →
      Shows comers (did (machine l) (place_for l x.actor c) q x (Input.Command c) n.links now) (schedule l (law.Act q c ∷ later)) × (may_happen (law.Act q c) (schedule l later) ≡ true))
      it (command-shows l comers later now see-shows.0 q there c) may in
      (same p n.links ((machine l).turn p (Input.Command c) (n.places p) v) (schedule l (law.Act q c ∷ later)) done.0, done.1)

  carried-same : (a b : ℕ) (ls : List Packet) (s : NetState) → MayCarry (machine l) v a b ls n → Shows comers (carried (machine l) q v a b ls now) s → Shows comers (carried (machine l) q v a b ls n) s
  carried-same a b [] s may k = absurd may
  carried-same a b (x ∷ ks) s may k = same b (relinked a b ks n.links) ((machine l).turn b (Input.Packet a x) (n.places b) v) s k

  as-now : (a b : ℕ) (ls : List Packet) → MayCarry (machine l) v a b ls n → MayCarry (machine l) v a b ls now
  as-now a b [] may = may
  as-now a b (x ∷ ks) may = may

  pub carries-shows : (a b : ℕ) → MayHappen (machine l) (Event.Carries q clock a b) n →
      Shows comers (happens (machine l) (Event.Carries q clock a b) n) (schedule l (law.Deliver q a b ∷ later)) × (may_happen (law.Deliver q a b) (schedule l later) ≡ true)
  carries-shows a b may =
      let done : Shows comers (carried (machine l) q v a b (n.links a b) now) (schedule l (law.Deliver q a b ∷ later)) × (may_happen (law.Deliver q a b) (schedule l later) ≡ true) =
      subst (λ x. MayCarry (machine l) x a b (n.links a b) now →
      Shows comers (carried (machine l) q x a b (n.links a b) now) (schedule l (law.Deliver q a b ∷ later)) × (may_happen (law.Deliver q a b) (schedule l later) ≡ true))
      it (packet-shows l comers later now see-shows.0 q there a b) (as-now a b (n.links a b) may) in
      (carried-same a b (n.links a b) (schedule l (law.Deliver q a b ∷ later)) may done.0, done.1)

-- all turns, one after the other
module _ (l : Layout) (comers : List Comer) where
  abbrev with_turn : PlaceTurn → List law.Event → List law.Event
  with_turn t es = event_of t ∷ law.See t.seat t.before.last ∷ es

  turn-shows : (t : PlaceTurn) (es : List law.Event) (n : Network PlaceState Seated Packet) → Shows comers n (schedule l es) → may_be l es ≡ true → is_some (slice_get comers t.seat) ≡ true → MayHappen (machine l) (histories.event_of (machine l) t) n →
      Shows comers (happens (machine l) (histories.event_of (machine l) t) n) (schedule l (with_turn t es)) × (may_be l (with_turn t es) ≡ true)
  turn-shows t es n h before there may = by t.input may
    where
      seen : may_be l (law.See t.seat t.before.last ∷ es) ≡ true
      seen = and_from (may_happen (law.See t.seat t.before.last) (schedule l es)) (may_be l es) (see-shows l comers es n h t.seat t.before.last there).1 before

      by : (i : Input Command Packet) → MayHappen (machine l) (histories.event_for t.place t.seat t.before.last i) n →
          Shows comers (happens (machine l) (histories.event_for t.place t.seat t.before.last i) n) (schedule l (event_with t.place t.seat i ∷ law.See t.seat t.before.last ∷ es)) × (may_be l (event_with t.place t.seat i ∷ law.See t.seat t.before.last ∷ es) ≡ true)
      by (Input.Command c) may =
          let one = gives-shows l comers es n h t.seat t.before.last there c may in
          (one.0, and_from (may_happen (law.Act t.seat c) (schedule l (law.See t.seat t.before.last ∷ es))) (may_be l (law.See t.seat t.before.last ∷ es)) one.1 seen)
      by (Input.Packet a k) may =
          let one = carries-shows l comers es n h t.seat t.before.last there a t.place may in
          (one.0, and_from (may_happen (law.Deliver t.seat a t.place) (schedule l (law.See t.seat t.before.last ∷ es))) (may_be l (law.See t.seat t.before.last ∷ es)) one.1 seen)

  abbrev Came : PlaceTurn → Type 0
  Came t = is_some (slice_get comers t.seat) ≡ true

  pub turns-show : (ts : List PlaceTurn) (es : List law.Event) (n : Network PlaceState Seated Packet) → Shows comers n (schedule l es) → may_be l es ≡ true → All Came ts → IsSchedule (machine l) (map (histories.event_of (machine l)) ts) n →
      Shows comers (run (machine l) (map (histories.event_of (machine l)) ts) n) (schedule l (events_after ts es)) × (may_be l (events_after ts es) ≡ true)
  turns-show [] es n h may all s = (h, may)
  turns-show (t ∷ ts) es n h may all s =
      let one = turn-shows t es n h may (All-head Came t ts all) s.0 in
      turns-show ts (with_turn t es) (happens (machine l) (histories.event_of (machine l) t) n) one.0 one.1 (All-tail Came t ts all) s.1
