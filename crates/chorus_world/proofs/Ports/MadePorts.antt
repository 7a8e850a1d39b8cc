-- Facts of legal lists: what is so of a port that was made. Its name is one that the layout can make, who holds it is an actor of
-- the layout, and the clock of the last entry on its line is at least the number of its places and of what it accepted.
use Rattle.std.proofs.Common.{ℕ, zero, suc, ◌≡◌, ◌≢◌, ◌<◌, ◌≤◌, ◌+◌, ◌-◌, ◌*◌, ◌/◌, ◌%◌, ◌==◌, nat_le, nat_lt, Bool, true, false, ◌&&◌, not, cond, List, [], ◌∷◌, length, Option, Some, None, refl, sym, ◌∙◌, ap, subst, inl, inr, arith}
use Rattle.std.specs.List.{filter}
use Rattle.std.proofs.lemmas.Bool.{eqb-true, and_parts, and_from, or_cases, leb-false, le-leb, ltb-true, false≢true, not-true}
use Rattle.std.proofs.lemmas.List.{length_push}
use Rattle.std.proofs.lemmas.List.Elements.{All-head}
use Rattle.chorus_ui.specs.declared.ui.Ui.{Ui}
use Rattle.chorus_ui.specs.declared.layout.Layout.{Layout}
use Rattle.chorus_ui.specs.declared.limits.TheConstants.{PORTS_PER_SITE_LIMIT, ACTORS_PER_SITE_LIMIT}
use Rattle.chorus_ui.specs.Layout.{IsLayout, has_site, has_place, has_actor, can_make_port, place_at, site_of}
use Rattle.chorus_ui.specs.Name.{same_ui}
use Rattle.chorus_ui.proofs.Names.{from_same_ui}
use Rattle.chorus_entry.specs.declared.entry.Entry.{Entry}
use Rattle.chorus_entry.specs.declared.act.Act.{Act}
use Rattle.chorus_entry.specs.declared.act.Act.TheVariants.{Make, Accept, Full, Already, ClientsFull, Take, Empty, Rehome, Depart, Arrive, Delete}
use Rattle.chorus_entry.specs.Act.{held_port_of}
use Rattle.chorus_ui.specs.NameKind.{is_actor, is_port}
use Rattle.chorus_entry.specs.Kinds.{has_kinds}
use Rattle.chorus_world.specs.declared.spot.Spot.{Spot}
use Rattle.chorus_world.specs.declared.spot.Spot.TheVariants.{Held, Moving, Ended}
use Rattle.chorus_world.specs.Views.{views, at, on, is_by, is_about, is_on}
use Rattle.chorus_entry.specs.Order.{is_at, IsRising, comes_before}
use Rattle.chorus_entry.specs.Same.{are_same}
use Rattle.chorus_world.specs.Ports.{PortState, fate, fate_after, changed, arrived, last_of, is_held, is_held_at, is_coming, is_next_hop}
use Rattle.chorus_world.specs.Places.{last_clock, ports_made}
use Rattle.chorus_world.specs.Steps.{act_may, may, is_legal, is_home, is_full_of_ports, next_number, is_timely, act_follows}
use Rattle.chorus_world.specs.Order.{IsCausal}
use Rattle.chorus_world.proofs.Steps.LegalLemmas.{legal_parts, on_is}
use Rattle.chorus_world.proofs.Ports.LineLemmas.{none_some, needs}
use Rattle.chorus_world.proofs.Ports.PortMoves.{held_fate, coming_fate}
use Rattle.chorus_world.proofs.Messages.SentFacts.{legal-kinds}

-- Clocks along a line.

abbrev pub last_place : List Entry → ℕ
last_place [] = 0
last_place (e ∷ es) = e.place

before-means : (e f : Entry) → comes_before f e ≡ true → (f.clock ≤ e.clock) × (f.place ≡ e.place → f.clock < e.clock)
before-means e f h =
    elim (or_cases (nat_lt f.clock e.clock) ((f.clock == e.clock) && nat_lt f.place e.place) h) [
      | inl less ↦ (let lt = ltb-true f.clock e.clock less in (omega (arith, lt), λ same. lt))
      | inr level ↦ (
          let two = and_parts (f.clock == e.clock) (nat_lt f.place e.place) level in
          let is = eqb-true f.clock e.clock two.0 in
          let lt = ltb-true f.place e.place two.1 in
          (omega (arith, is), λ same. absurd (omega (arith, same, lt))))
    ]

pub rising-le : (e : Entry) (es : List Entry) → IsRising (e ∷ es) → last_clock es ≤ e.clock
rising-le e [] h = omega arith
rising-le e (f ∷ es) h = (before-means e f (All-head (λ (g : Entry). comes_before g e ≡ true) f es h.0)).0

-- at the place of the last one they rise
pub rising-lt : (e : Entry) (es : List Entry) → IsRising (e ∷ es) → 1 ≤ e.clock → last_place es ≡ e.place → last_clock es < e.clock
rising-lt e [] h some same = omega (arith, some)
rising-lt e (f ∷ es) h some same = (before-means e f (All-head (λ (g : Entry). comes_before g e ≡ true) f es h.0)).1 same

-- a view of a causal list is one of the older list, and the entry rises on its own views
pub rising-view : (t : Entry → Bool) (e : Entry) (past : List Entry) → t e ≡ true → IsRising (cond (t e) (e ∷ filter t past) (filter t past)) → IsRising (e ∷ filter t past)
rising-view t e past h r = subst (λ b. IsRising (cond b (e ∷ filter t past) (filter t past))) h r

older-view : (t : Entry → Bool) (e : Entry) (past : List Entry) → IsRising (filter t (e ∷ past)) → IsRising (filter t past)
older-view t e past h = go (t e) h
  where
    go : (b : Bool) → IsRising (cond b (e ∷ filter t past) (filter t past)) → IsRising (filter t past)
    go true r = r.1
    go false r = r

pub causal-older : (e : Entry) (past : List Entry) → IsCausal (e ∷ past) → IsCausal past
causal-older e past c =
    record {
      places = λ p. older-view (is_at p) e past (c.places p);
      seats = λ k. older-view (is_by k) e past (c.seats k);
      messages = λ x. older-view (is_about (Some x)) e past (c.messages x);
      ports = λ q. older-view (is_on (Some q)) e past (c.ports q);
    }

pub clock-some : (l : Layout) (past : List Entry) (e : Entry) → is_legal l (e ∷ past) ≡ true → (has_place l e.place ≡ true) × (last_clock (at e.place past) < e.clock)
clock-some l past e h =
    let v = views past e.place e.seat e.act in
    let m = (and_parts (may l past e) (is_legal l past) h).0 in
    let t = and_parts (has_place l e.place) (nat_lt (last_clock v.here) e.clock) (and_parts (is_timely l v e) (act_follows l v e.place e.seat e.act) m).0 in
    (t.0, ltb-true (last_clock (at e.place past)) e.clock t.1)

-- Ports.

abbrev pub ActorFits : Layout → Spot → Type 0
ActorFits l (Held a) = (is_actor a ≡ true) × (has_actor l a ≡ true)
ActorFits l (Moving a) = (is_actor a ≡ true) × (has_actor l a ≡ true)
ActorFits l Ended = Unit {0}

pub record IsWellMade (l : Layout) (q : Ui) (f : PortState) (line : List Entry) : Type 0 where
  pub listed : can_make_port l q ≡ true
  pub some : 1 ≤ length f.path
  pub clock : length f.accepted + length f.path ≤ last_clock line
  pub actor : ActorFits l f.spot
  -- while it is held, the last entry on its line stands where it is
  pub here : is_held f.spot ≡ true → last_place line ≡ last_of 0 f.path

abbrev pub MadeWell : Layout → Ui → Option PortState → List Entry → Type 0
MadeWell l q None line = Unit {0}
MadeWell l q (Some f) line = IsWellMade l q f line

-- a number that a place gives is one of its site's
few-ports : (t m r n : ℕ) → 1 ≤ t → t ≤ 4 → t ≢ 3 → m < 32 / t → n ≡ m * t + r % t + 1 → n ≤ 32
few-ports zero m r n a b c d e = absurd (omega arith)
few-ports (suc zero) m r n a b c d e = omega arith
few-ports (suc (suc zero)) m r n a b c d e = omega arith
few-ports (suc (suc (suc zero))) m r n a b c d e = absurd (c refl)
few-ports (suc (suc (suc (suc zero)))) m r n a b c d e = omega arith
few-ports (suc (suc (suc (suc (suc t))))) m r n a b c d e = absurd (omega arith)

new-listed : (l : Layout) (past : List Entry) (p s : ℕ) (q a : Ui) (c : ℕ) → IsLayout l → act_may l (views past p s (Make q a c)) p s (Make q a c) ≡ true → (can_make_port l q ≡ true) × (has_actor l a ≡ true)
new-listed l past p s q a c shape h =
    let here = at p past in
    let five = and_parts (is_home l a p && nat_le 1 c && nat_le c 64 && not (is_full_of_ports l here) && (q.site == a.site)) (q.number == next_number l p here) h in
    let four = and_parts (is_home l a p && nat_le 1 c && nat_le c 64 && not (is_full_of_ports l here)) (q.site == a.site) five.0 in
    let three = and_parts (is_home l a p && nat_le 1 c && nat_le c 64) (not (is_full_of_ports l here)) four.0 in
    let two = and_parts (is_home l a p && nat_le 1 c) (nat_le c 64) three.0 in
    let one = and_parts (is_home l a p) (nat_le 1 c) two.0 in
    let home = and_parts (has_actor l a) (place_at l a.site a == p) one.0 in
    let site : has_site l a.site ≡ true = (and_parts (has_site l a.site) (nat_le 1 a.number) (and_parts (has_site l a.site && nat_le 1 a.number) (nat_le a.number ACTORS_PER_SITE_LIMIT) home.0).0).0 in
    let same : q.site ≡ a.site = eqb-true q.site a.site four.1 in
    let number : q.number ≡ next_number l p here = eqb-true q.number (next_number l p here) five.1 in
    let room = leb-false (PORTS_PER_SITE_LIMIT / l.turns) (ports_made here) (not-true (is_full_of_ports l here) three.1) in
    let few : q.number ≤ 32 = few-ports l.turns (ports_made here) (p - 1) q.number shape.turns_from_one shape.turns_to_four shape.turns_not_three room number in
    let low : 1 ≤ q.number = omega (arith, number) in (
      and_from (has_site l q.site && nat_le 1 q.number) (nat_le q.number PORTS_PER_SITE_LIMIT)
          (and_from (has_site l q.site) (nat_le 1 q.number) (ap (has_site l) same ∙ site) (le-leb 1 q.number low)) (le-leb q.number 32 few),
      home.0,
    )

module _ (l : Layout) (past : List Entry) (q : Ui) (e : Entry) (shape : IsLayout l) (legal : is_legal l (e ∷ past) ≡ true) (rises : IsRising (e ∷ on q past)) (line : is_on (Some q) e ≡ true) where
  abbrev is_may : Act → Type 0
  is_may a = act_may l (views past e.place e.seat a) e.place e.seat a ≡ true

  clock_one : 1 ≤ e.clock
  clock_one = (let lt = (clock-some l past e legal).1 in omega (arith, lt))

  -- an act at the place that holds it, which leaves the name and the path
  held-on : (f : PortState) (g : PortState) → is_held_at e.place (Some f) ≡ true → IsWellMade l q f (on q past) → g.path ≡ f.path → length g.accepted ≤ length f.accepted + 1 → ActorFits l g.spot → IsWellMade l q g (e ∷ on q past)
  held-on f g h old path more actor =
      let held = held_fate e.place (Some f) h in
      let same : held.0 ≡ f = (let both = held.2 in cc) in
      let here : last_of 0 f.path ≡ e.place = ap (λ (z : PortState). last_of 0 z.path) (sym same) ∙ held.4 in
      let is : is_held f.spot ≡ true = ap (λ (z : PortState). is_held z.spot) (sym same) ∙ ap is_held held.3 in
      let lt = rising-lt e (on q past) rises clock_one (old.here is ∙ here) in
      let was = old.clock in
      let long : length g.path ≡ length f.path = ap length path in
      let some = old.some in
      record {
        listed = old.listed;
        some = omega (arith, some, long);
        clock = omega (arith, was, lt, more, long);
        actor = actor;
        here = λ k. sym here ∙ ap (last_of 0) (sym path);
      }

  -- of a port that may not be made
  by-fate : (a : Act) (o : Option PortState) → fate (on q past) ≡ o → is_held_at e.place (fate (on q past)) ≡ true → MadeWell l q (fate (on q past)) (on q past)
      → ((f : PortState) → is_held_at e.place (Some f) ≡ true → IsWellMade l q f (on q past) → IsWellMade l q (changed a f) (e ∷ on q past)) → ((f : PortState) → fate_after e.place a (Some f) ≡ Some (changed a f)) → MadeWell l q (fate_after e.place a (fate (on q past))) (e ∷ on q past)
  by-fate a None is h old k z = absurd (false≢true (ap (is_held_at e.place) (sym is) ∙ h))
  by-fate a (Some f) is h old k z =
      subst (λ o. MadeWell l q (fate_after e.place a o) (e ∷ on q past)) (sym is)
      (subst (λ o. MadeWell l q o (e ∷ on q past)) (sym (z f)) (k f (ap (is_held_at e.place) (sym is) ∙ h) (subst (λ o. MadeWell l q o (on q past)) is old)))

  made-step : (a : Act) → e.act ≡ a → is_may a → has_kinds a ≡ true → MadeWell l q (fate (on q past)) (on q past) → MadeWell l q (fate_after e.place a (fate (on q past))) (e ∷ on q past)
  made-step (Make r b c) is h k old =
      let same : q ≡ r = from_same_ui q r (ap (λ z. are_same same_ui (Some q) (held_port_of z)) (sym is) ∙ line) in
      let new = new-listed l past e.place e.seat r b c shape h in
      let one = clock_one in
      record {
        listed = ap (can_make_port l) same ∙ new.0;
        some = omega arith;
        clock = omega (arith, one);
        actor = ((and_parts (is_port r) (is_actor b) k).1, new.1);
        here = λ z. refl;
      }
  made-step (Arrive r hop) is h k old = by (fate (on q past)) refl (needs l past e.clock e.place e.seat (Arrive r hop) q (ap held_port_of (sym is) ∙ on_is q (held_port_of e.act) line) h) old
    where
      by : (o : Option PortState) → fate (on q past) ≡ o → is_coming e.place hop o ≡ true → MadeWell l q o (on q past) → MadeWell l q (fate_after e.place (Arrive r hop) o) (e ∷ on q past)
      by None z m w = tt
      by (Some f) z m w =
          let c = coming_fate e.place hop (Some f) m in
          let same : c.0 ≡ f = (let both = c.2 in cc) in
          let here : last_of 0 f.path ≡ e.place = ap (λ (z : PortState). last_of 0 z.path) (sym same) ∙ c.4 in
          let spot : f.spot ≡ Moving c.1 = ap (λ (z : PortState). z.spot) (sym same) ∙ c.3 in
          let le = rising-le e (on q past) rises in
          let was = w.clock in
          record {
            listed = w.listed;
            some = w.some;
            clock = omega (arith, le, was);
            actor = subst (λ s. ActorFits l (arrived s)) (sym spot) (subst (ActorFits l) spot w.actor);
            here = λ z. sym here;
          }
  made-step (Accept x r n) is h k old =
      by-fate (Accept x r n) (fate (on q past)) refl (needs l past e.clock e.place e.seat (Accept x r n) q (ap held_port_of (sym is) ∙ on_is q (held_port_of e.act) line) h) old
      (λ f i w. held-on f (changed (Accept x r n) f) i w refl (let m = length_push f.accepted x in omega (arith, m)) w.actor) (λ f. refl)
  made-step (Rehome r b) is h k old =
      let two = and_parts (is_held_at e.place (fate (on r past))) (has_actor l b) (and_parts (is_held_at e.place (fate (on r past)) && has_actor l b) (b.site == site_of l e.place) h).0 in
      by-fate (Rehome r b) (fate (on q past)) refl (needs l past e.clock e.place e.seat (Rehome r b) q (ap held_port_of (sym is) ∙ on_is q (held_port_of e.act) line) h) old
      (λ f i w. held-on f (changed (Rehome r b) f) i w refl (omega arith) ((and_parts (is_port r) (is_actor b) k).1, two.1)) (λ f. refl)
  made-step (Delete r xs) is h k old =
      by-fate (Delete r xs) (fate (on q past)) refl (needs l past e.clock e.place e.seat (Delete r xs) q (ap held_port_of (sym is) ∙ on_is q (held_port_of e.act) line) h) old
      (λ f i w. held-on f (changed (Delete r xs) f) i w refl (omega arith) tt) (λ f. refl)
  made-step (Take r n x) is h k old =
      by-fate (Take r n x) (fate (on q past)) refl (needs l past e.clock e.place e.seat (Take r n x) q (ap held_port_of (sym is) ∙ on_is q (held_port_of e.act) line) h) old
      (λ f i w. held-on f (changed (Take r n x) f) i w refl (omega arith) w.actor) (λ f. refl)
  made-step (Depart r to b hop) is h k old =
      let four = and_parts (is_held_at e.place (fate (on r past)) && has_actor l b && not (b.site == site_of l e.place) && (to == place_at l b.site r)) (is_next_hop hop (fate (on r past))) h in
      let three = and_parts (is_held_at e.place (fate (on r past)) && has_actor l b && not (b.site == site_of l e.place)) (to == place_at l b.site r) four.0 in
      let two = and_parts (is_held_at e.place (fate (on r past)) && has_actor l b) (not (b.site == site_of l e.place)) three.0 in
      let one = and_parts (is_held_at e.place (fate (on r past))) (has_actor l b) two.0 in
      by-fate (Depart r to b hop) (fate (on q past)) refl (needs l past e.clock e.place e.seat (Depart r to b hop) q (ap held_port_of (sym is) ∙ on_is q (held_port_of e.act) line) h) old
      (λ f i w. departs f i w one.1 (and_parts (is_port r) (is_actor b) k).1) (λ f. refl)
    where
      departs : (f : PortState) → is_held_at e.place (Some f) ≡ true → IsWellMade l q f (on q past) → has_actor l b ≡ true → is_actor b ≡ true → IsWellMade l q (changed (Depart r to b hop) f) (e ∷ on q past)
      departs f i w actor named =
          let held = held_fate e.place (Some f) i in
          let same : held.0 ≡ f = (let both = held.2 in cc) in
          let here : last_of 0 f.path ≡ e.place = ap (λ (z : PortState). last_of 0 z.path) (sym same) ∙ held.4 in
          let spot : is_held f.spot ≡ true = ap (λ (z : PortState). is_held z.spot) (sym same) ∙ ap is_held held.3 in
          let lt = rising-lt e (on q past) rises clock_one (w.here spot ∙ here) in
          let was = w.clock in
          let long = length_push f.path to in
          record {
            listed = w.listed;
            some = omega (arith, long);
            clock = omega (arith, was, lt, long);
            actor = (named, actor);
            here = λ z. absurd (false≢true z);
          }
  made-step (Full x r n) is h k old =
      by-fate (Full x r n) (fate (on q past)) refl (needs l past e.clock e.place e.seat (Full x r n) q (ap held_port_of (sym is) ∙ on_is q (held_port_of e.act) line) h) old
      (λ f i w. held-on f f i w refl (omega arith) w.actor) (λ f. refl)
  made-step (Already x r) is h k old =
      by-fate (Already x r) (fate (on q past)) refl (needs l past e.clock e.place e.seat (Already x r) q (ap held_port_of (sym is) ∙ on_is q (held_port_of e.act) line) h) old
      (λ f i w. held-on f f i w refl (omega arith) w.actor) (λ f. refl)
  made-step (ClientsFull x r) is h k old =
      by-fate (ClientsFull x r) (fate (on q past)) refl (needs l past e.clock e.place e.seat (ClientsFull x r) q (ap held_port_of (sym is) ∙ on_is q (held_port_of e.act) line) h) old
      (λ f i w. held-on f f i w refl (omega arith) w.actor) (λ f. refl)
  made-step (Empty r) is h k old =
      by-fate (Empty r) (fate (on q past)) refl (needs l past e.clock e.place e.seat (Empty r) q (ap held_port_of (sym is) ∙ on_is q (held_port_of e.act) line) h) old
      (λ f i w. held-on f f i w refl (omega arith) w.actor) (λ f. refl)
  made-step a is h k old = none_some q (ap held_port_of (sym is) ∙ on_is q (held_port_of e.act) line)

pub made-well : (l : Layout) (past : List Entry) (q : Ui) → IsLayout l → is_legal l past ≡ true → IsCausal past → MadeWell l q (fate (on q past)) (on q past)
made-well l [] q shape h c = tt
made-well l (e ∷ past) q shape h c = go (is_on (Some q) e) refl (made-well l past q shape)
  where
    two : (has_kinds e.act ≡ true) × (is_legal l past ≡ true)
    two = legal-kinds l e past h

    go : (b : Bool) → is_on (Some q) e ≡ b → (is_legal l past ≡ true → IsCausal past → MadeWell l q (fate (on q past)) (on q past)) → MadeWell l q (fate (cond b (e ∷ on q past) (on q past))) (cond b (e ∷ on q past) (on q past))
    go true t ih =
        made-step l past q e shape h (rising-view (is_on (Some q)) e past t (c.ports q)) t e.act refl (legal_parts l e past h).0 two.0 (ih two.1 (causal-older e past c))
    go false t ih = ih two.1 (causal-older e past c)
