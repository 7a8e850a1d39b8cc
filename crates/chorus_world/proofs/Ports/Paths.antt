-- Facts of legal lists: the path of a port lies in the layout, and a port that moves is on its way between two different places.
use Rattle.std.proofs.Common.{ℕ, ◌≡◌, ◌≢◌, ◌≤◌, ◌==◌, nat_le, nat_lt, Bool, true, false, ◌&&◌, not, cond, List, [], ◌∷◌, ◌++◌, append_assoc, Option, Some, None, refl, sym, ◌∙◌, ap, subst, arith}
use Rattle.std.specs.List.{All}
use Rattle.std.proofs.lemmas.Bool.{eqb-true, eqb-false, and_parts, not-true, leb-true}
use Rattle.std.proofs.lemmas.List.Elements.{All-nil, All-cons, All-push}
use Rattle.chorus_ui.specs.declared.ui.Ui.{Ui}
use Rattle.chorus_ui.specs.declared.layout.Layout.{Layout}
use Rattle.chorus_ui.specs.Layout as layout
use Rattle.chorus_ui.specs.Layout.{IsLayout, has_site, has_place, has_actor, place_at, site_of}
use Rattle.chorus_ui.specs.declared.limits.TheConstants.{ACTORS_PER_SITE_LIMIT}
use Rattle.chorus_ui.proofs.Names.{from_same_ui}
use Rattle.chorus_entry.specs.declared.entry.Entry.{Entry}
use Rattle.chorus_entry.specs.declared.act.Act.{Act}
use Rattle.chorus_entry.specs.declared.act.Act.TheVariants as acts
use Rattle.chorus_world.specs.declared.spot.Spot.{Spot}
use Rattle.chorus_world.specs.declared.spot.Spot.TheVariants as spots
use Rattle.chorus_world.specs.Views.{views, on, is_on}
use Rattle.chorus_world.specs.Ports.{PortState, fate, fate_after, last_of, is_held_at, is_next_hop, arrived}
use Rattle.chorus_world.specs.Steps.{act_may, act_follows, may, is_timely, is_legal}
use Rattle.chorus_world.specs.Places.{last_clock}
use Rattle.chorus_world.proofs.Steps.LegalLemmas.{legal_parts}
use Rattle.chorus_world.proofs.Ports.PortMoves.{held_fate}
use Rattle.chorus_world.proofs.Ports.Sites.{place-inside, place-site}

-- Paths.

-- the port is on its way to the actor's place: from the place before the last of its path to the last
pub record IsOnItsWay (l : Layout) (q a : Ui) (path : List ℕ) : Type 0 where
  pub front : List ℕ
  pub from : ℕ
  pub to : ℕ
  pub is : path ≡ front ++ from ∷ to ∷ []
  pub has_from : has_place l from ≡ true
  pub has_to : has_place l to ≡ true
  pub apart : from ≢ to
  pub place : to ≡ place_at l a.site q

abbrev pub Moves : Layout → Ui → List ℕ → Spot → Type 0
Moves l q path (spots.Moving a) = IsOnItsWay l q a path
Moves l q path _ = Unit {0}

abbrev pub PathIn : Layout → Ui → Option PortState → Type 0
PathIn l q None = Unit {0}
PathIn l q (Some f) = All (λ (p : ℕ). has_place l p ≡ true) f.path × Moves l q f.path f.spot

-- a path that comes to a place of the layout has it at its end
last-split : (p : ℕ) (ps : List ℕ) → (front : List ℕ) × (p ∷ ps ≡ front ++ last_of p ps ∷ [])
last-split p [] = ([], refl)
last-split p (r ∷ rs) = (let rest = last-split r rs in (p ∷ rest.0, ap (λ qs. p ∷ qs) rest.1))

path-split : (p : ℕ) (ps : List ℕ) → last_of 0 ps ≡ p → 1 ≤ p → (front : List ℕ) × (ps ≡ front ++ p ∷ [])
path-split p [] e le = absurd (omega (arith, e, le))
path-split p (r ∷ rs) e le = (let rest = last-split r rs in (rest.0, rest.1 ∙ ap (λ z. rest.0 ++ z ∷ []) e))

moves-arrived : (l : Layout) (q : Ui) (path : List ℕ) (s : Spot) → Moves l q path (arrived s)
moves-arrived l q path (spots.Held a) = tt
moves-arrived l q path (spots.Moving a) = tt
moves-arrived l q path spots.Ended = tt

path-step : (l : Layout) (past : List Entry) (q : Ui) (p s : ℕ) (a : Act) → IsLayout l → has_place l p ≡ true → is_on (Some q) (record { clock = 0; place = p; seat = s; act = a }) ≡ true → act_may l (views past p s a) p s a ≡ true → PathIn l q (fate (on q past)) → PathIn l q (fate_after p a (fate (on q past)))
path-step l past q p s (acts.Make r a c) shape has line h f = (All-cons (λ (i : ℕ). has_place l i ≡ true) p [] has (All-nil (λ (i : ℕ). has_place l i ≡ true)), tt)
path-step l past q p s (acts.Depart r to a hop) shape has line h f =
    let four = and_parts (is_held_at p (fate (on r past)) && has_actor l a && not (a.site == site_of l p) && (to == place_at l a.site r)) (is_next_hop hop (fate (on r past))) h in
    let three = and_parts (is_held_at p (fate (on r past)) && has_actor l a && not (a.site == site_of l p)) (to == place_at l a.site r) four.0 in
    let two = and_parts (is_held_at p (fate (on r past)) && has_actor l a) (not (a.site == site_of l p)) three.0 in
    let one = and_parts (is_held_at p (fate (on r past))) (has_actor l a) two.0 in
    let same : q ≡ r = from_same_ui q r line in
    let held = held_fate p (fate (on q past)) (subst (λ (u : Ui). is_held_at p (fate (on u past)) ≡ true) (sym same) one.0) in
    let g = held.0 in
    let site : has_site l a.site ≡ true = (and_parts (has_site l a.site) (nat_le 1 a.number) (and_parts (has_site l a.site && nat_le 1 a.number) (nat_le a.number ACTORS_PER_SITE_LIMIT) one.1).0).0 in
    let is : to ≡ place_at l a.site r = eqb-true to (place_at l a.site r) three.1 in
    let there : has_place l to ≡ true = ap (has_place l) is ∙ place-inside l a.site r shape site in
    let apart : to ≢ p = (λ e. eqb-false a.site (site_of l p) (not-true (a.site == site_of l p) two.1) (sym (place-site l a.site r shape site) ∙ ap (site_of l) (sym is ∙ e))) in
    let old : PathIn l q (Some g) = subst (PathIn l q) held.2 f in
    let low = leb-true 1 p (and_parts (nat_le 1 p) (nat_le p (layout.places l)) has).0 in
    let split = path-split p g.path held.4 low in
    subst (λ o. PathIn l q (fate_after p (acts.Depart r to a hop) o)) (sym held.2) (
      All-push (λ (i : ℕ). has_place l i ≡ true) g.path to old.0 there,
      record {
        front = split.0;
        from = p;
        to = to;
        is = ap (λ ps. ps ++ to ∷ []) split.1 ∙ append_assoc split.0 (p ∷ []) (to ∷ []);
        has_from = has;
        has_to = there;
        apart = λ e. apart (sym e);
        place = is ∙ ap (place_at l a.site) (sym same);
      },
    )
path-step l past q p s (acts.Arrive r hop) shape has line h f = by (fate (on q past)) f
  where
    by : (o : Option PortState) → PathIn l q o → PathIn l q (fate_after p (acts.Arrive r hop) o)
    by None k = tt
    by (Some g) k = (k.0, moves-arrived l q g.path g.spot)
path-step l past q p s (acts.Rehome r a) shape has line h f = by (fate (on q past)) f
  where
    by : (o : Option PortState) → PathIn l q o → PathIn l q (fate_after p (acts.Rehome r a) o)
    by None k = tt
    by (Some g) k = (k.0, tt)
path-step l past q p s (acts.Delete r xs) shape has line h f = by (fate (on q past)) f
  where
    by : (o : Option PortState) → PathIn l q o → PathIn l q (fate_after p (acts.Delete r xs) o)
    by None k = tt
    by (Some g) k = (k.0, tt)
path-step l past q p s a shape has line h f = by (fate (on q past)) f
  where
    by : (o : Option PortState) → PathIn l q o → PathIn l q (fate_after p a o)
    by None k = tt
    by (Some g) k = k

pub timely-place : (l : Layout) (past : List Entry) (e : Entry) → may l past e ≡ true → has_place l e.place ≡ true
timely-place l past e h =
    let v = views past e.place e.seat e.act in
    (and_parts (has_place l e.place) (nat_lt (last_clock v.here) e.clock) (and_parts (is_timely l v e) (act_follows l v e.place e.seat e.act) h).0).0

pub path-in : (l : Layout) (past : List Entry) (q : Ui) → IsLayout l → is_legal l past ≡ true → PathIn l q (fate (on q past))
path-in l [] q shape h = tt
path-in l (e ∷ past) q shape h = go (is_on (Some q) e) refl (path-in l past q shape)
  where
    two : (may l past e ≡ true) × (is_legal l past ≡ true)
    two = and_parts (may l past e) (is_legal l past) h

    go : (b : Bool) → is_on (Some q) e ≡ b → (is_legal l past ≡ true → PathIn l q (fate (on q past))) → PathIn l q (fate (cond b (e ∷ on q past) (on q past)))
    go true t ih = path-step l past q e.place e.seat e.act shape (timely-place l past e two.0) t (legal_parts l e past h).0 (ih two.1)
    go false t ih = ih two.1
