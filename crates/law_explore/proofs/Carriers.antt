-- A race where seat 0 delivers, and the same with a carrier for each place: the first is what a replay does, and in the second
-- neighbours change places on the nose. The same moves are a history of both, in normal form of both, and come to the same.
-- r is a race, s and t are positions of the first and of the second, m and o are moves.
use Rattle.std.proofs.Common.{ℕ, zero, suc, ◌≡◌, ◌≢◌, ◌<◌, ◌≤◌, ◌+◌, ◌==◌, nat_le, Bool, true, false, ◌&&◌, not, cond, List, [], ◌∷◌, ◌++◌, length, Option, Some, None, is_some, slice_get, refl, sym, ◌∙◌, ap, ap₂, subst, arith}
use Rattle.std.specs.List.{filter}
use Rattle.std.specs.Option.{option_map}
use Rattle.std.proofs.lemmas.Bool.{false≢true, and_parts, leb-true}
use Rattle.chorus_ui.specs.declared.ui.Ui.{Ui}
use Rattle.chorus_ui.specs.declared.layout.Layout.{Layout}
use Rattle.chorus_ui.specs.Layout.{places, has_place}
use Rattle.chorus_calls.specs.Callers.{Seated, new_caller}
use Rattle.law_machine.specs.PlaceState.{PlaceState}
use Rattle.law_network.specs.Calls.{first_actor}
use Rattle.law_network.specs.Network.{Event, Act, Deliver}
use Rattle.law_network.specs.Stands.{actor_of}
use Rattle.law_explore.specs.Alike.{ActAlike, PlacesAlike, CallerAlike}
use Rattle.law_explore.specs.Neighbours.{are_apart, command_place}
use Rattle.law_explore.specs.Search.{IsHistory, IsNormal, fits, state_after}
use Rattle.law_explore.specs.declared.moves.Move.{Move}
use Rattle.law_explore.specs.declared.moves.Move.TheVariants.{Go, Carry}
use Rattle.law_explore.specs.Races.{Race, Order, Position, next_of, are_linked, event_of, may_now, may_come_by, is_ready_by, are_apart_by, are_neighbours, is_less, racing, seat_0, are_of_one_script, place_with, place_of_move, may_come, meet_nowhere, replaying, all_moves, next_moves, IsRace}
use Rattle.law_explore.specs.Outcome.{outcome_of, outcome_with}
use Rattle.law_explore.specs.Laws.{RacesAlike, NormalsComeToAll}
use Rattle.law_explore.proofs.Races.{races_need_normals_only}
use Rattle.law_explore.proofs.Alike.{keep_acts}
use Rattle.law_explore.proofs.Telling.{acts-tell, outcomes}
use Rattle.law_explore.proofs.Replays.{alike-after, Stays, follows, SameTold, grow-same, short}

-- Lists.

get-left : {A : Type 0} (xs ys : List A) (k : ℕ) → k < length xs → slice_get (xs ++ ys) k ≡ slice_get xs k
get-left [] ys k lt = absurd (omega (arith, lt))
get-left (x ∷ xs) ys zero lt = refl
get-left (x ∷ xs) ys (suc k) lt = get-left xs ys k (omega (arith, lt))

get-right : {A : Type 0} (xs ys : List A) (k j : ℕ) → k ≡ length xs + j → slice_get (xs ++ ys) k ≡ slice_get ys j
get-right [] ys k j e = ap (slice_get ys) (omega (arith, e))
get-right (x ∷ xs) ys zero j e = absurd (omega (arith, e))
get-right (x ∷ xs) ys (suc k) j e = get-right xs ys k j (omega (arith, e))

pub some-inside : {A : Type 0} (xs : List A) (k : ℕ) → k < length xs → is_some (slice_get xs k) ≡ true
some-inside [] k lt = absurd (omega (arith, lt))
some-inside (x ∷ xs) zero lt = refl
some-inside (x ∷ xs) (suc k) lt = some-inside xs k (omega (arith, lt))

pub same-filter : {A : Type 0} (p q : A → Bool) (xs : List A) → ((x : A) → p x ≡ q x) → filter p xs ≡ filter q xs
same-filter p q [] h = refl
same-filter p q (x ∷ xs) h = λ i. cond (h x i) (x ∷ same-filter p q xs h i) (same-filter p q xs h i)

pub same-Bool : (a b : Bool) → (a ≡ true → b ≡ true) → (b ≡ true → a ≡ true) → a ≡ b
same-Bool true b there back = sym (there refl)
same-Bool false true there back = back refl
same-Bool false false there back = refl

-- a conjunct needs to be the same only where those before it hold
same-and : (a x b y c z : Bool) → a ≡ x → b ≡ y → (a ≡ true → b ≡ true → c ≡ z) → (a && (b && c)) ≡ (x && (y && z))
same-and true x true y c z e f h = ap₂ (λ u w. u && (w && c)) e f ∙ ap (λ u. x && (y && u)) (h refl refl)
same-and true x false y c z e f h = sym (ap₂ (λ u w. u && (w && z)) (sym e) (sym f))
same-and false x b y c z e f h = sym (ap (λ u. u && (y && z)) (sym e))

-- The carriers: as many as there are places, and one more, behind all callers.

abbrev crew : ℕ → List Seated
crew zero = new_caller 0 first_actor 0 ∷ []
crew (suc count) = new_caller 0 first_actor 0 ∷ crew count

some-crew : (count j : ℕ) → j ≤ count → is_some (slice_get (crew count) j) ≡ true
some-crew zero zero le = refl
some-crew zero (suc j) le = absurd (omega (arith, le))
some-crew (suc count) zero le = refl
some-crew (suc count) (suc j) le = some-crew count j (omega (arith, le))

abbrev row : ℕ → ℕ → ℕ
row most b = cond (nat_le b most) b 0

row-inside : (most b : ℕ) → row most b ≤ most
row-inside most b = by (nat_le b most) refl
  where
    by : (x : Bool) → nat_le b most ≡ x → cond x b 0 ≤ most
    by true e = leb-true b most e
    by false e = omega arith

rows-differ : (most b d : ℕ) → nat_le b most ≡ true → nat_le d most ≡ true → (b == d) ≡ false → (row most b == row most d) ≡ false
rows-differ most b d in_b in_d ne = ap₂ (λ x y. cond x b 0 == cond y d 0) in_b in_d ∙ ne

module _ (r : Race) (race : IsRace r) where
  abbrev l : Layout
  l = r.net.layout

  abbrev pub carrier : ℕ → ℕ
  carrier b = length r.net.callers + row (places l) b

  abbrev pub carried : Race
  carried = record { net = record r.net { callers = r.net.callers ++ crew (places l) }; scripts = r.scripts }

  pub carrier-high : (b k : ℕ) → k ≤ length r.scripts → carrier b ≡ k → ⊥
  carrier-high b k le e = far (length r.net.callers) (row (places l) b) (length r.scripts) k race.seats le e
    where
      far : (n x m k : ℕ) → m < n → k ≤ m → n + x ≡ k → ⊥
      far n x m k lt le e = omega (arith, lt, le, e)

  carrier-there : (b : ℕ) → is_some (slice_get carried.net.callers (carrier b)) ≡ true
  carrier-there b =
      ap is_some (get-right r.net.callers (crew (places l)) (carrier b) (row (places l) b) refl)
      ∙ some-crew (places l) (row (places l) b) (row-inside (places l) b)

  same-places : (ss : List PlaceState) → PlacesAlike ActAlike ss ss
  same-places [] = tt
  same-places (s ∷ ss) = (record { journal = s.journal; is = refl; journals = refl }, same-places ss)

  same-caller : (o : Option Seated) → CallerAlike o o
  same-caller None = tt
  same-caller (Some w) = record { last = w.last; is = refl }

  scripted : (k : ℕ) → k ≤ length r.scripts → slice_get carried.net.callers k ≡ slice_get r.net.callers k
  scripted k le = get-left r.net.callers (crew (places l)) k (inside (length r.scripts) (length r.net.callers) k race.seats le)
    where
      inside : (m n k : ℕ) → m < n → k ≤ m → k < n
      inside m n k lt le = omega (arith, lt, le)

  not-low : (k : ℕ) → 1 ≤ k → 0 ≡ k → ⊥
  not-low k le e = omega (arith, le, e)

  pub to-carried : RacesAlike r carried seat_0 carrier
  to-carried =
      record {
        scripts = refl;
        nets =
            record {
              layout = refl;
              places = same-places r.net.places;
              packets = refl;
              callers = λ k low high. subst (λ (o : Option Seated). CallerAlike (slice_get r.net.callers k) o) (sym (scripted k high)) (same-caller (slice_get r.net.callers k));
            };
        there = carrier-there;
        behind = λ b k low high. (not-low k low, carrier-high b k high);
      }

  pub from-carried : RacesAlike carried r carrier seat_0
  from-carried =
      record {
        scripts = refl;
        nets =
            record {
              layout = refl;
              places = same-places r.net.places;
              packets = refl;
              callers = λ k low high. subst (λ (o : Option Seated). CallerAlike o (slice_get r.net.callers k)) (sym (scripted k high)) (same-caller (slice_get r.net.callers k));
            };
        there = λ b. some-inside r.net.callers 0 (first (length r.scripts) (length r.net.callers) race.seats);
        behind = λ b k low high. (carrier-high b k high, not-low k low);
      }
    where
      first : (m n : ℕ) → m < n → 0 < n
      first m n lt = omega (arith, lt)

  -- A replay's race is that of seat 0.

  abbrev at_0 : List Move → Position
  at_0 ms = state_after (racing r seat_0) ms

  abbrev at_c : List Move → Position
  at_c ms = state_after (racing carried carrier) ms

  pub same-state : (ms : List Move) → state_after (replaying r) ms ≡ at_0 ms
  same-state [] = refl
  same-state (m ∷ ms) = ap ((replaying r).step m) (same-state ms)

  pub to-racing : (ms : List Move) → IsHistory (replaying r) ms → IsHistory (racing r seat_0) ms
  to-racing [] h = tt
  to-racing (m ∷ ms) h = (sym (ap (may_come l m) (same-state ms)) ∙ h.0, to-racing ms h.1)

  to-replaying : (ms : List Move) → IsHistory (racing r seat_0) ms → IsHistory (replaying r) ms
  to-replaying [] h = tt
  to-replaying (m ∷ ms) h = (ap (may_come l m) (same-state ms) ∙ h.0, to-replaying ms h.1)

  -- Positions that the same moves come to.
  module _ (s t : Position) (there : Stays r carried seat_0 carrier to-carried s t) (back : Stays carried r carrier seat_0 from-carried t s) where
    pub same-ready : (m : Move) → may_come l m s ≡ may_come_by l carrier m t
    same-ready m =
        same-Bool (may_come l m s) (may_come_by l carrier m t)
        (λ h. (follows ActAlike keep_acts SameTold grow-same l (length r.scripts) seat_0 carrier to-carried.behind s t there m h).0)
        (λ h. (follows ActAlike keep_acts SameTold grow-same l (length r.scripts) carrier seat_0 from-carried.behind t s back m h).0)

    same-actor : (k : ℕ) → 1 ≤ k → k ≤ length r.scripts → actor_of s.net k ≡ actor_of t.net k
    same-actor k low high = by (slice_get s.net.callers k) (slice_get t.net.callers k) (there.nets.callers k low high)
      where
        by : (x z : Option Seated) → CallerAlike x z → option_map (λ (w : Seated). w.actor) x ≡ option_map (λ (w : Seated). w.actor) z
        by None None a = refl
        by None (Some v) a = absurd a
        by (Some w) None a = absurd a
        by (Some w) (Some v) a = ap (λ (u : Seated). Some u.actor) (sym a.is)

    goes : (i : ℕ) → may_come l (Go i) s ≡ true → (o : Order) × ((next_of (slice_get s.left i) ≡ Some o) × (suc i ≤ length r.scripts))
    goes i h = by (next_of (slice_get s.left i)) refl h
      where
        by : (o : Option Order) → next_of (slice_get s.left i) ≡ o → is_ready_by (option_map (λ (x : Order). Act (suc i) x.command) o) s.net && may_now o i s.net ≡ true
            → (p : Order) × ((next_of (slice_get s.left i) ≡ Some p) × (suc i ≤ length r.scripts))
        by None e k = absurd (false≢true k)
        by (Some o) e k = (o, (e, subst (λ n. suc i ≤ n) there.all (short s.left i o e)))

    linked : (a b : ℕ) → may_come l (Carry a b) s ≡ true → are_linked l a b ≡ true
    linked a b h = by (are_linked l a b) h
      where
        by : (x : Bool) → is_ready_by (cond x (Some (Deliver 0 a b)) None) s.net && true ≡ true → x ≡ true
        by true k = refl
        by false k = absurd (false≢true k)

    in-places : (a b : ℕ) → may_come l (Carry a b) s ≡ true → nat_le b (places l) ≡ true
    in-places a b h =
        let one = and_parts (has_place l a && has_place l b) (not (a == b)) (linked a b h) in
        let two = and_parts (has_place l a) (has_place l b) one.0 in
        (and_parts (nat_le 1 b) (nat_le b (places l)) two.1).1

    -- in words that both say
    abbrev far : ℕ → ℕ → ℕ → ℕ → Bool
    far k p j q = not (k == j) && not (p == q)

    script-event : (i : ℕ) (o : Order) → next_of (slice_get s.left i) ≡ Some o → event_of l carrier (Go i) t.left ≡ Some (Act (suc i) o.command)
    script-event i o e =
        ap (λ (left : List (List Order)). option_map (λ (x : Order). Act (suc i) x.command) (next_of (slice_get left i))) there.left
        ∙ ap (option_map (λ (x : Order). Act (suc i) x.command)) e

    link-event : (a b : ℕ) → are_linked l a b ≡ true → event_of l carrier (Carry a b) t.left ≡ Some (Deliver (carrier b) a b)
    link-event a b e = ap (λ x. cond x (Some (Deliver (carrier b) a b)) None) e

    script-place : (i : ℕ) (o : Order) → next_of (slice_get s.left i) ≡ Some o → suc i ≤ length r.scripts → place_of_move (Go i) s ≡ command_place t.net.layout o.command (actor_of t.net (suc i))
    script-place i o e high =
        ap (λ (x : Option Order). place_with x i s.net) e
        ∙ ap₂ (λ (k : Layout) (a : Option Ui). command_place k o.command a) (sym there.nets.layout) (same-actor (suc i) (omega arith) high)

    both : (m o : Move) (e f : Event) → event_of l carrier m t.left ≡ Some e → event_of l carrier o t.left ≡ Some f
        → are_apart_by (event_of l carrier m t.left) (event_of l carrier o t.left) t.net ≡ are_apart t.net.layout (actor_of t.net) e f
    both m o e f i j = ap₂ (λ x z. are_apart_by x z t.net) i j

    suc-same : (i j : ℕ) → (i == j) ≡ (suc i == suc j)
    suc-same i j = same-Bool (i == j) (suc i == suc j) (λ h. grind (arith, h)) (λ h. grind (arith, h))

    unlike : (a b : ℕ) → a ≢ b → (a == b) ≡ false
    unlike a b ne = same-Bool (a == b) false (λ h. absurd (ne (equal a b h))) (λ h. absurd (false≢true h))
      where
        equal : (a b : ℕ) → (a == b) ≡ true → a ≡ b
        equal a b g = grind (arith, g)

    same-far : (m o : Move) → may_come l m s ≡ true → may_come l o s ≡ true
        → (not (are_of_one_script m o) && not (place_of_move m s == place_of_move o s)) ≡ are_apart_by (event_of l carrier m t.left) (event_of l carrier o t.left) t.net
    same-far (Go i) (Go j) h k =
        let x = goes i h in
        let z = goes j k in
        ap₂ (λ u w. not (i == j) && not (u == w)) (script-place i x.0 x.1.0 x.1.1) (script-place j z.0 z.1.0 z.1.1)
        ∙ ap (λ u. not u && not (command_place t.net.layout x.0.command (actor_of t.net (suc i)) == command_place t.net.layout z.0.command (actor_of t.net (suc j)))) (suc-same i j)
        ∙ sym (both (Go i) (Go j) (Act (suc i) x.0.command) (Act (suc j) z.0.command) (script-event i x.0 x.1.0) (script-event j z.0 z.1.0))
    same-far (Go i) (Carry a b) h k =
        let x = goes i h in
        ap (λ u. not false && not (u == b)) (script-place i x.0 x.1.0 x.1.1)
        ∙ ap (λ u. not u && not (command_place t.net.layout x.0.command (actor_of t.net (suc i)) == b)) (sym (unlike (suc i) (carrier b) (λ e. carrier-high b (suc i) x.1.1 (sym e))))
        ∙ sym (both (Go i) (Carry a b) (Act (suc i) x.0.command) (Deliver (carrier b) a b) (script-event i x.0 x.1.0) (link-event a b (linked a b k)))
    same-far (Carry a b) (Go j) h k =
        let z = goes j k in
        ap (λ u. not false && not (b == u)) (script-place j z.0 z.1.0 z.1.1)
        ∙ ap (λ u. not u && not (b == command_place t.net.layout z.0.command (actor_of t.net (suc j)))) (sym (unlike (carrier b) (suc j) (λ e. carrier-high b (suc j) z.1.1 e)))
        ∙ sym (both (Carry a b) (Go j) (Deliver (carrier b) a b) (Act (suc j) z.0.command) (link-event a b (linked a b h)) (script-event j z.0 z.1.0))
    same-far (Carry a b) (Carry c d) h k =
        by (b == d) refl
        ∙ sym (both (Carry a b) (Carry c d) (Deliver (carrier b) a b) (Deliver (carrier d) c d) (link-event a b (linked a b h)) (link-event c d (linked c d k)))
      where
        shifted : (n x y : ℕ) → (x == y) ≡ false → (n + x == n + y) ≡ false
        shifted n x y ne = grind (arith, ne)

        none : (z : Bool) → false ≡ (not z && false)
        none true = refl
        none false = refl

        by : (e : Bool) → (b == d) ≡ e → (not false && not (b == d)) ≡ (not (carrier b == carrier d) && not (b == d))
        by true e = ap (λ u. not false && not u) e ∙ none (carrier b == carrier d) ∙ sym (ap (λ u. not (carrier b == carrier d) && not u) e)
        by false e =
            ap (λ u. not u && not (b == d))
            (sym (shifted (length r.net.callers) (row (places l) b) (row (places l) d) (rows-differ (places l) b d (in-places a b h) (in-places c d k) e)))

    pub same-apart : (m o : Move) → meet_nowhere l m o s ≡ are_neighbours l carrier m o t
    same-apart m o =
        same-and (may_come l m s) (may_come_by l carrier m t) (may_come l o s) (may_come_by l carrier o t)
        (not (are_of_one_script m o) && not (place_of_move m s == place_of_move o s)) (are_apart_by (event_of l carrier m t.left) (event_of l carrier o t.left) t.net)
        (same-ready m) (same-ready o) (same-far m o)

  -- Histories.

  pub there-after : (ms : List Move) → IsHistory (racing r seat_0) ms → IsHistory (racing carried carrier) ms × Stays r carried seat_0 carrier to-carried (at_0 ms) (at_c ms)
  there-after ms h = alike-after r carried seat_0 carrier to-carried ms h

  pub back-after : (ms : List Move) → IsHistory (racing carried carrier) ms → IsHistory (racing r seat_0) ms × Stays carried r carrier seat_0 from-carried (at_c ms) (at_0 ms)
  back-after ms h = alike-after carried r carrier seat_0 from-carried ms h

  same-fits : (a : Move) (ms : List Move) → IsHistory (racing r seat_0) ms → fits (replaying r) a ms ≡ fits (racing carried carrier) a ms
  same-fits a [] h = refl
  same-fits a (m ∷ ms) h =
      let there = there-after ms h.1 in
      let back = back-after ms there.0 in
      let apart = ap (meet_nowhere l a m) (same-state ms) ∙ same-apart (at_0 ms) (at_c ms) there.1 back.1 a m in
      ap₂ (λ x z. cond x (not (is_less a m) && z) true) apart (same-fits a ms h.1)

  to-normal : (ms : List Move) → IsHistory (racing r seat_0) ms → IsNormal (racing carried carrier) ms → IsNormal (replaying r) ms
  to-normal [] h n = tt
  to-normal (m ∷ ms) h n = (same-fits m ms h.1 ∙ n.0, to-normal ms h.1 n.1)

  same-outcome : (ms : List Move) → IsHistory (racing r seat_0) ms → outcome_of r (at_0 ms) ≡ outcome_of r (at_c ms)
  same-outcome ms h =
      let stay = (there-after ms h).1 in
      outcomes ActAlike acts-tell r.scripts (at_0 ms).left (at_0 ms).told (at_0 ms).net.places (at_c ms).net.places stay.nets.places
      ∙ sym (λ i. outcome_with r.scripts (stay.left i) (stay.told i) (at_c ms).net.places)

  pub record HasNormalOf (ms : List Move) : Type 0 where
    pub moves : List Move
    pub history : IsHistory (racing r seat_0) moves
    pub normal : IsNormal (replaying r) moves
    pub ends : next_moves r (at_0 moves) ≡ []
    pub comes : outcome_of r (at_0 moves) ≡ outcome_of r (at_0 ms)
    pub as_long : length moves ≡ length ms

  pub has-normal : (ms : List Move) → IsHistory (racing r seat_0) ms → next_moves r (at_0 ms) ≡ [] → HasNormalOf ms
  has-normal ms h end =
      let there = there-after ms h in
      let back = back-after ms there.0 in
      let n = races_need_normals_only carried carrier race.order ms there.0 in
      let home = back-after n.events n.history in
      let out = there-after n.events home.0 in
      let s = at_0 n.events in
      let ready : (m : Move) → may_come l m s ≡ may_come l m (at_0 ms) =
      λ m. same-ready s (at_c n.events) out.1 home.1 m
      ∙ ap (λ (p : Position). may_come_by l carrier m p) n.same_end
      ∙ sym (same-ready (at_0 ms) (at_c ms) there.1 back.1 m) in
      let left : s.left ≡ (at_0 ms).left = sym out.1.left ∙ ap (λ (p : Position). p.left) n.same_end ∙ there.1.left in
      record {
        moves = n.events;
        history = home.0;
        normal = to-normal n.events home.0 n.normal;
        ends =
            same-filter (λ (m : Move). may_come l m s) (λ (m : Move). may_come l m (at_0 ms)) (all_moves l s.left) ready
            ∙ ap (λ left. filter (λ (m : Move). may_come l m (at_0 ms)) (all_moves l left)) left
            ∙ end;
        comes = same-outcome n.events home.0 ∙ ap (outcome_of r) n.same_end ∙ sym (same-outcome ms h);
        as_long = n.as_long;
      }

pub normals-come : NormalsComeToAll
normals-come r ms race whole =
    let n = has-normal r race ms (to-racing r race ms whole.0) (sym (ap (next_moves r) (same-state r race ms)) ∙ whole.1) in
    record {
      moves = n.moves;
      whole = ((to-replaying r race n.moves n.history, ap (next_moves r) (same-state r race n.moves) ∙ n.ends), n.normal);
      comes = ap (outcome_of r) (same-state r race n.moves) ∙ n.comes ∙ sym (ap (outcome_of r) (same-state r race ms));
      as_long = n.as_long;
    }
