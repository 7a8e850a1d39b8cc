-- The bar of a port stands where the world has the port.
use Rattle.std.proofs.Common.{ℕ, ◌≡◌, ◌≢◌, ◌+◌, ◌-◌, ◌≤◌, Bool, true, false, List, [], ◌∷◌, ◌++◌, length, length-append, Option, Some, None, refl, sym, ◌∙◌, ap, subst, arith}
use Rattle.std.specs.List.{slice_get}
use Rattle.std.proofs.lemmas.Bool.{eqb-true, and_parts, false≢true}
use Rattle.chorus_ui.specs.declared.ui.Ui.{Ui}
use Rattle.chorus_ui.specs.declared.layout.Layout.{Layout}
use Rattle.chorus_ui.specs.Layout.{IsLayout}
use Rattle.chorus_entry.specs.declared.entry.Entry.{Entry}
use Rattle.chorus_entry.specs.declared.act.Act.{Act}
use Rattle.chorus_entry.specs.declared.act.Act.TheVariants.{Make, Accept, Full, Already, ClientsFull, Take, Empty, Rehome, Depart, Arrive, Delete}
use Rattle.chorus_entry.specs.Act.{held_port_of}
use Rattle.chorus_world.specs.declared.spot.Spot.{Spot}
use Rattle.chorus_world.specs.declared.spot.Spot.TheVariants as S
use Rattle.chorus_world.specs.Views.{views, on, is_on}
use Rattle.chorus_world.specs.Ports.{PortState, fate, fate_after, arrived, waiting, is_coming, is_held, is_held_at, is_last, is_moving, last_of}
use Rattle.chorus_world.specs.Steps.{act_may, is_legal}
use Rattle.chorus_world.proofs.Steps.LegalLemmas.{legal_parts, keeps, skips, on_is}
use Rattle.chorus_world.proofs.Ports.LineLemmas.{Needs, needs, none_some}
use Rattle.chorus_world.proofs.Ports.Paths.{IsOnItsWay, Moves, PathIn, path-in}
use Rattle.chorus_world.proofs.Ports.PortMoves.{coming_fate}
use Rattle.chorus_world.proofs.Ports.PortLaws.{keeps_to_capacity}
use Rattle.law_picture.specs.declared.bar.Bar.{Bar}
use Rattle.law_picture.specs.Bars as bars
use Rattle.law_picture.specs.Causes.{latest}
use Rattle.law_picture.specs.Bars.{bar, bar_after, row_in, waits_after, waits_in}
use Rattle.law_picture.specs.Laws.{Held, BarsAreOfTheWorld, bar_held, mover, place_of, port_held}

-- the place before the last of a list of places
abbrev pub before_last : ℕ → ℕ → List ℕ → ℕ
before_last p q [] = p
before_last p q (r ∷ rs) = before_last q r rs

before-push : (p q : ℕ) (rs : List ℕ) (to : ℕ) → before_last p q (rs ++ to ∷ []) ≡ last_of q rs
before-push p q [] to = refl
before-push p q (r ∷ rs) to = before-push q r rs to

before-two : (p q : ℕ) (rs : List ℕ) (from to : ℕ) → before_last p q (rs ++ from ∷ to ∷ []) ≡ from
before-two p q [] from to = refl
before-two p q (r ∷ rs) from to = before-two q r rs from to

-- the bar is that of the port
pub record IsBarOf (f : PortState) (b : Bar) : Type 0 where
  held : b.held ≡ is_held f.spot
  waits : b.waits ≡ waiting f
  place : is_held f.spot ≡ true → b.row.place ≡ last_of 0 f.path
  pub left : is_moving f.spot ≡ true → b.row.place ≡ before_last 0 0 f.path

abbrev pub Agrees : Option PortState → Option Bar → Type 0
Agrees None None = Unit {0}
Agrees None (Some b) = ⊥
Agrees (Some f) None = ⊥
Agrees (Some f) (Some b) = IsBarOf f b

-- a port that is held, after an act on its line
module _ (past : List Entry) (e : Entry) (f : PortState) (old : Option Bar) (agrees : Agrees (Some f) old) where
  waited : (o : Option Bar) → Agrees (Some f) o → waits_in o ≡ waiting f
  waited None h = absurd h
  waited (Some b) h = h.waits

  next : (g : PortState) → bars.keeps e.act ≡ is_held g.spot → waits_after e.act (waiting f) ≡ waiting g → (is_held g.spot ≡ true → e.place ≡ last_of 0 g.path) → (is_moving g.spot ≡ true → e.place ≡ before_last 0 0 g.path) → IsBarOf g (bar_after past e old)
  next g held waits place left = record {
    held = held;
    waits = ap (waits_after e.act) (waited old agrees) ∙ waits;
    place = place;
    left = left;
  }

held-still : {P : Type 0} (s : Spot) → is_held s ≡ true → is_moving s ≡ true → P
held-still (S.Held a) h k = absurd (false≢true k)
held-still (S.Moving a) h k = absurd (false≢true h)
held-still S.Ended h k = absurd (false≢true h)

-- where it is
at_place : (p : ℕ) (f : PortState) → is_held_at p (Some f) ≡ true → (is_held f.spot ≡ true) × (p ≡ last_of 0 f.path)
at_place p f h =
    let two = and_parts (is_held f.spot) (is_last p f) h in
    (two.0, sym (eqb-true (last_of 0 f.path) p two.1))

one_more : (xs : ℕ) (n : ℕ) → n ≤ xs → (xs - n) + 1 ≡ (xs + 1) - n
one_more xs n h = omega (arith, h)

one_less : (xs : ℕ) (n : ℕ) → (xs - n) - 1 ≡ xs - (n + 1)
one_less xs n = omega arith

held_step : (past : List Entry) (e : Entry) (a : Act) (f : PortState) (old : Option Bar) → e.act ≡ a → Agrees (Some f) old → f.taken ≤ length f.accepted
    → Needs e.place a (Some f) → ((q : Ui) → held_port_of a ≡ Some q → Agrees (fate_after e.place a (Some f)) (Some (bar_after past e old)))
held_step past e a f old is agrees within need = go a is need
  where
    still : (b : Act) → e.act ≡ b → bars.keeps b ≡ true → waits_after b (waiting f) ≡ waiting f → is_held_at e.place (Some f) ≡ true → IsBarOf f (bar_after past e old)
    still b i k w h =
        let here = at_place e.place f h in
        next past e f old agrees f (ap bars.keeps i ∙ k ∙ sym here.0) (ap (λ c. waits_after c (waiting f)) i ∙ w) (λ _. here.1) (held-still f.spot here.0)

    go : (b : Act) → e.act ≡ b → Needs e.place b (Some f) → (q : Ui) → held_port_of b ≡ Some q → Agrees (fate_after e.place b (Some f)) (Some (bar_after past e old))
    go (Make r c n) i h q m =
        next past e f old agrees _ (ap bars.keeps i) (ap (λ c. waits_after c (waiting f)) i) (λ _. refl) (λ k. absurd (false≢true k))
    go (Accept x r n) i h q m =
        let here = at_place e.place f h in
        next past e f old agrees _ (ap bars.keeps i ∙ sym here.0)
        (ap (λ c. waits_after c (waiting f)) i ∙ one_more (length f.accepted) f.taken within
        ∙ ap (λ k. k - f.taken) (sym (length-append f.accepted (x ∷ []))))
        (λ _. here.1) (held-still f.spot here.0)
    go (Full x r n) i h q m = still (Full x r n) i refl refl h
    go (Already x r) i h q m = still (Already x r) i refl refl h
    go (ClientsFull x r) i h q m = still (ClientsFull x r) i refl refl h
    go (Take r n x) i h q m =
        let here = at_place e.place f h in
        next past e f old agrees _ (ap bars.keeps i ∙ sym here.0)
        (ap (λ c. waits_after c (waiting f)) i ∙ one_less (length f.accepted) f.taken) (λ _. here.1) (held-still f.spot here.0)
    go (Empty r) i h q m = still (Empty r) i refl refl h
    go (Rehome r c) i h q m =
        let here = at_place e.place f h in
        next past e f old agrees _ (ap bars.keeps i) (ap (λ c. waits_after c (waiting f)) i) (λ _. here.1) (λ k. absurd (false≢true k))
    go (Depart r to c hop) i h q m =
        let here = at_place e.place f h in
        next past e f old agrees _ (ap bars.keeps i) (ap (λ c. waits_after c (waiting f)) i) (λ k. absurd (false≢true k))
        (λ _. here.1 ∙ sym (before-push 0 0 f.path to))
    go (Arrive r hop) i h q m =
        let come = coming_fate e.place hop (Some f) h in
        let same : come.0 ≡ f = (let both = come.2 in cc) in
        let spot : f.spot ≡ S.Moving come.1 = ap (λ (z : PortState). z.spot) (sym same) ∙ come.3 in
        let here : e.place ≡ last_of 0 f.path = sym (ap (λ (z : PortState). last_of 0 z.path) (sym same) ∙ come.4) in
        next past e f old agrees _ (ap bars.keeps i ∙ ap (λ s. is_held (arrived s)) (sym spot)) (ap (λ c. waits_after c (waiting f)) i) (λ _. here)
        (λ k. absurd (false≢true (ap (λ s. is_moving (arrived s)) (sym spot) ∙ k)))
    go (Delete r xs) i h q m =
        next past e f old agrees _ (ap bars.keeps i) (ap (λ c. waits_after c (waiting f)) i) (λ k. absurd (false≢true k)) (λ k. absurd (false≢true k))
    go _ i h q m = none_some q m

-- a port that is not made: only a Make may stand on its line
made_step : (past : List Entry) (e : Entry) (a : Act) (old : Option Bar) (q : Ui) → e.act ≡ a → held_port_of a ≡ Some q → Needs e.place a None
    → Agrees (fate_after e.place a None) (Some (bar_after past e old))
made_step past e (Make r c n) old q i m h = record {
  held = ap bars.keeps i;
  waits = ap (λ c. waits_after c (waits_in old)) i;
  place = λ _. refl;
  left = λ k. absurd (false≢true k);
}
made_step past e (Accept x r n) old q i m h = absurd (false≢true h)
made_step past e (Full x r n) old q i m h = absurd (false≢true h)
made_step past e (Already x r) old q i m h = absurd (false≢true h)
made_step past e (ClientsFull x r) old q i m h = absurd (false≢true h)
made_step past e (Take r n x) old q i m h = absurd (false≢true h)
made_step past e (Empty r) old q i m h = absurd (false≢true h)
made_step past e (Rehome r c) old q i m h = absurd (false≢true h)
made_step past e (Depart r to c hop) old q i m h = absurd (false≢true h)
made_step past e (Arrive r hop) old q i m h = absurd (false≢true h)
made_step past e (Delete r xs) old q i m h = absurd (false≢true h)
made_step past e _ old q i m h = none_some q m

bar_here : (q : Ui) (e : Entry) (past : List Entry) → is_on (Some q) e ≡ true → bar q (e ∷ past) ≡ Some (bar_after past e (bar q past))
bar_here q e past h = rw h refl

bar_skips : (q : Ui) (e : Entry) (past : List Entry) → is_on (Some q) e ≡ false → bar q (e ∷ past) ≡ bar q past
bar_skips q e past h = rw h refl

pub agree : (l : Layout) (past : List Entry) (q : Ui) → IsLayout l → is_legal l past ≡ true → Agrees (fate (on q past)) (bar q past)
agree l [] q shape h = tt
agree l (e ∷ past) q shape h = go (is_on (Some q) e) refl (agree l past q shape (legal_parts l e past h).1)
  where
    two : (act_may l (views past e.place e.seat e.act) e.place e.seat e.act ≡ true) × (is_legal l past ≡ true)
    two = legal_parts l e past h

    by-fate : Agrees (fate (on q past)) (bar q past) → held_port_of e.act ≡ Some q → (o : Option PortState) → fate (on q past) ≡ o → Agrees (fate_after e.place e.act o) (Some (bar_after past e (bar q past)))
    by-fate old m None is =
        made_step past e e.act (bar q past) q refl m (subst (Needs e.place e.act) is (needs l past e.clock e.place e.seat e.act q m two.0))
    by-fate old m (Some f) is =
        held_step past e e.act f (bar q past) refl (subst (λ o. Agrees o (bar q past)) is old) (keeps_to_capacity l past shape two.1 q f is).0
        (subst (Needs e.place e.act) is (needs l past e.clock e.place e.seat e.act q m two.0)) q m

    go : (b : Bool) → is_on (Some q) e ≡ b → Agrees (fate (on q past)) (bar q past) → Agrees (fate (on q (e ∷ past))) (bar q (e ∷ past))
    go true t old =
        subst (λ o. Agrees (fate (on q (e ∷ past))) o) (sym (bar_here q e past t))
        (subst (λ z. Agrees (fate z) (Some (bar_after past e (bar q past)))) (sym (keeps (is_on (Some q)) e past t))
        (by-fate old (on_is q (held_port_of e.act) t) (fate (on q past)) refl))
    go false n old =
        subst (λ o. Agrees (fate (on q (e ∷ past))) o) (sym (bar_skips q e past n))
        (subst (λ z. Agrees (fate z) (bar q past)) (sym (skips (is_on (Some q)) e past n)) old)

held_same : (p q n m : ℕ) → p ≡ q → n ≡ m → (let a : Held = record { place = p; waits = n } in a) ≡ record { place = q; waits = m }
held_same p q n m a b = cc

shown_same : (o : Option PortState) (b : Option Bar) → Agrees o b → bar_held b ≡ port_held o
shown_same None None h = refl
shown_same None (Some b) h = absurd h
shown_same (Some f) None h = absurd h
shown_same (Some f) (Some b) h = go (is_held f.spot) refl
  where
    go : (c : Bool) → is_held f.spot ≡ c → bar_held (Some b) ≡ port_held (Some f)
    go true k = rw (h.held ∙ k) (rw k (ap Some (held_same b.row.place (last_of 0 f.path) b.waits (waiting f) (h.place k) h.waits)))
    go false k = rw (h.held ∙ k) (rw k refl)

pub bars_are_of_the_world : BarsAreOfTheWorld
bars_are_of_the_world l past shape legal q = shown_same (fate (on q past)) (bar q past) (agree l past q shape legal)

-- A port that comes.

-- the bar of a port begins where the latest entry on its line stands
pub latest_on : (q : Ui) (past : List Entry) → latest (is_on (Some q)) past ≡ row_in (bar q past)
latest_on q [] = refl
latest_on q (e ∷ past) = go (is_on (Some q) e) refl (latest_on q past)
  where
    go : (b : Bool) → is_on (Some q) e ≡ b → latest (is_on (Some q)) past ≡ row_in (bar q past) → latest (is_on (Some q)) (e ∷ past) ≡ row_in (bar q (e ∷ past))
    go true h old = rw h refl
    go false h old = rw h old

get-there : (rs : List ℕ) (from to : ℕ) → slice_get (rs ++ from ∷ to ∷ []) (length rs) ≡ Some from
get-there [] from to = refl
get-there (r ∷ rs) from to = get-there rs from to

last-two : (q : ℕ) (rs : List ℕ) (from to : ℕ) → last_of q (rs ++ from ∷ to ∷ []) ≡ to
last-two q [] from to = refl
last-two q (r ∷ rs) from to = last-two r rs from to

-- it comes from where it was held last, which is another place
pub record Comes (past : List Entry) (p : ℕ) (q : Ui) (hop : ℕ) : Type 0 where
  pub from : ℕ
  pub last : place_of (latest (is_on (Some q)) past) ≡ Some from
  pub mover : mover hop (fate (on q past)) ≡ Some from
  pub apart : from ≢ p

pub comes : (l : Layout) (past : List Entry) (p : ℕ) (q : Ui) (hop : ℕ) → IsLayout l → is_legal l past ≡ true → is_coming p hop (fate (on q past)) ≡ true → Comes past p q hop
comes l past p q hop shape legal h = go (bar q past) refl (subst (λ o. Agrees o (bar q past)) come.2 (agree l past q shape legal))
  where
    come : (f : PortState) × (b : Ui) × (fate (on q past) ≡ Some f) × (f.spot ≡ S.Moving b) × (last_of 0 f.path ≡ p) × (hop ≡ length f.path - 1)
    come = coming_fate p hop (fate (on q past)) h

    way : IsOnItsWay l q come.1 come.0.path
    way = subst (Moves l q come.0.path) come.3 (subst (PathIn l q) come.2 (path-in l past q shape legal)).1

    hop-is : hop - 1 ≡ length way.front
    hop-is = omega (arith, come.5, ap length way.is, length-append way.front (way.from ∷ way.to ∷ []))

    to-is : way.to ≡ p
    to-is = sym (last-two 0 way.front way.from way.to) ∙ ap (last_of 0) (sym way.is) ∙ come.4

    go : (o : Option Bar) → bar q past ≡ o → Agrees (Some come.0) o → Comes past p q hop
    go None is h = absurd h
    go (Some b) is h =
        record {
          from = way.from;
          last = ap place_of (latest_on q past ∙ ap row_in is)
              ∙ ap Some (h.left (ap is_moving come.3) ∙ ap (before_last 0 0) way.is ∙ before-two 0 0 way.front way.from way.to);
          mover = ap (mover hop) come.2 ∙ ap (λ path. slice_get path (hop - 1)) way.is
              ∙ ap (slice_get (way.front ++ way.from ∷ way.to ∷ [])) hop-is ∙ get-there way.front way.from way.to;
          apart = λ same. way.apart (same ∙ sym to-is);
        }
