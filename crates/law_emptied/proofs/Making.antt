-- Seat 0 makes a port on each of the first sites, and sends to them.
-- l is a layout, n the room of a port, s and k are sites, q a port. A past has its newest entry first.
use native.Mathlib.Nat.{zero-mod, zero-mul}
use mathlib.Core.Logic.{dite}
use native.Mathlib.Decide.{ℕ_discrete}
use Rattle.std.proofs.Common.{ℕ, zero, suc, ◌≡◌, ◌≢◌, ◌+◌, ◌-◌, ◌*◌, ◌/◌, ◌%◌, ◌<◌, ◌≤◌, ◌==◌, Bool, true, false, ◌&&◌, not, cond, nat_le, List, [], ◌∷◌, ◌++◌, append-nil, map, Option, Some, None, refl, sym, ◌∙◌, ap, ap₂, subst, arith}
use Rattle.std.specs.Option.{unwrap_or}
use Rattle.std.proofs.lemmas.Bool.{and_parts, and_from, eqb-true, eq-eqb, false≢true, le-leb}
use Rattle.std.proofs.lemmas.List.{map-append}
use Rattle.std.proofs.lemmas.Nat.{mod-mul-add}
use Rattle.chorus_ui.specs.declared.kind.Kind.TheVariants as kinds
use Rattle.chorus_ui.specs.declared.ui.Ui.{Ui}
use Rattle.chorus_ui.specs.declared.layout.Layout.{Layout}
use Rattle.chorus_ui.specs.Layout.{IsLayout, has_actor, has_site, creation_place, place_at}
use Rattle.chorus_ui.specs.Name.{same_ui}
use Rattle.chorus_ui.specs.NameKind.{is_port, is_actor}
use Rattle.chorus_ui.proofs.Names.{from_same_kind, from_same_ui, same_ui-self}
use Rattle.chorus_entry.specs.declared.entry.Entry.{Entry}
use Rattle.chorus_entry.specs.declared.message.Message.{Message}
use Rattle.chorus_entry.specs.declared.tag.Tag.{Tag}
use Rattle.chorus_entry.specs.declared.dest.Dest.{Dest}
use Rattle.chorus_entry.specs.declared.act.Act.{Act}
use Rattle.chorus_entry.specs.declared.command.Command.{Command}
use Rattle.chorus_entry.specs.Act.{is_command_entry, held_port_of}
use Rattle.chorus_entry.specs.Body.{same_body}
use Rattle.chorus_entry.specs.Kinds.{has_kinds}
use Rattle.chorus_entry.specs.Order.{is_at}
use Rattle.chorus_entry.specs.Places.{place_for}
use Rattle.chorus_entry.proofs.Same.{from_same_body}
use Rattle.chorus_world.specs.declared.spot.Spot.TheVariants.{Held}
use Rattle.chorus_world.specs.Views.{views, at, on, is_on}
use Rattle.chorus_world.specs.Ports.{PortState, fate, fate_after, is_made, is_coming, new_port}
use Rattle.chorus_world.specs.Places.{ports_made, ports_after}
use Rattle.chorus_world.specs.Commands.{performs, answers, is_own_of, make_answers, send_answers, is_plain}
use Rattle.chorus_world.specs.Steps.{act_may, is_legal, is_home, is_full_of_ports, next_number}
use Rattle.chorus_world.proofs.Steps.LegalLemmas.{entry, legal_parts, on_is, keeps, skips}
use Rattle.chorus_world.proofs.Messages.SentFacts.{legal-kinds}
use Rattle.law_filled.specs.Filled.{posted_to, messages_to, Fills, AllFill}
use Rattle.law_emptied.specs.Crewed.{port_on, actor_on, place_on, makes_down, Sending, send_of, AreWithin, bodies_to, script, AllFirst}
use Rattle.law_filled.proofs.Facts.{stays, not-coming}

-- Sites and places.

lead : (l : Layout) (s : ℕ) → place_on l s ≡ (s - 1) * l.turns + 1
lead l s = let none : (1 - 1) % l.turns ≡ 0 = zero-mod l.turns in omega (arith, none)

mul-grows : (m n t : ℕ) → m ≤ n → m * t ≤ n * t
mul-grows m n t h = grind arith

mul-more : (m t : ℕ) → (m + 1) * t ≡ m * t + t
mul-more m t = grind arith

before-apart : (t a b : ℕ) → 1 ≤ t → a < b → a * t + 1 ≡ b * t + 1 → ⊥
before-apart t a b one lt e =
    let more = mul-more a t in
    let grows : (a + 1) * t ≤ b * t = mul-grows (a + 1) b t (omega (arith, lt)) in
    absurd (omega (arith, one, more, grows, e))

-- the ports of two sites have two places
pub places-apart : (l : Layout) (s k : ℕ) → IsLayout l → 1 ≤ s → s < k → place_on l s ≡ place_on l k → ⊥
places-apart l s k shape low lt e =
    before-apart l.turns (s - 1) (k - 1) shape.turns_from_one (omega (arith, low, lt)) (sym (lead l s) ∙ e ∙ lead l k)

site-there : (l : Layout) (s : ℕ) → 1 ≤ s → s ≤ l.sites → has_site l s ≡ true
site-there l s low high = and_from (nat_le 1 s) (nat_le s l.sites) (le-leb 1 s low) (le-leb s l.sites high)

actor-there : (l : Layout) (s : ℕ) → 1 ≤ s → s ≤ l.sites → has_actor l (actor_on s) ≡ true
actor-there l s low high = ap (λ b. b && true && true) (site-there l s low high)

-- where a port of a site is made
make-place : (l : Layout) (a : Ui) (s n : ℕ) → 1 ≤ s → s ≤ l.sites → place_for l a (Command.Make (actor_on s) n) ≡ place_on l s
make-place l a s n low high = ap (λ b. unwrap_or (cond b (Some (creation_place l (actor_on s))) None) (place_at l a.site a)) (actor-there l s low high)

-- a site has room for a first port
not-many : (t : ℕ) → 1 ≤ t → t ≤ 4 → nat_le (32 / t) 0 ≡ true → ⊥
not-many zero a b h = absurd (omega (arith, a))
not-many (suc zero) a b h = false≢true h
not-many (suc (suc zero)) a b h = false≢true h
not-many (suc (suc (suc zero))) a b h = false≢true h
not-many (suc (suc (suc (suc zero)))) a b h = false≢true h
not-many (suc (suc (suc (suc (suc t))))) a b h = absurd (omega (arith, b))

-- Performing.

not-false : (b : Bool) → not b ≡ true → b ≡ false
not-false true h = absurd (false≢true h)
not-false false h = refl

pub record Answered (l : Layout) (a : Ui) (past : List Entry) (e : Entry) (cs : List Command) : Type 0 where
  pub command : Command
  pub rest : List Command
  pub is : cs ≡ command ∷ rest
  pub answer : answers l past a command e ≡ true
  pub older : performs l e.seat a past rest ≡ true

own-is : (e : Entry) → is_own_of e.seat e ≡ is_command_entry e.act
own-is e = ap (λ b. b && is_command_entry e.act) (eq-eqb e.seat e.seat refl)

-- an entry of the seat that answers a command answers the last one
pub answered : (l : Layout) (a : Ui) (past : List Entry) (e : Entry) (cs : List Command) → is_command_entry e.act ≡ true → performs l e.seat a (e ∷ past) cs ≡ true → Answered l a past e cs
answered l a past e [] own h =
    absurd (false≢true (sym (not-false (is_own_of e.seat e) (and_parts (not (is_own_of e.seat e)) (performs l e.seat a past []) h).0) ∙ (own-is e ∙ own)))
answered l a past e (c ∷ cs) own h =
    let two = and_parts (answers l past a c e) (performs l e.seat a past cs) (sym (ap (λ b. cond b (answers l past a c e && performs l e.seat a past cs) (performs l e.seat a past (c ∷ cs))) (own-is e ∙ own)) ∙ h) in
    record { command = c; rest = cs; is = refl; answer = two.0; older = two.1 }

-- and any other entry leaves them to the older ones
pub unanswered : (l : Layout) (s : ℕ) (a : Ui) (past : List Entry) (e : Entry) (cs : List Command) → is_own_of s e ≡ false → performs l s a (e ∷ past) cs ≡ true → performs l s a past cs ≡ true
unanswered l s a past e [] off h = (and_parts (not (is_own_of s e)) (performs l s a past []) h).1
unanswered l s a past e (c ∷ cs) off h = sym (ap (λ b. cond b (answers l past a c e && performs l s a past cs) (performs l s a past (c ∷ cs))) off) ∙ h

-- What is made.

-- the port is held at the place by the actor
pub record IsHeldBy (a : Ui) (p : ℕ) (o : Option PortState) : Type 0 where
  pub state : PortState
  pub is : o ≡ Some state
  pub spot : state.spot ≡ Held a
  pub path : state.path ≡ p ∷ []

held-after : (l : Layout) (n s : ℕ) (past : List Entry) (p seat : ℕ) (a : Act) (b : Ui) (z : ℕ) (o : Option PortState) → (is_command_entry a ≡ true → Fills l n s past seat a) → ((r : Ui) (hop : ℕ) → a ≡ Act.Arrive r hop → ⊥) → ((r c : Ui) (m : ℕ) → a ≡ Act.Make r c m → ⊥) → IsHeldBy b z o → IsHeldBy b z (fate_after p a o)
held-after l n s past p seat (Act.Make r c m) b z o f k j i = absurd (j r c m refl)
held-after l n s past p seat (Act.Arrive r hop) b z o f k j i = absurd (k r hop refl)
held-after l n s past p seat (Act.Take r m x) b z o f k j i = absurd (f refl)
held-after l n s past p seat (Act.Rehome r c) b z o f k j i = absurd (f refl)
held-after l n s past p seat (Act.Depart r to c hop) b z o f k j i = absurd (f refl)
held-after l n s past p seat (Act.Delete r xs) b z o f k j i = absurd (f refl)
held-after l n s past p seat a b z None f k j i = absurd (let bad : None ≡ Some i.state = i.is in cc)
held-after l n s past p seat (Act.Accept x r m) b z (Some g) f k j i =
    let same : g ≡ i.state = some-state g i.state i.is in
    record { state = record g { accepted = g.accepted ++ x ∷ [] }; is = refl; spot = ap (λ (y : PortState). y.spot) same ∙ i.spot; path = ap (λ (y : PortState). y.path) same ∙ i.path }
  where
    some-state : (x y : PortState) → Some x ≡ Some y → x ≡ y
    some-state x y h = cc
held-after l n s past p seat a b z (Some g) f k j i = record { state = i.state; is = i.is; spot = i.spot; path = i.path }

module _ (l : Layout) (n s : ℕ) (past : List Entry) (e : Entry) (h : is_legal l (e ∷ past) ≡ true) (f : AllFill l n s (e ∷ past)) where
  no-arrival : (q : Ui) → is_on (Some q) e ≡ true → (r : Ui) (hop : ℕ) → e.act ≡ Act.Arrive r hop → ⊥
  no-arrival q t r hop is =
      let two = legal_parts l e past h in
      let may : is_coming e.place hop (fate (on r past)) ≡ true = subst (λ z. act_may l (views past e.place e.seat z) e.place e.seat z ≡ true) is two.0 in
      not-coming n e.place hop (fate (on r past)) (stays l n s past r two.1 f.1) may

  -- a port that another entry makes stays held
  pub held-stays : (q b : Ui) (z : ℕ) → ((r c : Ui) (m : ℕ) → e.act ≡ Act.Make r c m → r ≡ q → ⊥) → IsHeldBy b z (fate (on q past)) → IsHeldBy b z (fate (on q (e ∷ past)))
  held-stays q b z j i = go (is_on (Some q) e) refl
    where
      go : (t : Bool) → is_on (Some q) e ≡ t → IsHeldBy b z (fate (cond t (e ∷ on q past) (on q past)))
      go true t =
          held-after l n s past e.place e.seat e.act b z (fate (on q past)) f.0 (no-arrival q t)
          (λ r c m is. j r c m is (let named : Some r ≡ Some q = ap held_port_of (sym is) ∙ on_is q (held_port_of e.act) t in cc)) i
      go false t = i

-- The ports of the sites 1 to k are made, and on the other sites none is.
pub record AreMade (l : Layout) (n k : ℕ) (past : List Entry) : Type 0 where
  pub fills : AllFill l n 0 past
  pub held : (s : ℕ) → 1 ≤ s → s ≤ k → IsHeldBy (actor_on s) (place_on l s) (fate (on (port_on s) past))
  pub unmade : (s : ℕ) → k < s → ports_made (at (place_on l s) past) ≡ 0

held-made : (a : Ui) (p : ℕ) (o : Option PortState) → IsHeldBy a p o → is_made o ≡ true
held-made a p o i = ap is_made i.is

-- no port is made by the entry
makes-none : (a : Act) (m : ℕ) → ((q c : Ui) (n : ℕ) → a ≡ Act.Make q c n → ⊥) → ports_after a m ≡ m
makes-none (Act.Make q c n) m j = absurd (j q c n refl)
makes-none _ m j = refl

ports-same : (past : List Entry) (e : Entry) (p : ℕ) → ((q c : Ui) (n : ℕ) → e.act ≡ Act.Make q c n → ⊥) → ports_made (at p (e ∷ past)) ≡ ports_made (at p past)
ports-same past e p j = go (is_at p e)
  where
    go : (b : Bool) → ports_made (cond b (e ∷ at p past) (at p past)) ≡ ports_made (at p past)
    go true = makes-none e.act (ports_made (at p past)) j
    go false = refl

module _ (l : Layout) (n k : ℕ) (past : List Entry) (e : Entry) (h : is_legal l (e ∷ past) ≡ true) (i : AreMade l n k past) where
  made-stays-so : (is_command_entry e.act ≡ true → Fills l n 0 past e.seat e.act) → ((q c : Ui) (m : ℕ) → e.act ≡ Act.Make q c m → ⊥) → AreMade l n k (e ∷ past)
  made-stays-so f j = record {
    fills = (f, i.fills);
    held = λ s low high. held-stays l n 0 past e h (f, i.fills) (port_on s) (actor_on s) (place_on l s) (λ r c m is same. j r c m is) (i.held s low high);
    unmade = λ s lt. ports-same past e (place_on l s) j ∙ i.unmade s lt;
  }

  -- an entry that answers no command
  made-beside : is_command_entry e.act ≡ false → AreMade l n k (e ∷ past)
  made-beside off =
      made-stays-so (λ own. absurd (false≢true (sym off ∙ own)))
      (λ q c m is. absurd (false≢true (sym off ∙ ap is_command_entry is)))

-- the first port of the next site is made
module _ (l : Layout) (shape : IsLayout l) (n k : ℕ) (high : suc k ≤ l.sites) (a : Ui) (past : List Entry) (e : Entry) (h : is_legal l (e ∷ past) ≡ true) (i : AreMade l n k past) where
  abbrev s : ℕ
  s = suc k

  low : 1 ≤ s
  low = omega arith

  record IsMaking : Type 0 where
    act : e.act ≡ Act.Make (port_on s) (actor_on s) n
    place : e.place ≡ place_on l s

  may : (b : Act) → e.act ≡ b → act_may l (views past e.place e.seat b) e.place e.seat b ≡ true
  may b is = subst (λ z. act_may l (views past e.place e.seat z) e.place e.seat z ≡ true) is (legal_parts l e past h).0

  none-yet : e.place ≡ place_on l s → ports_made (at e.place past) ≡ 0
  none-yet place = ap (λ p. ports_made (at p past)) place ∙ i.unmade s (omega arith)

  first-number : (q : Ui) (p : ℕ) → p ≡ place_on l s → ports_made (at p past) ≡ 0 → q.number ≡ next_number l p (at p past) → q.number ≡ 1
  first-number q p place none is =
      let t = l.turns in
      let flat : p - 1 ≡ (s - 1) * t + 0 = (let led = place ∙ lead l s in omega (arith, led)) in
      let left : (p - 1) % t ≡ 0 = ap (λ z. z % t) flat ∙ mod-mul-add (s - 1) t 0 shape.turns_from_one in
      let nothing : ports_made (at p past) * t ≡ 0 = ap (λ z. z * t) none ∙ zero-mul t in
      omega (arith, is, left, nothing)

  named : (q b : Ui) (m : ℕ) → e.act ≡ Act.Make q b m → e.place ≡ place_on l s → b ≡ actor_on s → q ≡ port_on s
  named q b m is place who =
      let here = at e.place past in
      let five = and_parts (is_home l b e.place && nat_le 1 m && nat_le m 64 && not (is_full_of_ports l here) && (q.site == b.site)) (q.number == next_number l e.place here) (may (Act.Make q b m) is) in
      let four = and_parts (is_home l b e.place && nat_le 1 m && nat_le m 64 && not (is_full_of_ports l here)) (q.site == b.site) five.0 in
      let site : q.site ≡ s = eqb-true q.site b.site four.1 ∙ ap (λ (z : Ui). z.site) who in
      let number : q.number ≡ 1 = first-number q e.place place (none-yet place) (eqb-true q.number (next_number l e.place here) five.1) in
      let kinds-are : has_kinds (Act.Make q b m) ≡ true = ap has_kinds (sym is) ∙ (legal-kinds l e past h).0 in
      let kind : q.kind ≡ kinds.Port = from_same_kind q.kind kinds.Port (and_parts (is_port q) (is_actor b) kinds-are).0 in
      λ j. record { site = site j; kind = kind j; number = number j }

  making : (b : Act) → e.act ≡ b → make_answers (actor_on s) n b ≡ true → e.place ≡ place_on l s → IsMaking
  making (Act.Make q b m) is t place =
      let two = and_parts (same_ui b (actor_on s)) (m == n) t in
      let who = from_same_ui b (actor_on s) two.0 in
      let room = eqb-true m n two.1 in
      let port = named q b m is place who in
      record { act = is ∙ (λ j. Act.Make (port j) (who j) (room j)); place = place }
  making (Act.MakeFull b) is t place =
      let two = and_parts (is_home l b e.place) (is_full_of_ports l (at e.place past)) (may (Act.MakeFull b) is) in
      absurd (not-many l.turns shape.turns_from_one shape.turns_to_four (ap (λ m. nat_le (32 / l.turns) m) (sym (none-yet place)) ∙ two.1))
  making (Act.NoActor b) is t place =
      let who = from_same_ui b (actor_on s) t in
      absurd (false≢true (sym (ap not (ap (has_actor l) who ∙ actor-there l s low high)) ∙ may (Act.NoActor b) is))
  making _ is t place = absurd (false≢true t)

  made-next : IsMaking → AreMade l n s (e ∷ past)
  made-next m = record {
    fills = all;
    held = λ r one most. dite (ℕ_discrete r s)
        (λ same. subst (λ z. IsHeldBy (actor_on z) (place_on l z) (fate (on (port_on z) (e ∷ past)))) (sym same) now)
        (λ apart. held-stays l n 0 past e h all (port_on r) (actor_on r) (place_on l r)
        (λ q c k2 is same. let made : Act.Make (port_on s) (actor_on s) n ≡ Act.Make q c k2 = sym m.act ∙ is in
        let port : port_on s ≡ q = cc in
        apart (sym (ap (λ (z : Ui). z.site) (port ∙ same))))
        (i.held r one (omega (arith, apart, most))));
    unmade = λ r lt.
        let away : is_at (place_on l r) e ≡ false = elsewhere (is_at (place_on l r) e) r lt refl in
        ap ports_made (skips (is_at (place_on l r)) e past away) ∙ i.unmade r (omega (arith, lt));
  }
    where
      all : AllFill l n 0 (e ∷ past)
      all = ((λ own. subst (Fills l n 0 past e.seat) (sym m.act) refl), i.fills)

      now : IsHeldBy (actor_on s) (place_on l s) (fate (on (port_on s) (e ∷ past)))
      now =
          let onto : is_on (Some (port_on s)) e ≡ true = ap (λ z. is_on (Some (port_on s)) (entry e.clock e.place e.seat z)) m.act ∙ same_ui-self (port_on s) in
          record {
            state = new_port e.place (actor_on s) n;
            is = ap fate (keeps (is_on (Some (port_on s))) e past onto) ∙ ap (λ z. fate_after e.place z (fate (on (port_on s) past))) m.act;
            spot = refl;
            path = ap (λ z. z ∷ []) m.place;
          }

      elsewhere : (b : Bool) (r : ℕ) → s < r → (e.place == place_on l r) ≡ b → b ≡ false
      elsewhere false r lt t = refl
      elsewhere true r lt t = absurd (places-apart l s r shape low lt (sym m.place ∙ eqb-true e.place (place_on l r) t))

-- Seat 0 has made them.

not-own : (e : Entry) → e.seat ≡ 0 → is_command_entry e.act ≡ false → is_own_of 0 e ≡ false
not-own e seat off = ap (λ z. (e.seat == z) && is_command_entry e.act) (sym seat) ∙ (own-is e ∙ off)

posted-none : (q : Ui) (a : Act) → is_command_entry a ≡ false → posted_to q a ≡ []
posted-none q (Act.Post m d) off = absurd (false≢true (sym off))
posted-none q _ off = refl

record IsMake (n k : ℕ) (c : Command) (rest : List Command) : Type 0 where
  less : ℕ
  is : k ≡ suc less
  command : c ≡ Command.Make (actor_on (suc less)) n
  older : rest ≡ makes_down n less

make-is : (n k : ℕ) (c : Command) (rest : List Command) → makes_down n k ≡ c ∷ rest → IsMake n k c rest
make-is n zero c rest e = absurd (cc)
make-is n (suc k) c rest e = record { less = k; is = refl; command = cc; older = cc }

pub all-made : (l : Layout) (n k : ℕ) (a : Ui) (past : List Entry) → IsLayout l → k ≤ l.sites → is_legal l past ≡ true → AllFirst past → performs l 0 a past (makes_down n k) ≡ true → AreMade l n k past × ((q : Ui) → messages_to q past ≡ [])
all-made l n zero a [] shape high h f p = (record { fills = tt; held = λ s one most. absurd (omega (arith, one, most)); unmade = λ s lt. refl }, λ q. refl)
all-made l n (suc k) a [] shape high h f p = absurd (false≢true p)
all-made l n k a (e ∷ past) shape high h f p =
    go (is_command_entry e.act) refl (λ less fit older. all-made l n less a past shape fit (legal_parts l e past h).1 f.1 older)
  where
    go : (b : Bool) → is_command_entry e.act ≡ b → ((less : ℕ) → less ≤ l.sites → performs l 0 a past (makes_down n less) ≡ true → AreMade l n less past × ((q : Ui) → messages_to q past ≡ []))
        → AreMade l n k (e ∷ past) × ((q : Ui) → messages_to q (e ∷ past) ≡ [])
    go false t ih =
        let was = ih k high (unanswered l 0 a past e (makes_down n k) (not-own e f.0 t) p) in
        (made-beside l n k past e h was.0 t, λ q. ap₂ (λ xs ys. xs ++ ys) (was.1 q) (posted-none q e.act t))
    go true t ih =
        let d = answered l a past e (makes_down n k) t (ap (λ z. performs l z a (e ∷ past) (makes_down n k)) f.0 ∙ p) in
        let m = make-is n k d.command d.rest d.is in
        let fit : suc m.less ≤ l.sites = subst (λ z. z ≤ l.sites) m.is high in
        let older : performs l 0 a past (makes_down n m.less) ≡ true = (λ i. performs l (sym f.0 i) a past (sym m.older i)) ∙ d.older in
        let was = ih m.less (omega (arith, fit)) older in
        let answer : answers l past a (Command.Make (actor_on (suc m.less)) n) e ≡ true = ap (λ z. answers l past a z e) (sym m.command) ∙ d.answer in
        let two = and_parts (e.place == place_for l a (Command.Make (actor_on (suc m.less)) n)) (make_answers (actor_on (suc m.less)) n e.act) answer in
        let place : e.place ≡ place_on l (suc m.less) = eqb-true e.place (place_for l a (Command.Make (actor_on (suc m.less)) n)) two.0 ∙ make-place l a (suc m.less) n (omega arith) fit in
        let making-it = making l shape n m.less fit a past e h was.0 e.act refl two.1 place in
        let next = made-next l shape n m.less fit a past e h was.0 making-it in
        (subst (λ z. AreMade l n z (e ∷ past)) (sym m.is) next, λ q. ap₂ (λ xs ys. xs ++ ys) (was.1 q) (ap (posted_to q) making-it.act))

-- And it sends.

pub record AreSent (l : Layout) (n k : ℕ) (later : List Sending) (past : List Entry) : Type 0 where
  pub made : AreMade l n k past
  pub bodies : (s : ℕ) → map (λ (m : Message). m.body) (messages_to (port_on s) past) ≡ bodies_to s later

record IsPost (q : Ui) (body : List ℕ) (a : Act) : Type 0 where
  message : Message
  is : a ≡ Act.Post message (Dest.Port q)
  tag : message.tag ≡ Tag.Plain
  same : message.body ≡ body

plain-is : (t : Tag) → is_plain t ≡ true → t ≡ Tag.Plain
plain-is Tag.Plain h = refl
plain-is (Tag.Request n back) h = absurd (false≢true h)
plain-is (Tag.Reply c n) h = absurd (false≢true h)

post-is : (q : Ui) (body : List ℕ) (a : Act) → send_answers (Dest.Port q) body a ≡ true → IsPost q body a
post-is q body (Act.Post m (Dest.Port r)) h =
    let two = and_parts (is_plain m.tag && same_ui r q) (same_body m.body body) h in
    let one = and_parts (is_plain m.tag) (same_ui r q) two.0 in
    record { message = m; is = ap (λ z. Act.Post m (Dest.Port z)) (from_same_ui r q one.1); tag = plain-is m.tag one.0; same = from_same_body m.body body two.1 }
post-is q body (Act.Post m (Dest.All g)) h =
    absurd (false≢true (and_parts (is_plain m.tag) false (and_parts (is_plain m.tag && false) (same_body m.body body) h).0).1)
post-is q body (Act.Post m (Dest.One g)) h =
    absurd (false≢true (and_parts (is_plain m.tag) false (and_parts (is_plain m.tag && false) (same_body m.body body) h).0).1)
post-is q body (Act.Post m (Dest.OneAt g t)) h =
    absurd (false≢true (and_parts (is_plain m.tag) false (and_parts (is_plain m.tag && false) (same_body m.body body) h).0).1)
post-is q body _ h = absurd (false≢true h)

same-site : (a b : ℕ) → same_ui (port_on a) (port_on b) ≡ (a == b)
same-site a b = both (a == b)
  where
    both : (c : Bool) → (c && true && true) ≡ c
    both true = refl
    both false = refl

module _ (l : Layout) (n k : ℕ) (high : k ≤ l.sites) (x : Sending) (low : 1 ≤ x.site) (most : x.site ≤ k) (later : List Sending) (past : List Entry) (e : Entry) (h : is_legal l (e ∷ past) ≡ true) (seat : e.seat ≡ 0) (i : AreSent l n k later past) (p : IsPost (port_on x.site) x.body e.act) where
  sent-next : AreSent l n k (x ∷ later) (e ∷ past)
  sent-next = record {
    made = made-stays-so l n k past e h i.made
        (λ own. subst (Fills l n 0 past e.seat) (sym p.is)
        (p.tag, seat, held-made (actor_on x.site) (place_on l x.site) (fate (on (port_on x.site) past)) (i.made.held x.site low most), site-there l x.site low (omega (arith, high, most))))
        (λ q c m is. let bad : Act.Post p.message (Dest.Port (port_on x.site)) ≡ Act.Make q c m = sym p.is ∙ is in cc);
    bodies = λ s.
        map-append (λ (m : Message). m.body) (messages_to (port_on s) past) (posted_to (port_on s) e.act)
        ∙ ap₂ (λ xs ys. xs ++ ys) (i.bodies s) (here s);
  }
    where
      one : (b : Bool) → map (λ (m : Message). m.body) (cond b (p.message ∷ []) []) ≡ cond b (x.body ∷ []) []
      one true = ap (λ z. z ∷ []) p.same
      one false = refl

      here : (s : ℕ) → map (λ (m : Message). m.body) (posted_to (port_on s) e.act) ≡ cond (x.site == s) (x.body ∷ []) []
      here s =
          ap (λ a. map (λ (m : Message). m.body) (posted_to (port_on s) a)) p.is
          ∙ ap (λ b. map (λ (m : Message). m.body) (cond b (p.message ∷ []) [])) (same-site x.site s) ∙ one (x.site == s)

pub all-sent-so : (l : Layout) (n k : ℕ) (a : Ui) (later : List Sending) (past : List Entry) → IsLayout l → k ≤ l.sites → AreWithin k later → is_legal l past ≡ true → AllFirst past → performs l 0 a past (script n k later) ≡ true → AreSent l n k later past
all-sent-so l n k a [] past shape high w h f p =
    let both = all-made l n k a past shape high h f p in
    record { made = both.0; bodies = λ s. ap (λ ms. map (λ (m : Message). m.body) ms) (both.1 (port_on s)) }
all-sent-so l n k a (x ∷ later) [] shape high w h f p = absurd (false≢true p)
all-sent-so l n k a (x ∷ later) (e ∷ past) shape high w h f p =
    go (is_command_entry e.act) refl
    (λ q. all-sent-so l n k a (x ∷ later) past shape high w (legal_parts l e past h).1 f.1 q)
    (λ q. all-sent-so l n k a later past shape high w.2 (legal_parts l e past h).1 f.1 q)
  where
    go : (b : Bool) → is_command_entry e.act ≡ b → (performs l 0 a past (script n k (x ∷ later)) ≡ true → AreSent l n k (x ∷ later) past) → (performs l 0 a past (script n k later) ≡ true → AreSent l n k later past) → AreSent l n k (x ∷ later) (e ∷ past)
    go false t same less =
        let was = same (unanswered l 0 a past e (script n k (x ∷ later)) (not-own e f.0 t) p) in
        record {
          made = made-beside l n k past e h was.made t;
          bodies = λ s. ap (λ ys. map (λ (m : Message). m.body) (messages_to (port_on s) past ++ ys)) (posted-none (port_on s) e.act t)
              ∙ ap (λ ys. map (λ (m : Message). m.body) ys) (append-nil (messages_to (port_on s) past)) ∙ was.bodies s;
        }
    go true t same less =
        let d = answered l a past e (script n k (x ∷ later)) t (ap (λ z. performs l z a (e ∷ past) (script n k (x ∷ later))) f.0 ∙ p) in
        let command : d.command ≡ send_of x = (let is = d.is in cc) in
        let rest : d.rest ≡ script n k later = (let is = d.is in cc) in
        let was = less ((λ i. performs l (sym f.0 i) a past (sym rest i)) ∙ d.older) in
        let answer : answers l past a (send_of x) e ≡ true = ap (λ z. answers l past a z e) (sym command) ∙ d.answer in
        sent-next l n k high x w.0 w.1 later past e h f.0 was
        (post-is (port_on x.site) x.body e.act (and_parts (e.place == place_for l a (send_of x)) (send_answers (Dest.Port (port_on x.site)) x.body e.act) answer).1)
