-- What is read of a legal list says of a port what the whole list says, but for the actor that holds it.
use Rattle.std.proofs.Common.{ℕ, zero, suc, ◌≡◌, ◌==◌, ◌+◌, ◌-◌, Bool, true, false, ◌&&◌, cond, List, [], ◌∷◌, ◌++◌, length, Option, Some, None, refl, sym, ◌∙◌, ap, subst}
use Rattle.std.proofs.lemmas.Bool.{and_parts, false≢true}
use Rattle.chorus_ui.specs.declared.ui.Ui.{Ui}
use Rattle.chorus_ui.specs.declared.layout.Layout.{Layout}
use Rattle.chorus_entry.specs.declared.entry.Entry.{Entry}
use Rattle.chorus_entry.specs.declared.id.MsgId.{MsgId}
use Rattle.chorus_entry.specs.declared.act.Act.{Act}
use Rattle.chorus_entry.specs.declared.act.Act.TheVariants.{Make, Accept, Take, Rehome, Depart, Arrive, Delete}
use Rattle.chorus_entry.specs.Act.{held_port_of}
use Rattle.chorus_world.specs.declared.spot.Spot.{Spot}
use Rattle.chorus_world.specs.declared.spot.Spot.TheVariants.{Held, Moving, Ended}
use Rattle.chorus_world.specs.Ports.{PortState, are_waiting, arrived, changed, fate, fate_after, is_coming, is_held, is_held_at, is_last, is_made, is_moving, is_ended, is_full, is_next_hop, last_of}
use Rattle.chorus_ui.specs.Layout.{has_actor, site_of}
use Rattle.chorus_world.specs.Steps.{act_may, is_legal}
use Rattle.chorus_world.specs.Views.{is_on, on, views}
use Rattle.chorus_world.proofs.Steps.LegalLemmas.{legal_parts, on_is, under}
use Rattle.judge_promises.specs.Terms.{departed, is_coming_to, is_deleted, is_read, port_of, read, waits_first}
use Rattle.judge_promises.proofs.Reading.{read-none}
use Rattle.judge_rules.specs.Terms.{accepted_so_far, has_space, taken_so_far}

-- a port without the actor that holds it, or that it goes to: 0 where it is held, 1 where it moves, 2 where it was deleted
pub record Bare : Type 0 where
  pub capacity : ℕ
  pub accepted : List MsgId
  pub taken : ℕ
  pub path : List ℕ
  pub spot : ℕ

abbrev pub spot-of : Spot → ℕ
spot-of (Held a) = 0
spot-of (Moving a) = 1
spot-of Ended = 2

abbrev pub bare-state : PortState → Bare
bare-state f = record { capacity = f.capacity; accepted = f.accepted; taken = f.taken; path = f.path; spot = spot-of f.spot }

abbrev pub bare : Option PortState → Option Bare
bare None = None
bare (Some f) = Some (bare-state f)

abbrev pub arrived-of : ℕ → ℕ
arrived-of (suc zero) = 0
arrived-of n = n

arrived-spot : (s : Spot) → spot-of (arrived s) ≡ arrived-of (spot-of s)
arrived-spot (Held a) = refl
arrived-spot (Moving a) = refl
arrived-spot Ended = refl

abbrev pub bare-changed : Act → Bare → Bare
bare-changed (Accept x q n) b = record b { accepted = b.accepted ++ x ∷ [] }
bare-changed (Take q n x) b = record b { taken = b.taken + 1 }
bare-changed (Rehome q a) b = record b { spot = 0 }
bare-changed (Depart q to a hop) b = record b { path = b.path ++ to ∷ []; spot = 1 }
bare-changed (Arrive q hop) b = record b { spot = arrived-of b.spot }
bare-changed (Delete q xs) b = record b { spot = 2 }
bare-changed _ b = b

abbrev pub bare-after : ℕ → Act → Option Bare → Option Bare
bare-after p (Make q a c) o = Some (record { capacity = c; accepted = []; taken = 0; path = p ∷ []; spot = 0 })
bare-after p act None = None
bare-after p act (Some b) = Some (bare-changed act b)

changed-is : (a : Act) (f : PortState) → bare-state (changed a f) ≡ bare-changed a (bare-state f)
changed-is (Accept x q n) f = refl
changed-is (Take q n x) f = refl
changed-is (Rehome q a) f = refl
changed-is (Depart q to a hop) f = refl
changed-is (Arrive q hop) f = ap (λ s. record (bare-state f) { spot = s }) (arrived-spot f.spot)
changed-is (Delete q xs) f = refl
changed-is _ f = refl

after-is : (p : ℕ) (a : Act) (o : Option PortState) → bare (fate_after p a o) ≡ bare-after p a (bare o)
after-is p (Make q b c) o = refl
after-is p a None = none a
  where
    none : (a : Act) → bare (fate_after p a None) ≡ bare-after p a None
    none (Make q b c) = refl
    none _ = refl
after-is p a (Some f) = some a
  where
    some : (a : Act) → bare (fate_after p a (Some f)) ≡ bare-after p a (Some (bare-state f))
    some (Make q b c) = refl
    some (Arrive q hop) = ap (λ b. Some b) (changed-is (Arrive q hop) f)
    some _ = refl

abbrev pub step : Ui → Entry → Option Bare → Option Bare
step q e o = cond (is_on (Some q) e) (bare-after e.place e.act o) o

abbrev pub seen : Ui → List Entry → Option Bare
seen q past = bare (port_of past q)

seen-grows : (q : Ui) (e : Entry) (past : List Entry) → seen q (e ∷ past) ≡ step q e (seen q past)
seen-grows q e past = under (λ es. bare (fate es)) (is_on (Some q) e) (e ∷ on q past) (on q past) ∙ ap (λ o. cond (is_on (Some q) e) o (seen q past)) (after-is e.place e.act (fate (on q past)))

-- what is not read changes nothing but the actor
still-held : (p : ℕ) (q : Ui) (b : Ui) (o : Option PortState) → is_held_at p o ≡ true → bare-after p (Rehome q b) (bare o) ≡ bare o
still-held p q b None h = refl
still-held p q b (Some f) h = spot f.spot refl (and_parts (is_held f.spot) (is_last p f) h).0
  where
    spot : (s : Spot) → f.spot ≡ s → is_held f.spot ≡ true → Some (bare-changed (Rehome q b) (bare-state f)) ≡ Some (bare-state f)
    spot (Held a) is held = ap (λ s. Some (record (bare-state f) { spot = spot-of s })) (sym is)
    spot (Moving a) is held = absurd (false≢true (ap is_held (sym is) ∙ held))
    spot Ended is held = absurd (false≢true (ap is_held (sym is) ∙ held))

abbrev pub is-rehome : Act → Bool
is-rehome (Rehome q a) = true
is-rehome _ = false

idle : (p : ℕ) (a : Act) (o : Option Bare) → is_read a ≡ false → is-rehome a ≡ false → bare-after p a o ≡ o
idle p (Make q c n) o h k = read-none h
idle p (Accept x q n) o h k = read-none h
idle p (Take q n x) o h k = read-none h
idle p (Rehome q c) o h k = read-none k
idle p (Depart q to c hop) o h k = read-none h
idle p (Arrive q hop) o h k = read-none h
idle p (Delete q xs) o h k = read-none h
idle p _ None h k = refl
idle p _ (Some b) h k = refl

unchanged : (l : Layout) (past : List Entry) (p s : ℕ) (a : Act) (q : Ui) → is_read a ≡ false → act_may l (views past p s a) p s a ≡ true → held_port_of a ≡ Some q → bare-after p a (seen q past) ≡ seen q past
unchanged l past p s (Rehome r c) q h may here =
    let same : r ≡ q = cc in
    let v = views past p s (Rehome r c) in
    let two = and_parts (is_held_at p (fate v.port) && has_actor l c) (c.site == site_of l p) may in
    let held = (and_parts (is_held_at p (fate v.port)) (has_actor l c) two.0).0 in
    still-held p r c (fate (on q past)) (subst (λ z. is_held_at p (fate (on z past)) ≡ true) same held)
unchanged l past p s a q h may here = idle p a (seen q past) h refl

pub seen-read : (l : Layout) (past : List Entry) (q : Ui) → is_legal l past ≡ true → seen q (read past) ≡ seen q past
seen-read l [] q h = refl
seen-read l (e ∷ past) q h = go (is_read e.act) refl (seen-read l past q two.1)
  where
    two : (act_may l (views past e.place e.seat e.act) e.place e.seat e.act ≡ true) × (is_legal l past ≡ true)
    two = legal_parts l e past h

    still : (b : Bool) → is_on (Some q) e ≡ b → is_read e.act ≡ false → cond b (bare-after e.place e.act (seen q past)) (seen q past) ≡ seen q past
    still true t r = unchanged l past e.place e.seat e.act q r two.0 (on_is q (held_port_of e.act) t)
    still false t r = refl

    go : (b : Bool) → is_read e.act ≡ b → seen q (read past) ≡ seen q past → seen q (cond b (e ∷ read past) (read past)) ≡ seen q (e ∷ past)
    go true r old = seen-grows q e (read past) ∙ (ap (step q e) old ∙ sym (seen-grows q e past))
    go false r old = old ∙ (sym (still (is_on (Some q) e) refl r) ∙ sym (seen-grows q e past))

-- What is asked of a port, by what is seen of it.

asks : {A : Type 0} (l : Layout) (past : List Entry) (q : Ui) (test : Option PortState → A) (of : Option Bare → A) → is_legal l past ≡ true → ((o : Option PortState) → test o ≡ of (bare o)) → test (port_of (read past) q) ≡ test (fate (on q past))
asks l past q test of h is = is (port_of (read past) q) ∙ (ap of (seen-read l past q h) ∙ sym (is (fate (on q past))))

spot-held : (s : Spot) → is_held s ≡ (spot-of s == 0)
spot-held (Held a) = refl
spot-held (Moving a) = refl
spot-held Ended = refl

spot-moving : (s : Spot) → is_moving s ≡ (spot-of s == 1)
spot-moving (Held a) = refl
spot-moving (Moving a) = refl
spot-moving Ended = refl

spot-ended : (s : Spot) → is_ended s ≡ (spot-of s == 2)
spot-ended (Held a) = refl
spot-ended (Moving a) = refl
spot-ended Ended = refl

abbrev pub held-by : ℕ → Option Bare → Bool
held-by p None = false
held-by p (Some b) = (b.spot == 0) && (last_of 0 b.path == p)

held-is : (p : ℕ) (o : Option PortState) → is_held_at p o ≡ held-by p (bare o)
held-is p None = refl
held-is p (Some f) = ap (λ b. b && is_last p f) (spot-held f.spot)

abbrev pub coming-by : ℕ → ℕ → Option Bare → Bool
coming-by p hop None = false
coming-by p hop (Some b) = (b.spot == 1) && (last_of 0 b.path == p) && (hop == length b.path - 1)

coming-is : (p hop : ℕ) (o : Option PortState) → is_coming p hop o ≡ coming-by p hop (bare o)
coming-is p hop None = refl
coming-is p hop (Some f) = ap (λ b. b && is_last p f && (hop == length f.path - 1)) (spot-moving f.spot)

abbrev pub coming-to-by : ℕ → Option Bare → Bool
coming-to-by p None = false
coming-to-by p (Some b) = (b.spot == 1) && (last_of 0 b.path == p)

coming-to-is : (p : ℕ) (o : Option PortState) → is_coming_to p o ≡ coming-to-by p (bare o)
coming-to-is p None = refl
coming-to-is p (Some f) = ap (λ b. b && is_last p f) (spot-moving f.spot)

abbrev pub deleted-by : Option Bare → Bool
deleted-by None = false
deleted-by (Some b) = b.spot == 2

deleted-is : (o : Option PortState) → is_deleted o ≡ deleted-by (bare o)
deleted-is None = refl
deleted-is (Some f) = spot-ended f.spot

-- the others ask nothing of the spot
abbrev pub plain-state : Bare → PortState
plain-state b = record { capacity = b.capacity; accepted = b.accepted; taken = b.taken; path = b.path; spot = Ended }

abbrev pub plain : Option Bare → Option PortState
plain None = None
plain (Some b) = Some (plain-state b)

module _ (l : Layout) (past : List Entry) (q : Ui) (h : is_legal l past ≡ true) where
  pub held-read : (p : ℕ) → is_held_at p (port_of (read past) q) ≡ is_held_at p (fate (on q past))
  held-read p = asks l past q (is_held_at p) (held-by p) h (held-is p)

  pub coming-read : (p hop : ℕ) → is_coming p hop (port_of (read past) q) ≡ is_coming p hop (fate (on q past))
  coming-read p hop = asks l past q (is_coming p hop) (coming-by p hop) h (coming-is p hop)

  pub coming-to-read : (p : ℕ) → is_coming_to p (port_of (read past) q) ≡ is_coming_to p (fate (on q past))
  coming-to-read p = asks l past q (is_coming_to p) (coming-to-by p) h (coming-to-is p)

  pub deleted-read : is_deleted (port_of (read past) q) ≡ is_deleted (fate (on q past))
  deleted-read = asks l past q is_deleted deleted-by h deleted-is

  -- whatever asks nothing of the spot
  pub plain-read : {A : Type 0} (test : Option PortState → A) → ((o : Option PortState) → test o ≡ test (plain (bare o))) → test (port_of (read past) q) ≡ test (fate (on q past))
  plain-read test is = asks l past q test (λ o. test (plain o)) h is

  pub made-read : is_made (port_of (read past) q) ≡ is_made (fate (on q past))
  made-read = plain-read is_made by
    where
      by : (o : Option PortState) → is_made o ≡ is_made (plain (bare o))
      by None = refl
      by (Some f) = refl

  pub space-read : has_space (port_of (read past) q) ≡ has_space (fate (on q past))
  space-read = plain-read has_space by
    where
      by : (o : Option PortState) → has_space o ≡ has_space (plain (bare o))
      by None = refl
      by (Some f) = refl

  pub so-far-read : (n : ℕ) → accepted_so_far n (port_of (read past) q) ≡ accepted_so_far n (fate (on q past))
  so-far-read n = plain-read (accepted_so_far n) by
    where
      by : (o : Option PortState) → accepted_so_far n o ≡ accepted_so_far n (plain (bare o))
      by None = refl
      by (Some f) = refl

  pub full-read : (n : ℕ) → is_full n (port_of (read past) q) ≡ is_full n (fate (on q past))
  full-read n = plain-read (is_full n) by
    where
      by : (o : Option PortState) → is_full n o ≡ is_full n (plain (bare o))
      by None = refl
      by (Some f) = refl

  pub taken-read : (n : ℕ) → taken_so_far n (port_of (read past) q) ≡ taken_so_far n (fate (on q past))
  taken-read n = plain-read (taken_so_far n) by
    where
      by : (o : Option PortState) → taken_so_far n o ≡ taken_so_far n (plain (bare o))
      by None = refl
      by (Some f) = refl

  pub first-read : (x : MsgId) → waits_first x (port_of (read past) q) ≡ waits_first x (fate (on q past))
  first-read x = plain-read (waits_first x) by
    where
      by : (o : Option PortState) → waits_first x o ≡ waits_first x (plain (bare o))
      by None = refl
      by (Some f) = refl

  pub next-hop-read : (hop : ℕ) → is_next_hop hop (port_of (read past) q) ≡ is_next_hop hop (fate (on q past))
  next-hop-read hop = plain-read (is_next_hop hop) by
    where
      by : (o : Option PortState) → is_next_hop hop o ≡ is_next_hop hop (plain (bare o))
      by None = refl
      by (Some f) = refl

  pub departed-read : (n : ℕ) → departed n (port_of (read past) q) ≡ departed n (fate (on q past))
  departed-read n = plain-read (departed n) by
    where
      by : (o : Option PortState) → departed n o ≡ departed n (plain (bare o))
      by None = refl
      by (Some f) = refl

  pub waiting-read : (xs : List MsgId) → are_waiting xs (port_of (read past) q) ≡ are_waiting xs (fate (on q past))
  waiting-read xs = plain-read (are_waiting xs) by
    where
      by : (o : Option PortState) → are_waiting xs o ≡ are_waiting xs (plain (bare o))
      by None = refl
      by (Some f) = refl
