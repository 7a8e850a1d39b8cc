-- What a place has sent, tried and settled: how one entry more changes it, and which messages stand before one.
use Rattle.std.proofs.Common.{ℕ, ◌≡◌, Bool, true, false, ◌&&◌, ◌||◌, ◌⊎◌, not, cond, List, [], ◌∷◌, ◌++◌, Option, Some, None, eqb, refl, sym, ◌∙◌, ap, subst, arith, inl, inr}
use Rattle.std.specs.Option.{option_or}
use Rattle.std.proofs.lemmas.Bool.{and_parts, eqb-true, eq-eqb, false≢true, or_left, or_right, not-true}
use Rattle.chorus_ui.specs.declared.ui.Ui.{Ui}
use Rattle.chorus_ui.specs.Name.{same_ui}
use Rattle.chorus_ui.proofs.Names.{from_same_ui}
use Rattle.chorus_entry.specs.declared.entry.Entry.{Entry}
use Rattle.chorus_entry.specs.declared.id.MsgId.{MsgId}
use Rattle.chorus_entry.specs.declared.act.Act.{Act}
use Rattle.chorus_entry.specs.declared.act.Act.TheVariants.{Try, Told}
use Rattle.chorus_entry.specs.Act.{message_of}
use Rattle.chorus_entry.specs.MsgId.{same_id}
use Rattle.chorus_entry.proofs.Same.{same_id-self}
use Rattle.chorus_world.specs.declared.place.Sent.{Sent}
use Rattle.chorus_world.specs.Views.{at}
use Rattle.chorus_entry.specs.Same.{are_same, same_route}
use Rattle.chorus_entry.specs.Order.{is_at}
use Rattle.chorus_world.specs.Places.{sent, sent_by, find_sent, settles, is_settling, is_settled, unsettled, first_for, tried_after, is_tried, is_first, is_first_as}
use Rattle.chorus_world.proofs.Messages.SentLemmas.{find_sent_append}
use Rattle.chorus_world.proofs.Steps.LegalLemmas.{keeps, under, cond_same}
use Rattle.chorus_world.proofs.Ports.LineLemmas.{none_some, id_is}

eqb_sym : (a b : ℕ) → eqb a b ≡ eqb b a
eqb_sym a b = grind (arith, eqb-true, eq-eqb)

pub same_id_sym : (x y : MsgId) → same_id x y ≡ same_id y x
same_id_sym x y = grind (arith, eqb_sym)

pub and_false : (b : Bool) → b && false ≡ false
and_false true = refl
and_false false = refl

-- the message x as it was sent from the place p
abbrev pub sent_as : MsgId → ℕ → List Entry → Option Sent
sent_as x p past = find_sent x (sent (at p past))

-- the messages that stand before x in a list, or all where it is not there
abbrev pub prior : MsgId → List Sent → List Sent
prior x [] = []
prior x (m ∷ ms) = cond (same_id m.id x) [] (m ∷ prior x ms)

-- no unsettled message of the port and route stands before x
abbrev pub IsAhead : MsgId → ℕ → List Entry → Sent → Type 0
IsAhead x p past m = first_for m.port m.route (unsettled (at p past) (prior x (sent (at p past)))) ≡ None

pub or_some : {A : Type 0} (o m : Option A) (a : A) → o ≡ Some a → option_or o m ≡ Some a
or_some o m a h = ap (λ z. option_or z m) h

pub or_none : {A : Type 0} (o m : Option A) → m ≡ None → option_or o m ≡ o
or_none None m h = h
or_none (Some a) m h = refl

pub from_or : {A : Type 0} (o m : Option A) (a : A) → option_or o m ≡ Some a → (o ≡ Some a) ⊎ ((o ≡ None) × (m ≡ Some a))
from_or None m a h = inr (refl, h)
from_or (Some b) m a h = inl h

pub some_is : {A : Type 0} (a b : A) → Some a ≡ Some b → a ≡ b
some_is a b h = cc

pub prior_append : (x : MsgId) (ms ns : List Sent) (m : Sent) → find_sent x ms ≡ Some m → prior x (ms ++ ns) ≡ prior x ms
prior_append x [] ns m h = none_some m h
prior_append x (k ∷ ms) ns m h = prior_case (same_id k.id x) refl h (prior_append x ms ns m)
  where
    prior_case : (b : Bool) → same_id k.id x ≡ b → cond (same_id k.id x) (Some k) (find_sent x ms) ≡ Some m → (find_sent x ms ≡ Some m → prior x (ms ++ ns) ≡ prior x ms) → cond (same_id k.id x) [] (k ∷ prior x (ms ++ ns)) ≡ cond (same_id k.id x) [] (k ∷ prior x ms)
    prior_case true e h i =
        ap (λ b. cond b [] (k ∷ prior x (ms ++ ns))) e ∙ sym (ap (λ b. cond b [] (k ∷ prior x ms)) e)
    prior_case false e h i =
        ap (λ ks. cond (same_id k.id x) [] (k ∷ ks)) (i (ap (λ b. cond b (Some k) (find_sent x ms)) (sym e) ∙ h))

pub cond_none : {A : Type 0} (b : Bool) (x : A) (o : Option A) → cond b (Some x) o ≡ None → (b ≡ false) × (o ≡ None)
cond_none true x o h = cc
cond_none false x o h = (refl, h)

pub cond_some : {A : Type 0} (b : Bool) (x y : A) (o : Option A) → cond b (Some x) o ≡ Some y → ((b ≡ true) × (x ≡ y)) ⊎ ((b ≡ false) × (o ≡ Some y))
cond_some true x y o h = inl (refl, cc)
cond_some false x y o h = inr (refl, h)

-- where the settled messages stay settled, there still is no unsettled one
pub none_stays : (q : Ui) (r : Option Ui) (old new : List Entry) (ms : List Sent) → ((x : MsgId) → is_settled x old ≡ true → is_settled x new ≡ true) → first_for q r (unsettled old ms) ≡ None → first_for q r (unsettled new ms) ≡ None
none_stays q r old new [] k h = refl
none_stays q r old new (m ∷ ms) k h =
    stays_case (none_stays q r old new ms k) (is_settled m.id old) (is_settled m.id new) (k m.id) h
  where
    test : Bool
    test = same_ui m.port q && same_route m.route r

    stays_case : (first_for q r (unsettled old ms) ≡ None → first_for q r (unsettled new ms) ≡ None) → (a b : Bool) → (a ≡ true → b ≡ true) → first_for q r (cond (not a) (m ∷ unsettled old ms) (unsettled old ms)) ≡ None → first_for q r (cond (not b) (m ∷ unsettled new ms) (unsettled new ms)) ≡ None
    stays_case rest true true s h = rest h
    stays_case rest true false s h = absurd (false≢true (s refl))
    stays_case rest false true s h = rest (cond_none test m.id (first_for q r (unsettled old ms)) h).1
    stays_case rest false false s h =
        let two = cond_none test m.id (first_for q r (unsettled old ms)) h in
        ap (λ b. cond b (Some m.id) (first_for q r (unsettled new ms))) two.0 ∙ rest two.1

-- before the first unsettled message of a port and route no other stands
pub first_is_ahead : (q : Ui) (r : Option Ui) (here : List Entry) (x : MsgId) (ms : List Sent) → first_for q r (unsettled here ms) ≡ Some x → (is_settled x here ≡ false) × (first_for q r (unsettled here (prior x ms)) ≡ None)
first_is_ahead q r here x [] h = none_some x h
first_is_ahead q r here x (m ∷ ms) h =
    ahead_case (first_is_ahead q r here x ms) (is_settled m.id here) refl h
  where
    test : Bool
    test = same_ui m.port q && same_route m.route r

    U : List Sent
    U = unsettled here ms

    P : List Sent
    P = unsettled here (prior x ms)

    -- m is not x, so it stands before x
    behind : (b : Bool) → same_id m.id x ≡ b → first_for q r (unsettled here (m ∷ prior x ms)) ≡ None → first_for q r (unsettled here (cond (same_id m.id x) [] (m ∷ prior x ms))) ≡ None
    behind true e i = ap (λ b. first_for q r (unsettled here (cond b [] (m ∷ prior x ms)))) e
    behind false e i = ap (λ b. first_for q r (unsettled here (cond b [] (m ∷ prior x ms)))) e ∙ i

    ahead_case : (first_for q r U ≡ Some x → (is_settled x here ≡ false) × (first_for q r P ≡ None)) → (a : Bool) → is_settled m.id here ≡ a → first_for q r (cond (not a) (m ∷ U) U) ≡ Some x → (is_settled x here ≡ false) × (first_for q r (unsettled here (prior x (m ∷ ms))) ≡ None)
    ahead_case rest true e h =
        let two = rest h in
        let now : first_for q r (unsettled here (m ∷ prior x ms)) ≡ None = ap (λ b. first_for q r (cond (not b) (m ∷ P) P)) e ∙ two.1 in
        (two.0, behind (same_id m.id x) refl now)
    ahead_case rest false e h =
        elim (cond_some test m.id x (first_for q r U) h) [
          | inl this ↦ (
              let same : same_id m.id x ≡ true = subst (λ y. same_id m.id y ≡ true) this.1 (same_id-self m.id) in (
                subst (λ y. is_settled y here ≡ false) this.1 e,
                ap (λ b. first_for q r (unsettled here (cond b [] (m ∷ prior x ms)))) same,
              ))
          | inr later ↦ (
              let two = rest later.1 in
              let now : first_for q r (unsettled here (m ∷ prior x ms)) ≡ None =
              ap (λ b. first_for q r (cond (not b) (m ∷ P) P)) e
              ∙ (ap (λ b. cond b (Some m.id) (first_for q r P)) later.0 ∙ two.1) in
              (two.0, behind (same_id m.id x) refl now))
        ]

-- what is first waits here, unsettled and not under way, and no other before it
pub record FirstHere (x : MsgId) (q : Ui) (p : ℕ) (past : List Entry) : Type 0 where
  pub message : Sent
  pub is : sent_as x p past ≡ Some message
  pub port : message.port ≡ q
  pub ahead : IsAhead x p past message
  pub live : is_settled x (at p past) ≡ false
  pub still : is_tried x (at p past) ≡ false

first_case : (x : MsgId) (q : Ui) (p : ℕ) (past : List Entry) (o : Option Sent) → sent_as x p past ≡ o → is_first_as x q (at p past) o ≡ true → FirstHere x q p past
first_case x q p past None e h = absurd (false≢true h)
first_case x q p past (Some m) e h =
    let here = at p past in
    let first = first_for q m.route (unsettled here (sent here)) in
    let two = and_parts (same_ui m.port q && are_same same_id (Some x) first) (not (is_tried x here)) h in
    let one = and_parts (same_ui m.port q) (are_same same_id (Some x) first) two.0 in
    let port : m.port ≡ q = from_same_ui m.port q one.0 in
    let ahead = first_is_ahead q m.route here x (sent here) (id_is x first one.1) in
    record {
      message = m;
      is = e;
      port = port;
      ahead = subst (λ z. first_for z m.route (unsettled here (prior x (sent here))) ≡ None) (sym port) ahead.1;
      live = ahead.0;
      still = not-true (is_tried x here) two.1;
    }

pub first_here : (x : MsgId) (q : Ui) (p : ℕ) (past : List Entry) → is_first x q (at p past) ≡ true → FirstHere x q p past
first_here x q p past h = first_case x q p past (sent_as x p past) refl h

-- One entry more.

pub at_same : (p : ℕ) (e : Entry) (past : List Entry) → e.place ≡ p → at p (e ∷ past) ≡ e ∷ at p past
at_same p e past h = keeps (is_at p) e past (eq-eqb e.place p h)

sent_choice : (b : Bool) (x : MsgId) (m : Sent) (here : List Entry) (e : Entry) → find_sent x (sent here) ≡ Some m → find_sent x (sent (cond b (e ∷ here) here)) ≡ Some m
sent_choice true x m here e h =
    find_sent_append x (sent here) (sent_by e.act) ∙ or_some (find_sent x (sent here)) (find_sent x (sent_by e.act)) m h
sent_choice false x m here e h = h

-- what was sent stays
pub sent_stays : (x : MsgId) (p : ℕ) (past : List Entry) (e : Entry) (m : Sent) → sent_as x p past ≡ Some m → sent_as x p (e ∷ past) ≡ Some m
sent_stays x p past e m h = sent_choice (is_at p e) x m (at p past) e h

-- what is sent now was sent before, or is sent by the entry
pub sent_before : (x : MsgId) (p : ℕ) (past : List Entry) (e : Entry) (m : Sent) → sent_as x p (e ∷ past) ≡ Some m → (sent_as x p past ≡ Some m) ⊎ ((e.place ≡ p) × (find_sent x (sent_by e.act) ≡ Some m))
sent_before x p past e m h = before_case (is_at p e) refl h
  where
    before_case : (b : Bool) → is_at p e ≡ b → find_sent x (sent (cond b (e ∷ at p past) (at p past))) ≡ Some m → (sent_as x p past ≡ Some m) ⊎ ((e.place ≡ p) × (find_sent x (sent_by e.act) ≡ Some m))
    before_case false b h = inl h
    before_case true b h =
        elim (from_or (sent_as x p past) (find_sent x (sent_by e.act)) m (sym (find_sent_append x (sent (at p past)) (sent_by e.act)) ∙ h)) [
          | inl old ↦ inl old
          | inr new ↦ inr (eqb-true e.place p b, new.1)
        ]

prior_choice : (b : Bool) (x : MsgId) (m : Sent) (here : List Entry) (e : Entry) → find_sent x (sent here) ≡ Some m → prior x (sent (cond b (e ∷ here) here)) ≡ prior x (sent here)
prior_choice true x m here e h = prior_append x (sent here) (sent_by e.act) m h
prior_choice false x m here e h = refl

pub prior_stays : (x : MsgId) (p : ℕ) (past : List Entry) (e : Entry) (m : Sent) → sent_as x p past ≡ Some m → prior x (sent (at p (e ∷ past))) ≡ prior x (sent (at p past))
prior_stays x p past e m h = prior_choice (is_at p e) x m (at p past) e h

settled_choice : (b s o : Bool) → o ≡ true → cond b (s || o) o ≡ true
settled_choice true s o h = or_right s o h
settled_choice false s o h = h

pub settled_stays : (x : MsgId) (p : ℕ) (past : List Entry) (e : Entry) → is_settled x (at p past) ≡ true → is_settled x (at p (e ∷ past)) ≡ true
settled_stays x p past e h =
    under (is_settled x) (is_at p e) (e ∷ at p past) (at p past) ∙ settled_choice (is_at p e) (settles x e.act) (is_settled x (at p past)) h

pub settled_now : (x : MsgId) (past : List Entry) (e : Entry) → settles x e.act ≡ true → is_settled x (at e.place (e ∷ past)) ≡ true
settled_now x past e h =
    ap (is_settled x) (at_same e.place e past refl) ∙ or_left (settles x e.act) (is_settled x (at e.place past)) h

pub settled_same : (x : MsgId) (p : ℕ) (past : List Entry) (e : Entry) → settles x e.act ≡ false → is_settled x (at p (e ∷ past)) ≡ is_settled x (at p past)
settled_same x p past e h =
    under (is_settled x) (is_at p e) (e ∷ at p past) (at p past)
    ∙ cond_same (is_at p e) (settles x e.act || is_settled x (at p past)) (is_settled x (at p past)) (λ _. ap (λ z. z || is_settled x (at p past)) h)

pub tried_same : (x : MsgId) (p : ℕ) (past : List Entry) (e : Entry) → ((b : Bool) → tried_after x e.act b ≡ b) → is_tried x (at p (e ∷ past)) ≡ is_tried x (at p past)
tried_same x p past e h =
    under (is_tried x) (is_at p e) (e ∷ at p past) (at p past)
    ∙ cond_same (is_at p e) (tried_after x e.act (is_tried x (at p past))) (is_tried x (at p past)) (λ _. h (is_tried x (at p past)))

pub ahead_stays : (x : MsgId) (p : ℕ) (past : List Entry) (e : Entry) (m : Sent) → sent_as x p past ≡ Some m → IsAhead x p past m → IsAhead x p (e ∷ past) m
ahead_stays x p past e m h a =
    ap (λ ms. first_for m.port m.route (unsettled (at p (e ∷ past)) ms)) (prior_stays x p past e m h)
    ∙ none_stays m.port m.route (at p past) (at p (e ∷ past)) (prior x (sent (at p past))) (λ y. settled_stays y p past e) a

-- An act about another message, or about none.

pub settles_other : (x : MsgId) (a : Act) → are_same same_id (Some x) (message_of a) ≡ false → settles x a ≡ false
settles_other x a h = ap (λ b. is_settling a && b) h ∙ and_false (is_settling a)

pub tried_other : (x : MsgId) (a : Act) → are_same same_id (Some x) (message_of a) ≡ false → (b : Bool) → tried_after x a b ≡ b
tried_other x (Try y q to hop) h b = ap (λ z. z || b) (same_id_sym y x ∙ h)
tried_other x (Told y r) h b = ap (λ z. not z && b) (same_id_sym y x ∙ h)
tried_other x _ h b = refl
