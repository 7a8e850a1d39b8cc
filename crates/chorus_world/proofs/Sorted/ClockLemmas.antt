-- Who may go on with a port or with a message has seen all that happened to it: the clock of its place is as high.
use Rattle.std.proofs.Common.{ℕ, ◌≡◌, ◌++◌, ◌<◌, ◌≤◌, ◌==◌, ◌-◌, Bool, true, false, ◌&&◌, cond, List, [], ◌∷◌, length, nat_lt, Option, Some, None, refl, sym, ◌∙◌, ap, subst, arith, inl, inr}
use Rattle.std.proofs.lemmas.Bool.{and_from, eq-eqb, and_parts, eqb-true, false≢true, cases_Bool, ltb-true}
use Rattle.chorus_ui.specs.declared.ui.Ui.{Ui}
use Rattle.chorus_ui.specs.declared.layout.Layout.{Layout}
use Rattle.chorus_ui.specs.Layout.{has_place}
use Rattle.chorus_entry.specs.declared.entry.Entry.{Entry}
use Rattle.chorus_entry.specs.declared.act.Act.{Act}
use Rattle.chorus_entry.specs.declared.act.Act.TheVariants.{Make, Accept, Full, Already, ClientsFull, Take, Empty, Rehome, Depart, Arrive, Delete, Post, Told, Choose, NoMember, Try, Heard, Stale, Early, NoPort, Elsewhere, Gone}
use Rattle.chorus_entry.specs.Act.{held_port_of, message_of}
use Rattle.chorus_world.specs.Views.{views, is_on, at, on, about, is_about}
use Rattle.chorus_entry.specs.Order.{is_at}
use Rattle.chorus_world.specs.Ports.{PortState, fate, fate_after, is_held, is_moving, is_last, last_of, is_held_at, is_coming, arrived}
use Rattle.chorus_world.specs.Places.{last_clock, sent, sent_by, find_sent}
use Rattle.chorus_world.specs.Steps.{may, is_timely, act_follows, is_legal, act_may}
use Rattle.chorus_world.proofs.Steps.LegalLemmas.{legal_parts, on_is, skips, keeps, entry}
use Rattle.chorus_world.proofs.Ports.LineLemmas.{Needs, needs, none_some, id_is}
use Rattle.chorus_world.proofs.Messages.SendingLemmas.{at_same, sent_as, first_here, some_is, sent_stays, sent_before}
use Rattle.std.specs.Option.{option_or}
use Rattle.chorus_ui.specs.Name.{same_ui}
use Rattle.chorus_ui.proofs.Names.{same_ui-self}
use Rattle.chorus_entry.specs.declared.id.MsgId.{MsgId}
use Rattle.chorus_entry.specs.declared.answer.Answer.{Answer}
use Rattle.chorus_entry.specs.declared.answer.Answer.TheVariants as A
use Rattle.chorus_entry.specs.declared.dest.Dest.TheVariants.{Port, All, One, OneAt}
use Rattle.chorus_entry.specs.MsgId.{same_id}
use Rattle.chorus_entry.proofs.Same.{same_id-self}
use Rattle.chorus_world.specs.declared.place.Sent.{Sent}
use Rattle.chorus_world.specs.declared.progress.Progress.TheVariants.{Idle, Tried, Decided}
use Rattle.chorus_entry.specs.Same.{are_same}
use Rattle.chorus_world.specs.Messages.{progress, progress_after, decided}
use Rattle.chorus_world.specs.Groups.{is_chosen}
use Rattle.chorus_world.proofs.Messages.SentLemmas.{find_sent_append}
use Rattle.chorus_world.proofs.Messages.StageLemmas.{Stage, MessageFacts}
use Rattle.chorus_world.proofs.Messages.DueLemmas.{IsDue}
use Rattle.chorus_world.proofs.Messages.PostLemmas.{asked_facts, copy_found}
use Rattle.chorus_world.proofs.Messages.MessageInvariant.{told_needs, legal_messages}
use Rattle.chorus_world.proofs.Messages.VerdictLemmas.{decision_due}
use Rattle.chorus_world.proofs.Groups.ChoiceLemmas.{new_copy}
use Rattle.chorus_world.proofs.Seats.SenderLaws.{direct_act}

-- an entry's clock is above the last one of its place
pub legal_timely : (l : Layout) (e : Entry) (past : List Entry) → is_legal l (e ∷ past) ≡ true → last_clock (at e.place past) < e.clock
legal_timely l e past h =
    let v = views past e.place e.seat e.act in
    let two = and_parts (may l past e) (is_legal l past) h in
    let timely = (and_parts (is_timely l v e) (act_follows l v e.place e.seat e.act) two.0).0 in
    ltb-true (last_clock (at e.place past)) e.clock (and_parts (has_place l e.place) (nat_lt (last_clock v.here) e.clock) timely).1

clock_case : (b : Bool) (e : Entry) (here : List Entry) → (b ≡ true → last_clock here < e.clock) → last_clock here ≤ last_clock (cond b (e ∷ here) here)
clock_case true e here h = let lt = h refl in omega arith
clock_case false e here h = omega arith

-- the last clock of a place only grows
pub clock_grows : (l : Layout) (e : Entry) (past : List Entry) (p : ℕ) → is_legal l (e ∷ past) ≡ true → last_clock (at p past) ≤ last_clock (at p (e ∷ past))
clock_grows l e past p h =
    clock_case (is_at p e) e (at p past)
    (λ t. subst (λ z. last_clock (at z past) < e.clock) (eqb-true e.place p t) (legal_timely l e past h))

last_is : (p r : ℕ) (f : PortState) → is_last p f ≡ true → is_last r f ≡ true → p ≡ r
last_is p r f h k = sym (eqb-true (last_of 0 f.path) p h) ∙ eqb-true (last_of 0 f.path) r k

held_last : (p : ℕ) (f : PortState) → is_held_at p (Some f) ≡ true → is_last p f ≡ true
held_last p f h = (and_parts (is_held f.spot) (is_last p f) h).1

coming_last : (p hop : ℕ) (f : PortState) → is_coming p hop (Some f) ≡ true → is_last p f ≡ true
coming_last p hop f h =
    (and_parts (is_moving f.spot) (is_last p f) (and_parts (is_moving f.spot && is_last p f) (hop == length f.path - 1) h).0).1

-- where the port is held behind an entry of its line, it is held at the place of the entry
held_here : (p r : ℕ) (a : Act) (q : Ui) (o : Option PortState) → held_port_of a ≡ Some q → Needs p a o → is_held_at r (fate_after p a o) ≡ true → p ≡ r
held_here p r (Make q b n) z o m h k = eqb-true p r k
held_here p r (Accept x q n) z (Some f) m h k = last_is p r f (held_last p f h) (and_parts (is_held f.spot) (is_last r f) k).1
held_here p r (Full x q n) z (Some f) m h k = last_is p r f (held_last p f h) (held_last r f k)
held_here p r (Already x q) z (Some f) m h k = last_is p r f (held_last p f h) (held_last r f k)
held_here p r (ClientsFull x q) z (Some f) m h k = last_is p r f (held_last p f h) (held_last r f k)
held_here p r (Take q n x) z (Some f) m h k = last_is p r f (held_last p f h) (and_parts (is_held f.spot) (is_last r f) k).1
held_here p r (Empty q) z (Some f) m h k = last_is p r f (held_last p f h) (held_last r f k)
held_here p r (Rehome q b) z (Some f) m h k = last_is p r f (held_last p f h) k
held_here p r (Depart q to b hop) z (Some f) m h k = absurd (false≢true k)
held_here p r (Arrive q hop) z (Some f) m h k = last_is p r f (coming_last p hop f h) (and_parts (is_held (arrived f.spot)) (is_last r f) k).1
held_here p r (Delete q xs) z (Some f) m h k = absurd (false≢true k)
held_here p r _ z (Some f) m h k = none_some z m
held_here p r _ z None m h k = absurd (false≢true k)

pub holder_clock : (l : Layout) (past : List Entry) (q : Ui) (p : ℕ) → is_legal l past ≡ true → is_held_at p (fate (on q past)) ≡ true → last_clock (on q past) ≤ last_clock (at p past)
holder_clock l [] q p h k = absurd (false≢true k)
holder_clock l (e ∷ past) q p h k =
    let two = legal_parts l e past h in
    elim (cases_Bool (is_on (Some q) e)) [
      | inl t ↦ (
          let m = on_is q (held_port_of e.act) t in
          let view : on q (e ∷ past) ≡ e ∷ on q past = keeps (is_on (Some q)) e past t in
          let here : e.place ≡ p = held_here e.place p e.act q (fate (on q past)) m (needs l past e.clock e.place e.seat e.act q m two.0) (ap (λ z. is_held_at p (fate z)) (sym view) ∙ k) in
          let line : last_clock (on q (e ∷ past)) ≡ e.clock = ap last_clock view in
          let place : last_clock (at p (e ∷ past)) ≡ e.clock = ap last_clock (at_same p e past here) in
          omega (arith, line, place))
      | inr n ↦ (
          let view : on q (e ∷ past) ≡ on q past = skips (is_on (Some q)) e past n in
          let old = holder_clock l past q p two.1 (ap (λ z. is_held_at p (fate z)) (sym view) ∙ k) in
          let same : last_clock (on q (e ∷ past)) ≡ last_clock (on q past) = ap last_clock view in
          let grows = clock_grows l e past p h in
          omega (arith, old, same, grows))
    ]

-- A message that waits where it was sent: its place has a clock as high as all that is known of it.

record IsTried : Type 0 where
  from : ℕ
  hop : ℕ

or_found : (o : Option Sent) (m : Sent) → (n : Sent) × (option_or o (Some m) ≡ Some n)
or_found None m = (m, refl)
or_found (Some k) m = (k, refl)

-- what the last entry of a place sends is among what the place sent
found_last : (x : MsgId) (p : ℕ) (past : List Entry) (e : Entry) (m : Sent) → e.place ≡ p → find_sent x (sent_by e.act) ≡ Some m → (n : Sent) × (sent_as x p (e ∷ past) ≡ Some n)
found_last x p past e m here h =
    let view : sent (at p (e ∷ past)) ≡ sent (at p past) ++ sent_by e.act = ap sent (at_same p e past here) in
    let both = ap (find_sent x) view ∙ find_sent_append x (sent (at p past)) (sent_by e.act) in
    let one = or_found (sent_as x p past) m in
    (one.0, both ∙ (ap (λ o. option_or (sent_as x p past) o) h ∙ one.1))

-- a decision of a message leaves it idle only where it waits first
idle_answer : (p : ℕ) (q : Ui) (a : Answer) (t : IsTried) → decided p q a (Tried t.from q p t.hop) ≡ Idle → ⊥
idle_answer p q a t h =
    let test : (p == p) && same_ui q q ≡ true = and_from (p == p) (same_ui q q) (eq-eqb p p refl) (same_ui-self q) in
    let now : Decided t.from p q a ≡ Idle = sym (ap (λ b. cond b (Decided t.from p q a) Idle) test) ∙ h in cc

decision_idle : (x : MsgId) (q : Ui) (p : ℕ) (past : List Entry) (e : Entry) (a : Answer) → IsDue x q p past → decided p q a (progress (about x past)) ≡ Idle → (m : Sent) × (sent_as x p (e ∷ past) ≡ Some m)
decision_idle x q p past e a (inl t) h =
    absurd (idle_answer p q a (record { from = t.from; hop = t.hop }) (ap (decided p q a) (sym t.is) ∙ h))
decision_idle x q p past e a (inr k) h =
    let f = first_here x q p past k in (f.message, sent_stays x p past e f.message f.is)

module _ (l : Layout) (past : List Entry) (c p s : ℕ) where
  -- where a message is idle behind an entry about it, the entry's place sent it
  idle_sent : (a : Act) (x : MsgId) → MessageFacts x past → act_may l (views past p s a) p s a ≡ true → message_of a ≡ Some x → progress_after p a (progress (about x past)) ≡ Idle → (m : Sent) × (sent_as x p (entry c p s a ∷ past) ≡ Some m)
  idle_sent (Post n (Port q)) x f h m k =
      let same : n.id ≡ x = some_is n.id x m in
      let e = entry c p s (Post n (Port q)) in
      found_last x p past e (record { id = n.id; port = q; route = None }) refl (ap (λ b. cond b (Some (record { id = n.id; port = q; route = None })) None) (ap (same_id n.id) (sym same) ∙ same_id-self n.id))
  idle_sent (Post n (All g)) x f h m k = absurd (cc)
  idle_sent (Post n (One g)) x f h m k = absurd (cc)
  idle_sent (Post n (OneAt g t)) x f h m k = absurd (cc)
  idle_sent (Told y a) x f h m k =
      let same : y ≡ x = some_is y x m in
      let needs = told_needs l past p s x a (subst (λ z. act_may l (views past p s (Told z a)) p s (Told z a) ≡ true) same h) in
      let i : Stage x past (Decided p needs.by needs.port a) = subst (Stage x past) needs.is f.stage in
      let w = i.2 in
      (w.message, sent_stays x p past (entry c p s (Told y a)) w.message w.is)
  idle_sent (Choose y g qs) x f h m k = absurd (cc)
  idle_sent (NoMember y g) x f h m k = absurd (cc)
  idle_sent (Try y q to hop) x f h m k = absurd (cc)
  idle_sent (Heard y a) x f h m k = absurd (cc)
  idle_sent (Accept y q n) x f h m k = decision_idle x q p past (entry c p s (Accept y q n)) (A.Accepted n) (decision_due l past p s (Accept y q n) x q refl m refl h) k
  idle_sent (Full y q n) x f h m k = decision_idle x q p past (entry c p s (Full y q n)) (A.Full n) (decision_due l past p s (Full y q n) x q refl m refl h) k
  idle_sent (Already y q) x f h m k = decision_idle x q p past (entry c p s (Already y q)) A.Already (decision_due l past p s (Already y q) x q refl m refl h) k
  idle_sent (ClientsFull y q) x f h m k = decision_idle x q p past (entry c p s (ClientsFull y q)) A.ClientsFull (decision_due l past p s (ClientsFull y q) x q refl m refl h) k
  idle_sent (Stale y q t to hop) x f h m k = decision_idle x q p past (entry c p s (Stale y q t to hop)) (A.Stale to hop) (decision_due l past p s (Stale y q t to hop) x q refl m refl h) k
  idle_sent (Early y q hop) x f h m k = decision_idle x q p past (entry c p s (Early y q hop)) (A.Early hop) (decision_due l past p s (Early y q hop) x q refl m refl h) k
  idle_sent (NoPort y q) x f h m k = decision_idle x q p past (entry c p s (NoPort y q)) A.NoPort (decision_due l past p s (NoPort y q) x q refl m refl h) k
  idle_sent (Elsewhere y q to hop) x f h m k = decision_idle x q p past (entry c p s (Elsewhere y q to hop)) (A.Elsewhere to hop) (decision_due l past p s (Elsewhere y q to hop) x q refl m refl h) k
  idle_sent (Gone y q) x f h m k = decision_idle x q p past (entry c p s (Gone y q)) A.Gone (decision_due l past p s (Gone y q) x q refl m refl h) k
  idle_sent _ x f h m k = none_some x m

-- what is first sent by an entry about another message is a copy, of which nothing is known yet
copy_unknown : (l : Layout) (past : List Entry) (e : Entry) (x : MsgId) (m : Sent) (r : Option Ui) → is_legal l (e ∷ past) ≡ true → is_about (Some x) e ≡ false → find_sent x (sent_by e.act) ≡ Some m → m.route ≡ r → about x past ≡ []
copy_unknown l past e x m None h other f r =
    let d = direct_act x e.act m f r in
    let on : is_about (Some x) e ≡ true = ap (λ a. are_same same_id (Some x) (message_of a)) d.2 ∙ (ap (same_id x) d.3 ∙ same_id-self x) in
    absurd (false≢true (sym other ∙ on))
copy_unknown l past e x m (Some g) h other f r =
    let two = legal_parts l e past h in
    let c = new_copy l past e x g m h f r in
    let asked = asked_facts c.post past c.needs.from c.needs.dest (legal_messages l past two.1 c.post) c.needs.asked in
    let copy = (copy_found x c.post g 1 c.members m c.found).copy in
    let not_post : x.copy ≡ 0 → ⊥ = λ z. (omega (arith, z, copy)) in
    ((legal_messages l past two.1 x).uncopied not_post (subst (λ z. is_chosen z (about z past) ≡ false) (sym c.source) asked.0.chosen)).about

pub sender_clock : (l : Layout) (past : List Entry) (x : MsgId) (p : ℕ) (m : Sent) → is_legal l past ≡ true → sent_as x p past ≡ Some m → progress (about x past) ≡ Idle → last_clock (about x past) ≤ last_clock (at p past)
sender_clock l [] x p m h k i = none_some m k
sender_clock l (e ∷ past) x p m h k i =
    let two = legal_parts l e past h in
    elim (cases_Bool (is_about (Some x) e)) [
      | inl t ↦ (
          let view : about x (e ∷ past) ≡ e ∷ about x past = keeps (is_about (Some x)) e past t in
          let idle = ap progress (sym view) ∙ i in
          let n = idle_sent l past e.clock e.place e.seat e.act x (legal_messages l past two.1 x) two.0 (id_is x (message_of e.act) t) idle in
          let here : e.place ≡ p = (legal_messages l (e ∷ past) h x).home e.place p n.0 m n.1 k in
          let line : last_clock (about x (e ∷ past)) ≡ e.clock = ap last_clock view in
          let place : last_clock (at p (e ∷ past)) ≡ e.clock = ap last_clock (at_same p e past here) in
          omega (arith, line, place))
      | inr n ↦ (
          let view : about x (e ∷ past) ≡ about x past = skips (is_about (Some x)) e past n in
          let same : last_clock (about x (e ∷ past)) ≡ last_clock (about x past) = ap last_clock view in
          let grows = clock_grows l e past p h in
          elim (sent_before x p past e m k) [
            | inl old ↦ (
                let le = sender_clock l past x p m two.1 old (ap progress (sym view) ∙ i) in
                omega (arith, le, same, grows))
            | inr new ↦ (
                let none : last_clock (about x past) ≡ 0 = ap last_clock (copy_unknown l past e x m m.route h n new.1 refl) in
                omega (arith, none, same))
          ])
    ]
