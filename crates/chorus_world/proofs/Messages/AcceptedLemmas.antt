-- What is so of each message that a port accepted, in every legal past.
use Rattle.std.proofs.Common.{ℕ, ◌≡◌, ◌<◌, suc, zero, Bool, true, false, ◌⊎◌, cond, List, [], ◌∷◌, ◌++◌, length, Option, Some, None, refl, sym, ◌∙◌, ap, subst, arith, inl, inr}
use Rattle.std.specs.List.{slice_get}
use Rattle.std.specs.Option.{option_or}
use Rattle.std.proofs.lemmas.Bool.{cases_Bool}
use Rattle.std.proofs.lemmas.Option.{slice_get_within}
use Rattle.chorus_ui.specs.declared.ui.Ui.{Ui}
use Rattle.chorus_ui.specs.declared.layout.Layout.{Layout}
use Rattle.chorus_entry.specs.declared.entry.Entry.{Entry}
use Rattle.chorus_entry.specs.declared.id.MsgId.{MsgId}
use Rattle.chorus_entry.specs.declared.answer.Answer.{Answer}
use Rattle.chorus_entry.specs.declared.answer.Answer.TheVariants as A
use Rattle.chorus_entry.specs.declared.act.Act.{Act}
use Rattle.chorus_entry.specs.declared.act.Act.TheVariants.{Make, Accept}
use Rattle.chorus_entry.specs.Act.{held_port_of}
use Rattle.chorus_entry.proofs.Same.{same_id-self}
use Rattle.chorus_world.specs.declared.place.Sent.{Sent}
use Rattle.chorus_world.specs.declared.progress.Progress.TheVariants.{Tried}
use Rattle.chorus_world.specs.Views.{views, is_about, is_on, at, on, about}
use Rattle.chorus_world.specs.Ports.{PortState, fate, fate_after}
use Rattle.chorus_world.specs.Messages.{verdict, verdict_by}
use Rattle.chorus_world.specs.Places.{is_settled}
use Rattle.chorus_world.specs.Posts.{Posted, post_of}
use Rattle.chorus_world.specs.Steps.{act_may, is_legal}
use Rattle.chorus_world.specs.AcceptedLaws.{accepted_by, accepted_from}
use Rattle.chorus_world.proofs.Steps.LegalLemmas.{entry, legal_parts, on_is, skips, keeps}
use Rattle.chorus_world.proofs.Ports.LineLemmas.{none_some}
use Rattle.chorus_world.proofs.Messages.SendingLemmas.{sent_as, IsAhead, first_here, sent_stays, ahead_stays}
use Rattle.chorus_world.proofs.Messages.StageLemmas.{IsOpen, Stage, MessageFacts, first_is_idle}
use Rattle.chorus_world.proofs.Messages.DueLemmas.{IsDue, due_accept}
use Rattle.chorus_world.proofs.Messages.MessageInvariant.{legal_messages}

-- A list with one more at its end.
pub get_push : {X : Type 0} (xs : List X) (y : X) (i : ℕ) (x : X) → slice_get (xs ++ y ∷ []) i ≡ Some x → (slice_get xs i ≡ Some x) ⊎ ((i ≡ length xs) × (y ≡ x))
get_push [] y zero x h = inr (refl, cc)
get_push [] y (suc i) x h = none_some x h
get_push (z ∷ xs) y zero x h = inl h
get_push (z ∷ xs) y (suc i) x h =
    elim (get_push xs y i x h) [
      | inl old ↦ inl old
      | inr new ↦ inr (ap (λ n. suc n) new.0, new.1)
    ]

-- what stands in the accepted list now stood there before, or is accepted by the entry
pub accepted_after : (a : Act) (p : ℕ) (o : Option PortState) (i : ℕ) (x : MsgId) → slice_get (accepted_from (fate_after p a o)) i ≡ Some x → (slice_get (accepted_from o) i ≡ Some x) ⊎ ((q : Ui) × (n : ℕ) × (a ≡ Accept x q n) × (i ≡ length (accepted_from o)))
accepted_after (Make q b n) p o i x h = absurd (let lt : i < 0 = slice_get_within [] i x h in omega arith)
accepted_after (Accept y q n) p (Some f) i x h =
    elim (get_push f.accepted y i x h) [
      | inl old ↦ inl old
      | inr new ↦ inr (q, n, ap (λ z. Accept z q n) new.1, new.0)
    ]
accepted_after _ p (Some f) i x h = inl h
accepted_after _ p None i x h = inl h

pub accepted_before : (q : Ui) (past : List Entry) (e : Entry) (i : ℕ) (x : MsgId) → slice_get (accepted_by q (e ∷ past)) i ≡ Some x → (slice_get (accepted_by q past) i ≡ Some x) ⊎ ((n : ℕ) × (e.act ≡ Accept x q n) × (i ≡ length (accepted_by q past)))
accepted_before q past e i x h =
    elim (cases_Bool (is_on (Some q) e)) [
      | inl t ↦ elim (accepted_after e.act e.place (fate (on q past)) i x (ap (λ z. slice_get (accepted_from (fate z)) i) (sym (keeps (is_on (Some q)) e past t)) ∙ h)) [
        | inl old ↦ inl old
        | inr new ↦ (
            let r = new.0 in
            let n = new.1 in
            let named : Some r ≡ Some q = ap held_port_of (sym new.2) ∙ on_is q (held_port_of e.act) t in
            let same : r ≡ q = cc in
            inr (n, new.2 ∙ ap (λ z. Accept x z n) same, new.3))
      ]
      | inr n ↦ inl (ap (λ z. slice_get (accepted_from (fate z)) i) (sym (skips (is_on (Some q)) e past n)) ∙ h)
    ]

-- a message that is due was sent, is not settled, has no verdict, and stands before all others
pub record IsWaiting (x : MsgId) (q : Ui) (past : List Entry) : Type 0 where
  pub place : ℕ
  pub message : Sent
  pub is : sent_as x place past ≡ Some message
  pub port : message.port ≡ q
  pub ahead : IsAhead x place past message
  pub live : is_settled x (at place past) ≡ false
  pub undecided : IsOpen x past

pub due_waits : (x : MsgId) (q : Ui) (p : ℕ) (past : List Entry) → MessageFacts x past → IsDue x q p past → IsWaiting x q past
due_waits x q p past f (inl t) =
    let i : Stage x past (Tried t.from q p t.hop) = subst (Stage x past) t.is f.stage in
    let w = i.1 in
    record { place = t.from; message = w.message; is = w.is; port = w.port; ahead = w.ahead; live = i.2; undecided = i.0 }
due_waits x q p past f (inr k) =
    let first = first_here x q p past k in
    let idle = first_is_idle x q p past f first in
    record { place = p; message = first.message; is = first.is; port = first.port; ahead = first.ahead; live = first.live; undecided = idle.1 }

pub accept_waits : (l : Layout) (past : List Entry) (e : Entry) (x : MsgId) (q : Ui) (n : ℕ) → is_legal l (e ∷ past) ≡ true → e.act ≡ Accept x q n → IsWaiting x q past
accept_waits l past e x q n h a =
    let two = legal_parts l e past h in
    let may : act_may l (views past e.place e.seat (Accept x q n)) e.place e.seat (Accept x q n) ≡ true = subst (λ z. act_may l (views past e.place e.seat z) e.place e.seat z ≡ true) a two.0 in
    due_waits x q e.place past (legal_messages l past two.1 x) (due_accept l past e.place e.seat x q n may)

-- a message that a port accepted has a verdict, and no unsettled one of its port and route stands before it
pub record Belongs (x : MsgId) (q : Ui) (past : List Entry) : Type 0 where
  pub answer : Answer
  pub verdict : verdict x (about x past) ≡ Some answer
  pub place : ℕ
  pub message : Sent
  pub is : sent_as x place past ≡ Some message
  pub port : message.port ≡ q
  pub ahead : IsAhead x place past message

verdict_choice : (b : Bool) (x : MsgId) (e : Entry) (es : List Entry) (a : Answer) → verdict x es ≡ Some a → verdict x (cond b (e ∷ es) es) ≡ Some a
verdict_choice true x e es a h = ap (λ z. option_or z (verdict_by x e.act)) h
verdict_choice false x e es a h = h

belongs_stays : (x : MsgId) (q : Ui) (past : List Entry) (e : Entry) → Belongs x q past → Belongs x q (e ∷ past)
belongs_stays x q past e b =
    record {
      answer = b.answer;
      verdict = verdict_choice (is_about (Some x) e) x e (about x past) b.answer b.verdict;
      place = b.place;
      message = b.message;
      is = sent_stays x b.place past e b.message b.is;
      port = b.port;
      ahead = ahead_stays x b.place past e b.message b.is b.ahead;
    }

or_answer : (o : Option Answer) (a : Answer) → (b : Answer) × (option_or o (Some a) ≡ Some b)
or_answer None a = (a, refl)
or_answer (Some b) a = (b, refl)

belongs_now : (past : List Entry) (c p s : ℕ) (x : MsgId) (q : Ui) (n : ℕ) → IsWaiting x q past → Belongs x q (entry c p s (Accept x q n) ∷ past)
belongs_now past c p s x q n w =
    let e = entry c p s (Accept x q n) in
    let view = keeps (is_about (Some x)) e past (same_id-self x) in
    let one = ap (λ b. option_or (verdict x (about x past)) (cond b (Some (A.Accepted n)) None)) (same_id-self x) in
    let two = or_answer (verdict x (about x past)) (A.Accepted n) in
    record {
      answer = two.0;
      verdict = ap (verdict x) view ∙ (one ∙ two.1);
      place = w.place;
      message = w.message;
      is = sent_stays x w.place past e w.message w.is;
      port = w.port;
      ahead = ahead_stays x w.place past e w.message w.is w.ahead;
    }

pub accepted_belongs : (l : Layout) (past : List Entry) (q : Ui) (i : ℕ) (x : MsgId) → is_legal l past ≡ true → slice_get (accepted_by q past) i ≡ Some x → Belongs x q past
accepted_belongs l [] q i x h k = absurd (let lt : i < 0 = slice_get_within [] i x k in omega arith)
accepted_belongs l (e ∷ past) q i x h k =
    let two = legal_parts l e past h in
    elim (accepted_before q past e i x k) [
      | inl old ↦ belongs_stays x q past e (accepted_belongs l past q i x two.1 old)
      | inr new ↦ (
          let n = new.0 in
          let now = belongs_now past e.clock e.place e.seat x q n (accept_waits l past e x q n h new.1) in
          subst (λ z. Belongs x q (entry e.clock e.place e.seat z ∷ past)) (sym new.1) now)
    ]

-- a message that a port accepted was posted
pub accepted_posted : (l : Layout) (past : List Entry) (q : Ui) (i : ℕ) (x : MsgId) → is_legal l past ≡ true → slice_get (accepted_by q past) i ≡ Some x → (d : Posted) × (post_of x past ≡ Some d)
accepted_posted l past q i x h k =
    let b = accepted_belongs l past q i x h k in
    let o = (legal_messages l past h x).origin b.place b.message b.is in
    (o.post, o.posted)

-- so was one that is due
pub waiting_posted : (l : Layout) (past : List Entry) (q : Ui) (x : MsgId) → is_legal l past ≡ true → IsWaiting x q past → (d : Posted) × (post_of x past ≡ Some d)
waiting_posted l past q x h w =
    let o = (legal_messages l past h x).origin w.place w.message w.is in
    (o.post, o.posted)
