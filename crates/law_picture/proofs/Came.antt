-- Where the last entry about a message stands, by how far the message is on its way.
use Rattle.std.proofs.Common.{ℕ, ◌≡◌, ◌+◌, ◌==◌, ◌⊎◌, Bool, true, false, List, [], ◌∷◌, cond, unwrap_or, Option, Some, None, refl, sym, ◌∙◌, ap, subst, inl, inr, arith}
use Rattle.std.specs.Option.{option_or}
use Rattle.std.proofs.lemmas.Bool.{eqb-true, eq-eqb, and_from, cond_both}
use Rattle.chorus_ui.specs.declared.ui.Ui.{Ui}
use Rattle.chorus_ui.specs.declared.layout.Layout.{Layout}
use Rattle.chorus_ui.specs.Layout.{group_place}
use Rattle.chorus_ui.specs.Name.{same_ui}
use Rattle.chorus_ui.proofs.Names.{same_ui-self}
use Rattle.chorus_entry.specs.declared.entry.Entry.{Entry}
use Rattle.chorus_entry.specs.declared.id.MsgId.{MsgId}
use Rattle.chorus_entry.specs.declared.message.Message.{Message}
use Rattle.chorus_entry.specs.declared.dest.Dest.{Dest}
use Rattle.chorus_entry.specs.declared.dest.Dest.TheVariants as D
use Rattle.chorus_entry.specs.declared.answer.Answer.{Answer}
use Rattle.chorus_entry.specs.declared.answer.Answer.TheVariants as A
use Rattle.chorus_entry.specs.declared.act.Act.{Act}
use Rattle.chorus_entry.specs.declared.act.Act.TheVariants.{Post, Accept, Full, Already, ClientsFull, Stale, Early, NoPort, Elsewhere, NoMember, Choose, Try, Told, Heard, Gone}
use Rattle.chorus_entry.specs.Act.{message_of}
use Rattle.chorus_entry.specs.Answer.{is_final}
use Rattle.chorus_entry.specs.Dest.{group_in}
use Rattle.chorus_entry.proofs.Same.{same_id-self}
use Rattle.chorus_world.specs.declared.place.Sent.{Sent}
use Rattle.chorus_world.specs.declared.progress.Progress.{Progress}
use Rattle.chorus_world.specs.declared.progress.Progress.TheVariants.{Idle, Asked, Tried, Decided, Settled, Reported}
use Rattle.chorus_world.specs.Views.{views, at, by, about, is_about}
use Rattle.chorus_world.specs.Messages.{progress, progress_after, decided, told, settled}
use Rattle.chorus_world.specs.Places.{sent, sent_by, find_sent}
use Rattle.chorus_world.specs.Posts.{Posted, post_of}
use Rattle.chorus_world.specs.Seats.{posts}
use Rattle.chorus_world.specs.Steps.{act_may, is_legal}
use Rattle.chorus_world.proofs.Steps.LegalLemmas.{entry, legal_parts, keeps, skips}
use Rattle.chorus_world.proofs.Ports.LineLemmas.{none_some, id_is}
use Rattle.chorus_world.proofs.Messages.SentLemmas.{find_sent_append}
use Rattle.chorus_world.proofs.Messages.SendingLemmas.{sent_as, sent_stays, some_is, first_here, at_same}
use Rattle.chorus_world.proofs.Messages.StageLemmas.{HasOrigin, IsAsked, IsUnknown, MessageFacts, Stage, first_is_idle}
use Rattle.chorus_world.proofs.Messages.DueLemmas.{IsDue}
use Rattle.chorus_world.proofs.Messages.PostLemmas.{ChoiceNeeds, asked_facts, choose_needs, no_member_needs, post_needs, post_stays}
use Rattle.chorus_world.proofs.Messages.VerdictLemmas.{decision_due}
use Rattle.chorus_world.proofs.Messages.MessageInvariant.{told_needs, legal_messages}
use Rattle.chorus_world.proofs.Seats.SenderLaws.{copy_home}
use Rattle.law_picture.specs.declared.row.Row.{Row}
use Rattle.law_picture.specs.Causes.{latest, row_of}
use Rattle.law_picture.specs.Laws.{group_at, group_of}

pub latest_here : (test : Entry → Bool) (e : Entry) (past : List Entry) → test e ≡ true → latest test (e ∷ past) ≡ Some (row_of past e)
latest_here test e past h = rw h refl

pub latest_skips : (test : Entry → Bool) (e : Entry) (past : List Entry) → test e ≡ false → latest test (e ∷ past) ≡ latest test past
latest_skips test e past h = rw h refl

abbrev pub IsFrom : ℕ → Option Row → Type 0
IsFrom p o = (row : Row) × (o ≡ Some row) × (row.place ≡ p)

-- the message was sent from there
pub record IsHome (x : MsgId) (past : List Entry) (o : Option Row) : Type 0 where
  pub row : Row
  pub message : Sent
  pub last : o ≡ Some row
  pub sent : sent_as x row.place past ≡ Some message

-- what became of it was found there, at the place of its group where it has one
pub record IsEnd (l : Layout) (x : MsgId) (past : List Entry) (o : Option Row) : Type 0 where
  pub row : Row
  pub post : Posted
  pub last : o ≡ Some row
  pub posted : post_of x past ≡ Some post
  pub group : (p : ℕ) → group_of l (Some post) ≡ Some p → row.place ≡ p

-- the place that asked for a post, that tried a message, or that decided on one, is that of the last entry about it; and of one that
-- waits it is the place that sent it, if there is one
abbrev pub Came : Layout → MsgId → List Entry → Progress → Option Row → Type 0
Came l x past Idle o = (o ≡ None) ⊎ IsHome x past o
Came l x past (Asked from d) o = IsFrom from o
Came l x past (Tried from q to hop) o = IsFrom from o
Came l x past (Decided from b q a) o = IsFrom b o
Came l x past (Settled a) o = IsEnd l x past o
Came l x past Reported o = Unit {0}

-- another entry changes nothing of it
stays : (l : Layout) (x : MsgId) (past : List Entry) (e : Entry) (s : Progress) (o : Option Row) → Came l x past s o → Came l x (e ∷ past) s o
stays l x past e Idle o (inl none) = inl none
stays l x past e Idle o (inr h) = inr (record { row = h.row; message = h.message; last = h.last; sent = sent_stays x h.row.place past e h.message h.sent })
stays l x past e (Asked from d) o h = h
stays l x past e (Tried from q to hop) o h = h
stays l x past e (Decided from b q a) o h = h
stays l x past e (Settled a) o h =
    record { row = h.row; post = h.post; last = h.last; posted = post_stays x past e h.post h.posted; group = h.group }
stays l x past e Reported o h = tt

-- a message of a group is sent from the group's place, where there is one
chosen-there : (l : Layout) (g : Ui) (from p r : ℕ) → (unwrap_or (group_place l g) from == r) ≡ true → group_place l g ≡ Some p → r ≡ p
chosen-there l g from p r h is = sym (eqb-true (unwrap_or (group_place l g) from) r h) ∙ ap (λ o. unwrap_or o from) is

sent-end : (l : Layout) (x : MsgId) (past : List Entry) (row : Row) (m : Sent) → is_legal l past ≡ true → sent_as x row.place past ≡ Some m → IsEnd l x past (Some row)
sent-end l x past row m legal k =
    record { row = row; post = o.post; last = refl; posted = o.posted; group = λ p g. there p (group_in o.post.dest) refl g }
  where
    o : HasOrigin x past row.place m
    o = (legal_messages l past legal x).origin row.place m k

    there : (p : ℕ) (d : Option Ui) → group_in o.post.dest ≡ d → group_at l (group_in o.post.dest) ≡ Some p → row.place ≡ p
    there p None e g = none_some p (ap (group_at l) (sym e) ∙ g)
    there p (Some h) e g =
        chosen-there l h o.post.place p row.place
        (copy_home l past row.place x m h o.post legal k (o.route ∙ e) o.posted) (ap (group_at l) (sym e) ∙ g)

came-settled : (l : Layout) (x : MsgId) (past : List Entry) (a : Answer) (row : Row) (m : Sent) → is_legal l past ≡ true → sent_as x row.place past ≡ Some m → Came l x past (settled a) (Some row)
came-settled l x past a row m legal k =
    cond_both (is_final a) (Settled a) Idle (λ z. Came l x past z (Some row))
    (λ _. sent-end l x past row m legal k) (λ _. inr (record { row = row; message = m; last = refl; sent = k }))

-- An entry about the message.

abbrev After : Layout → List Entry → ℕ → ℕ → ℕ → MsgId → Act → Type 0
After l past c r s x a =
    Came l x (entry c r s a ∷ past) (progress_after r a (progress (about x past))) (Some (row_of past (entry c r s a)))

-- a post to a port is sent from its place
sent-now : (past : List Entry) (c r s : ℕ) (m : Message) (q : Ui) → sent_as m.id r past ≡ None
    → sent_as m.id r (entry c r s (Post m (D.Port q)) ∷ past) ≡ Some (record { id = m.id; port = q; route = None })
sent-now past c r s m q none =
    let e = entry c r s (Post m (D.Port q)) in
    let k : Sent = record { id = m.id; port = q; route = None } in
    ap (λ es. find_sent m.id (sent es)) (at_same r e past refl)
    ∙ find_sent_append m.id (sent (at r past)) (sent_by (Post m (D.Port q)))
    ∙ ap (λ o. option_or o (find_sent m.id (sent_by (Post m (D.Port q))))) none
    ∙ ap (λ b. cond b (Some k) None) (same_id-self m.id)

unsent : (l : Layout) (past : List Entry) (r s : ℕ) (m : Message) (d : Dest) → MessageFacts m.id past → act_may l (views past r s (Post m d)) r s (Post m d) ≡ true → IsUnknown m.id past
unsent l past r s m d f h =
    let needs = post_needs l past r s m d h in
    let number : m.id.number ≡ posts (by m.id.seat past) + 1 = needs.number ∙ ap (λ z. posts (by z past) + 1) (sym needs.seat) in
    f.fresh (omega (arith, number))

-- members are chosen for a post at the place of its group, where there is one
chosen-end : (l : Layout) (past : List Entry) (e : Entry) (y : MsgId) (g : Ui) → MessageFacts y past → ChoiceNeeds l past e.place y g → IsEnd l y (e ∷ past) (Some (row_of past e))
chosen-end l past e y g f needs =
    record {
      row = row_of past e;
      post = asked.post;
      last = refl;
      posted = post_stays y past e asked.post asked.posted;
      group = λ p there. chosen-there l g needs.from p e.place needs.place (sym (ap (group_at l) (ap group_in asked.dest ∙ needs.group)) ∙ there);
    }
  where
    asked : IsAsked y past needs.from needs.dest
    asked = (asked_facts y past needs.from needs.dest f needs.asked).1

module _ (l : Layout) (past : List Entry) (c r s : ℕ) (before : is_legal l past ≡ true) where
  decides : (x : MsgId) (a : Act) (q : Ui) (answer : Answer) → is_legal l (entry c r s a ∷ past) ≡ true → ((z : Progress) → progress_after r a z ≡ decided r q answer z) → IsDue x q r past → After l past c r s x a
  decides x a q answer legal gives (inl t) =
      let e = entry c r s a in
      let now : progress_after r a (progress (about x past)) ≡ Decided t.from r q answer =
      gives (progress (about x past)) ∙ ap (decided r q answer) t.is
      ∙ ap (λ b. cond b (Decided t.from r q answer) Idle) (and_from (r == r) (same_ui q q) (eq-eqb r r refl) (same_ui-self q)) in
      subst (λ z. Came l x (e ∷ past) z (Some (row_of past e))) (sym now) (row_of past e, refl, refl)
  decides x a q answer legal gives (inr first) =
      let e = entry c r s a in
      let here = first_here x q r past first in
      let idle = (first_is_idle x q r past (legal_messages l past before x) here).0 in
      let now : progress_after r a (progress (about x past)) ≡ settled answer = gives (progress (about x past)) ∙ ap (decided r q answer) idle in
      subst (λ z. Came l x (e ∷ past) z (Some (row_of past e))) (sym now)
      (came-settled l x (e ∷ past) answer (row_of past e) here.message legal (sent_stays x r past e here.message here.is))

  hears : (x : MsgId) (a : Answer) → is_legal l (entry c r s (Told x a) ∷ past) ≡ true → act_may l (views past r s (Told x a)) r s (Told x a) ≡ true → After l past c r s x (Told x a)
  hears x a legal h =
      let e = entry c r s (Told x a) in
      let needs = told_needs l past r s x a h in
      let way = (subst (Stage x past) needs.is (legal_messages l past before x).stage).2 in
      subst (λ z. Came l x (e ∷ past) (told a z) (Some (row_of past e))) (sym needs.is)
      (came-settled l x (e ∷ past) a (row_of past e) way.message legal (sent_stays x r past e way.message way.is))

  step : (x : MsgId) (a : Act) → message_of a ≡ Some x → is_legal l (entry c r s a ∷ past) ≡ true → act_may l (views past r s a) r s a ≡ true → After l past c r s x a
  step x (Post m (D.Port q)) e legal h =
      let new = unsent l past r s m (D.Port q) (legal_messages l past before m.id) h in
      subst (λ y. After l past c r s y (Post m (D.Port q))) (some_is m.id x e)
      (inr (record { row = row_of past (entry c r s (Post m (D.Port q))); message = _; last = refl; sent = sent-now past c r s m q (new.unsent r) }))
  step x (Post m (D.All g)) e legal h = (row_of past (entry c r s (Post m (D.All g))), refl, refl)
  step x (Post m (D.One g)) e legal h = (row_of past (entry c r s (Post m (D.One g))), refl, refl)
  step x (Post m (D.OneAt g n)) e legal h = (row_of past (entry c r s (Post m (D.OneAt g n))), refl, refl)
  step x (Choose y g qs) e legal h =
      subst (λ z. After l past c r s z (Choose y g qs)) (some_is y x e)
      (chosen-end l past (entry c r s (Choose y g qs)) y g (legal_messages l past before y) (choose_needs l past r s y g qs h))
  step x (NoMember y g) e legal h =
      subst (λ z. After l past c r s z (NoMember y g)) (some_is y x e)
      (chosen-end l past (entry c r s (NoMember y g)) y g (legal_messages l past before y) (no_member_needs l past r s y g h))
  step x (Heard y a) e legal h = tt
  step x (Try y q to hop) e legal h = (row_of past (entry c r s (Try y q to hop)), refl, refl)
  step x (Told y a) e legal h = subst (λ z. After l past c r s z (Told y a)) (some_is y x e) (hears y a legal h)
  step x (Accept y q n) e legal h = decides x (Accept y q n) q (A.Accepted n) legal (λ z. refl) (decision_due l past r s (Accept y q n) x q refl e refl h)
  step x (Full y q n) e legal h = decides x (Full y q n) q (A.Full n) legal (λ z. refl) (decision_due l past r s (Full y q n) x q refl e refl h)
  step x (Already y q) e legal h = decides x (Already y q) q A.Already legal (λ z. refl) (decision_due l past r s (Already y q) x q refl e refl h)
  step x (ClientsFull y q) e legal h = decides x (ClientsFull y q) q A.ClientsFull legal (λ z. refl) (decision_due l past r s (ClientsFull y q) x q refl e refl h)
  step x (Stale y q k to hop) e legal h = decides x (Stale y q k to hop) q (A.Stale to hop) legal (λ z. refl) (decision_due l past r s (Stale y q k to hop) x q refl e refl h)
  step x (Early y q hop) e legal h = decides x (Early y q hop) q (A.Early hop) legal (λ z. refl) (decision_due l past r s (Early y q hop) x q refl e refl h)
  step x (NoPort y q) e legal h = decides x (NoPort y q) q A.NoPort legal (λ z. refl) (decision_due l past r s (NoPort y q) x q refl e refl h)
  step x (Elsewhere y q to hop) e legal h = decides x (Elsewhere y q to hop) q (A.Elsewhere to hop) legal (λ z. refl) (decision_due l past r s (Elsewhere y q to hop) x q refl e refl h)
  step x (Gone y q) e legal h = decides x (Gone y q) q A.Gone legal (λ z. refl) (decision_due l past r s (Gone y q) x q refl e refl h)
  step x _ e legal h = none_some x e

pub came : (l : Layout) (past : List Entry) (x : MsgId) → is_legal l past ≡ true → Came l x past (progress (about x past)) (latest (is_about (Some x)) past)
came l [] x h = inl refl
came l (e ∷ past) x h = go (is_about (Some x) e) refl (came l past x (legal_parts l e past h).1)
  where
    two : (act_may l (views past e.place e.seat e.act) e.place e.seat e.act ≡ true) × (is_legal l past ≡ true)
    two = legal_parts l e past h

    go : (b : Bool) → is_about (Some x) e ≡ b → Came l x past (progress (about x past)) (latest (is_about (Some x)) past)
        → Came l x (e ∷ past) (progress (about x (e ∷ past))) (latest (is_about (Some x)) (e ∷ past))
    go true t old =
        subst (λ o. Came l x (e ∷ past) (progress (about x (e ∷ past))) o) (sym (latest_here (is_about (Some x)) e past t))
        (subst (λ z. Came l x (e ∷ past) z (Some (row_of past e))) (sym (ap progress (keeps (is_about (Some x)) e past t)))
        (step l past e.clock e.place e.seat two.1 x e.act (id_is x (message_of e.act) t) h two.0))
    go false n old =
        subst (λ o. Came l x (e ∷ past) (progress (about x (e ∷ past))) o) (sym (latest_skips (is_about (Some x)) e past n))
        (subst (λ z. Came l x (e ∷ past) z (latest (is_about (Some x)) past)) (sym (ap progress (skips (is_about (Some x)) e past n)))
        (stays l x past e (progress (about x past)) (latest (is_about (Some x)) past) old))
