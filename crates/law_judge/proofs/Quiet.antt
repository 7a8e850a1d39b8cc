-- Nothing is open exactly where the list is quiet.
use Rattle.std.proofs.Common.{ℕ, ◌≡◌, ◌≢◌, ◌-◌, ◌==◌, length, Bool, true, false, ◌&&◌, not, if◌then◌else◌, cond, is_some, List, [], ◌∷◌, Option, Some, None, refl, sym, ◌∙◌, ap, subst, inl, inr}
use Rattle.std.proofs.lemmas.Bool.{and_parts, and_from, eqb-true, eq-eqb, false≢true, cases_Bool}
use Rattle.chorus_ui.specs.declared.ui.Ui.{Ui}
use Rattle.chorus_ui.specs.declared.layout.Layout.{Layout}
use Rattle.chorus_ui.specs.Layout.{IsLayout}
use Rattle.chorus_entry.specs.declared.entry.Entry.{Entry}
use Rattle.chorus_entry.specs.declared.id.MsgId.{MsgId}
use Rattle.chorus_entry.specs.declared.dest.Dest.{Dest}
use Rattle.chorus_entry.specs.declared.answer.Answer.{Answer}
use Rattle.chorus_entry.specs.declared.act.Act.{Act}
use Rattle.chorus_entry.specs.declared.act.Act.TheVariants.{Post, Choose, Take, Depart}
use Rattle.chorus_entry.specs.Dest.{group_in}
use Rattle.chorus_entry.specs.MsgId.{same_id}
use Rattle.chorus_entry.specs.Order.{is_at}
use Rattle.chorus_entry.proofs.Same.{same_answer-self, from_same_id}
use Rattle.chorus_world.specs.declared.place.Sent.{Sent}
use Rattle.chorus_world.specs.declared.place.TakenReply.{TakenReply}
use Rattle.chorus_world.specs.declared.progress.Progress.{Progress}
use Rattle.chorus_world.specs.declared.progress.Progress.TheVariants.{Idle, Asked, Tried, Decided, Settled, Reported}
use Rattle.chorus_world.specs.Views.{at, about, on}
use Rattle.chorus_world.specs.Messages.{progress, is_to_be_heard}
use Rattle.chorus_world.specs.Ports.{PortState, fate, is_moving, is_last, is_coming}
use Rattle.chorus_world.specs.Places.{sent, unsettled, is_settled, just_taken, reply_taken_by, last_clock, copies, find_sent}
use Rattle.chorus_world.specs.Posts.{Posted, post_of}
use Rattle.chorus_world.specs.Steps.{is_legal, is_asked_from, is_asking_place}
use Rattle.chorus_world.proofs.Steps.LegalLemmas.{keeps, skips}
use Rattle.chorus_world.proofs.Ports.LineLemmas.{none_some}
use Rattle.chorus_world.proofs.Messages.Posted.{is_idle}
use Rattle.chorus_world.proofs.Messages.SendingLemmas.{sent_as}
use Rattle.chorus_world.proofs.Messages.StageLemmas.{Stage, IsOver}
use Rattle.chorus_world.proofs.Messages.StageFacts.{StageFacts, keeps-stages}
use Rattle.chorus_world.proofs.Messages.VerdictLemmas.{verdict_about}
use Rattle.chorus_world.proofs.Messages.MessageInvariant.{legal_messages}
use Rattle.chorus_world.proofs.Messages.SentFacts.{EachSent, IsFound, each-map, all-found}
use Rattle.law_network.specs.Quiet.{IsQuiet, is_moving_port}
use Rattle.law_judge.specs.declared.open.Awaited.{Awaited}
use Rattle.law_judge.specs.declared.open.Awaited.TheVariants as W
use Rattle.law_judge.specs.declared.open.Open.TheVariants.{Message, Port, Reply}
use Rattle.law_judge.specs.Open.{awaited, is_asked_away, message_with, open_by, open_message}
use Rattle.law_judge.specs.Laws.{NothingOpenIsQuiet}
use Rattle.law_judge.proofs.Lists.{NoneOpen, none-open, nothing-open, cons-nil, all-empty}
use Rattle.law_judge.proofs.Stages.{Busy, settled-decided}
use Rattle.law_judge.proofs.Moving.{has-left}
use Rattle.law_judge.proofs.Begun.{IsClosed, IsBegun, Begins, AllBegun, all-begun, busy-closed, sent-closed}

asks-away : (l : Layout) (p : ℕ) (o : Option Posted) → is_asked_from l p o ≡ true → is_asked_away l o ≡ true
asks-away l p None h = absurd (false≢true h)
asks-away l p (Some m) h =
    let two = and_parts (m.place == p) (is_asking_place l p (group_in m.dest)) h in
    subst (λ z. is_asking_place l z (group_in m.dest) ≡ true) (sym (eqb-true m.place p two.0)) two.1

bool-false : (b : Bool) → (b ≡ true → ⊥) → b ≡ false
bool-false true h = absurd (h refl)
bool-false false h = refl

-- Where nothing is open the list is quiet.

module _ (l : Layout) (past : List Entry) (shape : IsLayout l) (legal : is_legal l past ≡ true) (none : NoneOpen l past past) where
  moves-not : (q : Ui) (o : Option PortState) → fate (on q past) ≡ o → is_moving_port o ≡ false
  moves-not q None is = refl
  moves-not q (Some f) is =
      bool-false (is_moving f.spot)
      (λ moves.
      let left = has-left l past past q f legal none is moves in
      cons-nil (Port q) [] (sym (ap (λ b. if b then Port q ∷ [] else []) (ap (is_coming left.to left.hop) is ∙ left.comes)) ∙ left.none))

  awaits : (x : MsgId) (s : Progress) (w : Awaited) → progress (about x past) ≡ s → awaited (is_asked_away l (post_of x past)) s ≡ Some w → IsClosed l past x → ⊥
  awaits x s w is some closed =
      cons-nil (Message x w) [] (sym (ap (message_with x) (ap (awaited (is_asked_away l (post_of x past))) is ∙ some)) ∙ closed)

  over : (x : MsgId) (s : Progress) → progress (about x past) ≡ s → Stage x past s → IsClosed l past x → IsOver x past
  over x Idle is stage closed = absurd (awaits x Idle W.Verdict is refl closed)
  over x (Asked from d) is stage closed = absurd (awaits x (Asked from d) W.Choice is refl closed)
  over x (Tried from q to hop) is stage closed = absurd (awaits x (Tried from q to hop) W.Verdict is refl closed)
  over x (Decided from b q a) is stage closed = absurd (awaits x (Decided from b q a) W.Told is refl closed)
  over x (Settled a) is stage closed = stage
  over x Reported is stage closed = stage

  each-settled : (p : ℕ) (ms : List Sent) → EachSent (λ m. is_settled m.id (at p past) ≡ true) ms → unsettled (at p past) ms ≡ []
  each-settled p [] h = refl
  each-settled p (m ∷ ms) h =
      skips (λ (k : Sent). not (is_settled k.id (at p past))) m ms (ap not h.0) ∙ each-settled p ms h.1

  both : (P Q : Sent → Type 0) (ms : List Sent) → EachSent P ms → EachSent Q ms → EachSent (λ m. P m × Q m) ms
  both P Q [] h k = tt
  both P Q (m ∷ ms) h k = ((h.0, k.0), both P Q ms h.1 k.1)

  settles-all : (p : ℕ) → unsettled (at p past) (sent (at p past)) ≡ []
  settles-all p =
      let ms = sent (at p past) in
      let pairs = both (IsFound ms) (λ m. IsClosed l past m.id) ms (all-found l past p legal) (sent-closed l past p past none) in
      each-settled p ms
      (each-map (λ m. IsFound ms m × IsClosed l past m.id) (λ m. is_settled m.id (at p past) ≡ true)
      (λ m k. (over m.id (progress (about m.id past)) refl (legal_messages l past legal m.id).stage k.1 p m k.0).0) ms pairs)

  chosen-all : (x : MsgId) (p : ℕ) (d : Dest) → progress (about x past) ≢ Asked p d
  chosen-all x p d is =
      awaits x (Asked p d) W.Choice is refl (busy-closed l past past x legal none (ap is_idle is))

  hears-none : (p : ℕ) (x : MsgId) (answer : Answer) → is_asked_from l p (post_of x past) && is_to_be_heard answer (progress (about x past)) ≡ false
  hears-none p x answer =
      bool-false (is_asked_from l p (post_of x past) && is_to_be_heard answer (progress (about x past)))
      (λ h. let two = and_parts (is_asked_from l p (post_of x past)) (is_to_be_heard answer (progress (about x past))) h in
      heard two.0 (progress (about x past)) refl two.1)
    where
      heard : is_asked_from l p (post_of x past) ≡ true → (s : Progress) → progress (about x past) ≡ s → is_to_be_heard answer s ≡ true → ⊥
      heard asked (Settled b) is t =
          awaits x (Settled b) W.Heard is (ap (λ z. if z then Some W.Heard else None) (asks-away l p (post_of x past) asked)) (busy-closed l past past x legal none (ap is_idle is))
      heard asked Idle is t = false≢true t
      heard asked (Asked from d) is t = false≢true t
      heard asked (Tried from q to hop) is t = false≢true t
      heard asked (Decided from b q a) is t = false≢true t
      heard asked Reported is t = false≢true t

  first-at : (p : ℕ) (older : List Entry) (e : Entry) (here : List Entry) → NoneOpen l past older → at p older ≡ e ∷ here → (e.place ≡ p) × (open_by l past e.clock e.place e.act ≡ [])
  first-at p [] e here h is = cons-nil e here (sym is)
  first-at p (f ∷ older) e here h is = go (first-at p older e here h.1) (is_at p f) refl
    where
      head-is : (g k : Entry) (gs ks : List Entry) → g ∷ gs ≡ k ∷ ks → g ≡ k
      head-is g k gs ks e = cc

      go : (at p older ≡ e ∷ here → (e.place ≡ p) × (open_by l past e.clock e.place e.act ≡ [])) → (b : Bool) → is_at p f ≡ b → (e.place ≡ p) × (open_by l past e.clock e.place e.act ≡ [])
      go rest false off = rest (sym (skips (is_at p) f older off) ∙ is)
      go rest true t =
          let same : f ≡ e = head-is f e (at p older) here (sym (keeps (is_at p) f older t) ∙ is) in
          subst (λ (z : Entry). (z.place ≡ p) × (open_by l past z.clock z.place z.act ≡ [])) same (eqb-true f.place p t, h.0)

  taken-none : (p : ℕ) → just_taken past (at p past) ≡ None
  taken-none p = by (at p past) refl
    where
      replied : (x : MsgId) (o : Option TakenReply) → (if is_some o then Reply x ∷ [] else []) ≡ [] → o ≡ None
      replied x None h = refl
      replied x (Some r) h = cons-nil (Reply x) [] h

      by-act : (c : ℕ) (e : Entry) (here : List Entry) (a : Act) → at p past ≡ e ∷ here → e.act ≡ a → e.place ≡ p → open_by l past e.clock p a ≡ [] → reply_taken_by past e.seat a ≡ None
      by-act c e here (Take q n x) is same place none' =
          replied x (reply_taken_by past e.seat (Take q n x))
          (sym (ap (λ b. if b && is_some (just_taken past (at p past)) then Reply x ∷ [] else []) (eq-eqb e.clock (last_clock (at p past)) (sym (ap last_clock is)))
          ∙ ap (λ es. if is_some (just_taken past es) then Reply x ∷ [] else []) is
          ∙ ap (λ a. if is_some (reply_taken_by past e.seat a) then Reply x ∷ [] else []) same) ∙ none')
      by-act c e here _ is same place none' = refl

      by : (es : List Entry) → at p past ≡ es → just_taken past es ≡ None
      by [] is = refl
      by (e ∷ here) is =
          let two = first-at p past e here none is in
          by-act e.clock e here e.act is refl two.0 (subst (λ z. open_by l past e.clock z e.act ≡ []) two.0 two.1)

  is-quiet : IsQuiet l past []
  is-quiet = record {
    packets = refl;
    ports = λ q. moves-not q (fate (on q past)) refl;
    messages = settles-all;
    posts = chosen-all;
    reports = λ p x answer. hears-none p x answer;
    replies = taken-none;
  }

-- Where the list is quiet nothing is open.

settled-of : (x : MsgId) (here : List Entry) (ms : List Sent) (m : Sent) → unsettled here ms ≡ [] → find_sent x ms ≡ Some m → is_settled x here ≡ true
settled-of x here [] m h found = none_some m found
settled-of x here (k ∷ ms) m h found =
    elim (cases_Bool (is_settled k.id here)) [
      | inl t ↦ elim (cases_Bool (same_id k.id x)) [
        | inl same ↦ subst (λ z. is_settled z here ≡ true) (from_same_id k.id x same) t
        | inr other ↦ settled-of x here ms m (sym (skips (λ (j : Sent). not (is_settled j.id here)) k ms (ap not t)) ∙ h)
            (sym (ap (λ b. cond b (Some k) (find_sent x ms)) other) ∙ found)
      ]
      | inr n ↦ cons-nil k (unsettled here ms) (sym (keeps (λ (j : Sent). not (is_settled j.id here)) k ms (ap not n)) ∙ h)
    ]

module _ (l : Layout) (past : List Entry) (shape : IsLayout l) (legal : is_legal l past ≡ true) (quiet : IsQuiet l past []) where
  settles : (x : MsgId) (p : ℕ) (m : Sent) → sent_as x p past ≡ Some m → is_settled x (at p past) ≡ true
  settles x p m found = settled-of x (at p past) (sent (at p past)) m (quiet.messages p) found

  heard-of : (x : MsgId) (a : Answer) (o : Option Posted) → post_of x past ≡ o → progress (about x past) ≡ Settled a → is_asked_away l o ≡ true → ⊥
  heard-of x a None is at-end away = false≢true away
  heard-of x a (Some m) is at-end away =
      let asked : is_asked_from l m.place (post_of x past) ≡ true = ap (is_asked_from l m.place) is ∙ and_from (m.place == m.place) (is_asking_place l m.place (group_in m.dest)) (eq-eqb m.place m.place refl) away in
      let told : is_to_be_heard a (progress (about x past)) ≡ true = ap (is_to_be_heard a) at-end ∙ same_answer-self a in
      false≢true (sym (quiet.reports m.place x a) ∙ and_from (is_asked_from l m.place (post_of x past)) (is_to_be_heard a (progress (about x past))) asked told)

  shut : (x : MsgId) → IsBegun past x → (s : Progress) → progress (about x past) ≡ s → Stage x past s → StageFacts l past x s → awaited (is_asked_away l (post_of x past)) s ≡ None
  shut x (inl sent') Idle is stage facts =
      absurd (settled-decided l past x sent'.0 legal (settles x sent'.0 sent'.1 sent'.2) (verdict_about x past ∙ stage.verdict))
  shut x (inr busy) Idle is stage facts = absurd (subst Busy is busy)
  shut x begun (Asked from d) is stage facts = absurd (quiet.posts x from d is)
  shut x begun (Tried from q to hop) is stage facts =
      let way = stage.1 in absurd (false≢true (sym stage.2 ∙ settles x from way.message way.is))
  shut x begun (Decided from b q a) is stage facts =
      let way = stage.2 in absurd (false≢true (sym facts.1 ∙ settles x from way.message way.is))
  shut x begun (Settled a) is stage facts =
      ap (λ z. if z then Some W.Heard else None) (bool-false (is_asked_away l (post_of x past)) (heard-of x a (post_of x past) refl is))
  shut x begun Reported is stage facts = refl

  closed : (x : MsgId) → IsBegun past x → IsClosed l past x
  closed x begun =
      ap (message_with x)
      (shut x begun (progress (about x past)) refl (legal_messages l past legal x).stage (keeps-stages l past x shape legal))

  comes-not : (q : Ui) (to hop : ℕ) (o : Option PortState) → is_moving_port o ≡ false → (if is_coming to hop o then Port q ∷ [] else []) ≡ []
  comes-not q to hop None h = refl
  comes-not q to hop (Some f) h =
      ap (λ z. if z && is_last to f && (hop == length f.path - 1) then Port q ∷ [] else []) h

  and-none : (b : Bool) (x : MsgId) → (if b && false then Reply x ∷ [] else []) ≡ []
  and-none true x = refl
  and-none false x = refl

  act-none : (c p : ℕ) (a : Act) → Begins past a → open_by l past c p a ≡ []
  act-none c p (Post m d) h = closed m.id h
  act-none c p (Choose x g qs) h =
      all-empty (λ m. open_message l past m.id) (copies x g 1 qs)
      (each-map (λ m. IsBegun past m.id) (λ m. IsClosed l past m.id) (λ m. closed m.id) (copies x g 1 qs) h)
  act-none c p (Depart q to a hop) h = comes-not q to hop (fate (on q past)) (quiet.ports q)
  act-none c p (Take q n x) h =
      ap (λ o. if (c == last_clock (at p past)) && is_some o then Reply x ∷ [] else []) (quiet.replies p)
      ∙ and-none (c == last_clock (at p past)) x
  act-none c p _ h = refl

  none-of : (older : List Entry) → AllBegun past older → NoneOpen l past older
  none-of [] h = tt
  none-of (e ∷ older) h = (act-none e.clock e.place e.act h.0, none-of older h.1)

pub nothing_open_is_quiet : NothingOpenIsQuiet
nothing_open_is_quiet l past shape legal = (
  λ h. is-quiet l past shape legal (none-open l past past h),
  λ quiet. nothing-open l past past (none-of l past shape legal quiet past (all-begun l past legal)),
)
