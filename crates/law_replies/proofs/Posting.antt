-- What follows on a post in its turn, and the reply to it. A place between turns is ready, so a post waits behind others, or goes
-- alone.
-- x is the id of the post, `rest` are the entries behind the Post, the newest first.
use Rattle.std.proofs.Common.{ℕ, ◌≡◌, ◌≤◌, ◌+◌, ◌==◌, nat_lt, Bool, true, false, cond, List, [], ◌∷◌, ◌++◌, length, drop, Option, Some, None, refl, sym, ◌∙◌, ap, subst, inl, inr, ◌⊎◌, append_assoc, arith}
use Rattle.std.specs.List.{All}
use Rattle.std.proofs.lemmas.List.Elements.{All-nil, All-cons, All-push, All-head, All-tail}
use Rattle.chorus_ui.specs.declared.ui.Ui.{Ui}
use Rattle.chorus_entry.specs.declared.entry.Entry.{Entry}
use Rattle.chorus_entry.specs.declared.id.MsgId.{MsgId}
use Rattle.chorus_entry.specs.declared.dest.Dest.{Dest}
use Rattle.chorus_entry.specs.declared.dest.Dest.TheVariants as dests
use Rattle.chorus_entry.specs.declared.message.Message.{Message}
use Rattle.chorus_entry.specs.declared.act.Act.{Act}
use Rattle.chorus_entry.specs.declared.act.Act.TheVariants as acts
use Rattle.chorus_entry.specs.declared.answer.Answer.{Answer}
use Rattle.chorus_entry.specs.declared.answer.Answer.TheVariants as A
use Rattle.chorus_entry.specs.declared.packet.Cargo.TheVariants as cargos
use Rattle.chorus_entry.specs.declared.record.PortRecord.{PortRecord}
use Rattle.chorus_entry.specs.Act.{answer_of, message_of}
use Rattle.chorus_world.specs.declared.place.Location.{Location}
use Rattle.chorus_world.specs.Places.{is_deleted}
use Rattle.chorus_world.specs.Steps.{is_beyond}
use Rattle.chorus_ports.specs.declared.deciding.Accept.{Accept}
use Rattle.chorus_ports.specs.declared.deciding.Accept.TheVariants as accepts
use Rattle.chorus_ports.specs.Deciding.{answer_to}
use Rattle.chorus_ports.specs.Table.{find}
use Rattle.place_unsettled.specs.declared.wait.Key.{Key}
use Rattle.place_unsettled.specs.declared.wait.Wait.{Wait}
use Rattle.place_unsettled.specs.Queues.{Queue, changed, passed, with_last, same_key, at}
use Rattle.law_machine.specs.declared.reply.Reply.{Reply}
use Rattle.law_machine.specs.PlaceState.{PlaceState, Turn, Change, newest, unchanged, say, next_entry}
use Rattle.law_machine.specs.Deciding as deciding
use Rattle.law_machine.specs.Deciding.{decide, decision, answer_in, answer_away}
use Rattle.law_machine.specs.Trying.{report, settles_here, tries_at, verdict_here, tries, goes_on, goes_unless, go}
use Rattle.law_machine.specs.Choosing.{choice, by_group, copy, with_copies, all_go, chooses_all, chooses_these}
use Rattle.law_machine.specs.Doing.{poster, direct, post, posts_direct, chooses_own, choosing_place, asks, posts_to_group, posts}
use Rattle.law_machine.specs.Replies.{decided_reply, post_reply, choice_reply, group_reply, posted_reply}
use Rattle.law_machine.proofs.Machine.Queues.{wait_for, at-key, go-goes}
use Rattle.law_machine.proofs.Machine.Ready.{ReadyAt}

-- this act about x may follow on its Post
abbrev pub IsStep : MsgId → Act → Type 0
IsStep x (acts.Accept y q n) = y ≡ x
IsStep x (acts.Full y q n) = y ≡ x
IsStep x (acts.Early y q hop) = y ≡ x
IsStep x (acts.NoPort y q) = y ≡ x
IsStep x (acts.Already y q) = y ≡ x
IsStep x (acts.ClientsFull y q) = y ≡ x
IsStep x (acts.Gone y q) = y ≡ x
IsStep x (acts.Try y q to hop) = y ≡ x
IsStep x (acts.Choose y g qs) = y ≡ x
IsStep x (acts.NoMember y g) = y ≡ x
IsStep x _ = ⊥

-- and then the reply is this one
abbrev pub answered : MsgId → Act → Reply
answered x (acts.Choose y g qs) = Reply.Chosen x (length qs)
answered x (acts.NoMember y g) = Reply.NoMember x
answered x a = decided_reply x (answer_of a)

abbrev pub IsOther : MsgId → Act → Type 0
IsOther x a = message_of a ≡ Some x → ⊥

-- an act about x follows, and then others
pub record Goes (x : MsgId) (rest : List Entry) (r : Reply) : Type 0 where
  pub newer : List Entry
  pub entry : Entry
  pub is : rest ≡ newer ++ entry ∷ []
  pub others : All (λ (e : Entry). IsOther x e.act) newer
  pub step : IsStep x entry.act
  pub reply : r ≡ answered x entry.act

-- nothing follows, or such acts do
abbrev pub Becomes : MsgId → List Entry → Reply → Type 0
Becomes x rest r = ((rest ≡ []) × (r ≡ Reply.Posted x)) ⊎ Goes x rest r

-- from the turn t on the post m is followed by this
abbrev pub Posted : Message → Dest → Turn → Turn → Reply → Type 0
Posted m d t u r = (rest : List Entry) × ((u.place.journal ≡ rest ++ next_entry (acts.Post m d) t ∷ t.place.journal) × Becomes m.id rest r)

-- A post to a port.

-- the answers that a message for any site may have where it is tried first
abbrev IsPlain : Answer → Type 0
IsPlain (A.Stale to hop) = ⊥
IsPlain (A.Elsewhere to hop) = ⊥
IsPlain A.NoMember = ⊥
IsPlain (A.Chosen count) = ⊥
IsPlain _ = Unit {0}

decision-step : (x : MsgId) (q : Ui) (h : ℕ) (a : Answer) → IsPlain a → IsStep x (decision x q h a)
decision-step x q h (A.Accepted n) p = refl
decision-step x q h (A.Stale to hop) p = absurd p
decision-step x q h (A.Elsewhere to hop) p = absurd p
decision-step x q h A.NoMember p = absurd p
decision-step x q h (A.Chosen count) p = absurd p
decision-step x q h _ p = refl

decision-answered : (x : MsgId) (q : Ui) (h : ℕ) (a : Answer) → decided_reply x (answer_of (decision x q h a)) ≡ answered x (decision x q h a)
decision-answered x q h (A.Accepted n) = refl
decision-answered x q h _ = refl

decision-about : (x : MsgId) (q : Ui) (h : ℕ) (a : Answer) → message_of (decision x q h a) ≡ Some x
decision-about x q h (A.Accepted n) = refl
decision-about x q h _ = refl

not-below : (n : ℕ) → nat_lt n n ≡ false
not-below n = grind arith

-- where the place tries the newest location that it knows, none is newer
plain-decide : (m : Message) (q : Ui) (s : PlaceState) → IsPlain (decide m q None (newest s q).hop s)
plain-decide m q s = by (find q s.ports)
  where
    held : (a : Accept) → IsPlain (answer_in a)
    held (accepts.Accepted n) = tt
    held (accepts.Already n) = tt
    held (accepts.ClientsFull n) = tt
    held (accepts.Full len n) = tt

    last : (b : Bool) (hop : ℕ) → IsPlain (cond b A.NoPort (A.Early hop))
    last true hop = tt
    last false hop = tt

    away : (newer : Location) → IsPlain (answer_away s.number None newer.hop newer)
    away newer =
        subst (λ b. IsPlain (cond b (cond (newer.to == s.number) (A.Early newer.hop) (A.Stale newer.to newer.hop)) (cond (newer.hop == 0) A.NoPort (A.Early newer.hop))))
        (sym (not-below newer.hop)) (last (newer.hop == 0) newer.hop)

    gone : (b : Bool) (a : Answer) → IsPlain a → IsPlain (cond b A.Gone a)
    gone true a p = tt
    gone false a p = p

    by : (o : Option PortRecord) → IsPlain (deciding.answer_of m q None (newest s q).hop s o)
    by (Some port) = held (answer_to m port)
    by None = gone (is_deleted q s.journal) (answer_away s.number None (newest s q).hop (newest s q)) (away (newest s q))

plain-here : (m : Message) (q : Ui) (p : ℕ) (s : PlaceState) (a : Answer) → verdict_here (direct q) (post m p) (newest s q) s ≡ Some a → IsPlain a
plain-here m q p s a h = by (is_beyond s.layout q) ((newest s q).to == s.number) h
  where
    by : (b c : Bool) → cond b (Some A.NoPort) (cond c (Some (decide m q None (newest s q).hop s)) None) ≡ Some a → IsPlain a
    by true c e = let same : A.NoPort ≡ a = cc in subst IsPlain same tt
    by false true e = let same : decide m q None (newest s q).hop s ≡ a = cc in subst IsPlain same (plain-decide m q s)
    by false false e = absurd (cc)

module _ (m : Message) (q : Ui) (t : Turn) (ready : ReadyAt (direct q) t) where
  abbrev k : Key
  k = direct q

  abbrev w : Wait
  w = post m t.place.number

  abbrev change : Change
  change = record (unchanged t) {
    caller = poster m (dests.Port q) t.caller;
    waiting = changed (direct q) (with_last (post m t.place.number)) t.place.waiting;
  }

  abbrev t1 : Turn
  t1 = say (acts.Post m (dests.Port q)) change t

  abbrev Result : Turn → Type 0
  Result u = Posted m (dests.Port q) t u (post_reply m.id u.place.journal)

  queue-is : t1.place.waiting k ≡ with_last w (t.place.waiting k)
  queue-is = at-key k (with_last w) t.place.waiting

  -- it goes alone
  goes-alone : (o : Option Answer) → verdict_here k w (newest t1.place q) t1.place ≡ o → Result (tries k w (newest t1.place q) (goes_on k []) o t1)
  goes-alone None e =
      let it = next_entry (acts.Try m.id q (newest t1.place q).to (newest t1.place q).hop) t1 in
      (it ∷ [], (refl, inr (record { newer = []; entry = it; is = refl; others = All-nil (λ (e : Entry). IsOther m.id e.act); step = refl; reply = refl })))
  goes-alone (Some a) e =
      let hop = (newest t1.place q).hop in
      let it = next_entry (decision m.id q hop a) t1 in (
        it ∷ [],
        (
          refl,
          inr (record {
            newer = [];
            entry = it;
            is = refl;
            others = All-nil (λ (e : Entry). IsOther m.id e.act);
            step = decision-step m.id q hop a (plain-here m q t.place.number t1.place a e);
            reply = decision-answered m.id q hop a;
          }),
        ),
      )

  pub direct-becomes : Result (posts_direct m q t)
  direct-becomes = by (t.place.waiting k).tried refl
    where
      by : (o : Option ℕ) → (t.place.waiting k).tried ≡ o → Result (go k t1)
      by (Some to) e =
          let stays : go k t1 ≡ t1 = ap (λ (z : Queue). goes_unless k z.tried z.waits t1) queue-is ∙ ap (λ o. goes_unless k o (with_last w (t.place.waiting k)).waits t1) e in
          subst Result (sym stays) ([], (refl, inl (refl, refl)))
      by None e =
          let alone : go k t1 ≡ goes_on k (w ∷ []) t1 =
          ap (λ (z : Queue). goes_unless k z.tried z.waits t1) queue-is
          ∙ (ap (λ o. goes_unless k o (with_last w (t.place.waiting k)).waits t1) e ∙ ap (λ ws. goes_on k (ws ++ w ∷ []) t1) (ready e)) in
          subst Result (sym alone) (goes-alone (verdict_here k w (newest t1.place q) t1.place) refl)

-- A post to a group.

-- where nothing of it is under way, x does not wait in the queue
abbrev NotIn : MsgId → Queue → Type 0
NotIn x queue = queue.tried ≡ None → All (λ (w : Wait). w.message.id ≡ x → ⊥) queue.waits

-- behind `base` only acts that are not about x, and x waits for none of the group's members
record Apart (x : MsgId) (g : Ui) (base : List Entry) (t : Turn) : Type 0 where
  pub newer : List Entry
  pub journal : t.place.journal ≡ newer ++ base
  pub others : All (λ (e : Entry). IsOther x e.act) newer
  pub queues : (q : Ui) → NotIn x (t.place.waiting (by_group g q))

abbrev Absent : MsgId → Wait → Type 0
Absent x w = w.message.id ≡ x → ⊥

module _ (x : MsgId) (g : Ui) (base : List Entry) where
  one-more : (a : Act) (c : Change) (t : Turn) → IsOther x a → Apart x g base t → ((q : Ui) → NotIn x (c.waiting (by_group g q))) → Apart x g base (say a c t)
  one-more a c t n h queues =
      record {
        newer = next_entry a t ∷ h.newer;
        journal = ap (λ es. next_entry a t ∷ es) h.journal;
        others = All-cons (λ (e : Entry). IsOther x e.act) (next_entry a t) h.newer n h.others;
        queues = queues;
      }

  -- those that wait for a member are others, where the first of them goes
  all-absent : (q : Ui) (w : Wait) (ws : List Wait) (t : Turn) → wait_for (by_group g q) (w ∷ ws) t → Apart x g base t → All (Absent x) (w ∷ ws)
  all-absent q w ws t e h = let none : NotIn x (record { tried = None; waits = w ∷ ws }) = subst (NotIn x) e (h.queues q) in none refl

  about-other : (a : Act) (y : MsgId) → message_of a ≡ Some y → (y ≡ x → ⊥) → IsOther x a
  about-other a y is n h = n (let same : Some y ≡ Some x = sym is ∙ h in cc)

  changed-apart : (k : Key) (f : Queue → Queue) (queues : Key → Queue) → NotIn x (f (queues k)) → ((q : Ui) → NotIn x (queues (by_group g q))) → (q : Ui) → NotIn x (changed k f queues (by_group g q))
  changed-apart k f queues now old q = by (same_key k (by_group g q))
    where
      by : (b : Bool) → NotIn x (cond b (f (queues k)) (queues (by_group g q)))
      by true = now
      by false = old q

  settles-apart : (q : Ui) (w : Wait) (ws : List Wait) (h : ℕ) (a : Answer) (t : Turn) → wait_for (by_group g q) (w ∷ ws) t → Apart x g base t → Apart x g base (settles_here (by_group g q) w h a t)
  settles-apart q w ws h a t e p =
      let k = by_group g q in
      let absent = all-absent q w ws t e p in
      let c : Change = record (unchanged t) {
        ports = deciding.records_after a w.message k.port t.place.ports;
        waiting = changed k passed t.place.waiting;
        loads = report t.place.number w.home w.message.id a;
      } in
      one-more (decision w.message.id q h a) c t
      (about-other (decision w.message.id q h a) w.message.id (decision-about w.message.id q h a) (All-head (Absent x) w ws absent)) p
      (changed-apart k passed t.place.waiting (λ none. subst (λ (z : Queue). All (Absent x) (drop 1 z.waits)) (sym e) (All-tail (Absent x) w ws absent)) p.queues)

  leaves-apart : (q : Ui) (w : Wait) (ws : List Wait) (l : Location) (t : Turn) → wait_for (by_group g q) (w ∷ ws) t → Apart x g base t → Apart x g base (tries_at (by_group g q) w l t)
  leaves-apart q w ws l t e p =
      let k = by_group g q in
      let c : Change = record (unchanged t) {
        waiting = changed k (at (Some l.to)) t.place.waiting;
        loads = (l.to, cargos.Try w.message k.port k.route w.only l.hop) ∷ [];
      } in
      one-more (acts.Try w.message.id q l.to l.hop) c t (about-other (acts.Try w.message.id q l.to l.hop) w.message.id refl (All-head (Absent x) w ws (all-absent q w ws t e p))) p
      (changed-apart k (at (Some l.to)) t.place.waiting (λ none. absurd (let bad : Some l.to ≡ None = none in cc)) p.queues)

  all-go-apart : (qs : List Ui) (t : Turn) → Apart x g base t → Apart x g base (all_go g qs t)
  all-go-apart [] t p = p
  all-go-apart (q ∷ qs) t p =
      all-go-apart qs (go (by_group g q) t)
      (go-goes (by_group g q) (Apart x g base) (λ w ws a u e f. settles-apart q w ws (newest u.place q).hop a u e)
      (λ w ws u e f. leaves-apart q w ws (newest u.place q) u e) t p)

-- the copies of a post are others than the post
copies-apart : (m : Message) (d : Dest) (g : Ui) (home n : ℕ) (qs : List Ui) (queues : Key → Queue) → m.id.copy ≡ 0 → 1 ≤ n → ((q : Ui) → NotIn m.id (queues (by_group g q))) → (q : Ui) → NotIn m.id (with_copies m d g home n qs queues (by_group g q))
copies-apart m d g home n [] queues z le old = old
copies-apart m d g home n (r ∷ qs) queues z le old =
    copies-apart m d g home (n + 1) qs (changed (by_group g r) (with_last (copy m d home n)) queues) z (omega (arith, le))
    (changed-apart m.id g [] (by_group g r) (with_last (copy m d home n)) queues
    (λ none. All-push (Absent m.id) (queues (by_group g r)).waits (copy m d home n) (old r none) (λ same. let number : n ≡ m.id.copy = ap (λ (y : MsgId). y.copy) same in omega (arith, number, z, le)))
    old)

module _ (m : Message) (d : Dest) (g : Ui) (t : Turn) (ready : (q : Ui) → ReadyAt (by_group g q) t) (z : m.id.copy ≡ 0) where
  abbrev posted : Turn
  posted = say (acts.Post m d) (record (unchanged t) { caller = poster m d t.caller }) t

  apart-before : (q : Ui) → NotIn m.id (t.place.waiting (by_group g q))
  apart-before q none = subst (All (Absent m.id)) (sym (ready q none)) (All-nil (Absent m.id))

  these-become : (qs : List Ui) → Posted m d t (chooses_these m d g t.place.number qs posted) (choice_reply m.id qs)
  these-become [] =
      let it = next_entry (acts.NoMember m.id g) posted in
      (it ∷ [], (refl, inr (record { newer = []; entry = it; is = refl; others = All-nil (λ (e : Entry). IsOther m.id e.act); step = refl; reply = refl })))
  these-become (q ∷ qs) =
      let it = next_entry (acts.Choose m.id g (q ∷ qs)) posted in
      let base = it ∷ next_entry (acts.Post m d) t ∷ t.place.journal in
      let h = all-go-apart m.id g base (q ∷ qs) (chooses_all m d g t.place.number (q ∷ qs) posted) (record {
        newer = [];
        journal = refl;
        others = All-nil (λ (e : Entry). IsOther m.id e.act);
        queues = copies-apart m d g t.place.number 1 (q ∷ qs) t.place.waiting z (omega arith) apart-before;
      }) in (
        h.newer ++ it ∷ [],
        (
          h.journal ∙ sym (append_assoc h.newer (it ∷ []) (next_entry (acts.Post m d) t ∷ t.place.journal)),
          inr (record { newer = h.newer; entry = it; is = refl; others = h.others; step = refl; reply = refl }),
        ),
      )

  -- the choice is that of the place before the turn
  choice-same : (c : Dest) → choice c posted.place ≡ choice c t.place
  choice-same (dests.Port q) = refl
  choice-same (dests.All f) = refl
  choice-same (dests.One f) = refl
  choice-same (dests.OneAt f site) = refl

  pub group-becomes : Posted m d t (posts_to_group m d g t) (group_reply m.id d g t.place)
  group-becomes = by (choosing_place t.place g == t.place.number)
    where
      by : (b : Bool) → Posted m d t (cond b (chooses_own m d g t) (asks m d (choosing_place t.place g) t)) (cond b (choice_reply m.id (choice d t.place)) (Reply.Posted m.id))
      by true =
          subst (λ qs. Posted m d t (chooses_own m d g t) (choice_reply m.id qs)) (choice-same d) (these-become (choice d posted.place))
      by false = ([], (refl, inl (refl, refl)))

-- Any post.
pub posts-become : (m : Message) (d : Dest) (t : Turn) → ((k : Key) → ReadyAt k t) → m.id.copy ≡ 0 → Posted m d t (posts m d t) (posted_reply m.id d t (posts m d t))
posts-become m (dests.Port q) t ready z = direct-becomes m q t (ready (direct q))
posts-become m (dests.All g) t ready z = group-becomes m (dests.All g) g t (λ q. ready (by_group g q)) z
posts-become m (dests.One g) t ready z = group-becomes m (dests.One g) g t (λ q. ready (by_group g q)) z
posts-become m (dests.OneAt g site) t ready z = group-becomes m (dests.OneAt g site) g t (λ q. ready (by_group g q)) z
