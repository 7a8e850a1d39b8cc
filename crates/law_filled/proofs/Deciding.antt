-- Where a seat only fills ports, each decides on the messages for it in the order in which they were posted, and each
-- answer is that it accepts the message or is full.
-- l is a layout, n the room of a port, s the seat, q a port, x an id. A past has its newest entry first.
use Rattle.std.proofs.Common.{ℕ, ◌≡◌, ◌<◌, ◌==◌, ◌⊎◌, inl, inr, Bool, true, false, ◌&&◌, not, cond, List, [], ◌∷◌, ◌++◌, append-nil, Option, Some, None, refl, sym, ◌∙◌, ap, subst}
use Rattle.std.specs.Option.{option_or, is_some}
use Rattle.std.proofs.lemmas.Bool.{and_parts, false≢true, or_cases}
use Rattle.chorus_ui.specs.declared.ui.Ui.{Ui}
use Rattle.chorus_ui.specs.declared.layout.Layout.{Layout}
use Rattle.chorus_ui.specs.Layout.{has_site}
use Rattle.chorus_ui.specs.Name.{same_ui}
use Rattle.chorus_ui.proofs.Names.{from_same_ui, same_ui-self}
use Rattle.chorus_entry.specs.declared.entry.Entry.{Entry}
use Rattle.chorus_entry.specs.declared.id.MsgId.{MsgId}
use Rattle.chorus_entry.specs.declared.answer.Answer.{Answer}
use Rattle.chorus_entry.specs.declared.answer.Answer.TheVariants as A
use Rattle.chorus_entry.specs.declared.act.Act.{Act}
use Rattle.chorus_entry.specs.Act.{is_verdict, answer_of, message_of}
use Rattle.chorus_entry.specs.Answer.{is_final}
use Rattle.chorus_entry.specs.Clients.{is_repeated, is_one_too_many}
use Rattle.chorus_entry.specs.MsgId.{same_id}
use Rattle.chorus_entry.specs.Order.{is_at}
use Rattle.chorus_entry.specs.Same.{are_same}
use Rattle.chorus_entry.proofs.Same.{same_id-self}
use Rattle.chorus_world.specs.declared.place.Sent.{Sent}
use Rattle.chorus_world.specs.Views.{views, at, about, on}
use Rattle.chorus_world.specs.Clients.{is_already, finds_clients_full, clients_kept}
use Rattle.chorus_world.specs.Messages.{verdict, verdict_by}
use Rattle.chorus_world.specs.Ports.{fate, is_made, is_coming, is_ended_at}
use Rattle.chorus_world.specs.Places.{sent, settles, is_settled, located, is_first, is_location}
use Rattle.chorus_world.specs.Posts.{site_asked}
use Rattle.chorus_world.specs.Steps.{act_may, is_legal, due, is_due, is_due_with, is_early, is_beyond, meets, is_elsewhere}
use Rattle.chorus_world.proofs.Steps.LegalLemmas.{entry, legal_parts}
use Rattle.chorus_world.proofs.Ports.LineLemmas.{none_some, id_is}
use Rattle.chorus_world.proofs.Messages.SendingLemmas.{sent_as, from_or, or_some, some_is, sent_stays, ahead_stays}
use Rattle.chorus_world.proofs.Messages.MessageInvariant.{legal_messages}
use Rattle.chorus_world.proofs.Messages.DueLemmas.{due_accept, due_full, due_no_port}
use Rattle.chorus_world.proofs.Messages.AcceptedLemmas.{IsWaiting, due_waits, Belongs}
use Rattle.chorus_world.proofs.Messages.PostLemmas.{no_member_needs}
use Rattle.chorus_world.proofs.Messages.VerdictLemmas.{verdict_about}
use Rattle.chorus_world.proofs.Messages.SentFacts.{found-has}
use Rattle.chorus_world.proofs.Messages.Told.{tells_the_verdict}
use Rattle.chorus_world.proofs.Seats.SenderLaws.{accepted_first, numbers_in_order, same_home}
use Rattle.law_filled.specs.Filled.{messages_to, ids, AllFill}
use Rattle.law_filled.proofs.Facts.{Has, has-left, has-right, Each, each-of, each-both, each-weaker, Rising, rising-push, IsSent, IsListed, plain, no-site, no-asking, not-coming, not-ended, stays, all-sent, all-listed, found-id, direct}

-- Which answers are given.

-- the port accepts it, or is full
pub record AcceptsOrIsFull (x : MsgId) (a : Act) : Type 0 where
  pub port : Ui
  pub number : ℕ
  pub is : (a ≡ Act.Accept x port number) ⊎ (a ≡ Act.Full x port number)

module _ (l : Layout) (n s : ℕ) (past : List Entry) (h : is_legal l past ≡ true) (f : AllFill l n s past) where
  waits-sent : (x : MsgId) (q : Ui) (w : IsWaiting x q past) → IsSent l past w.message
  waits-sent x q w = found-has (IsSent l past) x (sent (at w.place past)) w.message (all-sent l n s past w.place h f) w.is

  not-already : (x : MsgId) (q : Ui) → is_already x past (on q past) ≡ true → ⊥
  not-already x q k = false≢true (sym (ap (λ t. is_repeated x.seat t (clients_kept past (on q past))) (plain l n s past f x)) ∙ k)

  not-clients-full : (x : MsgId) (q : Ui) → finds_clients_full x past (on q past) ≡ true → ⊥
  not-clients-full x q k = false≢true (sym (ap (λ t. is_one_too_many x.seat t (clients_kept past (on q past))) (plain l n s past f x)) ∙ k)

  not-no-port : (p seat : ℕ) (x : MsgId) (q : Ui) → act_may l (views past p seat (Act.NoPort x q)) p seat (Act.NoPort x q) ≡ true → ⊥
  not-no-port p seat x q may =
      let v = views past p seat (Act.NoPort x q) in
      let w = due_waits x q p past (legal_messages l past h x) (due_no_port l past p seat x q may) in
      let i = waits-sent x q w in
      let made : is_made (fate (on q past)) ≡ true = subst (λ z. is_made (fate (on z past)) ≡ true) w.port i.made in
      let site : has_site l q.site ≡ true = subst (λ (z : Ui). has_site l z.site ≡ true) w.port i.site in
      let d = is_due_with (λ h. h == 0) (due l v p x q) in
      elim (or_cases (d && not (is_made (fate (on q past)))) (is_beyond l q && is_first x q (at p past)) may) [
        | inl a ↦ false≢true (sym (ap not made) ∙ (and_parts d (not (is_made (fate (on q past)))) a).1)
        | inr b ↦ false≢true (sym (ap not site) ∙ (and_parts (is_beyond l q) (is_first x q (at p past)) b).0)
      ]

  -- a verdict is one of these two
  verdict-is : (p seat : ℕ) (a : Act) (x : MsgId) → act_may l (views past p seat a) p seat a ≡ true → is_verdict a ≡ true → message_of a ≡ Some x → AcceptsOrIsFull x a
  verdict-is p seat (Act.Accept y q m) x may v is = let same : y ≡ x = some_is y x is in record { port = q; number = m; is = inl (ap (λ z. Act.Accept z q m) same) }
  verdict-is p seat (Act.Full y q m) x may v is = let same : y ≡ x = some_is y x is in record { port = q; number = m; is = inr (ap (λ z. Act.Full z q m) same) }
  verdict-is p seat (Act.Already y q) x may v is = absurd (not-already y q (and_parts (meets l (views past p seat (Act.Already y q)) p y q) (is_already y past (on q past)) may).1)
  verdict-is p seat (Act.ClientsFull y q) x may v is = absurd (not-clients-full y q (and_parts (meets l (views past p seat (Act.ClientsFull y q)) p y q) (finds_clients_full y past (on q past)) may).1)
  verdict-is p seat (Act.Early y q hop) x may v is =
      let z = views past p seat (Act.Early y q hop) in
      absurd (not-coming n p hop (fate (on q past)) (stays l n s past q h f) (and_parts (is_due_with (is_early p hop (located l q (at p past))) (due l z p y q)) (is_coming p hop (fate (on q past))) may).1)
  verdict-is p seat (Act.NoPort y q) x may v is = absurd (not-no-port p seat y q may)
  verdict-is p seat (Act.Elsewhere y q to hop) x may v is =
      let z = views past p seat (Act.Elsewhere y q to hop) in
      let asked = (and_parts (is_some (site_asked y past)) (is_location to hop (located l q (at p past))) (and_parts (is_some (site_asked y past) && is_location to hop (located l q (at p past))) (is_elsewhere l z p y q to hop) may).0).0 in
      absurd (false≢true (sym (ap is_some (no-site l n s past f y)) ∙ asked))
  verdict-is p seat (Act.Gone y q) x may v is =
      let z = views past p seat (Act.Gone y q) in
      absurd (not-ended n p (fate (on q past)) (stays l n s past q h f) (and_parts (is_due (due l z p y q)) (is_ended_at p (fate (on q past))) may).1)
  verdict-is p seat (Act.NoMember y g) x may v is = absurd (no-asking l n s past f p y g h (no_member_needs l past p seat y g may))
  verdict-is p seat _ x may v is = absurd (false≢true v)

-- Decisions.

-- the messages on which a port decided so, in order
abbrev pub decided_to : Ui → Act → List MsgId
decided_to q (Act.Accept x r m) = cond (same_ui q r) (x ∷ []) []
decided_to q (Act.Full x r m) = cond (same_ui q r) (x ∷ []) []
decided_to q _ = []

abbrev pub decisions_to : Ui → List Entry → List MsgId
decisions_to q [] = []
decisions_to q (e ∷ past) = decisions_to q past ++ decided_to q e.act

-- What was told or decided at a place is a verdict.

answer-there : (a : Act) → is_verdict a ≡ true → (r : Answer) × (answer_of a ≡ Some r)
answer-there (Act.Accept y q m) v = (A.Accepted m, refl)
answer-there (Act.Full y q m) v = (A.Full m, refl)
answer-there (Act.Already y q) v = (A.Already, refl)
answer-there (Act.ClientsFull y q) v = (A.ClientsFull, refl)
answer-there (Act.Early y q hop) v = (A.Early hop, refl)
answer-there (Act.NoPort y q) v = (A.NoPort, refl)
answer-there (Act.Elsewhere y q to hop) v = (A.Elsewhere to hop, refl)
answer-there (Act.Gone y q) v = (A.Gone, refl)
answer-there (Act.NoMember y g) v = (A.NoMember, refl)
answer-there _ v = absurd (false≢true v)

or-some : (o : Option Answer) (a : Answer) → (b : Answer) × (option_or o (Some a) ≡ Some b)
or-some None a = (a, refl)
or-some (Some b) a = (b, refl)

verdict-now : (past : List Entry) (x : MsgId) (p : ℕ) (a : Act) → is_verdict a && are_same same_id (Some x) (message_of a) ≡ true → (r : Answer) × (option_or (verdict x past) (verdict_by x a) ≡ Some r)
verdict-now past x p a k =
    let two = and_parts (is_verdict a) (are_same same_id (Some x) (message_of a)) k in
    let r = answer-there a two.0 in
    let by : verdict_by x a ≡ Some r.0 = ap (λ b. cond b (answer_of a) None) k ∙ r.1 in
    let o = or-some (verdict x past) r.0 in
    (o.0, ap (option_or (verdict x past)) by ∙ o.1)

settled-by : (l : Layout) (past : List Entry) (c p seat : ℕ) (a : Act) (x : MsgId) → is_legal l (entry c p seat a ∷ past) ≡ true → settles x a ≡ true → (r : Answer) × (verdict x (entry c p seat a ∷ past) ≡ Some r)
settled-by l past c p seat (Act.Told y b) x h k =
    let two = and_parts (is_final b) (are_same same_id (Some x) (Some y)) k in
    let same : y ≡ x = some_is y x (id_is x (Some y) two.1) in
    let told : verdict y past ≡ Some b = tells_the_verdict l past (entry c p seat (Act.Told y b)) h y b refl two.0 in
    (b, or_some (verdict x past) (verdict_by x (Act.Told y b)) b (subst (λ z. verdict z past ≡ Some b) same told))
settled-by l past c p seat a x h k = verdict-now past x p a k

pub settled-verdict : (l : Layout) (past : List Entry) (x : MsgId) (p : ℕ) → is_legal l past ≡ true → is_settled x (at p past) ≡ true → (r : Answer) × (verdict x past ≡ Some r)
settled-verdict l [] x p h k = absurd (false≢true k)
settled-verdict l (e ∷ past) x p h k = go (is_at p e) k (settled-verdict l past x p (legal_parts l e past h).1)
  where
    go : (b : Bool) → is_settled x (cond b (e ∷ at p past) (at p past)) ≡ true → (is_settled x (at p past) ≡ true → (r : Answer) × (verdict x past ≡ Some r)) → (r : Answer) × (verdict x (e ∷ past) ≡ Some r)
    go false t ih = let old = ih t in (old.0, or_some (verdict x past) (verdict_by x e.act) old.0 old.1)
    go true t ih =
        elim (or_cases (settles x e.act) (is_settled x (at p past)) t) [
          | inl now ↦ settled-by l past e.clock e.place e.seat e.act x h now
          | inr old ↦ (let was = ih old in (was.0, or_some (verdict x past) (verdict_by x e.act) was.0 was.1))
        ]

-- a message with a verdict was decided on by a port
decided-here : (x : MsgId) (a : Act) (d : AcceptsOrIsFull x a) → Has x (decided_to d.port a)
decided-here x a d =
    elim d.is [
      | inl is ↦ subst (λ z. Has x (decided_to d.port z)) (sym is) (subst (λ b. Has x (cond b (x ∷ []) [])) (sym (same_ui-self d.port)) (inl refl))
      | inr is ↦ subst (λ z. Has x (decided_to d.port z)) (sym is) (subst (λ b. Has x (cond b (x ∷ []) [])) (sym (same_ui-self d.port)) (inl refl))
    ]

by-parts : (b : Bool) (o : Option Answer) (a : Answer) → cond b o None ≡ Some a → b ≡ true
by-parts true o a h = refl
by-parts false o a h = none_some a h

pub verdict-decided : (l : Layout) (n s : ℕ) (past : List Entry) (x : MsgId) (r : Answer) → is_legal l past ≡ true → AllFill l n s past → verdict x past ≡ Some r → (q : Ui) × Has x (decisions_to q past)
verdict-decided l n s [] x r h f k = none_some r k
verdict-decided l n s (e ∷ past) x r h f k =
    let two = legal_parts l e past h in
    elim (from_or (verdict x past) (verdict_by x e.act) r k) [
      | inl old ↦ (let was = verdict-decided l n s past x r two.1 f.1 old in (was.0, has-left x (decisions_to was.0 past) (decided_to was.0 e.act) was.1))
      | inr new ↦ (
          let b = and_parts (is_verdict e.act) (are_same same_id (Some x) (message_of e.act)) (by-parts (is_verdict e.act && are_same same_id (Some x) (message_of e.act)) (answer_of e.act) r new.1) in
          let d = verdict-is l n s past two.1 f.1 e.place e.seat e.act x two.0 b.0 (id_is x (message_of e.act) b.1) in
          (d.port, has-right x (decisions_to d.port past) (decided_to d.port e.act) (decided-here x e.act d)))
    ]

-- The order of decisions.

pub record IsDecided (s : ℕ) (q : Ui) (past : List Entry) (x : MsgId) : Type 0 where
  pub belongs : Belongs x q past
  pub route : belongs.message.route ≡ None
  pub seat : x.seat ≡ s

verdict-stays : (x : MsgId) (past : List Entry) (e : Entry) (a : Answer) → verdict x (about x past) ≡ Some a → verdict x (about x (e ∷ past)) ≡ Some a
verdict-stays x past e a k = sym (verdict_about x (e ∷ past)) ∙ or_some (verdict x past) (verdict_by x e.act) a (verdict_about x past ∙ k)

decided-stays : (s : ℕ) (q : Ui) (past : List Entry) (e : Entry) (x : MsgId) → IsDecided s q past x → IsDecided s q (e ∷ past) x
decided-stays s q past e x d =
    let b = d.belongs in
    record {
      belongs = record {
        answer = b.answer;
        verdict = verdict-stays x past e b.answer b.verdict;
        place = b.place;
        message = b.message;
        is = sent_stays x b.place past e b.message b.is;
        port = b.port;
        ahead = ahead_stays x b.place past e b.message b.is b.ahead;
      };
      route = d.route;
      seat = d.seat;
    }

module _ (l : Layout) (n s : ℕ) (past : List Entry) (h : is_legal l past ≡ true) (f : AllFill l n s past) where
  waits-seat : (x : MsgId) (q : Ui) → IsWaiting x q past → x.seat ≡ s
  waits-seat x q w =
      let i = waits-sent l n s past h f x q w in
      let listed = all-listed l n s past w.message.port h f in
      subst (λ (z : MsgId). z.seat ≡ s) (found-id x (sent (at w.place past)) w.message w.is) (each-of (IsListed l s w.message.port past) (ids (messages_to w.message.port past)) w.message.id listed.each i.listed).seat

  -- it is decided by the entry
  decided-now : (c p seat : ℕ) (a : Act) (x : MsgId) (q : Ui) → IsWaiting x q past → is_verdict a && are_same same_id (Some x) (message_of a) ≡ true → IsDecided s q (entry c p seat a ∷ past) x
  decided-now c p seat a x q w k =
      let e = entry c p seat a in
      let r = verdict-now past x p a k in
      record {
        belongs = record {
          answer = r.0;
          verdict = sym (verdict_about x (e ∷ past)) ∙ r.1;
          place = w.place;
          message = w.message;
          is = sent_stays x w.place past e w.message w.is;
          port = w.port;
          ahead = ahead_stays x w.place past e w.message w.is w.ahead;
        };
        route = (waits-sent l n s past h f x q w).route;
        seat = waits-seat x q w;
      }

  -- what was decided before was posted before
  decided-before : (x y : MsgId) (q : Ui) → IsWaiting y q past → IsDecided s q past x → x.number < y.number
  decided-before x y q w d =
      let b = d.belongs in
      let seat : x.seat ≡ y.seat = d.seat ∙ sym (waits-seat y q w) in
      let route : b.message.route ≡ w.message.route = d.route ∙ sym (waits-sent l n s past h f y q w).route in
      let place : b.place ≡ w.place = same_home l past x y b.place w.place b.message w.message h seat b.is w.is route in
      numbers_in_order l past w.place y x w.message b.message h w.is (accepted_first past q x y b w place route) (b.port ∙ sym w.port) route seat

pub record AreDecided (s : ℕ) (q : Ui) (past : List Entry) (xs : List MsgId) : Type 0 where
  pub each : Each (IsDecided s q past) xs
  pub rise : Rising xs

module _ (l : Layout) (n s : ℕ) (past : List Entry) (h : is_legal l past ≡ true) (f : AllFill l n s past) (c p seat : ℕ) (q : Ui) (xs : List MsgId) (i : AreDecided s q past xs) where
  none-more : (a : Act) → AreDecided s q (entry c p seat a ∷ past) (xs ++ [])
  none-more a =
      let e = entry c p seat a in
      record {
        each = each-both (IsDecided s q (e ∷ past)) xs [] (each-weaker (IsDecided s q past) (IsDecided s q (e ∷ past)) (decided-stays s q past e) xs i.each) tt;
        rise = subst Rising (sym (append-nil xs)) i.rise;
      }

  one-more : (a : Act) (x : MsgId) (r : Ui) (b : Bool) → same_ui q r ≡ b → IsWaiting x r past → is_verdict a && are_same same_id (Some x) (message_of a) ≡ true → AreDecided s q (entry c p seat a ∷ past) (xs ++ cond b (x ∷ []) [])
  one-more a x r false t w k = none-more a
  one-more a x r true t w k =
      let e = entry c p seat a in
      let here : IsWaiting x q past = subst (λ z. IsWaiting x z past) (sym (from_same_ui q r t)) w in
      record {
        each = each-both (IsDecided s q (e ∷ past)) xs (x ∷ []) (each-weaker (IsDecided s q past) (IsDecided s q (e ∷ past)) (decided-stays s q past e) xs i.each) (decided-now l n s past h f c p seat a x q here k, tt);
        rise = rising-push xs x i.rise (each-weaker (IsDecided s q past) (λ z. z.number < x.number) (λ z d. decided-before l n s past h f z x q here d) xs i.each);
      }

  decided-more : (a : Act) → act_may l (views past p seat a) p seat a ≡ true → AreDecided s q (entry c p seat a ∷ past) (xs ++ decided_to q a)
  decided-more (Act.Accept x r m) may =
      one-more (Act.Accept x r m) x r (same_ui q r) refl (due_waits x r p past (legal_messages l past h x) (due_accept l past p seat x r m may)) (same_id-self x)
  decided-more (Act.Full x r m) may =
      one-more (Act.Full x r m) x r (same_ui q r) refl (due_waits x r p past (legal_messages l past h x) (due_full l past p seat x r m may)) (same_id-self x)
  decided-more a may = none-more a

pub all-decided : (l : Layout) (n s : ℕ) (past : List Entry) (q : Ui) → is_legal l past ≡ true → AllFill l n s past → AreDecided s q past (decisions_to q past)
all-decided l n s [] q h f = record { each = tt; rise = tt }
all-decided l n s (e ∷ past) q h f =
    let two = legal_parts l e past h in
    decided-more l n s past two.1 f.1 e.clock e.place e.seat q (decisions_to q past) (all-decided l n s past q two.1 f.1) e.act two.0

-- each of them was posted to the port
pub decided-listed : (l : Layout) (n s : ℕ) (past : List Entry) (q : Ui) (x : MsgId) → is_legal l past ≡ true → AllFill l n s past → Has x (decisions_to q past) → Has x (ids (messages_to q past))
decided-listed l n s past q x h f k =
    let d = each-of (IsDecided s q past) (decisions_to q past) x (all-decided l n s past q h f).each k in
    let b = d.belongs in
    let i = found-has (IsSent l past) x (sent (at b.place past)) b.message (all-sent l n s past b.place h f) b.is in
    subst (λ z. Has x (ids (messages_to z past))) b.port (subst (λ z. Has z (ids (messages_to b.message.port past))) (found-id x (sent (at b.place past)) b.message b.is) i.listed)

-- and a message that was posted to the port and has a verdict was decided by this port
pub listed-decided : (l : Layout) (n s : ℕ) (past : List Entry) (q : Ui) (x : MsgId) (r : Answer) → is_legal l past ≡ true → AllFill l n s past → Has x (ids (messages_to q past)) → verdict x past ≡ Some r → Has x (decisions_to q past)
listed-decided l n s past q x r h f k v =
    let i = each-of (IsListed l s q past) (ids (messages_to q past)) x (all-listed l n s past q h f).each k in
    let d = verdict-decided l n s past x r h f v in
    let b = (each-of (IsDecided s d.0 past) (decisions_to d.0 past) x (all-decided l n s past d.0 h f).each d.1).belongs in
    let home : b.place ≡ i.place = (legal_messages l past h x).home b.place i.place b.message (direct x q) b.is i.is in
    let same : b.message ≡ direct x q = some_is b.message (direct x q) (sym b.is ∙ (ap (λ z. sent_as x z past) home ∙ i.is)) in
    let port : d.0 ≡ q = sym b.port ∙ ap (λ (z : Sent). z.port) same in
    subst (λ z. Has x (decisions_to z past)) port d.1
