-- By what a call is settled, and how often.
use Rattle.std.proofs.Common.{ℕ, ◌≡◌, ◌⊎◌, ◌+◌, ◌<◌, ◌≤◌, ◌==◌, Bool, true, false, not, ◌&&◌, ◌||◌, cond, max, List, [], ◌∷◌, ◌++◌, count_by, Option, Some, None, is_some, is_none, refl, sym, ◌∙◌, ap, subst, arith, inl, inr, append_assoc}
use Rattle.std.specs.Prelude.{slice_get}
use Rattle.std.specs.List.{list_all}
use Rattle.std.specs.Option.{option_or}
use Rattle.std.proofs.lemmas.Bool.{and_parts, and_from, or_cases, eqb-true, eq-eqb, not-true, false≢true, true≢false, cases_Bool, cases_eq}
use Rattle.chorus_ui.specs.declared.ui.Ui.{Ui}
use Rattle.chorus_ui.specs.declared.layout.Layout.{Layout}
use Rattle.chorus_ui.specs.Name.{same_ui}
use Rattle.chorus_ui.proofs.Names.{from_same_ui}
use Rattle.chorus_entry.specs.declared.entry.Entry.{Entry}
use Rattle.chorus_entry.specs.declared.id.MsgId.{MsgId}
use Rattle.chorus_entry.specs.declared.hand.Hand.{Hand}
use Rattle.chorus_entry.specs.declared.message.Message.{Message}
use Rattle.chorus_entry.specs.declared.tag.Tag.{Tag}
use Rattle.chorus_entry.specs.declared.tag.Tag.TheVariants.{Plain, Request, Reply}
use Rattle.chorus_entry.specs.declared.dest.Dest.{Dest}
use Rattle.chorus_entry.specs.declared.dest.Dest.TheVariants as dests
use Rattle.chorus_entry.specs.declared.act.Act.{Act}
use Rattle.chorus_entry.specs.declared.act.Act.TheVariants.{Post, Take, Done, Late, Cancel}
use Rattle.chorus_entry.specs.Dest.{group_in}
use Rattle.chorus_entry.specs.Same.{are_same, is_number}
use Rattle.chorus_world.specs.declared.place.TakenReply.{TakenReply}
use Rattle.chorus_entry.specs.Order.{is_at}
use Rattle.chorus_world.specs.Views.{Views, views, at, is_by, by, on}
use Rattle.chorus_world.specs.Ports.{PortState, fate, is_held_at, is_first_waiting}
use Rattle.chorus_world.specs.Posts.{Posted, posted_in, post_of, source, tag_from, tag_of}
use Rattle.chorus_world.specs.Places.{just_taken, reply_taken, reply_taken_by}
use Rattle.chorus_world.specs.Seats.{Call, same_call, call, call_in, call_by, call_with, call_after, ended, first_call, number_in, requests, requests_after, same_hand, hand, hand_after, hand_with, hand_without}
use Rattle.chorus_world.specs.Steps.{act_may, may_tag, reply_to, is_taken_by, ends_call, is_legal}
use Rattle.chorus_world.specs.AcceptedLaws.{accepted_by, accepted_from}
use Rattle.chorus_world.specs.Commands.{is_reply}
use Rattle.chorus_entry.specs.MsgId.{same_id}
use Rattle.chorus_world.specs.SentLaws.{StandsIn}
use Rattle.chorus_world.proofs.Steps.LegalLemmas.{legal_parts}
use Rattle.chorus_world.proofs.Ports.LineLemmas.{none_some, id_is}
use Rattle.chorus_world.proofs.Messages.SendingLemmas.{from_or, some_is}
use Rattle.chorus_world.proofs.Messages.Decided.{may_as}
use Rattle.chorus_world.proofs.Messages.WasSent.{accepts_what_was_sent}
use Rattle.chorus_world.proofs.Messages.PostLemmas.{post_kept, tag_kept}
use Rattle.chorus_world.proofs.Messages.AcceptedLemmas.{accepted_posted}
use Rattle.chorus_world.proofs.Moments.{legal-older}
use Rattle.chorus_world.proofs.Seats.CallLemmas.{call_is, request_goes}
use Rattle.chorus_world.proofs.Seats.CallBounds.{outstanding-posted}
use Rattle.law_world.specs.Calls.{is_settling, SettlesOnce, IsCalled, SettlesWhatWasCalled, is_request, leaves_hand, HasTaken, IsReplyTo, IsBehindTake, DoneByReply, LateByReply}
use Rattle.law_world.proofs.Entries.{stands-now, stands-later, stood-may, count-cons, count-filter, post-stands, stood-post, view-stands, stands-within}

-- How often.

-- Of the entries of one seat: k of them settle the call n, r is its greatest request number, c its outstanding call, and f says
-- whether n was called.
record IsSettledOnce (n k r : ℕ) (c : Option ℕ) (f : Bool) : Type 0 where
  once : k ≤ 1
  live : is_number n c ≡ true → k ≡ 0
  unused : r < n → k ≡ 0
  over : f ≡ true → is_number n c ≡ false → k ≡ 1
  bound : is_number n c ≡ true → n ≤ r

abbrev settlings : ℕ → List Entry → ℕ
settlings n mine = count_by (λ (e : Entry). is_settling n e.act) mine

abbrev OfSeat : ℕ → List Entry → Type 0
OfSeat n mine = IsSettledOnce n (settlings n mine) (requests mine) (call mine) (is_some (first_call n mine))

number-is : (n : ℕ) (o : Option ℕ) → is_number n o ≡ true → o ≡ Some n
number-is n None h = absurd (false≢true h)
number-is n (Some m) h = ap (λ z. Some z) (eqb-true m n h)

none-is : {A : Type 0} (o : Option A) → is_none o ≡ true → o ≡ None
none-is None h = refl
none-is (Some a) h = absurd (false≢true h)

-- a request is new, or its number is the outstanding one
asked-new : (n : ℕ) (mine : List Entry) (p : Option Call) → ((is_none (call mine) && (n == requests mine + 1)) || (is_number n (call mine) && are_same same_call (first_call n mine) p)) ≡ true → ((call mine ≡ None) × (n ≡ requests mine + 1)) ⊎ (call mine ≡ Some n)
asked-new n mine p h =
    elim (or_cases (is_none (call mine) && (n == requests mine + 1)) (is_number n (call mine) && are_same same_call (first_call n mine) p) h) [
      | inl new ↦ (let two = and_parts (is_none (call mine)) (n == requests mine + 1) new in inl (none-is (call mine) two.0, eqb-true n (requests mine + 1) two.1))
      | inr again ↦ inr (number-is n (call mine) (and_parts (is_number n (call mine)) (are_same same_call (first_call n mine) p) again).0)
    ]

-- an entry that has nothing to do with it
stays-settled : (n k r : ℕ) (c : Option ℕ) (f g : Bool) → g ≡ f → IsSettledOnce n k r c f → IsSettledOnce n (0 + k) r c g
stays-settled n k r c f g e i =
    let z : 0 + k ≡ k = omega arith in
    record {
      once = subst (λ m. m ≤ 1) (sym z) i.once;
      live = λ h. z ∙ i.live h;
      unused = λ lt. z ∙ i.unused lt;
      over = λ h o. z ∙ i.over (sym e ∙ h) o;
      bound = i.bound;
    }

-- a request
asks-settled : (n j k r : ℕ) (c : Option ℕ) (f g : Bool) → ((c ≡ None) × (j ≡ r + 1)) ⊎ (c ≡ Some j) → ((j == n) ≡ false → g ≡ f) → IsSettledOnce n k r c f → IsSettledOnce n (0 + k) (max j r) (Some j) g
asks-settled n j k r c f g new same i =
    elim (cases_Bool (j == n)) [
      | inl t ↦ (
          let is : j ≡ n = eqb-true j n t in
          let none : k ≡ 0 = elim new [
            | inl a ↦ i.unused (let e = a.1 in omega (arith, e, is))
            | inr b ↦ i.live (ap (is_number n) b ∙ t)
          ] in
          record {
            once = omega (arith, none);
            live = λ h. omega (arith, none);
            unused = λ lt. omega (arith, none);
            over = λ h o. absurd (true≢false (sym t ∙ o));
            bound = λ h. omega (arith, is);
          })
      | inr o ↦ (
          let z : 0 + k ≡ k = omega arith in
          let off : is_number n c ≡ false = elim new [
            | inl a ↦ ap (is_number n) a.0
            | inr b ↦ ap (is_number n) b ∙ o
          ] in
          record {
            once = subst (λ m. m ≤ 1) (sym z) i.once;
            live = λ h. absurd (true≢false (sym h ∙ o));
            unused = λ lt. z ∙ i.unused (omega (arith, lt));
            over = λ h d. z ∙ i.over (sym (same o) ∙ h) off;
            bound = λ h. absurd (true≢false (sym h ∙ o));
          })
    ]

-- the Done or the Cancel of the outstanding call
ends-settled : (n j k r : ℕ) (c : Option ℕ) (f g : Bool) → g ≡ f → c ≡ Some j → IsSettledOnce n k r c f → IsSettledOnce n (cond (j == n) 1 0 + k) r (ended j c) g
ends-settled n j k r c f g e is i =
    subst (λ d. IsSettledOnce n (cond (j == n) 1 0 + k) r d g) (sym (ap (ended j) is ∙ ap (λ b. cond b None (Some j)) (eq-eqb j j refl))) (by (j == n) refl)
  where
    by : (b : Bool) → (j == n) ≡ b → IsSettledOnce n (cond b 1 0 + k) r None g
    by true t =
        let none : k ≡ 0 = i.live (ap (is_number n) is ∙ t) in
        let le : n ≤ r = i.bound (ap (is_number n) is ∙ t) in
        record {
          once = omega (arith, none);
          live = λ h. absurd (false≢true h);
          unused = λ lt. absurd (omega (arith, lt, le));
          over = λ h o. omega (arith, none);
          bound = λ h. absurd (false≢true h);
        }
    by false o =
        let z : 0 + k ≡ k = omega arith in
        record {
          once = subst (λ m. m ≤ 1) (sym z) i.once;
          live = λ h. absurd (false≢true h);
          unused = λ lt. z ∙ i.unused lt;
          over = λ h d. z ∙ i.over (sym e ∙ h) (ap (is_number n) is ∙ o);
          bound = λ h. absurd (false≢true h);
        }

or-nothing : {A : Type 0} (o : Option A) → is_some (option_or o None) ≡ is_some o
or-nothing None = refl
or-nothing (Some a) = refl

uncalled : (n j : ℕ) (back : Ui) (d : Dest) (body : List ℕ) → (j == n) ≡ false → call_in n (Request j back) d body ≡ None
uncalled n j back (dests.Port q) body h = ap (λ b. cond b (Some (record { port = q; back = back; body = body })) None) h
uncalled n j back (dests.All g) body h = refl
uncalled n j back (dests.One g) body h = refl
uncalled n j back (dests.OneAt g s) body h = refl

ends-number : (s n : ℕ) (c : Option ℕ) (o : Option TakenReply) → ends_call s n c o ≡ true → is_number n c ≡ true
ends-number s n c None h = absurd (false≢true h)
ends-number s n c (Some r) h = (and_parts (r.client == s) (is_number n c) h).1

module _ (l : Layout) (past : List Entry) (p s n : ℕ) where
  mine : List Entry
  mine = by s past

  abbrev After : Act → Type 0
  After a =
      IsSettledOnce n (cond (is_settling n a) 1 0 + settlings n (by s past)) (requests_after a (requests (by s past))) (call_after a (call (by s past)))
      (is_some (option_or (first_call n (by s past)) (call_by n a)))

  abbrev Before : Type 0
  Before = OfSeat n (by s past)

  post-step : (m : Message) (d : Dest) → Before → act_may l (views past p s (Post m d)) p s (Post m d) ≡ true → After (Post m d)
  post-step m d i may = go m.tag refl (and_parts _ (may_tag v m d m.tag) may).1
    where
      v : Views
      v = views past p s (Post m d)

      known : Option Call
      known = first_call n (by s past)

      go : (z : Tag) → m.tag ≡ z → may_tag (views past p s (Post m d)) m d z ≡ true
          → IsSettledOnce n (0 + settlings n (by s past)) (max (number_in z) (requests (by s past))) (call_with z (call (by s past))) (is_some (option_or (first_call n (by s past)) (call_in n z d m.body)))
      go Plain e h =
          let zero-max : max 0 (requests (by s past)) ≡ requests (by s past) = omega arith in
          subst (λ r. IsSettledOnce n (0 + settlings n (by s past)) r (call (by s past)) (is_some (option_or (first_call n (by s past)) None))) (sym zero-max)
          (stays-settled n (settlings n (by s past)) (requests (by s past)) (call (by s past)) (is_some (first_call n (by s past))) _ (or-nothing (first_call n (by s past))) i)
      go (Reply c k) e h =
          let zero-max : max 0 (requests (by s past)) ≡ requests (by s past) = omega arith in
          subst (λ r. IsSettledOnce n (0 + settlings n (by s past)) r (call (by s past)) (is_some (option_or (first_call n (by s past)) None))) (sym zero-max)
          (stays-settled n (settlings n (by s past)) (requests (by s past)) (call (by s past)) (is_some (first_call n (by s past))) _ (or-nothing (first_call n (by s past))) i)
      go (Request j back) e h =
          let new = asked-new j (by s past) (call_in j m.tag d m.body) (and_parts (is_some (call_in j m.tag d m.body)) _ h).1 in
          asks-settled n j (settlings n (by s past)) (requests (by s past)) (call (by s past)) (is_some (first_call n (by s past))) _ new
          (λ o. ap (λ z. is_some (option_or (first_call n (by s past)) z)) (uncalled n j back d m.body o) ∙ or-nothing (first_call n (by s past))) i

  act-step : (a : Act) → Before → act_may l (views past p s a) p s a ≡ true → After a
  act-step (Post m d) i may = post-step m d i may
  act-step (Done k) i may =
      ends-settled n k (settlings n (by s past)) (requests (by s past)) (call (by s past)) (is_some (first_call n (by s past))) _ (or-nothing (first_call n (by s past)))
      (number-is k (call (by s past)) (ends-number s k (call (by s past)) (just_taken past (at p past)) (and_parts (is_taken_by s k (just_taken past (at p past))) _ may).1)) i
  act-step (Cancel k) i may =
      ends-settled n k (settlings n (by s past)) (requests (by s past)) (call (by s past)) (is_some (first_call n (by s past))) _ (or-nothing (first_call n (by s past)))
      (number-is k (call (by s past)) may) i
  act-step a i may =
      stays-settled n (settlings n (by s past)) (requests (by s past)) (call (by s past)) (is_some (first_call n (by s past))) _ (or-nothing (first_call n (by s past))) i

of-seat : (l : Layout) (past : List Entry) (s n : ℕ) → is_legal l past ≡ true → OfSeat n (by s past)
of-seat l [] s n h =
    record { once = omega arith; live = λ e. refl; unused = λ lt. refl; over = λ e o. absurd (false≢true e); bound = λ e. absurd (false≢true e) }
of-seat l (e ∷ past) s n h = go (is_by s e) refl (of-seat l past s n (legal_parts l e past h).1)
  where
    go : (b : Bool) → is_by s e ≡ b → OfSeat n (by s past) → OfSeat n (cond b (e ∷ by s past) (by s past))
    go false t i = i
    go true t i =
        let seat : e.seat ≡ s = eqb-true e.seat s t in
        let may : act_may l (views past e.place s e.act) e.place s e.act ≡ true = subst (λ k. act_may l (views past e.place k e.act) e.place k e.act ≡ true) seat (legal_parts l e past h).0 in
        subst (λ k. IsSettledOnce n k (requests (e ∷ by s past)) (call (e ∷ by s past)) (is_some (first_call n (e ∷ by s past))))
        (sym (count-cons (λ (f : Entry). is_settling n f.act) e (by s past)))
        (act-step l past e.place s n e.act i may)

pub settles-once : (l : Layout) (past : List Entry) → is_legal l past ≡ true → SettlesOnce past
settles-once l past h s n =
    subst (λ k. k ≤ 1) (sym (count-filter (is_by s) (λ (e : Entry). is_settling n e.act) past)) (of-seat l past s n h).once

-- Only what was called.

settles-outstanding : (l : Layout) (past : List Entry) (p s n : ℕ) (a : Act) → act_may l (views past p s a) p s a ≡ true → is_settling n a ≡ true → call (by s past) ≡ Some n
settles-outstanding l past p s n (Done k) may is =
    number-is n (call (by s past)) (subst (λ z. is_number z (call (by s past)) ≡ true) (eqb-true k n is)
    (ends-number s k (call (by s past)) (just_taken past (at p past)) (and_parts (is_taken_by s k (just_taken past (at p past))) _ may).1))
settles-outstanding l past p s n (Cancel k) may is = number-is n (call (by s past)) (subst (λ z. is_number z (call (by s past)) ≡ true) (eqb-true k n is) may)
settles-outstanding l past p s n _ may is = absurd (false≢true is)

called-later : (s n : ℕ) (back : Ui) (e : Entry) (past : List Entry) → IsCalled s n back past → IsCalled s n back (e ∷ past)
called-later s n back e past c =
    record { entry = c.entry; message = c.message; port = c.port; stands = stands-later e c.entry past c.stands; posts = c.posts; seat = c.seat; tag = c.tag }

called-now : (s n : ℕ) (c : Call) (e : Entry) (past : List Entry) (a : Act) → e.act ≡ a → e.seat ≡ s → call_by n a ≡ Some c → IsCalled s n c.back (e ∷ past)
called-now s n c e past (Post m d) is seat h =
    let two = call_is n m.tag d m.body c h in
    record { entry = e; message = m; port = c.port; stands = stands-now e past; posts = is ∙ ap (λ z. Post m z) two.1; seat = seat; tag = two.0 }
called-now s n c e past _ is seat h = none_some c h

first-called : (past : List Entry) (s n : ℕ) (c : Call) → first_call n (by s past) ≡ Some c → IsCalled s n c.back past
first-called [] s n c h = none_some c h
first-called (e ∷ past) s n c h = go (is_by s e) refl h (λ k. first-called past s n c k)
  where
    go : (b : Bool) → is_by s e ≡ b → first_call n (cond b (e ∷ by s past) (by s past)) ≡ Some c → (first_call n (by s past) ≡ Some c → IsCalled s n c.back past) → IsCalled s n c.back (e ∷ past)
    go false t k ih = called-later s n c.back e past (ih k)
    go true t k ih =
        elim (from_or (first_call n (by s past)) (call_by n e.act) c k) [
          | inl old ↦ called-later s n c.back e past (ih old)
          | inr new ↦ called-now s n c e past e.act refl (eqb-true e.seat s t) new.1
        ]

pub settles-called : (l : Layout) (past : List Entry) (e : Entry) → is_legal l (e ∷ past) ≡ true → SettlesWhatWasCalled past e
settles-called l past e h n is =
    let two = legal_parts l e past h in
    let c = outstanding-posted l past e.seat n two.1 (settles-outstanding l past e.place e.seat n e.act two.0 is) in
    (c.0.back, first-called past e.seat n c.0 c.1)

-- By the reply to it.

-- a tag that is not plain was posted
tag-posted : (o : Option Posted) (t : Tag) → tag_from o ≡ t → (t ≡ Plain → ⊥) → (d : Posted) × (o ≡ Some d) × (d.message.tag ≡ t)
tag-posted None t h not-plain = absurd (not-plain (sym h))
tag-posted (Some d) t h not-plain = (d, refl, h)

-- the client called the request that has this tag
request-called : (l : Layout) (past : List Entry) (x : MsgId) (n : ℕ) (back : Ui) → is_legal l past ≡ true → tag_of x past ≡ Request n back → IsCalled x.seat n back past
request-called l past x n back h t =
    let d = tag-posted (post_of x past) (Request n back) t (λ e. absurd (cc)) in
    let f = request_goes l past x d.0 n back h d.1 d.2 in
    let p = post-stands past x d.0 d.1 in
    record { entry = p.entry; message = (d.0).message; port = f.0.port; stands = p.stands; posts = p.posts ∙ ap (λ z. Post (d.0).message z) f.2; seat = p.seat; tag = d.2 }

-- the Take of the request in hand, among the entries of its seat
record IsHandTaken (past : List Entry) (z : Hand) (es : List Entry) : Type 0 where
  entry : Entry
  port : Ui
  position : ℕ
  request : MsgId
  newer : List Entry
  older : List Entry
  stands : es ≡ newer ++ entry ∷ older
  takes : entry.act ≡ Take port position request
  from_client : request.seat ≡ z.client
  tag : tag_of request past ≡ Request z.number z.back
  last : list_all (λ (e : Entry). leaves_hand past e.act) newer ≡ true

hand-later : (past : List Entry) (z : Hand) (e : Entry) (es : List Entry) → leaves_hand past e.act ≡ true → IsHandTaken past z es → IsHandTaken past z (e ∷ es)
hand-later past z e es k i =
    record {
      entry = i.entry;
      port = i.port;
      position = i.position;
      request = i.request;
      newer = e ∷ i.newer;
      older = i.older;
      stands = ap (λ zs. e ∷ zs) i.stands;
      takes = i.takes;
      from_client = i.from_client;
      tag = i.tag;
      last = and_from (leaves_hand past e.act) (list_all (λ (f : Entry). leaves_hand past f.act) i.newer) k i.last;
    }

hand-step : (past : List Entry) (z : Hand) (e : Entry) (es : List Entry) (a : Act) → e.act ≡ a → hand_after past a (hand past es) ≡ Some z → (hand past es ≡ Some z → IsHandTaken past z es) → IsHandTaken past z (e ∷ es)
hand-step past z e es (Take q n x) is h ih = go (tag_of x past) refl h
  where
    leaves : (t : Tag) → tag_of x past ≡ t → not (is_request t) ≡ true → leaves_hand past e.act ≡ true
    leaves t k o = ap (leaves_hand past) is ∙ (ap (λ u. not (is_request u)) k ∙ o)

    go : (t : Tag) → tag_of x past ≡ t → hand_with x.seat t (hand past es) ≡ Some z → IsHandTaken past z (e ∷ es)
    go Plain k j = hand-later past z e es (leaves Plain k refl) (ih j)
    go (Reply c m) k j = hand-later past z e es (leaves (Reply c m) k refl) (ih j)
    go (Request m back) k j =
        let same : record { client = x.seat; number = m; back = back } ≡ z = some_is (record { client = x.seat; number = m; back = back }) z j in
        record {
          entry = e;
          port = q;
          position = n;
          request = x;
          newer = [];
          older = es;
          stands = refl;
          takes = is;
          from_client = ap (λ (y : Hand). y.client) same;
          tag = k ∙ ap (λ (y : Hand). Request y.number y.back) same;
          last = refl;
        }
hand-step past z e es (Post m d) is h ih = go m.tag refl h
  where
    leaves : (t : Tag) → m.tag ≡ t → not (is_reply t) ≡ true → leaves_hand past e.act ≡ true
    leaves t k o = ap (leaves_hand past) is ∙ (ap (λ u. not (is_reply u)) k ∙ o)

    go : (t : Tag) → m.tag ≡ t → hand_without t (hand past es) ≡ Some z → IsHandTaken past z (e ∷ es)
    go Plain k j = hand-later past z e es (leaves Plain k refl) (ih j)
    go (Request n back) k j = hand-later past z e es (leaves (Request n back) k refl) (ih j)
    go (Reply c n) k j = none_some z j
hand-step past z e es a is h ih = hand-later past z e es (ap (leaves_hand past) is) (ih h)

hand-taken : (past : List Entry) (es : List Entry) (z : Hand) → hand past es ≡ Some z → IsHandTaken past z es
hand-taken past [] z h = none_some z h
hand-taken past (e ∷ es) z h = hand-step past z e es e.act refl h (λ k. hand-taken past es z k)

pub has-taken : (l : Layout) (past : List Entry) (s : ℕ) (z : Hand) → is_legal l past ≡ true → hand past (by s past) ≡ Some z → HasTaken s z.client z.number z.back past
has-taken l past s z h k =
    let i = hand-taken past (by s past) z k in
    record {
      entry = i.entry;
      port = i.port;
      position = i.position;
      request = i.request;
      newer = i.newer;
      older = i.older;
      stands = i.stands;
      takes = i.takes;
      from_client = i.from_client;
      tag = i.tag;
      called = subst (λ c. IsCalled c z.number z.back past) i.from_client (request-called l past i.request z.number z.back h i.tag);
      last = i.last;
    }

hand-is : (o : Option Hand) (c n : ℕ) (d : Dest) → are_same same_hand o (reply_to c n d) ≡ true → (q : Ui) × (d ≡ dests.Port q) × (o ≡ Some (record { client = c; number = n; back = q }))
hand-is None c n d h = absurd (false≢true h)
hand-is (Some z) c n (dests.Port q) h =
    let two = and_parts ((z.client == c) && (z.number == n)) (same_ui z.back q) h in
    let one = and_parts (z.client == c) (z.number == n) two.0 in
    (q, refl, λ i. Some (record { client = eqb-true z.client c one.0 i; number = eqb-true z.number n one.1 i; back = from_same_ui z.back q two.1 i }))
hand-is (Some z) c n (dests.All g) h = absurd (false≢true h)
hand-is (Some z) c n (dests.One g) h = absurd (false≢true h)
hand-is (Some z) c n (dests.OneAt g s) h = absurd (false≢true h)

-- a reply was posted to the port that its request names, by the seat that had taken it
reply-posted : (l : Layout) (past : List Entry) (e : Entry) (m : Message) (d : Dest) (c n : ℕ) (s : StandsIn e past) → is_legal l past ≡ true → e.act ≡ Post m d → m.tag ≡ Reply c n → (q : Ui) × (d ≡ dests.Port q) × HasTaken e.seat c n q s.older
reply-posted l past e m d c n s h is t =
    let older = s.older in
    let v = views older e.place e.seat (Post m d) in
    let may = subst (λ z. may_tag v m d z ≡ true) t (and_parts _ (may_tag v m d m.tag) (stood-may l past e (Post m d) s h is)).1 in
    let found = hand-is (hand older (by e.seat older)) c n d may in
    let legal = (legal_parts l e older (legal-older l s.newer (e ∷ older) (ap (is_legal l) (sym s.is) ∙ h))).1 in
    (found.0, found.1, has-taken l older e.seat (record { client = c; number = n; back = found.0 }) legal found.2)

-- a message with the tag of a reply that a port accepted is the reply, and the port is the one that the request names for it
pub accepted-reply : (l : Layout) (past : List Entry) (q : Ui) (i : ℕ) (x : MsgId) (c n : ℕ) → is_legal l past ≡ true → slice_get (accepted_by q past) i ≡ Some x → tag_of x past ≡ Reply c n → IsReplyTo c n x q past
accepted-reply l past q i x c n h at-i t =
    elim (accepts_what_was_sent l past h q i x at-i) [
      | inl p ↦ (
          let known = stood-post l past p.entry p.message (dests.Port q) h p.stands p.posts in
          let tag : p.message.tag ≡ Reply c n = ap tag_from (sym known.0) ∙ (ap (λ (z : MsgId). tag_of z past) p.id ∙ t) in
          let r = reply-posted l past p.entry p.message (dests.Port q) c n p.stands h p.posts tag in
          let port : r.0 ≡ q = (let both : dests.Port q ≡ dests.Port r.0 = r.1 in cc) in
          record {
            entry = p.entry;
            message = p.message;
            stands = p.stands;
            posts = p.posts;
            id = p.id;
            tag = tag;
            taken = subst (λ z. HasTaken p.entry.seat c n z p.stands.older) port r.2;
          })
      | inr p ↦ (
          let g = p.posted in
          let within = stands-within g.entry p.entry past p.stands g.stands in
          let known = stood-post l past g.entry g.message g.dest h within.0 g.posts in
          let source-is : source x ≡ source g.message.id = p.source ∙ ap source (sym g.id) in
          let seats : x.seat ≡ g.message.id.seat = ap (λ (z : MsgId). z.seat) source-is in
          let same : tag_of x past ≡ tag_of g.message.id past = same-tag x g.message.id past source-is in
          let tag : g.message.tag ≡ Reply c n = ap tag_from (sym known.0) ∙ (sym same ∙ t) in
          let r = reply-posted l past g.entry g.message g.dest c n within.0 h g.posts tag in
          none_some p.group (sym (ap group_in r.1) ∙ g.group))
    ]
  where
    same-tag : (x y : MsgId) (past : List Entry) → source x ≡ source y → tag_of x past ≡ tag_of y past
    same-tag x y past e = λ i. tag_from (posted_in (e i) (by (e i).seat past))

-- The Take directly before.

record IsJustTaken (s n : ℕ) (past es : List Entry) : Type 0 where
  entry : Entry
  older : List Entry
  port : Ui
  position : ℕ
  reply : MsgId
  client : ℕ
  stands : es ≡ entry ∷ older
  takes : entry.act ≡ Take port position reply
  seat : entry.seat ≡ s
  tag : tag_of reply past ≡ Reply client n
  taken : just_taken past es ≡ Some (record { taker = s; client = client; number = n })

just-taken : (s n : ℕ) (past es : List Entry) → is_taken_by s n (just_taken past es) ≡ true → IsJustTaken s n past es
just-taken s n past [] h = absurd (false≢true h)
just-taken s n past (e ∷ es) h = go e.act refl h
  where
    go : (a : Act) → e.act ≡ a → is_taken_by s n (reply_taken_by past e.seat a) ≡ true → IsJustTaken s n past (e ∷ es)
    go (Take q i x) is k = by (tag_of x past) refl k
      where
        by : (t : Tag) → tag_of x past ≡ t → is_taken_by s n (reply_taken e.seat t) ≡ true → IsJustTaken s n past (e ∷ es)
        by Plain u j = absurd (false≢true j)
        by (Request m back) u j = absurd (false≢true j)
        by (Reply c m) u j =
            let two = and_parts (e.seat == s) (m == n) j in
            let seat : e.seat ≡ s = eqb-true e.seat s two.0 in
            let number : m ≡ n = eqb-true m n two.1 in
            record {
              entry = e;
              older = es;
              port = q;
              position = i;
              reply = x;
              client = c;
              stands = refl;
              takes = is;
              seat = seat;
              tag = u ∙ ap (λ k. Reply c k) number;
              taken = ap (reply_taken_by past e.seat) is ∙ (ap (reply_taken e.seat) u ∙ (λ i. Some (record { taker = seat i; client = c; number = number i })));
            }
    go _ is k = absurd (false≢true k)

get-is : (n : ℕ) (x : MsgId) (o : Option PortState) → is_first_waiting n x o ≡ true → slice_get (accepted_from o) n ≡ Some x
get-is n x None h = absurd (false≢true h)
get-is n x (Some f) h = id_is x (slice_get f.accepted n) (and_parts (n == f.taken) (are_same same_id (Some x) (slice_get f.accepted n)) h).1

-- the message that a Take hands out, where it has the tag of a reply
record IsReplyTaken (s n : ℕ) (past : List Entry) (e : Entry) : Type 0 where
  reply : MsgId
  back : Ui
  client : ℕ
  behind : IsBehindTake back reply past e
  answers : IsReplyTo client n reply back past
  tag : tag_of reply past ≡ Reply client n
  taken : just_taken past (at e.place past) ≡ Some (record { taker = s; client = client; number = n })

reply-later : (c n : ℕ) (x : MsgId) (q : Ui) (newer : List Entry) (past : List Entry) → IsReplyTo c n x q past → IsReplyTo c n x q (newer ++ past)
reply-later c n x q newer past r =
    record {
      entry = r.entry;
      message = r.message;
      stands = record { newer = newer ++ r.stands.newer; older = r.stands.older; is = ap (λ zs. newer ++ zs) r.stands.is ∙ sym (append_assoc newer r.stands.newer (r.entry ∷ r.stands.older)) };
      posts = r.posts;
      id = r.id;
      tag = r.tag;
      taken = r.taken;
    }

reply-taken : (l : Layout) (past : List Entry) (e : Entry) (n : ℕ) → is_legal l past ≡ true → is_taken_by e.seat n (just_taken past (at e.place past)) ≡ true → IsReplyTaken e.seat n past e
reply-taken l past e n h k =
    let j = just-taken e.seat n past (at e.place past) k in
    let f = view-stands (is_at e.place) past j.entry j.older j.stands in
    let s = f.0 in
    let legal = legal-older l s.newer (j.entry ∷ s.older) (ap (is_legal l) (sym s.is) ∙ h) in
    let two = legal_parts l j.entry s.older legal in
    let may = stood-may l past j.entry (Take j.port j.position j.reply) s h j.takes in
    let got = get-is j.position j.reply (fate (on j.port s.older)) (and_parts (is_held_at j.entry.place (fate (on j.port s.older))) (is_first_waiting j.position j.reply (fate (on j.port s.older))) may).1 in
    let d = accepted_posted l s.older j.port j.position j.reply two.1 got in
    let all : past ≡ (s.newer ++ j.entry ∷ []) ++ s.older = s.is ∙ sym (append_assoc s.newer (j.entry ∷ []) s.older) in
    let tag : tag_of j.reply s.older ≡ Reply j.client n = sym (tag_kept j.reply (s.newer ++ j.entry ∷ []) s.older d.0 d.1) ∙ (ap (tag_of j.reply) (sym all) ∙ j.tag) in
    let r = accepted-reply l s.older j.port j.position j.reply j.client n two.1 got tag in
    record {
      reply = j.reply;
      back = j.port;
      client = j.client;
      behind = record { entry = j.entry; position = j.position; older = j.older; stands = j.stands; takes = j.takes; seat = j.seat };
      answers = subst (IsReplyTo j.client n j.reply j.port) (sym all) (reply-later j.client n j.reply j.port (s.newer ++ j.entry ∷ []) s.older r);
      tag = j.tag;
      taken = j.taken;
    }

pub done-by-reply : (l : Layout) (past : List Entry) (e : Entry) → is_legal l (e ∷ past) ≡ true → DoneByReply past e
done-by-reply l past e h n is =
    let taken = just_taken past (at e.place past) in
    let two = and_parts (is_taken_by e.seat n taken) (ends_call e.seat n (call (by e.seat past)) taken) (may_as l past e (Done n) h is) in
    let r = reply-taken l past e n (legal_parts l e past h).1 two.0 in
    let ends : (r.client == e.seat) && is_number n (call (by e.seat past)) ≡ true = ap (ends_call e.seat n (call (by e.seat past))) (sym r.taken) ∙ two.1 in
    let client : r.client ≡ e.seat = eqb-true r.client e.seat (and_parts (r.client == e.seat) (is_number n (call (by e.seat past))) ends).0 in
    record { reply = r.reply; back = r.back; behind = r.behind; answers = subst (λ c. IsReplyTo c n r.reply r.back past) client r.answers }

-- a request that was taken was called
reply-called : (l : Layout) (past : List Entry) (c n : ℕ) (x : MsgId) (q : Ui) → is_legal l past ≡ true → IsReplyTo c n x q past → is_some (first_call n (by c past)) ≡ true
reply-called l past c n x q h r =
    let t = r.taken in
    let older = r.stands.older in
    let d = tag-posted (post_of t.request older) (Request n q) t.tag (λ e. absurd (cc)) in
    let all : past ≡ (r.stands.newer ++ r.entry ∷ []) ++ older = r.stands.is ∙ sym (append_assoc r.stands.newer (r.entry ∷ []) older) in
    let kept : post_of t.request past ≡ Some d.0 = ap (post_of t.request) all ∙ post_kept t.request (r.stands.newer ++ r.entry ∷ []) older d.0 d.1 in
    let f = request_goes l past t.request d.0 n q h kept d.2 in
    called t.request.seat f.0 t.from_client f.1
  where
    called : (s : ℕ) (d : Call) → s ≡ c → first_call n (by s past) ≡ Some d → is_some (first_call n (by c past)) ≡ true
    called s d e k = subst (λ z. is_some (first_call n (by z past)) ≡ true) e (ap is_some k)

pub late-by-reply : (l : Layout) (past : List Entry) (e : Entry) → is_legal l (e ∷ past) ≡ true → LateByReply past e
late-by-reply l past e h n is =
    let taken = just_taken past (at e.place past) in
    let two = and_parts (is_taken_by e.seat n taken) (not (ends_call e.seat n (call (by e.seat past)) taken)) (may_as l past e (Late n) h is) in
    let before = (legal_parts l e past h).1 in
    let r = reply-taken l past e n before two.0 in
    let open-not : (r.client == e.seat) && is_number n (call (by e.seat past)) ≡ false = ap (ends_call e.seat n (call (by e.seat past))) (sym r.taken) ∙ not-true (ends_call e.seat n (call (by e.seat past)) taken) two.1 in
    record {
      reply = r.reply;
      back = r.back;
      client = r.client;
      behind = r.behind;
      answers = r.answers;
      late = elim (cases_eq r.client e.seat) [
        | inr apart ↦ inl apart
        | inl same ↦ inr (
            let none : is_number n (call (by e.seat past)) ≡ false = ap (λ b. b && is_number n (call (by e.seat past))) (sym (eq-eqb r.client e.seat same)) ∙ open-not in
            let called : is_some (first_call n (by e.seat past)) ≡ true = subst (λ c. is_some (first_call n (by c past)) ≡ true) same (reply-called l past r.client n r.reply r.back before r.answers) in
            count-filter (is_by e.seat) (λ (f : Entry). is_settling n f.act) past ∙ (of-seat l past e.seat n before).over called none)
      ];
    }
