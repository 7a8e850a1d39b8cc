-- In a legal past one place sends a message, so that its row says what that place knows of it.
use Rattle.std.proofs.Common.{ℕ, ◌≡◌, ◌==◌, ◌<◌, Bool, true, false, ◌&&◌, ◌||◌, not, cond, List, [], ◌∷◌, find, Option, Some, None, is_some, refl, sym, ◌∙◌, ap, subst, arith, inl, inr}
use Rattle.std.specs.Option.{option_or}
use Rattle.std.specs.List.{filter}
use Rattle.std.proofs.lemmas.Bool.{eq-eqb, eqb-true, false≢true}
use Rattle.chorus_ui.specs.declared.layout.Layout.{Layout}
use Rattle.chorus_entry.specs.declared.entry.Entry.{Entry}
use Rattle.chorus_entry.specs.declared.id.MsgId.{MsgId}
use Rattle.chorus_entry.specs.declared.message.Message.{Message}
use Rattle.chorus_entry.specs.declared.dest.Dest.{Dest}
use Rattle.chorus_entry.specs.declared.dest.Dest.TheVariants as D
use Rattle.chorus_entry.specs.declared.act.Act.{Act}
use Rattle.chorus_entry.specs.declared.act.Act.TheVariants.{Post, Choose}
use Rattle.chorus_entry.specs.MsgId.{same_id}
use Rattle.chorus_entry.specs.Order.{is_at}
use Rattle.chorus_entry.proofs.Same.{from_same_id}
use Rattle.chorus_world.specs.declared.place.Sent.{Sent}
use Rattle.chorus_world.specs.Views.{views, at, by, about, is_about}
use Rattle.chorus_world.specs.Groups.{is_chosen}
use Rattle.chorus_world.specs.Places.{find_sent, first_for, is_settled, is_tried, sent, sent_by, settles, tried_after, unsettled}
use Rattle.chorus_world.specs.Posts.{source}
use Rattle.chorus_world.specs.Seats.{posts}
use Rattle.chorus_world.specs.Steps.{act_may, is_legal}
use Rattle.chorus_world.proofs.Ports.LineLemmas.{none_some}
use Rattle.chorus_world.proofs.Steps.LegalLemmas.{legal_parts}
use Rattle.chorus_world.proofs.Messages.MessageInvariant.{legal_messages}
use Rattle.chorus_world.proofs.Messages.PostLemmas.{asked_facts, choose_needs, copy_found, own_source, post_needs, same_source}
use Rattle.chorus_world.proofs.Messages.SendingLemmas.{cond_some, from_or, sent_as, sent_stays, settles_other, tried_other}
use Rattle.chorus_world.proofs.Messages.SentFacts.{EachSent, IsFound, all-found, each-map}
use Rattle.chorus_world.proofs.Messages.SentLemmas.{find_sent_append}
use Rattle.checker_rows.specs.Lines.{goes_by, ids_by, is_pending, line_row}
use Rattle.checker_rows.specs.Messages.{is_away, is_from, is_over, sending, sending_at, sending_by, sent_from}
use Rattle.checker_rows.specs.declared.keys.LineKey.{LineKey}
use Rattle.checker_rows.specs.declared.sending.Sending.{Sending}
use Rattle.checker_rows.proofs.OpenLines.{first_is, open_at, same_first}

-- What was sent.

found_id : (x : MsgId) (ms : List Sent) (m : Sent) → find_sent x ms ≡ Some m → m.id ≡ x
found_id x [] m h = none_some m h
found_id x (k ∷ ms) m h =
    elim (cond_some (same_id k.id x) k m (find_sent x ms) h) [
      | inl this ↦ ap (λ (z : Sent). z.id) (sym this.1) ∙ from_same_id k.id x this.0
      | inr later ↦ found_id x ms m later.1
    ]

or_nones : {A : Type 0} (o m : Option A) → option_or o m ≡ None → (o ≡ None) × (m ≡ None)
or_nones None m h = (refl, h)
or_nones (Some a) m h = none_some a (sym h)

no_sending : (p : ℕ) (o : Option Sent) → sending_at p o ≡ None → o ≡ None
no_sending p None h = refl
no_sending p (Some m) h = none_some (record { place = p; port = m.port; route = m.route }) (sym h)

unsent_case : (x : MsgId) (e : Entry) (here : List Entry) (b : Bool) → find_sent x (sent here) ≡ None → find_sent x (sent_by e.act) ≡ None → find_sent x (sent (cond b (e ∷ here) here)) ≡ None
unsent_case x e here true h k = find_sent_append x (sent here) (sent_by e.act) ∙ (ap (λ o. option_or o (find_sent x (sent_by e.act))) h ∙ k)
unsent_case x e here false h k = h

-- what was sent nowhere was not sent from the place
pub unsent : (x : MsgId) (past : List Entry) → sending x past ≡ None → (p : ℕ) → sent_as x p past ≡ None
unsent x [] h p = refl
unsent x (e ∷ past) h p =
    let two = or_nones (sending x past) (sending_by x e) h in
    unsent_case x e (at p past) (is_at p e) (unsent x past two.0 p) (no_sending e.place (find_sent x (sent_by e.act)) two.1)

-- the place sent it so
pub record IsSentAs (x : MsgId) (past : List Entry) (s : Sending) : Type 0 where
  pub message : Sent
  pub is : sent_as x s.place past ≡ Some message
  pub port : message.port ≡ s.port
  pub route : message.route ≡ s.route

-- the entry sends it so
record Sends (x : MsgId) (e : Entry) (s : Sending) : Type 0 where
  message : Sent
  is : find_sent x (sent_by e.act) ≡ Some message
  place : e.place ≡ s.place
  port : message.port ≡ s.port
  route : message.route ≡ s.route

sends_case : (x : MsgId) (e : Entry) (s : Sending) (o : Option Sent) → find_sent x (sent_by e.act) ≡ o → sending_at e.place o ≡ Some s → Sends x e s
sends_case x e s None k h = none_some s h
sends_case x e s (Some m) k h =
    let same : (let z : Sending = record { place = e.place; port = m.port; route = m.route } in z) ≡ s = cc in
    record { message = m; is = k; place = ap (λ (z : Sending). z.place) same; port = ap (λ (z : Sending). z.port) same; route = ap (λ (z : Sending). z.route) same }

here_now : (x : MsgId) (e : Entry) (past : List Entry) (m : Sent) (b : Bool) → b ≡ true → find_sent x (sent (at e.place past)) ≡ None → find_sent x (sent_by e.act) ≡ Some m → find_sent x (sent (cond b (e ∷ at e.place past) (at e.place past))) ≡ Some m
here_now x e past m true b h k = find_sent_append x (sent (at e.place past)) (sent_by e.act) ∙ (ap (λ o. option_or o (find_sent x (sent_by e.act))) h ∙ k)
here_now x e past m false b h k = absurd (false≢true b)

pub sent_there : (x : MsgId) (past : List Entry) (s : Sending) → sending x past ≡ Some s → IsSentAs x past s
sent_there x [] s h = none_some s h
sent_there x (e ∷ past) s h =
    elim (from_or (sending x past) (sending_by x e) s h) [
      | inl old ↦ (
          let i = sent_there x past s old in
          record { message = i.message; is = sent_stays x s.place past e i.message i.is; port = i.port; route = i.route })
      | inr new ↦ (
          let n = sends_case x e s (find_sent x (sent_by e.act)) refl new.1 in
          record {
            message = n.message;
            is = subst (λ p. sent_as x p (e ∷ past) ≡ Some n.message) n.place (here_now x e past n.message (is_at e.place e) (self e.place) (unsent x past new.0 e.place) n.is);
            port = n.port;
            route = n.route;
          })
    ]
  where
    self : (n : ℕ) → (n == n) ≡ true
    self n = eq-eqb n n refl

as_sent : (x : MsgId) (s : Sending) (m : Sent) → m.id ≡ x → m.port ≡ s.port → m.route ≡ s.route → m ≡ record { id = x; port = s.port; route = s.route }
as_sent x s m a b c = λ i. record { id = a i; port = b i; route = c i }

-- the row says how the place sent the message
pub sent_is : (l : Layout) (past : List Entry) (x : MsgId) (p : ℕ) → is_legal l past ≡ true → sent_from p x (sending x past) ≡ sent_as x p past
sent_is l past x p legal = by (sending x past) refl
  where
    away : (s : Sending) → IsSentAs x past s → (p == s.place) ≡ false → (o : Option Sent) → sent_as x p past ≡ o → None ≡ o
    away s i n None k = refl
    away s i n (Some m) k =
        let same : p ≡ s.place = (legal_messages l past legal x).home p s.place m i.message k i.is in
        absurd (false≢true (sym n ∙ eq-eqb p s.place same))

    here : (s : Sending) → IsSentAs x past s → (b : Bool) → (p == s.place) ≡ b → cond b (Some (record { id = x; port = s.port; route = s.route })) None ≡ sent_as x p past
    here s i true e =
        let m = as_sent x s i.message (found_id x (sent (at s.place past)) i.message i.is) i.port i.route in
        ap (λ (z : Sent). Some z) (sym m) ∙ (sym i.is ∙ ap (λ z. sent_as x z past) (sym (eqb-true p s.place e)))
    here s i false e = away s i e (sent_as x p past) refl

    by : (o : Option Sending) → sending x past ≡ o → sent_from p x o ≡ sent_as x p past
    by None h = sym (unsent x past h p)
    by (Some s) h = here s (sent_there x past s h) (p == s.place) refl

-- What is sent is new.

nothing_settled : (x : MsgId) (t : Entry → Bool) (es : List Entry) → about x es ≡ [] → is_settled x (filter t es) ≡ false
nothing_settled x t [] h = refl
nothing_settled x t (e ∷ es) h = by (is_about (Some x) e) refl h (nothing_settled x t es)
  where
    by : (b : Bool) → is_about (Some x) e ≡ b → cond b (e ∷ about x es) (about x es) ≡ [] → (about x es ≡ [] → is_settled x (filter t es) ≡ false) → is_settled x (filter t (e ∷ es)) ≡ false
    by true n k ih = absurd (cc)
    by false n k ih = go (t e)
      where
        go : (c : Bool) → is_settled x (cond c (e ∷ filter t es) (filter t es)) ≡ false
        go true = ap (λ z. z || is_settled x (filter t es)) (settles_other x e.act n) ∙ ih k
        go false = ih k

nothing_tried : (x : MsgId) (t : Entry → Bool) (es : List Entry) → about x es ≡ [] → is_tried x (filter t es) ≡ false
nothing_tried x t [] h = refl
nothing_tried x t (e ∷ es) h = by (is_about (Some x) e) refl h (nothing_tried x t es)
  where
    by : (b : Bool) → is_about (Some x) e ≡ b → cond b (e ∷ about x es) (about x es) ≡ [] → (about x es ≡ [] → is_tried x (filter t es) ≡ false) → is_tried x (filter t (e ∷ es)) ≡ false
    by true n k ih = absurd (cc)
    by false n k ih = go (t e)
      where
        go : (c : Bool) → is_tried x (cond c (e ∷ filter t es) (filter t es)) ≡ false
        go true = tried_other x e.act n (is_tried x (filter t es)) ∙ ih k
        go false = ih k

-- an act that sends the message: no entry was about it, and the act neither settles nor tries it
record IsNew (x : MsgId) (past : List Entry) (a : Act) : Type 0 where
  about : about x past ≡ []
  settles : settles x a ≡ false
  tries : (b : Bool) → tried_after x a b ≡ b

module _ (l : Layout) (past : List Entry) (p s : ℕ) (legal : is_legal l past ≡ true) where
  new_post : (x : MsgId) (m : Message) (d : Dest) → m.id ≡ x → act_may l (views past p s (Post m d)) p s (Post m d) ≡ true → IsNew x past (Post m d)
  new_post x m d is h =
      let needs = post_needs l past p s m d h in
      let number = needs.number in
      let same : posts (by m.id.seat past) ≡ posts (by s past) = ap (λ k. posts (by k past)) needs.seat in
      let less : posts (by m.id.seat past) < m.id.number = omega (arith, number, same) in
      record { about = subst (λ z. about z past ≡ []) is ((legal_messages l past legal m.id).fresh less).about; settles = refl; tries = λ b. refl }

  sent_new : (x : MsgId) (a : Act) (m : Sent) → find_sent x (sent_by a) ≡ Some m → act_may l (views past p s a) p s a ≡ true → IsNew x past a
  sent_new x (Post n (D.Port q)) m f h =
      elim (cond_some (same_id n.id x) (record { id = n.id; port = q; route = None }) m None f) [
        | inl this ↦ new_post x n (D.Port q) (from_same_id n.id x this.0) h
        | inr none ↦ none_some m none.1
      ]
  sent_new x (Post n (D.All g)) m f h = none_some m f
  sent_new x (Post n (D.One g)) m f h = none_some m f
  sent_new x (Post n (D.OneAt g t)) m f h = none_some m f
  sent_new x (Choose y g qs) m f h =
      let needs = choose_needs l past p s y g qs h in
      let asked = asked_facts y past needs.from needs.dest (legal_messages l past legal y) needs.asked in
      let copy = copy_found x y g 1 qs m f in
      let src : source x ≡ y = same_source x y copy.seat copy.number ∙ own_source y asked.1.copy in
      let not_post : x.copy ≡ 0 → ⊥ = λ z. (omega (arith, z, copy.copy)) in
      let unchosen : is_chosen (source x) (about (source x) past) ≡ false = subst (λ z. is_chosen z (about z past) ≡ false) (sym src) asked.0.chosen in
      record { about = ((legal_messages l past legal x).uncopied not_post unchosen).about; settles = refl; tries = λ b. refl }
  sent_new x _ m f h = none_some m f

-- The marks of the place that sent it.

none_over : (x : MsgId) (past : List Entry) → sending x past ≡ None → (is_over x past ≡ false) × (is_away x past ≡ false)
none_over x [] h = (refl, refl)
none_over x (e ∷ past) h =
    let none = (or_nones (sending x past) (sending_by x e) h).0 in
    let ih = none_over x past none in (
      ap (λ o. (is_from e.place o && settles x e.act) || is_over x past) none ∙ ih.0,
      ap (λ o. cond (is_from e.place o) (tried_after x e.act (is_away x past)) (is_away x past)) none ∙ ih.1,
    )

over_case : (x : MsgId) (e : Entry) (here : List Entry) (b : Bool) → ((b && settles x e.act) || is_settled x here) ≡ is_settled x (cond b (e ∷ here) here)
over_case x e here true = refl
over_case x e here false = refl

away_case : (x : MsgId) (e : Entry) (here : List Entry) (b : Bool) → cond b (tried_after x e.act (is_tried x here)) (is_tried x here) ≡ is_tried x (cond b (e ∷ here) here)
away_case x e here true = refl
away_case x e here false = refl

abbrev AreMarks : MsgId → List Entry → ℕ → Type 0
AreMarks x past p = (is_over x past ≡ is_settled x (at p past)) × (is_away x past ≡ is_tried x (at p past))

marks_old : (x : MsgId) (past : List Entry) (e : Entry) (s : Sending) → sending x past ≡ Some s → AreMarks x past s.place → AreMarks x (e ∷ past) s.place
marks_old x past e s h m = (
  (λ i. (is_from e.place (h i) && settles x e.act) || m.0 i) ∙ over_case x e (at s.place past) (e.place == s.place),
  (λ i. cond (is_from e.place (h i)) (tried_after x e.act (m.1 i)) (m.1 i)) ∙ away_case x e (at s.place past) (e.place == s.place),
)

marks_new : (x : MsgId) (past : List Entry) (e : Entry) (p : ℕ) → sending x past ≡ None → IsNew x past e.act → AreMarks x (e ∷ past) p
marks_new x past e p h n =
    let none = none_over x past h in
    let settled : is_settled x (at p past) ≡ false = nothing_settled x (is_at p) past n.about in (
      ap (λ o. (is_from e.place o && settles x e.act) || is_over x past) h
          ∙ (none.0 ∙ (sym (settled_both (is_at p e) (settles x e.act) (is_settled x (at p past)) n.settles settled) ∙ over_case x e (at p past) (is_at p e))),
      ap (λ o. cond (is_from e.place o) (tried_after x e.act (is_away x past)) (is_away x past)) h
          ∙ (none.1 ∙ (sym (tried_both (is_at p e)) ∙ away_case x e (at p past) (is_at p e))),
    )
  where
    settled_both : (b c d : Bool) → c ≡ false → d ≡ false → ((b && c) || d) ≡ false
    settled_both true c d j k = ap (λ z. z || d) j ∙ k
    settled_both false c d j k = k

    tried_both : (b : Bool) → cond b (tried_after x e.act (is_tried x (at p past))) (is_tried x (at p past)) ≡ false
    tried_both true = n.tries (is_tried x (at p past)) ∙ nothing_tried x (is_at p) past n.about
    tried_both false = nothing_tried x (is_at p) past n.about

pub marks_are : (l : Layout) (past : List Entry) (x : MsgId) (s : Sending) → is_legal l past ≡ true → sending x past ≡ Some s → AreMarks x past s.place
marks_are l [] x s legal h = none_some s h
marks_are l (e ∷ past) x s legal h =
    let two = legal_parts l e past legal in
    elim (from_or (sending x past) (sending_by x e) s h) [
      | inl old ↦ marks_old x past e s old (marks_are l past x s two.1 old)
      | inr new ↦ (
          let n = sends_case x e s (find_sent x (sent_by e.act)) refl new.1 in
          marks_new x past e s.place new.0 (sent_new l past e.place e.seat two.1 x e.act n.message n.is two.0))
    ]

-- of what a place sent
pub marks_of : (l : Layout) (past : List Entry) (x : MsgId) (p : ℕ) (m : Sent) → is_legal l past ≡ true → sent_as x p past ≡ Some m → AreMarks x past p
marks_of l past x p m legal h = by (sending x past) refl
  where
    by : (o : Option Sending) → sending x past ≡ o → AreMarks x past p
    by None k = none_some m (sym (unsent x past k p) ∙ h)
    by (Some s) k =
        let i = sent_there x past s k in
        subst (AreMarks x past) (sym ((legal_messages l past legal x).home p s.place m i.message h i.is)) (marks_are l past x s legal k)

pub tried_is : (l : Layout) (past : List Entry) (x : MsgId) (p : ℕ) → is_legal l past ≡ true → is_some (sent_as x p past) ≡ true → is_away x past ≡ is_tried x (at p past)
tried_is l past x p legal h = by (sent_as x p past) refl h
  where
    by : (o : Option Sent) → sent_as x p past ≡ o → is_some o ≡ true → is_away x past ≡ is_tried x (at p past)
    by None k s = absurd (false≢true s)
    by (Some m) k s = (marks_of l past x p m legal k).1

-- The first pending message of a line is the first that is not settled at its place.

pending_case : (k : LineKey) (test : MsgId → Bool) (other : MsgId → Bool) (m : Sent) (ms : List Sent) (b : Bool) → test m.id ≡ other m.id → find test (ids_by k ms) ≡ find other (ids_by k ms) → find test (cond b (m.id ∷ ids_by k ms) (ids_by k ms)) ≡ find other (cond b (m.id ∷ ids_by k ms) (ids_by k ms))
pending_case k test other m ms true e h = (λ i. cond (e i) (Some m.id) (h i))
pending_case k test other m ms false e h = h

pending_same : (k : LineKey) (test other : MsgId → Bool) (ms : List Sent) → EachSent (λ m. test m.id ≡ other m.id) ms → find test (ids_by k ms) ≡ find other (ids_by k ms)
pending_same k test other [] h = refl
pending_same k test other (m ∷ ms) h = pending_case k test other m ms (goes_by k m) h.0 (pending_same k test other ms h.1)

pub line_first : (l : Layout) (past : List Entry) (k : LineKey) (xs : List MsgId) → is_legal l past ≡ true → filter (is_pending past) xs ≡ filter (is_pending past) (line_row past k) → find (is_pending past) xs ≡ first_for k.name k.route (unsettled (at k.place past) (sent (at k.place past)))
line_first l past k xs legal h =
    let here = at k.place past in
    let each = each-map (IsFound (sent here)) (λ m. is_pending past m.id ≡ open_at here m.id) (λ m f. ap not (marks_of l past m.id k.place m legal f).0) (sent here) (all-found l past k.place legal) in
    same_first (is_pending past) xs (line_row past k) h
    ∙ (pending_same k (is_pending past) (open_at here) (sent here) each ∙ sym (first_is k here (sent here)))
