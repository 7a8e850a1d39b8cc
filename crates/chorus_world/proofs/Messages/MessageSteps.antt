-- What is so of each message in every legal past, and that each entry that may come next keeps it; so a port was wherever
-- it is located.
use Rattle.std.proofs.Common.{ℕ, ◌≡◌, ◌+◌, ◌<◌, ◌⊎◌, inl, inr, Bool, true, false, ◌==◌, nat_lt, ◌&&◌, not, cond, List, [], ◌∷◌, ◌++◌, Option, Some, None, is_some, is_none, refl, sym, ◌∙◌, ap, subst, arith}
use Rattle.std.specs.List.{slice_get}
use Rattle.std.specs.Option.{option_or}
use Rattle.std.proofs.lemmas.Bool.{eqb-true, eq-eqb, cases_Bool, false≢true, and_parts, cond_both}
use Rattle.chorus_ui.specs.declared.ui.Ui.{Ui}
use Rattle.chorus_ui.specs.declared.layout.Layout.{Layout}
use Rattle.chorus_ui.specs.Name.{same_ui}
use Rattle.chorus_ui.specs.Layout.{IsLayout}
use Rattle.chorus_ui.proofs.Names.{from_same_ui}
use Rattle.chorus_entry.specs.declared.entry.Entry.{Entry}
use Rattle.chorus_entry.specs.declared.id.MsgId.{MsgId}
use Rattle.chorus_entry.specs.declared.message.Message.{Message}
use Rattle.chorus_entry.specs.declared.dest.Dest.{Dest}
use Rattle.chorus_entry.specs.declared.dest.Dest.TheVariants as D
use Rattle.chorus_entry.specs.declared.answer.Answer.{Answer}
use Rattle.chorus_entry.specs.declared.answer.Answer.TheVariants as A
use Rattle.chorus_entry.specs.declared.act.Act.{Act}
use Rattle.chorus_entry.specs.declared.act.Act.TheVariants.{Post, Accept, Full, Already, ClientsFull, Stale, Early, NoPort, Elsewhere, NoMember, Choose, Try, Told, Heard, Gone}
use Rattle.chorus_entry.specs.Answer.{is_final}
use Rattle.chorus_entry.specs.Dest.{group_in}
use Rattle.chorus_entry.specs.Kinds.{has_kinds}
use Rattle.chorus_entry.proofs.Same.{from_same_id}
use Rattle.chorus_world.specs.declared.place.Location.{Location}
use Rattle.chorus_world.specs.declared.place.Sent.{Sent}
use Rattle.chorus_world.specs.declared.progress.Progress.{Progress}
use Rattle.chorus_world.specs.declared.progress.Progress.TheVariants.{Idle, Asked, Tried, Decided, Settled, Reported}
use Rattle.chorus_world.specs.Views.{views, at, on, about, is_about}
use Rattle.chorus_entry.specs.Order.{is_at}
use Rattle.chorus_entry.specs.Same.{are_same}
use Rattle.chorus_world.specs.Ports.{fate}
use Rattle.chorus_world.specs.Messages.{progress, progress_after, posted, decided, settled, told}
use Rattle.chorus_world.specs.Posts.{is_on_site, site_asked}
use Rattle.chorus_world.specs.Places.{located, is_location, taught, sent, sent_by, find_sent, is_first, is_first_as, is_tried, just_taken}
use Rattle.chorus_world.specs.Groups.{posts_to, post_to}
use Rattle.chorus_world.specs.Steps.{act_may, act_follows, may, is_timely, may_stand_behind, is_legal, is_to_go, is_beyond, is_elsewhere}
use Rattle.chorus_world.specs.LocationLaws.{path_of, LocatesOnPath}
use Rattle.chorus_world.proofs.Messages.SentLemmas.{find_sent_append}
use Rattle.chorus_world.proofs.Steps.LegalLemmas.{entry, under, skips, keeps}
use Rattle.chorus_world.proofs.Ports.PortSteps.{PortFacts, Known}
use Rattle.chorus_world.proofs.Ports.PortMoves.{Teaches, IsSentTo, to_be_told, ports_step, known_step}

-- the id is one of these
abbrev pub IsAmong : MsgId → List MsgId → Type 0
IsAmong x [] = ⊥
IsAmong x (y ∷ ys) = (y ≡ x) ⊎ IsAmong x ys

among_left : (x : MsgId) (xs ys : List MsgId) → IsAmong x xs → IsAmong x (xs ++ ys)
among_left x [] ys h = absurd h
among_left x (y ∷ xs) ys (inl e) = inl e
among_left x (y ∷ xs) ys (inr h) = inr (among_left x xs ys h)

among_right : (x : MsgId) (xs ys : List MsgId) → IsAmong x ys → IsAmong x (xs ++ ys)
among_right x [] ys h = h
among_right x (y ∷ xs) ys h = inr (among_right x xs ys h)

-- what the progress of the message x says of the past
abbrev pub Fits : Layout → List Entry → MsgId → Progress → Type 0
Fits l past x (Tried from r to hop) = Known l past r hop to × IsSentTo past from x r
Fits l past x (Decided from by r a) = Teaches l past r (taught a) × IsSentTo past from x r
Fits l past x (Asked from d) = (g : Ui) → are_same same_ui (Some g) (group_in d) ≡ true → IsAmong x (posts_to g (at from past))
Fits l past x _ = Unit {0}

-- What follows leaves it so.

sent_or : (x : MsgId) (b : Bool) (ms ns : List Sent) (m : Sent) → find_sent x ms ≡ Some m → cond b (find_sent x (ms ++ ns)) (find_sent x ms) ≡ Some m
sent_or x true ms ns m h = find_sent_append x ms ns ∙ ap (λ o. option_or o (find_sent x ns)) h
sent_or x false ms ns m h = h

sent_grows : (past : List Entry) (e : Entry) (from : ℕ) (x : MsgId) (q : Ui) → IsSentTo past from x q → IsSentTo (e ∷ past) from x q
sent_grows past e from x q s =
    (s.0, under (λ es. find_sent x (sent es)) (is_at from e) (e ∷ at from past) (at from past) ∙ sent_or x (is_at from e) (sent (at from past)) (sent_by e.act) s.0 s.1, s.2)

among_or : (x : MsgId) (b : Bool) (xs ys : List MsgId) → IsAmong x xs → IsAmong x (cond b (xs ++ ys) xs)
among_or x true xs ys h = among_left x xs ys h
among_or x false xs ys h = h

among_grows : (past : List Entry) (e : Entry) (from : ℕ) (x : MsgId) (g : Ui) → IsAmong x (posts_to g (at from past)) → IsAmong x (posts_to g (at from (e ∷ past)))
among_grows past e from x g h =
    subst (λ xs. IsAmong x xs) (sym (under (posts_to g) (is_at from e) (e ∷ at from past) (at from past)))
    (among_or x (is_at from e) (posts_to g (at from past)) (post_to g e.act) h)

teaches_grows : (l : Layout) (past : List Entry) (e : Entry) (q : Ui) → ((n z : ℕ) → Known l past q n z → Known l (e ∷ past) q n z) → (o : Option Location) → Teaches l past q o → Teaches l (e ∷ past) q o
teaches_grows l past e q grow None h = tt
teaches_grows l past e q grow (Some y) h = grow y.hop y.to h

fits_grows : (l : Layout) (past : List Entry) (e : Entry) → ((q : Ui) (n z : ℕ) → Known l past q n z → Known l (e ∷ past) q n z) → (x : MsgId) (s : Progress) → Fits l past x s → Fits l (e ∷ past) x s
fits_grows l past e grow x (Tried from r to hop) h = (grow r hop to h.0, sent_grows past e from x r h.1)
fits_grows l past e grow x (Decided from by r a) h = (teaches_grows l past e r (grow r) (taught a) h.0, sent_grows past e from x r h.1)
fits_grows l past e grow x (Asked from d) h = λ g t. among_grows past e from x g (h g t)
fits_grows l past e grow x _ h = tt

-- Each entry about it makes it so.

settled_fits : (l : Layout) (es : List Entry) (x : MsgId) (a : Answer) → Fits l es x (settled a)
settled_fits l es x a = cond_both (is_final a) (Settled a) Idle (Fits l es x) (λ _. tt) (λ _. tt)

told_fits : (l : Layout) (es : List Entry) (x : MsgId) (a : Answer) (s : Progress) → Fits l es x s → Fits l es x (told a s)
told_fits l es x a (Decided from by q b) h = settled_fits l es x a
told_fits l es x a Idle h = h
told_fits l es x a (Asked from d) h = h
told_fits l es x a (Tried from r to hop) h = h
told_fits l es x a (Settled b) h = h
told_fits l es x a Reported h = h

decided_fits : (l : Layout) (es : List Entry) (x : MsgId) (p : ℕ) (q : Ui) (a : Answer) (s : Progress) → Teaches l es q (taught a) → Fits l es x s → Fits l es x (decided p q a s)
decided_fits l es x p q a (Tried from r to hop) g h =
    cond_both ((to == p) && same_ui r q) (Decided from p r a) Idle (Fits l es x)
    (λ t. (subst (λ z. Teaches l es z (taught a)) (sym (from_same_ui r q (and_parts (to == p) (same_ui r q) t).1)) g, h.1))
    (λ _. tt)
decided_fits l es x p q a Idle g h = settled_fits l es x a
decided_fits l es x p q a (Decided from by r b) g h = h
decided_fits l es x p q a (Asked from d) g h = h
decided_fits l es x p q a (Settled b) g h = h
decided_fits l es x p q a Reported g h = h

post_among : (past : List Entry) (c p s : ℕ) (m : Message) (d : Dest) (x : MsgId) (g : Ui) → m.id ≡ x → are_same same_ui (Some g) (group_in d) ≡ true → IsAmong x (posts_to g (at p (entry c p s (Post m d) ∷ past)))
post_among past c p s m d x g e t =
    let f = entry c p s (Post m d) in
    let here : at p (f ∷ past) ≡ f ∷ at p past = keeps (is_at p) f past (eq-eqb p p refl) in
    let one : post_to g (Post m d) ≡ m.id ∷ [] = ap (λ b. cond b (m.id ∷ []) []) t in
    subst (λ es. IsAmong x (posts_to g es)) (sym here)
    (subst (λ xs. IsAmong x (posts_to g (at p past) ++ xs)) (sym one)
    (among_right x (posts_to g (at p past)) (m.id ∷ []) (inl e)))

post_fits : (l : Layout) (past : List Entry) (c p s : ℕ) (m : Message) (d : Dest) (x : MsgId) → m.id ≡ x → Fits l (entry c p s (Post m d) ∷ past) x (posted p d)
post_fits l past c p s m (D.Port q) x e = tt
post_fits l past c p s m (D.All g) x e = λ h t. post_among past c p s m (D.All g) x h e t
post_fits l past c p s m (D.One g) x e = λ h t. post_among past c p s m (D.One g) x h e t
post_fits l past c p s m (D.OneAt g n) x e = λ h t. post_among past c p s m (D.OneAt g n) x h e t

first_as : (x : MsgId) (q : Ui) (here : List Entry) (o : Option Sent) → is_first_as x q here o ≡ true → (m : Sent) × (o ≡ Some m) × (m.port ≡ q)
first_as x q here None h = absurd (false≢true h)
first_as x q here (Some m) h =
    let two = and_parts _ (not (is_tried x here)) h in
    let one = and_parts (same_ui m.port q) _ two.0 in
    (m, refl, from_same_ui m.port q one.0)

-- a message that is first was sent from here to the port
pub first_sent : (past : List Entry) (p : ℕ) (x : MsgId) (q : Ui) → is_first x q (at p past) ≡ true → IsSentTo past p x q
first_sent past p x q h = first_as x q (at p past) (find_sent x (sent (at p past))) h

pub located_known : (l : Layout) (past : List Entry) (q : Ui) (p to hop : ℕ) → PortFacts l past q → (located l q (at p past)).to ≡ to → (located l q (at p past)).hop ≡ hop → Known l past q hop to
located_known l past q p to hop f a b =
    subst (λ z. slice_get (path_of l q (fate (on q past))) z ≡ Some to) b (f.located p ∙ ap (λ z. Some z) a)

pub location_known : (l : Layout) (past : List Entry) (q : Ui) (p to hop : ℕ) → PortFacts l past q → is_location to hop (located l q (at p past)) ≡ true → Known l past q hop to
location_known l past q p to hop f h =
    let e = and_parts ((located l q (at p past)).to == to) ((located l q (at p past)).hop == hop) h in
    located_known l past q p to hop f (eqb-true (located l q (at p past)).to to e.0) (eqb-true (located l q (at p past)).hop hop e.1)

-- where a place would send it
pub to_go_parts : (l : Layout) (past : List Entry) (p s : ℕ) (a : Act) (x : MsgId) (q : Ui) (to : ℕ) → is_to_go l (views past p s a) x q to ≡ true → (is_first x q (at p past) ≡ true) × (is_beyond l q ≡ false) × ((located l q (at p past)).to ≡ to)
to_go_parts l past p s a x q to h =
    let two = and_parts (is_first x q (at p past) && not (is_beyond l q)) ((located l q (at p past)).to == to) h in
    let one = and_parts (is_first x q (at p past)) (not (is_beyond l q)) two.0 in
    (one.0, not_true (is_beyond l q) one.1, eqb-true (located l q (at p past)).to to two.1)
  where
    not_true : (b : Bool) → not b ≡ true → b ≡ false
    not_true true h = absurd (false≢true h)
    not_true false h = refl

pub record Inv (l : Layout) (past : List Entry) : Type 0 where
  pub ports : (q : Ui) → PortFacts l past q
  pub messages : (x : MsgId) → Fits l past x (progress (about x past))

-- what an entry about the message x makes of its progress
on_message : (l : Layout) (past : List Entry) (x : MsgId) (c p s : ℕ) (a : Act) → Inv l past → ((q : Ui) (n z : ℕ) → Known l past q n z → Known l (entry c p s a ∷ past) q n z) → act_may l (views past p s a) p s a ≡ true → is_about (Some x) (entry c p s a) ≡ true → Fits l (entry c p s a ∷ past) x (progress (about x past)) → Fits l (entry c p s a ∷ past) x (progress_after p a (progress (about x past)))
on_message l past x c p s (Post m d) i grow h t f = post_fits l past c p s m d x (sym (from_same_id x m.id t))
on_message l past x c p s (Choose y g qs) i grow h t f = tt
on_message l past x c p s (NoMember y g) i grow h t f = tt
on_message l past x c p s (Heard y b) i grow h t f = tt
on_message l past x c p s (Told y b) i grow h t f = told_fits l (entry c p s (Told y b) ∷ past) x b (progress (about x past)) f
on_message l past x c p s (Try y r to hop) i grow h t f =
    let three = and_parts _ (is_on_site l (site_asked y past) to) h in
    let two = and_parts _ (not (to == p)) three.0 in
    let one = and_parts (is_to_go l (views past p s (Try y r to hop)) y r to) ((located l r (at p past)).hop == hop) two.0 in
    let go = to_go_parts l past p s (Try y r to hop) y r to one.0 in
    let known = located_known l past r p to hop (i.ports r) go.2 (eqb-true (located l r (at p past)).hop hop one.1) in (
      grow r hop to known,
      subst (λ z. IsSentTo (entry c p s (Try y r to hop) ∷ past) p z r) (sym (from_same_id x y t))
          (sent_grows past (entry c p s (Try y r to hop)) p y r (first_sent past p y r go.0)),
    )
on_message l past x c p s (Stale y r tried to hop) i grow h t f =
    let five = and_parts _ (is_none (site_asked y past)) h in
    let four = and_parts _ (not (to == p)) five.0 in
    let three = and_parts _ (nat_lt tried hop) four.0 in
    let two = and_parts _ (is_location to hop (located l r (at p past))) three.0 in
    decided_fits l (entry c p s (Stale y r tried to hop) ∷ past) x p r (A.Stale to hop) (progress (about x past))
    (grow r hop to (location_known l past r p to hop (i.ports r) two.1)) f
on_message l past x c p s (Elsewhere y r to hop) i grow h t f =
    let two = and_parts _ (is_elsewhere l (views past p s (Elsewhere y r to hop)) p y r to hop) h in
    let one = and_parts (is_some (site_asked y past)) (is_location to hop (located l r (at p past))) two.0 in
    decided_fits l (entry c p s (Elsewhere y r to hop) ∷ past) x p r (A.Elsewhere to hop) (progress (about x past))
    (grow r hop to (location_known l past r p to hop (i.ports r) one.1)) f
on_message l past x c p s (Accept y r n) i grow h t f = decided_fits l (entry c p s (Accept y r n) ∷ past) x p r (A.Accepted n) (progress (about x past)) tt f
on_message l past x c p s (Full y r n) i grow h t f = decided_fits l (entry c p s (Full y r n) ∷ past) x p r (A.Full n) (progress (about x past)) tt f
on_message l past x c p s (Already y r) i grow h t f = decided_fits l (entry c p s (Already y r) ∷ past) x p r A.Already (progress (about x past)) tt f
on_message l past x c p s (ClientsFull y r) i grow h t f = decided_fits l (entry c p s (ClientsFull y r) ∷ past) x p r A.ClientsFull (progress (about x past)) tt f
on_message l past x c p s (Early y r hop) i grow h t f = decided_fits l (entry c p s (Early y r hop) ∷ past) x p r (A.Early hop) (progress (about x past)) tt f
on_message l past x c p s (NoPort y r) i grow h t f = decided_fits l (entry c p s (NoPort y r) ∷ past) x p r A.NoPort (progress (about x past)) tt f
on_message l past x c p s (Gone y r) i grow h t f = decided_fits l (entry c p s (Gone y r) ∷ past) x p r A.Gone (progress (about x past)) tt f
on_message l past x c p s _ i grow h t f = absurd (false≢true t)

messages_step : (l : Layout) (past : List Entry) (x : MsgId) (c p s : ℕ) (a : Act) → IsLayout l → Inv l past → act_may l (views past p s a) p s a ≡ true → Fits l (entry c p s a ∷ past) x (progress (about x (entry c p s a ∷ past)))
messages_step l past x c p s a layout i h =
    let e = entry c p s a in
    let grow : (q : Ui) (n z : ℕ) → Known l past q n z → Known l (e ∷ past) q n z = λ q. known_step l past q c p s a layout (i.ports q) h in
    let old : Fits l (e ∷ past) x (progress (about x past)) = fits_grows l past e grow x (progress (about x past)) (i.messages x) in
    elim (cases_Bool (is_about (Some x) e)) [
      | inl t ↦ subst (λ es. Fits l (e ∷ past) x (progress es)) (sym (keeps (is_about (Some x)) e past t)) (on_message l past x c p s a i grow h t old)
      | inr n ↦ subst (λ es. Fits l (e ∷ past) x (progress es)) (sym (skips (is_about (Some x)) e past n)) old
    ]

-- what a place is told of a message
told_known : (l : Layout) (past : List Entry) (p s : ℕ) (a : Act) → Inv l past → act_may l (views past p s a) p s a ≡ true → (x : MsgId) (b : Answer) → a ≡ Told x b → (r : Ui) × (Teaches l past r (taught b) × IsSentTo past p x r)
told_known l past p s a i h x b e =
    let d = to_be_told p b (progress (about x past)) (subst (λ z. act_may l (views past p s z) p s z ≡ true) e h) in
    (d.1, subst (λ z. Fits l past x z) d.2 (i.messages x))

pub may_act : (l : Layout) (past : List Entry) (e : Entry) → may l past e ≡ true → act_may l (views past e.place e.seat e.act) e.place e.seat e.act ≡ true
may_act l past e h =
    let v = views past e.place e.seat e.act in
    (and_parts (has_kinds e.act && may_stand_behind (just_taken past v.here) e.act) (act_may l v e.place e.seat e.act)
    (and_parts (is_timely l v e) (act_follows l v e.place e.seat e.act) h).1).1

inv_none : (l : Layout) → Inv l []
inv_none l =
    record {
      ports = λ q. record {
        kept = λ p. refl;
        ended = λ p. refl;
        some = omega arith;
        moving = λ h. absurd (false≢true h);
        unmade = λ h. refl;
        located = λ p. refl;
        left = λ p n h lt. absurd (let one : n + 1 < 1 = lt in omega arith);
        rests = λ h. absurd (false≢true h);
        made = λ h. absurd (false≢true h);
      };
      messages = λ x. tt;
    }

inv_more : (l : Layout) (past : List Entry) (e : Entry) → IsLayout l → Inv l past → may l past e ≡ true → Inv l (e ∷ past)
inv_more l past e layout i h =
    let act = may_act l past e h in
    record {
      ports = λ q. ports_step l past q e.clock e.place e.seat e.act layout (i.ports q) (told_known l past e.place e.seat e.act i act) act;
      messages = λ x. messages_step l past x e.clock e.place e.seat e.act layout i act;
    }

pub legal_inv : (l : Layout) (past : List Entry) → IsLayout l → is_legal l past ≡ true → Inv l past
legal_inv l [] layout h = inv_none l
legal_inv l (e ∷ past) layout h =
    let two = and_parts (may l past e) (is_legal l past) h in
    inv_more l past e layout (legal_inv l past layout two.1) two.0

-- the law on locations
pub locates : LocatesOnPath
locates l past p q layout h = ((legal_inv l past layout h).ports q).located p
