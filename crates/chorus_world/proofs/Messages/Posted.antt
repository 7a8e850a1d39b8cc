-- In a legal past each message that an entry is about, or takes, was posted.
use Rattle.std.proofs.Common.{ℕ, ◌≡◌, ◌+◌, ◌⊎◌, inl, inr, zero, suc, Bool, true, false, ◌==◌, nat_lt, ◌&&◌, not, cond, List, [], ◌∷◌, ◌++◌, length, Option, Some, None, is_none, refl, sym, ◌∙◌, ap, subst}
use Rattle.std.specs.List.{slice_get, filter}
use Rattle.std.specs.Option.{option_or}
use Rattle.std.proofs.lemmas.Bool.{eqb-true, eq-eqb, cases_Bool, false≢true, true≢false, and_parts, and_from, or_cases}
use Rattle.chorus_ui.specs.declared.ui.Ui.{Ui}
use Rattle.chorus_ui.specs.declared.layout.Layout.{Layout}
use Rattle.chorus_entry.specs.declared.entry.Entry.{Entry}
use Rattle.chorus_entry.specs.declared.id.MsgId.{MsgId}
use Rattle.chorus_entry.specs.declared.message.Message.{Message}
use Rattle.chorus_entry.specs.declared.dest.Dest.{Dest}
use Rattle.chorus_entry.specs.declared.dest.Dest.TheVariants as D
use Rattle.chorus_entry.specs.declared.answer.Answer.{Answer}
use Rattle.chorus_entry.specs.declared.act.Act.{Act}
use Rattle.chorus_entry.specs.declared.act.Act.TheVariants.{Make, Post, Accept, Full, Already, ClientsFull, Stale, Early, NoPort, Elsewhere, NoMember, Choose, Try, Told, Heard, Take, Gone}
use Rattle.chorus_entry.specs.Act.{message_of}
use Rattle.chorus_entry.specs.MsgId.{same_id}
use Rattle.chorus_entry.proofs.Same.{from_same_id}
use Rattle.chorus_world.specs.declared.place.Sent.{Sent}
use Rattle.chorus_world.specs.declared.progress.Progress.{Progress}
use Rattle.chorus_world.specs.declared.progress.Progress.TheVariants.{Idle, Asked, Tried, Decided, Settled, Reported}
use Rattle.chorus_world.specs.declared.due.Due.TheVariants.{NotDue, AtHome}
use Rattle.chorus_world.specs.Views.{Views, views, at, by, on, about, is_by, is_on, is_about}
use Rattle.chorus_entry.specs.Order.{is_at}
use Rattle.chorus_entry.specs.Same.{are_same}
use Rattle.chorus_world.specs.Posts.{Posted, post_of, posted_in, posted_by, source, site_asked, is_on_site}
use Rattle.chorus_world.specs.Ports.{PortState, fate, fate_after, is_held_at, is_made, is_coming, is_ended_at, is_first_waiting, is_full, has_room}
use Rattle.chorus_world.specs.Clients.{is_already, finds_clients_full}
use Rattle.chorus_world.specs.Messages.{progress, is_to_be_told, is_to_be_heard}
use Rattle.chorus_world.specs.Places.{located, is_location, sent, sent_by, sent_to, copies, find_sent, is_first}
use Rattle.chorus_world.specs.Seats.{posts, posts_stay}
use Rattle.chorus_world.specs.Steps.{act_may, due, due_by_try, is_due, is_due_with, is_tried_with, is_early, is_to_go, is_beyond, suits, meets, is_elsewhere, may_tag, may_choose_from}
use Rattle.chorus_world.proofs.Messages.SentLemmas.{find_sent_append}
use Rattle.chorus_world.proofs.Steps.LegalLemmas.{entry, under, skips, keeps}
use Rattle.chorus_world.proofs.Messages.MessageSteps.{first_sent, to_go_parts}

abbrev pub IsPosted : List Entry → MsgId → Type 0
IsPosted past x = (m : Posted) × (post_of x past ≡ Some m)

-- the message that an act is about, or takes
abbrev pub id_in : Act → Option MsgId
id_in (Take q n x) = Some x
id_in act = message_of act

abbrev pub IfPosted : List Entry → Option MsgId → Type 0
IfPosted past None = Unit {0}
IfPosted past (Some x) = IsPosted past x

abbrev pub AllPosted : List Entry → List Entry → Type 0
AllPosted past [] = Unit {0}
AllPosted past (e ∷ es) = IfPosted past (id_in e.act) × AllPosted past es

-- What was posted stays posted.

or_choice : {A : Type 0} (b : Bool) (o m : Option A) (z : A) → o ≡ Some z → cond b (option_or o m) o ≡ Some z
or_choice true o m z h = ap (λ y. option_or y m) h
or_choice false o m z h = h

posted_grows : (past : List Entry) (e : Entry) (x : MsgId) → IsPosted past x → IsPosted (e ∷ past) x
posted_grows past e x p = (
  p.0,
  under (posted_in (source x)) (is_by x.seat e) (e ∷ by x.seat past) (by x.seat past)
      ∙ or_choice (is_by x.seat e) (post_of x past) (posted_by (source x) e.place e.act) p.0 p.1,
)

if_grows : (past : List Entry) (e : Entry) (o : Option MsgId) → IfPosted past o → IfPosted (e ∷ past) o
if_grows past e None h = tt
if_grows past e (Some x) h = posted_grows past e x h

all_grows : (past : List Entry) (e : Entry) (es : List Entry) → AllPosted past es → AllPosted (e ∷ past) es
all_grows past e [] h = tt
all_grows past e (f ∷ es) h = (if_grows past e (id_in f.act) h.0, all_grows past e es h.1)

filtered_choice : (past : List Entry) (t : Entry → Bool) (e : Entry) (es : List Entry) (b : Bool) → IfPosted past (id_in e.act) → AllPosted past (filter t es) → AllPosted past (cond b (e ∷ filter t es) (filter t es))
filtered_choice past t e es true x h = (x, h)
filtered_choice past t e es false x h = h

pub filtered : (past : List Entry) (t : Entry → Bool) (es : List Entry) → AllPosted past es → AllPosted past (filter t es)
filtered past t [] h = tt
filtered past t (e ∷ es) h = filtered_choice past t e es (t e) h.0 (filtered past t es h.1)

-- What is so of posted messages.

about_is : (x : MsgId) (o : Option MsgId) → are_same same_id (Some x) o ≡ true → o ≡ Some x
about_is x None h = absurd (false≢true h)
about_is x (Some y) h = ap (λ z. Some z) (sym (from_same_id x y h))

id_of_message : (a : Act) (x : MsgId) → message_of a ≡ Some x → id_in a ≡ Some x
id_of_message (Take q n y) x h = absurd (cc)
id_of_message a x h = h

-- no entry is about a message that was not posted
about_posted : (past : List Entry) (x : MsgId) (es : List Entry) → AllPosted past es → (about x es ≡ []) ⊎ IsPosted past x
about_posted past x [] h = inl refl
about_posted past x (e ∷ es) h =
    elim (cases_Bool (is_about (Some x) e)) [
      | inl t ↦ inr (subst (IfPosted past) (id_of_message e.act x (about_is x (message_of e.act) t)) h.0)
      | inr n ↦ elim (about_posted past x es h.1) [
        | inl empty ↦ inl (skips (is_about (Some x)) e es n ∙ empty)
        | inr p ↦ inr p
      ]
    ]

abbrev pub is_idle : Progress → Bool
is_idle Idle = true
is_idle _ = false

pub busy_posted : (past : List Entry) (x : MsgId) → AllPosted past past → is_idle (progress (about x past)) ≡ false → IsPosted past x
busy_posted past x h b =
    elim (about_posted past x past h) [
      | inl empty ↦ absurd (true≢false (sym (ap (λ es. is_idle (progress es)) empty) ∙ b))
      | inr p ↦ p
    ]

or_from : {A : Type 0} (o m : Option A) (x : A) → option_or o m ≡ Some x → (o ≡ Some x) ⊎ (m ≡ Some x)
or_from None m x h = inr h
or_from (Some y) m x h = inl h

copy_posted : (past : List Entry) (x y : MsgId) (g : Ui) (n : ℕ) (qs : List Ui) (m : Sent) → IsPosted past y → find_sent x (copies y g n qs) ≡ Some m → IsPosted past x
copy_posted past x y g n [] m p h = absurd (cc)
copy_posted past x y g n (q ∷ qs) m p h =
    elim (cases_Bool (same_id (record y { copy = n }) x)) [
      | inl t ↦ subst (IsPosted past) (from_same_id (record y { copy = n }) x t) p
      | inr f ↦ copy_posted past x y g (n + 1) qs m p (sym (ap (λ b. cond b (Some (record { id = record y { copy = n }; port = q; route = Some g })) (find_sent x (copies y g (n + 1) qs))) f) ∙ h)
    ]

direct_posted : (past : List Entry) (x y : MsgId) (d : Dest) (m : Sent) → IsPosted past y → find_sent x (sent_to y d) ≡ Some m → IsPosted past x
direct_posted past x y (D.Port q) m p h =
    elim (cases_Bool (same_id y x)) [
      | inl t ↦ subst (IsPosted past) (from_same_id y x t) p
      | inr f ↦ absurd (none (sym (ap (λ b. cond b (Some (record { id = y; port = q; route = None })) None) f) ∙ h))
    ]
  where
    none : None ≡ Some m → ⊥
    none e = cc
direct_posted past x y (D.All g) m p h = absurd (cc)
direct_posted past x y (D.One g) m p h = absurd (cc)
direct_posted past x y (D.OneAt g s) m p h = absurd (cc)

sent_by_posted : (past : List Entry) (x : MsgId) (a : Act) (m : Sent) → IfPosted past (id_in a) → find_sent x (sent_by a) ≡ Some m → IsPosted past x
sent_by_posted past x (Post n d) m p h = direct_posted past x n.id d m p h
sent_by_posted past x (Choose y g qs) m p h = copy_posted past x y g 1 qs m p h
sent_by_posted past x _ m p h = absurd (cc)

pub sent_posted : (past : List Entry) (x : MsgId) (es : List Entry) (m : Sent) → AllPosted past es → find_sent x (sent es) ≡ Some m → IsPosted past x
sent_posted past x [] m p h = absurd (cc)
sent_posted past x (e ∷ es) m p h =
    elim (or_from (find_sent x (sent es)) (find_sent x (sent_by e.act)) m (sym (find_sent_append x (sent es) (sent_by e.act)) ∙ h)) [
      | inl old ↦ sent_posted past x es m p.1 old
      | inr new ↦ sent_by_posted past x e.act m p.0 new
    ]

pub first_posted : (past : List Entry) (p : ℕ) (x : MsgId) (q : Ui) → AllPosted past past → is_first x q (at p past) ≡ true → IsPosted past x
first_posted past p x q h f =
    let s = first_sent past p x q f in sent_posted past x (at p past) s.0 (filtered past (is_at p) past h) s.1

due_cases : (past : List Entry) (x : MsgId) (test : ℕ → Bool) (p hop : ℕ) (q : Ui) (b : Bool) (s : Progress) → (b ≡ true → IsPosted past x) → (is_idle s ≡ false → IsPosted past x) → is_due_with test (due_by_try p q s (cond b (AtHome hop) NotDue)) ≡ true → IsPosted past x
due_cases past x test p hop q true Idle f g h = f refl
due_cases past x test p hop q false Idle f g h = absurd (false≢true h)
due_cases past x test p hop q b (Asked from d) f g h = g refl
due_cases past x test p hop q b (Tried from r to n) f g h = g refl
due_cases past x test p hop q b (Decided from at' r a) f g h = g refl
due_cases past x test p hop q b (Settled a) f g h = g refl
due_cases past x test p hop q b Reported f g h = g refl

-- what is due was posted
pub due_posted : (l : Layout) (past : List Entry) (v : Views) (p : ℕ) (x : MsgId) (q : Ui) (test : ℕ → Bool) → AllPosted past past → v.here ≡ at p past → v.message ≡ about x past → is_due_with test (due l v p x q) ≡ true → IsPosted past x
due_posted l past v p x q test all here message h =
    due_cases past x test p (located l q v.here).hop q (is_to_go l v x q p && suits l v p x) (progress v.message)
    (λ t. first_posted past p x q all
    (ap (λ es. is_first x q es) (sym here)
    ∙ (and_parts (is_first x q v.here) (not (is_beyond l q)) (and_parts (is_first x q v.here && not (is_beyond l q)) ((located l q v.here).to == p) (and_parts (is_to_go l v x q p) (suits l v p x) t).0).0).0))
    (λ b. busy_posted past x all (ap (λ es. is_idle (progress es)) (sym message) ∙ b))
    h

tried_busy : (test : ℕ → Bool) (p : ℕ) (q : Ui) (s : Progress) (b : Bool) (hop : ℕ) → is_tried_with test (due_by_try p q s (cond b (AtHome hop) NotDue)) ≡ true → is_idle s ≡ false
tried_busy test p q Idle true hop h = absurd (false≢true h)
tried_busy test p q Idle false hop h = absurd (false≢true h)
tried_busy test p q (Asked from d) b hop h = refl
tried_busy test p q (Tried from r to n) b hop h = refl
tried_busy test p q (Decided from at' r a) b hop h = refl
tried_busy test p q (Settled a) b hop h = refl
tried_busy test p q Reported b hop h = refl

pub tried_posted : (l : Layout) (past : List Entry) (v : Views) (p : ℕ) (x : MsgId) (q : Ui) (test : ℕ → Bool) → AllPosted past past → v.message ≡ about x past → is_tried_with test (due l v p x q) ≡ true → IsPosted past x
tried_posted l past v p x q test all message h =
    busy_posted past x all
    (ap (λ es. is_idle (progress es)) (sym message)
    ∙ tried_busy test p q (progress v.message) (is_to_go l v x q p && suits l v p x) (located l q v.here).hop h)

-- What a port accepted was posted.

abbrev pub EachPosted : List Entry → List MsgId → Type 0
EachPosted past [] = Unit {0}
EachPosted past (x ∷ xs) = IsPosted past x × EachPosted past xs

abbrev pub AcceptedPosted : List Entry → Option PortState → Type 0
AcceptedPosted past None = Unit {0}
AcceptedPosted past (Some f) = EachPosted past f.accepted

each_push : (past : List Entry) (xs : List MsgId) (x : MsgId) → EachPosted past xs → IsPosted past x → EachPosted past (xs ++ x ∷ [])
each_push past [] x h p = (p, tt)
each_push past (y ∷ xs) x h p = (h.0, each_push past xs x h.1 p)

each_at : (past : List Entry) (xs : List MsgId) (n : ℕ) (x : MsgId) → EachPosted past xs → slice_get xs n ≡ Some x → IsPosted past x
each_at past [] n x h e = absurd (cc)
each_at past (y ∷ xs) zero x h e = subst (IsPosted past) (some_is y x e) h.0
  where
    some_is : (y x : MsgId) → Some y ≡ Some x → y ≡ x
    some_is y x e = cc
each_at past (y ∷ xs) (suc n) x h e = each_at past xs n x h.1 e

accepted_after : (past : List Entry) (p : ℕ) (a : Act) (o : Option PortState) → IfPosted past (id_in a) → AcceptedPosted past o → AcceptedPosted past (fate_after p a o)
accepted_after past p (Make q a c) o i h = tt
accepted_after past p (Accept x q n) None i h = tt
accepted_after past p (Accept x q n) (Some f) i h = each_push past f.accepted x h i
accepted_after past p a None i h = tt
accepted_after past p a (Some f) i h = h

pub accepted_posted : (past : List Entry) (es : List Entry) → AllPosted past es → AcceptedPosted past (fate es)
accepted_posted past [] h = tt
accepted_posted past (e ∷ es) h = accepted_after past e.place e.act (fate es) h.0 (accepted_posted past es h.1)

taken_posted : (past : List Entry) (n : ℕ) (x : MsgId) (o : Option PortState) → AcceptedPosted past o → is_first_waiting n x o ≡ true → IsPosted past x
taken_posted past n x None h e = absurd (false≢true e)
taken_posted past n x (Some f) h e =
    each_at past f.accepted n x h (about_is x (slice_get f.accepted n) (and_parts (n == f.taken) (are_same same_id (Some x) (slice_get f.accepted n)) e).1)

-- Each entry that may come next is about a message that was posted, or posts it.

or_some : {A : Type 0} (o : Option A) (x : A) → (y : A) × (option_or o (Some x) ≡ Some y)
or_some None x = (x, refl)
or_some (Some y) x = (y, refl)

post_posted : (past : List Entry) (c p s : ℕ) (m : Message) (d : Dest) → m.id.seat ≡ s → (m.id.copy == 0) ≡ true → IsPosted (entry c p s (Post m d) ∷ past) m.id
post_posted past c p s m d seat copy =
    let e = entry c p s (Post m d) in
    let x = m.id in
    let new : Posted = record { place = p; message = m; dest = d } in
    let same : same_id x (source x) ≡ true = and_from ((x.seat == x.seat) && (x.number == x.number)) (x.copy == 0) (and_from (x.seat == x.seat) (x.number == x.number) (eq-eqb x.seat x.seat refl) (eq-eqb x.number x.number refl)) copy in
    let found : posted_by (source x) p (Post m d) ≡ Some new = ap (λ b. cond b (Some new) None) same in
    let y = or_some (posted_in (source x) (by x.seat past)) new in (
      y.0,
      ap (posted_in (source x)) (keeps (is_by x.seat) e past (eq-eqb s x.seat (sym seat)))
          ∙ (ap (λ o. option_or (posted_in (source x) (by x.seat past)) o) found ∙ y.1),
    )

told_busy : (p : ℕ) (a : Answer) (s : Progress) → is_to_be_told p a s ≡ true → is_idle s ≡ false
told_busy p a (Decided from by' q b) h = refl
told_busy p a Idle h = absurd (false≢true h)
told_busy p a (Asked from d) h = refl
told_busy p a (Tried from r to n) h = refl
told_busy p a (Settled b) h = refl
told_busy p a Reported h = refl

pub heard_busy : (a : Answer) (s : Progress) → is_to_be_heard a s ≡ true → is_idle s ≡ false
heard_busy a (Settled b) h = refl
heard_busy a Idle h = absurd (false≢true h)
heard_busy a (Asked from d) h = refl
heard_busy a (Tried from r to n) h = refl
heard_busy a (Decided from by' q b) h = refl
heard_busy a Reported h = refl

choose_busy : (l : Layout) (v : Views) (p : ℕ) (x : MsgId) (g : Ui) (s : Progress) → may_choose_from l v p x g s ≡ true → is_idle s ≡ false
choose_busy l v p x g (Asked from d) h = refl
choose_busy l v p x g Idle h = absurd (false≢true h)
choose_busy l v p x g (Settled b) h = refl
choose_busy l v p x g (Tried from r to n) h = refl
choose_busy l v p x g (Decided from by' q b) h = refl
choose_busy l v p x g Reported h = refl

-- whoever finds a message elsewhere was to send it, or was tried
pub elsewhere_posted : (l : Layout) (past : List Entry) (v : Views) (p : ℕ) (x : MsgId) (q : Ui) (to hop : ℕ) → AllPosted past past → v.here ≡ at p past → v.message ≡ about x past → is_elsewhere l v p x q to hop ≡ true → IsPosted past x
elsewhere_posted l past v p x q to hop all here message h =
    elim (or_cases (is_to_go l v x q to && not (is_on_site l (site_asked x v.all) to)) (is_tried_with (λ n. nat_lt n hop) (due l v p x q) && not (is_held_at p (fate v.port)) && not (to == p)) h) [
      | inl a ↦ first_posted past p x q all
          (ap (λ es. is_first x q es) (sym here)
          ∙ (and_parts (is_first x q v.here) (not (is_beyond l q)) (and_parts (is_first x q v.here && not (is_beyond l q)) ((located l q v.here).to == to) (and_parts (is_to_go l v x q to) _ a).0).0).0)
      | inr b ↦ tried_posted l past v p x q (λ n. nat_lt n hop) all message
          (and_parts (is_tried_with (λ n. nat_lt n hop) (due l v p x q)) (not (is_held_at p (fate v.port))) (and_parts _ (not (to == p)) b).0).0
    ]

-- the message that an entry is about, if it is one that may come next and no Post
posted_before : (l : Layout) (past : List Entry) (p s : ℕ) (a : Act) → AllPosted past past → act_may l (views past p s a) p s a ≡ true → ((m : Message) (d : Dest) → a ≡ Post m d → ⊥) → IfPosted past (id_in a)
posted_before l past p s (Post m d) all h n = absurd (n m d refl)
posted_before l past p s (Accept x q n) all h no_post =
    let enter = and_parts _ (has_room n (fate (on q past))) h in
    let three = and_parts _ (not (finds_clients_full x past (on q past))) enter.0 in
    let two = and_parts _ (not (is_already x past (on q past))) three.0 in
    let v = views past p s (Accept x q n) in
    let one = and_parts (meets l v p x q) (suits l v p x) two.0 in
    due_posted l past v p x q (λ hop. true) all refl refl (and_parts (is_due (due l v p x q)) (is_held_at p (fate (on q past))) one.0).0
posted_before l past p s (Full x q n) all h no_post =
    let enter = and_parts _ (is_full n (fate (on q past))) h in
    let three = and_parts _ (not (finds_clients_full x past (on q past))) enter.0 in
    let two = and_parts _ (not (is_already x past (on q past))) three.0 in
    let v = views past p s (Full x q n) in
    let one = and_parts (meets l v p x q) (suits l v p x) two.0 in
    due_posted l past v p x q (λ hop. true) all refl refl (and_parts (is_due (due l v p x q)) (is_held_at p (fate (on q past))) one.0).0
posted_before l past p s (Already x q) all h no_post =
    let v = views past p s (Already x q) in
    let one = and_parts (meets l v p x q) (is_already x past (on q past)) h in
    due_posted l past v p x q (λ hop. true) all refl refl (and_parts (is_due (due l v p x q)) (is_held_at p (fate (on q past))) one.0).0
posted_before l past p s (ClientsFull x q) all h no_post =
    let v = views past p s (ClientsFull x q) in
    let one = and_parts (meets l v p x q) (finds_clients_full x past (on q past)) h in
    due_posted l past v p x q (λ hop. true) all refl refl (and_parts (is_due (due l v p x q)) (is_held_at p (fate (on q past))) one.0).0
posted_before l past p s (Stale x q tried to hop) all h no_post =
    let v = views past p s (Stale x q tried to hop) in
    let five = and_parts _ (is_none (site_asked x past)) h in
    let four = and_parts _ (not (to == p)) five.0 in
    let three = and_parts _ (nat_lt tried hop) four.0 in
    let two = and_parts _ (is_location to hop (located l q (at p past))) three.0 in
    due_posted l past v p x q (λ n. n == tried) all refl refl
    (and_parts (is_due_with (λ n. n == tried) (due l v p x q)) (not (is_held_at p (fate (on q past)))) two.0).0
posted_before l past p s (Early x q hop) all h no_post =
    let v = views past p s (Early x q hop) in
    due_posted l past v p x q (is_early p hop (located l q (at p past))) all refl refl
    (and_parts (is_due_with (is_early p hop (located l q (at p past))) (due l v p x q)) (is_coming p hop (fate (on q past))) h).0
posted_before l past p s (NoPort x q) all h no_post =
    let v = views past p s (NoPort x q) in
    elim (or_cases (is_due_with (λ n. n == 0) (due l v p x q) && not (is_made (fate (on q past)))) (is_beyond l q && is_first x q (at p past)) h) [
      | inl a ↦ due_posted l past v p x q (λ n. n == 0) all refl refl (and_parts (is_due_with (λ n. n == 0) (due l v p x q)) (not (is_made (fate (on q past)))) a).0
      | inr b ↦ first_posted past p x q all (and_parts (is_beyond l q) (is_first x q (at p past)) b).1
    ]
posted_before l past p s (Elsewhere x q to hop) all h no_post =
    let v = views past p s (Elsewhere x q to hop) in
    elsewhere_posted l past v p x q to hop all refl refl (and_parts _ (is_elsewhere l v p x q to hop) h).1
posted_before l past p s (Gone x q) all h no_post =
    let v = views past p s (Gone x q) in
    due_posted l past v p x q (λ hop. true) all refl refl (and_parts (is_due (due l v p x q)) (is_ended_at p (fate (on q past))) h).0
posted_before l past p s (NoMember x g) all h no_post =
    let v = views past p s (NoMember x g) in
    busy_posted past x all (choose_busy l v p x g (progress (about x past)) (and_parts (may_choose_from l v p x g (progress (about x past))) _ h).0)
posted_before l past p s (Choose x g qs) all h no_post =
    let v = views past p s (Choose x g qs) in
    busy_posted past x all (choose_busy l v p x g (progress (about x past)) (and_parts (may_choose_from l v p x g (progress (about x past))) (nat_lt 0 (length qs)) (and_parts _ _ h).0).0)
posted_before l past p s (Try x q to hop) all h no_post =
    let v = views past p s (Try x q to hop) in
    let three = and_parts _ (is_on_site l (site_asked x past) to) h in
    let two = and_parts _ (not (to == p)) three.0 in
    let one = and_parts (is_to_go l v x q to) ((located l q (at p past)).hop == hop) two.0 in
    first_posted past p x q all (to_go_parts l past p s (Try x q to hop) x q to one.0).0
posted_before l past p s (Told x a) all h no_post = busy_posted past x all (told_busy p a (progress (about x past)) h)
posted_before l past p s (Heard x a) all h no_post =
    busy_posted past x all (heard_busy a (progress (about x past)) (and_parts _ (is_to_be_heard a (progress (about x past))) h).1)
posted_before l past p s (Take q n x) all h no_post =
    taken_posted past n x (fate (on q past)) (accepted_posted past (on q past) (filtered past (is_on (Some q)) past all))
    (and_parts (is_held_at p (fate (on q past))) (is_first_waiting n x (fate (on q past))) h).1
posted_before l past p s _ all h no_post = tt

posted_now : (l : Layout) (past : List Entry) (c p s : ℕ) (a : Act) → AllPosted past past → act_may l (views past p s a) p s a ≡ true → IfPosted (entry c p s a ∷ past) (id_in a)
posted_now l past c p s (Post m d) all h =
    let four = and_parts _ (may_tag (views past p s (Post m d)) m d m.tag) h in
    let three = and_parts _ (posts_stay p (by s past)) four.0 in
    let two = and_parts _ (m.id.copy == 0) three.0 in
    let one = and_parts (m.id.seat == s) (m.id.number == posts (by s past) + 1) two.0 in
    post_posted past c p s m d (eqb-true m.id.seat s one.0) two.1
posted_now l past c p s a all h =
    if_grows past (entry c p s a) (id_in a) (posted_before l past p s a all h (λ m d e. absurd (cc)))

pub posted_none : AllPosted [] []
posted_none = tt

pub posted_more : (l : Layout) (past : List Entry) (e : Entry) → AllPosted past past → act_may l (views past e.place e.seat e.act) e.place e.seat e.act ≡ true → AllPosted (e ∷ past) (e ∷ past)
posted_more l past e all h = (posted_now l past e.clock e.place e.seat e.act all h, all_grows past e past all)
