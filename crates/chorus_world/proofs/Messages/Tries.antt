-- In a legal past each try of a message has a later hop than the one before, and each hop is one of the port's path.
use Rattle.std.proofs.Common.{ℕ, ◌≡◌, ◌+◌, ◌-◌, ◌<◌, ◌≤◌, ◌⊎◌, inl, inr, Bool, true, false, ◌==◌, nat_lt, ◌&&◌, not, cond, List, [], ◌∷◌, length, Option, Some, None, is_none, refl, sym, ◌∙◌, ap, subst, arith}
use Rattle.std.proofs.lemmas.Bool.{eqb-true, eq-eqb, ltb-true, ltb-false, cases_Bool, false≢true, and_parts, or_cases, cond_both}
use Rattle.std.proofs.lemmas.Option.{slice_get_within}
use Rattle.chorus_ui.specs.declared.ui.Ui.{Ui}
use Rattle.chorus_ui.specs.declared.layout.Layout.{Layout}
use Rattle.chorus_ui.specs.Name.{same_ui}
use Rattle.chorus_ui.specs.Layout.{IsLayout}
use Rattle.chorus_ui.proofs.Names.{from_same_ui, same_ui-self}
use Rattle.chorus_entry.specs.declared.entry.Entry.{Entry}
use Rattle.chorus_entry.specs.declared.id.MsgId.{MsgId}
use Rattle.chorus_entry.specs.declared.dest.Dest.{Dest}
use Rattle.chorus_entry.specs.declared.dest.Dest.TheVariants as D
use Rattle.chorus_entry.specs.declared.answer.Answer.{Answer}
use Rattle.chorus_entry.specs.declared.answer.Answer.TheVariants as A
use Rattle.chorus_entry.specs.declared.act.Act.{Act}
use Rattle.chorus_entry.specs.declared.act.Act.TheVariants.{Post, Accept, Full, Already, ClientsFull, Stale, Early, NoPort, Elsewhere, NoMember, Choose, Try, Told, Heard, Gone}
use Rattle.chorus_entry.specs.Answer.{is_final}
use Rattle.chorus_entry.proofs.Same.{from_same_id}
use Rattle.chorus_world.specs.declared.place.Location.{Location}
use Rattle.chorus_world.specs.declared.place.Sent.{Sent}
use Rattle.chorus_world.specs.declared.progress.Progress.{Progress}
use Rattle.chorus_world.specs.declared.progress.Progress.TheVariants.{Idle, Asked, Tried, Decided, Settled, Reported}
use Rattle.chorus_world.specs.declared.due.Due.TheVariants.{ByTry}
use Rattle.chorus_world.specs.Views.{Views, views, at, by, on, about, is_about}
use Rattle.chorus_entry.specs.Order.{is_at}
use Rattle.chorus_world.specs.Ports.{fate, last_of, is_held_at}
use Rattle.chorus_world.specs.Posts.{is_on_site, site_asked}
use Rattle.chorus_world.specs.Messages.{progress, progress_after, posted, decided, settled, told}
use Rattle.chorus_world.specs.Places.{located, learned, farther, is_sent_to, sent, find_sent, is_location}
use Rattle.chorus_world.specs.Seats.{posts}
use Rattle.chorus_world.specs.Steps.{act_may, may, is_legal, due, due_by_try, due_at_home, is_due_with, is_to_go}
use Rattle.chorus_world.specs.LocationLaws.{path_of, tries, tries_after, is_try_for, is_tried_for, TriesWithinPath}
use Rattle.chorus_world.proofs.Steps.LegalLemmas.{entry, under, skips, keeps}
use Rattle.chorus_world.proofs.Ports.Whereabouts.{at_last}
use Rattle.chorus_world.proofs.Ports.PortSteps.{PortFacts, Known}
use Rattle.chorus_world.proofs.Ports.PortMoves.{known_step, to_be_told}
use Rattle.chorus_world.proofs.Messages.MessageSteps.{may_act, legal_inv, to_go_parts, located_known, Fits}
use Rattle.chorus_world.proofs.Messages.SendingLemmas.{sent_as, FirstHere, first_here, sent_stays}
use Rattle.chorus_world.proofs.Messages.StageLemmas.{MessageFacts, first_is_idle}
use Rattle.chorus_world.proofs.Messages.DueLemmas.{IsDue, IsTriedAt, due_accept, due_full, due_already, due_clients_full, due_stale, due_early, due_no_port, due_elsewhere, due_gone, first_try}
use Rattle.chorus_world.proofs.Messages.PostLemmas.{post_needs}
use Rattle.chorus_world.proofs.Messages.MessageInvariant.{legal_messages}

-- what an answer says of the number of tries before it
abbrev BoundBy : ℕ → Answer → Type 0
BoundBy n (A.Stale to hop) = n ≤ hop
BoundBy n _ = Unit {0}

-- no more tries than the hop with which its home locates the port
AtMostLocated : Layout → List Entry → MsgId → ℕ → Type 0
AtMostLocated l past x n =
    (n ≡ 0) ⊎ ((p : ℕ) × (m : Sent) × (sent_as x p past ≡ Some m) × (n ≤ (located l m.port (at p past)).hop))

-- what the progress of the message says of the number n of its tries
abbrev Bound : Layout → List Entry → MsgId → ℕ → Progress → Type 0
Bound l past x n Idle = AtMostLocated l past x n
Bound l past x n (Asked from d) = n ≡ 0
Bound l past x n (Tried from q to hop) = n ≤ hop + 1
Bound l past x n (Decided from by' q a) = BoundBy n a
Bound l past x n (Settled a) = Unit {0}
Bound l past x n Reported = Unit {0}

-- no more tries than places on the path of its port
Within : Layout → List Entry → MsgId → ℕ → Type 0
Within l past x n =
    (n ≡ 0) ⊎ ((p : ℕ) × (m : Sent) × (sent_as x p past ≡ Some m) × (n ≤ length (path_of l m.port (fate (on m.port past)))))

-- What follows leaves it so.

far_choice : (b : Bool) (x : Location) (o : Option Location) → x.hop ≤ (cond b (farther x o) x).hop
far_choice false x o = omega arith
far_choice true x None = omega arith
far_choice true x (Some y) =
    cond_both (nat_lt x.hop y.hop) y x (λ z. x.hop ≤ z.hop) (λ e. let lt = ltb-true x.hop y.hop e in omega arith) (λ _. omega arith)

located_grows : (l : Layout) (past : List Entry) (e : Entry) (q : Ui) (p : ℕ) → (located l q (at p past)).hop ≤ (located l q (at p (e ∷ past))).hop
located_grows l past e q p =
    subst (λ z. (located l q (at p past)).hop ≤ z.hop) (sym (under (located l q) (is_at p e) (e ∷ at p past) (at p past)))
    (far_choice (is_at p e) (located l q (at p past)) (learned q e.place (at p past) e.act))

at_most_grows : (l : Layout) (past : List Entry) (e : Entry) (x : MsgId) (n : ℕ) → AtMostLocated l past x n → AtMostLocated l (e ∷ past) x n
unfolding AtMostLocated
at_most_grows l past e x n (inl z) = inl z
at_most_grows l past e x n (inr h) =
    let le = located_grows l past e (h.1).port h.0 in
    let old = h.3 in
    inr (h.0, h.1, sent_stays x h.0 past e h.1 h.2, omega arith)

bound_grows : (l : Layout) (past : List Entry) (e : Entry) (x : MsgId) (n : ℕ) (s : Progress) → Bound l past x n s → Bound l (e ∷ past) x n s
bound_grows l past e x n Idle h = at_most_grows l past e x n h
bound_grows l past e x n (Asked from d) h = h
bound_grows l past e x n (Tried from q to hop) h = h
bound_grows l past e x n (Decided from by' q a) h = h
bound_grows l past e x n (Settled a) h = h
bound_grows l past e x n Reported h = h

path_grows : (l : Layout) (past : List Entry) (c p s : ℕ) (a : Act) (q : Ui) → IsLayout l → PortFacts l past q → act_may l (views past p s a) p s a ≡ true → length (path_of l q (fate (on q past))) ≤ length (path_of l q (fate (on q (entry c p s a ∷ past))))
path_grows l past c p s a q layout f h =
    let ps = path_of l q (fate (on q past)) in
    let qs = path_of l q (fate (on q (entry c p s a ∷ past))) in
    let pos = f.some in
    let old : Known l past q (length ps - 1) (last_of 0 ps) = at_last 0 ps (length ps - 1) (omega arith) in
    let lt : length ps - 1 < length qs = slice_get_within qs (length ps - 1) (last_of 0 ps) (known_step l past q c p s a layout f h (length ps - 1) (last_of 0 ps) old) in
    omega arith

within_grows : (l : Layout) (past : List Entry) (e : Entry) (x : MsgId) (n : ℕ) → IsLayout l → ((q : Ui) → PortFacts l past q) → act_may l (views past e.place e.seat e.act) e.place e.seat e.act ≡ true → Within l past x n → Within l (e ∷ past) x n
unfolding Within
within_grows l past e x n layout f act (inl z) = inl z
within_grows l past e x n layout f act (inr h) =
    let le = path_grows l past e.clock e.place e.seat e.act (h.1).port layout (f (h.1).port) act in
    let old = h.3 in
    inr (h.0, h.1, sent_stays x h.0 past e h.1 h.2, omega arith)

-- Each entry about it keeps it so.

final_bound : (l : Layout) (es : List Entry) (x : MsgId) (n : ℕ) (a : Answer) → is_final a ≡ true → Bound l es x n (settled a)
final_bound l es x n a h = subst (λ b. Bound l es x n (cond b (Settled a) Idle)) (sym h) tt

final_by : (n : ℕ) (a : Answer) → is_final a ≡ true → BoundBy n a
final_by n (A.Stale to hop) h = absurd (false≢true h)
final_by n _ h = tt

same_one : (p : ℕ) (q : Ui) → ((p == p) && same_ui q q) ≡ true
same_one p q = λ i. eq-eqb p p refl i && same_ui-self q i

-- a decision where it is due, whose answer is bound by the hop with which it was tried
decides_bound : (l : Layout) (es past : List Entry) (x : MsgId) (p : ℕ) (q : Ui) (a : Answer) (n : ℕ) → ((from hop : ℕ) → progress (about x past) ≡ Tried from q p hop → BoundBy n a) → (progress (about x past) ≡ Idle → Bound l es x n (settled a)) → (IsTriedAt x q p past) ⊎ (progress (about x past) ≡ Idle) → Bound l es x n (decided p q a (progress (about x past)))
decides_bound l es past x p q a n by_try by_home (inl t) =
    subst (λ s. Bound l es x n (decided p q a s)) (sym t.is)
    (subst (λ b. Bound l es x n (cond b (Decided t.from p q a) Idle)) (sym (same_one p q)) (by_try t.from t.hop t.is))
decides_bound l es past x p q a n by_try by_home (inr i) = subst (λ s. Bound l es x n (decided p q a s)) (sym i) (by_home i)

due_or_idle : (x : MsgId) (q : Ui) (p : ℕ) (past : List Entry) → MessageFacts x past → IsDue x q p past → (IsTriedAt x q p past) ⊎ (progress (about x past) ≡ Idle)
due_or_idle x q p past f (inl t) = inl t
due_or_idle x q p past f (inr h) = inr (first_is_idle x q p past f (first_here x q p past h)).0

-- a decision that settles
final_decides : (l : Layout) (es past : List Entry) (x : MsgId) (p : ℕ) (q : Ui) (a : Answer) (n : ℕ) → is_final a ≡ true → MessageFacts x past → IsDue x q p past → Bound l es x n (decided p q a (progress (about x past)))
final_decides l es past x p q a n h f d =
    decides_bound l es past x p q a n (λ from hop e. final_by n a h) (λ e. final_bound l es x n a h) (due_or_idle x q p past f d)

-- the hop with which it was tried is the one that a Stale names
tried_is : (l : Layout) (v : Views) (p from hop tried : ℕ) (x : MsgId) (q : Ui) → progress v.message ≡ Tried from q p hop → is_due_with (λ h. h == tried) (due l v p x q) ≡ true → hop ≡ tried
tried_is l v p from hop tried x q e h =
    eqb-true hop tried
    (subst (λ b. is_due_with (λ z. z == tried) (cond b (ByTry hop) (due_at_home l v p x q)) ≡ true) (same_one p q)
    (subst (λ s. is_due_with (λ z. z == tried) (due_by_try p q s (due_at_home l v p x q)) ≡ true) e h))

record Counts (l : Layout) (past : List Entry) (x : MsgId) : Type 0 where
  pub bound : Bound l past x (tries (about x past)) (progress (about x past))
  pub within : Within l past x (tries (about x past))

one_sent : (m n : Sent) (o : Option Sent) → o ≡ Some m → o ≡ Some n → m ≡ n
one_sent m n o a b = cc

-- the tries before one more are no more than the hop that its home locates
before_try : (l : Layout) (past : List Entry) (x : MsgId) (q : Ui) (p n : ℕ) → MessageFacts x past → FirstHere x q p past → AtMostLocated l past x n → n ≤ (located l q (at p past)).hop
unfolding AtMostLocated
before_try l past x q p n f h (inl z) = omega arith
before_try l past x q p n f h (inr b) =
    let home : p ≡ b.0 = f.home p b.0 h.message b.1 h.is b.2 in
    let same : h.message ≡ b.1 = one_sent h.message b.1 (sent_as x p past) h.is (ap (λ z. sent_as x z past) home ∙ b.2) in
    let port : (b.1).port ≡ q = sym (ap (λ (m : Sent). m.port) same) ∙ h.port in
    subst (λ z. n ≤ (located l q (at z past)).hop) (sym home) (subst (λ z. n ≤ (located l z (at b.0 past)).hop) port b.3)

-- a place that was told of a later hop locates the port by it
told_located : (l : Layout) (past : List Entry) (c p s : ℕ) (x : MsgId) (to hop : ℕ) (q : Ui) (m : Sent) → find_sent x (sent (at p past)) ≡ Some m → m.port ≡ q → hop ≤ (located l q (at p (entry c p s (Told x (A.Stale to hop)) ∷ past))).hop
told_located l past c p s x to hop q m found port =
    let e = entry c p s (Told x (A.Stale to hop)) in
    let y : Location = record { to = to; hop = hop } in
    let old = located l q (at p past) in
    let mine : is_sent_to q (find_sent x (sent (at p past))) ≡ true = ap (is_sent_to q) found ∙ subst (λ z. same_ui z q ≡ true) (sym port) (same_ui-self q) in
    let learns : learned q p (at p past) (Told x (A.Stale to hop)) ≡ Some y = ap (λ b. cond b (Some y) None) mine in
    subst (λ es. hop ≤ (located l q es).hop) (sym (keeps (is_at p) e past (eq-eqb p p refl)))
    (subst (λ o. hop ≤ (farther old o).hop) (sym learns)
    (cond_both (nat_lt old.hop hop) y old (λ z. hop ≤ z.hop) (λ _. omega arith) (λ n. not_less old.hop hop n)))
  where
    not_less : (a b : ℕ) → nat_lt a b ≡ false → b ≤ a
    not_less a b n = ltb-false a b n

told_bound : (l : Layout) (past : List Entry) (c p s : ℕ) (x : MsgId) (a : Answer) (n by' : ℕ) (q : Ui) → BoundBy n a → (m : Sent) × (find_sent x (sent (at p past)) ≡ Some m) × (m.port ≡ q) → Bound l (entry c p s (Told x a) ∷ past) x n (settled a)
unfolding AtMostLocated
told_bound l past c p s x (A.Stale to hop) n by' q h m =
    let e = entry c p s (Told x (A.Stale to hop)) in
    let le = told_located l past c p s x to hop (m.0).port m.0 m.1 refl in
    inr (p, m.0, sent_stays x p past e m.0 m.1, omega arith)
told_bound l past c p s x (A.Accepted k) n by' q h m = tt
told_bound l past c p s x (A.Full k) n by' q h m = tt
told_bound l past c p s x (A.Early k) n by' q h m = tt
told_bound l past c p s x A.NoPort n by' q h m = tt
told_bound l past c p s x A.Already n by' q h m = tt
told_bound l past c p s x A.ClientsFull n by' q h m = tt
told_bound l past c p s x (A.Elsewhere to k) n by' q h m = tt
told_bound l past c p s x A.NoMember n by' q h m = tt
told_bound l past c p s x (A.Chosen k) n by' q h m = tt
told_bound l past c p s x A.Gone n by' q h m = tt

posted_bound : (l : Layout) (es : List Entry) (x : MsgId) (p n : ℕ) (d : Dest) → n ≡ 0 → Bound l es x n (posted p d)
unfolding AtMostLocated
posted_bound l es x p n (D.Port q) z = inl z
posted_bound l es x p n (D.All g) z = z
posted_bound l es x p n (D.One g) z = z
posted_bound l es x p n (D.OneAt g s) z = z

home_grows : (l : Layout) (past : List Entry) (e : Entry) (x : MsgId) (n : ℕ) → Bound l past x n (progress (about x past)) → progress (about x past) ≡ Idle → Bound l (e ∷ past) x n Idle
home_grows l past e x n b i = bound_grows l past e x n Idle (subst (λ s. Bound l past x n s) i b)

-- an entry about the message
on_bound : (l : Layout) (past : List Entry) (x : MsgId) (c p s : ℕ) (a : Act) → IsLayout l → is_legal l past ≡ true → MessageFacts x past → Counts l past x → act_may l (views past p s a) p s a ≡ true → is_about (Some x) (entry c p s a) ≡ true → Bound l (entry c p s a ∷ past) x (tries_after a (tries (about x past))) (progress_after p a (progress (about x past)))
on_bound l past x c p s (Post m d) layout legal f k h t =
    let needs = post_needs l past p s m d h in
    let is_x : x ≡ m.id = from_same_id x m.id t in
    let number : m.id.number ≡ posts (by m.id.seat past) + 1 = needs.number ∙ ap (λ z. posts (by z past) + 1) (sym needs.seat) in
    let lt : posts (by m.id.seat past) < m.id.number = omega arith in
    let fresh = (f.fresh (subst (λ (z : MsgId). posts (by z.seat past) < z.number) (sym is_x) lt)).about in
    posted_bound l (entry c p s (Post m d) ∷ past) x p (tries (about x past)) d (ap tries fresh)
on_bound l past x c p s (Choose y g qs) layout legal f k h t = tt
on_bound l past x c p s (NoMember y g) layout legal f k h t = tt
on_bound l past x c p s (Heard y b) layout legal f k h t = tt
on_bound l past x c p s (Told y b) layout legal f k h t =
    let same : x ≡ y = from_same_id x y t in
    let d = to_be_told p b (progress (about y past)) h in
    let is : progress (about x past) ≡ Decided p d.0 d.1 b = ap (λ z. progress (about z past)) same ∙ d.2 in
    let fits : Fits l past x (Decided p d.0 d.1 b) = subst (Fits l past x) is ((legal_inv l past layout legal).messages x) in
    let old : BoundBy (tries (about x past)) b = subst (λ z. Bound l past x (tries (about x past)) z) is k.bound in
    subst (λ z. Bound l (entry c p s (Told y b) ∷ past) x (tries (about x past)) (told b z)) (sym is)
    (subst (λ z. Bound l (entry c p s (Told z b) ∷ past) x (tries (about x past)) (settled b)) same
    (told_bound l past c p s x b (tries (about x past)) d.0 d.1 old fits.1))
on_bound l past x c p s (Try y r to hop) layout legal f k h t =
    let same : x ≡ y = from_same_id x y t in
    let three = and_parts _ (is_on_site l (site_asked y past) to) h in
    let two = and_parts _ (not (to == p)) three.0 in
    let one = and_parts (is_to_go l (views past p s (Try y r to hop)) y r to) ((located l r (at p past)).hop == hop) two.0 in
    let go = to_go_parts l past p s (Try y r to hop) y r to one.0 in
    let first : FirstHere x r p past = subst (λ z. FirstHere z r p past) (sym same) (first_here y r p past go.0) in
    let idle = (first_is_idle x r p past f first).0 in
    let far : (located l r (at p past)).hop ≡ hop = eqb-true (located l r (at p past)).hop hop one.1 in
    let le : tries (about x past) ≤ (located l r (at p past)).hop = before_try l past x r p (tries (about x past)) f first (subst (λ z. Bound l past x (tries (about x past)) z) idle k.bound) in
    omega arith
on_bound l past x c p s (Stale y r tried to hop) layout legal f k h t =
    let e = entry c p s (Stale y r tried to hop) in
    let v = views past p s (Stale y r tried to hop) in
    let n = tries (about x past) in
    let same : x ≡ y = from_same_id x y t in
    let five = and_parts _ (is_none (site_asked y past)) h in
    let four = and_parts _ (not (to == p)) five.0 in
    let three = and_parts _ (nat_lt tried hop) four.0 in
    let two = and_parts _ (is_location to hop (located l r (at p past))) three.0 in
    let one = and_parts (is_due_with (λ z. z == tried) (due l v p y r)) (not (is_held_at p (fate (on r past)))) two.0 in
    let less : tried < hop = ltb-true tried hop three.1 in
    let is_due : IsDue x r p past = subst (λ z. IsDue z r p past) (sym same) (due_stale l past p s y r tried to hop h) in
    decides_bound l (e ∷ past) past x p r (A.Stale to hop) n
    (λ from n' was.
    let at_hop : n' ≡ tried = tried_is l v p from n' tried y r (sym (ap (λ z. progress (about z past)) same) ∙ was) one.0 in
    let old : n ≤ n' + 1 = subst (λ z. Bound l past x n z) was k.bound in
    omega arith)
    (home_grows l past e x n k.bound)
    (due_or_idle x r p past f is_due)
on_bound l past x c p s (Accept y r n) layout legal f k h t = final_decides l (entry c p s (Accept y r n) ∷ past) past x p r (A.Accepted n) (tries (about x past)) refl f (subst (λ z. IsDue z r p past) (sym (from_same_id x y t)) (due_accept l past p s y r n h))
on_bound l past x c p s (Full y r n) layout legal f k h t = final_decides l (entry c p s (Full y r n) ∷ past) past x p r (A.Full n) (tries (about x past)) refl f (subst (λ z. IsDue z r p past) (sym (from_same_id x y t)) (due_full l past p s y r n h))
on_bound l past x c p s (Already y r) layout legal f k h t = final_decides l (entry c p s (Already y r) ∷ past) past x p r A.Already (tries (about x past)) refl f (subst (λ z. IsDue z r p past) (sym (from_same_id x y t)) (due_already l past p s y r h))
on_bound l past x c p s (ClientsFull y r) layout legal f k h t = final_decides l (entry c p s (ClientsFull y r) ∷ past) past x p r A.ClientsFull (tries (about x past)) refl f (subst (λ z. IsDue z r p past) (sym (from_same_id x y t)) (due_clients_full l past p s y r h))
on_bound l past x c p s (Early y r hop) layout legal f k h t = final_decides l (entry c p s (Early y r hop) ∷ past) past x p r (A.Early hop) (tries (about x past)) refl f (subst (λ z. IsDue z r p past) (sym (from_same_id x y t)) (due_early l past p s y r hop h))
on_bound l past x c p s (NoPort y r) layout legal f k h t = final_decides l (entry c p s (NoPort y r) ∷ past) past x p r A.NoPort (tries (about x past)) refl f (subst (λ z. IsDue z r p past) (sym (from_same_id x y t)) (due_no_port l past p s y r h))
on_bound l past x c p s (Elsewhere y r to hop) layout legal f k h t = final_decides l (entry c p s (Elsewhere y r to hop) ∷ past) past x p r (A.Elsewhere to hop) (tries (about x past)) refl f (subst (λ z. IsDue z r p past) (sym (from_same_id x y t)) (due_elsewhere l past p s y r to hop h))
on_bound l past x c p s (Gone y r) layout legal f k h t = final_decides l (entry c p s (Gone y r) ∷ past) past x p r A.Gone (tries (about x past)) refl f (subst (λ z. IsDue z r p past) (sym (from_same_id x y t)) (due_gone l past p s y r h))
on_bound l past x c p s _ layout legal f k h t = absurd (false≢true t)

-- one more try is still within the path
on_within : (l : Layout) (past : List Entry) (x : MsgId) (c p s : ℕ) (a : Act) → IsLayout l → is_legal l past ≡ true → MessageFacts x past → Counts l past x → act_may l (views past p s a) p s a ≡ true → is_about (Some x) (entry c p s a) ≡ true → Within l (entry c p s a ∷ past) x (tries_after a (tries (about x past)))
unfolding Within
on_within l past x c p s (Try y r to hop) layout legal f k h t =
    let e = entry c p s (Try y r to hop) in
    let same : x ≡ y = from_same_id x y t in
    let ports = (legal_inv l past layout legal).ports in
    let three = and_parts _ (is_on_site l (site_asked y past) to) h in
    let two = and_parts _ (not (to == p)) three.0 in
    let one = and_parts (is_to_go l (views past p s (Try y r to hop)) y r to) ((located l r (at p past)).hop == hop) two.0 in
    let go = to_go_parts l past p s (Try y r to hop) y r to one.0 in
    let first : FirstHere x r p past = subst (λ z. FirstHere z r p past) (sym same) (first_here y r p past go.0) in
    let idle = (first_is_idle x r p past f first).0 in
    let far : (located l r (at p past)).hop ≡ hop = eqb-true (located l r (at p past)).hop hop one.1 in
    let le : tries (about x past) ≤ (located l r (at p past)).hop = before_try l past x r p (tries (about x past)) f first (subst (λ z. Bound l past x (tries (about x past)) z) idle k.bound) in
    let known = known_step l past r c p s (Try y r to hop) layout (ports r) h hop to (located_known l past r p to hop (ports r) go.2 far) in
    let lt : hop < length (path_of l r (fate (on r (e ∷ past)))) = slice_get_within (path_of l r (fate (on r (e ∷ past)))) hop to known in
    let more : tries (about x past) + 1 ≤ length (path_of l r (fate (on r (e ∷ past)))) = omega arith in
    inr (p, first.message, sent_stays x p past e first.message first.is, subst (λ z. tries (about x past) + 1 ≤ length (path_of l z (fate (on z (e ∷ past))))) (sym first.port) more)
on_within l past x c p s a layout legal f k h t =
    within_grows l past (entry c p s a) x (tries (about x past)) layout ((legal_inv l past layout legal).ports) h k.within

counts_more : (l : Layout) (past : List Entry) (e : Entry) (x : MsgId) → IsLayout l → is_legal l past ≡ true → act_may l (views past e.place e.seat e.act) e.place e.seat e.act ≡ true → Counts l past x → Counts l (e ∷ past) x
counts_more l past e x layout legal act k =
    let f = legal_messages l past legal x in
    elim (cases_Bool (is_about (Some x) e)) [
      | inl t ↦ (
          let view = keeps (is_about (Some x)) e past t in
          record {
            bound = subst (λ es. Bound l (e ∷ past) x (tries es) (progress es)) (sym view) (on_bound l past x e.clock e.place e.seat e.act layout legal f k act t);
            within = subst (λ es. Within l (e ∷ past) x (tries es)) (sym view) (on_within l past x e.clock e.place e.seat e.act layout legal f k act t);
          })
      | inr n ↦ (
          let view = skips (is_about (Some x)) e past n in
          record {
            bound = subst (λ es. Bound l (e ∷ past) x (tries es) (progress es)) (sym view) (bound_grows l past e x (tries (about x past)) (progress (about x past)) k.bound);
            within = subst (λ es. Within l (e ∷ past) x (tries es)) (sym view) (within_grows l past e x (tries (about x past)) layout ((legal_inv l past layout legal).ports) act k.within);
          })
    ]

counts_none : (l : Layout) (x : MsgId) → Counts l [] x
unfolding AtMostLocated Within
counts_none l x = record { bound = inl refl; within = inl refl }

legal_counts : (l : Layout) (past : List Entry) (x : MsgId) → IsLayout l → is_legal l past ≡ true → Counts l past x
legal_counts l [] x layout h = counts_none l x
legal_counts l (e ∷ past) x layout h =
    let two = and_parts (may l past e) (is_legal l past) h in
    counts_more l past e x layout two.1 (may_act l past e two.0) (legal_counts l past x layout two.1)

-- Each try is for the port to which the message was sent.

IsFor : List Entry → MsgId → Ui → Type 0
IsFor past x q = (p : ℕ) × (m : Sent) × (sent_as x p past ≡ Some m) × (m.port ≡ q)

for_grows : (past : List Entry) (e : Entry) (x : MsgId) (q : Ui) → IsFor past x q → IsFor (e ∷ past) x q
unfolding IsFor
for_grows past e x q h = (h.0, h.1, sent_stays x h.0 past e h.1 h.2, h.3)

for_now : (l : Layout) (past : List Entry) (c p s : ℕ) (a : Act) (x : MsgId) (q : Ui) → act_may l (views past p s a) p s a ≡ true → is_about (Some x) (entry c p s a) ≡ true → is_try_for q a ≡ true → IsFor past x q
unfolding IsFor
for_now l past c p s (Try y r to hop) x q h t i =
    let first = first_here y r p past (first_try l past p s y r to hop h) in
    let found = ap (λ z. sent_as z p past) (from_same_id x y t) ∙ first.is in
    (p, first.message, found, first.port ∙ from_same_ui r q i)
for_now l past c p s _ x q h t i = absurd (false≢true i)

tried_for : (l : Layout) (past : List Entry) (x : MsgId) (q : Ui) → is_legal l past ≡ true → is_tried_for q (about x past) ≡ true → IsFor past x q
tried_for l [] x q h i = absurd (false≢true i)
tried_for l (e ∷ past) x q h i =
    let two = and_parts (may l past e) (is_legal l past) h in
    for_grows past e x q (elim (cases_Bool (is_about (Some x) e)) [
      | inl t ↦ (
          let both = subst (λ es. is_tried_for q es ≡ true) (keeps (is_about (Some x)) e past t) i in
          elim (or_cases (is_try_for q e.act) (is_tried_for q (about x past)) both) [
            | inl now ↦ for_now l past e.clock e.place e.seat e.act x q (may_act l past e two.0) t now
            | inr before ↦ tried_for l past x q two.1 before
          ])
      | inr n ↦ tried_for l past x q two.1 (subst (λ es. is_tried_for q es ≡ true) (skips (is_about (Some x)) e past n) i)
    ])

within_path : (l : Layout) (past : List Entry) (x : MsgId) (q : Ui) (n : ℕ) → MessageFacts x past → IsFor past x q → Within l past x n → n ≤ length (path_of l q (fate (on q past)))
unfolding IsFor Within
within_path l past x q n f i (inl z) = omega arith
within_path l past x q n f i (inr h) =
    let home : i.0 ≡ h.0 = f.home i.0 h.0 i.1 h.1 i.2 h.2 in
    let same : i.1 ≡ h.1 = one_sent i.1 h.1 (sent_as x i.0 past) i.2 (ap (λ z. sent_as x z past) home ∙ h.2) in
    let port : (h.1).port ≡ q = sym (ap (λ (m : Sent). m.port) same) ∙ i.3 in
    subst (λ z. n ≤ length (path_of l z (fate (on z past)))) port h.3

-- the law on tries
pub tries_within : TriesWithinPath
tries_within l past x q layout h i =
    within_path l past x q (tries (about x past)) (legal_messages l past h x) (tried_for l past x q h i) (legal_counts l past x layout h).within
