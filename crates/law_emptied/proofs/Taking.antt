-- The others take what was sent.
-- l is a layout, n the room of a port, s is a site and the seat of who takes there. A past has its newest entry first.
use Rattle.std.proofs.Common.{ℕ, ◌≡◌, ◌≤◌, ◌==◌, inl, inr, Bool, true, false, ◌&&◌, ◌||◌, not, cond, nat_lt, List, [], ◌∷◌, ◌++◌, append-nil, append_assoc, length, take, take_all, Option, Some, None, refl, sym, ◌∙◌, ap, subst, arith}
use Rattle.std.specs.List.{filter}
use Rattle.std.proofs.lemmas.Bool.{and_parts, eqb-true, eq-eqb, false≢true}
use Rattle.chorus_ui.specs.declared.ui.Ui.{Ui}
use Rattle.chorus_ui.specs.declared.layout.Layout.{Layout}
use Rattle.chorus_ui.specs.Name.{same_ui}
use Rattle.chorus_ui.proofs.Names.{from_same_ui, same_ui-self}
use Rattle.chorus_entry.specs.declared.entry.Entry.{Entry}
use Rattle.chorus_entry.specs.declared.id.MsgId.{MsgId}
use Rattle.chorus_entry.specs.declared.act.Act.{Act}
use Rattle.chorus_entry.specs.declared.command.Command.{Command}
use Rattle.chorus_entry.specs.Act.{is_command_entry, held_port_of}
use Rattle.chorus_entry.specs.Order.{is_at}
use Rattle.chorus_entry.specs.Same.{are_same}
use Rattle.chorus_world.specs.declared.place.Sent.{Sent}
use Rattle.chorus_world.specs.Views.{views, at, by, on, is_on, is_by}
use Rattle.chorus_world.specs.Ports.{PortState, fate, fate_after, is_held_at, is_empty, last_of}
use Rattle.chorus_world.specs.Places.{last_clock, sent, sent_by, settles, is_settled}
use Rattle.chorus_world.specs.AcceptedLaws.{accepted_by, accepted_from, taken_from, received, received_after}
use Rattle.chorus_world.specs.Commands.{performs}
use Rattle.chorus_world.specs.Runs.{is_run, may_run, fits_callers, is_held_at_by, is_held_by}
use Rattle.chorus_world.specs.Steps.{act_may, may, is_legal}
use Rattle.chorus_world.proofs.Moments.{legal-older, run-older}
use Rattle.chorus_world.proofs.Sorted.Holders.{run_is_legal}
use Rattle.chorus_world.proofs.Steps.LegalLemmas.{legal_parts}
use Rattle.chorus_world.proofs.Ports.PortLaws.{receives_in_order}
use Rattle.law_filled.specs.Filled.{messages_to, ids, Fills, AllFill, AllAreSettled}
use Rattle.law_emptied.specs.Crewed.{port_on, actor_on, place_on, Sending, AllTake, IsOfTake, script, IsCrewed, EndsInVain, TookWhatWasSentFirst, TakersGetWhatWasSentFirst}
use Rattle.law_filled.proofs.Accepted.{ports-hold}
use Rattle.law_emptied.proofs.Making.{IsHeldBy, AreSent, all-sent-so, unanswered}

-- Takes send and settle nothing, and answer no command of seat 0.

sends-nothing : (q : Ui) (a : Act) → IsOfTake q a → sent_by a ≡ []
sends-nothing q (Act.Take r n x) i = refl
sends-nothing q (Act.Empty r) i = refl
sends-nothing q (Act.NotHere r) i = refl
sends-nothing q (Act.Done n) i = refl
sends-nothing q (Act.Late n) i = refl
sends-nothing q _ i = absurd i

settles-nothing : (q : Ui) (a : Act) (x : MsgId) → IsOfTake q a → settles x a ≡ false
settles-nothing q (Act.Take r n y) x i = refl
settles-nothing q (Act.Empty r) x i = refl
settles-nothing q (Act.NotHere r) x i = refl
settles-nothing q (Act.Done n) x i = refl
settles-nothing q (Act.Late n) x i = refl
settles-nothing q _ x i = absurd i

same-sent : (newer older : List Entry) (p : ℕ) → AllTake newer → sent (at p (newer ++ older)) ≡ sent (at p older)
same-sent [] older p i = refl
same-sent (e ∷ newer) older p i = go (is_at p e) (same-sent newer older p i.2)
  where
    go : (b : Bool) → sent (at p (newer ++ older)) ≡ sent (at p older) → sent (cond b (e ∷ at p (newer ++ older)) (at p (newer ++ older))) ≡ sent (at p older)
    go false ih = ih
    go true ih = ap (λ xs. sent (at p (newer ++ older)) ++ xs) (sends-nothing (port_on e.seat) e.act i.1) ∙ append-nil (sent (at p (newer ++ older))) ∙ ih

same-settled : (newer older : List Entry) (p : ℕ) (x : MsgId) → AllTake newer → is_settled x (at p (newer ++ older)) ≡ is_settled x (at p older)
same-settled [] older p x i = refl
same-settled (e ∷ newer) older p x i = go (is_at p e) (same-settled newer older p x i.2)
  where
    go : (b : Bool) → is_settled x (at p (newer ++ older)) ≡ is_settled x (at p older) → is_settled x (cond b (e ∷ at p (newer ++ older)) (at p (newer ++ older))) ≡ is_settled x (at p older)
    go false ih = ih
    go true ih = ap (λ b. b || is_settled x (at p (newer ++ older))) (settles-nothing (port_on e.seat) e.act x i.1) ∙ ih

settled-older : (newer older : List Entry) → AllTake newer → AllAreSettled (newer ++ older) → AllAreSettled older
settled-older newer older i quiet p =
    (λ j. filter (λ (m : Sent). not (sym (same-settled newer older p m.id i) j)) (sym (same-sent newer older p i) j)) ∙ quiet p

performs-older : (l : Layout) (a : Ui) (newer older : List Entry) (cs : List Command) → AllTake newer → performs l 0 a (newer ++ older) cs ≡ true → performs l 0 a older cs ≡ true
performs-older l a [] older cs i p = p
performs-older l a (e ∷ newer) older cs i p =
    performs-older l a newer older cs i.2 (unanswered l 0 a (newer ++ older) e cs (ap (λ b. b && is_command_entry e.act) (other (e.seat == 0) refl)) p)
  where
    other : (b : Bool) → (e.seat == 0) ≡ b → b ≡ false
    other false t = refl
    other true t = absurd (let none = eqb-true e.seat 0 t in let some = i.0 in omega (arith, none, some))

-- Takes change of a port how many were taken, and nothing else.

abbrev IsLike : Option PortState → Option PortState → Type 0
IsLike None None = Unit {0}
IsLike (Some f) (Some g) = (g.accepted ≡ f.accepted) × (g.spot ≡ f.spot) × (g.path ≡ f.path)
IsLike _ _ = ⊥

like-itself : (o : Option PortState) → IsLike o o
like-itself None = tt
like-itself (Some f) = (refl, refl, refl)

like-after : (q : Ui) (p : ℕ) (a : Act) (o r : Option PortState) → IsOfTake q a → IsLike o r → IsLike o (fate_after p a r)
like-after q p (Act.Take z n x) None None i k = tt
like-after q p (Act.Take z n x) None (Some g) i k = absurd k
like-after q p (Act.Take z n x) (Some f) None i k = absurd k
like-after q p (Act.Take z n x) (Some f) (Some g) i k = k
like-after q p (Act.Empty z) None None i k = tt
like-after q p (Act.Empty z) None (Some g) i k = absurd k
like-after q p (Act.Empty z) (Some f) None i k = absurd k
like-after q p (Act.Empty z) (Some f) (Some g) i k = k
like-after q p (Act.NotHere z) None None i k = tt
like-after q p (Act.NotHere z) None (Some g) i k = absurd k
like-after q p (Act.NotHere z) (Some f) None i k = absurd k
like-after q p (Act.NotHere z) (Some f) (Some g) i k = k
like-after q p (Act.Done n) None None i k = tt
like-after q p (Act.Done n) None (Some g) i k = absurd k
like-after q p (Act.Done n) (Some f) None i k = absurd k
like-after q p (Act.Done n) (Some f) (Some g) i k = k
like-after q p (Act.Late n) None None i k = tt
like-after q p (Act.Late n) None (Some g) i k = absurd k
like-after q p (Act.Late n) (Some f) None i k = absurd k
like-after q p (Act.Late n) (Some f) (Some g) i k = k
like-after q p _ o r i k = absurd i

alike : (q : Ui) (newer older : List Entry) → AllTake newer → IsLike (fate (on q older)) (fate (on q (newer ++ older)))
alike q [] older i = like-itself (fate (on q older))
alike q (e ∷ newer) older i = go (is_on (Some q) e) (alike q newer older i.2)
  where
    go : (b : Bool) → IsLike (fate (on q older)) (fate (on q (newer ++ older))) → IsLike (fate (on q older)) (fate (cond b (e ∷ on q (newer ++ older)) (on q (newer ++ older))))
    go false ih = ih
    go true ih = like-after (port_on e.seat) e.place e.act (fate (on q older)) (fate (on q (newer ++ older))) i.1 ih

like-accepted : (o r : Option PortState) → IsLike o r → accepted_from r ≡ accepted_from o
like-accepted None None k = refl
like-accepted (Some f) (Some g) k = k.0
like-accepted None (Some g) k = absurd k
like-accepted (Some f) None k = absurd k

some-same : (x y : PortState) → Some x ≡ Some y → x ≡ y
some-same x y h = cc

like-held : (a : Ui) (p : ℕ) (o r : Option PortState) → IsLike o r → IsHeldBy a p o → IsHeldBy a p r
like-held a p None r k i = absurd (let bad : None ≡ Some i.state = i.is in cc)
like-held a p (Some f) None k i = absurd k
like-held a p (Some f) (Some g) k i =
    let same = some-same f i.state i.is in
    record { state = g; is = refl; spot = k.1 ∙ ap (λ (z : PortState). z.spot) same ∙ i.spot; path = k.2 ∙ ap (λ (z : PortState). z.path) same ∙ i.path }

-- What was received at a port was taken by the seat of its site.

on-own : (s k : ℕ) (a : Act) → IsOfTake (port_on s) a → are_same same_ui (Some (port_on k)) (held_port_of a) ≡ true → s ≡ k
on-own s k (Act.Take r n x) i t = ap (λ (z : Ui). z.site) (sym (from_same_ui (port_on k) r t ∙ i))
on-own s k (Act.Empty r) i t = ap (λ (z : Ui). z.site) (sym (from_same_ui (port_on k) r t ∙ i))
on-own s k (Act.NotHere r) i t = absurd (false≢true t)
on-own s k (Act.Done n) i t = absurd (false≢true t)
on-own s k (Act.Late n) i t = absurd (false≢true t)
on-own s k _ i t = absurd i

off-receives : (k : ℕ) (a : Act) (xs : List MsgId) → IsOfTake (port_on k) a → are_same same_ui (Some (port_on k)) (held_port_of a) ≡ false → received_after a xs ≡ xs
off-receives k (Act.Take r n x) xs i t = absurd (false≢true (sym t ∙ (ap (same_ui (port_on k)) i ∙ same_ui-self (port_on k))))
off-receives k (Act.Empty r) xs i t = refl
off-receives k (Act.NotHere r) xs i t = refl
off-receives k (Act.Done n) xs i t = refl
off-receives k (Act.Late n) xs i t = refl
off-receives k _ xs i t = absurd i

fill-receives : (l : Layout) (n s : ℕ) (past : List Entry) (seat : ℕ) (a : Act) (xs : List MsgId) → (is_command_entry a ≡ true → Fills l n s past seat a) → received_after a xs ≡ xs
fill-receives l n s past seat (Act.Take r m x) xs f = absurd (f refl)
fill-receives l n s past seat _ xs f = refl

none-received : (l : Layout) (n s : ℕ) (past : List Entry) (q : Ui) → AllFill l n s past → received (on q past) ≡ []
none-received l n s [] q f = refl
none-received l n s (e ∷ past) q f = go (is_on (Some q) e) (none-received l n s past q f.1)
  where
    go : (b : Bool) → received (on q past) ≡ [] → received (cond b (e ∷ on q past) (on q past)) ≡ []
    go false ih = ih
    go true ih = fill-receives l n s past e.seat e.act (received (on q past)) f.0 ∙ ih

same-received : (k : ℕ) (newer older : List Entry) → AllTake newer → received (on (port_on k) older) ≡ [] → received (on (port_on k) (newer ++ older)) ≡ received (by k newer)
same-received k [] older i none = none
same-received k (e ∷ newer) older i none = go (is_on (Some (port_on k)) e) (is_by k e) refl refl (same-received k newer older i.2 none)
  where
    xs : List Entry
    xs = on (port_on k) (newer ++ older)

    ys : List Entry
    ys = by k newer

    go : (b c : Bool) → is_on (Some (port_on k)) e ≡ b → is_by k e ≡ c → received xs ≡ received ys → received (cond b (e ∷ xs) xs) ≡ received (cond c (e ∷ ys) ys)
    go true true t u ih = ap (received_after e.act) ih
    go true false t u ih = absurd (false≢true (sym u ∙ eq-eqb e.seat k (on-own e.seat k e.act i.1 t)))
    go false true t u ih =
        let same = eqb-true e.seat k u in
        ih ∙ sym (off-receives k e.act (received ys) (subst (λ z. IsOfTake (port_on z) e.act) same i.1) t)
    go false false t u ih = ih

-- The last entry of the seat.

record IsSplit (test : Entry → Bool) (es : List Entry) (e : Entry) (rest : List Entry) : Type 0 where
  newer : List Entry
  older : List Entry
  is : es ≡ newer ++ e ∷ older
  passes : test e ≡ true
  left : filter test older ≡ rest

first-of : (test : Entry → Bool) (es : List Entry) (e : Entry) (rest : List Entry) → filter test es ≡ e ∷ rest → IsSplit test es e rest
first-of test [] e rest h = absurd (cc)
first-of test (f ∷ es) e rest h = go (test f) refl h (first-of test es e rest)
  where
    go : (b : Bool) → test f ≡ b → cond b (f ∷ filter test es) (filter test es) ≡ e ∷ rest → (filter test es ≡ e ∷ rest → IsSplit test es e rest) → IsSplit test (f ∷ es) e rest
    go true t k ih =
        let same : f ≡ e = cc in
        let left : filter test es ≡ rest = cc in
        record { newer = []; older = es; is = ap (λ z. z ∷ es) same; passes = ap test (sym same) ∙ t; left = left }
    go false t k ih = let i = ih k in record { newer = f ∷ i.newer; older = i.older; is = ap (λ zs. f ∷ zs) i.is; passes = i.passes; left = i.left }

take-older : (newer : List Entry) (e : Entry) (older : List Entry) → AllTake (newer ++ e ∷ older) → AllTake older
take-older [] e older i = i.2
take-older (f ∷ newer) e older i = take-older newer e older i.2

empties : (o : Option PortState) → is_empty o ≡ true → (xs : List MsgId) → xs ≡ take (taken_from o) (accepted_from o) → xs ≡ accepted_from o
empties None h xs is = absurd (false≢true h)
empties (Some f) h xs is = is ∙ ap (λ n. take n f.accepted) (eqb-true f.taken (length f.accepted) h) ∙ take_all (length f.accepted) f.accepted (omega arith)

held-there : (a : Ui) (p : ℕ) (o : Option PortState) → IsHeldBy a p o → is_held_at_by p a o ≡ true
held-there a p o i =
    ap (is_held_at_by p a) i.is
    ∙ (λ j. is_held_by a (i.spot j) && (last_of 0 (i.path j) == p))
    ∙ (λ j. same_ui-self a j && eq-eqb p p refl j)

module _ (l : Layout) (callers : ℕ → Option Ui) (n k : ℕ) (later : List Sending) (newer older : List Entry) (c : IsCrewed l callers n k later newer older) (s : ℕ) (low : 1 ≤ s) (most : s ≤ k) (v : EndsInVain l callers s (by s newer)) where
  abbrev q : Ui
  q = port_on s

  legal-old : is_legal l older ≡ true
  legal-old = legal-older l newer older (run_is_legal l callers (newer ++ older) c.run)

  sent-so : AreSent l n k later older
  sent-so =
      all-sent-so l n k c.first_actor later older c.shape c.sites c.within legal-old c.first
      (performs-older l c.first_actor newer older (script n k later) c.others c.performed)

  hold : accepted_by q older ≡ take n (ids (messages_to q older))
  hold = ports-hold l n 0 older q c.shape legal-old sent-so.made.fills (settled-older newer older c.others c.settled)

  split : IsSplit (is_by s) newer v.last v.rest
  split = first-of (is_by s) newer v.last v.rest v.is

  abbrev past : List Entry
  past = split.older ++ older

  run-last : is_run l callers (v.last ∷ past) ≡ true
  run-last =
      run-older l callers split.newer (v.last ∷ past)
      (subst (λ z. is_run l callers z ≡ true) (ap (λ z. z ++ older) split.is ∙ append_assoc split.newer (v.last ∷ split.older) older) c.run)

  legal-last : is_legal l (v.last ∷ past) ≡ true
  legal-last = run_is_legal l callers (v.last ∷ past) run-last

  takes-old : AllTake split.older
  takes-old = take-older split.newer v.last split.older (subst AllTake split.is c.others)

  like : IsLike (fate (on q older)) (fate (on q past))
  like = alike q split.older older takes-old

  held : IsHeldBy (actor_on s) (place_on l s) (fate (on q past))
  held = like-held (actor_on s) (place_on l s) (fate (on q older)) (fate (on q past)) like (sent-so.made.held s low most)

  emptied : is_empty (fate (on q past)) ≡ true
  emptied =
      elim v.vain [
        | inl e ↦ (
            let may-it = subst (λ z. act_may l (views past v.last.place v.last.seat z) v.last.place v.last.seat z ≡ true) e (legal_parts l v.last past legal-last).0 in
            (and_parts (is_held_at v.last.place (fate (on q past))) (is_empty (fate (on q past))) may-it).1)
        | inr e ↦ (
            let two = and_parts (may l past v.last && may_run callers past v.last) (is_run l callers past) run-last in
            let one = and_parts (may l past v.last) (may_run callers past v.last) two.0 in
            let fits = (and_parts (nat_lt (last_clock (by v.last.seat past)) v.last.clock) (fits_callers past v.last.place (callers v.last.seat) v.last.act) one.1).1 in
            let who : callers v.last.seat ≡ Some (actor_on s) = ap callers (eqb-true v.last.seat s split.passes) ∙ v.who in
            let not-held : not (is_held_at_by v.last.place (actor_on s) (fate (on q past))) ≡ true = (λ j. fits_callers past v.last.place (sym who j) (sym e j)) ∙ fits in
            let there = held-there (actor_on s) (place_on l s) (fate (on q past)) held in
            let here : is_held_at_by v.last.place (actor_on s) (fate (on q past)) ≡ true = ap (λ p. is_held_at_by p (actor_on s) (fate (on q past))) v.place ∙ there in
            absurd (false≢true (sym (ap not here) ∙ not-held)))
      ]

  vain-receives : (xs : List MsgId) → received_after v.last.act xs ≡ xs
  vain-receives xs =
      elim v.vain [
        | inl e ↦ ap (λ a. received_after a xs) e
        | inr e ↦ ap (λ a. received_after a xs) e
      ]

  took : received (by s newer) ≡ take n (ids (messages_to q older))
  took =
      ap received v.is ∙ vain-receives (received v.rest) ∙ ap received (sym split.left)
      ∙ sym (same-received s split.older older takes-old (none-received l n 0 older q sent-so.made.fills))
      ∙ empties (fate (on q past)) emptied (received (on q past)) (receives_in_order l past q c.shape (legal_parts l v.last past legal-last).1).0
      ∙ like-accepted (fate (on q older)) (fate (on q past)) like ∙ hold

  pub takers-get : TookWhatWasSentFirst n s later older (by s newer)
  takers-get = record { ids_are = took; bodies_are = sent-so.bodies s }

pub takers-get-what-was-sent-first : TakersGetWhatWasSentFirst
takers-get-what-was-sent-first l callers n k later newer older s c low most v = takers-get l callers n k later newer older c s low most v
