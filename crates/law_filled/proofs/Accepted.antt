-- A port that a seat filled has accepted the first messages that were posted to it.
-- l is a layout, n the room of a port, s the seat, q a port, x an id. A past has its newest entry first.
use Rattle.std.proofs.Common.{ℕ, zero, suc, ◌≡◌, ◌<◌, ◌==◌, inl, inr, Bool, true, false, not, cond, nat_lt, List, [], ◌∷◌, ◌++◌, append-nil, length, take, Option, Some, None, refl, sym, ◌∙◌, ap, subst, arith}
use Rattle.std.proofs.lemmas.Bool.{and_parts, eqb-true, false≢true, ltb-true}
use Rattle.chorus_ui.specs.declared.ui.Ui.{Ui}
use Rattle.chorus_ui.specs.declared.layout.Layout.{Layout}
use Rattle.chorus_ui.specs.Layout.{IsLayout}
use Rattle.chorus_ui.specs.Name.{same_ui}
use Rattle.chorus_ui.proofs.Names.{from_same_ui}
use Rattle.chorus_entry.specs.declared.entry.Entry.{Entry}
use Rattle.chorus_entry.specs.declared.id.MsgId.{MsgId}
use Rattle.chorus_entry.specs.declared.act.Act.{Act}
use Rattle.chorus_entry.specs.Act.{held_port_of}
use Rattle.chorus_entry.specs.Same.{are_same}
use Rattle.chorus_world.specs.declared.place.Sent.{Sent}
use Rattle.chorus_world.specs.Views.{views, at, on, is_on}
use Rattle.chorus_world.specs.Ports.{PortState, fate, fate_after, waiting, has_room, is_full}
use Rattle.chorus_world.specs.Places.{sent, is_settled, unsettled}
use Rattle.chorus_world.specs.Steps.{is_legal, may_enter}
use Rattle.chorus_world.specs.AcceptedLaws.{accepted_by, accepted_from}
use Rattle.chorus_world.proofs.Steps.LegalLemmas.{entry, legal_parts, keeps}
use Rattle.chorus_world.proofs.Ports.PortLaws.{accepted_grows}
use Rattle.chorus_world.proofs.Messages.SentFacts.{EachSent, found-has}
use Rattle.law_filled.specs.Filled.{messages_to, ids, AllFill, AllAreSettled, PortsHoldWhatWasSentFirst}
use Rattle.law_filled.proofs.Facts.{Has, Each, each-of, Rising, IsListed, Stays, stays, all-listed, direct}
use Rattle.law_filled.proofs.Deciding.{decided_to, decisions_to, all-decided, decided-listed, listed-decided, settled-verdict}

-- What a port has accepted are the first decisions.

take-none : (n : ℕ) (xs : List MsgId) → xs ≡ [] → take n xs ≡ []
take-none zero xs h = refl
take-none (suc n) [] h = refl
take-none (suc n) (x ∷ xs) h = absurd (cc)

take-more : (n : ℕ) (xs : List MsgId) (x : MsgId) → length (take n xs) < n → take n (xs ++ x ∷ []) ≡ take n xs ++ x ∷ []
take-more zero xs x lt = absurd (omega (arith, lt))
take-more (suc n) [] x lt = ap (λ zs. x ∷ zs) (take-none n [] refl)
take-more (suc n) (y ∷ xs) x lt = ap (λ zs. y ∷ zs) (take-more n xs x (omega (arith, lt)))

take-same : (n : ℕ) (xs : List MsgId) (x : MsgId) → length (take n xs) ≡ n → take n (xs ++ x ∷ []) ≡ take n xs
take-same zero xs x is = refl
take-same (suc n) [] x is = absurd (omega (arith, is))
take-same (suc n) (y ∷ xs) x is = ap (λ zs. y ∷ zs) (take-same n xs x (omega (arith, is)))

-- the port is open
room-of : (n m : ℕ) (o : Option PortState) → Stays n o → has_room m o ≡ true → length (accepted_from o) < n
room-of n m None i h = absurd (false≢true h)
room-of n m (Some f) i h =
    let lt = ltb-true (waiting f) f.capacity (and_parts (nat_lt (waiting f) f.capacity) (m == length f.accepted) h).0 in
    let none = i.0 in let cap = i.1 in omega (arith, lt, none, cap)

full-of : (n m : ℕ) (o : Option PortState) → Stays n o → is_full m o ≡ true → length (accepted_from o) ≡ n
full-of n m None i h = absurd (false≢true h)
full-of n m (Some f) i h =
    let is = eqb-true (waiting f) f.capacity (and_parts (waiting f == f.capacity) (m == waiting f) h).0 in
    let none = i.0 in let cap = i.1 in omega (arith, is, none, cap)

there : (m : ℕ) (x : MsgId) (r : Ui) (p : ℕ) (o : Option PortState) → has_room m o ≡ true → accepted_from (fate_after p (Act.Accept x r m) o) ≡ accepted_from o ++ x ∷ []
there m x r p None h = absurd (false≢true h)
there m x r p (Some f) h = refl

same-after : (p : ℕ) (a : Act) (o : Option PortState) → ((q c : Ui) (n : ℕ) → a ≡ Act.Make q c n → ⊥) → ((x : MsgId) (q : Ui) (n : ℕ) → a ≡ Act.Accept x q n → ⊥) → accepted_from (fate_after p a o) ≡ accepted_from o
same-after p (Act.Make q c n) o m k = absurd (m q c n refl)
same-after p (Act.Accept x q n) o m k = absurd (k x q n refl)
same-after p _ None m k = refl
same-after p _ (Some f) m k = refl

undecided : (q : Ui) (a : Act) → are_same same_ui (Some q) (held_port_of a) ≡ false → decided_to q a ≡ []
undecided q (Act.Accept x r m) t = ap (λ b. cond b (x ∷ []) []) t
undecided q (Act.Full x r m) t = ap (λ b. cond b (x ∷ []) []) t
undecided q _ t = refl

nothing-accepted : (xs more : List MsgId) → [] ≡ xs ++ more → xs ≡ []
nothing-accepted [] more h = refl
nothing-accepted (x ∷ xs) more h = cc

-- one entry more on the line of the port, which has accepted the first of these
line-more : (l : Layout) (n s : ℕ) (past : List Entry) (c p seat : ℕ) (a : Act) (q : Ui) (xs : List MsgId) → IsLayout l → is_legal l (entry c p seat a ∷ past) ≡ true → AllFill l n s past → are_same same_ui (Some q) (held_port_of a) ≡ true
    → accepted_by q past ≡ take n xs → accepted_from (fate_after p a (fate (on q past))) ≡ take n (xs ++ decided_to q a)
line-more l n s past c p seat (Act.Make r b m) q xs shape h f t i =
    let e = entry c p seat (Act.Make r b m) in
    let grown = accepted_grows l (e ∷ []) past q shape h in
    let view : accepted_by q (e ∷ past) ≡ [] = ap (λ es. accepted_from (fate es)) (keeps (is_on (Some q)) e past t) in
    let none : accepted_by q past ≡ [] = nothing-accepted (accepted_by q past) grown.0 (sym view ∙ grown.1) in
    sym none ∙ i ∙ ap (take n) (sym (append-nil xs))
line-more l n s past c p seat (Act.Accept x r m) q xs shape h f t i =
    let two = legal_parts l (entry c p seat (Act.Accept x r m)) past h in
    let same : q ≡ r = from_same_ui q r t in
    let room : has_room m (fate (on q past)) ≡ true = subst (λ z. has_room m (fate (on z past)) ≡ true) (sym same) (and_parts (may_enter l (views past p seat (Act.Accept x r m)) p x r) (has_room m (fate (on r past))) two.0).1 in
    let few : length (take n xs) < n = subst (λ ys. length ys < n) i (room-of n m (fate (on q past)) (stays l n s past q two.1 f) room) in
    there m x r p (fate (on q past)) room ∙ ap (λ ys. ys ++ x ∷ []) i ∙ sym (take-more n xs x few)
    ∙ ap (λ b. take n (xs ++ cond b (x ∷ []) [])) (sym t)
line-more l n s past c p seat (Act.Full x r m) q xs shape h f t i =
    let two = legal_parts l (entry c p seat (Act.Full x r m)) past h in
    let same : q ≡ r = from_same_ui q r t in
    let full : is_full m (fate (on q past)) ≡ true = subst (λ z. is_full m (fate (on z past)) ≡ true) (sym same) (and_parts (may_enter l (views past p seat (Act.Full x r m)) p x r) (is_full m (fate (on r past))) two.0).1 in
    let many : length (take n xs) ≡ n = subst (λ ys. length ys ≡ n) i (full-of n m (fate (on q past)) (stays l n s past q two.1 f) full) in
    same-after p (Act.Full x r m) (fate (on q past)) (λ z c k e. absurd (cc)) (λ z y k e. absurd (cc)) ∙ i ∙ sym (take-same n xs x many)
    ∙ ap (λ b. take n (xs ++ cond b (x ∷ []) [])) (sym t)
line-more l n s past c p seat a q xs shape h f t i =
    same-after p a (fate (on q past)) (λ z b k e. absurd (cc)) (λ z y k e. absurd (cc)) ∙ i ∙ ap (take n) (sym (append-nil xs))

pub accepts-first : (l : Layout) (n s : ℕ) (past : List Entry) (q : Ui) → IsLayout l → is_legal l past ≡ true → AllFill l n s past → accepted_by q past ≡ take n (decisions_to q past)
accepts-first l n s [] q shape h f = sym (take-none n [] refl)
accepts-first l n s (e ∷ past) q shape h f = go (is_on (Some q) e) refl (accepts-first l n s past q shape (legal_parts l e past h).1 f.1)
  where
    go : (b : Bool) → is_on (Some q) e ≡ b → accepted_by q past ≡ take n (decisions_to q past) → accepted_from (fate (cond b (e ∷ on q past) (on q past))) ≡ take n (decisions_to q past ++ decided_to q e.act)
    go true t ih = line-more l n s past e.clock e.place e.seat e.act q (decisions_to q past) shape h f.1 t ih
    go false t ih = ih ∙ ap (take n) (sym (append-nil (decisions_to q past)) ∙ ap (λ ys. decisions_to q past ++ ys) (sym (undecided q e.act t)))

-- Two lists of the same ids, along which numbers rise, are one.

not-later : (x y : MsgId) (xs ys : List MsgId) → Each (λ z. x.number < z.number) xs → Each (λ z. y.number < z.number) ys → Has y (x ∷ xs) → Has x (y ∷ ys) → y ≡ x
not-later x y xs ys a b (inl e) k = sym e
not-later x y xs ys a b (inr h) (inl e) = e
not-later x y xs ys a b (inr h) (inr k) =
    let first = each-of (λ z. x.number < z.number) xs y a h in
    let second = each-of (λ z. y.number < z.number) ys x b k in
    absurd (omega (arith, first, second))

-- of the tail it is in the other tail
in-tail : (x z : MsgId) (xs ys : List MsgId) → Each (λ w. x.number < w.number) xs → Has z xs → Has z (x ∷ ys) → Has z ys
in-tail x z xs ys a h (inr k) = k
in-tail x z xs ys a h (inl e) =
    let less = each-of (λ w. x.number < w.number) xs z a h in
    let same = ap (λ (w : MsgId). w.number) e in
    absurd (omega (arith, less, same))

pub same-rising : (xs ys : List MsgId) → Rising xs → Rising ys → ((x : MsgId) → Has x xs → Has x ys) → ((x : MsgId) → Has x ys → Has x xs) → xs ≡ ys
same-rising [] [] a b f g = refl
same-rising [] (y ∷ ys) a b f g = absurd (g y (inl refl))
same-rising (x ∷ xs) [] a b f g = absurd (f x (inl refl))
same-rising (x ∷ xs) (y ∷ ys) a b f g =
    let same : y ≡ x = not-later x y xs ys a.0 b.0 (g y (inl refl)) (f x (inl refl)) in
    let rest = same-rising xs ys a.1 b.1
    (λ z h. in-tail x z xs ys a.0 h (subst (λ w. Has z (w ∷ ys)) same (f z (inr h))))
    (λ z h. in-tail y z ys xs b.0 h (subst (λ w. Has z (w ∷ xs)) (sym same) (g z (inr h)))) in
    (λ i. sym same i ∷ rest i)

-- Where each message is settled, each that was posted to the port was decided on.

unsettled-none : (here : List Entry) (ms : List Sent) → unsettled here ms ≡ [] → EachSent (λ m. is_settled m.id here ≡ true) ms
unsettled-none here [] h = tt
unsettled-none here (m ∷ ms) h = go (is_settled m.id here) refl h (unsettled-none here ms)
  where
    go : (b : Bool) → is_settled m.id here ≡ b → cond (not b) (m ∷ unsettled here ms) (unsettled here ms) ≡ [] → (unsettled here ms ≡ [] → EachSent (λ k. is_settled k.id here ≡ true) ms) → EachSent (λ k. is_settled k.id here ≡ true) (m ∷ ms)
    go true t k ih = (t, ih k)
    go false t k ih = absurd (cc)

pub all-decided-on : (l : Layout) (n s : ℕ) (past : List Entry) (q : Ui) → is_legal l past ≡ true → AllFill l n s past → AllAreSettled past → decisions_to q past ≡ ids (messages_to q past)
all-decided-on l n s past q h f quiet =
    let listed = all-listed l n s past q h f in
    same-rising (decisions_to q past) (ids (messages_to q past)) (all-decided l n s past q h f).rise listed.rise
    (λ x k. decided-listed l n s past q x h f k)
    (λ x k.
    let i = each-of (IsListed l s q past) (ids (messages_to q past)) x listed.each k in
    let done = found-has (λ m. is_settled m.id (at i.place past) ≡ true) x (sent (at i.place past)) (direct x q) (unsettled-none (at i.place past) (sent (at i.place past)) (quiet i.place)) i.is in
    let v = settled-verdict l past x i.place h done in
    listed-decided l n s past q x v.0 h f k v.1)

pub ports-hold : PortsHoldWhatWasSentFirst
ports-hold l n s past q shape h f quiet = accepts-first l n s past q shape h f ∙ ap (take n) (all-decided-on l n s past q h f quiet)
