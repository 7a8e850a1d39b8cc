-- Facts of legal lists on what a place sent: it was posted, and what an entry sends is new and not settled; ids differ, and
-- each is found by its id; it goes to a port's name.
use Rattle.std.proofs.Common.{ℕ, ◌≡◌, ◌+◌, ◌<◌, ◌≤◌, ◌==◌, Bool, true, false, ◌||◌, cond, List, [], ◌∷◌, ◌++◌, Some, refl, sym, ◌∙◌, ap, subst, arith, ◌&&◌, Option, None}
use Rattle.std.specs.List.{filter, list_all}
use Rattle.chorus_ui.specs.declared.ui.Ui.{Ui}
use Rattle.chorus_ui.specs.declared.layout.Layout.{Layout}
use Rattle.chorus_entry.specs.declared.entry.Entry.{Entry}
use Rattle.chorus_entry.specs.declared.id.MsgId.{MsgId}
use Rattle.chorus_entry.specs.declared.dest.Dest.TheVariants.{Port, All, One, OneAt}
use Rattle.chorus_entry.specs.declared.act.Act.{Act}
use Rattle.chorus_entry.specs.declared.act.Act.TheVariants.{Post, Choose}
use Rattle.chorus_world.specs.declared.place.Sent.{Sent}
use Rattle.chorus_world.specs.Views.{views, at, by, about, is_about}
use Rattle.chorus_entry.specs.Order.{is_at}
use Rattle.chorus_entry.specs.Same.{same_route}
use Rattle.chorus_world.specs.Places.{sent, sent_by, copies, is_settled, find_sent, just_taken}
use Rattle.chorus_world.specs.Groups.{is_chosen}
use Rattle.chorus_world.specs.Posts.{source}
use Rattle.chorus_world.specs.Seats.{posts}
use Rattle.chorus_world.specs.Steps.{act_may, is_legal, may, is_timely, act_follows, may_stand_behind}
use Rattle.chorus_world.proofs.Steps.LegalLemmas.{legal_parts}
use Rattle.chorus_world.proofs.Messages.Posted.{IsPosted, IfPosted, AllPosted, id_in}
use Rattle.chorus_world.proofs.Messages.PostLemmas.{post_needs, choose_needs, asked_facts, own_source}
use Rattle.chorus_world.proofs.Messages.SendingLemmas.{settles_other}
use Rattle.chorus_world.proofs.Messages.StageLemmas.{MessageFacts}
use Rattle.std.specs.Option.{option_or}
use Rattle.std.proofs.lemmas.Bool.{and_parts, eqb-true, false≢true}
use Rattle.chorus_ui.proofs.Names.{from_same_ui}
use Rattle.chorus_entry.specs.MsgId.{same_id}
use Rattle.chorus_entry.proofs.Same.{same_id-self}
use Rattle.chorus_world.proofs.Messages.SentLemmas.{find_sent_append}
use Rattle.chorus_world.proofs.Messages.MessageInvariant.{legal_messages}
use Rattle.chorus_ui.specs.NameKind.{is_port, is_group}
use Rattle.chorus_entry.specs.Kinds.{has_kinds, has_kinds_in_tag}

-- each of the messages that were sent
abbrev pub EachSent : (Sent → Type 0) → List Sent → Type 0
EachSent P [] = Unit {0}
EachSent P (m ∷ ms) = P m × EachSent P ms

pub each-append : (P : Sent → Type 0) (ms ns : List Sent) → EachSent P ms → EachSent P ns → EachSent P (ms ++ ns)
each-append P [] ns a b = b
each-append P (m ∷ ms) ns a b = (a.0, each-append P ms ns a.1 b)

pub each-filter : (P : Sent → Type 0) (t : Sent → Bool) (ms : List Sent) → EachSent P ms → EachSent P (filter t ms)
each-filter P t [] h = tt
each-filter P t (m ∷ ms) h = by (t m) (each-filter P t ms h.1)
  where
    by : (b : Bool) → EachSent P (filter t ms) → EachSent P (cond b (m ∷ filter t ms) (filter t ms))
    by true k = (h.0, k)
    by false k = k

-- What was sent was posted.

copies-posted : (past : List Entry) (x : MsgId) (g : Ui) (n : ℕ) (qs : List Ui) → IsPosted past x → EachSent (λ m. IsPosted past m.id) (copies x g n qs)
copies-posted past x g n [] h = tt
copies-posted past x g n (q ∷ qs) h = (h, copies-posted past x g (n + 1) qs h)

by-posted : (past : List Entry) (a : Act) → IfPosted past (id_in a) → EachSent (λ m. IsPosted past m.id) (sent_by a)
by-posted past (Post m (Port q)) h = (h, tt)
by-posted past (Post m (All g)) h = tt
by-posted past (Post m (One g)) h = tt
by-posted past (Post m (OneAt g s)) h = tt
by-posted past (Choose x g qs) h = copies-posted past x g 1 qs h
by-posted past _ h = tt

pub sent-posted : (past es : List Entry) → AllPosted past es → EachSent (λ m. IsPosted past m.id) (sent es)
sent-posted past [] h = tt
sent-posted past (e ∷ es) h = each-append (λ m. IsPosted past m.id) (sent es) (sent_by e.act) (sent-posted past es h.1) (by-posted past e.act h.0)

-- What is sent by an entry is not settled yet.

nothing-settles : (x : MsgId) (t : Entry → Bool) (es : List Entry) → about x es ≡ [] → is_settled x (filter t es) ≡ false
nothing-settles x t [] h = refl
nothing-settles x t (e ∷ es) h = by (is_about (Some x) e) refl h (nothing-settles x t es)
  where
    by : (b : Bool) → is_about (Some x) e ≡ b → cond b (e ∷ about x es) (about x es) ≡ [] → (about x es ≡ [] → is_settled x (filter t es) ≡ false) → is_settled x (filter t (e ∷ es)) ≡ false
    by true n k ih = absurd (cc)
    by false n k ih = go (t e)
      where
        go : (c : Bool) → is_settled x (cond c (e ∷ filter t es) (filter t es)) ≡ false
        go true = ap (λ z. z || is_settled x (filter t es)) (settles_other x e.act n) ∙ ih k
        go false = ih k

module _ (l : Layout) (past : List Entry) (c p s : ℕ) (facts : (x : MsgId) → MessageFacts x past) where
  copies-fresh : (x : MsgId) (g : Ui) (n : ℕ) (qs : List Ui) → 1 ≤ n → x.copy ≡ 0 → is_chosen x (about x past) ≡ false → EachSent (λ m. is_settled m.id (at p past) ≡ false) (copies x g n qs)
  copies-fresh x g n [] le z h = tt
  copies-fresh x g n (q ∷ qs) le z h =
      let y : MsgId = record x { copy = n } in
      let same : source x ≡ x = own_source x z in
      let copy : y.copy ≡ 0 → ⊥ = (λ k. let k2 : n ≡ 0 = k in omega (arith, k2, le)) in
      let none = (facts y).uncopied copy (subst (λ w. is_chosen w (about w past) ≡ false) (sym same) h) in
      (nothing-settles y (is_at p) past none.about, copies-fresh x g (n + 1) qs (omega (arith, le)) z h)

  pub sent-fresh : (a : Act) → act_may l (views past p s a) p s a ≡ true → EachSent (λ m. is_settled m.id (at p past) ≡ false) (sent_by a)
  sent-fresh (Post m (Port q)) h =
      let needs = post_needs l past p s m (Port q) h in
      let number = needs.number in
      let same : posts (by m.id.seat past) ≡ posts (by s past) = ap (λ k. posts (by k past)) needs.seat in
      let less : posts (by m.id.seat past) < m.id.number = omega (arith, number, same) in
      (nothing-settles m.id (is_at p) past ((facts m.id).fresh less).about, tt)
  sent-fresh (Post m (All g)) h = tt
  sent-fresh (Post m (One g)) h = tt
  sent-fresh (Post m (OneAt g t)) h = tt
  sent-fresh (Choose x g qs) h =
      let needs = choose_needs l past p s x g qs h in
      let f = asked_facts x past needs.from needs.dest (facts x) needs.asked in
      copies-fresh x g 1 qs (omega arith) f.1.copy f.0.chosen
  sent-fresh _ h = tt

-- the message is found by its id
abbrev pub IsFound : List Sent → Sent → Type 0
IsFound ms m = find_sent m.id ms ≡ Some m

pub each-map : (P Q : Sent → Type 0) → ((m : Sent) → P m → Q m) → (ms : List Sent) → EachSent P ms → EachSent Q ms
each-map P Q f [] h = tt
each-map P Q f (m ∷ ms) h = (f m h.0, each-map P Q f ms h.1)

-- of a list, and then what is sent by an entry
older-found : (ms ns : List Sent) (m : Sent) → IsFound ms m → IsFound (ms ++ ns) m
older-found ms ns m h = find_sent_append m.id ms ns ∙ ap (λ o. option_or o (find_sent m.id ns)) h

newer-found : (ms ns : List Sent) (m : Sent) → find_sent m.id ms ≡ None → IsFound ns m → IsFound (ms ++ ns) m
newer-found ms ns m h k = find_sent_append m.id ms ns ∙ (ap (λ o. option_or o (find_sent m.id ns)) h ∙ k)

copies-found : (x : MsgId) (g : Ui) (n : ℕ) (qs : List Ui) → EachSent (IsFound (copies x g n qs)) (copies x g n qs)
copies-found x g n [] = tt
copies-found x g n (q ∷ qs) =
    let m : Sent = record { id = record x { copy = n }; port = q; route = Some g } in (
      ap (λ b. cond b (Some m) (find_sent m.id (copies x g (n + 1) qs))) (same_id-self m.id),
      later (n + 1) qs (copies x g (n + 1) qs) (copies-found x g (n + 1) qs) (omega arith),
    )
  where
    later : (j : ℕ) (rs : List Ui) (all : List Sent) → EachSent (IsFound all) (copies x g j rs) → n < j → EachSent (IsFound (record { id = record x { copy = n }; port = q; route = Some g } ∷ all)) (copies x g j rs)
    later j [] all h lt = tt
    later j (r ∷ rs) all h lt = (
      ap (λ b. cond b (Some (record { id = record x { copy = n }; port = q; route = Some g })) (find_sent (record x { copy = j }) all)) (differ (n == j) refl) ∙ h.0,
      later (j + 1) rs all h.1 (omega (arith, lt)),
    )
      where
        and-false : (b : Bool) → (b && false) ≡ false
        and-false true = refl
        and-false false = refl

        differ : (b : Bool) → (n == j) ≡ b → same_id (record x { copy = n }) (record x { copy = j }) ≡ false
        differ true e = absurd (let same : n ≡ j = eqb-true n j e in omega (arith, same, lt))
        differ false e = (λ i. ((x.seat == x.seat) && (x.number == x.number)) && e i) ∙ and-false ((x.seat == x.seat) && (x.number == x.number))

by-found : (a : Act) → EachSent (IsFound (sent_by a)) (sent_by a)
by-found (Post m (Port q)) =
    (ap (λ b. cond b (Some (record { id = m.id; port = q; route = None })) None) (same_id-self m.id), tt)
by-found (Post m (All g)) = tt
by-found (Post m (One g)) = tt
by-found (Post m (OneAt g s)) = tt
by-found (Choose x g qs) = copies-found x g 1 qs
by-found _ = tt

module _ (l : Layout) (past : List Entry) (c p s : ℕ) (facts : (x : MsgId) → MessageFacts x past) where
  copies-new : (x : MsgId) (g : Ui) (n : ℕ) (qs : List Ui) → 1 ≤ n → x.copy ≡ 0 → is_chosen x (about x past) ≡ false → EachSent (λ m. find_sent m.id (sent (at p past)) ≡ None) (copies x g n qs)
  copies-new x g n [] le z h = tt
  copies-new x g n (q ∷ qs) le z h =
      let y : MsgId = record x { copy = n } in
      let same : source x ≡ x = own_source x z in
      let copy : y.copy ≡ 0 → ⊥ = (λ k. let k2 : n ≡ 0 = k in omega (arith, k2, le)) in
      let none = (facts y).uncopied copy (subst (λ w. is_chosen w (about w past) ≡ false) (sym same) h) in
      (none.unsent p, copies-new x g (n + 1) qs (omega (arith, le)) z h)

  pub sent-new : (a : Act) → act_may l (views past p s a) p s a ≡ true → EachSent (λ m. find_sent m.id (sent (at p past)) ≡ None) (sent_by a)
  sent-new (Post m (Port q)) h =
      let needs = post_needs l past p s m (Port q) h in
      let number = needs.number in
      let same : posts (by m.id.seat past) ≡ posts (by s past) = ap (λ k. posts (by k past)) needs.seat in
      let less : posts (by m.id.seat past) < m.id.number = omega (arith, number, same) in
      (((facts m.id).fresh less).unsent p, tt)
  sent-new (Post m (All g)) h = tt
  sent-new (Post m (One g)) h = tt
  sent-new (Post m (OneAt g t)) h = tt
  sent-new (Choose x g qs) h =
      let needs = choose_needs l past p s x g qs h in
      let f = asked_facts x past needs.from needs.dest (facts x) needs.asked in
      copies-new x g 1 qs (omega arith) f.1.copy f.0.chosen
  sent-new _ h = tt

each-newer : (ms ns : List Sent) → EachSent (λ m. find_sent m.id ms ≡ None) ns → (ks : List Sent) → EachSent (λ m. find_sent m.id ms ≡ None) ks → EachSent (IsFound ns) ks → EachSent (IsFound (ms ++ ns)) ks
each-newer ms ns z [] a b = tt
each-newer ms ns z (m ∷ ks) a b = (newer-found ms ns m a.0 b.0, each-newer ms ns z ks a.1 b.1)

pub all-found : (l : Layout) (past : List Entry) (p : ℕ) → is_legal l past ≡ true → EachSent (IsFound (sent (at p past))) (sent (at p past))
all-found l [] p h = tt
all-found l (e ∷ past) p h = go (is_at p e) refl (all-found l past p (legal_parts l e past h).1)
  where
    two : (act_may l (views past e.place e.seat e.act) e.place e.seat e.act ≡ true) × (is_legal l past ≡ true)
    two = legal_parts l e past h

    here : EachSent (IsFound (sent (at e.place past))) (sent (at e.place past)) → EachSent (IsFound (sent (at e.place past) ++ sent_by e.act)) (sent (at e.place past) ++ sent_by e.act)
    here ih =
        let ms = sent (at e.place past) in
        let new = sent-new l past e.clock e.place e.seat (λ x. legal_messages l past two.1 x) e.act two.0 in
        each-append (IsFound (ms ++ sent_by e.act)) ms (sent_by e.act)
        (each-map (IsFound ms) (IsFound (ms ++ sent_by e.act)) (λ m k. older-found ms (sent_by e.act) m k) ms ih)
        (each-newer ms (sent_by e.act) new (sent_by e.act) new (by-found e.act))

    go : (b : Bool) → is_at p e ≡ b → EachSent (IsFound (sent (at p past))) (sent (at p past)) → EachSent (IsFound (sent (cond b (e ∷ at p past) (at p past)))) (sent (cond b (e ∷ at p past) (at p past)))
    go false t ih = ih
    go true t ih =
        let same : e.place ≡ p = eqb-true e.place p t in
        subst (λ z. EachSent (IsFound (sent (at z past) ++ sent_by e.act)) (sent (at z past) ++ sent_by e.act)) same
        (here (subst (λ z. EachSent (IsFound (sent (at z past))) (sent (at z past))) (sym same) ih))

pub route-is : (a b : Option Ui) → same_route a b ≡ true → a ≡ b
route-is None None h = refl
route-is None (Some g) h = absurd (false≢true h)
route-is (Some f) None h = absurd (false≢true h)
route-is (Some f) (Some g) h = ap (λ z. Some z) (from_same_ui f g h)

-- what is sent goes to a port

copies-named : (x : MsgId) (g : Ui) (n : ℕ) (qs : List Ui) → list_all is_port qs ≡ true → EachSent (λ m. is_port m.port ≡ true) (copies x g n qs)
copies-named x g n [] h = tt
copies-named x g n (q ∷ qs) h =
    let two = and_parts (is_port q) (list_all is_port qs) h in (two.0, copies-named x g (n + 1) qs two.1)

by-named : (a : Act) → has_kinds a ≡ true → EachSent (λ m. is_port m.port ≡ true) (sent_by a)
by-named (Post m (Port q)) h = ((and_parts (has_kinds_in_tag m.tag) (is_port q) h).1, tt)
by-named (Post m (All g)) h = tt
by-named (Post m (One g)) h = tt
by-named (Post m (OneAt g s)) h = tt
by-named (Choose x g qs) h = copies-named x g 1 qs (and_parts (is_group g) (list_all is_port qs) h).1
by-named _ h = tt

pub legal-kinds : (l : Layout) (e : Entry) (past : List Entry) → is_legal l (e ∷ past) ≡ true → (has_kinds e.act ≡ true) × (is_legal l past ≡ true)
legal-kinds l e past h =
    let v = views past e.place e.seat e.act in
    let two = and_parts (may l past e) (is_legal l past) h in
    let b = may_stand_behind (just_taken past v.here) e.act in
    ((and_parts (has_kinds e.act) b (and_parts (has_kinds e.act && b) (act_may l v e.place e.seat e.act) (and_parts (is_timely l v e) (act_follows l v e.place e.seat e.act) two.0).1).0).0, two.1)

pub sent-named : (l : Layout) (past : List Entry) (p : ℕ) → is_legal l past ≡ true → EachSent (λ m. is_port m.port ≡ true) (sent (at p past))
sent-named l [] p h = tt
sent-named l (e ∷ past) p h = go (is_at p e) (sent-named l past p (legal-kinds l e past h).1)
  where
    go : (b : Bool) → EachSent (λ m. is_port m.port ≡ true) (sent (at p past)) → EachSent (λ m. is_port m.port ≡ true) (sent (cond b (e ∷ at p past) (at p past)))
    go false ih = ih
    go true ih = each-append (λ m. is_port m.port ≡ true) (sent (at p past)) (sent_by e.act) ih (by-named e.act (legal-kinds l e past h).0)

pub found-has : (P : Sent → Type 0) (x : MsgId) (ms : List Sent) (m : Sent) → EachSent P ms → find_sent x ms ≡ Some m → P m
found-has P x [] m h e = absurd (cc)
found-has P x (k ∷ ms) m h e = go (same_id k.id x) e (found-has P x ms m h.1)
  where
    go : (b : Bool) → cond b (Some k) (find_sent x ms) ≡ Some m → (find_sent x ms ≡ Some m → P m) → P m
    go true f ih = subst P (some-sent k m f) h.0
      where
        some-sent : (k m : Sent) → Some k ≡ Some m → k ≡ m
        some-sent k m f = cc
    go false f ih = ih f

-- Ids that a place sent differ.

abbrev pub SentApart : List Sent → Type 0
SentApart [] = Unit {0}
SentApart (m ∷ ms) = EachSent (λ k. same_id m.id k.id ≡ false) ms × SentApart ms

-- an id that is not found is that of none
not-found : (x : MsgId) (ms : List Sent) → find_sent x ms ≡ None → EachSent (λ m. same_id m.id x ≡ false) ms
not-found x [] h = tt
not-found x (m ∷ ms) h = go (same_id m.id x) refl h (not-found x ms)
  where
    go : (b : Bool) → same_id m.id x ≡ b → cond b (Some m) (find_sent x ms) ≡ None → (find_sent x ms ≡ None → EachSent (λ k. same_id k.id x ≡ false) ms) → EachSent (λ k. same_id k.id x ≡ false) (m ∷ ms)
    go true t k ih = absurd (cc)
    go false t k ih = (t, ih k)

-- of each of ns against one of ms
against : (m : Sent) (ms ns : List Sent) → EachSent (λ k. EachSent (λ j. same_id j.id k.id ≡ false) (m ∷ ms)) ns → EachSent (λ k. same_id m.id k.id ≡ false) ns × EachSent (λ k. EachSent (λ j. same_id j.id k.id ≡ false) ms) ns
against m ms [] h = (tt, tt)
against m ms (k ∷ ns) h = let r = against m ms ns h.1 in ((h.0.0, r.0), (h.0.1, r.1))

apart-app : (ms ns : List Sent) → SentApart ms → SentApart ns → EachSent (λ k. EachSent (λ j. same_id j.id k.id ≡ false) ms) ns → SentApart (ms ++ ns)
apart-app [] ns a b c = b
apart-app (m ∷ ms) ns a b c =
    let r = against m ms ns c in (each-append (λ k. same_id m.id k.id ≡ false) ms ns a.0 r.0, apart-app ms ns a.1 b r.1)

new-apart : (ms ns : List Sent) → EachSent (λ m. find_sent m.id ms ≡ None) ns → EachSent (λ k. EachSent (λ j. same_id j.id k.id ≡ false) ms) ns
new-apart ms [] h = tt
new-apart ms (k ∷ ns) h = (not-found k.id ms h.0, new-apart ms ns h.1)

copies-later : (x : MsgId) (g : Ui) (k n : ℕ) (qs : List Ui) → k < n → EachSent (λ m. same_id (record x { copy = k }) m.id ≡ false) (copies x g n qs)
copies-later x g k n [] lt = tt
copies-later x g k n (q ∷ qs) lt = (differ (k == n) refl, copies-later x g k (n + 1) qs (omega (arith, lt)))
  where
    and-false : (b : Bool) → (b && false) ≡ false
    and-false true = refl
    and-false false = refl

    differ : (b : Bool) → (k == n) ≡ b → same_id (record x { copy = k }) (record x { copy = n }) ≡ false
    differ true e = absurd (let same : k ≡ n = eqb-true k n e in omega (arith, same, lt))
    differ false e = (λ i. ((x.seat == x.seat) && (x.number == x.number)) && e i) ∙ and-false ((x.seat == x.seat) && (x.number == x.number))

copies-apart : (x : MsgId) (g : Ui) (n : ℕ) (qs : List Ui) → SentApart (copies x g n qs)
copies-apart x g n [] = tt
copies-apart x g n (q ∷ qs) = (copies-later x g n (n + 1) qs (omega arith), copies-apart x g (n + 1) qs)

by-apart : (a : Act) → SentApart (sent_by a)
by-apart (Post m (Port q)) = (tt, tt)
by-apart (Post m (All g)) = tt
by-apart (Post m (One g)) = tt
by-apart (Post m (OneAt g s)) = tt
by-apart (Choose x g qs) = copies-apart x g 1 qs
by-apart a = tt

pub sent-apart : (l : Layout) (past : List Entry) (p : ℕ) → is_legal l past ≡ true → SentApart (sent (at p past))
sent-apart l [] p h = tt
sent-apart l (e ∷ past) p h = go (is_at p e) refl (sent-apart l past p (legal_parts l e past h).1)
  where
    go : (b : Bool) → is_at p e ≡ b → SentApart (sent (at p past)) → SentApart (sent (cond b (e ∷ at p past) (at p past)))
    go false t ih = ih
    go true t ih =
        let two = legal_parts l e past h in
        let same : e.place ≡ p = eqb-true e.place p t in
        let new = sent-new l past e.clock e.place e.seat (λ x. legal_messages l past two.1 x) e.act two.0 in
        apart-app (sent (at p past)) (sent_by e.act) ih (by-apart e.act)
        (new-apart (sent (at p past)) (sent_by e.act) (subst (λ z. EachSent (λ m. find_sent m.id (sent (at z past)) ≡ None) (sent_by e.act)) same new))

pub filter-apart : (t : Sent → Bool) (ms : List Sent) → SentApart ms → SentApart (filter t ms)
filter-apart t [] h = tt
filter-apart t (m ∷ ms) h = go (t m) (filter-apart t ms h.1)
  where
    go : (b : Bool) → SentApart (filter t ms) → SentApart (cond b (m ∷ filter t ms) (filter t ms))
    go true k = (each-filter (λ j. same_id m.id j.id ≡ false) t ms h.0, k)
    go false k = k
