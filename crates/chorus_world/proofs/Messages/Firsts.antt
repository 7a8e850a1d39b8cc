-- Facts of legal lists: of each port and route the first unsettled message alone is under way, and it goes from the place that
-- sent it.
use Rattle.std.proofs.Common.{ℕ, ◌≡◌, ◌≤◌, ◌+◌, Bool, true, false, ◌==◌, ◌&&◌, not, cond, List, [], ◌∷◌, Option, Some, None, refl, sym, ◌∙◌, ap, subst, inl, inr, arith}
use Rattle.std.specs.List.{filter}
use Rattle.std.proofs.lemmas.Bool.{eq-eqb, false≢true, true≢false, and_parts, and_from}
use Rattle.chorus_ui.specs.declared.ui.Ui.{Ui}
use Rattle.chorus_ui.specs.declared.layout.Layout.{Layout}
use Rattle.chorus_ui.specs.Name.{same_ui}
use Rattle.chorus_ui.proofs.Names.{from_same_ui, same_ui-self}
use Rattle.chorus_entry.specs.declared.entry.Entry.{Entry}
use Rattle.chorus_entry.specs.declared.id.MsgId.{MsgId}
use Rattle.chorus_entry.specs.declared.dest.Dest.{Dest}
use Rattle.chorus_entry.specs.declared.dest.Dest.TheVariants.{Port, All, One, OneAt}
use Rattle.chorus_entry.specs.declared.answer.Answer.{Answer}
use Rattle.chorus_entry.specs.declared.answer.Answer.TheVariants as A
use Rattle.chorus_entry.specs.declared.act.Act.{Act}
use Rattle.chorus_entry.specs.declared.act.Act.TheVariants.{Post, Accept, Full, Already, ClientsFull, Stale, Early, NoPort, Elsewhere, NoMember, Choose, Try, Told, Heard, Gone}
use Rattle.chorus_entry.specs.Act.{message_of}
use Rattle.chorus_entry.specs.MsgId.{same_id}
use Rattle.chorus_entry.proofs.Same.{same_id-self, from_same_id}
use Rattle.chorus_world.specs.declared.place.Sent.{Sent}
use Rattle.chorus_world.specs.declared.progress.Progress.{Progress}
use Rattle.chorus_world.specs.declared.progress.Progress.TheVariants.{Idle, Asked, Tried, Decided, Settled, Reported}
use Rattle.chorus_world.specs.Views.{views, at, by, about, is_about}
use Rattle.chorus_entry.specs.Same.{are_same, same_route}
use Rattle.chorus_world.specs.Messages.{progress, progress_after, decided, is_to_be_heard}
use Rattle.chorus_world.specs.Places.{sent, sent_by, copies, find_sent, first_for, is_settled, unsettled, is_tried, is_first, is_first_as, located}
use Rattle.chorus_world.specs.Posts.{site_asked, is_on_site, source}
use Rattle.chorus_world.specs.Groups.{is_chosen}
use Rattle.chorus_world.specs.Seats.{posts}
use Rattle.chorus_world.specs.Steps.{act_may, is_legal, is_to_go}
use Rattle.chorus_world.proofs.Steps.LegalLemmas.{legal_parts, keeps, skips}
use Rattle.chorus_world.proofs.Ports.LineLemmas.{none_some, id_is}
use Rattle.chorus_world.proofs.Messages.SendingLemmas.{sent_as, prior, IsAhead, some_is, cond_none, first_here}
use Rattle.chorus_world.proofs.Messages.StageLemmas.{Stage, MessageFacts}
use Rattle.chorus_world.proofs.Messages.PostLemmas.{post_needs, choose_needs, no_member_needs, asked_facts, own_source}
use Rattle.chorus_world.proofs.Messages.DueLemmas.{IsDue}
use Rattle.chorus_world.proofs.Messages.VerdictLemmas.{decision_due}
use Rattle.chorus_world.proofs.Messages.MessageSteps.{to_go_parts}
use Rattle.chorus_world.proofs.Messages.MessageInvariant.{told_needs, legal_messages}
use Rattle.chorus_world.proofs.Messages.SentFacts.{EachSent, each-map, each-filter, IsFound, all-found, SentApart, sent-apart, filter-apart, route-is}
use Rattle.chorus_world.proofs.Messages.Untried.{GoesFrom, goes-from}

-- where a message is tried, until the place that tried it is told
abbrev pub going_to : Progress → Option ℕ
going_to (Tried from q to hop) = Some to
going_to (Decided from by q a) = Some by
going_to _ = None

-- the message goes to the port by the route
abbrev pub goes_for : Ui → Option Ui → Sent → Bool
goes_for q r m = same_ui m.port q && same_route m.route r

-- the unsettled messages of the port and route that the place sent
abbrev pub open_for : Ui → Option Ui → ℕ → List Entry → List Sent
open_for q r p past = filter (goes_for q r) (unsettled (at p past) (sent (at p past)))

-- The first of a list, and what stands before it.

pub first-of : (q : Ui) (r : Option Ui) (ms : List Sent) (m : Sent) (ns : List Sent) → filter (goes_for q r) ms ≡ m ∷ ns → first_for q r ms ≡ Some m.id
first-of q r [] m ns h = absurd (cc)
first-of q r (k ∷ ms) m ns h = go (goes_for q r k) h (first-of q r ms m ns)
  where
    go : (b : Bool) → cond b (k ∷ filter (goes_for q r) ms) (filter (goes_for q r) ms) ≡ m ∷ ns → (filter (goes_for q r) ms ≡ m ∷ ns → first_for q r ms ≡ Some m.id) → cond b (Some k.id) (first_for q r ms) ≡ Some m.id
    go true e ih = let same : k ≡ m = cc in ap (λ (z : Sent). Some z.id) same
    go false e ih = ih e

pub first-is-head : (q : Ui) (r : Option Ui) (ms : List Sent) (x : MsgId) → first_for q r ms ≡ Some x → (m : Sent) × (ns : List Sent) × (filter (goes_for q r) ms ≡ m ∷ ns) × (m.id ≡ x)
first-is-head q r [] x h = none_some x h
first-is-head q r (k ∷ ms) x h = go (goes_for q r k) h (first-is-head q r ms x)
  where
    go : (b : Bool) → cond b (Some k.id) (first_for q r ms) ≡ Some x → (first_for q r ms ≡ Some x → (m : Sent) × (ns : List Sent) × (filter (goes_for q r) ms ≡ m ∷ ns) × (m.id ≡ x))
        → (m : Sent) × (ns : List Sent) × (cond b (k ∷ filter (goes_for q r) ms) (filter (goes_for q r) ms) ≡ m ∷ ns) × (m.id ≡ x)
    go true e ih = (k, filter (goes_for q r) ms, refl, some_is k.id x e)
    go false e ih = ih e

ahead-first : (q : Ui) (r : Option Ui) (here : List Entry) (x : MsgId) (ms : List Sent) (m : Sent) → find_sent x ms ≡ Some m → goes_for q r m ≡ true → is_settled x here ≡ false
    → first_for q r (unsettled here (prior x ms)) ≡ None → first_for q r (unsettled here ms) ≡ Some x
ahead-first q r here x [] m f g s a = none_some m f
ahead-first q r here x (k ∷ ms) m f g s a = go (same_id k.id x) refl f a (ahead-first q r here x ms m)
  where
    go : (b : Bool) → same_id k.id x ≡ b → cond b (Some k) (find_sent x ms) ≡ Some m → first_for q r (unsettled here (cond b [] (k ∷ prior x ms))) ≡ None
        → (find_sent x ms ≡ Some m → goes_for q r m ≡ true → is_settled x here ≡ false → first_for q r (unsettled here (prior x ms)) ≡ None → first_for q r (unsettled here ms) ≡ Some x)
        → first_for q r (unsettled here (k ∷ ms)) ≡ Some x
    go true e h none ih =
        let same : k ≡ m = cc in
        let id : k.id ≡ x = from_same_id k.id x e in
        let free : is_settled k.id here ≡ false = ap (λ z. is_settled z here) id ∙ s in
        let goes : goes_for q r k ≡ true = ap (goes_for q r) same ∙ g in
        ap (λ b. first_for q r (cond (not b) (k ∷ unsettled here ms) (unsettled here ms))) free
        ∙ (ap (λ b. cond b (Some k.id) (first_for q r (unsettled here ms))) goes ∙ ap (λ z. Some z) id)
    go false e h none ih = by (is_settled k.id here) none
      where
        by : (b : Bool) → first_for q r (cond (not b) (k ∷ unsettled here (prior x ms)) (unsettled here (prior x ms))) ≡ None → first_for q r (cond (not b) (k ∷ unsettled here ms) (unsettled here ms)) ≡ Some x
        by true n = ih h g s n
        by false n =
            let two = cond_none (goes_for q r k) k.id (first_for q r (unsettled here (prior x ms))) n in
            ap (λ b. cond b (Some k.id) (first_for q r (unsettled here ms))) two.0 ∙ ih h g s two.1

-- What is under way is the first of its port and route.

pub going-ahead : (l : Layout) (past : List Entry) (x : MsgId) (p to : ℕ) (m : Sent) → is_legal l past ≡ true → sent_as x p past ≡ Some m → going_to (progress (about x past)) ≡ Some to → IsAhead x p past m
going-ahead l past x p to m legal found g = go (progress (about x past)) g f.stage
  where
    f : MessageFacts x past
    f = legal_messages l past legal x

    moved : (from : ℕ) (k : Sent) → sent_as x from past ≡ Some k → IsAhead x from past k → IsAhead x p past m
    moved from k is a =
        let here : from ≡ p = f.home from p k m is found in
        let there : sent_as x p past ≡ Some k = subst (λ z. sent_as x z past ≡ Some k) here is in
        subst (IsAhead x p past) (some_is k m (sym there ∙ found)) (subst (λ z. IsAhead x z past k) here a)

    go : (s : Progress) → going_to s ≡ Some to → Stage x past s → IsAhead x p past m
    go Idle h i = none_some to h
    go (Asked from d) h i = none_some to h
    go (Tried from q z hop) h i = moved from i.1.message i.1.is i.1.ahead
    go (Decided from b q a) h i = moved from i.2.message i.2.is i.2.ahead
    go (Settled a) h i = none_some to h
    go Reported h i = none_some to h

each-test : (t : Sent → Bool) (ms : List Sent) → EachSent (λ m. t m ≡ true) (filter t ms)
each-test t [] = tt
each-test t (m ∷ ms) = go (t m) refl (each-test t ms)
  where
    go : (b : Bool) → t m ≡ b → EachSent (λ m. t m ≡ true) (filter t ms) → EachSent (λ m. t m ≡ true) (cond b (m ∷ filter t ms) (filter t ms))
    go true e h = (e, h)
    go false e h = h

not-true : (b : Bool) → not b ≡ true → b ≡ false
not-true true h = absurd (false≢true h)
not-true false h = refl

-- what is so of each unsettled message of a port and route
pub record IsOpenFor (l : Layout) (q : Ui) (r : Option Ui) (p : ℕ) (past : List Entry) (m : Sent) : Type 0 where
  pub found : sent_as m.id p past ≡ Some m
  pub live : is_settled m.id (at p past) ≡ false
  pub goes : goes_for q r m ≡ true

each-both : (P Q : Sent → Type 0) (ms : List Sent) → EachSent P ms → EachSent Q ms → EachSent (λ m. P m × Q m) ms
each-both P Q [] a b = tt
each-both P Q (m ∷ ms) a b = ((a.0, b.0), each-both P Q ms a.1 b.1)

pub each-open : (l : Layout) (q : Ui) (r : Option Ui) (p : ℕ) (past : List Entry) → is_legal l past ≡ true → EachSent (IsOpenFor l q r p past) (open_for q r p past)
each-open l q r p past legal =
    let here = at p past in
    let all = sent here in
    let left = unsettled here all in
    let found = each-filter (IsFound all) (goes_for q r) left (each-filter (IsFound all) (λ (m : Sent). not (is_settled m.id here)) all (all-found l past p legal)) in
    let live = each-filter (λ (m : Sent). not (is_settled m.id here) ≡ true) (goes_for q r) left (each-test (λ (m : Sent). not (is_settled m.id here)) all) in
    let goes = each-test (goes_for q r) left in
    each-map (λ (m : Sent). (IsFound all m × (not (is_settled m.id here) ≡ true)) × (goes_for q r m ≡ true)) (IsOpenFor l q r p past)
    (λ m k. record { found = k.0.0; live = not-true (is_settled m.id here) k.0.1; goes = k.1 }) (open_for q r p past)
    (each-both (λ (m : Sent). IsFound all m × (not (is_settled m.id here) ≡ true)) (λ (m : Sent). goes_for q r m ≡ true) (open_for q r p past)
    (each-both (IsFound all) (λ (m : Sent). not (is_settled m.id here) ≡ true) (open_for q r p past) found live) goes)

pub ids-apart : (l : Layout) (q : Ui) (r : Option Ui) (p : ℕ) (past : List Entry) → is_legal l past ≡ true → SentApart (open_for q r p past)
ids-apart l q r p past legal =
    filter-apart (goes_for q r) (unsettled (at p past) (sent (at p past))) (filter-apart (λ (m : Sent). not (is_settled m.id (at p past))) (sent (at p past)) (sent-apart l past p legal))

pub goes-parts : (q : Ui) (r : Option Ui) (m : Sent) → goes_for q r m ≡ true → (m.port ≡ q) × (m.route ≡ r)
goes-parts q r m h =
    let two = and_parts (same_ui m.port q) (same_route m.route r) h in (from_same_ui m.port q two.0, route-is m.route r two.1)

-- one that is under way is the first
pub going-first : (l : Layout) (q : Ui) (r : Option Ui) (p to : ℕ) (past : List Entry) (m : Sent) → is_legal l past ≡ true → IsOpenFor l q r p past m → going_to (progress (about m.id past)) ≡ Some to
    → first_for q r (unsettled (at p past) (sent (at p past))) ≡ Some m.id
going-first l q r p to past m legal o g =
    let parts = goes-parts q r m o.goes in
    let ahead = going-ahead l past m.id p to m legal o.found g in
    ahead-first q r (at p past) m.id (sent (at p past)) m o.found o.goes o.live
    ((λ i. first_for (sym parts.0 i) (sym parts.1 i) (unsettled (at p past) (prior m.id (sent (at p past))))) ∙ ahead)

-- so those behind it are not
pub next-still : (l : Layout) (q : Ui) (r : Option Ui) (p : ℕ) (past : List Entry) (m : Sent) (ns : List Sent) → is_legal l past ≡ true → open_for q r p past ≡ m ∷ ns
    → EachSent (λ (n : Sent). going_to (progress (about n.id past)) ≡ None) ns
next-still l q r p past m ns legal e =
    let free = subst (EachSent (IsOpenFor l q r p past)) e (each-open l q r p past legal) in
    let apart = subst SentApart e (ids-apart l q r p past legal) in
    each-map (λ (n : Sent). (same_id m.id n.id ≡ false) × IsOpenFor l q r p past n) (λ (n : Sent). going_to (progress (about n.id past)) ≡ None)
    (λ n k. still n k.0 k.1 (going_to (progress (about n.id past))) refl) ns
    (each-both (λ (n : Sent). same_id m.id n.id ≡ false) (IsOpenFor l q r p past) ns apart.0 free.1)
  where
    still : (n : Sent) → same_id m.id n.id ≡ false → IsOpenFor l q r p past n → (o : Option ℕ) → going_to (progress (about n.id past)) ≡ o → o ≡ None
    still n differ o None g = refl
    still n differ o (Some to) g =
        let this = first-of q r (unsettled (at p past) (sent (at p past))) m ns e in
        let that = going-first l q r p to past n legal o g in
        let same : m.id ≡ n.id = some_is m.id n.id (sym this ∙ that) in
        absurd (true≢false (sym (same_id-self m.id) ∙ (ap (same_id m.id) same ∙ differ)))

-- the first one, while it is not under way, is the one that the step relation lets go
pub head-goes : (l : Layout) (q : Ui) (r : Option Ui) (p : ℕ) (past : List Entry) (m : Sent) (ns : List Sent) → is_legal l past ≡ true → open_for q r p past ≡ m ∷ ns
    → going_to (progress (about m.id past)) ≡ None → is_first m.id q (at p past) ≡ true
head-goes l q r p past m ns legal e none =
    let free = (subst (EachSent (IsOpenFor l q r p past)) e (each-open l q r p past legal)).0 in
    let here = at p past in
    let parts = goes-parts q r m free.goes in
    let first = first-of q r (unsettled here (sent here)) m ns e in
    let one : same_ui m.port q ≡ true = ap (λ z. same_ui m.port z) (sym parts.0) ∙ same_ui-self m.port in
    let two : are_same same_id (Some m.id) (first_for q m.route (unsettled here (sent here))) ≡ true =
    ap (λ z. are_same same_id (Some m.id) (first_for q z (unsettled here (sent here)))) parts.1 ∙ (ap (are_same same_id (Some m.id)) first ∙ same_id-self m.id) in
    let idle = untried free (is_tried m.id here) refl in
    ap (is_first_as m.id q here) free.found
    ∙ and_from (same_ui m.port q && are_same same_id (Some m.id) (first_for q m.route (unsettled here (sent here)))) (not (is_tried m.id here))
    (and_from (same_ui m.port q) (are_same same_id (Some m.id) (first_for q m.route (unsettled here (sent here)))) one two) (ap not idle)
  where
    over : IsOpenFor l q r p past m → (s : Progress) → going_to s ≡ None → GoesFrom p s → Stage m.id past s → ⊥
    over o Idle k g i = g
    over o (Asked from d) k g i = g
    over o (Tried from f to hop) k g i = none_some to (sym k)
    over o (Decided from b f a) k g i = none_some b (sym k)
    over o (Settled a) k g i = false≢true (sym o.live ∙ (i p m o.found).0)
    over o Reported k g i = false≢true (sym o.live ∙ (i p m o.found).0)

    untried : IsOpenFor l q r p past m → (b : Bool) → is_tried m.id (at p past) ≡ b → b ≡ false
    untried o false t = refl
    untried o true t = absurd (over o (progress (about m.id past)) none (goes-from l past m.id p legal t) (legal_messages l past legal m.id).stage)

-- An entry at another place than the one that sent it leaves where the message goes.
module _ (l : Layout) (past : List Entry) (c r s : ℕ) (x : MsgId) (p : ℕ) (m : Sent) (f : MessageFacts x past) (found : sent_as x p past ≡ Some m) (away : (r == p) ≡ false) where
  not-here : (n : Sent) → sent_as x r past ≡ Some n → ⊥
  not-here n h = let same : r ≡ p = f.home r p n m h found in true≢false (sym (eq-eqb r p same) ∙ away)

  not-first : (q : Ui) → is_first x q (at r past) ≡ true → ⊥
  not-first q h = let first = first_here x q r past h in not-here first.message first.is

  not-asked : (from : ℕ) (d : Dest) → progress (about x past) ≡ Asked from d → ⊥
  not-asked from d h = none_some m (sym ((asked_facts x past from d f h).1.unsent p) ∙ found)

  decides : (a : Act) (q : Ui) (answer : Answer) → ((z : Progress) → progress_after r a z ≡ decided r q answer z) → IsDue x q r past
      → going_to (progress_after r a (progress (about x past))) ≡ going_to (progress (about x past))
  decides a q answer gives (inl t) =
      let now : progress_after r a (progress (about x past)) ≡ Decided t.from r q answer =
      gives (progress (about x past)) ∙ (ap (decided r q answer) t.is
      ∙ ap (λ b. cond b (Decided t.from r q answer) Idle) (and_from (r == r) (same_ui q q) (eq-eqb r r refl) (same_ui-self q))) in
      ap going_to now ∙ sym (ap going_to t.is)
  decides a q answer gives (inr first) = absurd (not-first q first)

  step : (a : Act) → message_of a ≡ Some x → act_may l (views past r s a) r s a ≡ true → going_to (progress_after r a (progress (about x past))) ≡ going_to (progress (about x past))
  step (Post n d) e h =
      let same : n.id ≡ x = some_is n.id x e in
      let needs = post_needs l past r s n d h in
      let number = needs.number in
      let same_number : x.number ≡ posts (by x.seat past) + 1 = ap (λ (y : MsgId). y.number) (sym same) ∙ (number ∙ ap (λ k. posts (by k past) + 1) (sym needs.seat ∙ ap (λ (y : MsgId). y.seat) same)) in
      none_some m (sym ((f.fresh (omega (arith, same_number))).unsent p) ∙ found)
  step (Choose y g qs) e h =
      let same : y ≡ x = some_is y x e in
      let needs = choose_needs l past r s y g qs h in
      absurd (not-asked needs.from needs.dest (subst (λ z. progress (about z past) ≡ Asked needs.from needs.dest) same needs.asked))
  step (NoMember y g) e h =
      let same : y ≡ x = some_is y x e in
      let needs = no_member_needs l past r s y g h in
      absurd (not-asked needs.from needs.dest (subst (λ z. progress (about z past) ≡ Asked needs.from needs.dest) same needs.asked))
  step (Heard y a) e h =
      let same : y ≡ x = some_is y x e in
      let v = views past r s (Heard y a) in
      let was = and_parts _ (is_to_be_heard a (progress (about y past))) h in
      heard (progress (about x past)) (ap (λ z. is_to_be_heard a (progress (about z past))) (sym same) ∙ was.1)
    where
      heard : (z : Progress) → is_to_be_heard a z ≡ true → None ≡ going_to z
      heard Idle k = refl
      heard (Asked from d) k = refl
      heard (Tried from q to hop) k = absurd (false≢true k)
      heard (Decided from b q o) k = absurd (false≢true k)
      heard (Settled o) k = refl
      heard Reported k = refl
  step (Try y q to hop) e h =
      let same : y ≡ x = some_is y x e in
      let three = and_parts _ (is_on_site l (site_asked y past) to) h in
      let two = and_parts _ (not (to == r)) three.0 in
      let one = and_parts (is_to_go l (views past r s (Try y q to hop)) y q to) ((located l q (at r past)).hop == hop) two.0 in
      absurd (not-first q (subst (λ z. is_first z q (at r past) ≡ true) same (to_go_parts l past r s (Try y q to hop) y q to one.0).0))
  step (Told y a) e h =
      let same : y ≡ x = some_is y x e in
      let needs = told_needs l past r s x a (subst (λ z. act_may l (views past r s (Told z a)) r s (Told z a) ≡ true) same h) in
      let way = (subst (Stage x past) needs.is f.stage).2 in
      absurd (not-here way.message way.is)
  step (Accept y q n) e h = decides (Accept y q n) q (A.Accepted n) (λ z. refl) (decision_due l past r s (Accept y q n) x q refl e refl h)
  step (Full y q n) e h = decides (Full y q n) q (A.Full n) (λ z. refl) (decision_due l past r s (Full y q n) x q refl e refl h)
  step (Already y q) e h = decides (Already y q) q A.Already (λ z. refl) (decision_due l past r s (Already y q) x q refl e refl h)
  step (ClientsFull y q) e h = decides (ClientsFull y q) q A.ClientsFull (λ z. refl) (decision_due l past r s (ClientsFull y q) x q refl e refl h)
  step (Stale y q k to hop) e h = decides (Stale y q k to hop) q (A.Stale to hop) (λ z. refl) (decision_due l past r s (Stale y q k to hop) x q refl e refl h)
  step (Early y q hop) e h = decides (Early y q hop) q (A.Early hop) (λ z. refl) (decision_due l past r s (Early y q hop) x q refl e refl h)
  step (NoPort y q) e h = decides (NoPort y q) q A.NoPort (λ z. refl) (decision_due l past r s (NoPort y q) x q refl e refl h)
  step (Elsewhere y q to hop) e h = decides (Elsewhere y q to hop) q (A.Elsewhere to hop) (λ z. refl) (decision_due l past r s (Elsewhere y q to hop) x q refl e refl h)
  step (Gone y q) e h = decides (Gone y q) q A.Gone (λ z. refl) (decision_due l past r s (Gone y q) x q refl e refl h)
  step _ e h = none_some x e

pub going-elsewhere : (l : Layout) (past : List Entry) (e : Entry) (x : MsgId) (p : ℕ) (m : Sent) → is_legal l (e ∷ past) ≡ true → sent_as x p past ≡ Some m → (e.place == p) ≡ false
    → going_to (progress (about x (e ∷ past))) ≡ going_to (progress (about x past))
going-elsewhere l past e x p m h found away = go (is_about (Some x) e) refl
  where
    two : (act_may l (views past e.place e.seat e.act) e.place e.seat e.act ≡ true) × (is_legal l past ≡ true)
    two = legal_parts l e past h

    go : (b : Bool) → is_about (Some x) e ≡ b → going_to (progress (about x (e ∷ past))) ≡ going_to (progress (about x past))
    go true on =
        ap (λ v. going_to (progress v)) (keeps (is_about (Some x)) e past on)
        ∙ step l past e.clock e.place e.seat x p m (legal_messages l past two.1 x) found away e.act (id_is x (message_of e.act) on) two.0
    go false off = ap (λ v. going_to (progress v)) (skips (is_about (Some x)) e past off)

-- What an entry sends is not under way yet.

copies-still : (l : Layout) (past : List Entry) (e : Entry) (x : MsgId) (g : Ui) (n : ℕ) (qs : List Ui) → 1 ≤ n → x.copy ≡ 0 → message_of e.act ≡ Some x
    → ((y : MsgId) → (y.copy ≡ 0 → ⊥) → source y ≡ x → about y past ≡ [])
    → EachSent (λ (m : Sent). going_to (progress (about m.id (e ∷ past))) ≡ None) (copies x g n qs)
copies-still l past e x g n [] le z this new = tt
copies-still l past e x g n (q ∷ qs) le z this new =
    let y : MsgId = record x { copy = n } in
    let copy : y.copy ≡ 0 → ⊥ = λ k. let k2 : n ≡ 0 = k in (omega (arith, k2, le)) in
    let off : is_about (Some y) e ≡ false = ap (are_same same_id (Some y)) this ∙ differ y copy (same_id y x) refl in (
      ap (λ v. going_to (progress v)) (skips (is_about (Some y)) e past off ∙ new y copy (own_source x z)),
      copies-still l past e x g (n + 1) qs (omega (arith, le)) z this new,
    )
  where
    differ : (y : MsgId) → (y.copy ≡ 0 → ⊥) → (b : Bool) → same_id y x ≡ b → b ≡ false
    differ y copy false h = refl
    differ y copy true h = absurd (copy (ap (λ (i : MsgId). i.copy) (from_same_id y x h) ∙ z))

pub new-still : (l : Layout) (past : List Entry) (e : Entry) → is_legal l (e ∷ past) ≡ true → EachSent (λ (m : Sent). going_to (progress (about m.id (e ∷ past))) ≡ None) (sent_by e.act)
new-still l past e h = go e.act refl
  where
    two : (act_may l (views past e.place e.seat e.act) e.place e.seat e.act ≡ true) × (is_legal l past ≡ true)
    two = legal_parts l e past h

    go : (a : Act) → e.act ≡ a → EachSent (λ (m : Sent). going_to (progress (about m.id (e ∷ past))) ≡ None) (sent_by a)
    go (Post m (Port q)) is =
        let on : is_about (Some m.id) e ≡ true = ap (λ a. are_same same_id (Some m.id) (message_of a)) is ∙ same_id-self m.id in
        (ap (λ v. going_to (progress v)) (keeps (is_about (Some m.id)) e past on) ∙ ap (λ a. going_to (progress_after e.place a (progress (about m.id past)))) is, tt)
    go (Post m (All g)) is = tt
    go (Post m (One g)) is = tt
    go (Post m (OneAt g n)) is = tt
    go (Choose x g qs) is =
        let may = subst (λ a. act_may l (views past e.place e.seat a) e.place e.seat a ≡ true) is two.0 in
        let needs = choose_needs l past e.place e.seat x g qs may in
        let f = legal_messages l past two.1 in
        let asked = asked_facts x past needs.from needs.dest (f x) needs.asked in
        copies-still l past e x g 1 qs (omega arith) asked.1.copy (ap message_of is)
        (λ y copy src. ((f y).uncopied copy (subst (λ z. is_chosen z (about z past) ≡ false) (sym src) asked.0.chosen)).about)
    go a is = tt
