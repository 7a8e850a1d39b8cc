-- What a port keeps of requests: the greatest number that it accepted of each client, of at most 64 clients.
use Rattle.std.proofs.Common.{ℕ, zero, suc, ◌≡◌, ◌⊎◌, ◌+◌, ◌<◌, ◌≤◌, ◌==◌, nat_le, Bool, true, false, not, ◌&&◌, ◌||◌, cond, if◌then◌else◌, List, [], ◌∷◌, ◌++◌, length, map, Option, Some, None, is_some, refl, sym, ◌∙◌, ap, subst, arith, inl, inr}
use Rattle.std.specs.Prelude.{slice_get}
use Rattle.std.proofs.lemmas.Bool.{and_parts, and_from, or_cases, eqb-true, eqb-false, eq-eqb, le-leb, leb-true, leb-false, not-true, false≢true, true≢false, cases_Bool, cases_lt}
use Rattle.std.proofs.lemmas.Option.{slice_get_within}
use Rattle.chorus_ui.specs.declared.ui.Ui.{Ui}
use Rattle.chorus_ui.specs.declared.layout.Layout.{Layout}
use Rattle.chorus_ui.specs.declared.limits.TheConstants.{CLIENTS_LIMIT}
use Rattle.chorus_ui.specs.Layout.{IsLayout}
use Rattle.chorus_entry.specs.declared.entry.Entry.{Entry}
use Rattle.chorus_entry.specs.declared.id.MsgId.{MsgId}
use Rattle.chorus_entry.specs.declared.tag.Tag.{Tag}
use Rattle.chorus_entry.specs.declared.tag.Tag.TheVariants.{Plain, Request, Reply}
use Rattle.chorus_entry.specs.declared.act.Act.{Act}
use Rattle.chorus_entry.specs.declared.act.Act.TheVariants.{Accept, Full, Already, ClientsFull}
use Rattle.chorus_entry.specs.Act.{message_of, held_port_of}
use Rattle.chorus_entry.specs.ClientTable.{number_of, are_distinct, with_number}
use Rattle.chorus_entry.specs.Clients.{is_reached, is_repeated, is_one_too_many, raised, with_client, remembered}
use Rattle.chorus_entry.proofs.Clients.{number_of-with_client, length-with_client, reached-now, reached-later}
use Rattle.chorus_entry.proofs.ClientTables.{are_distinct-snoc, are_distinct-with_number}
use Rattle.chorus_world.specs.Views.{views, on, is_on}
use Rattle.chorus_world.specs.Ports.{fate, fate_after, is_held_at, has_room, is_full}
use Rattle.chorus_world.specs.Posts.{tag_from, tag_of}
use Rattle.chorus_world.specs.Clients.{clients_after, clients_kept, is_already, finds_clients_full}
use Rattle.chorus_world.specs.Steps.{act_may, is_legal, suits, meets, may_enter}
use Rattle.chorus_world.specs.AcceptedLaws.{accepted_from, accepted_by}
use Rattle.chorus_world.specs.DecisionLaws.{port_met}
use Rattle.chorus_world.proofs.Steps.LegalLemmas.{legal_parts, on_is, keeps}
use Rattle.chorus_world.proofs.Ports.LineLemmas.{none_some, needs}
use Rattle.chorus_world.proofs.Ports.PortMoves.{held_fate}
use Rattle.chorus_world.proofs.Ports.PortLaws.{accepted_grows}
use Rattle.chorus_world.proofs.Messages.Posted.{filtered}
use Rattle.chorus_world.proofs.Messages.SendingLemmas.{some_is}
use Rattle.chorus_world.proofs.Messages.PostLemmas.{post_stays}
use Rattle.chorus_world.proofs.Messages.AcceptedLemmas.{accepted_after, accepted_posted, accept_waits, waiting_posted}
use Rattle.chorus_world.proofs.Messages.Decided.{may_as}
use Rattle.chorus_world.proofs.Messages.Growing.{goes-on}
use Rattle.chorus_world.proofs.Sorted.Agreement.{clients_agree}
use Rattle.chorus_world.proofs.Sorted.Observers.{legal_laws}
use Rattle.law_world.specs.Decisions.{HasAccepted, IsRepeated, AlreadyWhereAccepted, has_number, are_different, AreClients, IsOfOneTooMany, ClientsFullWhereManyAre}
use Rattle.law_world.proofs.Deciding.{new-client}

-- No accepted request of a client has a greater number than is kept of it.

stays : (past : List Entry) (a : Act) (c n : ℕ) (table : List (ℕ × ℕ)) → is_reached n (number_of table c) ≡ true → is_reached n (number_of (clients_after past a table) c) ≡ true
stays past (Accept x q p) c n table h = reached-later x.seat (tag_of x past) table c n h
stays past _ c n table h = h

accepted-now : (past : List Entry) (x : MsgId) (n : ℕ) (b : Ui) (table : List (ℕ × ℕ)) → tag_of x past ≡ Request n b → is_reached n (number_of (remembered x.seat (tag_of x past) table) x.seat) ≡ true
accepted-now past x n b table h =
    ap (λ g. is_reached n (number_of (remembered x.seat g table) x.seat)) h ∙ reached-now x.seat n b table

kept-bounds : (past port : List Entry) (i : ℕ) (x : MsgId) (n : ℕ) (b : Ui) → slice_get (accepted_from (fate port)) i ≡ Some x → tag_of x past ≡ Request n b → is_reached n (number_of (clients_kept past port) x.seat) ≡ true
kept-bounds past [] i x n b k h = absurd (let lt : i < 0 = slice_get_within [] i x k in omega arith)
kept-bounds past (e ∷ port) i x n b k h =
    elim (accepted_after e.act e.place (fate port) i x k) [
      | inl old ↦ stays past e.act x.seat n (clients_kept past port) (kept-bounds past port i x n b old h)
      | inr new ↦ (
          let now = accepted-now past x n b (clients_kept past port) h in
          subst (λ a. is_reached n (number_of (clients_after past a (clients_kept past port)) x.seat) ≡ true) (sym new.2) now)
    ]

reached-less : (n m : ℕ) (o : Option ℕ) → n ≤ m → is_reached m o ≡ true → is_reached n o ≡ true
reached-less n m None le h = absurd (false≢true h)
reached-less n m (Some k) le h = let top = leb-true m k h in le-leb n k (omega (arith, le, top))

accepted-reached : (past : List Entry) (q : Ui) (c n : ℕ) → HasAccepted past q c n → is_reached n (number_of (clients_kept past (on q past)) c) ≡ true
accepted-reached past q c n h =
    reached-less n h.greater (number_of (clients_kept past (on q past)) c) h.reaches
    (subst (λ z. is_reached h.greater (number_of (clients_kept past (on q past)) z) ≡ true) h.seat (kept-bounds past (on q past) h.position h.id h.greater h.back h.stands h.tag))

-- And what is kept was accepted.

get-more : {X : Type 0} → (xs ys : List X) (i : ℕ) (x : X) → slice_get xs i ≡ Some x → slice_get (xs ++ ys) i ≡ Some x
get-more [] ys i x h = absurd (let lt : i < 0 = slice_get_within [] i x h in omega arith)
get-more (z ∷ xs) ys zero x h = h
get-more (z ∷ xs) ys (suc i) x h = get-more xs ys i x h

record IsKept (past : List Entry) (q : Ui) (table : List (ℕ × ℕ)) : Type 0 where
  few : length table ≤ 64
  distinct : are_distinct table ≡ true
  accepted : (c n : ℕ) → number_of table c ≡ Some n → HasAccepted past q c n

accepted-later : (l : Layout) (past : List Entry) (e : Entry) (q : Ui) (c n : ℕ) → IsLayout l → is_legal l (e ∷ past) ≡ true → HasAccepted past q c n → HasAccepted (e ∷ past) q c n
accepted-later l past e q c n layout h a =
    let d = accepted_posted l past q a.position a.id (legal_parts l e past h).1 a.stands in
    let more = accepted_grows l (e ∷ []) past q layout h in
    record {
      position = a.position;
      id = a.id;
      greater = a.greater;
      back = a.back;
      stands = ap (λ zs. slice_get zs a.position) more.1 ∙ get-more (accepted_by q past) more.0 a.position a.id a.stands;
      seat = a.seat;
      tag = ap tag_from (post_stays a.id past e d.0 d.1 ∙ sym d.1) ∙ a.tag;
      reaches = a.reaches;
    }

module _ (l : Layout) (past : List Entry) (e : Entry) (q : Ui) (layout : IsLayout l) (legal : is_legal l (e ∷ past) ≡ true) (line : is_on (Some q) e ≡ true) (old : IsKept past q (clients_kept past (on q past))) where
  before : is_legal l past ≡ true
  before = (legal_parts l e past legal).1

  table : List (ℕ × ℕ)
  table = clients_kept past (on q past)

  same-kept : IsKept (e ∷ past) q (clients_kept past (on q past))
  same-kept = record { few = old.few; distinct = old.distinct; accepted = λ c n k. accepted-later l past e q c n layout legal (old.accepted c n k) }

  -- a request that is accepted now
  request-kept : (x : MsgId) (r : Ui) (i k : ℕ) (back : Ui) → e.act ≡ Accept x r i → tag_of x (e ∷ past) ≡ Request k back → IsKept (e ∷ past) q (with_client (clients_kept past (on q past)) x.seat k)
  request-kept x r i k back is t = record { few = few; distinct = distinct; accepted = accepted }
    where
      ks : List (ℕ × ℕ)
      ks = clients_kept past (on q past)

      same : r ≡ q
      same = some_is r q (ap held_port_of (sym is) ∙ on_is q (held_port_of e.act) line)

      may : act_may l (views past e.place e.seat (Accept x r i)) e.place e.seat (Accept x r i) ≡ true
      may = may_as l past e (Accept x r i) legal is

      tag-same : tag_of x (e ∷ past) ≡ tag_of x past
      tag-same = (let d = waiting_posted l past r x before (accept_waits l past e x r i legal is) in ap tag_from (post_stays x past e d.0 d.1 ∙ sym d.1))

      room : not (is_some (number_of (clients_kept past (on q past)) x.seat)) && nat_le CLIENTS_LIMIT (length (clients_kept past (on q past))) ≡ false
      room =
          let v = views past e.place e.seat (Accept x r i) in
          let enter = (and_parts (may_enter l v e.place x r) (has_room i (fate (on r past))) may).0 in
          let last = (and_parts (meets l v e.place x r && suits l v e.place x && not (is_already x past (on r past))) (not (finds_clients_full x past (on r past))) enter).1 in
          ap (λ g. is_one_too_many x.seat g (clients_kept past (on q past))) (sym t ∙ tag-same)
          ∙ (ap (λ (u : Ui). finds_clients_full x past (on u past)) (sym same) ∙ not-true (finds_clients_full x past (on r past)) last)

      few : length (with_client (clients_kept past (on q past)) x.seat k) ≤ 64
      few = by (is_some (number_of (clients_kept past (on q past)) x.seat)) room (length-with_client (clients_kept past (on q past)) x.seat k) old.few
        where
          by : (b : Bool) {n m : ℕ} → not b && nat_le 64 n ≡ false → m ≡ n + cond b 0 1 → n ≤ 64 → m ≤ 64
          by true {n} {m} h e le = omega (arith, e, le)
          by false {n} {m} h e le = let lt = leb-false 64 n h in omega (arith, e, lt)

      distinct : are_distinct (with_client (clients_kept past (on q past)) x.seat k) ≡ true
      distinct = by (is_some (number_of (clients_kept past (on q past)) x.seat)) refl
        where
          by : (b : Bool) → is_some (number_of (clients_kept past (on q past)) x.seat) ≡ b → are_distinct (if b then with_number (clients_kept past (on q past)) x.seat (raised k (number_of (clients_kept past (on q past)) x.seat)) else clients_kept past (on q past) ++ (x.seat, k) ∷ []) ≡ true
          by true h = are_distinct-with_number (clients_kept past (on q past)) x.seat (raised k (number_of (clients_kept past (on q past)) x.seat)) ∙ old.distinct
          by false h = are_distinct-snoc (clients_kept past (on q past)) x.seat k h old.distinct

      now : (n : ℕ) → n ≤ k → HasAccepted (e ∷ past) q x.seat n
      now n le =
          let held : is_held_at e.place (fate (on q past)) ≡ true = needs l past e.clock e.place e.seat (Accept x r i) q (ap held_port_of (sym is) ∙ on_is q (held_port_of e.act) line) may in
          let f = held_fate e.place (fate (on q past)) held in
          let list : accepted_by q (e ∷ past) ≡ (f.0).accepted ++ x ∷ [] =
          ap (λ es. accepted_from (fate es)) (keeps (is_on (Some q)) e past line)
          ∙ (ap (λ a. accepted_from (fate_after e.place a (fate (on q past)))) is
          ∙ ap (λ o. accepted_from (fate_after e.place (Accept x r i) o)) f.2) in
          record {
            position = length (f.0).accepted;
            id = x;
            greater = k;
            back = back;
            stands = ap (λ zs. slice_get zs (length (f.0).accepted)) list ∙ get-push (f.0).accepted x;
            seat = refl;
            tag = t;
            reaches = le;
          }
        where
          get-push : (xs : List MsgId) (x : MsgId) → slice_get (xs ++ x ∷ []) (length xs) ≡ Some x
          get-push [] x = refl
          get-push (y ∷ xs) x = get-push xs x

      accepted : (c n : ℕ) → number_of (with_client (clients_kept past (on q past)) x.seat k) c ≡ Some n → HasAccepted (e ∷ past) q c n
      accepted c n h = by (x.seat == c) refl (sym (number_of-with_client (clients_kept past (on q past)) x.seat k c) ∙ h)
        where
          greater : (o : Option ℕ) → number_of (clients_kept past (on q past)) x.seat ≡ o → raised k o ≡ n → HasAccepted (e ∷ past) q x.seat n
          greater None m j = now n (omega (arith, j))
          greater (Some kept) m j =
              elim (cases_lt k kept) [
                | inl less ↦ subst (HasAccepted (e ∷ past) q x.seat) (let same-n : kept ≡ n = omega (arith, j, less) in same-n) (accepted-later l past e q x.seat kept layout legal (old.accepted x.seat kept m))
                | inr top ↦ now n (omega (arith, j, top))
              ]

          by : (b : Bool) → (x.seat == c) ≡ b → cond b (Some (raised k (number_of (clients_kept past (on q past)) x.seat))) (number_of (clients_kept past (on q past)) c) ≡ Some n → HasAccepted (e ∷ past) q c n
          by false u j = accepted-later l past e q c n layout legal (old.accepted c n j)
          by true u j = subst (λ z. HasAccepted (e ∷ past) q z n) (eqb-true x.seat c u) (greater (number_of (clients_kept past (on q past)) x.seat) refl (some_is (raised k (number_of (clients_kept past (on q past)) x.seat)) n j))

  kept-step : (a : Act) → e.act ≡ a → IsKept (e ∷ past) q (clients_after (e ∷ past) a (clients_kept past (on q past)))
  kept-step (Accept x r i) is = by (tag_of x (e ∷ past)) refl
    where
      by : (g : Tag) → tag_of x (e ∷ past) ≡ g → IsKept (e ∷ past) q (remembered x.seat (tag_of x (e ∷ past)) (clients_kept past (on q past)))
      by Plain t = subst (λ g. IsKept (e ∷ past) q (remembered x.seat g (clients_kept past (on q past)))) (sym t) same-kept
      by (Reply c k) t = subst (λ g. IsKept (e ∷ past) q (remembered x.seat g (clients_kept past (on q past)))) (sym t) same-kept
      by (Request k back) t = subst (λ g. IsKept (e ∷ past) q (remembered x.seat g (clients_kept past (on q past)))) (sym t) (request-kept x r i k back is t)
  kept-step a is = same-kept

is-kept : (l : Layout) (past : List Entry) (q : Ui) → IsLayout l → is_legal l past ≡ true → IsKept past q (clients_kept past (on q past))
is-kept l [] q layout h = record { few = omega arith; distinct = refl; accepted = λ c n k. none_some n k }
is-kept l (e ∷ past) q layout h = go (is_on (Some q) e) refl (is-kept l past q layout (legal_parts l e past h).1)
  where
    grown : clients_kept (e ∷ past) (on q past) ≡ clients_kept past (on q past)
    grown =
        clients_agree (e ∷ past) past (on q past) (goes-on e past)
        (filtered past (is_on (Some q)) past (legal_laws l past layout (legal_parts l e past h).1).posted)

    go : (b : Bool) → is_on (Some q) e ≡ b → IsKept past q (clients_kept past (on q past)) → IsKept (e ∷ past) q (clients_kept (e ∷ past) (cond b (e ∷ on q past) (on q past)))
    go false t old =
        subst (IsKept (e ∷ past) q) (sym grown)
        (record { few = old.few; distinct = old.distinct; accepted = λ c n k. accepted-later l past e q c n layout h (old.accepted c n k) })
    go true t old =
        subst (λ ks. IsKept (e ∷ past) q (clients_after (e ∷ past) e.act ks)) (sym grown) (kept-step l past e q layout h t old e.act refl)

reached-accepted : (l : Layout) (past : List Entry) (q : Ui) (c n : ℕ) → IsLayout l → is_legal l past ≡ true → is_reached n (number_of (clients_kept past (on q past)) c) ≡ true → HasAccepted past q c n
reached-accepted l past q c n layout h k = by (number_of (clients_kept past (on q past)) c) refl k
  where
    by : (o : Option ℕ) → number_of (clients_kept past (on q past)) c ≡ o → is_reached n o ≡ true → HasAccepted past q c n
    by None e r = absurd (false≢true r)
    by (Some kept) e r =
        let a = (is-kept l past q layout h).accepted c kept e in
        let le = leb-true n kept r in
        let top = a.reaches in
        record { position = a.position; id = a.id; greater = a.greater; back = a.back; stands = a.stands; seat = a.seat; tag = a.tag; reaches = omega (arith, le, top) }

-- Already.

-- an act by which a port decides, on x for q
met-cases : (P : Act → Type 0) (x : MsgId) (q : Ui) (a : Act) → message_of a ≡ Some x → port_met a ≡ Some q → ((n : ℕ) → P (Accept x q n)) → ((n : ℕ) → P (Full x q n)) → P (Already x q) → P (ClientsFull x q) → P a
met-cases P x q (Accept y r n) m o accepts full already clients = subst (λ z. P (Accept z r n)) (sym (some_is y x m)) (subst (λ z. P (Accept x z n)) (sym (some_is r q o)) (accepts n))
met-cases P x q (Full y r n) m o accepts full already clients = subst (λ z. P (Full z r n)) (sym (some_is y x m)) (subst (λ z. P (Full x z n)) (sym (some_is r q o)) (full n))
met-cases P x q (Already y r) m o accepts full already clients = subst (λ z. P (Already z r)) (sym (some_is y x m)) (subst (λ z. P (Already x z)) (sym (some_is r q o)) already)
met-cases P x q (ClientsFull y r) m o accepts full already clients = subst (λ z. P (ClientsFull z r)) (sym (some_is y x m)) (subst (λ z. P (ClientsFull x z)) (sym (some_is r q o)) clients)
met-cases P x q _ m o accepts full already clients = none_some q o

module _ (l : Layout) (past : List Entry) (p s : ℕ) (x : MsgId) (q : Ui) where
  entered : (a : Act) → may_enter l (views past p s a) p x q ≡ true → fate (views past p s a).port ≡ fate (on q past) → (is_already x past (views past p s a).port ≡ false) × (finds_clients_full x past (views past p s a).port ≡ false)
  entered a e port =
      let v = views past p s a in
      let three = and_parts (meets l v p x q && suits l v p x && not (is_already x past v.port)) (not (finds_clients_full x past v.port)) e in
      let two = and_parts (meets l v p x q && suits l v p x) (not (is_already x past v.port)) three.0 in
      (not-true (is_already x past v.port) two.1, not-true (finds_clients_full x past v.port) three.1)

  abbrev May : Act → Type 0
  May a = act_may l (views past p s a) p s a ≡ true

  accept-fresh : (n : ℕ) → May (Accept x q n) → (is_already x past (on q past) ≡ false) × (finds_clients_full x past (on q past) ≡ false)
  accept-fresh n m = entered (Accept x q n) (and_parts (may_enter l (views past p s (Accept x q n)) p x q) (has_room n (fate (on q past))) m).0 refl

  full-fresh : (n : ℕ) → May (Full x q n) → (is_already x past (on q past) ≡ false) × (finds_clients_full x past (on q past) ≡ false)
  full-fresh n m = entered (Full x q n) (and_parts (may_enter l (views past p s (Full x q n)) p x q) (is_full n (fate (on q past))) m).0 refl

  already-repeats : May (Already x q) → is_already x past (on q past) ≡ true
  already-repeats m = (and_parts (meets l (views past p s (Already x q)) p x q) (is_already x past (on q past)) m).1

  clients-are-full : May (ClientsFull x q) → finds_clients_full x past (on q past) ≡ true
  clients-are-full m = (and_parts (meets l (views past p s (ClientsFull x q)) p x q) (finds_clients_full x past (on q past)) m).1

  -- where the request is accepted already, that is said
  says-already : is_already x past (on q past) ≡ true → (a : Act) → message_of a ≡ Some x → port_met a ≡ Some q → May a → a ≡ Already x q
  says-already e a m o =
      met-cases (λ z. May z → z ≡ Already x q) x q a m o
      (λ n k. absurd (true≢false (sym e ∙ (accept-fresh n k).0)))
      (λ n k. absurd (true≢false (sym e ∙ (full-fresh n k).0)))
      (λ k. refl)
      (λ k. absurd (true≢false (sym e ∙ new-client x past (on q past) (clients-are-full k))))

  says-full : finds_clients_full x past (on q past) ≡ true → (a : Act) → message_of a ≡ Some x → port_met a ≡ Some q → May a → a ≡ ClientsFull x q
  says-full e a m o =
      met-cases (λ z. May z → z ≡ ClientsFull x q) x q a m o
      (λ n k. absurd (true≢false (sym e ∙ (accept-fresh n k).1)))
      (λ n k. absurd (true≢false (sym e ∙ (full-fresh n k).1)))
      (λ k. absurd (true≢false (sym (already-repeats k) ∙ new-client x past (on q past) e)))
      (λ k. refl)

pub already-where-accepted : (l : Layout) (past : List Entry) (e : Entry) → IsLayout l → is_legal l (e ∷ past) ≡ true → AlreadyWhereAccepted past e
already-where-accepted l past e layout h x q m o = (forward, backward)
  where
    table : List (ℕ × ℕ)
    table = clients_kept past (on q past)

    before : is_legal l past ≡ true
    before = (legal_parts l e past h).1

    forward : e.act ≡ Already x q → IsRepeated past x q
    forward says = by (tag_of x past) refl (already-repeats l past e.place e.seat x q (may_as l past e (Already x q) h says))
      where
        by : (g : Tag) → tag_of x past ≡ g → is_repeated x.seat g (clients_kept past (on q past)) ≡ true → IsRepeated past x q
        by Plain t r = absurd (false≢true r)
        by (Reply c n) t r = absurd (false≢true r)
        by (Request n back) t r = record { number = n; request = (back, t); accepted = reached-accepted l past q x.seat n layout before r }

    backward : IsRepeated past x q → e.act ≡ Already x q
    backward k =
        let again : is_already x past (on q past) ≡ true = ap (λ g. is_repeated x.seat g (clients_kept past (on q past))) k.request.1 ∙ accepted-reached past q x.seat k.number k.accepted in
        says-already l past e.place e.seat x q again e.act m o (legal_parts l e past h).0

-- Clients.

has-client : (c : ℕ) (table : List (ℕ × ℕ)) → has_number c (map (λ (k : ℕ × ℕ). k.0) table) ≡ is_some (number_of table c)
has-client c [] = refl
has-client c (k ∷ table) = by (k.0 == c) (has-client c table)
  where
    by : (b : Bool) → has_number c (map (λ (z : ℕ × ℕ). z.0) table) ≡ is_some (number_of table c) → (b || has_number c (map (λ (z : ℕ × ℕ). z.0) table)) ≡ is_some (cond b (Some k.1) (number_of table c))
    by true e = refl
    by false e = e

clients-different : (table : List (ℕ × ℕ)) → are_distinct table ≡ true → are_different (map (λ (k : ℕ × ℕ). k.0) table) ≡ true
clients-different [] h = refl
clients-different (k ∷ table) h =
    let two = and_parts (not (is_some (number_of table k.0))) (are_distinct table) h in
    and_from (not (has_number k.0 (map (λ (z : ℕ × ℕ). z.0) table))) (are_different (map (λ (z : ℕ × ℕ). z.0) table))
    (ap not (has-client k.0 table) ∙ two.0) (clients-different table two.1)

length-clients : (table : List (ℕ × ℕ)) → length (map (λ (k : ℕ × ℕ). k.0) table) ≡ length table
length-clients [] = refl
length-clients (k ∷ table) = ap (λ n. suc n) (length-clients table)

-- no more different numbers than a list that has them all
drop-one : ℕ → List ℕ → List ℕ
drop-one n [] = []
drop-one n (m ∷ ms) = if m == n then ms else m ∷ drop-one n ms

one-less : (n : ℕ) (ms : List ℕ) → has_number n ms ≡ true → length ms ≡ length (drop-one n ms) + 1
unfolding drop-one
one-less n [] h = absurd (false≢true h)
one-less n (m ∷ ms) h = by (m == n) h (one-less n ms)
  where
    by : (b : Bool) → b || has_number n ms ≡ true → (has_number n ms ≡ true → length ms ≡ length (drop-one n ms) + 1) → suc (length ms) ≡ length (cond b ms (m ∷ drop-one n ms)) + 1
    by true k ih = omega arith
    by false k ih = let e = ih k in omega (arith, e)

still-there : (n k : ℕ) (ms : List ℕ) → (n == k) ≡ false → has_number k ms ≡ true → has_number k (drop-one n ms) ≡ true
unfolding drop-one
still-there n k [] apart h = h
still-there n k (m ∷ ms) apart h = by (m == n) refl (or_cases (m == k) (has_number k ms) h) (still-there n k ms apart)
  where
    by : (b : Bool) → (m == n) ≡ b → ((m == k) ≡ true) ⊎ (has_number k ms ≡ true) → (has_number k ms ≡ true → has_number k (drop-one n ms) ≡ true) → has_number k (cond b ms (m ∷ drop-one n ms)) ≡ true
    by true e (inl this) ih =
        absurd (eqb-false n k apart (sym (eqb-true m n e) ∙ eqb-true m k this))
    by true e (inr later) ih = later
    by false e (inl this) ih = ap (λ b. b || has_number k (drop-one n ms)) this
    by false e (inr later) ih = or-second (m == k) (has_number k (drop-one n ms)) (ih later)
      where
        or-second : (a b : Bool) → b ≡ true → a || b ≡ true
        or-second true b z = refl
        or-second false b z = z

few-different : (ns ms : List ℕ) → are_different ns ≡ true → ((n : ℕ) → has_number n ns ≡ true → has_number n ms ≡ true) → length ns ≤ length ms
few-different [] ms d has = omega arith
few-different (n ∷ ns) ms d has =
    let two = and_parts (not (has_number n ns)) (are_different ns) d in
    let here : has_number n ms ≡ true = has n (ap (λ b. b || has_number n ns) (eq-eqb n n refl)) in
    let rest = few-different ns (drop-one n ms) two.1 (λ k later.
    still-there n k ms
    (elim (cases_Bool (n == k)) [
      | inr apart ↦ apart
      | inl same ↦ absurd (true≢false (sym later ∙ (ap (λ z. has_number z ns) (sym (eqb-true n k same)) ∙ not-true (has_number n ns) two.0)))
    ])
    (has k (second (n == k) (has_number k ns) later))) in
    let less = one-less n ms here in
    omega (arith, rest, less)
  where
    second : (a b : Bool) → b ≡ true → a || b ≡ true
    second true b z = refl
    second false b z = z

pub clients-full-where-many : (l : Layout) (past : List Entry) (e : Entry) → IsLayout l → is_legal l (e ∷ past) ≡ true → ClientsFullWhereManyAre past e
clients-full-where-many l past e layout h x q m o = (forward, backward)
  where
    before : is_legal l past ≡ true
    before = (legal_parts l e past h).1

    kept : IsKept past q (clients_kept past (on q past))
    kept = is-kept l past q layout before

    some-number : (z : Option ℕ) → is_some z ≡ true → is_reached 0 z ≡ true
    some-number None r = absurd (false≢true r)
    some-number (Some n) r = le-leb 0 n (omega arith)

    number-some : (z : Option ℕ) → is_reached 0 z ≡ true → is_some z ≡ true
    number-some None r = absurd (false≢true r)
    number-some (Some n) r = refl

    are-clients : AreClients past q (map (λ (k : ℕ × ℕ). k.0) (clients_kept past (on q past)))
    are-clients =
        record {
          once = clients-different (clients_kept past (on q past)) kept.distinct;
          all = λ c. (
            λ has. reached-accepted l past q c 0 layout before (some-number (number_of (clients_kept past (on q past)) c) (sym (has-client c (clients_kept past (on q past))) ∙ has)),
            λ a. has-client c (clients_kept past (on q past)) ∙ number-some (number_of (clients_kept past (on q past)) c) (accepted-reached past q c 0 a),
          );
        }

    forward : e.act ≡ ClientsFull x q → IsOfOneTooMany past x q
    forward says = by (tag_of x past) refl (clients-are-full l past e.place e.seat x q (may_as l past e (ClientsFull x q) h says))
      where
        by : (g : Tag) → tag_of x past ≡ g → is_one_too_many x.seat g (clients_kept past (on q past)) ≡ true → IsOfOneTooMany past x q
        by Plain t r = absurd (false≢true r)
        by (Reply c n) t r = absurd (false≢true r)
        by (Request n back) t r =
            let two = and_parts (not (is_some (number_of (clients_kept past (on q past)) x.seat))) (nat_le CLIENTS_LIMIT (length (clients_kept past (on q past)))) r in
            let many = leb-true CLIENTS_LIMIT (length (clients_kept past (on q past))) two.1 in
            let few = kept.few in
            let long = length-clients (clients_kept past (on q past)) in
            record {
              number = n;
              request = (back, t);
              new = λ a. true≢false (sym (number-some (number_of (clients_kept past (on q past)) x.seat) (accepted-reached past q x.seat 0 a)) ∙ not-true (is_some (number_of (clients_kept past (on q past)) x.seat)) two.0);
              clients = map (λ (k : ℕ × ℕ). k.0) (clients_kept past (on q past));
              all = are-clients;
              many = omega (arith, many, few, long);
            }

    backward : IsOfOneTooMany past x q → e.act ≡ ClientsFull x q
    backward k =
        let table = clients_kept past (on q past) in
        let clients = k.clients in
        let all = k.all in
        let number = k.many in
        let fresh : is_some (number_of table x.seat) ≡ false = elim (cases_Bool (is_some (number_of table x.seat))) [
          | inr f ↦ f
          | inl t ↦ absurd (k.new (reached-accepted l past q x.seat 0 layout before (some-number (number_of table x.seat) t)))
        ] in
        let le = few-different clients (map (λ (z : ℕ × ℕ). z.0) table) all.once (λ n has. (are-clients.all n).1 ((all.all n).0 has)) in
        let long = length-clients table in
        let full : is_one_too_many x.seat (Request k.number k.request.0) table ≡ true =
        and_from (not (is_some (number_of table x.seat))) (nat_le CLIENTS_LIMIT (length table)) (ap not fresh) (le-leb CLIENTS_LIMIT (length table) (omega (arith, le, long, number))) in
        says-full l past e.place e.seat x q (ap (λ g. is_one_too_many x.seat g table) k.request.1 ∙ full) e.act m o (legal_parts l e past h).0
