-- What a port accepted of one seat, by what is read of a legal list.
use Rattle.std.proofs.Common.{ℕ, zero, suc, ◌≡◌, ◌==◌, ◌+◌, ◌≤◌, ◌<◌, nat_le, max, Bool, true, false, ◌&&◌, ◌||◌, ◌⊎◌, cond, List, [], ◌∷◌, ◌++◌, length, Option, Some, None, refl, sym, ◌∙◌, ap, subst, arith, inl, inr}
use Rattle.std.specs.List.{list_any, slice_get}
use Rattle.std.specs.Option.{option_eq}
use Rattle.std.proofs.lemmas.Bool.{and_parts, eq-eqb, eqb-true, false≢true, leb-true, le-leb, lt-ltb, not_from_false, false_from_ne_true, or_cases, or_left, or_right}
use Rattle.std.proofs.lemmas.Option.{slice_get_within}
use Rattle.chorus_ui.specs.declared.ui.Ui.{Ui}
use Rattle.chorus_ui.specs.declared.layout.Layout.{Layout}
use Rattle.chorus_ui.specs.Layout.{IsLayout}
use Rattle.chorus_ui.specs.Name.{same_ui}
use Rattle.chorus_ui.proofs.Names.{from_same_ui, same_ui-self}
use Rattle.chorus_entry.specs.declared.entry.Entry.{Entry}
use Rattle.chorus_entry.specs.declared.id.MsgId.{MsgId}
use Rattle.chorus_entry.specs.declared.tag.Tag.{Tag}
use Rattle.chorus_entry.specs.declared.tag.Tag.TheVariants.{Plain, Request, Reply}
use Rattle.chorus_entry.specs.declared.act.Act.{Act}
use Rattle.chorus_entry.specs.declared.act.Act.TheVariants.{Accept, Take}
use Rattle.chorus_entry.specs.Clients.{is_reached, is_repeated, raised}
use Rattle.chorus_entry.specs.Act.{held_port_of}
use Rattle.chorus_entry.specs.Same.{are_same}
use Rattle.chorus_world.specs.AcceptedLaws.{accepted_by, accepted_from}
use Rattle.chorus_world.specs.Clients.{clients_kept, is_already}
use Rattle.chorus_world.specs.Ports.{PortState, fate, fate_after, is_held_at}
use Rattle.chorus_world.specs.Posts.{Posted, post_of, tag_of}
use Rattle.chorus_world.specs.SenderLaws.{route_of}
use Rattle.chorus_world.specs.Steps.{act_may, is_legal, may_enter, is_due, due}
use Rattle.chorus_world.specs.Views.{is_on, on, views}
use Rattle.chorus_world.proofs.Messages.AcceptedLemmas.{accept_waits, accepted_posted, waiting_posted}
use Rattle.chorus_world.proofs.Messages.PostLemmas.{tag_kept}
use Rattle.chorus_world.proofs.Messages.DueLemmas.{enters}
use Rattle.chorus_world.proofs.Ports.LineLemmas.{none_some}
use Rattle.chorus_world.proofs.Ports.PortLaws.{accepted_grows}
use Rattle.chorus_world.proofs.Seats.RequestLaws.{requests_once}
use Rattle.chorus_world.proofs.Seats.SenderLaws.{keeps_sender_order, route_stays}
use Rattle.chorus_world.proofs.Steps.LegalLemmas.{cond_idem, keeps, legal_parts, under}
use Rattle.checker_rows.specs.Clients.{kept_by, kept_row, kept_with}
use Rattle.checker_rows.specs.Seats.{HasTag}
use Rattle.checker_rows.proofs.ClientLemmas.{already_reads, kept_grows}
use Rattle.checker_ledger.proofs.TieLemmas.{all_posted}
use Rattle.judge_promises.specs.Terms.{is_above, is_in_order, is_new, is_new_request, is_old, is_old_request, is_read, latest, latest_after, read, requests, requests_after, with_request}
use Rattle.judge_promises.proofs.Reading.{read-none, route-read, tag-read}

-- Lists with more behind them.

get-front : {X : Type 0} (xs more : List X) (i : ℕ) (x : X) → slice_get xs i ≡ Some x → slice_get (xs ++ more) i ≡ Some x
get-front [] more i x h = none_some x h
get-front (y ∷ xs) more zero x h = h
get-front (y ∷ xs) more (suc i) x h = get-front xs more i x h

get-last : {X : Type 0} (xs : List X) (x : X) → slice_get (xs ++ x ∷ []) (length xs) ≡ Some x
get-last [] x = refl
get-last (y ∷ xs) x = get-last xs x

-- an accept is of a port that is held, and puts the message behind those that it accepted
held-accepts : (p : ℕ) (x : MsgId) (q : Ui) (n : ℕ) (o : Option PortState) → is_held_at p o ≡ true → accepted_from (fate_after p (Accept x q n) o) ≡ accepted_from o ++ x ∷ []
held-accepts p x q n None h = absurd (false≢true h)
held-accepts p x q n (Some f) h = refl

accepted-now : (l : Layout) (past : List Entry) (e : Entry) (x : MsgId) (q : Ui) (n : ℕ) → is_legal l (e ∷ past) ≡ true → e.act ≡ Accept x q n → accepted_by q (e ∷ past) ≡ accepted_by q past ++ x ∷ []
accepted-now l past e x q n h a =
    let two = legal_parts l e past h in
    let v = views past e.place e.seat (Accept x q n) in
    let may : act_may l v e.place e.seat (Accept x q n) ≡ true = subst (λ z. act_may l (views past e.place e.seat z) e.place e.seat z ≡ true) a two.0 in
    let met = (enters l past e.place x q v refl refl (and_parts (may_enter l v e.place x q) _ may).0).0 in
    let held = (and_parts (is_due (due l v e.place x q)) (is_held_at e.place (fate v.port)) met).1 in
    let here : is_on (Some q) e ≡ true = ap (λ z. is_on (Some q) (record e { act = z })) a ∙ same_ui-self q in
    ap (λ es. accepted_from (fate es)) (keeps (is_on (Some q)) e past here)
    ∙ (ap (λ z. accepted_from (fate_after e.place z (fate (on q past)))) a ∙ held-accepts e.place x q n (fate (on q past)) held)

-- The port accepted the message of this seat.
pub record HasAccepted (q : Ui) (s : ℕ) (past : List Entry) (x : MsgId) : Type 0 where
  pub position : ℕ
  pub at : slice_get (accepted_by q past) position ≡ Some x
  pub seat : x.seat ≡ s

at-still : (l : Layout) (past : List Entry) (e : Entry) (q : Ui) (s : ℕ) (x : MsgId) → IsLayout l → is_legal l (e ∷ past) ≡ true → (a : HasAccepted q s past x) → slice_get (accepted_by q (e ∷ past)) a.position ≡ Some x
at-still l past e q s x shape h a =
    let more = accepted_grows l (e ∷ []) past q shape h in
    ap (λ xs. slice_get xs a.position) more.1 ∙ get-front (accepted_by q past) more.0 a.position x a.at

accepted-still : (l : Layout) (past : List Entry) (e : Entry) (q : Ui) (s : ℕ) (x : MsgId) → IsLayout l → is_legal l (e ∷ past) ≡ true → HasAccepted q s past x → HasAccepted q s (e ∷ past) x
accepted-still l past e q s x shape h a = record { position = a.position; at = at-still l past e q s x shape h a; seat = a.seat }

posted-then : (l : Layout) (past : List Entry) (q : Ui) (s : ℕ) (x : MsgId) → is_legal l past ≡ true → HasAccepted q s past x → (d : Posted) × (post_of x past ≡ Some d)
posted-then l past q s x h a = accepted_posted l past q a.position x h a.at

-- The last number by a route.

same-option : (a b : Option Ui) → option_eq same_ui a b ≡ true → a ≡ b
same-option None None h = refl
same-option None (Some v) h = absurd (false≢true h)
same-option (Some u) None h = absurd (false≢true h)
same-option (Some u) (Some v) h = ap (λ z. Some z) (from_same_ui u v h)

pub record IsLatest (q : Ui) (s : ℕ) (route : Option Ui) (past : List Entry) (n : ℕ) : Type 0 where
  pub id : MsgId
  pub accepted : HasAccepted q s past id
  pub by_route : route_of id past ≡ route
  pub number : id.number ≡ n

latest-still : (l : Layout) (past : List Entry) (e : Entry) (q : Ui) (s : ℕ) (route : Option Ui) (n : ℕ) → IsLayout l → is_legal l (e ∷ past) ≡ true → IsLatest q s route past n → IsLatest q s route (e ∷ past) n
latest-still l past e q s route n shape h k =
    let two = legal_parts l e past h in
    let post = posted-then l past q s k.id two.1 k.accepted in
    record {
      id = k.id;
      accepted = accepted-still l past e q s k.id shape h k.accepted;
      by_route = route_stays k.id past e post.0 post.1 ∙ k.by_route;
      number = k.number;
    }

-- the message that an entry accepts
new-at : (l : Layout) (past : List Entry) (e : Entry) (x : MsgId) (q : Ui) (n : ℕ) → is_legal l (e ∷ past) ≡ true → e.act ≡ Accept x q n → slice_get (accepted_by q (e ∷ past)) (length (accepted_by q past)) ≡ Some x
new-at l past e x q n h a = ap (λ xs. slice_get xs (length (accepted_by q past))) (accepted-now l past e x q n h a) ∙ get-last (accepted_by q past) x

new-accepted : (l : Layout) (past : List Entry) (e : Entry) (x : MsgId) (q : Ui) (n : ℕ) → is_legal l (e ∷ past) ≡ true → e.act ≡ Accept x q n → HasAccepted q x.seat (e ∷ past) x
new-accepted l past e x q n h a = record { position = length (accepted_by q past); at = new-at l past e x q n h a; seat = refl }

new-posted : (l : Layout) (past : List Entry) (e : Entry) (x : MsgId) (q : Ui) (n : ℕ) → is_legal l (e ∷ past) ≡ true → e.act ≡ Accept x q n → (d : Posted) × (post_of x past ≡ Some d)
new-posted l past e x q n h a = waiting_posted l past q x (legal_parts l e past h).1 (accept_waits l past e x q n h a)

latest-is : (l : Layout) (past : List Entry) (q : Ui) (s : ℕ) (route : Option Ui) (n : ℕ) → IsLayout l → is_legal l past ≡ true → latest q s route (read past) ≡ Some n → IsLatest q s route past n
latest-is l [] q s route n shape h is = none_some n is
latest-is l (e ∷ past) q s route n shape h is = go (is_read e.act) (λ k. latest-still l past e q s route n shape h (latest-is l past q s route n shape two.1 k)) is
  where
    two : (act_may l (views past e.place e.seat e.act) e.place e.seat e.act ≡ true) × (is_legal l past ≡ true)
    two = legal_parts l e past h

    here : (x : MsgId) (r : Ui) (k : ℕ) → e.act ≡ Accept x r k → same_ui r q && ((x.seat == s) && option_eq same_ui (route_of x (read past)) route) ≡ true → Some x.number ≡ Some n → IsLatest q s route (e ∷ past) n
    here x r k a t is =
        let parts = and_parts (same_ui r q) ((x.seat == s) && option_eq same_ui (route_of x (read past)) route) t in
        let both = and_parts (x.seat == s) (option_eq same_ui (route_of x (read past)) route) parts.1 in
        let named : e.act ≡ Accept x q k = a ∙ ap (λ z. Accept x z k) (from_same_ui r q parts.0) in
        let post = new-posted l past e x q k h named in
        record {
          id = x;
          accepted = subst (λ z. HasAccepted q z (e ∷ past) x) (eqb-true x.seat s both.0) (new-accepted l past e x q k h named);
          by_route = route_stays x past e post.0 post.1 ∙ (sym (route-read x past) ∙ same-option (route_of x (read past)) route both.1);
          number = (let same : x.number ≡ n = cc in same);
        }

    pick : (x : MsgId) (r : Ui) (k : ℕ) → e.act ≡ Accept x r k → (c : Bool) → same_ui r q && ((x.seat == s) && option_eq same_ui (route_of x (read past)) route) ≡ c → (latest q s route (read past) ≡ Some n → IsLatest q s route (e ∷ past) n) → cond c (Some x.number) (latest q s route (read past)) ≡ Some n → IsLatest q s route (e ∷ past) n
    pick x r k a true t old is = here x r k a t is
    pick x r k a false t old is = old is

    by-act : (a : Act) → e.act ≡ a → (latest q s route (read past) ≡ Some n → IsLatest q s route (e ∷ past) n) → latest_after q s route (read past) a (latest q s route (read past)) ≡ Some n → IsLatest q s route (e ∷ past) n
    by-act (Accept x r k) a old is = pick x r k a (same_ui r q && ((x.seat == s) && option_eq same_ui (route_of x (read past)) route)) refl old is
    by-act _ a old is = old is

    go : (b : Bool) → (latest q s route (read past) ≡ Some n → IsLatest q s route (e ∷ past) n) → latest q s route (cond b (e ∷ read past) (read past)) ≡ Some n → IsLatest q s route (e ∷ past) n
    go true old is = by-act e.act refl old is
    go false old is = old is

pub in-order : (l : Layout) (past : List Entry) (e : Entry) (x : MsgId) (q : Ui) (n : ℕ) → IsLayout l → is_legal l (e ∷ past) ≡ true → e.act ≡ Accept x q n → is_in_order x q (read past) ≡ true
in-order l past e x q n shape h a = by (latest q x.seat (route_of x (read past)) (read past)) refl
  where
    two : (act_may l (views past e.place e.seat e.act) e.place e.seat e.act ≡ true) × (is_legal l past ≡ true)
    two = legal_parts l e past h

    by : (o : Option ℕ) → latest q x.seat (route_of x (read past)) (read past) ≡ o → is_above x.number o ≡ true
    by None is = refl
    by (Some m) is =
        let old = latest-is l past q x.seat (route_of x (read past)) m shape two.1 is in
        let post = new-posted l past e x q n h a in
        let before-post = posted-then l past q x.seat old.id two.1 old.accepted in
        let route : route_of old.id (e ∷ past) ≡ route_of x (e ∷ past) =
        route_stays old.id past e before-post.0 before-post.1 ∙ (old.by_route ∙ (route-read x past ∙ sym (route_stays x past e post.0 post.1))) in
        let before = slice_get_within (accepted_by q past) old.accepted.position old.id old.accepted.at in
        let less : old.id.number < x.number =
        keeps_sender_order l (e ∷ past) q old.accepted.position (length (accepted_by q past)) old.id x h before (at-still l past e q x.seat old.id shape h old.accepted) (new-at l past e x q n h a) old.accepted.seat route in
        let is-m = old.number in
        lt-ltb m x.number (omega (arith, less, is-m))

-- Requests.

pub record IsRequested (q : Ui) (s : ℕ) (past : List Entry) (n : ℕ) : Type 0 where
  pub id : MsgId
  pub accepted : HasAccepted q s past id
  pub back : Ui
  pub tag : tag_of id past ≡ Request n back

requested-still : (l : Layout) (past : List Entry) (e : Entry) (q : Ui) (s n : ℕ) → IsLayout l → is_legal l (e ∷ past) ≡ true → IsRequested q s past n → IsRequested q s (e ∷ past) n
requested-still l past e q s n shape h k =
    let two = legal_parts l e past h in
    let post = posted-then l past q s k.id two.1 k.accepted in
    record {
      id = k.id;
      accepted = accepted-still l past e q s k.id shape h k.accepted;
      back = k.back;
      tag = tag_kept k.id (e ∷ []) past post.0 post.1 ∙ k.tag;
    }

abbrev Has : ℕ → List ℕ → Bool
Has n ns = list_any (λ m. m == n) ns

with-is : (n : ℕ) (tag : Tag) (ns : List ℕ) → Has n (with_request tag ns) ≡ true → (Has n ns ≡ true) ⊎ ((back : Ui) × (tag ≡ Request n back))
with-is n Plain ns h = inl h
with-is n (Reply c m) ns h = inl h
with-is n (Request m back) ns h =
    elim (or_cases (m == n) (Has n ns) h) [
      | inl same ↦ inr (back, ap (λ z. Request z back) (eqb-true m n same))
      | inr old ↦ inl old
    ]

requested-is : (l : Layout) (past : List Entry) (q : Ui) (s n : ℕ) → IsLayout l → is_legal l past ≡ true → Has n (requests q s (read past)) ≡ true → IsRequested q s past n
requested-is l [] q s n shape h is = absurd (false≢true is)
requested-is l (e ∷ past) q s n shape h is = go (is_read e.act) (λ k. requested-still l past e q s n shape h (requested-is l past q s n shape two.1 k)) is
  where
    two : (act_may l (views past e.place e.seat e.act) e.place e.seat e.act ≡ true) × (is_legal l past ≡ true)
    two = legal_parts l e past h

    here : (x : MsgId) (r : Ui) (k : ℕ) (back : Ui) → e.act ≡ Accept x r k → same_ui r q && (x.seat == s) ≡ true → tag_of x (read past) ≡ Request n back → IsRequested q s (e ∷ past) n
    here x r k back a t tag =
        let both = and_parts (same_ui r q) (x.seat == s) t in
        let named : e.act ≡ Accept x q k = a ∙ ap (λ z. Accept x z k) (from_same_ui r q both.0) in
        let post = new-posted l past e x q k h named in
        record {
          id = x;
          accepted = subst (λ z. HasAccepted q z (e ∷ past) x) (eqb-true x.seat s both.1) (new-accepted l past e x q k h named);
          back = back;
          tag = tag_kept x (e ∷ []) past post.0 post.1 ∙ (sym (tag-read x past) ∙ tag);
        }

    pick : (x : MsgId) (r : Ui) (k : ℕ) → e.act ≡ Accept x r k → (c : Bool) → same_ui r q && (x.seat == s) ≡ c → (Has n (requests q s (read past)) ≡ true → IsRequested q s (e ∷ past) n) → Has n (cond c (with_request (tag_of x (read past)) (requests q s (read past))) (requests q s (read past))) ≡ true → IsRequested q s (e ∷ past) n
    pick x r k a false t old is = old is
    pick x r k a true t old is =
        elim (with-is n (tag_of x (read past)) (requests q s (read past)) is) [
          | inl before ↦ old before
          | inr now ↦ here x r k now.0 a t now.1
        ]

    by-act : (a : Act) → e.act ≡ a → (Has n (requests q s (read past)) ≡ true → IsRequested q s (e ∷ past) n) → Has n (requests_after q s (read past) a (requests q s (read past))) ≡ true → IsRequested q s (e ∷ past) n
    by-act (Accept x r k) a old is = pick x r k a (same_ui r q && (x.seat == s)) refl old is
    by-act _ a old is = old is

    go : (b : Bool) → (Has n (requests q s (read past)) ≡ true → IsRequested q s (e ∷ past) n) → Has n (requests q s (cond b (e ∷ read past) (read past))) ≡ true → IsRequested q s (e ∷ past) n
    go true old is = by-act e.act refl old is
    go false old is = old is

-- a request that is accepted was not accepted before
pub new-request : (l : Layout) (past : List Entry) (e : Entry) (x : MsgId) (q : Ui) (n : ℕ) → IsLayout l → is_legal l (e ∷ past) ≡ true → e.act ≡ Accept x q n → is_new_request x q (read past) ≡ true
new-request l past e x q n shape h a = by (tag_of x (read past)) refl
  where
    two : (act_may l (views past e.place e.seat e.act) e.place e.seat e.act ≡ true) × (is_legal l past ≡ true)
    two = legal_parts l e past h

    twice : (m : ℕ) (back : Ui) → tag_of x (read past) ≡ Request m back → Has m (requests q x.seat (read past)) ≡ true → ⊥
    twice m back tag is =
        let old = requested-is l past q x.seat m shape two.1 is in
        let post = new-posted l past e x q n h a in
        let before-post = posted-then l past q x.seat old.id two.1 old.accepted in
        let then : tag_of old.id (e ∷ past) ≡ Request m old.back = tag_kept old.id (e ∷ []) past before-post.0 before-post.1 ∙ old.tag in
        let now : tag_of x (e ∷ past) ≡ Request m back = tag_kept x (e ∷ []) past post.0 post.1 ∙ (sym (tag-read x past) ∙ tag) in
        let before = slice_get_within (accepted_by q past) old.accepted.position old.id old.accepted.at in
        let same = (requests_once l (e ∷ past) q q old.accepted.position (length (accepted_by q past)) old.id x m old.back back h (at-still l past e q x.seat old.id shape h old.accepted) (new-at l past e x q n h a) old.accepted.seat then now).1 in
        omega (arith, same, before)

    by : (tag : Tag) → tag_of x (read past) ≡ tag → is_new tag (requests q x.seat (read past)) ≡ true
    by Plain is = refl
    by (Reply c m) is = refl
    by (Request m back) is = not_from_false (Has m (requests q x.seat (read past))) (false_from_ne_true (Has m (requests q x.seat (read past))) (twice m back is))

-- What a port keeps of a client is among the numbers that it accepted.

has-self : (n : ℕ) (ns : List ℕ) → Has n (n ∷ ns) ≡ true
has-self n ns = or_left (n == n) (Has n ns) (eq-eqb n n refl)

max-is : (m n : ℕ) → (max m n ≡ m) ⊎ (max m n ≡ n)
max-is m n = grind arith

raised-has : (m : ℕ) (old : Option ℕ) (k : ℕ) (ns : List ℕ) → ((n : ℕ) → old ≡ Some n → Has n ns ≡ true) → raised m old ≡ k → Has k (m ∷ ns) ≡ true
raised-has m None k ns h is = subst (λ z. Has z (m ∷ ns) ≡ true) is (has-self m ns)
raised-has m (Some n) k ns h is =
    elim (max-is m n) [
      | inl first ↦ subst (λ z. Has z (m ∷ ns) ≡ true) (sym first ∙ is) (has-self m ns)
      | inr second ↦ or_right (m == k) (Has k ns) (subst (λ z. Has z ns ≡ true) (sym second ∙ is) (h n refl))
    ]

with-has : (s seat : ℕ) (tag : Tag) (old : Option ℕ) (k : ℕ) (ns : List ℕ) → ((n : ℕ) → old ≡ Some n → Has n ns ≡ true) → kept_with s seat tag old ≡ Some k → Has k (cond (seat == s) (with_request tag ns) ns) ≡ true
with-has s seat Plain old k ns h is = subst (λ z. Has k z ≡ true) (sym (both (seat == s))) (h k is)
  where
    both : (b : Bool) → cond b ns ns ≡ ns
    both true = refl
    both false = refl
with-has s seat (Reply c m) old k ns h is = subst (λ z. Has k z ≡ true) (sym (both (seat == s))) (h k is)
  where
    both : (b : Bool) → cond b ns ns ≡ ns
    both true = refl
    both false = refl
with-has s seat (Request m back) old k ns h is = by (seat == s) is
  where
    by : (b : Bool) → cond b (Some (raised m old)) old ≡ Some k → Has k (cond b (m ∷ ns) ns) ≡ true
    by true e = raised-has m old k ns h (let same : raised m old ≡ k = cc in same)
    by false e = h k e

abbrev pub tag-by : List Entry → Act → Tag
tag-by past (Accept x q n) = tag_of x past
tag-by past (Take q n x) = tag_of x past
tag-by past _ = Plain

tag-had : (past : List Entry) (a : Act) → HasTag past a (tag-by past a)
tag-had past (Accept x q n) = refl
tag-had past (Take q n x) = refl
tag-had past _ = tt

has-more : (d : Bool) (tag : Tag) (ns : List ℕ) (k : ℕ) → Has k ns ≡ true → Has k (cond d (with_request tag ns) ns) ≡ true
has-more false tag ns k h = h
has-more true Plain ns k h = h
has-more true (Reply c m) ns k h = h
has-more true (Request m back) ns k h = or_right (m == k) (Has k ns) h

-- of one entry more
module _ (past : List Entry) (q : Ui) (s k : ℕ) (old : Option ℕ) (ns : List ℕ) (ih : (n : ℕ) → old ≡ Some n → Has n ns ≡ true) where
  accepts : (c : Bool) (x : MsgId) (t : Ui) → same_ui q t ≡ c → cond c (kept_with s x.seat (tag_of x past) old) old ≡ Some k → Has k (cond (same_ui t q && (x.seat == s)) (with_request (tag_of x (read past)) ns) ns) ≡ true
  accepts false x t n is = has-more (same_ui t q && (x.seat == s)) (tag_of x (read past)) ns k (ih k is)
  accepts true x t n is =
      let here : same_ui t q ≡ true = ap (λ z. same_ui z q) (sym (from_same_ui q t n)) ∙ same_ui-self q in
      (λ i. Has k (cond (here i && (x.seat == s)) (with_request (tag-read x past i) ns) ns))
      ∙ with-has s x.seat (tag_of x past) old k ns ih is

  core : (b : Bool) (a : Act) → is_read a ≡ b → cond (are_same same_ui (Some q) (held_port_of a)) (kept_by s (tag-by past a) a old) old ≡ Some k → Has k (cond b (requests_after q s (read past) a ns) ns) ≡ true
  core true (Accept x t j) r is = accepts (same_ui q t) x t refl is
  core false (Accept x t j) r is = read-none r
  core true a r is = ih k (sym (cond_idem (are_same same_ui (Some q) (held_port_of a)) old) ∙ is)
  core false a r is = ih k (sym (cond_idem (are_same same_ui (Some q) (held_port_of a)) old) ∙ is)

kept-has : (l : Layout) (past : List Entry) (q : Ui) (s k : ℕ) → is_legal l past ≡ true → kept_row past q s ≡ Some k → Has k (requests q s (read past)) ≡ true
kept-has l [] q s k h is = none_some k is
kept-has l (e ∷ past) q s k h is =
    let legal = (legal_parts l e past h).1 in
    let grown = kept_grows past e q s (tag-by past e.act) (all_posted l past legal) (tag-had past e.act) in
    ap (Has k) (under (requests q s) (is_read e.act) (e ∷ read past) (read past))
    ∙ core past q s k (kept_row past q s) (requests q s (read past)) (λ n. kept-has l past q s n legal) (is_read e.act) e.act refl (sym grown ∙ is)

any-above : (n k : ℕ) (ns : List ℕ) → n ≤ k → Has k ns ≡ true → list_any (λ m. nat_le n m) ns ≡ true
any-above n k [] le h = absurd (false≢true h)
any-above n k (m ∷ ns) le h =
    elim (or_cases (m == k) (Has k ns) h) [
      | inl same ↦ or_left (nat_le n m) (list_any (λ i. nat_le n i) ns) (let is : m ≡ k = eqb-true m k same in le-leb n m (omega (arith, le, is)))
      | inr more ↦ or_right (nat_le n m) (list_any (λ i. nat_le n i) ns) (any-above n k ns le more)
    ]

pub old-request : (l : Layout) (past : List Entry) (x : MsgId) (q : Ui) → is_legal l past ≡ true → is_already x past (on q past) ≡ true → is_old_request x q (read past) ≡ true
old-request l past x q h is = ap (λ t. is_old t (requests q x.seat (read past))) (tag-read x past) ∙ by (tag_of x past) refl
  where
    reached : (n : ℕ) (o : Option ℕ) → kept_row past q x.seat ≡ o → is_reached n o ≡ true → list_any (λ m. nat_le n m) (requests q x.seat (read past)) ≡ true
    reached n None k r = absurd (false≢true r)
    reached n (Some m) k r = any-above n m (requests q x.seat (read past)) (leb-true n m r) (kept-has l past q x.seat m h k)

    by : (tag : Tag) → tag_of x past ≡ tag → is_old tag (requests q x.seat (read past)) ≡ true
    by Plain t = absurd (false≢true (ap (λ g. is_repeated x.seat g (clients_kept past (on q past))) (sym t) ∙ is))
    by (Reply c m) t = absurd (false≢true (ap (λ g. is_repeated x.seat g (clients_kept past (on q past))) (sym t) ∙ is))
    by (Request n back) t = reached n (kept_row past q x.seat) refl (sym (already_reads past q x n back (kept_row past q x.seat) t refl) ∙ is)
