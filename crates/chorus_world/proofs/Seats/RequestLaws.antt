-- A port accepts the requests of each client in the order of their numbers, and each request is accepted at most once.
use Rattle.std.proofs.Common.{ℕ, ◌≡◌, ◌<◌, true, false, List, [], ◌∷◌, Option, Some, None, refl, sym, ◌∙◌, ap, subst, arith, inl, inr}
use Rattle.std.specs.List.{slice_get}
use Rattle.std.proofs.lemmas.Bool.{and_parts, cases_lt, false≢true}
use Rattle.std.proofs.lemmas.Bool.Decides.{nat_tests}
use Rattle.std.proofs.lemmas.Option.{slice_get_within}
use Rattle.chorus_ui.specs.declared.ui.Ui.{Ui}
use Rattle.chorus_ui.specs.declared.layout.Layout.{Layout}
use Rattle.chorus_entry.specs.declared.entry.Entry.{Entry}
use Rattle.chorus_entry.specs.declared.id.MsgId.{MsgId}
use Rattle.chorus_entry.specs.declared.tag.Tag.TheVariants.{Request}
use Rattle.chorus_entry.specs.declared.act.Act.{Act}
use Rattle.chorus_entry.specs.declared.act.Act.TheVariants.{Accept}
use Rattle.chorus_world.specs.Views.{views, by, on}
use Rattle.chorus_world.specs.Ports.{fate, has_room}
use Rattle.chorus_world.specs.Posts.{Posted, post_of, tag_of, tag_from}
use Rattle.chorus_world.specs.Seats.{Call, first_call}
use Rattle.chorus_entry.specs.ClientTable.{number_of}
use Rattle.chorus_entry.specs.Clients.{is_reached, is_repeated, remembered}
use Rattle.chorus_entry.proofs.Clients.{reached-now, reached-later}
use Rattle.chorus_world.specs.Clients.{clients_after, clients_kept}
use Rattle.chorus_world.specs.Steps.{act_may, may_enter, is_legal}
use Rattle.chorus_world.specs.AcceptedLaws.{accepted_by, accepted_from}
use Rattle.chorus_world.proofs.Steps.LegalLemmas.{legal_parts}
use Rattle.chorus_world.proofs.Messages.SendingLemmas.{some_is}
use Rattle.chorus_world.proofs.Messages.DueLemmas.{enters}
use Rattle.chorus_world.proofs.Messages.PostLemmas.{post_stays}
use Rattle.chorus_world.proofs.Messages.AcceptedLemmas.{accepted_after, accepted_before, accepted_belongs, accepted_posted, accept_waits, waiting_posted}
use Rattle.chorus_world.proofs.Seats.CallLemmas.{request_goes, direct_port}

-- what a port remembers of a client only grows
stays : (past : List Entry) (a : Act) (c n : ℕ) (table : List (ℕ × ℕ)) → is_reached n (number_of table c) ≡ true → is_reached n (number_of (clients_after past a table) c) ≡ true
stays past (Accept x q p) c n table h = reached-later x.seat (tag_of x past) table c n h
stays past _ c n table h = h

accepted_now : (past : List Entry) (x : MsgId) (n : ℕ) (b : Ui) (table : List (ℕ × ℕ)) → tag_of x past ≡ Request n b → is_reached n (number_of (remembered x.seat (tag_of x past) table) x.seat) ≡ true
accepted_now past x n b table h =
    ap (λ g. is_reached n (number_of (remembered x.seat g table) x.seat)) h ∙ reached-now x.seat n b table

-- no accepted request of the client has a greater number than is remembered
kept_bounds : (past port : List Entry) (i : ℕ) (x : MsgId) (n : ℕ) (b : Ui) → slice_get (accepted_from (fate port)) i ≡ Some x → tag_of x past ≡ Request n b → is_reached n (number_of (clients_kept past port) x.seat) ≡ true
kept_bounds past [] i x n b k h = absurd (let lt : i < 0 = slice_get_within [] i x k in omega arith)
kept_bounds past (e ∷ port) i x n b k h =
    elim (accepted_after e.act e.place (fate port) i x k) [
      | inl old ↦ stays past e.act x.seat n (clients_kept past port) (kept_bounds past port i x n b old h)
      | inr new ↦ (
          let now = accepted_now past x n b (clients_kept past port) h in
          subst (λ a. is_reached n (number_of (clients_after past a (clients_kept past port)) x.seat) ≡ true) (sym new.2) now)
    ]

not_reached : (n m : ℕ) (o : Option ℕ) → is_reached n o ≡ true → is_reached m o ≡ false → n < m
not_reached n m None h k = absurd (false≢true h)
not_reached n m (Some kept) h k = grind (arith, nat_tests, h, k)

same_tag : (x : MsgId) (past : List Entry) (e : Entry) (d : Posted) → post_of x past ≡ Some d → tag_of x (e ∷ past) ≡ tag_of x past
same_tag x past e d h = ap tag_from (post_stays x past e d h ∙ sym h)

-- the request y is accepted now, and x was before
request_now : (l : Layout) (past : List Entry) (e : Entry) (q : Ui) (i : ℕ) (x y : MsgId) (p n m : ℕ) (b c : Ui) → e.act ≡ Accept y q p → is_legal l (e ∷ past) ≡ true → slice_get (accepted_by q past) i ≡ Some x → x.seat ≡ y.seat → tag_of x past ≡ Request n b → tag_of y (e ∷ past) ≡ Request m c → n < m
request_now l past e q i x y p n m b c a h old s tx u =
    let two = legal_parts l e past h in
    let py = waiting_posted l past q y two.1 (accept_waits l past e y q p h a) in
    let ty : tag_of y past ≡ Request m c = sym (same_tag y past e py.0 py.1) ∙ u in
    let v = views past e.place e.seat (Accept y q p) in
    let may : act_may l v e.place e.seat (Accept y q p) ≡ true = subst (λ z. act_may l (views past e.place e.seat z) e.place e.seat z ≡ true) a two.0 in
    let fresh = (enters l past e.place y q v refl refl (and_parts (may_enter l v e.place y q) (has_room p (fate v.port)) may).0).2 in
    let table = clients_kept past (on q past) in
    let above : is_reached m (number_of table y.seat) ≡ false = ap (λ g. is_repeated y.seat g table) (sym ty) ∙ fresh in
    let below : is_reached n (number_of table y.seat) ≡ true = subst (λ z. is_reached n (number_of table z) ≡ true) s (kept_bounds past (on q past) i x n b old tx) in
    not_reached n m (number_of table y.seat) below above

pub requests_rise : (l : Layout) (past : List Entry) (q : Ui) (i j : ℕ) (x y : MsgId) (n m : ℕ) (b c : Ui) → is_legal l past ≡ true → i < j → slice_get (accepted_by q past) i ≡ Some x → slice_get (accepted_by q past) j ≡ Some y → x.seat ≡ y.seat → tag_of x past ≡ Request n b → tag_of y past ≡ Request m c → n < m
requests_rise l [] q i j x y n m b c h lt a k s t u = absurd (let z : i < 0 = slice_get_within [] i x a in omega arith)
requests_rise l (e ∷ past) q i j x y n m b c h lt a k s t u =
    let two = legal_parts l e past h in
    elim (accepted_before q past e i x a) [
      | inr new ↦ elim (accepted_before q past e j y k) [
        | inl late ↦ absurd (let z = slice_get_within (accepted_by q past) j y late in omega (arith, new.2, z, lt))
        | inr late ↦ absurd (omega (arith, new.2, late.2, lt))
      ]
      | inl old ↦ (
          let px = accepted_posted l past q i x two.1 old in
          let tx : tag_of x past ≡ Request n b = sym (same_tag x past e px.0 px.1) ∙ t in
          elim (accepted_before q past e j y k) [
            | inl late ↦ (
                let py = accepted_posted l past q j y two.1 late in
                let ty : tag_of y past ≡ Request m c = sym (same_tag y past e py.0 py.1) ∙ u in
                requests_rise l past q i j x y n m b c two.1 lt old late s tx ty)
            | inr new ↦ request_now l past e q i x y new.0 n m b c new.1 h old s tx u
          ])
    ]

once_here : (l : Layout) (past : List Entry) (q : Ui) (i j : ℕ) (x y : MsgId) (n : ℕ) (b c : Ui) → is_legal l past ≡ true → slice_get (accepted_by q past) i ≡ Some x → slice_get (accepted_by q past) j ≡ Some y → x.seat ≡ y.seat → tag_of x past ≡ Request n b → tag_of y past ≡ Request n c → i ≡ j
once_here l past q i j x y n b c h a k s t u =
    elim (cases_lt i j) [
      | inl less ↦ absurd (let f = requests_rise l past q i j x y n n b c h less a k s t u in omega arith)
      | inr le ↦ elim (cases_lt j i) [
        | inl more ↦ absurd (let f = requests_rise l past q j i y x n n c b h more k a (sym s) u t in omega arith)
        | inr ge ↦ (omega arith)
      ]
    ]

-- a port that accepted a request is the one that its first post goes to
port_called : (l : Layout) (past : List Entry) (q : Ui) (i : ℕ) (x : MsgId) (n : ℕ) (b : Ui) → is_legal l past ≡ true → slice_get (accepted_by q past) i ≡ Some x → tag_of x past ≡ Request n b → (f : Call) × (first_call n (by x.seat past) ≡ Some f) × (q ≡ f.port)
port_called l past q i x n b h a t =
    let d = accepted_posted l past q i x h a in
    let f = request_goes l past x d.0 n b h d.1 (ap tag_from (sym d.1) ∙ t) in
    let k = accepted_belongs l past q i x h a in
    (f.0, f.1, sym k.port ∙ direct_port l past k.place x k.message d.0 f.0.port h k.is d.1 f.2)

pub requests_once : (l : Layout) (past : List Entry) (q r : Ui) (i j : ℕ) (x y : MsgId) (n : ℕ) (b c : Ui) → is_legal l past ≡ true → slice_get (accepted_by q past) i ≡ Some x → slice_get (accepted_by r past) j ≡ Some y → x.seat ≡ y.seat → tag_of x past ≡ Request n b → tag_of y past ≡ Request n c → (q ≡ r) × (i ≡ j)
requests_once l past q r i j x y n b c h a k s t u =
    let f = port_called l past q i x n b h a t in
    let g = port_called l past r j y n c h k u in
    let same : f.0 ≡ g.0 = some_is f.0 g.0 (sym f.1 ∙ (ap (λ z. first_call n (by z past)) s ∙ g.1)) in
    let port : q ≡ r = f.2 ∙ (ap (λ (z : Call). z.port) same ∙ sym g.2) in
    (port, once_here l past r i j x y n b c h (ap (λ z. slice_get (accepted_by z past) i) (sym port) ∙ a) k s t u)
