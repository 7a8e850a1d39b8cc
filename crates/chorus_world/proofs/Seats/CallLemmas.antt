-- The posts of one request: all go to the port of the first, and what they send goes there too.
use Rattle.std.proofs.Common.{ℕ, ◌≡◌, ◌+◌, ◌<◌, ◌≤◌, ◌==◌, true, ◌&&◌, ◌||◌, max, List, [], ◌∷◌, Option, Some, None, is_some, is_none, refl, sym, ◌∙◌, ap, subst, arith, inl, inr}
use Rattle.std.specs.Option.{option_or}
use Rattle.std.proofs.lemmas.Bool.{and_parts, or_cases, eqb-true, eq-eqb, false≢true, cases_Bool}
use Rattle.chorus_ui.specs.declared.ui.Ui.{Ui}
use Rattle.chorus_ui.specs.declared.layout.Layout.{Layout}
use Rattle.chorus_ui.specs.Name.{same_ui}
use Rattle.chorus_ui.proofs.Names.{from_same_ui}
use Rattle.chorus_entry.specs.declared.entry.Entry.{Entry}
use Rattle.chorus_entry.specs.declared.id.MsgId.{MsgId}
use Rattle.chorus_entry.specs.declared.message.Message.{Message}
use Rattle.chorus_entry.specs.declared.tag.Tag.{Tag}
use Rattle.chorus_entry.specs.declared.tag.Tag.TheVariants.{Plain, Request, Reply}
use Rattle.chorus_entry.specs.declared.dest.Dest.{Dest}
use Rattle.chorus_entry.specs.declared.dest.Dest.TheVariants.{Port, All, One, OneAt}
use Rattle.chorus_entry.specs.declared.act.Act.{Act}
use Rattle.chorus_entry.specs.declared.act.Act.TheVariants.{Post}
use Rattle.chorus_entry.specs.Body.{same_body}
use Rattle.chorus_entry.specs.Dest.{group_in}
use Rattle.chorus_entry.specs.MsgId.{same_id}
use Rattle.chorus_world.specs.declared.place.Sent.{Sent}
use Rattle.chorus_world.specs.Views.{views, is_by, by}
use Rattle.chorus_entry.specs.Same.{are_same, is_number}
use Rattle.chorus_world.specs.Places.{sent_by, find_sent}
use Rattle.chorus_world.specs.Posts.{Posted, posted_by, posted_in, post_of, source}
use Rattle.chorus_world.specs.Seats.{Call, same_call, call, call_in, call_by, first_call, number_in, posts, posts_stay, requests, requests_after}
use Rattle.chorus_world.specs.Steps.{act_may, may_tag, may_request, is_legal}
use Rattle.chorus_world.proofs.Steps.LegalLemmas.{legal_parts, skips, keeps}
use Rattle.chorus_world.proofs.Ports.LineLemmas.{none_some}
use Rattle.chorus_world.proofs.Messages.SendingLemmas.{sent_as, or_some, from_or, some_is, cond_some, sent_before}
use Rattle.chorus_world.proofs.Messages.PostLemmas.{post_needs, post_stays}
use Rattle.chorus_world.proofs.Messages.MessageInvariant.{legal_messages}
use Rattle.chorus_world.proofs.Groups.ChoiceLemmas.{posted_is}
use Rattle.chorus_world.proofs.Seats.SenderLaws.{direct_act}

-- The first post of a request number.

pub call_is : (n : ℕ) (g : Tag) (d : Dest) (body : List ℕ) (c : Call) → call_in n g d body ≡ Some c → (g ≡ Request n c.back) × (d ≡ Port c.port)
call_is n (Request k back) (Port q) body c h =
    elim (cond_some (k == n) (record { port = q; back = back; body = body }) c None h) [
      | inl this ↦ (
          let number = eqb-true k n this.0 in
          let answer = ap (λ (z : Call). z.back) this.1 in
          (λ i. Request (number i) (answer i), ap (λ (z : Call). Port z.port) this.1))
      | inr none ↦ none_some c none.1
    ]
call_is n (Request k back) (All g) body c h = none_some c h
call_is n (Request k back) (One g) body c h = none_some c h
call_is n (Request k back) (OneAt g s) body c h = none_some c h
call_is n Plain d body c h = none_some c h
call_is n (Reply e k) d body c h = none_some c h

requests_grow : (a : Act) (k : ℕ) → k ≤ requests_after a k
requests_grow (Post m d) k = omega arith
requests_grow _ k = omega arith

call_bounds : (n : ℕ) (a : Act) (k : ℕ) (c : Call) → call_by n a ≡ Some c → n ≤ requests_after a k
call_bounds n (Post m d) k c h =
    subst (λ g. n ≤ max (number_in g) k) (sym (call_is n m.tag d m.body c h).0) (omega arith)
call_bounds n _ k c h = none_some c h

-- no number above the greatest was posted
pub first_bounds : (n : ℕ) (mine : List Entry) (c : Call) → first_call n mine ≡ Some c → n ≤ requests mine
first_bounds n [] c h = none_some c h
first_bounds n (e ∷ mine) c h =
    elim (from_or (first_call n mine) (call_by n e.act) c h) [
      | inl old ↦ (
          let le = first_bounds n mine c old in
          let more = requests_grow e.act (requests mine) in
          omega (arith, le, more))
      | inr new ↦ call_bounds n e.act (requests mine) c new.1
    ]

is_given : (o : Option Call) → is_some o ≡ true → (c : Call) × (o ≡ Some c)
is_given None h = absurd (false≢true h)
is_given (Some c) h = (c, refl)

-- a request is new, or goes to the port of its first post
goes_with : (n : ℕ) (mine : List Entry) (c : Call) (o p : Option Call) → first_call n mine ≡ o → p ≡ Some c → ((is_none (call mine) && (n == requests mine + 1)) || (is_number n (call mine) && are_same same_call (first_call n mine) p)) ≡ true → (f : Call) × (option_or o (Some c) ≡ Some f) × (f.port ≡ c.port)
goes_with n mine c None p e g h = (c, refl, refl)
goes_with n mine c (Some f) p e g h =
    elim (or_cases (is_none (call mine) && (n == requests mine + 1)) (is_number n (call mine) && are_same same_call (first_call n mine) p) h) [
      | inl new ↦ absurd (
          let le = first_bounds n mine f e in
          let is = eqb-true n (requests mine + 1) (and_parts (is_none (call mine)) (n == requests mine + 1) new).1 in
          omega (arith, le, is))
      | inr again ↦ (
          let both = (and_parts (is_number n (call mine)) (are_same same_call (first_call n mine) p) again).1 in
          let same : same_call f c ≡ true = (λ i. are_same same_call (sym e i) (sym g i)) ∙ both in
          let names = and_parts (same_ui f.port c.port && same_ui f.back c.back) (same_body f.body c.body) same in
          (f, refl, from_same_ui f.port c.port (and_parts (same_ui f.port c.port) (same_ui f.back c.back) names.0).0))
    ]

-- the first post of this number is known, and went to where the post d goes
abbrev FirstGoes : ℕ → List Entry → Posted → Type 0
FirstGoes n mine d = (f : Call) × (first_call n mine ≡ Some f) × (d.dest ≡ Port f.port)

called_now : (l : Layout) (past : List Entry) (e : Entry) (d : Posted) (n : ℕ) (b : Ui) → act_may l (views past e.place e.seat e.act) e.place e.seat e.act ≡ true → e.act ≡ Post d.message d.dest → d.message.tag ≡ Request n b → FirstGoes n (e ∷ by e.seat past) d
called_now l past e d n b h a t =
    let m = d.message in
    let mine = by e.seat past in
    let v = views past e.place e.seat (Post m d.dest) in
    let may : act_may l v e.place e.seat (Post m d.dest) ≡ true = subst (λ z. act_may l (views past e.place e.seat z) e.place e.seat z ≡ true) a h in
    let tag = (and_parts ((m.id.seat == e.seat) && (m.id.number == posts mine + 1) && (m.id.copy == 0) && posts_stay e.place mine) (may_tag v m d.dest m.tag) may).1 in
    let request : may_request v n m d.dest ≡ true = subst (λ g. may_tag v m d.dest g ≡ true) t tag in
    let p = call_in n m.tag d.dest m.body in
    let two = and_parts (is_some p) ((is_none (call mine) && (n == requests mine + 1)) || (is_number n (call mine) && are_same same_call (first_call n mine) p)) request in
    let c = is_given p two.0 in
    let f = goes_with n mine c.0 (first_call n mine) p refl c.1 two.1 in
    let found : call_by n e.act ≡ Some c.0 = ap (call_by n) a ∙ c.1 in (
      f.0,
      ap (option_or (first_call n mine)) found ∙ f.1,
      (call_is n m.tag d.dest m.body c.0 c.1).1 ∙ ap (λ z. Port z) (sym f.2),
    )

-- in a legal past each post of a request goes to the port of the first
pub request_goes : (l : Layout) (past : List Entry) (x : MsgId) (d : Posted) (n : ℕ) (b : Ui) → is_legal l past ≡ true → post_of x past ≡ Some d → d.message.tag ≡ Request n b → FirstGoes n (by x.seat past) d
request_goes l [] x d n b h k t = none_some d k
request_goes l (e ∷ past) x d n b h k t =
    let two = legal_parts l e past h in
    elim (cases_Bool (is_by x.seat e)) [
      | inl y ↦ (
          let view : by x.seat (e ∷ past) ≡ e ∷ by x.seat past = keeps (is_by x.seat) e past y in
          elim (from_or (post_of x past) (posted_by (source x) e.place e.act) d (ap (posted_in (source x)) (sym view) ∙ k)) [
            | inl old ↦ (
                let f = request_goes l past x d n b two.1 old t in
                (f.0, ap (first_call n) view ∙ or_some (first_call n (by x.seat past)) (call_by n e.act) f.0 f.1, f.2))
            | inr new ↦ (
                let post = posted_is (source x) e.place e.act d new.1 in
                let now = called_now l past e d n b two.0 post.act t in
                let seat : e.seat ≡ x.seat = eqb-true e.seat x.seat y in
                (now.0, ap (first_call n) view ∙ (ap (λ s. first_call n (e ∷ by s past)) (sym seat) ∙ now.1), now.2))
          ])
      | inr f ↦ (
          let view : by x.seat (e ∷ past) ≡ by x.seat past = skips (is_by x.seat) e past f in
          let old = request_goes l past x d n b two.1 (ap (posted_in (source x)) (sym view) ∙ k) t in
          (old.0, ap (first_call n) view ∙ old.1, old.2))
    ]

-- What is posted to a port.

same_dest : (m n : Message) (d f : Dest) → Post m d ≡ Post n f → d ≡ f
same_dest m n d f h = cc

-- what the entry posts is the post of its id
post_now : (l : Layout) (past : List Entry) (e : Entry) (x : MsgId) (m : Message) (to : Dest) (d : Posted) → is_legal l (e ∷ past) ≡ true → e.act ≡ Post m to → m.id ≡ x → post_of x (e ∷ past) ≡ Some d → to ≡ d.dest
post_now l past e x m to d h a i f =
    let two = legal_parts l e past h in
    let needs = post_needs l past e.place e.seat m to (subst (λ z. act_may l (views past e.place e.seat z) e.place e.seat z ≡ true) a two.0) in
    let seat : e.seat ≡ x.seat = sym needs.seat ∙ ap (λ (y : MsgId). y.seat) i in
    let number : x.number ≡ posts (by e.seat past) + 1 = ap (λ (y : MsgId). y.number) (sym i) ∙ needs.number in
    let fresh : posts (by x.seat past) < x.number = subst (λ s. posts (by s past) < x.number) seat (omega (arith, number)) in
    let none : post_of x past ≡ None = (legal_messages l past two.1 x).unposted fresh in
    let view : by x.seat (e ∷ past) ≡ e ∷ by x.seat past = keeps (is_by x.seat) e past (eq-eqb e.seat x.seat seat) in
    elim (from_or (post_of x past) (posted_by (source x) e.place e.act) d (ap (posted_in (source x)) (sym view) ∙ f)) [
      | inl old ↦ none_some d (sym none ∙ old)
      | inr new ↦ same_dest m d.message to d.dest (sym a ∙ (posted_is (source x) e.place e.act d new.1).act)
    ]

port_sent : (x : MsgId) (n : Message) (q : Ui) (m : Sent) → find_sent x (sent_by (Post n (Port q))) ≡ Some m → m.port ≡ q
port_sent x n q m h =
    elim (cond_some (same_id n.id x) (record { id = n.id; port = q; route = None }) m None h) [
      | inl this ↦ ap (λ (z : Sent). z.port) (sym this.1)
      | inr none ↦ none_some m none.1
    ]

-- it is sent to that port
pub direct_port : (l : Layout) (past : List Entry) (p : ℕ) (x : MsgId) (m : Sent) (d : Posted) (q : Ui) → is_legal l past ≡ true → sent_as x p past ≡ Some m → post_of x past ≡ Some d → d.dest ≡ Port q → m.port ≡ q
direct_port l [] p x m d q h k f g = none_some m k
direct_port l (e ∷ past) p x m d q h k f g =
    let two = legal_parts l e past h in
    elim (sent_before x p past e m k) [
      | inl old ↦ (
          let o = (legal_messages l past two.1 x).origin p m old in
          let same : o.post ≡ d = some_is o.post d (sym (post_stays x past e o.post o.posted) ∙ f) in
          direct_port l past p x m d q two.1 old (o.posted ∙ ap (λ z. Some z) same) g)
      | inr new ↦ (
          let o = (legal_messages l (e ∷ past) h x).origin p m k in
          let same : o.post ≡ d = some_is o.post d (sym o.posted ∙ f) in
          let route : m.route ≡ None = o.route ∙ (ap (λ (z : Posted). group_in z.dest) same ∙ ap group_in g) in
          let c = direct_act x e.act m new.1 route in
          let to : c.1 ≡ Port q = post_now l past e x c.0 c.1 d h c.2 c.3 f ∙ g in
          let act : e.act ≡ Post c.0 (Port q) = c.2 ∙ ap (λ z. Post c.0 z) to in
          port_sent x c.0 q m (ap (λ a. find_sent x (sent_by a)) (sym act) ∙ new.1))
    ]
