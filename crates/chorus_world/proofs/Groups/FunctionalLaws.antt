-- A functional post has at most one copy, and is accepted at most once, at a site only there.
use Rattle.std.proofs.Common.{ℕ, ◌≡◌, ◌+◌, ◌≤◌, suc, true, false, ◌||◌, ◌⊎◌, cond, List, [], ◌∷◌, ◌++◌, length, Option, Some, None, refl, sym, ◌∙◌, ap, subst, arith, inl, inr}
use Rattle.std.specs.List.{slice_get, find}
use Rattle.std.proofs.lemmas.Bool.{and_parts, eqb-true, false≢true, cases_Bool, or_left}
use Rattle.std.proofs.lemmas.List.{append-nil}
use Rattle.chorus_ui.specs.declared.ui.Ui.{Ui}
use Rattle.chorus_ui.specs.declared.layout.Layout.{Layout}
use Rattle.chorus_ui.specs.Layout.{site_of}
use Rattle.chorus_entry.specs.declared.entry.Entry.{Entry}
use Rattle.chorus_entry.specs.declared.id.MsgId.{MsgId}
use Rattle.chorus_entry.specs.declared.dest.Dest.{Dest}
use Rattle.chorus_entry.specs.declared.dest.Dest.TheVariants.{Port, All, One, OneAt}
use Rattle.chorus_entry.specs.declared.act.Act.{Act}
use Rattle.chorus_entry.specs.declared.act.Act.TheVariants.{Accept, Choose}
use Rattle.chorus_entry.specs.Dest.{group_in}
use Rattle.chorus_entry.specs.MsgId.{same_id}
use Rattle.chorus_entry.proofs.Same.{from_same_id, same_id-self}
use Rattle.chorus_world.specs.declared.place.Sent.{Sent}
use Rattle.chorus_world.specs.Views.{views, at, about, is_about}
use Rattle.chorus_world.specs.Ports.{fate, has_room}
use Rattle.chorus_world.specs.Places.{copies, find_sent}
use Rattle.chorus_world.specs.Posts.{source, site_asked, Posted, post_of, is_on_site}
use Rattle.chorus_world.specs.Groups.{choice, in_turn, is_at_site, is_chosen, chooses}
use Rattle.chorus_entry.specs.Members.{listed, first_of}
use Rattle.chorus_world.specs.Steps.{act_may, may_enter, is_legal}
use Rattle.chorus_world.specs.AcceptedLaws.{accepted_by}
use Rattle.chorus_world.specs.GroupLaws.{is_functional, copies_by, copies_of}
use Rattle.chorus_world.proofs.Steps.LegalLemmas.{legal_parts, keeps}
use Rattle.chorus_world.proofs.Ports.LineLemmas.{none_some}
use Rattle.chorus_world.proofs.Messages.SendingLemmas.{sent_as, cond_some, some_is, sent_before}
use Rattle.chorus_world.proofs.Messages.DueLemmas.{enters}
use Rattle.chorus_world.proofs.Messages.PostLemmas.{post_stays, ChoiceNeeds, choose_needs, asked_facts, same_post}
use Rattle.chorus_world.proofs.Messages.MessageInvariant.{unchosen_before, legal_messages}
use Rattle.chorus_world.proofs.Messages.AcceptedLemmas.{accepted_belongs}
use Rattle.chorus_world.proofs.Messages.OnceLaws.{stands_once}
use Rattle.chorus_world.proofs.Groups.MemberLemmas.{choose_members}
use Rattle.chorus_world.proofs.Groups.ChoiceLemmas.{new_copy}

listed_one : (o : Option Ui) → length (listed o) ≤ 1
listed_one None = omega arith
listed_one (Some q) = omega arith

-- a functional post chooses one member
one_chosen : (l : Layout) (d : Dest) (here : List Entry) → is_functional d ≡ true → length (choice l d here) ≤ 1
one_chosen l (Port q) here h = absurd (false≢true h)
one_chosen l (All g) here h = absurd (false≢true h)
one_chosen l (One g) here h = listed_one (first_of (in_turn g here))
one_chosen l (OneAt g s) here h = listed_one (find (is_at_site l s here) (in_turn g here))

one_member : (l : Layout) (past : List Entry) (p s : ℕ) (x : MsgId) (g : Ui) (qs : List Ui) (needs : ChoiceNeeds l past p x g) → act_may l (views past p s (Choose x g qs)) p s (Choose x g qs) ≡ true → is_functional needs.dest ≡ true → length qs ≤ 1
one_member l past p s x g qs needs h f =
    let is = (choose_members l past p s x g qs needs h).0 in
    subst (λ z. length z ≤ 1) (sym is) (one_chosen l needs.dest (at p past) f)

pub copies_length : (x : MsgId) (g : Ui) (n : ℕ) (qs : List Ui) → length (copies x g n qs) ≡ length qs
copies_length x g n [] = refl
copies_length x g n (q ∷ qs) = ap (λ k. suc k) (copies_length x g (n + 1) qs)

-- an act makes no copy of x, or is its Choose
pub copies_case : (x : MsgId) (a : Act) → (copies_by x a ≡ []) ⊎ ((g : Ui) × (qs : List Ui) × (a ≡ Choose x g qs))
copies_case x (Choose y g qs) =
    elim (cases_Bool (same_id y x)) [
      | inl t ↦ inr (g, qs, ap (λ z. Choose z g qs) (from_same_id y x t))
      | inr f ↦ inl (ap (λ b. cond b (copies y g 1 qs) []) f)
    ]
copies_case x _ = inl refl

-- a post without a Choose has no copy
pub no_copies : (x : MsgId) (past : List Entry) → is_chosen x (about x past) ≡ false → copies_of x past ≡ []
no_copies x [] h = refl
no_copies x (e ∷ past) h =
    let old = no_copies x past (unchosen_before x past e h) in
    elim (copies_case x e.act) [
      | inl none ↦ (λ i. old i ++ none i)
      | inr c ↦ (
          let about_x : is_about (Some x) e ≡ true = ap (λ a. is_about (Some x) (record { clock = e.clock; place = e.place; seat = e.seat; act = a })) c.2 ∙ same_id-self x in
          let view : about x (e ∷ past) ≡ e ∷ about x past = keeps (is_about (Some x)) e past about_x in
          let now : is_chosen x (about x (e ∷ past)) ≡ true = ap (is_chosen x) view ∙ (ap (λ a. chooses x a || is_chosen x (about x past)) c.2 ∙ or_left (same_id x x) (is_chosen x (about x past)) (same_id-self x)) in
          absurd (false≢true (sym h ∙ now)))
    ]

-- a post has no copy, or is posted and then, if it is functional, has one at most
abbrev HasFewCopies : MsgId → List Entry → Type 0
HasFewCopies x past =
    (copies_of x past ≡ []) ⊎ ((d : Posted) × (post_of x past ≡ Some d) × (is_functional d.dest ≡ true → length (copies_of x past) ≤ 1))

few_copies : (l : Layout) (past : List Entry) (x : MsgId) → is_legal l past ≡ true → HasFewCopies x past
few_copies l [] x h = inl refl
few_copies l (e ∷ past) x h =
    let two = legal_parts l e past h in
    elim (copies_case x e.act) [
      | inl none ↦ (
          let same : copies_of x (e ∷ past) ≡ copies_of x past = ap (λ z. copies_of x past ++ z) none ∙ append-nil (copies_of x past) in
          elim (few_copies l past x two.1) [
            | inl no_ ↦ inl (same ∙ no_)
            | inr few ↦ inr (few.0, post_stays x past e few.0 few.1, λ f. subst (λ z. length z ≤ 1) (sym same) (few.2 f))
          ])
      | inr c ↦ (
          let g = c.0 in
          let qs = c.1 in
          let may = subst (λ a. act_may l (views past e.place e.seat a) e.place e.seat a ≡ true) c.2 two.0 in
          let needs = choose_needs l past e.place e.seat x g qs may in
          let asked = asked_facts x past needs.from needs.dest (legal_messages l past two.1 x) needs.asked in
          let old = no_copies x past asked.0.chosen in
          let now : copies_of x (e ∷ past) ≡ copies x g 1 qs = (λ i. old i ++ copies_by x (c.2 i)) ∙ ap (λ b. cond b (copies x g 1 qs) []) (same_id-self x) in
          inr (
            asked.1.post,
            post_stays x past e asked.1.post asked.1.posted,
            λ f. (
                let one = one_member l past e.place e.seat x g qs needs may (ap is_functional (sym asked.1.dest) ∙ f) in
                subst (λ z. length z ≤ 1) (sym now) (omega (arith, copies_length x g 1 qs, one))),
          ))
    ]

pub has_one_copy : (l : Layout) (past : List Entry) (x : MsgId) (post : Posted) → is_legal l past ≡ true → post_of x past ≡ Some post → is_functional post.dest ≡ true → length (copies_of x past) ≤ 1
has_one_copy l past x d h e f =
    elim (few_copies l past x h) [
      | inl none ↦ subst (λ z. length z ≤ 1) (sym none) (omega arith)
      | inr few ↦ (
          let same : few.0 ≡ d = some_is few.0 d (sym few.1 ∙ e) in
          few.2 (ap (λ (z : Posted). is_functional z.dest) same ∙ f))
    ]

-- the copy of a functional post has number 1
copy_one : (x y : MsgId) (g : Ui) (qs : List Ui) (m : Sent) → length qs ≤ 1 → find_sent x (copies y g 1 qs) ≡ Some m → x.copy ≡ 1
copy_one x y g [] m n h = none_some m h
copy_one x y g (q ∷ []) m n h =
    let k : Sent = record { id = record y { copy = 1 }; port = q; route = Some g } in
    elim (cond_some (same_id k.id x) k m None h) [
      | inl this ↦ sym (ap (λ (z : MsgId). z.copy) (from_same_id k.id x this.0))
      | inr none ↦ none_some m none.1
    ]
copy_one x y g (q ∷ r ∷ qs) m n h = absurd (omega arith)

functional_copy : (l : Layout) (past : List Entry) (p : ℕ) (x : MsgId) (m : Sent) (g : Ui) (d : Posted) → is_legal l past ≡ true → sent_as x p past ≡ Some m → m.route ≡ Some g → post_of x past ≡ Some d → is_functional d.dest ≡ true → x.copy ≡ 1
functional_copy l [] p x m g d h k r e f = none_some m k
functional_copy l (e ∷ past) p x m g d h k r j f =
    let two = legal_parts l e past h in
    elim (sent_before x p past e m k) [
      | inl old ↦ (
          let o = (legal_messages l past two.1 x).origin p m old in
          let same : o.post ≡ d = some_is o.post d (sym (post_stays x past e o.post o.posted) ∙ j) in
          functional_copy l past p x m g d two.1 old r (o.posted ∙ ap (λ z. Some z) same) f)
      | inr new ↦ (
          let c = new_copy l past e x g m h new.1 r in
          let asked = (asked_facts c.post past c.needs.from c.needs.dest (legal_messages l past two.1 c.post) c.needs.asked).1 in
          let posted : post_of x past ≡ Some asked.post = same_post x c.post past c.seat c.number ∙ asked.posted in
          let same : asked.post ≡ d = some_is asked.post d (sym (post_stays x past e asked.post posted) ∙ j) in
          let one = one_member l past e.place e.seat c.post g c.members c.needs c.may (ap is_functional (sym asked.dest) ∙ (ap (λ (z : Posted). is_functional z.dest) same ∙ f)) in
          copy_one x c.post g c.members m one c.found)
    ]

functional_group : (d : Dest) → is_functional d ≡ true → (g : Ui) × (group_in d ≡ Some g)
functional_group (Port q) h = absurd (false≢true h)
functional_group (All g) h = absurd (false≢true h)
functional_group (One g) h = (g, refl)
functional_group (OneAt g s) h = (g, refl)

accepted_copy : (l : Layout) (past : List Entry) (q : Ui) (i : ℕ) (x : MsgId) (d : Posted) → is_legal l past ≡ true → post_of x past ≡ Some d → is_functional d.dest ≡ true → slice_get (accepted_by q past) i ≡ Some x → x.copy ≡ 1
accepted_copy l past q i x d h e f k =
    let b = accepted_belongs l past q i x h k in
    let o = (legal_messages l past h x).origin b.place b.message b.is in
    let same : o.post ≡ d = some_is o.post d (sym o.posted ∙ e) in
    let g = functional_group d.dest f in
    let route : b.message.route ≡ Some g.0 = o.route ∙ (ap (λ (z : Posted). group_in z.dest) same ∙ g.1) in
    functional_copy l past b.place x b.message g.0 d h b.is route e f

pub is_accepted_once : (l : Layout) (past : List Entry) (q r : Ui) (i j : ℕ) (x y : MsgId) (post : Posted) → is_legal l past ≡ true → post_of x past ≡ Some post → is_functional post.dest ≡ true → source x ≡ source y → slice_get (accepted_by q past) i ≡ Some x → slice_get (accepted_by r past) j ≡ Some y → (x ≡ y) × (q ≡ r) × (i ≡ j)
is_accepted_once l past q r i j x y d h e f s a b =
    let seat : x.seat ≡ y.seat = ap (λ (z : MsgId). z.seat) s in
    let number : x.number ≡ y.number = ap (λ (z : MsgId). z.number) s in
    let posted : post_of y past ≡ Some d = sym (same_post x y past seat number) ∙ e in
    let copy : x.copy ≡ y.copy = accepted_copy l past q i x d h e f a ∙ sym (accepted_copy l past r j y d h posted f b) in
    let same : x ≡ y = (λ k. record { seat = seat k; number = number k; copy = copy k }) in
    let two = stands_once l past q r i j x h a (b ∙ ap (λ z. Some z) (sym same)) in
    (same, two.0, two.1)

pub is_accepted_on_site : (l : Layout) (past : List Entry) (e : Entry) (x : MsgId) (port : Ui) (position site : ℕ) → is_legal l (e ∷ past) ≡ true → e.act ≡ Accept x port position → site_asked x past ≡ Some site → site_of l e.place ≡ site
is_accepted_on_site l past e x q n s h a k =
    let p = e.place in
    let v = views past p e.seat (Accept x q n) in
    let may : act_may l v p e.seat (Accept x q n) ≡ true = subst (λ z. act_may l (views past p e.seat z) p e.seat z ≡ true) a (legal_parts l e past h).0 in
    let suits = (enters l past p x q v refl refl (and_parts (may_enter l v p x q) (has_room n (fate v.port)) may).0).1 in
    eqb-true (site_of l p) s (ap (λ z. is_on_site l z p) (sym k) ∙ suits)
