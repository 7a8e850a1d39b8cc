-- In a legal past a post to a group has its choice at the place where its members are chosen, and nowhere else.
use Rattle.std.proofs.Common.{ℕ, ◌≡◌, Bool, true, false, ◌||◌, not, cond, List, [], ◌∷◌, find, filter, Some, refl, sym, ◌∙◌, ap, subst, inl, inr}
use Rattle.std.specs.Prelude.{unwrap_or}
use Rattle.std.proofs.lemmas.Bool.{cases_Bool, eqb-true, false≢true, or_left}
use Rattle.chorus_ui.specs.declared.layout.Layout.{Layout}
use Rattle.chorus_ui.specs.declared.ui.Ui.{Ui}
use Rattle.chorus_ui.specs.Layout.{group_place}
use Rattle.chorus_entry.specs.declared.entry.Entry.{Entry}
use Rattle.chorus_entry.specs.declared.id.MsgId.{MsgId}
use Rattle.chorus_entry.specs.declared.act.Act.{Act}
use Rattle.chorus_entry.specs.declared.act.Act.TheVariants.{NoMember, Choose}
use Rattle.chorus_entry.specs.Dest.{group_in}
use Rattle.chorus_entry.specs.Order.{is_at}
use Rattle.chorus_entry.proofs.Same.{from_same_id}
use Rattle.chorus_world.specs.Views.{views, at}
use Rattle.chorus_world.specs.Groups.{chooses, first_unchosen, is_chosen, posts_to}
use Rattle.chorus_world.specs.Posts.{Posted, post_of}
use Rattle.chorus_world.specs.Steps.{act_may, is_legal}
use Rattle.chorus_world.proofs.Steps.LegalLemmas.{legal_parts}
use Rattle.chorus_world.proofs.Groups.GroupFacts.{EachId, IsPostTo, listed}
use Rattle.chorus_world.proofs.Messages.MessageInvariant.{legal_messages}
use Rattle.chorus_world.proofs.Messages.PostLemmas.{ChoiceNeeds, asked_facts, choose_needs, no_member_needs, post_stays}
use Rattle.chorus_world.proofs.Messages.SendingLemmas.{at_same}
use Rattle.checker_ledger.specs.Asks.{is_unchosen}
use Rattle.checker_rows.proofs.OpenLines.{same_first}

-- the place where members are chosen for a post to the group that was made at the place `from`
abbrev pub choosing : Layout → Ui → ℕ → ℕ
choosing l g from = unwrap_or (group_place l g) from

-- the post has its choice there
record HasChoice (l : Layout) (x : MsgId) (past : List Entry) : Type 0 where
  post : Posted
  group : Ui
  is : post_of x past ≡ Some post
  to : group_in post.dest ≡ Some group
  chosen : is_chosen x (at (choosing l group post.place) past) ≡ true

chosen_here : (x : MsgId) (e : Entry) (here : List Entry) (b : Bool) → is_chosen x here ≡ true → is_chosen x (cond b (e ∷ here) here) ≡ true
chosen_here x e here true h = or_true (chooses x e.act) (is_chosen x here) h
  where
    or_true : (b c : Bool) → c ≡ true → (b || c) ≡ true
    or_true true c k = refl
    or_true false c k = k
chosen_here x e here false h = h

choice_stays : (l : Layout) (x : MsgId) (past : List Entry) (e : Entry) → HasChoice l x past → HasChoice l x (e ∷ past)
choice_stays l x past e c =
    let p = choosing l c.group c.post.place in
    record { post = c.post; group = c.group; is = post_stays x past e c.post c.is; to = c.to; chosen = chosen_here x e (at p past) (is_at p e) c.chosen }

-- the entry chooses for it
chosen_now : (l : Layout) (x : MsgId) (past : List Entry) (e : Entry) (g : Ui) → is_legal l past ≡ true → ChoiceNeeds l past e.place x g → chooses x e.act ≡ true → HasChoice l x (e ∷ past)
chosen_now l x past e g legal needs now =
    let asked = (asked_facts x past needs.from needs.dest (legal_messages l past legal x) needs.asked).1 in
    let place : choosing l g asked.post.place ≡ e.place = ap (choosing l g) asked.place ∙ eqb-true (choosing l g needs.from) e.place needs.place in
    let here : is_chosen x (at e.place (e ∷ past)) ≡ true = ap (is_chosen x) (at_same e.place e past refl) ∙ or_left (chooses x e.act) (is_chosen x (at e.place past)) now in
    record {
      post = asked.post;
      group = g;
      is = post_stays x past e asked.post asked.posted;
      to = ap group_in asked.dest ∙ needs.group;
      chosen = subst (λ p. is_chosen x (at p (e ∷ past)) ≡ true) (sym place) here;
    }

choice_act : (l : Layout) (x : MsgId) (past : List Entry) (e : Entry) (a : Act) → e.act ≡ a → is_legal l past ≡ true → act_may l (views past e.place e.seat a) e.place e.seat a ≡ true → chooses x a ≡ true → HasChoice l x (e ∷ past)
choice_act l x past e (Choose y g qs) is legal may now =
    let same = from_same_id y x now in
    chosen_now l x past e g legal (subst (λ z. ChoiceNeeds l past e.place z g) same (choose_needs l past e.place e.seat y g qs may)) (ap (chooses x) is ∙ now)
choice_act l x past e (NoMember y g) is legal may now =
    let same = from_same_id y x now in
    chosen_now l x past e g legal (subst (λ z. ChoiceNeeds l past e.place z g) same (no_member_needs l past e.place e.seat y g may)) (ap (chooses x) is ∙ now)
choice_act l x past e _ is legal may now = absurd (false≢true now)

or_later : (b c : Bool) → b ≡ false → (b || c) ≡ true → c ≡ true
or_later b c h k = sym (ap (λ z. z || c) h) ∙ k

has_choice : (l : Layout) (past : List Entry) (x : MsgId) → is_legal l past ≡ true → is_chosen x past ≡ true → HasChoice l x past
has_choice l [] x legal h = absurd (false≢true h)
has_choice l (e ∷ past) x legal h =
    let two = legal_parts l e past legal in
    elim (cases_Bool (chooses x e.act)) [
      | inl now ↦ choice_act l x past e e.act refl two.1 two.0 now
      | inr not_now ↦ choice_stays l x past e (has_choice l past x two.1 (or_later (chooses x e.act) (is_chosen x past) not_now h))
    ]

unchosen_there : (x : MsgId) (t : Entry → Bool) (past : List Entry) → is_chosen x past ≡ false → is_chosen x (filter t past) ≡ false
unchosen_there x t [] h = refl
unchosen_there x t (e ∷ past) h = go (t e) (unchosen_there x t past)
  where
    neither : (b c : Bool) → (b || c) ≡ false → (b ≡ false) × (c ≡ false)
    neither true c k = absurd (false≢true (sym k))
    neither false c k = (refl, k)

    two : (chooses x e.act ≡ false) × (is_chosen x past ≡ false)
    two = neither (chooses x e.act) (is_chosen x past) h

    go : (b : Bool) → (is_chosen x past ≡ false → is_chosen x (filter t past) ≡ false) → is_chosen x (cond b (e ∷ filter t past) (filter t past)) ≡ false
    go true ih = ap (λ z. z || is_chosen x (filter t past)) two.0 ∙ ih two.1
    go false ih = ih two.1

some_same : {A : Type 0} (a b : A) → Some a ≡ Some b → a ≡ b
some_same a b h = cc

-- it has its choice, or it has it at that place
chosen_is : (l : Layout) (past : List Entry) (g : Ui) (from : ℕ) (x : MsgId) → is_legal l past ≡ true → IsPostTo past g from x → is_chosen x past ≡ is_chosen x (at (choosing l g from) past)
chosen_is l past g from x legal i = by (is_chosen x past) refl
  where
    by : (b : Bool) → is_chosen x past ≡ b → b ≡ is_chosen x (at (choosing l g from) past)
    by false h = sym (unchosen_there x (is_at (choosing l g from)) past h)
    by true h =
        let c = has_choice l past x legal h in
        let post : c.post ≡ i.post = some_same c.post i.post (sym c.is ∙ i.is) in
        let group : c.group ≡ g = some_same c.group g (sym c.to ∙ (ap (λ (z : Posted). group_in z.dest) post ∙ i.group)) in
        let place : c.post.place ≡ from = ap (λ (z : Posted). z.place) post ∙ i.place in
        sym ((λ j. is_chosen x (at (choosing l (sym group j) (sym place j)) past)) ∙ c.chosen)

unchosen_same : (past here : List Entry) (P : MsgId → Type 0) → ((x : MsgId) → P x → is_chosen x past ≡ is_chosen x here) → (xs : List MsgId) → EachId P xs → find (is_unchosen past) xs ≡ find (is_unchosen here) xs
unchosen_same past here P f [] h = refl
unchosen_same past here P f (x ∷ xs) h = λ i. cond (not (f x h.0 i)) (Some x) (unchosen_same past here P f xs h.1 i)

unchosen_case : (here : List Entry) (x : MsgId) (xs : List MsgId) (b : Bool) → first_unchosen here xs ≡ find (is_unchosen here) xs → cond b (first_unchosen here xs) (Some x) ≡ cond (not b) (Some x) (find (is_unchosen here) xs)
unchosen_case here x xs true h = h
unchosen_case here x xs false h = refl

unchosen_is : (here : List Entry) (xs : List MsgId) → first_unchosen here xs ≡ find (is_unchosen here) xs
unchosen_is here [] = refl
unchosen_is here (x ∷ xs) = unchosen_case here x xs (is_chosen x here) (unchosen_is here xs)

-- the table reads the first post that is not chosen for
pub asked_first : (l : Layout) (past : List Entry) (g : Ui) (from : ℕ) (xs : List MsgId) → is_legal l past ≡ true → filter (is_unchosen past) xs ≡ filter (is_unchosen past) (posts_to g (at from past)) → find (is_unchosen past) xs ≡ first_unchosen (at (choosing l g from) past) (posts_to g (at from past))
asked_first l past g from xs legal h =
    let here = at (choosing l g from) past in
    let ys = posts_to g (at from past) in
    same_first (is_unchosen past) xs ys h
    ∙ (unchosen_same past here (IsPostTo past g from) (λ x i. chosen_is l past g from x legal i) ys (listed l past g from legal).posts
    ∙ sym (unchosen_is here ys))
