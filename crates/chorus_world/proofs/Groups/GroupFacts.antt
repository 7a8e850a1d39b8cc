-- Facts of legal lists: the posts to a group that a place made are posts of their own; and what a choice changes of what is
-- asked for.
use Rattle.std.proofs.Common.{ℕ, ◌≡◌, ◌<◌, ◌⊎◌, inl, inr, ◌==◌, Bool, true, false, ◌||◌, not, cond, List, [], ◌∷◌, ◌++◌, Some, None, refl, sym, ◌∙◌, ap, subst, arith, eq-eqb, append-nil}
use Rattle.std.specs.Option.{option_or}
use Rattle.std.proofs.lemmas.Bool.{eqb-true, false≢true}
use Rattle.chorus_ui.specs.declared.ui.Ui.{Ui}
use Rattle.chorus_ui.specs.Name.{same_ui}
use Rattle.chorus_ui.proofs.Names.{same_ui-self}
use Rattle.chorus_ui.specs.declared.layout.Layout.{Layout}
use Rattle.chorus_entry.specs.declared.entry.Entry.{Entry}
use Rattle.chorus_entry.specs.declared.id.MsgId.{MsgId}
use Rattle.chorus_entry.specs.declared.dest.Dest.{Dest}
use Rattle.chorus_entry.specs.declared.message.Message.{Message}
use Rattle.chorus_entry.specs.declared.act.Act.{Act}
use Rattle.chorus_entry.specs.declared.act.Act.TheVariants.{Post}
use Rattle.chorus_entry.specs.Dest.{group_in}
use Rattle.chorus_entry.specs.MsgId.{same_id}
use Rattle.chorus_entry.proofs.Same.{from_same_id, same_id-self}
use Rattle.chorus_world.specs.Views.{views, at, by, is_by}
use Rattle.chorus_entry.specs.Order.{is_at}
use Rattle.chorus_entry.specs.Same.{are_same}
use Rattle.chorus_world.specs.Posts.{Posted, post_of, posted_in, posted_by, source}
use Rattle.chorus_world.specs.Groups.{posts_to, post_to, chooses, is_chosen, first_unchosen, unchosen}
use Rattle.chorus_world.specs.Seats.{posts}
use Rattle.chorus_world.specs.Steps.{act_may, is_legal}
use Rattle.chorus_world.proofs.Steps.LegalLemmas.{legal_parts, skips, keeps, on_is}
use Rattle.chorus_world.proofs.Messages.MessageInvariant.{legal_messages}
use Rattle.chorus_world.proofs.Messages.PostLemmas.{post_needs, own_source, post_stays}
use Rattle.chorus_world.proofs.Messages.SendingLemmas.{at_same}

-- each id of a list
abbrev pub EachId : (MsgId → Type 0) → List MsgId → Type 0
EachId P [] = Unit {0}
EachId P (x ∷ xs) = P x × EachId P xs

ids-append : (P : MsgId → Type 0) (xs ys : List MsgId) → EachId P xs → EachId P ys → EachId P (xs ++ ys)
ids-append P [] ys a b = b
ids-append P (x ∷ xs) ys a b = (a.0, ids-append P xs ys a.1 b)

ids-map : (P Q : MsgId → Type 0) → ((x : MsgId) → P x → Q x) → (xs : List MsgId) → EachId P xs → EachId Q xs
ids-map P Q f [] h = tt
ids-map P Q f (x ∷ xs) h = (f x h.0, ids-map P Q f xs h.1)

-- no id stands twice
abbrev pub AreApart : List MsgId → Type 0
AreApart [] = Unit {0}
AreApart (x ∷ xs) = EachId (λ y. same_id x y ≡ false) xs × AreApart xs

apart-last : (xs : List MsgId) (y : MsgId) → AreApart xs → EachId (λ x. same_id x y ≡ false) xs → AreApart (xs ++ y ∷ [])
apart-last [] y a b = (tt, tt)
apart-last (x ∷ xs) y a b = (ids-append (λ z. same_id x z ≡ false) xs (y ∷ []) a.0 (b.0, tt), apart-last xs y a.1 b.1)

-- it was posted to the group at the place
pub record IsPostTo (past : List Entry) (g : Ui) (a : ℕ) (x : MsgId) : Type 0 where
  pub post : Posted
  pub is : post_of x past ≡ Some post
  pub place : post.place ≡ a
  pub group : group_in post.dest ≡ Some g

to-grows : (past : List Entry) (e : Entry) (g : Ui) (a : ℕ) (x : MsgId) → IsPostTo past g a x → IsPostTo (e ∷ past) g a x
to-grows past e g a x h = record { post = h.post; is = post_stays x past e h.post h.is; place = h.place; group = h.group }

pub record Listed (past : List Entry) (g : Ui) (a : ℕ) : Type 0 where
  pub posts : EachId (IsPostTo past g a) (posts_to g (at a past))
  pub apart : AreApart (posts_to g (at a past))

-- a post is the one of its id
new-post : (l : Layout) (past : List Entry) (e : Entry) (m : Message) (d : Dest) → is_legal l (e ∷ past) ≡ true → e.act ≡ Post m d → (post_of m.id past ≡ None) × (post_of m.id (e ∷ past) ≡ Some (record { place = e.place; message = m; dest = d }))
new-post l past e m d h is =
    let two = legal_parts l e past h in
    let needs = post_needs l past e.place e.seat m d (subst (λ z. act_may l (views past e.place e.seat z) e.place e.seat z ≡ true) is two.0) in
    let number = needs.number in
    let same : posts (by m.id.seat past) ≡ posts (by e.seat past) = ap (λ k. posts (by k past)) needs.seat in
    let less : posts (by m.id.seat past) < m.id.number = omega (arith, number, same) in
    let none = (legal_messages l past two.1 m.id).unposted less in
    let own : source m.id ≡ m.id = own_source m.id needs.copy in (
      none,
      ap (posted_in (source m.id)) (keeps (is_by m.id.seat) e past (eq-eqb e.seat m.id.seat (sym needs.seat)))
          ∙ (ap (λ o. option_or o (posted_by (source m.id) e.place e.act)) none
          ∙ (ap (posted_by (source m.id) e.place) is ∙ ap (λ b. cond b (Some (record { place = e.place; message = m; dest = d })) None) (ap (same_id m.id) own ∙ same_id-self m.id))),
    )

pub listed : (l : Layout) (past : List Entry) (g : Ui) (a : ℕ) → is_legal l past ≡ true → Listed past g a
listed l [] g a h = record { posts = tt; apart = tt }
listed l (e ∷ past) g a h = go (is_at a e) refl (listed l past g a (legal_parts l e past h).1)
  where
    old : Listed past g a → EachId (IsPostTo (e ∷ past) g a) (posts_to g (at a past))
    old i = ids-map (IsPostTo past g a) (IsPostTo (e ∷ past) g a) (λ x k. to-grows past e g a x k) (posts_to g (at a past)) i.posts

    here : (b : Act) → e.act ≡ b → e.place ≡ a → Listed past g a → EachId (IsPostTo (e ∷ past) g a) (posts_to g (at a past) ++ post_to g b) × AreApart (posts_to g (at a past) ++ post_to g b)
    here (Post m d) is place i = choice (are_same same_ui (Some g) (group_in d)) refl
      where
        xs : List MsgId
        xs = posts_to g (at a past)

        choice : (b : Bool) → are_same same_ui (Some g) (group_in d) ≡ b → EachId (IsPostTo (e ∷ past) g a) (xs ++ cond b (m.id ∷ []) []) × AreApart (xs ++ cond b (m.id ∷ []) [])
        choice true t =
            let new = new-post l past e m d h is in
            let one : IsPostTo (e ∷ past) g a m.id = record { post = record { place = e.place; message = m; dest = d }; is = new.1; place = place; group = on_is g (group_in d) t } in (
              ids-append (IsPostTo (e ∷ past) g a) xs (m.id ∷ []) (old i) (one, tt),
              apart-last xs m.id i.apart (ids-map (IsPostTo past g a) (λ x. same_id x m.id ≡ false) (λ x k. differ x k (same_id x m.id) refl) xs i.posts),
            )
          where
            differ : (x : MsgId) → IsPostTo past g a x → (b : Bool) → same_id x m.id ≡ b → b ≡ false
            differ x k false s = refl
            differ x k true s = absurd (let same : x ≡ m.id = from_same_id x m.id s in let bad : None ≡ Some k.post = sym (new-post l past e m d h is).0 ∙ (ap (λ z. post_of z past) (sym same) ∙ k.is) in cc)
        choice false t = (ids-append (IsPostTo (e ∷ past) g a) xs [] (old i) tt, subst AreApart (sym (append-nil xs)) i.apart)
    here b is place i = (ids-append (IsPostTo (e ∷ past) g a) (posts_to g (at a past)) [] (old i) tt, subst AreApart (sym (append-nil (posts_to g (at a past)))) i.apart)

    go : (b : Bool) → is_at a e ≡ b → Listed past g a → Listed (e ∷ past) g a
    go false t i =
        let view : at a (e ∷ past) ≡ at a past = skips (is_at a) e past t in
        record { posts = subst (λ v. EachId (IsPostTo (e ∷ past) g a) (posts_to g v)) (sym view) (old i); apart = subst (λ v. AreApart (posts_to g v)) (sym view) i.apart }
    go true t i =
        let place : e.place ≡ a = eqb-true e.place a t in
        let view : at a (e ∷ past) ≡ e ∷ at a past = at_same a e past place in
        let both = here e.act refl place i in
        record { posts = subst (λ v. EachId (IsPostTo (e ∷ past) g a) (posts_to g v)) (sym view) both.0; apart = subst (λ v. AreApart (posts_to g v)) (sym view) both.1 }

-- What is not chosen yet.

-- an entry that chooses for x, where x is not among the ids
pub unchosen-other : (x : MsgId) (e : Entry) (here : List Entry) (xs : List MsgId) → ((y : MsgId) → chooses y e.act ≡ same_id x y) → EachId (λ y. same_id x y ≡ false) xs → unchosen (e ∷ here) xs ≡ unchosen here xs
unchosen-other x e here [] f h = refl
unchosen-other x e here (y ∷ xs) f h =
    ap (λ b. cond (not (b || is_chosen y here)) (y ∷ unchosen (e ∷ here) xs) (unchosen (e ∷ here) xs)) (f y ∙ h.0)
    ∙ ap (λ zs. cond (not (is_chosen y here)) (y ∷ zs) zs) (unchosen-other x e here xs f h.1)

-- x is the first of those that are not chosen
pub unchosen-first : (x : MsgId) (e : Entry) (here : List Entry) (xs ys : List MsgId) → ((y : MsgId) → chooses y e.act ≡ same_id x y) → AreApart xs → unchosen here xs ≡ x ∷ ys → unchosen (e ∷ here) xs ≡ ys
unchosen-first x e here [] ys f a h = absurd (cc)
unchosen-first x e here (y ∷ xs) ys f a h = go (is_chosen y here) refl h (unchosen-first x e here xs ys f a.1)
  where
    go : (b : Bool) → is_chosen y here ≡ b → cond (not b) (y ∷ unchosen here xs) (unchosen here xs) ≡ x ∷ ys → (unchosen here xs ≡ x ∷ ys → unchosen (e ∷ here) xs ≡ ys) → unchosen (e ∷ here) (y ∷ xs) ≡ ys
    go true t k ih =
        ap (λ b. cond (not (chooses y e.act || b)) (y ∷ unchosen (e ∷ here) xs) (unchosen (e ∷ here) xs)) t
        ∙ (gone (chooses y e.act) ∙ ih k)
      where
        gone : (c : Bool) → cond (not (c || true)) (y ∷ unchosen (e ∷ here) xs) (unchosen (e ∷ here) xs) ≡ unchosen (e ∷ here) xs
        gone true = refl
        gone false = refl
    go false t k ih =
        let same : y ≡ x = cc in
        let tail : unchosen here xs ≡ ys = cc in
        ap (λ b. cond (not (b || is_chosen y here)) (y ∷ unchosen (e ∷ here) xs) (unchosen (e ∷ here) xs)) (f y ∙ (ap (same_id x) same ∙ same_id-self x))
        ∙ (unchosen-other x e here xs f (subst (λ z. EachId (λ w. same_id z w ≡ false) xs) same a.0) ∙ tail)

-- where the first of those that are not chosen is x
pub first-of-unchosen : (here : List Entry) (x : MsgId) (xs ys : List MsgId) → unchosen here xs ≡ x ∷ ys → first_unchosen here xs ≡ Some x
first-of-unchosen here x [] ys h = absurd (cc)
first-of-unchosen here x (y ∷ xs) ys h = go (is_chosen y here) h (first-of-unchosen here x xs ys)
  where
    go : (b : Bool) → cond (not b) (y ∷ unchosen here xs) (unchosen here xs) ≡ x ∷ ys → (unchosen here xs ≡ x ∷ ys → first_unchosen here xs ≡ Some x) → cond b (first_unchosen here xs) (Some y) ≡ Some x
    go true k ih = ih k
    go false k ih = let same : y ≡ x = cc in ap (λ z. Some z) same

-- a post to one group at one place is none of another group, or of another place
pub not-listed : (l : Layout) (past : List Entry) (g f : Ui) (a b : ℕ) (x : MsgId) → is_legal l past ≡ true → IsPostTo past g a x → (same_ui g f ≡ false) ⊎ ((a == b) ≡ false) → EachId (λ y. same_id x y ≡ false) (posts_to f (at b past))
not-listed l past g f a b x h i ne = ids-map (IsPostTo past f b) (λ y. same_id x y ≡ false) (λ y k. differ y k (same_id x y) refl) (posts_to f (at b past)) (listed l past f b h).posts
  where
    differ : (y : MsgId) → IsPostTo past f b y → (c : Bool) → same_id x y ≡ c → c ≡ false
    differ y k false s = refl
    differ y k true s =
        let same : x ≡ y = from_same_id x y s in
        let post : i.post ≡ k.post = (let both : Some i.post ≡ Some k.post = sym i.is ∙ (ap (λ z. post_of z past) same ∙ k.is) in cc) in
        absurd (elim ne [
          | inl n ↦ (let bad : g ≡ f = (let both : Some g ≡ Some f = sym i.group ∙ (ap (λ (z : Posted). group_in z.dest) post ∙ k.group) in cc) in false≢true (sym n ∙ (ap (same_ui g) (sym bad) ∙ same_ui-self g)))
          | inr n ↦ (let bad : a ≡ b = sym i.place ∙ (ap (λ (z : Posted). z.place) post ∙ k.place) in false≢true (sym n ∙ eq-eqb a b bad))
        ])
