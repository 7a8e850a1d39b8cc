-- Entries that stand in a past, and how a count and a view grow by one entry.
use Rattle.std.proofs.Common.{◌≡◌, ◌+◌, ◌<◌, Bool, true, false, ◌&&◌, cond, List, [], ◌∷◌, ◌++◌, count_by, Some, None, refl, sym, ◌∙◌, ap, subst, arith, inl, inr, append_assoc}
use Rattle.std.specs.Prelude.{filter}
use Rattle.std.specs.Option.{option_or}
use Rattle.std.proofs.lemmas.Bool.{eqb-true, eq-eqb}
use Rattle.std.proofs.lemmas.List.Sums.{sum_by-cons}
use Rattle.chorus_ui.specs.declared.layout.Layout.{Layout}
use Rattle.chorus_entry.specs.declared.entry.Entry.{Entry}
use Rattle.chorus_entry.specs.declared.id.MsgId.{MsgId}
use Rattle.chorus_entry.specs.declared.message.Message.{Message}
use Rattle.chorus_entry.specs.declared.dest.Dest.{Dest}
use Rattle.chorus_entry.specs.declared.act.Act.{Act}
use Rattle.chorus_entry.specs.declared.act.Act.TheVariants.{Post}
use Rattle.chorus_entry.specs.MsgId.{same_id}
use Rattle.chorus_entry.proofs.Same.{same_id-self}
use Rattle.chorus_world.specs.Views.{views, is_by, by}
use Rattle.chorus_world.specs.Posts.{Posted, posted_by, posted_in, post_of, source}
use Rattle.chorus_world.specs.Seats.{posts}
use Rattle.chorus_world.specs.Steps.{act_may, is_legal}
use Rattle.chorus_world.specs.SentLaws.{StandsIn}
use Rattle.chorus_world.proofs.Steps.LegalLemmas.{legal_parts, keeps}
use Rattle.chorus_world.proofs.Ports.LineLemmas.{none_some}
use Rattle.chorus_world.proofs.Messages.SendingLemmas.{from_or}
use Rattle.chorus_world.proofs.Messages.PostLemmas.{post_needs, post_kept, own_source}
use Rattle.chorus_world.proofs.Messages.MessageInvariant.{legal_messages}
use Rattle.chorus_world.proofs.Groups.ChoiceLemmas.{posted_is}
use Rattle.chorus_world.proofs.Moments.{legal-older}

-- Entries that stand in a past.

pub stands-now : (e : Entry) (past : List Entry) → StandsIn e (e ∷ past)
stands-now e past = record { newer = []; older = past; is = refl }

pub stands-later : (e f : Entry) (past : List Entry) → StandsIn f past → StandsIn f (e ∷ past)
stands-later e f past h = record { newer = e ∷ h.newer; older = h.older; is = ap (λ zs. e ∷ zs) h.is }

-- what its act needed when it came
pub stood-may : (l : Layout) (past : List Entry) (e : Entry) (a : Act) (s : StandsIn e past) → is_legal l past ≡ true → e.act ≡ a → act_may l (views s.older e.place e.seat a) e.place e.seat a ≡ true
stood-may l past e a s h is =
    subst (λ z. act_may l (views s.older e.place e.seat z) e.place e.seat z ≡ true) is
    (legal_parts l e s.older (legal-older l s.newer (e ∷ s.older) (ap (is_legal l) (sym s.is) ∙ h))).0

-- the first entry of a view stands in the past
pub view-stands : (test : Entry → Bool) (past : List Entry) (e : Entry) (es : List Entry) → filter test past ≡ e ∷ es → StandsIn e past × (test e ≡ true)
view-stands test [] e es h = absurd (cc)
view-stands test (f ∷ past) e es h = go (test f) refl h (λ k. view-stands test past e es k)
  where
    go : (b : Bool) → test f ≡ b → cond b (f ∷ filter test past) (filter test past) ≡ e ∷ es → (filter test past ≡ e ∷ es → StandsIn e past × (test e ≡ true)) → StandsIn e (f ∷ past) × (test e ≡ true)
    go true t k ih =
        let same : f ≡ e = cc in
        (record { newer = []; older = past; is = ap (λ z. z ∷ past) same }, ap test (sym same) ∙ t)
    go false t k ih = let o = ih k in (stands-later f e past o.0, o.1)

-- what stands before an entry of the past stands in the past
pub stands-within : (e f : Entry) (past : List Entry) (s : StandsIn f past) (i : StandsIn e s.older) → (t : StandsIn e past) × (t.older ≡ i.older)
stands-within e f past s i = (
  record {
    newer = s.newer ++ f ∷ i.newer;
    older = i.older;
    is = s.is ∙ (ap (λ zs. s.newer ++ f ∷ zs) i.is ∙ sym (append_assoc s.newer (f ∷ i.newer) (e ∷ i.older)));
  },
  refl,
)

-- Counts.

pub count-cons : {X : Type 0} (test : X → Bool) (x : X) (xs : List X) → count_by test (x ∷ xs) ≡ cond (test x) 1 0 + count_by test xs
count-cons test x xs = sum_by-cons (λ y. cond (test y) 1 0) x xs

pub count-yes : {X : Type 0} (test : X → Bool) (x : X) (xs : List X) → test x ≡ true → count_by test (x ∷ xs) ≡ 1 + count_by test xs
count-yes test x xs h = count-cons test x xs ∙ ap (λ b. cond b 1 0 + count_by test xs) h

pub count-no : {X : Type 0} (test : X → Bool) (x : X) (xs : List X) → test x ≡ false → count_by test (x ∷ xs) ≡ count_by test xs
count-no test x xs h =
    count-cons test x xs ∙ (ap (λ b. cond b 1 0 + count_by test xs) h ∙ (let e : 0 + count_by test xs ≡ count_by test xs = omega arith in e))

-- of those that pass one test, as many pass another as pass both in the whole list
pub count-filter : {X : Type 0} (one other : X → Bool) (xs : List X) → count_by (λ x. one x && other x) xs ≡ count_by other (filter one xs)
count-filter one other [] = refl
count-filter one other (x ∷ xs) =
    count-cons (λ y. one y && other y) x xs ∙ (ap (λ n. cond (one x && other x) 1 0 + n) (count-filter one other xs) ∙ by (one x))
  where
    by : (b : Bool) → cond (b && other x) 1 0 + count_by other (filter one xs) ≡ count_by other (cond b (x ∷ filter one xs) (filter one xs))
    by true = sym (count-cons other x (filter one xs))
    by false = let e : 0 + count_by other (filter one xs) ≡ count_by other (filter one xs) = omega arith in e

-- Posts.

-- the post of an id stands in the past
pub record PostStands (x : MsgId) (past : List Entry) (d : Posted) : Type 0 where
  pub entry : Entry
  pub stands : StandsIn entry past
  pub posts : entry.act ≡ Post d.message d.dest
  pub seat : entry.seat ≡ x.seat
  pub place : d.place ≡ entry.place

pub post-stands : (past : List Entry) (x : MsgId) (d : Posted) → post_of x past ≡ Some d → PostStands x past d
post-stands [] x d h = none_some d h
post-stands (e ∷ past) x d h = go (is_by x.seat e) refl h (λ k. post-stands past x d k)
  where
    later : PostStands x past d → PostStands x (e ∷ past) d
    later p = record { entry = p.entry; stands = stands-later e p.entry past p.stands; posts = p.posts; seat = p.seat; place = p.place }

    go : (b : Bool) → is_by x.seat e ≡ b → posted_in (source x) (cond b (e ∷ by x.seat past) (by x.seat past)) ≡ Some d → (post_of x past ≡ Some d → PostStands x past d) → PostStands x (e ∷ past) d
    go false t k ih = later (ih k)
    go true t k ih =
        elim (from_or (posted_in (source x) (by x.seat past)) (posted_by (source x) e.place e.act) d k) [
          | inl old ↦ later (ih old)
          | inr new ↦ (
              let post = posted_is (source x) e.place e.act d new.1 in
              record { entry = e; stands = stands-now e past; posts = post.act; seat = eqb-true e.seat x.seat t; place = post.place })
        ]

-- what a Post in a legal past posts is the post of its id
pub stood-post : (l : Layout) (past : List Entry) (e : Entry) (m : Message) (d : Dest) → is_legal l past ≡ true → StandsIn e past → e.act ≡ Post m d → (post_of m.id past ≡ Some (record { place = e.place; message = m; dest = d })) × (m.id.seat ≡ e.seat) × (m.id.copy ≡ 0)
stood-post l past e m d h s is =
    let x = m.id in
    let older = s.older in
    let legal : is_legal l (e ∷ older) ≡ true = legal-older l s.newer (e ∷ older) (ap (is_legal l) (sym s.is) ∙ h) in
    let needs = post_needs l older e.place e.seat m d (stood-may l past e (Post m d) s h is) in
    let number = needs.number in
    let fresh : posts (by x.seat older) < x.number = subst (λ k. posts (by k older) < x.number) (sym needs.seat) (omega (arith, number)) in
    let none : post_of x older ≡ None = (legal_messages l older (legal_parts l e older legal).1 x).unposted fresh in
    let view : by x.seat (e ∷ older) ≡ e ∷ by x.seat older = keeps (is_by x.seat) e older (eq-eqb e.seat x.seat (sym needs.seat)) in
    let p : Posted = record { place = e.place; message = m; dest = d } in
    let own : same_id x (source x) ≡ true = ap (same_id x) (own_source x needs.copy) ∙ same_id-self x in
    let now : post_of x (e ∷ older) ≡ Some p =
    ap (posted_in (source x)) view
    ∙ (ap (λ o. option_or o (posted_by (source x) e.place e.act)) none
    ∙ (ap (posted_by (source x) e.place) is ∙ ap (λ b. cond b (Some p) None) own)) in
    (ap (post_of x) s.is ∙ post_kept x s.newer (e ∷ older) p now, needs.seat, needs.copy)
