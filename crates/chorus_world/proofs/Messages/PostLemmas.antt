-- What a post and a choice of members need, and what they leave: the numbers of a seat's posts, the post of an id, copies.
use Rattle.std.proofs.Common.{ℕ, ◌≡◌, ◌+◌, ◌<◌, ◌≤◌, ◌==◌, Bool, true, false, ◌&&◌, cond, List, [], ◌∷◌, ◌++◌, length, nat_lt, Option, Some, None, refl, sym, ◌∙◌, ap, subst, arith, inl, inr}
use Rattle.std.specs.Option.{option_or}
use Rattle.std.proofs.lemmas.Bool.{and_parts, eqb-true, false≢true, cases_Bool}
use Rattle.chorus_ui.specs.declared.ui.Ui.{Ui}
use Rattle.chorus_ui.specs.declared.layout.Layout.{Layout}
use Rattle.chorus_ui.specs.Name.{same_ui}
use Rattle.chorus_ui.proofs.Names.{from_same_ui}
use Rattle.chorus_entry.specs.declared.entry.Entry.{Entry}
use Rattle.chorus_entry.specs.declared.id.MsgId.{MsgId}
use Rattle.chorus_entry.specs.declared.message.Message.{Message}
use Rattle.chorus_entry.specs.declared.dest.Dest.{Dest}
use Rattle.chorus_entry.specs.declared.act.Act.{Act}
use Rattle.chorus_entry.specs.declared.act.Act.TheVariants.{Post, NoMember, Choose}
use Rattle.chorus_entry.specs.Dest.{group_in}
use Rattle.chorus_entry.specs.MsgId.{same_id}
use Rattle.chorus_entry.specs.Members.{same_uis}
use Rattle.chorus_entry.proofs.Same.{from_same_id}
use Rattle.chorus_world.specs.declared.place.Sent.{Sent}
use Rattle.chorus_world.specs.declared.progress.Progress.{Progress}
use Rattle.chorus_world.specs.declared.progress.Progress.TheVariants.{Idle, Asked, Tried, Decided, Settled, Reported}
use Rattle.chorus_world.specs.Views.{Views, views, is_by, at, by, about}
use Rattle.chorus_entry.specs.Same.{are_same}
use Rattle.chorus_world.specs.Messages.{progress}
use Rattle.chorus_world.specs.Places.{copies, find_sent}
use Rattle.chorus_world.specs.Posts.{Posted, posted_by, posted_in, post_of, source, tag_of, tag_from}
use Rattle.chorus_world.specs.Groups.{is_choosing_place, is_next_to}
use Rattle.chorus_world.specs.Seats.{posts, posts_after, posts_stay}
use Rattle.chorus_world.specs.Steps.{act_may, may_tag, may_choose_from, choice_from}
use Rattle.chorus_world.proofs.Steps.LegalLemmas.{entry, skips, keeps, under}
use Rattle.chorus_world.proofs.Ports.LineLemmas.{none_some}
use Rattle.chorus_world.proofs.Messages.SendingLemmas.{or_some, cond_some}
use Rattle.chorus_world.proofs.Messages.StageLemmas.{IsOpen, IsAsked, Stage, MessageFacts}

-- Posts.

posts_after_grows : (a : Act) (n : ℕ) → n ≤ posts_after a n
posts_after_grows (Post m d) n = omega arith
posts_after_grows _ n = omega arith

posts_choice : (b : Bool) (a : Act) (n : ℕ) → n ≤ cond b (posts_after a n) n
posts_choice true a n = posts_after_grows a n
posts_choice false a n = omega arith

pub posts_grow : (past : List Entry) (e : Entry) (s : ℕ) → posts (by s past) ≤ posts (by s (e ∷ past))
posts_grow past e s =
    subst (λ n. posts (by s past) ≤ n) (sym (under posts (is_by s e) (e ∷ by s past) (by s past))) (posts_choice (is_by s e) e.act (posts (by s past)))

post_choice : (b : Bool) (x : MsgId) (e : Entry) (mine : List Entry) (d : Posted) → posted_in x mine ≡ Some d → posted_in x (cond b (e ∷ mine) mine) ≡ Some d
post_choice true x e mine d h = or_some (posted_in x mine) (posted_by x e.place e.act) d h
post_choice false x e mine d h = h

-- what was posted under an id stays
pub post_stays : (x : MsgId) (past : List Entry) (e : Entry) (d : Posted) → post_of x past ≡ Some d → post_of x (e ∷ past) ≡ Some d
post_stays x past e d h = post_choice (is_by x.seat e) (source x) e (by x.seat past) d h

-- whatever comes after
pub post_kept : (x : MsgId) (newer past : List Entry) (d : Posted) → post_of x past ≡ Some d → post_of x (newer ++ past) ≡ Some d
post_kept x [] past d h = h
post_kept x (e ∷ newer) past d h = post_stays x (newer ++ past) e d (post_kept x newer past d h)

-- so does its tag
pub tag_kept : (x : MsgId) (newer past : List Entry) (d : Posted) → post_of x past ≡ Some d → tag_of x (newer ++ past) ≡ tag_of x past
tag_kept x newer past d h = ap tag_from (post_kept x newer past d h ∙ sym h)

pub record PostNeeds (past : List Entry) (p s : ℕ) (m : Message) : Type 0 where
  pub seat : m.id.seat ≡ s
  pub number : m.id.number ≡ posts (by s past) + 1
  pub copy : m.id.copy ≡ 0
  pub stays : posts_stay p (by s past) ≡ true

pub post_needs : (l : Layout) (past : List Entry) (p s : ℕ) (m : Message) (d : Dest) → act_may l (views past p s (Post m d)) p s (Post m d) ≡ true → PostNeeds past p s m
post_needs l past p s m d h =
    let v = views past p s (Post m d) in
    let seat = m.id.seat == s in
    let number = m.id.number == posts v.mine + 1 in
    let copy = m.id.copy == 0 in
    let four = and_parts (seat && number && copy && posts_stay p v.mine) (may_tag v m d m.tag) h in
    let three = and_parts (seat && number && copy) (posts_stay p v.mine) four.0 in
    let two = and_parts (seat && number) copy three.0 in
    let one = and_parts seat number two.0 in
    record { seat = eqb-true m.id.seat s one.0; number = eqb-true m.id.number (posts v.mine + 1) one.1; copy = eqb-true m.id.copy 0 two.1; stays = three.1 }

posted_other : (x : MsgId) (p : ℕ) (m : Message) (d : Dest) → (m.id ≡ x → ⊥) → posted_by x p (Post m d) ≡ None
posted_other x p m d n =
    elim (cases_Bool (same_id m.id x)) [
      | inl t ↦ absurd (n (from_same_id m.id x t))
      | inr f ↦ ap (λ b. cond b (Some (record { place = p; message = m; dest = d })) None) f
    ]

unposted_on : (l : Layout) (past : List Entry) (c p s : ℕ) (a : Act) (x : MsgId) → act_may l (views past p s a) p s a ≡ true → s ≡ x.seat → posts_after a (posts (by x.seat past)) < x.number → posted_by (source x) p a ≡ None
unposted_on l past c p s (Post m d) x h e lt =
    let needs = post_needs l past p s m d h in
    let number : m.id.number ≡ posts (by x.seat past) + 1 = needs.number ∙ ap (λ z. posts (by z past) + 1) e in
    let more : posts (by x.seat past) + 1 < x.number = lt in
    posted_other (source x) p m d (λ same. let n : m.id.number ≡ x.number = ap (λ (y : MsgId). y.number) same in omega arith)
unposted_on l past c p s _ x h e lt = refl

pub unposted_step : (l : Layout) (past : List Entry) (c p s : ℕ) (a : Act) (x : MsgId) → act_may l (views past p s a) p s a ≡ true → (posts (by x.seat past) < x.number → post_of x past ≡ None) → posts (by x.seat (entry c p s a ∷ past)) < x.number → post_of x (entry c p s a ∷ past) ≡ None
unposted_step l past c p s a x h k lt =
    let e = entry c p s a in
    let grow = posts_grow past e x.seat in
    let old : post_of x past ≡ None = k (omega arith) in
    elim (cases_Bool (is_by x.seat e)) [
      | inl t ↦ (
          let view : by x.seat (e ∷ past) ≡ e ∷ by x.seat past = keeps (is_by x.seat) e past t in
          let more : posts_after a (posts (by x.seat past)) < x.number = subst (λ z. posts z < x.number) view lt in
          ap (posted_in (source x)) view
          ∙ (ap (λ z. option_or z (posted_by (source x) p a)) old ∙ unposted_on l past c p s a x h (eqb-true s x.seat t) more))
      | inr n ↦ ap (posted_in (source x)) (skips (is_by x.seat) e past n) ∙ old
    ]

-- The choice of members.

pub record ChoiceNeeds (l : Layout) (past : List Entry) (p : ℕ) (x : MsgId) (g : Ui) : Type 0 where
  pub from : ℕ
  pub dest : Dest
  pub asked : progress (about x past) ≡ Asked from dest
  pub group : group_in dest ≡ Some g
  pub place : is_choosing_place l g from p ≡ true
  pub next : is_next_to g x from (at p past) past ≡ true

group_is : (g : Ui) (o : Option Ui) → are_same same_ui (Some g) o ≡ true → o ≡ Some g
group_is g None h = absurd (false≢true h)
group_is g (Some r) h = ap (λ z. Some z) (sym (from_same_ui g r h))

choice_case : (l : Layout) (past : List Entry) (p : ℕ) (x : MsgId) (g : Ui) (v : Views) (s : Progress) → progress (about x past) ≡ s → v.here ≡ at p past → v.all ≡ past → may_choose_from l v p x g s ≡ true → ChoiceNeeds l past p x g
choice_case l past p x g v (Asked from d) e m w h =
    let two = and_parts (are_same same_ui (Some g) (group_in d) && is_choosing_place l g from p) (is_next_to g x from v.here v.all) h in
    let one = and_parts (are_same same_ui (Some g) (group_in d)) (is_choosing_place l g from p) two.0 in
    record { from = from; dest = d; asked = e; group = group_is g (group_in d) one.0; place = one.1; next = (λ i. is_next_to g x from (sym m i) (sym w i)) ∙ two.1 }
choice_case l past p x g v Idle e m w h = absurd (false≢true h)
choice_case l past p x g v (Tried f r to hop) e m w h = absurd (false≢true h)
choice_case l past p x g v (Decided f b r a) e m w h = absurd (false≢true h)
choice_case l past p x g v (Settled a) e m w h = absurd (false≢true h)
choice_case l past p x g v Reported e m w h = absurd (false≢true h)

pub choose_needs : (l : Layout) (past : List Entry) (p s : ℕ) (x : MsgId) (g : Ui) (qs : List Ui) → act_may l (views past p s (Choose x g qs)) p s (Choose x g qs) ≡ true → ChoiceNeeds l past p x g
choose_needs l past p s x g qs h =
    let v = views past p s (Choose x g qs) in
    let state = progress (about x past) in
    let two = and_parts (may_choose_from l v p x g state && nat_lt 0 (length qs)) (same_uis qs (choice_from l v.here state)) h in
    choice_case l past p x g v state refl refl refl (and_parts (may_choose_from l v p x g state) (nat_lt 0 (length qs)) two.0).0

pub no_member_needs : (l : Layout) (past : List Entry) (p s : ℕ) (x : MsgId) (g : Ui) → act_may l (views past p s (NoMember x g)) p s (NoMember x g) ≡ true → ChoiceNeeds l past p x g
no_member_needs l past p s x g h =
    let v = views past p s (NoMember x g) in
    let state = progress (about x past) in
    choice_case l past p x g v state refl refl refl (and_parts (may_choose_from l v p x g state) (length (choice_from l v.here state) == 0) h).0

-- a message that is posted to a group is asked for
pub asked_facts : (x : MsgId) (past : List Entry) (from : ℕ) (d : Dest) → MessageFacts x past → progress (about x past) ≡ Asked from d → IsOpen x past × IsAsked x past from d
asked_facts x past from d f e = subst (Stage x past) e f.stage

-- the copies of a post
pub record IsCopy (x y : MsgId) (n : ℕ) (g : Ui) (m : Sent) : Type 0 where
  pub seat : x.seat ≡ y.seat
  pub number : x.number ≡ y.number
  pub copy : n ≤ x.copy
  pub route : m.route ≡ Some g

pub copy_found : (x y : MsgId) (g : Ui) (n : ℕ) (qs : List Ui) (m : Sent) → find_sent x (copies y g n qs) ≡ Some m → IsCopy x y n g m
copy_found x y g n [] m h = none_some m h
copy_found x y g n (q ∷ qs) m h =
    let k : Sent = record { id = record y { copy = n }; port = q; route = Some g } in
    elim (cond_some (same_id k.id x) k m (find_sent x (copies y g (n + 1) qs)) h) [
      | inl this ↦ (
          let same : k.id ≡ x = from_same_id k.id x this.0 in
          let at : n ≡ x.copy = ap (λ (z : MsgId). z.copy) same in
          record { seat = sym (ap (λ (z : MsgId). z.seat) same); number = sym (ap (λ (z : MsgId). z.number) same); copy = omega arith; route = ap (λ (z : Sent). z.route) (sym this.1) })
      | inr later ↦ (
          let c = copy_found x y g (n + 1) qs m later.1 in
          record { seat = c.seat; number = c.number; copy = omega (arith, c.copy); route = c.route })
    ]

pub uncopied_here : (x : MsgId) (g : Ui) (qs : List Ui) → x.copy ≡ 0 → (o : Option Sent) → find_sent x (copies x g 1 qs) ≡ o → o ≡ None
uncopied_here x g qs z None e = refl
uncopied_here x g qs z (Some m) e = let c = copy_found x x g 1 qs m e in absurd (omega (arith, c.copy, z))

pub same_source : (x y : MsgId) → x.seat ≡ y.seat → x.number ≡ y.number → source x ≡ source y
same_source x y a b = λ i. record { seat = a i; number = b i; copy = 0 }

pub own_source : (x : MsgId) → x.copy ≡ 0 → source x ≡ x
own_source x z = λ i. record { seat = x.seat; number = x.number; copy = sym z i }

pub same_post : (x y : MsgId) (past : List Entry) → x.seat ≡ y.seat → x.number ≡ y.number → post_of x past ≡ post_of y past
same_post x y past a b = λ i. posted_in (same_source x y a b i) (by (a i) past)
