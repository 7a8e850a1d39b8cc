-- The posts of a place to a group, and the order in which their members are chosen.
use Rattle.std.proofs.Common.{ℕ, ◌≡◌, ◌+◌, ◌<◌, ◌≤◌, Bool, true, false, ◌&&◌, ◌||◌, cond, List, [], ◌∷◌, ◌++◌, Some, None, refl, sym, ◌∙◌, ap, subst, arith, inl, inr}
use Rattle.std.proofs.lemmas.Bool.{and_parts, eqb-true, eq-eqb, false≢true, cases_Bool, or_left, or_right, or_cases}
use Rattle.chorus_ui.specs.declared.ui.Ui.{Ui}
use Rattle.chorus_ui.specs.declared.layout.Layout.{Layout}
use Rattle.chorus_ui.specs.Name.{same_ui}
use Rattle.chorus_entry.specs.declared.entry.Entry.{Entry}
use Rattle.chorus_entry.specs.declared.id.MsgId.{MsgId}
use Rattle.chorus_entry.specs.declared.message.Message.{Message}
use Rattle.chorus_entry.specs.declared.dest.Dest.{Dest}
use Rattle.chorus_entry.specs.declared.dest.Dest.TheVariants.{Port}
use Rattle.chorus_entry.specs.declared.act.Act.{Act}
use Rattle.chorus_entry.specs.declared.act.Act.TheVariants.{Post, Choose, NoMember}
use Rattle.chorus_entry.specs.Dest.{group_in}
use Rattle.chorus_entry.specs.MsgId.{same_id}
use Rattle.chorus_entry.proofs.Same.{from_same_id, same_id-self}
use Rattle.chorus_world.specs.declared.place.Sent.{Sent}
use Rattle.chorus_world.specs.Views.{views, is_by, at, by}
use Rattle.chorus_entry.specs.Same.{are_same}
use Rattle.chorus_entry.specs.Order.{is_at}
use Rattle.chorus_world.specs.Places.{sent_by, find_sent, copies}
use Rattle.chorus_world.specs.Posts.{Posted, posted_by, posted_in, post_of, source}
use Rattle.chorus_world.specs.Groups.{posts_to, post_to, chooses, is_chosen, first_unchosen}
use Rattle.chorus_world.specs.Seats.{posts, posts_after, posts_stay, stays_at}
use Rattle.chorus_world.specs.Steps.{act_may, is_legal}
use Rattle.chorus_world.proofs.Steps.LegalLemmas.{legal_parts, skips, keeps, under}
use Rattle.chorus_world.proofs.Ports.LineLemmas.{none_some, id_is}
use Rattle.chorus_world.proofs.Messages.SendingLemmas.{sent_as, from_or, cond_some, some_is, sent_before, at_same}
use Rattle.chorus_world.proofs.Messages.StageLemmas.{MessageFacts}
use Rattle.chorus_world.proofs.Messages.PostLemmas.{post_needs, posts_grow, post_stays, ChoiceNeeds, choose_needs, no_member_needs, asked_facts, copy_found, same_source, own_source}
use Rattle.chorus_world.proofs.Messages.MessageInvariant.{legal_messages}
use Rattle.chorus_world.proofs.Messages.OrderLemmas.{has_id, before, has_append, before_append, before_new, unchosen_is_next, chosen_stays_none}

-- A seat posts at one place.

-- what an act posts under an id
pub record IsPost (x : MsgId) (p : ℕ) (a : Act) (d : Posted) : Type 0 where
  pub act : a ≡ Post d.message d.dest
  pub id : d.message.id ≡ x
  pub place : d.place ≡ p

pub posted_is : (x : MsgId) (p : ℕ) (a : Act) (d : Posted) → posted_by x p a ≡ Some d → IsPost x p a d
posted_is x p (Post m dest) d h =
    elim (cond_some (same_id m.id x) (record { place = p; message = m; dest = dest }) d None h) [
      | inl this ↦ (
          let m_is = ap (λ (z : Posted). z.message) this.1 in
          let d_is = ap (λ (z : Posted). z.dest) this.1 in
          record { act = λ i. Post (m_is i) (d_is i); id = ap (λ (z : Posted). z.message.id) (sym this.1) ∙ from_same_id m.id x this.0; place = ap (λ (z : Posted). z.place) (sym this.1) })
      | inr none ↦ none_some d none.1
    ]
posted_is x p _ d h = none_some d h

stays_post : (p r : ℕ) (a : Act) (d : Posted) → a ≡ Post d.message d.dest → stays_at p r a ≡ true → r ≡ p
stays_post p r a d e h = eqb-true r p (ap (stays_at p r) (sym e) ∙ h)

-- where a seat posted at p alone, its posts are of p
pub stays_posted : (p : ℕ) (x : MsgId) (mine : List Entry) (d : Posted) → posts_stay p mine ≡ true → posted_in x mine ≡ Some d → d.place ≡ p
stays_posted p x [] d h k = none_some d k
stays_posted p x (e ∷ mine) d h k =
    let two = and_parts (stays_at p e.place e.act) (posts_stay p mine) h in
    elim (from_or (posted_in x mine) (posted_by x e.place e.act) d k) [
      | inl old ↦ stays_posted p x mine d two.1 old
      | inr new ↦ (
          let post = posted_is x e.place e.act d new.1 in
          post.place ∙ stays_post p e.place e.act d post.act two.0)
    ]

stay_on : (l : Layout) (past : List Entry) (p s : ℕ) (a : Act) (r : ℕ) (x : MsgId) (d : Posted) → act_may l (views past p s a) p s a ≡ true → posted_in x (by s past) ≡ Some d → posts_stay r (by s past) ≡ true → stays_at r p a ≡ true
stay_on l past p s (Post m dest) r x d h k stay =
    let needs = post_needs l past p s m dest h in
    let one : d.place ≡ p = stays_posted p x (by s past) d needs.stays k in
    let two : d.place ≡ r = stays_posted r x (by s past) d stay k in
    eq-eqb p r (sym one ∙ two)
stay_on l past p s _ r x d h k stay = refl

stay_now : (l : Layout) (past : List Entry) (p s : ℕ) (a : Act) (d : Posted) → act_may l (views past p s a) p s a ≡ true → a ≡ Post d.message d.dest → (posts_stay p (by s past) ≡ true) × (stays_at p p a ≡ true)
stay_now l past p s a d h e =
    let needs = post_needs l past p s d.message d.dest (subst (λ z. act_may l (views past p s z) p s z ≡ true) e h) in
    (needs.stays, ap (stays_at p p) e ∙ eq-eqb p p refl)

both_true : (a b : Bool) → a ≡ true → b ≡ true → a && b ≡ true
both_true a b h k = ap (λ z. z && b) h ∙ k

-- in a legal past a seat that posted at a place posted there alone
pub posted_stays : (l : Layout) (past : List Entry) (x : MsgId) (d : Posted) → is_legal l past ≡ true → post_of x past ≡ Some d → posts_stay d.place (by x.seat past) ≡ true
posted_stays l [] x d h k = none_some d k
posted_stays l (e ∷ past) x d h k =
    let two = legal_parts l e past h in
    elim (cases_Bool (is_by x.seat e)) [
      | inl t ↦ (
          let seat : e.seat ≡ x.seat = eqb-true e.seat x.seat t in
          let view : by x.seat (e ∷ past) ≡ e ∷ by x.seat past = keeps (is_by x.seat) e past t in
          let may = two.0 in
          elim (from_or (post_of x past) (posted_by (source x) e.place e.act) d (ap (posted_in (source x)) (sym view) ∙ k)) [
            | inl old ↦ (
                let stay = posted_stays l past x d two.1 old in
                let on = stay_on l past e.place e.seat e.act d.place (source x) d may (ap (λ z. posted_in (source x) (by z past)) seat ∙ old) (ap (λ z. posts_stay d.place (by z past)) seat ∙ stay) in
                ap (posts_stay d.place) view ∙ both_true (stays_at d.place e.place e.act) (posts_stay d.place (by x.seat past)) on stay)
            | inr new ↦ (
                let post = posted_is (source x) e.place e.act d new.1 in
                let now = stay_now l past e.place e.seat e.act d may post.act in
                ap (posts_stay d.place) view
                ∙ (ap (λ z. stays_at z e.place e.act && posts_stay z (by x.seat past)) post.place
                ∙ both_true (stays_at e.place e.place e.act) (posts_stay e.place (by x.seat past)) now.1 (ap (λ z. posts_stay e.place (by z past)) (sym seat) ∙ now.0)))
          ])
      | inr n ↦ (
          let view : by x.seat (e ∷ past) ≡ by x.seat past = skips (is_by x.seat) e past n in
          ap (posts_stay d.place) view ∙ posted_stays l past x d two.1 (ap (posted_in (source x)) (sym view) ∙ k))
    ]

-- so two posts of a seat are of one place
pub same_post_place : (l : Layout) (past : List Entry) (x y : MsgId) (d f : Posted) → is_legal l past ≡ true → x.seat ≡ y.seat → post_of x past ≡ Some d → post_of y past ≡ Some f → d.place ≡ f.place
same_post_place l past x y d f h e a b =
    let stay = posted_stays l past y f h b in
    stays_posted f.place (source x) (by x.seat past) d (ap (λ z. posts_stay f.place (by z past)) e ∙ stay) a

-- The posts of a place to a group.

posts_to_at : (g : Ui) (p : ℕ) (e : Entry) (past : List Entry) → posts_to g (at p (e ∷ past)) ≡ cond (is_at p e) (posts_to g (at p past) ++ post_to g e.act) (posts_to g (at p past))
posts_to_at g p e past = under (posts_to g) (is_at p e) (e ∷ at p past) (at p past)

or_false_true : (b : Bool) → b || false ≡ true → b ≡ true
or_false_true true h = refl
or_false_true false h = absurd (false≢true h)

post_to_is : (g : Ui) (a : Act) (u : MsgId) → has_id u (post_to g a) ≡ true → (m : Message) × (d : Dest) × (a ≡ Post m d) × (m.id ≡ u)
post_to_is g (Post m d) u h = to_case (are_same same_ui (Some g) (group_in d)) h
  where
    to_case : (b : Bool) → has_id u (cond b (m.id ∷ []) []) ≡ true → (n : Message) × (f : Dest) × (Post m d ≡ Post n f) × (n.id ≡ u)
    to_case false h = absurd (false≢true h)
    to_case true h = (m, d, refl, from_same_id m.id u (or_false_true (same_id m.id u) h))
post_to_is g _ u h = absurd (false≢true h)

number_now : (l : Layout) (past : List Entry) (e : Entry) (u : MsgId) (m : Message) (d : Dest) → act_may l (views past e.place e.seat e.act) e.place e.seat e.act ≡ true → e.act ≡ Post m d → m.id ≡ u → u.number ≤ posts (by u.seat (e ∷ past))
number_now l past e u m d h a i =
    let needs = post_needs l past e.place e.seat m d (subst (λ z. act_may l (views past e.place e.seat z) e.place e.seat z ≡ true) a h) in
    let seat : e.seat ≡ u.seat = sym needs.seat ∙ ap (λ (z : MsgId). z.seat) i in
    let view : by u.seat (e ∷ past) ≡ e ∷ by u.seat past = keeps (is_by u.seat) e past (eq-eqb e.seat u.seat seat) in
    let count : posts (by u.seat (e ∷ past)) ≡ posts (by u.seat past) + 1 = ap posts view ∙ ap (λ z. posts_after z (posts (by u.seat past))) a in
    let number : u.number ≡ posts (by u.seat past) + 1 = ap (λ (z : MsgId). z.number) (sym i) ∙ (needs.number ∙ ap (λ z. posts (by z past) + 1) seat) in
    omega (arith, count, number)

-- a post's number is among those that its seat has used
pub listed_number : (l : Layout) (past : List Entry) (g : Ui) (p : ℕ) (u : MsgId) → is_legal l past ≡ true → has_id u (posts_to g (at p past)) ≡ true → u.number ≤ posts (by u.seat past)
listed_number l [] g p u h k = absurd (false≢true k)
listed_number l (e ∷ past) g p u h k =
    let two = legal_parts l e past h in
    let grow = posts_grow past e u.seat in
    elim (cases_Bool (is_at p e)) [
      | inl t ↦ (
          let now = ap (has_id u) (sym (posts_to_at g p e past ∙ ap (λ b. cond b (posts_to g (at p past) ++ post_to g e.act) (posts_to g (at p past))) t)) ∙ k in
          elim (or_cases (has_id u (posts_to g (at p past))) (has_id u (post_to g e.act)) (sym (has_append u (posts_to g (at p past)) (post_to g e.act)) ∙ now)) [
            | inl old ↦ (let le = listed_number l past g p u two.1 old in omega arith)
            | inr new ↦ (
                let post = post_to_is g e.act u new in
                number_now l past e u post.0 post.1 two.0 post.2 post.3)
          ])
      | inr n ↦ (
          let old = ap (has_id u) (sym (posts_to_at g p e past ∙ ap (λ b. cond b (posts_to g (at p past) ++ post_to g e.act) (posts_to g (at p past))) n)) ∙ k in
          let le = listed_number l past g p u two.1 old in omega arith)
    ]

or_second : (a b : Bool) → a ≡ false → a || b ≡ true → b ≡ true
or_second a b e h = ap (λ z. z || b) (sym e) ∙ h

own_before : (g : Ui) (w : MsgId) (m : Message) (d : Dest) → m.id ≡ w → before w (post_to g (Post m d)) ≡ []
own_before g w m d e = own_case (are_same same_ui (Some g) (group_in d))
  where
    own_case : (b : Bool) → before w (cond b (m.id ∷ []) []) ≡ []
    own_case false = refl
    own_case true =
        let same : same_id m.id w ≡ true = ap (same_id m.id) (sym e) ∙ same_id-self m.id in
        ap (λ b. cond b [] (m.id ∷ [])) same

or_first : (a : Bool) → a || false ≡ true → a ≡ true
or_first true h = refl
or_first false h = absurd (false≢true h)

old_before : (g : Ui) (a : Act) (u w : MsgId) (old : List MsgId) (m : Message) (d : Dest) → a ≡ Post m d → m.id ≡ w → has_id u (old ++ before w (post_to g a)) ≡ true → has_id u old ≡ true
old_before g a u w old m d e i h =
    let none : before w (post_to g a) ≡ [] = ap (λ z. before w (post_to g z)) e ∙ own_before g w m d i in
    or_first (has_id u old) (sym (has_append u old []) ∙ (ap (λ z. has_id u (old ++ z)) (sym none) ∙ h))

rise_now : (l : Layout) (past : List Entry) (e : Entry) (g : Ui) (p : ℕ) (u w : MsgId) (m : Message) (d : Dest) → is_legal l past ≡ true → act_may l (views past e.place e.seat e.act) e.place e.seat e.act ≡ true → e.act ≡ Post m d → m.id ≡ w → has_id u (posts_to g (at p past)) ≡ true → u.seat ≡ w.seat → u.number < w.number
rise_now l past e g p u w m d h may a i k s =
    let needs = post_needs l past e.place e.seat m d (subst (λ z. act_may l (views past e.place e.seat z) e.place e.seat z ≡ true) a may) in
    let le = listed_number l past g p u h k in
    let seat : u.seat ≡ e.seat = s ∙ (ap (λ (z : MsgId). z.seat) (sym i) ∙ needs.seat) in
    let below : u.number ≤ posts (by e.seat past) = subst (λ z. u.number ≤ posts (by z past)) seat le in
    let number : w.number ≡ posts (by e.seat past) + 1 = ap (λ (z : MsgId). z.number) (sym i) ∙ needs.number in
    omega (arith, below, number)

-- the numbers of one seat's posts rise in the list
pub posts_rise : (l : Layout) (past : List Entry) (g : Ui) (p : ℕ) (u w : MsgId) → is_legal l past ≡ true → has_id w (posts_to g (at p past)) ≡ true → has_id u (before w (posts_to g (at p past))) ≡ true → u.seat ≡ w.seat → u.number < w.number
posts_rise l [] g p u w h k b s = absurd (false≢true k)
posts_rise l (e ∷ past) g p u w h k b s =
    let two = legal_parts l e past h in
    let old = posts_to g (at p past) in
    let new = post_to g e.act in
    elim (cases_Bool (is_at p e)) [
      | inl t ↦ (
          let view : posts_to g (at p (e ∷ past)) ≡ old ++ new = posts_to_at g p e past ∙ ap (λ c. cond c (old ++ new) old) t in
          let there = ap (has_id w) (sym view) ∙ k in
          let ahead = ap (λ z. has_id u (before w z)) (sym view) ∙ b in
          elim (cases_Bool (has_id w old)) [
            | inl was ↦ posts_rise l past g p u w two.1 was (ap (has_id u) (sym (before_append w old new was)) ∙ ahead) s
            | inr no_ ↦ (
                let post = post_to_is g e.act w (or_second (has_id w old) (has_id w new) no_ (sym (has_append w old new) ∙ there)) in
                let prior = ap (has_id u) (sym (before_new w old new no_)) ∙ ahead in
                let in_old = old_before g e.act u w old post.0 post.1 post.2 post.3 prior in
                rise_now l past e g p u w post.0 post.1 two.1 two.0 post.2 post.3 in_old s)
          ])
      | inr n ↦ (
          let view : posts_to g (at p (e ∷ past)) ≡ old = posts_to_at g p e past ∙ ap (λ c. cond c (old ++ new) old) n in
          posts_rise l past g p u w two.1 (ap (has_id w) (sym view) ∙ k) (ap (λ z. has_id u (before w z)) (sym view) ∙ b) s)
    ]

-- a post to the group is in the list of its place
listed_choice : (b : Bool) (w : MsgId) (g : Ui) (e : Entry) (here : List Entry) → has_id w (posts_to g here) ≡ true → has_id w (posts_to g (cond b (e ∷ here) here)) ≡ true
listed_choice true w g e here h =
    has_append w (posts_to g here) (post_to g e.act) ∙ or_left (has_id w (posts_to g here)) (has_id w (post_to g e.act)) h
listed_choice false w g e here h = h

listed_stays : (w : MsgId) (g : Ui) (p : ℕ) (past : List Entry) (e : Entry) → has_id w (posts_to g (at p past)) ≡ true → has_id w (posts_to g (at p (e ∷ past))) ≡ true
listed_stays w g p past e h = listed_choice (is_at p e) w g e (at p past) h

before_choice : (b : Bool) (w : MsgId) (g : Ui) (e : Entry) (here : List Entry) → has_id w (posts_to g here) ≡ true → before w (posts_to g (cond b (e ∷ here) here)) ≡ before w (posts_to g here)
before_choice true w g e here h = before_append w (posts_to g here) (post_to g e.act) h
before_choice false w g e here h = refl

pub chosen_choice : (b : Bool) (w : MsgId) (e : Entry) (here : List Entry) → is_chosen w here ≡ true → is_chosen w (cond b (e ∷ here) here) ≡ true
chosen_choice true w e here h = or_right (chooses w e.act) (is_chosen w here) h
chosen_choice false w e here h = h

pub chosen_stays : (w : MsgId) (p : ℕ) (past : List Entry) (e : Entry) → is_chosen w (at p past) ≡ true → is_chosen w (at p (e ∷ past)) ≡ true
chosen_stays w p past e h = chosen_choice (is_at p e) w e (at p past) h

-- what is so of a post whose members were chosen at p, or that had none: no post of its place before it waits
pub record ChosenFacts (w : MsgId) (p : ℕ) (past : List Entry) : Type 0 where
  pub post : Posted
  pub posted : post_of w past ≡ Some post
  pub group : Ui
  pub dest : group_in post.dest ≡ Some group
  pub copy : w.copy ≡ 0
  pub listed : has_id w (posts_to group (at post.place past)) ≡ true
  pub ahead : first_unchosen (at p past) (before w (posts_to group (at post.place past))) ≡ None

chosen_facts_stay : (w : MsgId) (p : ℕ) (past : List Entry) (e : Entry) → ChosenFacts w p past → ChosenFacts w p (e ∷ past)
chosen_facts_stay w p past e f =
    record {
      post = f.post;
      posted = post_stays w past e f.post f.posted;
      group = f.group;
      dest = f.dest;
      copy = f.copy;
      listed = listed_stays w f.group f.post.place past e f.listed;
      ahead = ap (first_unchosen (at p (e ∷ past))) (before_choice (is_at f.post.place e) w f.group e (at f.post.place past) f.listed)
          ∙ chosen_stays_none (at p past) (at p (e ∷ past)) (before w (posts_to f.group (at f.post.place past))) (λ y. chosen_stays y p past e) f.ahead;
    }

next_is : (l : Layout) (past : List Entry) (p : ℕ) (x : MsgId) (g : Ui) (needs : ChoiceNeeds l past p x g) → (is_chosen x (at p past) ≡ false) × (has_id x (posts_to g (at needs.from past)) ≡ true) × (first_unchosen (at p past) (before x (posts_to g (at needs.from past))) ≡ None)
next_is l past p x g needs =
    let list = posts_to g (at needs.from past) in
    unchosen_is_next (at p past) x list (id_is x (first_unchosen (at p past) list) needs.next)

-- the post whose members are chosen by the entry
chosen_now : (l : Layout) (past : List Entry) (e : Entry) (w : MsgId) (g : Ui) → MessageFacts w past → ChoiceNeeds l past e.place w g → ChosenFacts w e.place (e ∷ past)
chosen_now l past e w g f needs =
    let asked = (asked_facts w past needs.from needs.dest f needs.asked).1 in
    let n = next_is l past e.place w g needs in
    let place : needs.from ≡ asked.post.place = sym asked.place in
    chosen_facts_stay w e.place past e (record {
      post = asked.post;
      posted = asked.posted;
      group = g;
      dest = ap group_in asked.dest ∙ needs.group;
      copy = asked.copy;
      listed = subst (λ z. has_id w (posts_to g (at z past)) ≡ true) place n.1;
      ahead = subst (λ z. first_unchosen (at e.place past) (before w (posts_to g (at z past))) ≡ None) place n.2;
    })

chooses_case : (l : Layout) (past : List Entry) (e : Entry) (w : MsgId) (a : Act) → MessageFacts w past → act_may l (views past e.place e.seat a) e.place e.seat a ≡ true → chooses w a ≡ true → ChosenFacts w e.place (e ∷ past)
chooses_case l past e w (Choose y g qs) f h c =
    let same : y ≡ w = from_same_id y w c in
    chosen_now l past e w g f (subst (λ z. ChoiceNeeds l past e.place z g) same (choose_needs l past e.place e.seat y g qs h))
chooses_case l past e w (NoMember y g) f h c =
    let same : y ≡ w = from_same_id y w c in
    chosen_now l past e w g f (subst (λ z. ChoiceNeeds l past e.place z g) same (no_member_needs l past e.place e.seat y g h))
chooses_case l past e w _ f h c = absurd (false≢true c)

pub chosen_facts : (l : Layout) (past : List Entry) (w : MsgId) (p : ℕ) → is_legal l past ≡ true → is_chosen w (at p past) ≡ true → ChosenFacts w p past
chosen_facts l [] w p h k = absurd (false≢true k)
chosen_facts l (e ∷ past) w p h k =
    let two = legal_parts l e past h in
    elim (cases_Bool (is_at p e)) [
      | inl t ↦ (
          let here : e.place ≡ p = eqb-true e.place p t in
          elim (or_cases (chooses w e.act) (is_chosen w (at p past)) (ap (is_chosen w) (sym (keeps (is_at p) e past t)) ∙ k)) [
            | inl now ↦ subst (λ z. ChosenFacts w z (e ∷ past)) here (chooses_case l past e w e.act (legal_messages l past two.1 w) two.0 now)
            | inr old ↦ chosen_facts_stay w p past e (chosen_facts l past w p two.1 old)
          ])
      | inr n ↦ chosen_facts_stay w p past e (chosen_facts l past w p two.1 (ap (is_chosen w) (sym (skips (is_at p) e past n)) ∙ k))
    ]

-- Copies.

copy_act : (x : MsgId) (a : Act) (m : Sent) (g : Ui) → find_sent x (sent_by a) ≡ Some m → m.route ≡ Some g → (y : MsgId) × (qs : List Ui) × (a ≡ Choose y g qs) × (find_sent x (copies y g 1 qs) ≡ Some m)
copy_act x (Choose y h qs) m g f r =
    let c = copy_found x y h 1 qs m f in
    let same : h ≡ g = some_is h g (sym c.route ∙ r) in
    (y, qs, ap (λ z. Choose y z qs) same, subst (λ z. find_sent x (copies y z 1 qs) ≡ Some m) same f)
copy_act x (Post n (Port q)) m g f r =
    elim (cond_some (same_id n.id x) (record { id = n.id; port = q; route = None }) m None f) [
      | inl this ↦ none_some g (ap (λ (z : Sent). z.route) this.1 ∙ r)
      | inr none ↦ none_some m none.1
    ]
copy_act x (Post n _) m g f r = none_some m f
copy_act x _ m g f r = none_some m f

-- the copies that an entry sends are of a post that it chooses members for
pub record NewCopy (l : Layout) (past : List Entry) (e : Entry) (x : MsgId) (g : Ui) (m : Sent) : Type 0 where
  pub post : MsgId
  pub members : List Ui
  pub act : e.act ≡ Choose post g members
  pub found : find_sent x (copies post g 1 members) ≡ Some m
  pub may : act_may l (views past e.place e.seat (Choose post g members)) e.place e.seat (Choose post g members) ≡ true
  pub needs : ChoiceNeeds l past e.place post g
  pub source : source x ≡ post
  pub seat : x.seat ≡ post.seat
  pub number : x.number ≡ post.number

pub new_copy : (l : Layout) (past : List Entry) (e : Entry) (x : MsgId) (g : Ui) (m : Sent) → is_legal l (e ∷ past) ≡ true → find_sent x (sent_by e.act) ≡ Some m → m.route ≡ Some g → NewCopy l past e x g m
new_copy l past e x g m h f r =
    let two = legal_parts l e past h in
    let c = copy_act x e.act m g f r in
    let y = c.0 in
    let qs = c.1 in
    let may = subst (λ z. act_may l (views past e.place e.seat z) e.place e.seat z ≡ true) c.2 two.0 in
    let needs = choose_needs l past e.place e.seat y g qs may in
    let copy = copy_found x y g 1 qs m c.3 in
    let asked = (asked_facts y past needs.from needs.dest (legal_messages l past two.1 y) needs.asked).1 in
    record {
      post = y;
      members = qs;
      act = c.2;
      found = c.3;
      may = may;
      needs = needs;
      source = same_source x y copy.seat copy.number ∙ own_source y asked.copy;
      seat = copy.seat;
      number = copy.number;
    }

-- the place that sent a copy has chosen the members of its post
pub sent_chosen : (l : Layout) (past : List Entry) (p : ℕ) (x : MsgId) (m : Sent) (g : Ui) → is_legal l past ≡ true → sent_as x p past ≡ Some m → m.route ≡ Some g → is_chosen (source x) (at p past) ≡ true
sent_chosen l [] p x m g h k r = none_some m k
sent_chosen l (e ∷ past) p x m g h k r =
    elim (sent_before x p past e m k) [
      | inl old ↦ chosen_stays (source x) p past e (sent_chosen l past p x m g (legal_parts l e past h).1 old r)
      | inr new ↦ (
          let c = new_copy l past e x g m h new.1 r in
          let now : chooses (source x) e.act ≡ true = ap (chooses (source x)) c.act ∙ (ap (same_id c.post) c.source ∙ same_id-self c.post) in
          ap (is_chosen (source x)) (at_same p e past new.0) ∙ or_left (chooses (source x) e.act) (is_chosen (source x) (at p past)) now)
    ]
