-- Each entry of a legal past keeps what is so of each message.
use Rattle.std.proofs.Common.{ℕ, ◌≡◌, ◌+◌, ◌<◌, ◌==◌, Bool, true, false, ◌||◌, cond, List, [], ◌∷◌, length, Option, Some, None, refl, sym, ◌∙◌, ap, subst, arith, inl, inr}
use Rattle.std.specs.Option.{option_or}
use Rattle.std.proofs.lemmas.Bool.{and_parts, and_from, eqb-true, eq-eqb, false≢true, cases_Bool, or_left}
use Rattle.chorus_ui.specs.declared.ui.Ui.{Ui}
use Rattle.chorus_ui.specs.declared.layout.Layout.{Layout}
use Rattle.chorus_ui.specs.Name.{same_ui}
use Rattle.chorus_ui.proofs.Names.{same_ui-self}
use Rattle.chorus_entry.specs.declared.entry.Entry.{Entry}
use Rattle.chorus_entry.specs.declared.id.MsgId.{MsgId}
use Rattle.chorus_entry.specs.declared.message.Message.{Message}
use Rattle.chorus_entry.specs.declared.answer.Answer.{Answer}
use Rattle.chorus_entry.specs.declared.answer.Answer.TheVariants as A
use Rattle.chorus_entry.specs.declared.dest.Dest.{Dest}
use Rattle.chorus_entry.specs.declared.dest.Dest.TheVariants.{Port, All, One, OneAt}
use Rattle.chorus_entry.specs.declared.act.Act.{Act}
use Rattle.chorus_entry.specs.declared.act.Act.TheVariants.{Post, Accept, Full, Already, ClientsFull, Stale, Early, NoPort, Elsewhere, NoMember, Choose, Try, Told, Heard, Gone}
use Rattle.chorus_entry.specs.Act.{message_of}
use Rattle.chorus_entry.specs.Answer.{is_final, same_answer}
use Rattle.chorus_entry.specs.Dest.{group_in}
use Rattle.chorus_entry.specs.MsgId.{same_id}
use Rattle.chorus_entry.proofs.Same.{same_id-self, from_same_answer}
use Rattle.chorus_world.specs.declared.place.Sent.{Sent}
use Rattle.chorus_world.specs.declared.progress.Progress.{Progress}
use Rattle.chorus_world.specs.declared.progress.Progress.TheVariants.{Idle, Asked, Tried, Decided, Settled, Reported}
use Rattle.chorus_world.specs.Views.{views, is_about, is_by, at, by, about}
use Rattle.chorus_entry.specs.Same.{are_same}
use Rattle.chorus_world.specs.Messages.{progress, progress_after, settled, decided, is_to_be_told, is_to_be_heard, verdict, verdict_by}
use Rattle.chorus_world.specs.Places.{sent_by, copies, find_sent, settles, is_settled, tried_after, is_tried}
use Rattle.chorus_world.specs.Posts.{Posted, posted_by, posted_in, post_of, source}
use Rattle.chorus_world.specs.Groups.{is_chosen, chooses}
use Rattle.chorus_world.specs.Seats.{posts}
use Rattle.chorus_world.specs.Steps.{act_may, is_legal, is_asked_from}
use Rattle.chorus_world.proofs.Steps.LegalLemmas.{entry, legal_parts, skips, keeps}
use Rattle.chorus_world.proofs.Ports.LineLemmas.{none_some, id_is}
use Rattle.chorus_world.proofs.Messages.SendingLemmas.{sent_as, IsAhead, FirstHere, first_here, some_is, cond_some, sent_stays, sent_before, settled_stays, settled_now, settled_same, tried_same, ahead_stays, settles_other, tried_other, at_same, same_id_sym}
use Rattle.chorus_world.proofs.Messages.StageLemmas.{IsUnderWay, IsOpen, IsAsked, IsOver, Stage, IsUnknown, HasOrigin, MessageFacts, first_is_idle}
use Rattle.chorus_world.proofs.Messages.DueLemmas.{IsDue, due_accept, due_full, due_already, due_clients_full, due_stale, due_early, due_no_port, due_elsewhere, due_gone, first_try}
use Rattle.chorus_world.proofs.Messages.PostLemmas.{ChoiceNeeds, PostNeeds, asked_facts, choose_needs, copy_found, no_member_needs, own_source, post_needs, post_stays, posts_grow, same_post, same_source, uncopied_here, unposted_step}

-- What stays of a message where an entry sends it no further.

origin_stays : (x : MsgId) (past : List Entry) (e : Entry) (p : ℕ) (m : Sent) → HasOrigin x past p m → HasOrigin x (e ∷ past) p m
origin_stays x past e p m o =
    record { post = o.post; posted = post_stays x past e o.post o.posted; route = o.route; place = o.place }

under_way_stays : (x : MsgId) (past : List Entry) (e : Entry) (from : ℕ) (q : Ui) → is_tried x (at from (e ∷ past)) ≡ is_tried x (at from past) → IsUnderWay x past from q → IsUnderWay x (e ∷ past) from q
under_way_stays x past e from q t w =
    record {
      message = w.message;
      is = sent_stays x from past e w.message w.is;
      port = w.port;
      ahead = ahead_stays x from past e w.message w.is w.ahead;
      tried = t ∙ w.tried;
    }

-- the entry does not send the message
module _ (x : MsgId) (past : List Entry) (e : Entry) (unsends : find_sent x (sent_by e.act) ≡ None) where
  sent_back : (p : ℕ) (m : Sent) → sent_as x p (e ∷ past) ≡ Some m → sent_as x p past ≡ Some m
  sent_back p m h =
      elim (sent_before x p past e m h) [
        | inl old ↦ old
        | inr new ↦ none_some m (sym unsends ∙ new.1)
      ]

  sent_none : (p : ℕ) (o : Option Sent) → sent_as x p (e ∷ past) ≡ o → sent_as x p past ≡ None → o ≡ None
  sent_none p None h k = refl
  sent_none p (Some m) h k = none_some m (sym k ∙ sent_back p m h)

  over_stays : IsOver x past → IsOver x (e ∷ past)
  over_stays o p m h =
      let old = sent_back p m h in
      let two = o p m old in
      (settled_stays x p past e two.0, ahead_stays x p past e m old two.1)

  asked_stays : (from : ℕ) (d : Dest) → IsAsked x past from d → IsAsked x (e ∷ past) from d
  asked_stays from d k =
      record {
        copy = k.copy;
        unsent = λ p. sent_none p (sent_as x p (e ∷ past)) refl (k.unsent p);
        post = k.post;
        posted = post_stays x past e k.post k.posted;
        place = k.place;
        dest = k.dest;
      }

  unknown_stays : about x (e ∷ past) ≡ about x past → IsUnknown x past → IsUnknown x (e ∷ past)
  unknown_stays view u =
      record { about = view ∙ u.about; unsent = λ p. sent_none p (sent_as x p (e ∷ past)) refl (u.unsent p) }

or_false : (a b : Bool) → a || b ≡ false → b ≡ false
or_false true b h = absurd (false≢true (sym h))
or_false false b h = h

chosen_choice : (b : Bool) (y : MsgId) (e : Entry) (es : List Entry) → is_chosen y (cond b (e ∷ es) es) ≡ false → is_chosen y es ≡ false
chosen_choice true y e es h = or_false (chooses y e.act) (is_chosen y es) h
chosen_choice false y e es h = h

pub unchosen_before : (y : MsgId) (past : List Entry) (e : Entry) → is_chosen y (about y (e ∷ past)) ≡ false → is_chosen y (about y past) ≡ false
unchosen_before y past e h = chosen_choice (is_about (Some y) e) y e (about y past) h

-- an entry about another message that does not send x
module _ (x : MsgId) (past : List Entry) (e : Entry) (other : is_about (Some x) e ≡ false) (unsends : find_sent x (sent_by e.act) ≡ None) where
  quiet_view : about x (e ∷ past) ≡ about x past
  quiet_view = skips (is_about (Some x)) e past other

  open_quiet : IsOpen x past → IsOpen x (e ∷ past)
  open_quiet o = record { verdict = ap (verdict x) quiet_view ∙ o.verdict; chosen = ap (is_chosen x) quiet_view ∙ o.chosen }

  tried_quiet : (p : ℕ) → is_tried x (at p (e ∷ past)) ≡ is_tried x (at p past)
  tried_quiet p = tried_same x p past e (tried_other x e.act other)

  stage_quiet : (s : Progress) → Stage x past s → Stage x (e ∷ past) s
  stage_quiet Idle i = open_quiet i
  stage_quiet (Asked from d) i = (open_quiet i.0, asked_stays x past e unsends from d i.1)
  stage_quiet (Tried from q to hop) i =
      (open_quiet i.0, under_way_stays x past e from q (tried_quiet from) i.1, settled_same x from past e (settles_other x e.act other) ∙ i.2)
  stage_quiet (Decided from b q a) i =
      (λ f. ap (verdict x) quiet_view ∙ i.0 f, ap (is_chosen x) quiet_view ∙ i.1, under_way_stays x past e from q (tried_quiet from) i.2)
  stage_quiet (Settled a) i = over_stays x past e unsends i
  stage_quiet Reported i = over_stays x past e unsends i

  quiet : (posts (by x.seat (e ∷ past)) < x.number → post_of x (e ∷ past) ≡ None) → MessageFacts x past → MessageFacts x (e ∷ past)
  quiet u f =
      record {
        home = λ p r m n a b. f.home p r m n (sent_back x past e unsends p m a) (sent_back x past e unsends r n b);
        origin = λ p m a. origin_stays x past e p m (f.origin p m (sent_back x past e unsends p m a));
        fresh = λ lt. unknown_stays x past e unsends quiet_view (f.fresh (let grow = posts_grow past e x.seat in omega arith));
        unposted = u;
        uncopied = λ c k. unknown_stays x past e unsends quiet_view (f.uncopied c (unchosen_before (source x) past e k));
        stage = subst (Stage x (e ∷ past)) (sym (ap progress quiet_view)) (stage_quiet (progress (about x past)) f.stage);
      }

-- x is a copy of the post y, for which its members are chosen now
unknown_idle : (x : MsgId) (past : List Entry) → about x past ≡ [] → Stage x past (progress (about x past))
unknown_idle x past v =
    subst (Stage x past) (sym (ap progress v)) (record { verdict = ap (verdict x) v; chosen = ap (is_chosen x) v })

idle_asked : {P : Type 0} (from : ℕ) (d : Dest) → Idle ≡ Asked from d → P
idle_asked from d h = cc

chosen_now : (y : MsgId) (past : List Entry) (c p s : ℕ) (g : Ui) (qs : List Ui) → is_chosen y (about y (entry c p s (Choose y g qs) ∷ past)) ≡ true
chosen_now y past c p s g qs =
    let e = entry c p s (Choose y g qs) in
    ap (is_chosen y) (keeps (is_about (Some y)) e past (same_id-self y)) ∙ or_left (same_id y y) (is_chosen y (about y past)) (same_id-self y)

copied : (l : Layout) (past : List Entry) (c p s : ℕ) (x y : MsgId) (g : Ui) (qs : List Ui) (m : Sent) → ((z : MsgId) → MessageFacts z past) → act_may l (views past p s (Choose y g qs)) p s (Choose y g qs) ≡ true → is_about (Some x) (entry c p s (Choose y g qs)) ≡ false → find_sent x (copies y g 1 qs) ≡ Some m → MessageFacts x (entry c p s (Choose y g qs) ∷ past)
copied l past c p s x y g qs m inv h other found =
    let e = entry c p s (Choose y g qs) in
    let needs = choose_needs l past p s y g qs h in
    let asked = asked_facts y past needs.from needs.dest (inv y) needs.asked in
    let copy = copy_found x y g 1 qs m found in
    let src : source x ≡ y = same_source x y copy.seat copy.number ∙ own_source y asked.1.copy in
    let not_post : x.copy ≡ 0 → ⊥ = λ z. (omega (arith, z, copy.copy)) in
    let unchosen : is_chosen (source x) (about (source x) past) ≡ false = subst (λ z. is_chosen z (about z past) ≡ false) (sym src) asked.0.chosen in
    let u = (inv x).uncopied not_post unchosen in
    let view : about x (e ∷ past) ≡ about x past = skips (is_about (Some x)) e past other in
    let here : (r : ℕ) (n : Sent) → sent_as x r (e ∷ past) ≡ Some n → (p ≡ r) × (find_sent x (copies y g 1 qs) ≡ Some n) = λ r n k.
    elim (sent_before x r past e n k) [
      | inl old ↦ none_some n (sym (u.unsent r) ∙ old)
      | inr new ↦ new
    ] in
    record {
      home = λ r t n k a b. sym (here r n a).0 ∙ (here t k b).0;
      origin = λ r n a. record {
        post = asked.1.post;
        posted = post_stays x past e asked.1.post (same_post x y past copy.seat copy.number ∙ asked.1.posted);
        route = (copy_found x y g 1 qs n (here r n a).1).route ∙ (sym needs.group ∙ ap group_in (sym asked.1.dest));
        place = λ none. none_some g (sym none ∙ (copy_found x y g 1 qs n (here r n a).1).route);
      };
      fresh = λ lt. (
          let grow = posts_grow past e x.seat in
          let less : posts (by y.seat past) < y.number = subst (λ z. posts (by z past) < y.number) copy.seat (subst (λ z. posts (by x.seat past) < z) copy.number (omega arith)) in
          idle_asked needs.from needs.dest (sym (ap progress ((inv y).fresh less).about) ∙ needs.asked));
      unposted = λ lt. (
          let grow = posts_grow past e x.seat in
          let less : posts (by x.seat past) < x.number = omega arith in
          none_some asked.1.post (sym ((inv x).unposted less) ∙ (same_post x y past copy.seat copy.number ∙ asked.1.posted)));
      uncopied = λ z k. absurd (false≢true (sym k ∙ (ap (λ w. is_chosen w (about w (e ∷ past))) src ∙ chosen_now y past c p s g qs)));
      stage = unknown_idle x (e ∷ past) (view ∙ u.about);
    }

-- An entry about the message.

pub due_known : (x : MsgId) (q : Ui) (p : ℕ) (past : List Entry) → IsUnknown x past → IsDue x q p past → ⊥
due_known x q p past u (inl t) =
    let e : Idle ≡ Tried t.from q p t.hop = sym (ap progress u.about) ∙ t.is in cc
due_known x q p past u (inr f) =
    let first = first_here x q p past f in none_some first.message (sym (u.unsent p) ∙ first.is)

-- what a decision on the message x for the port q with this answer does
pub record Decides (x : MsgId) (q : Ui) (answer : Answer) (p : ℕ) (a : Act) : Type 0 where
  pub about : are_same same_id (Some x) (message_of a) ≡ true
  pub progress : (s : Progress) → progress_after p a s ≡ decided p q answer s
  pub verdict : verdict_by x a ≡ cond (is_final answer) (Some answer) None
  pub settles : settles x a ≡ is_final answer
  pub sends : find_sent x (sent_by a) ≡ None
  pub tries : (b : Bool) → tried_after x a b ≡ b
  pub chooses : chooses x a ≡ false

module _ (l : Layout) (past : List Entry) (c p s : ℕ) (a : Act) (x : MsgId) (q : Ui) (answer : Answer) (d : Decides x q answer p a) (f : MessageFacts x past) where
  on_view : about x (entry c p s a ∷ past) ≡ entry c p s a ∷ about x past
  on_view = keeps (is_about (Some x)) (entry c p s a) past d.about

  verdict_after : verdict x (about x past) ≡ None → verdict x (about x (entry c p s a ∷ past)) ≡ cond (is_final answer) (Some answer) None
  verdict_after none = ap (verdict x) on_view ∙ (ap (λ z. option_or z (verdict_by x a)) none ∙ d.verdict)

  unchosen_after : is_chosen x (about x past) ≡ false → is_chosen x (about x (entry c p s a ∷ past)) ≡ false
  unchosen_after none = ap (is_chosen x) on_view ∙ (ap (λ z. z || is_chosen x (about x past)) d.chooses ∙ none)

  by_try_stage : (from hop : ℕ) → Stage x past (Tried from q p hop) → Stage x (entry c p s a ∷ past) (Decided from p q answer)
  by_try_stage from hop i = (
    λ n. verdict_after i.0.verdict ∙ ap (λ z. cond z (Some answer) None) n,
    unchosen_after i.0.chosen,
    under_way_stays x past (entry c p s a) from q (tried_same x from past (entry c p s a) d.tries) i.1,
  )

  first_stage : (b : Bool) → is_final answer ≡ b → FirstHere x q p past → IsOpen x past → Stage x (entry c p s a ∷ past) (cond b (Settled answer) Idle)
  first_stage false e first o =
      record { verdict = verdict_after o.verdict ∙ ap (λ z. cond z (Some answer) None) e; chosen = unchosen_after o.chosen }
  first_stage true e first o =
      λ r m k.
      let old = sent_back x past (entry c p s a) d.sends r m k in
      let here : p ≡ r = f.home p r first.message m first.is old in
      let same : first.message ≡ m = some_is first.message m (sym first.is ∙ subst (λ z. sent_as x z past ≡ Some m) (sym here) old) in
      let ahead : IsAhead x r past m = subst (λ z. IsAhead x z past m) here (subst (IsAhead x p past) same first.ahead) in (
        subst (λ z. is_settled x (at z (entry c p s a ∷ past)) ≡ true) here (settled_now x past (entry c p s a) (d.settles ∙ e)),
        ahead_stays x r past (entry c p s a) m old ahead,
      )

  decided_stage : IsDue x q p past → Stage x (entry c p s a ∷ past) (progress (about x (entry c p s a ∷ past)))
  decided_stage (inl t) =
      let now : progress (about x (entry c p s a ∷ past)) ≡ Decided t.from p q answer =
      ap progress on_view
      ∙ (d.progress (progress (about x past))
      ∙ (ap (decided p q answer) t.is
      ∙ ap (λ b. cond b (Decided t.from p q answer) Idle) (and_from (p == p) (same_ui q q) (eq-eqb p p refl) (same_ui-self q)))) in
      subst (Stage x (entry c p s a ∷ past)) (sym now) (by_try_stage t.from t.hop (subst (Stage x past) t.is f.stage))
  decided_stage (inr k) =
      let first = first_here x q p past k in
      let idle = first_is_idle x q p past f first in
      let now : progress (about x (entry c p s a ∷ past)) ≡ settled answer =
      ap progress on_view ∙ (d.progress (progress (about x past)) ∙ ap (decided p q answer) idle.0) in
      subst (Stage x (entry c p s a ∷ past)) (sym now) (first_stage (is_final answer) refl first idle.1)

  decides : act_may l (views past p s a) p s a ≡ true → IsDue x q p past → MessageFacts x (entry c p s a ∷ past)
  decides h due =
      let e = entry c p s a in
      record {
        home = λ r t m n j k. f.home r t m n (sent_back x past e d.sends r m j) (sent_back x past e d.sends t n k);
        origin = λ r m k. origin_stays x past e r m (f.origin r m (sent_back x past e d.sends r m k));
        fresh = λ lt. absurd (due_known x q p past (f.fresh (let grow = posts_grow past e x.seat in omega arith)) due);
        unposted = λ lt. unposted_step l past c p s a x h f.unposted lt;
        uncopied = λ z k. absurd (due_known x q p past (f.uncopied z (unchosen_before (source x) past e k)) due);
        stage = decided_stage due;
      }

-- a post
sent_dest : (x : MsgId) (m : Message) (d : Dest) (n : Sent) → find_sent x (sent_by (Post m d)) ≡ Some n → (n.route ≡ group_in d) × (n.route ≡ None)
sent_dest x m (Port q) n h =
    elim (cond_some (same_id m.id x) (record { id = m.id; port = q; route = None }) n None h) [
      | inl this ↦ (let r = ap (λ (z : Sent). z.route) (sym this.1) in (r, r))
      | inr none ↦ none_some n none.1
    ]
sent_dest x m (All g) n h = none_some n h
sent_dest x m (One g) n h = none_some n h
sent_dest x m (OneAt g t) n h = none_some n h

module _ (l : Layout) (past : List Entry) (c p s : ℕ) (m : Message) (d : Dest) (f : MessageFacts m.id past) (needs : PostNeeds past p s m) where
  next_number : m.id.number ≡ posts (by m.id.seat past) + 1
  next_number = needs.number ∙ ap (λ z. posts (by z past) + 1) (sym needs.seat)

  new_post : IsUnknown m.id past
  new_post = f.fresh (omega (arith, next_number))

  counted : posts (by m.id.seat (entry c p s (Post m d) ∷ past)) ≡ m.id.number
  counted =
      ap posts (keeps (is_by m.id.seat) (entry c p s (Post m d)) past (eq-eqb s m.id.seat (sym needs.seat))) ∙ sym next_number

  sent_now : (r : ℕ) (n : Sent) → sent_as m.id r (entry c p s (Post m d) ∷ past) ≡ Some n → (p ≡ r) × (find_sent m.id (sent_by (Post m d)) ≡ Some n)
  sent_now r n k =
      elim (sent_before m.id r past (entry c p s (Post m d)) n k) [
        | inl old ↦ none_some n (sym (new_post.unsent r) ∙ old)
        | inr new ↦ new
      ]

  the_post : Posted
  the_post = record { place = p; message = m; dest = d }

  posted_now : post_of m.id (entry c p s (Post m d) ∷ past) ≡ Some (record { place = p; message = m; dest = d })
  posted_now =
      let e = entry c p s (Post m d) in
      let here : same_id m.id (source m.id) ≡ true = subst (λ z. same_id m.id z ≡ true) (sym (own_source m.id needs.copy)) (same_id-self m.id) in
      ap (posted_in (source m.id)) (keeps (is_by m.id.seat) e past (eq-eqb s m.id.seat (sym needs.seat)))
      ∙ (ap (λ z. option_or z (posted_by (source m.id) p (Post m d))) (f.unposted (omega (arith, next_number)))
      ∙ ap (λ b. cond b (Some (record { place = p; message = m; dest = d })) None) here)

  post_view : about m.id (entry c p s (Post m d) ∷ past) ≡ entry c p s (Post m d) ∷ []
  post_view =
      keeps (is_about (Some m.id)) (entry c p s (Post m d)) past (same_id-self m.id) ∙ ap (λ z. entry c p s (Post m d) ∷ z) new_post.about

  post_open : IsOpen m.id (entry c p s (Post m d) ∷ past)
  post_open = record { verdict = ap (verdict m.id) post_view; chosen = ap (is_chosen m.id) post_view }

  unsent_now : (g : Ui) → group_in d ≡ Some g → (r : ℕ) (o : Option Sent) → sent_as m.id r (entry c p s (Post m d) ∷ past) ≡ o → o ≡ None
  unsent_now g e r None k = refl
  unsent_now g e r (Some n) k =
      let two = sent_dest m.id m d n (sent_now r n k).1 in none_some g (sym two.1 ∙ (two.0 ∙ e))

  post_asked : (g : Ui) → group_in d ≡ Some g → IsAsked m.id (entry c p s (Post m d) ∷ past) p d
  post_asked g e =
      record {
        copy = needs.copy;
        unsent = λ r. unsent_now g e r (sent_as m.id r (entry c p s (Post m d) ∷ past)) refl;
        post = record { place = p; message = m; dest = d };
        posted = posted_now;
        place = refl;
        dest = refl;
      }

post_stage : (l : Layout) (past : List Entry) (c p s : ℕ) (m : Message) (d : Dest) → MessageFacts m.id past → PostNeeds past p s m → Stage m.id (entry c p s (Post m d) ∷ past) (progress_after p (Post m d) Idle)
post_stage l past c p s m (Port q) f n = post_open l past c p s m (Port q) f n
post_stage l past c p s m (All g) f n = (post_open l past c p s m (All g) f n, post_asked l past c p s m (All g) f n g refl)
post_stage l past c p s m (One g) f n = (post_open l past c p s m (One g) f n, post_asked l past c p s m (One g) f n g refl)
post_stage l past c p s m (OneAt g t) f n = (post_open l past c p s m (OneAt g t) f n, post_asked l past c p s m (OneAt g t) f n g refl)

post_step : (l : Layout) (past : List Entry) (c p s : ℕ) (m : Message) (d : Dest) → MessageFacts m.id past → act_may l (views past p s (Post m d)) p s (Post m d) ≡ true → MessageFacts m.id (entry c p s (Post m d) ∷ past)
post_step l past c p s m d f h =
    let needs = post_needs l past p s m d h in
    let e = entry c p s (Post m d) in
    let now = counted l past c p s m d f needs in
    record {
      home = λ r t n k a b. sym (sent_now l past c p s m d f needs r n a).0 ∙ (sent_now l past c p s m d f needs t k b).0;
      origin = λ r n a. record {
        post = record { place = p; message = m; dest = d };
        posted = posted_now l past c p s m d f needs;
        route = (sent_dest m.id m d n (sent_now l past c p s m d f needs r n a).1).0;
        place = λ none. (sent_now l past c p s m d f needs r n a).0;
      };
      fresh = λ lt. absurd (omega (arith, now, lt));
      unposted = λ lt. absurd (omega (arith, now, lt));
      uncopied = λ z k. absurd (z needs.copy);
      stage = subst (Stage m.id (e ∷ past)) (sym (ap progress (post_view l past c p s m d f needs))) (post_stage l past c p s m d f needs);
    }

-- a try
try_step : (l : Layout) (past : List Entry) (c p s : ℕ) (x : MsgId) (q : Ui) (to hop : ℕ) → MessageFacts x past → act_may l (views past p s (Try x q to hop)) p s (Try x q to hop) ≡ true → MessageFacts x (entry c p s (Try x q to hop) ∷ past)
try_step l past c p s x q to hop f h =
    let a = Try x q to hop in
    let e = entry c p s a in
    let k = first_try l past p s x q to hop h in
    let first = first_here x q p past k in
    let idle = first_is_idle x q p past f first in
    let view : about x (e ∷ past) ≡ e ∷ about x past = keeps (is_about (Some x)) e past (same_id-self x) in
    let tried : is_tried x (at p (e ∷ past)) ≡ true = ap (is_tried x) (at_same p e past refl) ∙ or_left (same_id x x) (is_tried x (at p past)) (same_id-self x) in
    record {
      home = λ r t m n j k. f.home r t m n (sent_back x past e refl r m j) (sent_back x past e refl t n k);
      origin = λ r m k. origin_stays x past e r m (f.origin r m (sent_back x past e refl r m k));
      fresh = λ lt. absurd (due_known x q p past (f.fresh (let grow = posts_grow past e x.seat in omega arith)) (inr k));
      unposted = λ lt. unposted_step l past c p s a x h f.unposted lt;
      uncopied = λ z j. absurd (due_known x q p past (f.uncopied z (unchosen_before (source x) past e j)) (inr k));
      stage = subst (Stage x (e ∷ past)) (sym (ap progress view)) (
        record { verdict = ap (verdict x) view ∙ ap (λ z. option_or z None) idle.1.verdict; chosen = ap (is_chosen x) view ∙ idle.1.chosen },
        record { message = first.message; is = sent_stays x p past e first.message first.is; port = first.port; ahead = ahead_stays x p past e first.message first.is first.ahead; tried = tried },
        settled_same x p past e refl ∙ first.live,
      );
    }

-- the place that tried it is told
pub record ToldNeeds (x : MsgId) (past : List Entry) (p : ℕ) (a : Answer) : Type 0 where
  pub by : ℕ
  pub port : Ui
  pub is : progress (about x past) ≡ Decided p by port a

told_case : (x : MsgId) (past : List Entry) (p : ℕ) (a : Answer) (s : Progress) → progress (about x past) ≡ s → is_to_be_told p a s ≡ true → ToldNeeds x past p a
told_case x past p a (Decided from b q r) e h =
    let two = and_parts (from == p) (same_answer a r) h in
    record { by = b; port = q; is = e ∙ (ap (λ z. Decided z b q r) (eqb-true from p two.0) ∙ ap (λ z. Decided p b q z) (sym (from_same_answer a r two.1))) }
told_case x past p a Idle e h = absurd (false≢true h)
told_case x past p a (Asked f d) e h = absurd (false≢true h)
told_case x past p a (Tried f q to hop) e h = absurd (false≢true h)
told_case x past p a (Settled b) e h = absurd (false≢true h)
told_case x past p a Reported e h = absurd (false≢true h)

pub told_needs : (l : Layout) (past : List Entry) (p s : ℕ) (x : MsgId) (a : Answer) → act_may l (views past p s (Told x a)) p s (Told x a) ≡ true → ToldNeeds x past p a
told_needs l past p s x a h = told_case x past p a (progress (about x past)) refl h

unknown_decided : {P : Type 0} (p b : ℕ) (q : Ui) (a : Answer) → Idle ≡ Decided p b q a → P
unknown_decided p b q a h = cc

told_stage : (past : List Entry) (c p s : ℕ) (x : MsgId) (a : Answer) (b : Bool) → is_final a ≡ b → MessageFacts x past → (q : Ui) → (is_final a ≡ false → verdict x (about x past) ≡ None) × (is_chosen x (about x past) ≡ false) × IsUnderWay x past p q → about x (entry c p s (Told x a) ∷ past) ≡ entry c p s (Told x a) ∷ about x past → Stage x (entry c p s (Told x a) ∷ past) (cond b (Settled a) Idle)
told_stage past c p s x a false n f q i view =
    record { verdict = ap (verdict x) view ∙ ap (λ z. option_or z None) (i.0 n); chosen = ap (is_chosen x) view ∙ i.1 }
told_stage past c p s x a true n f q i view =
    λ r m k.
    let e = entry c p s (Told x a) in
    let w = i.2 in
    let old = sent_back x past e refl r m k in
    let here : p ≡ r = f.home p r w.message m w.is old in
    let same : w.message ≡ m = some_is w.message m (sym w.is ∙ subst (λ z. sent_as x z past ≡ Some m) (sym here) old) in
    let ahead : IsAhead x r past m = subst (λ z. IsAhead x z past m) here (subst (IsAhead x p past) same w.ahead) in (
      subst (λ z. is_settled x (at z (e ∷ past)) ≡ true) here (settled_now x past e (and_from (is_final a) (same_id x x) n (same_id-self x))),
      ahead_stays x r past e m old ahead,
    )

told_step : (l : Layout) (past : List Entry) (c p s : ℕ) (x : MsgId) (a : Answer) → MessageFacts x past → act_may l (views past p s (Told x a)) p s (Told x a) ≡ true → MessageFacts x (entry c p s (Told x a) ∷ past)
told_step l past c p s x a f h =
    let e = entry c p s (Told x a) in
    let needs = told_needs l past p s x a h in
    let view : about x (e ∷ past) ≡ e ∷ about x past = keeps (is_about (Some x)) e past (same_id-self x) in
    let known : IsUnknown x past → ⊥ = λ u. unknown_decided p needs.by needs.port a (sym (ap progress u.about) ∙ needs.is) in
    let now : progress (about x (e ∷ past)) ≡ settled a = ap progress view ∙ ap (progress_after p (Told x a)) needs.is in
    record {
      home = λ r t m n j k. f.home r t m n (sent_back x past e refl r m j) (sent_back x past e refl t n k);
      origin = λ r m k. origin_stays x past e r m (f.origin r m (sent_back x past e refl r m k));
      fresh = λ lt. absurd (known (f.fresh (let grow = posts_grow past e x.seat in omega arith)));
      unposted = λ lt. unposted_step l past c p s (Told x a) x h f.unposted lt;
      uncopied = λ z j. absurd (known (f.uncopied z (unchosen_before (source x) past e j)));
      stage = subst (Stage x (e ∷ past)) (sym now) (told_stage past c p s x a (is_final a) refl f needs.port (subst (Stage x past) needs.is f.stage) view);
    }

-- the place of its post hears of it
heard_case : (x : MsgId) (past : List Entry) (a : Answer) (s : Progress) → progress (about x past) ≡ s → is_to_be_heard a s ≡ true → (b : Answer) × (progress (about x past) ≡ Settled b)
heard_case x past a (Settled b) e h = (b, e)
heard_case x past a Idle e h = absurd (false≢true h)
heard_case x past a (Asked f d) e h = absurd (false≢true h)
heard_case x past a (Tried f q to hop) e h = absurd (false≢true h)
heard_case x past a (Decided f b q r) e h = absurd (false≢true h)
heard_case x past a Reported e h = absurd (false≢true h)

unknown_settled : {P : Type 0} (a : Answer) → Idle ≡ Settled a → P
unknown_settled a h = cc

heard_step : (l : Layout) (past : List Entry) (c p s : ℕ) (x : MsgId) (a : Answer) → MessageFacts x past → act_may l (views past p s (Heard x a)) p s (Heard x a) ≡ true → MessageFacts x (entry c p s (Heard x a) ∷ past)
heard_step l past c p s x a f h =
    let e = entry c p s (Heard x a) in
    let two = and_parts (is_asked_from l p (post_of x past)) (is_to_be_heard a (progress (about x past))) h in
    let was = heard_case x past a (progress (about x past)) refl two.1 in
    let view : about x (e ∷ past) ≡ e ∷ about x past = keeps (is_about (Some x)) e past (same_id-self x) in
    let known : IsUnknown x past → ⊥ = λ u. unknown_settled was.0 (sym (ap progress u.about) ∙ was.1) in
    record {
      home = λ r t m n j k. f.home r t m n (sent_back x past e refl r m j) (sent_back x past e refl t n k);
      origin = λ r m k. origin_stays x past e r m (f.origin r m (sent_back x past e refl r m k));
      fresh = λ lt. absurd (known (f.fresh (let grow = posts_grow past e x.seat in omega arith)));
      unposted = λ lt. unposted_step l past c p s (Heard x a) x h f.unposted lt;
      uncopied = λ z j. absurd (known (f.uncopied z (unchosen_before (source x) past e j)));
      stage = subst (Stage x (e ∷ past)) (sym (ap progress view)) (over_stays x past e refl (subst (Stage x past) was.1 f.stage));
    }

-- its members are chosen, or there are none
module _ (l : Layout) (past : List Entry) (c p s : ℕ) (x : MsgId) (g : Ui) (f : MessageFacts x past) (needs : ChoiceNeeds l past p x g) where
  asked_here : IsOpen x past × IsAsked x past needs.from needs.dest
  asked_here = asked_facts x past needs.from needs.dest f needs.asked

  asked_known : IsUnknown x past → ⊥
  asked_known u = idle_asked needs.from needs.dest (sym (ap progress u.about) ∙ needs.asked)

  choice_step : (a : Act) (answer : Answer) → are_same same_id (Some x) (message_of a) ≡ true → find_sent x (sent_by a) ≡ None → ((z : Progress) → progress_after p a z ≡ Settled answer) → act_may l (views past p s a) p s a ≡ true → MessageFacts x (entry c p s a ∷ past)
  choice_step a answer b unsends to h =
      let e = entry c p s a in
      let view : about x (e ∷ past) ≡ e ∷ about x past = keeps (is_about (Some x)) e past b in
      record {
        home = λ r t m n j k. f.home r t m n (sent_back x past e unsends r m j) (sent_back x past e unsends t n k);
        origin = λ r m k. origin_stays x past e r m (f.origin r m (sent_back x past e unsends r m k));
        fresh = λ lt. absurd (asked_known (f.fresh (let grow = posts_grow past e x.seat in omega arith)));
        unposted = λ lt. unposted_step l past c p s a x h f.unposted lt;
        uncopied = λ z j. absurd (asked_known (f.uncopied z (unchosen_before (source x) past e j)));
        stage = subst (Stage x (e ∷ past)) (sym (ap progress view ∙ to (progress (about x past)))) (λ r m k. none_some m (sym (asked_here.1.unsent r) ∙ sent_back x past e unsends r m k));
      }

-- an entry about the message x
AboutGoal : Layout → List Entry → ℕ → ℕ → ℕ → Act → MsgId → Type 0
AboutGoal l past c p s a x = MessageFacts x past → act_may l (views past p s a) p s a ≡ true → MessageFacts x (entry c p s a ∷ past)

named : (l : Layout) (past : List Entry) (c p s : ℕ) (a : Act) (y x : MsgId) → Some y ≡ Some x → AboutGoal l past c p s a y → AboutGoal l past c p s a x
named l past c p s a y x m k = subst (AboutGoal l past c p s a) (some_is y x m) k

on_message : (l : Layout) (past : List Entry) (c p s : ℕ) (a : Act) (x : MsgId) → message_of a ≡ Some x → AboutGoal l past c p s a x
unfolding AboutGoal
on_message l past c p s (Post m d) x e = named l past c p s (Post m d) m.id x e (post_step l past c p s m d)
on_message l past c p s (Try y q to hop) x e = named l past c p s (Try y q to hop) y x e (try_step l past c p s y q to hop)
on_message l past c p s (Told y a) x e = named l past c p s (Told y a) y x e (told_step l past c p s y a)
on_message l past c p s (Heard y a) x e = named l past c p s (Heard y a) y x e (heard_step l past c p s y a)
on_message l past c p s (Choose y g qs) x e =
    named l past c p s (Choose y g qs) y x e
    (λ f h.
    let needs = choose_needs l past p s y g qs h in
    let asked = asked_facts y past needs.from needs.dest f needs.asked in
    choice_step l past c p s y g f needs (Choose y g qs) (A.Chosen (length qs)) (same_id-self y) (uncopied_here y g qs asked.1.copy (find_sent y (copies y g 1 qs)) refl) (λ z. refl) h)
on_message l past c p s (NoMember y g) x e =
    named l past c p s (NoMember y g) y x e
    (λ f h. choice_step l past c p s y g f (no_member_needs l past p s y g h) (NoMember y g) A.NoMember (same_id-self y) refl (λ z. refl) h)
on_message l past c p s (Accept y q n) x e =
    named l past c p s (Accept y q n) y x e
    (λ f h. decides l past c p s (Accept y q n) y q (A.Accepted n) (record { about = same_id-self y; progress = λ z. refl; verdict = ap (λ b. cond b (Some (A.Accepted n)) None) (same_id-self y); settles = same_id-self y; sends = refl; tries = λ b. refl; chooses = refl }) f h (due_accept l past p s y q n h))
on_message l past c p s (Full y q n) x e =
    named l past c p s (Full y q n) y x e
    (λ f h. decides l past c p s (Full y q n) y q (A.Full n) (record { about = same_id-self y; progress = λ z. refl; verdict = ap (λ b. cond b (Some (A.Full n)) None) (same_id-self y); settles = same_id-self y; sends = refl; tries = λ b. refl; chooses = refl }) f h (due_full l past p s y q n h))
on_message l past c p s (Already y q) x e =
    named l past c p s (Already y q) y x e
    (λ f h. decides l past c p s (Already y q) y q A.Already (record { about = same_id-self y; progress = λ z. refl; verdict = ap (λ b. cond b (Some A.Already) None) (same_id-self y); settles = same_id-self y; sends = refl; tries = λ b. refl; chooses = refl }) f h (due_already l past p s y q h))
on_message l past c p s (ClientsFull y q) x e =
    named l past c p s (ClientsFull y q) y x e
    (λ f h. decides l past c p s (ClientsFull y q) y q A.ClientsFull (record { about = same_id-self y; progress = λ z. refl; verdict = ap (λ b. cond b (Some A.ClientsFull) None) (same_id-self y); settles = same_id-self y; sends = refl; tries = λ b. refl; chooses = refl }) f h (due_clients_full l past p s y q h))
on_message l past c p s (Stale y q tried to hop) x e =
    named l past c p s (Stale y q tried to hop) y x e
    (λ f h. decides l past c p s (Stale y q tried to hop) y q (A.Stale to hop) (record { about = same_id-self y; progress = λ z. refl; verdict = refl; settles = refl; sends = refl; tries = λ b. refl; chooses = refl }) f h (due_stale l past p s y q tried to hop h))
on_message l past c p s (Early y q hop) x e =
    named l past c p s (Early y q hop) y x e
    (λ f h. decides l past c p s (Early y q hop) y q (A.Early hop) (record { about = same_id-self y; progress = λ z. refl; verdict = ap (λ b. cond b (Some (A.Early hop)) None) (same_id-self y); settles = same_id-self y; sends = refl; tries = λ b. refl; chooses = refl }) f h (due_early l past p s y q hop h))
on_message l past c p s (NoPort y q) x e =
    named l past c p s (NoPort y q) y x e
    (λ f h. decides l past c p s (NoPort y q) y q A.NoPort (record { about = same_id-self y; progress = λ z. refl; verdict = ap (λ b. cond b (Some A.NoPort) None) (same_id-self y); settles = same_id-self y; sends = refl; tries = λ b. refl; chooses = refl }) f h (due_no_port l past p s y q h))
on_message l past c p s (Elsewhere y q to hop) x e =
    named l past c p s (Elsewhere y q to hop) y x e
    (λ f h. decides l past c p s (Elsewhere y q to hop) y q (A.Elsewhere to hop) (record { about = same_id-self y; progress = λ z. refl; verdict = ap (λ b. cond b (Some (A.Elsewhere to hop)) None) (same_id-self y); settles = same_id-self y; sends = refl; tries = λ b. refl; chooses = refl }) f h (due_elsewhere l past p s y q to hop h))
on_message l past c p s (Gone y q) x e =
    named l past c p s (Gone y q) y x e
    (λ f h. decides l past c p s (Gone y q) y q A.Gone (record { about = same_id-self y; progress = λ z. refl; verdict = ap (λ b. cond b (Some A.Gone) None) (same_id-self y); settles = same_id-self y; sends = refl; tries = λ b. refl; chooses = refl }) f h (due_gone l past p s y q h))
on_message l past c p s _ x e = none_some x e

-- an entry about another message
on_other : (l : Layout) (past : List Entry) (c p s : ℕ) (a : Act) (x : MsgId) (o : Option Sent) → ((z : MsgId) → MessageFacts z past) → act_may l (views past p s a) p s a ≡ true → is_about (Some x) (entry c p s a) ≡ false → find_sent x (sent_by a) ≡ o → MessageFacts x (entry c p s a ∷ past)
on_other l past c p s a x None inv h other e =
    quiet x past (entry c p s a) other e (λ lt. unposted_step l past c p s a x h (inv x).unposted lt) (inv x)
on_other l past c p s (Choose y g qs) x (Some m) inv h other e = copied l past c p s x y g qs m inv h other e
on_other l past c p s (Post n (Port q)) x (Some m) inv h other e =
    elim (cond_some (same_id n.id x) (record { id = n.id; port = q; route = None }) m None e) [
      | inl this ↦ absurd (false≢true (sym other ∙ (same_id_sym x n.id ∙ this.0)))
      | inr none ↦ none_some m none.1
    ]
on_other l past c p s (Post n _) x (Some m) inv h other e = none_some m e
on_other l past c p s _ x (Some m) inv h other e = none_some m e

pub messages_none : (x : MsgId) → MessageFacts x []
messages_none x =
    record {
      home = λ p r m n a b. none_some m a;
      origin = λ p m a. none_some m a;
      fresh = λ lt. record { about = refl; unsent = λ p. refl };
      unposted = λ lt. refl;
      uncopied = λ z k. record { about = refl; unsent = λ p. refl };
      stage = record { verdict = refl; chosen = refl };
    }

pub messages_step : (l : Layout) (past : List Entry) (e : Entry) → ((z : MsgId) → MessageFacts z past) → act_may l (views past e.place e.seat e.act) e.place e.seat e.act ≡ true → (x : MsgId) → MessageFacts x (e ∷ past)
unfolding AboutGoal
messages_step l past e inv h x =
    elim (cases_Bool (is_about (Some x) e)) [
      | inl t ↦ on_message l past e.clock e.place e.seat e.act x (id_is x (message_of e.act) t) (inv x) h
      | inr n ↦ on_other l past e.clock e.place e.seat e.act x (find_sent x (sent_by e.act)) inv h n refl
    ]

-- what is so of each message in a legal past
pub legal_messages : (l : Layout) (past : List Entry) → is_legal l past ≡ true → (x : MsgId) → MessageFacts x past
legal_messages l [] h x = messages_none x
legal_messages l (e ∷ past) h x =
    let two = legal_parts l e past h in messages_step l past e (legal_messages l past two.1) two.0 x
