-- What is read of a list says of messages and posts what the whole list says.
use Rattle.std.proofs.Common.{ℕ, ◌≡◌, ◌==◌, ◌+◌, ◌≤◌, ◌<◌, Bool, true, false, ◌&&◌, ◌||◌, cond, List, [], ◌∷◌, Option, Some, None, refl, sym, ◌∙◌, ap, subst, arith}
use Rattle.std.specs.Option.{option_or}
use Rattle.std.proofs.lemmas.Bool.{false≢true, eqb-true}
use Rattle.chorus_ui.specs.declared.layout.Layout.{Layout}
use Rattle.chorus_entry.specs.declared.entry.Entry.{Entry}
use Rattle.chorus_entry.specs.declared.id.MsgId.{MsgId}
use Rattle.chorus_entry.specs.declared.act.Act.{Act}
use Rattle.chorus_entry.specs.declared.act.Act.TheVariants.{Make, Post, NoMember, Choose, Take, Depart, Arrive, Delete}
use Rattle.chorus_entry.specs.Act.{answer_of, is_verdict, message_of}
use Rattle.chorus_entry.specs.MsgId.{same_id}
use Rattle.chorus_entry.specs.Order.{is_at}
use Rattle.chorus_entry.specs.Same.{are_same}
use Rattle.chorus_world.specs.Views.{at, by, is_by}
use Rattle.chorus_world.specs.Groups.{chooses, is_chosen}
use Rattle.chorus_world.specs.Messages.{verdict, verdict_by}
use Rattle.chorus_world.specs.Places.{find_sent, last_clock, sent_by}
use Rattle.chorus_world.specs.Posts.{post_of, posted_by, posted_in, site_asked, site_from, source, tag_from, tag_of}
use Rattle.chorus_world.specs.Seats.{posts, posts_after}
use Rattle.chorus_world.specs.SenderLaws.{route_from, route_of}
use Rattle.chorus_world.specs.Steps.{act_may, is_legal}
use Rattle.chorus_world.specs.Views.{views}
use Rattle.chorus_world.proofs.Messages.PostLemmas.{post_needs}
use Rattle.chorus_world.proofs.Messages.SendingLemmas.{or_none}
use Rattle.chorus_world.proofs.Ports.MadePorts.{clock-some}
use Rattle.chorus_world.proofs.Steps.LegalLemmas.{legal_parts, under}
use Rattle.checker_rows.specs.Messages.{sending, sending_at, sending_by}
use Rattle.judge_promises.specs.Terms.{is_read, last_number, number_by, read}

-- what an entry of a list does to a value, and is not done by one that is not read
pub folds-alike : {A : Type 0} (f : List Entry → A) (step : Entry → A → A) → ((e : Entry) (es : List Entry) → f (e ∷ es) ≡ step e (f es)) → ((e : Entry) (a : A) → is_read e.act ≡ false → step e a ≡ a) → (past : List Entry) → f (read past) ≡ f past
folds-alike f step is stays [] = refl
folds-alike f step is stays (e ∷ past) = go (is_read e.act) refl (folds-alike f step is stays past)
  where
    go : (b : Bool) → is_read e.act ≡ b → f (read past) ≡ f past → f (cond b (e ∷ read past) (read past)) ≡ f (e ∷ past)
    go true h old = is e (read past) ∙ (ap (step e) old ∙ sym (is e past))
    go false h old = old ∙ (sym (stays e (f past) h) ∙ sym (is e past))

pub read-none : {P : Type 0} → true ≡ false → P
read-none h = absurd (false≢true (sym h))

-- Messages.

no-sending : (x : MsgId) (p : ℕ) (a : Act) → is_read a ≡ false → sending_at p (find_sent x (sent_by a)) ≡ None
no-sending x p (Post m d) h = read-none h
no-sending x p (Choose y g qs) h = read-none h
no-sending x p _ h = refl

pub sending-read : (x : MsgId) (past : List Entry) → sending x (read past) ≡ sending x past
sending-read x past =
    folds-alike (sending x) (λ e s. option_or s (sending_by x e)) (λ e es. refl)
    (λ e s h. or_none s (sending_by x e) (no-sending x e.place e.act h)) past

no-verdict : (a : Act) → is_read a ≡ false → is_verdict a ≡ false
no-verdict (Make q a c) h = refl
no-verdict (Post m d) h = refl
no-verdict (Choose x g qs) h = refl
no-verdict (Take q n x) h = refl
no-verdict (Depart q to a hop) h = refl
no-verdict (Arrive q hop) h = refl
no-verdict (Delete q xs) h = refl
no-verdict _ h = h

pub verdict-read : (x : MsgId) (past : List Entry) → verdict x (read past) ≡ verdict x past
verdict-read x past =
    folds-alike (verdict x) (λ e v. option_or v (verdict_by x e.act)) (λ e es. refl)
    (λ e v h. or_none v (verdict_by x e.act) (ap (λ b. cond (b && are_same same_id (Some x) (message_of e.act)) (answer_of e.act) None) (no-verdict e.act h))) past

no-choice : (x : MsgId) (a : Act) → is_read a ≡ false → chooses x a ≡ false
no-choice x (Choose y g qs) h = read-none h
no-choice x (NoMember y g) h = read-none h
no-choice x _ h = refl

pub chosen-read : (x : MsgId) (past : List Entry) → is_chosen x (read past) ≡ is_chosen x past
chosen-read x past =
    folds-alike (is_chosen x) (λ e b. chooses x e.act || b) (λ e es. refl)
    (λ e b h. ap (λ c. c || b) (no-choice x e.act h)) past

-- Posts.

no-post : (x : MsgId) (p : ℕ) (a : Act) → is_read a ≡ false → posted_by x p a ≡ None
no-post x p (Post m d) h = read-none h
no-post x p _ h = refl

pub posted-read : (x : MsgId) (s : ℕ) (past : List Entry) → posted_in x (by s (read past)) ≡ posted_in x (by s past)
posted-read x s past =
    folds-alike (λ es. posted_in x (by s es)) (λ e o. cond (is_by s e) (option_or o (posted_by x e.place e.act)) o)
    (λ e es. under (posted_in x) (is_by s e) (e ∷ by s es) (by s es))
    (λ e o h. stays (is_by s e) o (posted_by x e.place e.act) (no-post x e.place e.act h)) past
  where
    stays : {A : Type 0} (b : Bool) (o m : Option A) → m ≡ None → cond b (option_or o m) o ≡ o
    stays true o m h = or_none o m h
    stays false o m h = refl

pub post-read : (x : MsgId) (past : List Entry) → post_of x (read past) ≡ post_of x past
post-read x past = posted-read (source x) x.seat past

pub tag-read : (x : MsgId) (past : List Entry) → tag_of x (read past) ≡ tag_of x past
tag-read x past = ap tag_from (post-read x past)

pub route-read : (x : MsgId) (past : List Entry) → route_of x (read past) ≡ route_of x past
route-read x past = ap route_from (post-read x past)

pub site-read : (x : MsgId) (past : List Entry) → site_asked x (read past) ≡ site_asked x past
site-read x past = ap site_from (post-read x past)

-- Of a legal list: clocks, and the numbers of posts.

pub clock-read : (l : Layout) (past : List Entry) (p : ℕ) → is_legal l past ≡ true → last_clock (at p (read past)) ≤ last_clock (at p past)
clock-read l [] p h = omega arith
clock-read l (e ∷ past) p h = go (is_read e.act) (is_at p e) refl (clock-read l past p (legal_parts l e past h).1)
  where
    later : is_at p e ≡ true → last_clock (at p past) < e.clock
    later t = subst (λ r. last_clock (at r past) < e.clock) (eqb-true e.place p t) (clock-some l past e h).1

    go : (b c : Bool) → is_at p e ≡ c → last_clock (at p (read past)) ≤ last_clock (at p past) → last_clock (at p (cond b (e ∷ read past) (read past))) ≤ last_clock (cond c (e ∷ at p past) (at p past))
    go true true t old = subst (λ c. last_clock (cond c (e ∷ at p (read past)) (at p (read past))) ≤ e.clock) (sym t) (omega arith)
    go true false t old = subst (λ c. last_clock (cond c (e ∷ at p (read past)) (at p (read past))) ≤ last_clock (at p past)) (sym t) old
    go false true t old = let k = later t in omega (arith, old, k)
    go false false t old = old

-- an act that is not read posts nothing, and what a seat posts is numbered from 1 on
no-posts : (a : Act) (n : ℕ) → is_read a ≡ false → posts_after a n ≡ n
no-posts (Post m d) n h = read-none h
no-posts _ n h = refl

numbered : (l : Layout) (past : List Entry) (p s : ℕ) (a : Act) (n : ℕ) → act_may l (views past p s a) p s a ≡ true → n ≡ posts (by s past) → number_by a n ≡ posts_after a (posts (by s past))
numbered l past p s (Post m d) n h old = (post_needs l past p s m d h).number
numbered l past p s _ n h old = old

pub number-read : (l : Layout) (past : List Entry) (s : ℕ) → is_legal l past ≡ true → last_number s (read past) ≡ posts (by s past)
number-read l [] s h = refl
number-read l (e ∷ past) s h = go (is_read e.act) (e.seat == s) refl refl two.0 (number-read l past s two.1)
  where
    two : (act_may l (views past e.place e.seat e.act) e.place e.seat e.act ≡ true) × (is_legal l past ≡ true)
    two = legal_parts l e past h

    go : (b c : Bool) → is_read e.act ≡ b → (e.seat == s) ≡ c → act_may l (views past e.place e.seat e.act) e.place e.seat e.act ≡ true → last_number s (read past) ≡ posts (by s past) → last_number s (cond b (e ∷ read past) (read past)) ≡ posts (cond c (e ∷ by s past) (by s past))
    go true true r t may old =
        ap (λ c. cond c (number_by e.act (last_number s (read past))) (last_number s (read past))) t
        ∙ (let seat : e.seat ≡ s = eqb-true e.seat s t in
        numbered l past e.place s e.act (last_number s (read past)) (subst (λ z. act_may l (views past e.place z e.act) e.place z e.act ≡ true) seat may) old)
    go true false r t may old = ap (λ c. cond c (number_by e.act (last_number s (read past))) (last_number s (read past))) t ∙ old
    go false true r t may old = old ∙ sym (no-posts e.act (posts (by s past)) r)
    go false false r t may old = old
