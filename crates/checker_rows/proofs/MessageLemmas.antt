-- The row of a message after one entry more.
use Rattle.std.proofs.Common.{ℕ, ◌≡◌, ◌==◌, ◌+◌, ◌<◌, Bool, true, false, ◌&&◌, ◌||◌, cond, List, [], ◌∷◌, length, take, get_or, length-take-le, Option, Some, None, refl, sym, ◌∙◌, ap, arith}
use Rattle.std.specs.Option.{option_or}
use Rattle.std.specs.Prelude.{unwrap_or}
use Rattle.std.proofs.lemmas.List.{take_more}
use Rattle.chorus_ui.specs.declared.ui.Ui.{Ui}
use Rattle.chorus_entry.specs.declared.entry.Entry.{Entry}
use Rattle.chorus_entry.specs.declared.id.MsgId.{MsgId}
use Rattle.chorus_entry.specs.declared.answer.Answer.{Answer}
use Rattle.chorus_entry.specs.declared.dest.Dest.TheVariants as D
use Rattle.chorus_entry.specs.declared.act.Act.{Act}
use Rattle.chorus_entry.specs.declared.act.Act.TheVariants.{Post, NoMember, Choose}
use Rattle.chorus_entry.specs.Act.{message_of, answer_of, is_verdict}
use Rattle.chorus_entry.specs.MsgId.{same_id}
use Rattle.chorus_entry.specs.Same.{are_same}
use Rattle.chorus_entry.proofs.Same.{from_same_id}
use Rattle.chorus_world.specs.Views.{by, about, is_about}
use Rattle.chorus_world.specs.declared.place.Sent.{Sent}
use Rattle.chorus_world.specs.Messages.{progress_after, progress, verdict_by}
use Rattle.chorus_world.specs.Places.{copies, find_sent, sent_by, sent_to, settles, tried_after}
use Rattle.chorus_world.specs.Posts.{Posted, posted_by, posted_in}
use Rattle.chorus_world.specs.Groups.{chooses}
use Rattle.chorus_world.proofs.Messages.SendingLemmas.{same_id_sym, settles_other, tried_other}
use Rattle.chorus_world.proofs.Messages.SentLemmas.{copy, find_copies_push}
use Rattle.checker_rows.specs.declared.posting.Posting.{Posting}
use Rattle.checker_rows.specs.declared.sending.Sending.{Sending}
use Rattle.checker_rows.specs.declared.messages.MessageRow.{MessageRow}
use Rattle.checker_rows.specs.Messages.{in_brief, message_row, message_after, posted_under, sending_at, is_from, posts_as, copies_as, about_after, with_sending, no_message}

or_none : {A : Type 0} (o : Option A) → option_or o None ≡ o
or_none None = refl
or_none (Some x) = refl

brief_or : (o d : Option Posted) → in_brief (option_or o d) ≡ option_or (in_brief o) (in_brief d)
brief_or None d = refl
brief_or (Some x) d = refl

-- two rows with equal fields
row_same : (a b : MessageRow) → a.progress ≡ b.progress → a.verdict ≡ b.verdict → a.post ≡ b.post → a.sent ≡ b.sent → a.settled ≡ b.settled → a.tried ≡ b.tried → a.chosen ≡ b.chosen → a ≡ b
row_same a b p v d s x y z = λ i. record { progress = p i; verdict = v i; post = d i; sent = s i; settled = x i; tried = y i; chosen = z i }

progress_case : (e : Entry) (m : List Entry) (b : Bool) → progress (cond b (e ∷ m) m) ≡ cond b (progress_after e.place e.act (progress m)) (progress m)
progress_case e m true = refl
progress_case e m false = refl

post_case : (x : MsgId) (e : Entry) (mine : List Entry) (b : Bool) → in_brief (posted_in x (cond b (e ∷ mine) mine)) ≡ option_or (in_brief (posted_in x mine)) (cond b (in_brief (posted_by x e.place e.act)) None)
post_case x e mine true = brief_or (posted_in x mine) (posted_by x e.place e.act)
post_case x e mine false = sym (or_none (in_brief (posted_in x mine)))

pub message_grows : (past : List Entry) (e : Entry) (x : MsgId) → message_row (e ∷ past) x ≡ message_after x e (message_row past x)
message_grows past e x =
    let a = progress_case e (about x past) (is_about (Some x) e) in
    let b = post_case x e (by x.seat past) (e.seat == x.seat) in
    row_same _ _ a refl b refl refl refl refl

-- An entry about another message leaves all but the copies of a choice.

verdict_apart : (x : MsgId) (a : Act) (b : Bool) → are_same same_id (Some x) (message_of a) ≡ false → (o : Option Answer) → cond (b && are_same same_id (Some x) (message_of a)) o None ≡ None
verdict_apart x a true h o = ap (λ c. cond c o None) h
verdict_apart x a false h o = refl

posted_apart : (x : MsgId) (p : ℕ) (a : Act) → are_same same_id (Some x) (message_of a) ≡ false → in_brief (posted_by x p a) ≡ None
posted_apart x p (Post m d) h = ap (λ c. in_brief (cond c (Some (record { place = p; message = m; dest = d })) None)) (same_id_sym m.id x ∙ h)
posted_apart x p _ h = refl

sends_apart : (x : MsgId) (p : ℕ) (a : Act) → are_same same_id (Some x) (message_of a) ≡ false → posts_as x p a ≡ None
sends_apart x p (Post m (D.Port q)) h = ap (λ c. sending_at p (cond c (Some (record { id = m.id; port = q; route = None })) None)) (same_id_sym m.id x ∙ h)
sends_apart x p (Post m (D.All g)) h = refl
sends_apart x p (Post m (D.One g)) h = refl
sends_apart x p (Post m (D.OneAt g s)) h = refl
sends_apart x p _ h = refl

chooses_other : (x : MsgId) (a : Act) → are_same same_id (Some x) (message_of a) ≡ false → chooses x a ≡ false
chooses_other x (Choose y g qs) h = same_id_sym y x ∙ h
chooses_other x (NoMember y g) h = same_id_sym y x ∙ h
chooses_other x _ h = refl

under_apart : (b : Bool) (o : Option Posting) → o ≡ None → cond b o None ≡ None
under_apart true o h = h
under_apart false o h = refl

none_settles : (b c d : Bool) → c ≡ false → ((b && c) || d) ≡ d
none_settles true c d h = ap (λ z. z || d) h
none_settles false c d h = refl

same_both : (b c d : Bool) → c ≡ d → cond b c d ≡ d
same_both true c d h = h
same_both false c d h = refl

pub about_apart : (x : MsgId) (e : Entry) → is_about (Some x) e ≡ false → (r : MessageRow) → about_after x e r ≡ r
about_apart x e h r =
    let v : option_or r.verdict (verdict_by x e.act) ≡ r.verdict = ap (option_or r.verdict) (verdict_apart x e.act (is_verdict e.act) h (answer_of e.act)) ∙ or_none r.verdict in
    let p : option_or r.post (posted_under x e) ≡ r.post = ap (option_or r.post) (under_apart (e.seat == x.seat) (in_brief (posted_by x e.place e.act)) (posted_apart x e.place e.act h)) ∙ or_none r.post in
    let q : cond (is_about (Some x) e) (progress_after e.place e.act r.progress) r.progress ≡ r.progress = ap (λ c. cond c (progress_after e.place e.act r.progress) r.progress) h in
    let s : option_or r.sent (posts_as x e.place e.act) ≡ r.sent = ap (option_or r.sent) (sends_apart x e.place e.act h) ∙ or_none r.sent in
    row_same _ _ q v p s (none_settles (is_from e.place r.sent) (settles x e.act) r.settled (settles_other x e.act h)) (same_both (is_from e.place r.sent) (tried_after x e.act r.tried) r.tried (tried_other x e.act h r.tried)) (ap (λ b. b || r.chosen) (chooses_other x e.act h))

-- The parts of what an entry sends.

sent_case : (x : MsgId) (p : ℕ) (a : Act) (s : Option Sending) → option_or (option_or s (posts_as x p a)) (copies_as x p a) ≡ option_or s (sending_at p (find_sent x (sent_by a)))
sent_case x p (Post m d) s = or_none (option_or s (sending_at p (find_sent x (sent_to m.id d))))
sent_case x p (Choose y g qs) s = ap (λ o. option_or o (sending_at p (find_sent x (copies y g 1 qs)))) (or_none s)
sent_case x p _ s = or_none (option_or s None)

with_is : (o : Option Sending) (r : MessageRow) → with_sending o r ≡ record r { sent = option_or r.sent o }
with_is None r = ap (λ o. record r { sent = o }) (sym (or_none r.sent))
with_is (Some s) r = refl

-- the entry's message first, and then the copies
pub both_after : (x : MsgId) (e : Entry) (r : MessageRow) → with_sending (copies_as x e.place e.act) (about_after x e r) ≡ message_after x e r
both_after x e r = with_is (copies_as x e.place e.act) (about_after x e r) ∙ row_same _ _ refl refl refl (sent_case x e.place e.act r.sent) refl refl refl

or_twice : (o : Option Sending) (s : Sending) (p : Option Sending) → option_or (option_or o (Some s)) p ≡ option_or o (Some s)
or_twice None s p = refl
or_twice (Some t) s p = refl

-- one copy more
added_case : (c : Bool) (p : ℕ) (a : Option Sent) (m : Sent) (r : MessageRow) → cond c (with_sending (sending_at p (Some m)) (with_sending (sending_at p a) r)) (with_sending (sending_at p a) r) ≡ with_sending (sending_at p (option_or a (cond c (Some m) None))) r
added_case true p None m r = refl
added_case true p (Some n) m r = ap (λ o. record r { sent = o }) (or_twice r.sent (record { place = p; port = n.port; route = n.route }) (sending_at p (Some m)))
added_case false p None m r = refl
added_case false p (Some n) m r = refl

pub copy_added : (p : ℕ) (k x y : MsgId) (g : Ui) (qs : List Ui) (i : ℕ) (q : Ui) (s : Sending) (o r t : MessageRow)
    → i < length qs → q ≡ get_or qs i q → y ≡ record x { copy = i + 1 } → s ≡ record { place = p; port = q; route = Some g }
    → r ≡ with_sending (sending_at p (find_sent k (copies x g 1 (take i qs)))) o
    → t ≡ cond (same_id y k) (with_sending (Some s) r) r
    → t ≡ with_sending (sending_at p (find_sent k (copies x g 1 (take (i + 1) qs)))) o
copy_added p k x y g qs i q s o r t lt at id is old new =
    let a = find_sent k (copies x g 1 (take i qs)) in
    let m : Sent = copy x g (i + 1) q in
    let n : 1 + length (take i qs) ≡ i + 1 = omega (arith, length-take-le i qs) in
    let one : copy x g (1 + length (take i qs)) (get_or qs i q) ≡ m = ap (λ j. copy x g j (get_or qs i q)) n ∙ ap (λ u. copy x g (i + 1) u) (sym at) in
    let more : find_sent k (copies x g 1 (take (i + 1) qs)) ≡ option_or a (cond (same_id m.id k) (Some m) None) =
    ap (λ ts. find_sent k (copies x g 1 ts)) (take_more qs i q lt)
    ∙ (find_copies_push x k g (take i qs) (get_or qs i q)
    ∙ ap (λ z. option_or a (find_sent k (z ∷ []))) one) in
    new
    ∙ ((λ j. cond (same_id (id j) k) (with_sending (Some (is j)) (old j)) (old j))
    ∙ (added_case (same_id m.id k) p a m o
    ∙ sym (ap (λ z. with_sending (sending_at p z) o) more)))

-- a table after what was sent is put into the row of one key
pub row_added : (old new : MsgId → Option MessageRow) (k : MsgId) (row : MessageRow) (s : Sending) → ((x : MsgId) → new x ≡ cond (same_id k x) (Some row) (old x)) → row ≡ with_sending (Some s) (unwrap_or (old k) no_message)
    → (x : MsgId) → unwrap_or (new x) no_message ≡ cond (same_id k x) (with_sending (Some s) (unwrap_or (old x) no_message)) (unwrap_or (old x) no_message)
row_added old new k row s h e x = ap (λ o. unwrap_or o no_message) (h x) ∙ by (same_id k x) refl
  where
    by : (b : Bool) → same_id k x ≡ b → unwrap_or (cond b (Some row) (old x)) no_message ≡ cond b (with_sending (Some s) (unwrap_or (old x) no_message)) (unwrap_or (old x) no_message)
    by true t = e ∙ ap (λ y. with_sending (Some s) (unwrap_or (old y) no_message)) (from_same_id k x t)
    by false t = refl
