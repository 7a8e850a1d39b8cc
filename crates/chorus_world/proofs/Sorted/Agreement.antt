-- What was posted can be read from a table that stands for the whole list: of any past of it, and of the sorted list, it
-- says the same.
use Rattle.std.proofs.Common.{ℕ, ◌≡◌, ◌⊎◌, inl, inr, Bool, true, false, cond, List, [], ◌∷◌, ◌++◌, Option, Some, None, refl, sym, ◌∙◌, ap, subst, append_assoc, append-nil}
use Rattle.std.specs.List.{filter}
use Rattle.std.specs.Option.{option_or}
use Rattle.std.proofs.lemmas.Bool.{false≢true, true≢false}
use Rattle.chorus_ui.specs.declared.ui.Ui.{Ui}
use Rattle.chorus_entry.specs.declared.entry.Entry.{Entry}
use Rattle.chorus_entry.specs.declared.id.MsgId.{MsgId}
use Rattle.chorus_entry.specs.declared.hand.Hand.{Hand}
use Rattle.chorus_entry.specs.declared.act.Act.{Act}
use Rattle.chorus_entry.specs.declared.act.Act.TheVariants.{Post, Accept, Take}
use Rattle.chorus_entry.specs.MsgId.{same_id}
use Rattle.chorus_entry.proofs.Same.{from_same_id}
use Rattle.chorus_world.specs.Views.{at, by, is_by}
use Rattle.chorus_entry.specs.Order.{is_at}
use Rattle.chorus_entry.specs.Same.{are_same}
use Rattle.chorus_world.specs.Posts.{Posted, post_of, posted_in, posted_by, source, tag_of, tag_from, site_asked, site_from}
use Rattle.chorus_entry.specs.Clients.{is_one_too_many, is_repeated, remembered}
use Rattle.chorus_world.specs.Clients.{clients_after, clients_kept, is_already, finds_clients_full}
use Rattle.chorus_world.specs.Places.{just_taken, reply_taken_by, reply_taken}
use Rattle.chorus_world.specs.Groups.{posts_to, post_to, is_next_to, first_unchosen, is_chosen}
use Rattle.chorus_world.specs.Seats.{hand, hand_after, hand_with}
use Rattle.chorus_world.specs.Order.{sort}
use Rattle.chorus_world.proofs.Groups.GroupLemmas.{first_unchosen_append}
use Rattle.chorus_world.proofs.Sorted.Exchange.{IsChain, IsChained, filter_sort, at_chain, by_chain}
use Rattle.chorus_world.proofs.Messages.MessageSteps.{IsAmong}
use Rattle.chorus_world.proofs.Messages.Posted.{IsPosted, IfPosted, AllPosted, id_in}

-- the table goes on where the past ends, along each chain
pub Extends : List Entry → List Entry → Type 0
Extends table past = (t : Entry → Bool) → IsChain t → (more : List Entry) × (filter t table ≡ more ++ filter t past)

pub extends_self : (past : List Entry) → Extends past past
unfolding Extends
extends_self past t c = ([], refl)

pub extends_sort : (past : List Entry) → IsChained past → Extends past (sort past)
unfolding Extends
extends_sort past w t c = ([], sym (filter_sort t c past w))

extends_choice : (b : Bool) (e : Entry) (ts more xs : List Entry) → ts ≡ more ++ cond b (e ∷ xs) xs → (less : List Entry) × (ts ≡ less ++ xs)
extends_choice true e ts more xs h = (more ++ e ∷ [], h ∙ sym (append_assoc more (e ∷ []) xs))
extends_choice false e ts more xs h = (more, h)

pub extends_before : (table past : List Entry) (e : Entry) → Extends table (e ∷ past) → Extends table past
unfolding Extends
extends_before table past e x t c = let h = x t c in extends_choice (t e) e (filter t table) h.0 (filter t past) h.1

-- along one chain
pub extends_at : (table past : List Entry) (t : Entry → Bool) → IsChain t → Extends table past → (more : List Entry) × (filter t table ≡ more ++ filter t past)
unfolding Extends
extends_at table past t c x = x t c

-- What was posted under an id.

posted_further : (x : MsgId) (more xs : List Entry) (m : Posted) → posted_in x xs ≡ Some m → posted_in x (more ++ xs) ≡ Some m
posted_further x [] xs m h = h
posted_further x (e ∷ more) xs m h = ap (λ o. option_or o (posted_by x e.place e.act)) (posted_further x more xs m h)

pub post_agrees : (table past : List Entry) (x : MsgId) → Extends table past → IsPosted past x → post_of x table ≡ post_of x past
post_agrees table past x ext p =
    let e = extends_at table past (is_by x.seat) (by_chain x.seat) ext in
    ap (posted_in (source x)) e.1 ∙ (posted_further (source x) e.0 (by x.seat past) p.0 p.1 ∙ sym p.1)

pub tag_agrees : (table past : List Entry) (x : MsgId) → Extends table past → IsPosted past x → tag_of x table ≡ tag_of x past
tag_agrees table past x ext p = ap tag_from (post_agrees table past x ext p)

pub site_agrees : (table past : List Entry) (x : MsgId) → Extends table past → IsPosted past x → site_asked x table ≡ site_asked x past
site_agrees table past x ext p = ap site_from (post_agrees table past x ext p)

-- What a port remembers of requests.

clients_act : (table past : List Entry) (a : Act) (m n : List (ℕ × ℕ)) → Extends table past → IfPosted past (id_in a) → m ≡ n → clients_after table a m ≡ clients_after past a n
clients_act table past (Accept x q i) m n ext p e =
    ap (λ z. remembered x.seat z m) (tag_agrees table past x ext p) ∙ ap (λ z. remembered x.seat (tag_of x past) z) e
clients_act table past _ m n ext p e = e

pub clients_agree : (table past port : List Entry) → Extends table past → AllPosted past port → clients_kept table port ≡ clients_kept past port
clients_agree table past [] ext p = refl
clients_agree table past (e ∷ port) ext p =
    clients_act table past e.act (clients_kept table port) (clients_kept past port) ext p.0 (clients_agree table past port ext p.1)

pub already_agrees : (table past port : List Entry) (x : MsgId) → Extends table past → IsPosted past x → AllPosted past port → is_already x table port ≡ is_already x past port
already_agrees table past port x ext p all =
    ap (λ z. is_repeated x.seat z (clients_kept table port)) (tag_agrees table past x ext p)
    ∙ ap (λ z. is_repeated x.seat (tag_of x past) z) (clients_agree table past port ext all)

pub clients_full_agrees : (table past port : List Entry) (x : MsgId) → Extends table past → IsPosted past x → AllPosted past port → finds_clients_full x table port ≡ finds_clients_full x past port
clients_full_agrees table past port x ext p all =
    ap (λ z. is_one_too_many x.seat z (clients_kept table port)) (tag_agrees table past x ext p)
    ∙ ap (λ z. is_one_too_many x.seat (tag_of x past) z) (clients_agree table past port ext all)

-- What a seat has in hand, and what was just taken.

hand_act : (table past : List Entry) (a : Act) (h k : Option Hand) → Extends table past → IfPosted past (id_in a) → h ≡ k → hand_after table a h ≡ hand_after past a k
hand_act table past (Take q n x) h k ext p e =
    ap (λ z. hand_with x.seat z h) (tag_agrees table past x ext p) ∙ ap (λ z. hand_with x.seat (tag_of x past) z) e
hand_act table past (Post m d) h k ext p e = ap (hand_after past (Post m d)) e
hand_act table past _ h k ext p e = e

pub hand_agrees : (table past mine : List Entry) → Extends table past → AllPosted past mine → hand table mine ≡ hand past mine
hand_agrees table past [] ext p = refl
hand_agrees table past (e ∷ mine) ext p =
    hand_act table past e.act (hand table mine) (hand past mine) ext p.0 (hand_agrees table past mine ext p.1)

taken_act : (table past : List Entry) (s : ℕ) (a : Act) → Extends table past → IfPosted past (id_in a) → reply_taken_by table s a ≡ reply_taken_by past s a
taken_act table past s (Take q n x) ext p = ap (reply_taken s) (tag_agrees table past x ext p)
taken_act table past s _ ext p = refl

pub taken_agrees : (table past here : List Entry) → Extends table past → AllPosted past here → just_taken table here ≡ just_taken past here
taken_agrees table past [] ext p = refl
taken_agrees table past (e ∷ here) ext p = taken_act table past e.seat e.act ext p.0

-- Which post to a group is the next to be chosen.

posts_further : (g : Ui) (more xs : List Entry) → (ids : List MsgId) × (posts_to g (more ++ xs) ≡ posts_to g xs ++ ids)
posts_further g [] xs = ([], sym (append-nil (posts_to g xs)))
posts_further g (e ∷ more) xs =
    let h = posts_further g more xs in
    (h.0 ++ post_to g e.act, ap (λ ids. ids ++ post_to g e.act) h.1 ∙ append_assoc (posts_to g xs) h.0 (post_to g e.act))

-- where no post is left to be chosen, each of them is chosen
chosen_choice : (here : List Entry) (x y : MsgId) (ys : List MsgId) (b : Bool) → is_chosen y here ≡ b → (y ≡ x) ⊎ IsAmong x ys → cond b (first_unchosen here ys) (Some y) ≡ None → (IsAmong x ys → first_unchosen here ys ≡ None → is_chosen x here ≡ true) → is_chosen x here ≡ true
chosen_choice here x y ys true e (inl same) n ih = subst (λ z. is_chosen z here ≡ true) same e
chosen_choice here x y ys true e (inr rest) n ih = ih rest n
chosen_choice here x y ys false e among n ih = absurd (cc)

all_chosen : (here : List Entry) (x : MsgId) (xs : List MsgId) → IsAmong x xs → first_unchosen here xs ≡ None → is_chosen x here ≡ true
all_chosen here x [] h n = absurd h
all_chosen here x (y ∷ ys) h n = chosen_choice here x y ys (is_chosen y here) refl h n (all_chosen here x ys)

-- the first one that is not chosen is not chosen
unchosen_choice : (here : List Entry) (x y : MsgId) (o : Option MsgId) (b : Bool) → is_chosen y here ≡ b → cond b o (Some y) ≡ Some x → (o ≡ Some x → is_chosen x here ≡ false) → is_chosen x here ≡ false
unchosen_choice here x y o true e h ih = ih h
unchosen_choice here x y o false e h ih = subst (λ z. is_chosen z here ≡ false) (some_is y x h) e
  where
    some_is : (y x : MsgId) → Some y ≡ Some x → y ≡ x
    some_is y x h = cc

unchosen_is : (here : List Entry) (x : MsgId) (xs : List MsgId) → first_unchosen here xs ≡ Some x → is_chosen x here ≡ false
unchosen_is here x [] h = absurd (cc)
unchosen_is here x (y ∷ ys) h = unchosen_choice here x y (first_unchosen here ys) (is_chosen y here) refl h (unchosen_is here x ys)

id_some : (x : MsgId) (o : Option MsgId) → are_same same_id (Some x) o ≡ true → o ≡ Some x
id_some x None h = absurd (false≢true h)
id_some x (Some y) h = ap (λ z. Some z) (sym (from_same_id x y h))

next_cases : (here : List Entry) (x : MsgId) (xs ys : List MsgId) (o m : Option MsgId) → first_unchosen here xs ≡ o → first_unchosen here ys ≡ m → IsAmong x xs → are_same same_id (Some x) (option_or o m) ≡ are_same same_id (Some x) o
next_cases here x xs ys (Some z) m e d h = refl
next_cases here x xs ys None None e d h = refl
next_cases here x xs ys None (Some z) e d h = other (same_id x z) refl
  where
    other : (b : Bool) → same_id x z ≡ b → same_id x z ≡ false
    other true t = absurd (true≢false (sym (all_chosen here x xs h e) ∙ unchosen_is here x ys (d ∙ id_some x (Some z) t)))
    other false t = t

pub next_agrees : (table past here : List Entry) (g : Ui) (x : MsgId) (from : ℕ) → Extends table past → IsAmong x (posts_to g (at from past)) → is_next_to g x from here table ≡ is_next_to g x from here past
next_agrees table past here g x from ext h =
    let e = extends_at table past (is_at from) (at_chain from) ext in
    let f = posts_further g e.0 (at from past) in
    ap (λ es. are_same same_id (Some x) (first_unchosen here (posts_to g es))) e.1
    ∙ (ap (λ ids. are_same same_id (Some x) (first_unchosen here ids)) f.1
    ∙ (ap (are_same same_id (Some x)) (first_unchosen_append here (posts_to g (at from past)) f.0)
    ∙ next_cases here x (posts_to g (at from past)) f.0 (first_unchosen here (posts_to g (at from past))) (first_unchosen here f.0) refl refl h))
