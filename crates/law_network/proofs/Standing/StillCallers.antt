-- What an act leaves alone, each for all acts at once.
use Rattle.std.proofs.Common.{ℕ, ◌≡◌, ◌≤◌, Bool, true, false, ◌||◌, not, cond, List, [], ◌∷◌, ◌++◌, Option, Some, None, is_some, refl, sym, ◌∙◌, ap, arith, append-nil}
use Rattle.std.specs.List.{filter}
use Rattle.std.specs.Option.{option_or}
use Rattle.std.proofs.lemmas.Bool.{true≢false}
use Rattle.chorus_ui.specs.declared.ui.Ui.{Ui}
use Rattle.chorus_ui.specs.declared.layout.Layout.{Layout}
use Rattle.chorus_entry.specs.declared.entry.Entry.{Entry}
use Rattle.chorus_entry.specs.declared.id.MsgId.{MsgId}
use Rattle.chorus_entry.specs.declared.act.Act.{Act}
use Rattle.chorus_entry.specs.declared.act.Act.TheVariants.{Post, Choose, NoMember, Take, Done, Cancel}
use Rattle.chorus_entry.specs.declared.dest.Dest.TheVariants.{Port, All, One, OneAt}
use Rattle.chorus_entry.specs.Dest.{group_in}
use Rattle.chorus_world.specs.Views.{at, by, is_about, is_on}
use Rattle.chorus_entry.specs.Order.{is_at}
use Rattle.chorus_world.specs.Places.{last_clock}
use Rattle.chorus_world.specs.Groups.{posts_to, post_to, chooses, is_chosen, unchosen}
use Rattle.chorus_world.specs.Seats.{call, call_by, first_call}
use Rattle.law_machine.specs.declared.outgoing.Outgoing.{Outgoing}
use Rattle.law_machine.specs.PlaceState.{Turn, next_entry}
use Rattle.law_network.specs.Records.{as_called, outstanding_as}
use Rattle.law_network.specs.UnderWay.{far_place, asked_for}
use Rattle.law_network.specs.Stands.{IsCaller}
use Rattle.law_network.proofs.Standing.Says.{CallerSays}

-- the act changes what is known of its caller
abbrev pub moves_caller : Act → Bool
moves_caller (Post m d) = true
moves_caller (Take q n x) = true
moves_caller (Done n) = true
moves_caller (Cancel n) = true
moves_caller _ = false

-- it asks for a choice, or makes it
abbrev pub asks_or_chooses : Act → Bool
asks_or_chooses (Post m d) = is_some (group_in d)
asks_or_chooses (Choose x g qs) = true
asks_or_chooses (NoMember x g) = true
asks_or_chooses _ = false

pub or-none : {A : Type 0} (o : Option A) → option_or o None ≡ o
or-none None = refl
or-none (Some x) = refl

-- The caller.

pub outstanding-more : (e : Entry) (mine : List Entry) (o : Option ℕ) → ((n : ℕ) → call_by n e.act ≡ None) → outstanding_as (e ∷ mine) o ≡ outstanding_as mine o
outstanding-more e mine None h = refl
outstanding-more e mine (Some n) h = ap (as_called n) (ap (option_or (first_call n mine)) (h n) ∙ or-none (first_call n mine))

pub caller-still : (past : List Entry) (t : Turn) (a : Act) → moves_caller a ≡ false → IsCaller t.place.layout past (by t.caller.seat past) t.caller.seat t.caller → CallerSays past t a t.caller
caller-still past t (Post m d) h w = absurd (true≢false h)
caller-still past t (Take q n x) h w = absurd (true≢false h)
caller-still past t (Done n) h w = absurd (true≢false h)
caller-still past t (Cancel n) h w = absurd (true≢false h)
caller-still past t a h w =
    let mine = by t.caller.seat past in
    record {
      seat = refl;
      actor = refl;
      posts = refl;
      given = refl;
      call = w.call ∙ sym (outstanding-more (next_entry a t) mine (call mine) (λ n. refl));
      hand = refl;
      stays = refl;
    }

-- What is asked for.

chosen-still : (past : List Entry) (e : Entry) (p : ℕ) (x : MsgId) → asks_or_chooses e.act ≡ false → is_chosen x (at p (e ∷ past)) ≡ is_chosen x (at p past)
chosen-still past e p x h = by (is_at p e)
  where
    none : (a : Act) → asks_or_chooses a ≡ false → chooses x a ≡ false
    none (Choose y g qs) k = absurd (true≢false k)
    none (NoMember y g) k = absurd (true≢false k)
    none a k = refl

    by : (b : Bool) → is_chosen x (cond b (e ∷ at p past) (at p past)) ≡ is_chosen x (at p past)
    by true = ap (λ z. z || is_chosen x (at p past)) (none e.act h)
    by false = refl

unchosen-same : (old new : List Entry) (xs : List MsgId) → ((x : MsgId) → is_chosen x new ≡ is_chosen x old) → unchosen new xs ≡ unchosen old xs
unchosen-same old new [] h = refl
unchosen-same old new (x ∷ xs) h =
    ap (λ b. cond (not b) (x ∷ unchosen new xs) (unchosen new xs)) (h x) ∙ ap (λ ys. cond (not (is_chosen x old)) (x ∷ ys) ys) (unchosen-same old new xs h)

posts-still : (past : List Entry) (e : Entry) (p : ℕ) (g : Ui) → asks_or_chooses e.act ≡ false → posts_to g (at p (e ∷ past)) ≡ posts_to g (at p past)
posts-still past e p g h = by (is_at p e)
  where
    none : (a : Act) → asks_or_chooses a ≡ false → post_to g a ≡ []
    none (Post m (Port q)) k = refl
    none (Post m (All f)) k = absurd (true≢false k)
    none (Post m (One f)) k = absurd (true≢false k)
    none (Post m (OneAt f z)) k = absurd (true≢false k)
    none (Choose y f qs) k = absurd (true≢false k)
    none (NoMember y f) k = absurd (true≢false k)
    none a k = refl

    by : (b : Bool) → posts_to g (cond b (e ∷ at p past) (at p past)) ≡ posts_to g (at p past)
    by true = ap (λ xs. posts_to g (at p past) ++ xs) (none e.act h) ∙ append-nil (posts_to g (at p past))
    by false = refl

pub asks-still : (l : Layout) (old now : List Outgoing) (past : List Entry) (e : Entry) → asks_or_chooses e.act ≡ false
    → ((g : Ui) (a p : ℕ) → asked_for g a p now ≡ asked_for g a p old)
    → ((g : Ui) (a p : ℕ) → far_place l a (Some g) ≡ Some p → asked_for g a p old ≡ unchosen (at p past) (posts_to g (at a past)))
    → (g : Ui) (a p : ℕ) → far_place l a (Some g) ≡ Some p → asked_for g a p now ≡ unchosen (at p (e ∷ past)) (posts_to g (at a (e ∷ past)))
asks-still l old now past e h same w g a p far =
    same g a p
    ∙ (w g a p far
    ∙ (sym (unchosen-same (at p past) (at p (e ∷ past)) (posts_to g (at a past)) (λ x. chosen-still past e p x h))
    ∙ ap (unchosen (at p (e ∷ past))) (sym (posts-still past e a g h))))

-- An act about no message, or at no port.

pub none-about : (past : List Entry) → filter (is_about None) past ≡ []
none-about [] = refl
none-about (e ∷ past) = none-about past

pub none-on : (past : List Entry) → filter (is_on None) past ≡ []
none-on [] = refl
none-on (e ∷ past) = none-on past

pub no-message-clock : (past : List Entry) (o : Option MsgId) (c : ℕ) → o ≡ None → last_clock (filter (is_about o) past) ≤ c
no-message-clock past o c h =
    let e = ap (λ z. last_clock (filter (is_about z) past)) h ∙ ap last_clock (none-about past) in omega (arith, e)

pub no-port-clock : (past : List Entry) (o : Option Ui) (c : ℕ) → o ≡ None → last_clock (filter (is_on o) past) ≤ c
no-port-clock past o c h =
    let e = ap (λ z. last_clock (filter (is_on z) past)) h ∙ ap last_clock (none-on past) in omega (arith, e)
