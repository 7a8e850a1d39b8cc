-- Tasks may be done where each has what it needs: a caller that has come, and gave few commands, and names of the layout.
use Rattle.std.proofs.Common.{ℕ, zero, suc, ◌≡◌, ◌<◌, ◌≤◌, ◌==◌, ◌^◌, ◌+◌, ◌-◌, ◌⊎◌, nat_lt, Bool, true, false, not, ◌&&◌, ◌||◌, cond, List, [], ◌∷◌, ◌++◌, length, reverse, Some, is_some, slice_get, refl, sym, ◌∙◌, ap, subst, append_assoc, inl, inr, arith}
use Rattle.std.specs.Option.{option_map}
use Rattle.std.proofs.lemmas.Bool.{and_parts, and_from, lt-ltb, false≢true}
use Rattle.std.proofs.lemmas.List.{reverse-append, length-reverse, length-map}
use Rattle.chorus_ui.specs.declared.ui.Ui.{Ui}
use Rattle.chorus_ui.specs.declared.layout.Layout.{Layout}
use Rattle.chorus_ui.specs.Layout.{IsLayout, has_actor, has_place}
use Rattle.chorus_entry.specs.declared.entry.Entry.{Entry}
use Rattle.chorus_entry.specs.declared.act.Act as acts
use Rattle.chorus_entry.specs.Act.{is_command_entry}
use Rattle.chorus_entry.specs.declared.command.Command.{Command}
use Rattle.chorus_ui.specs.NameKind.{is_actor}
use Rattle.chorus_entry.specs.Command.{is_post, has_body_in_limit, meets_conditions}
use Rattle.chorus_world.specs.Views.{by}
use Rattle.chorus_world.specs.Seats.{posts, posts_after}
use Rattle.chorus_world.specs.Commands.{performs, answers, is_own_of}
use Rattle.chorus_calls.specs.Callers.{Seated}
use Rattle.law_network.specs.Network.{Event, Enter, Act, Deliver, See, schedule}
use Rattle.law_network.specs.History.{history}
use Rattle.law_network.specs.Schedules.{has_number_left, may_give, may_happen, may_be, commands_of, command_in}
use Rattle.law_network.specs.Tasks.{Task, Do, Drain, CarryOut, MayAll, commands_in}
use Rattle.law_network.proofs.Places.Layouts.{schedule-keeps}
use Rattle.law_network.proofs.Events.InOrder.{in-order}
use Rattle.law_network.proofs.Commands.Performing.{performs-history}
use Rattle.law_network.proofs.Draining.Drains.{carried-commands}
use Rattle.law_network.proofs.Draining.Ending.{caller-actor, rounds-may}
use Rattle.chorus_replay.specs.declared.loading.TheConstants.{LOAD_LIMIT}
use Rattle.chorus_replay.proofs.Callers.{actors_in, actor_in, actors_by, callers-after, carried-actors}

-- Events that carry out tasks that may be done may be.

pub carried-may : (l : Layout) (ts : List Task) (es : List Event) → IsLayout l → MayAll l ts → CarryOut l ts es → may_be l es ≡ true
carried-may l [] es shape may c = ap (may_be l) c
carried-may l (Do e ∷ ts) es shape may c =
    let older = c.0 in
    ap (may_be l) c.1.0
    ∙ and_from (may_happen e (schedule l older)) (may_be l older) (may.0 older c.1.1) (carried-may l ts older shape may.1 c.1.1)
carried-may l (Drain k ∷ ts) es shape may c =
    let older = c.0 in
    let who = caller-actor (slice_get (schedule l older).callers k) (may.0 older c.1.1) in
    ap (may_be l) (c.1.0).rounds
    ∙ (rounds-may l shape k (c.1.0).count older who.0 (carried-may l ts older shape may.1 c.1.1) who.1).0

-- What a task needs, where so many callers have come.

abbrev pub Needs : Layout → ℕ → Task → Type 0
Needs l n (Do (Enter actor last)) = (is_actor actor ≡ true) × (has_actor l actor ≡ true)
Needs l n (Do (Act k c)) = (k < n) × ((meets_conditions c ≡ true) × ((has_body_in_limit c ≡ true) × ((is_post c ≡ false) ⊎ (1 ≤ k))))
Needs l n (Do (Deliver k a b)) = (k < n) × ((has_place l a ≡ true) × ((has_place l b ≡ true) × ((a == b) ≡ false)))
Needs l n (Do (See k clock)) = k < n
Needs l n (Drain k) = k < n

abbrev pub HasAll : Layout → List Task → Type 0
HasAll l [] = Unit {0}
HasAll l (t ∷ ts) = Needs l (length (actors_by ts)) t × HasAll l ts

-- A caller has posted at most as many messages as it gave commands.

module _ (s : ℕ) (e : Entry) (past : List Entry) where
  abbrev here : Bool → ℕ
  here b = posts (cond b (e ∷ by s past) (by s past))

  most : (b : Bool) → here b ≤ posts (by s past) + 1
  most false = omega arith
  most true = grows e.act (posts (by s past))
    where
      grows : (a : acts.Act) (n : ℕ) → posts_after a n ≤ n + 1
      grows (acts.Act.Post m d) n = omega arith
      grows a n = omega arith

  none : (b : Bool) → b && is_command_entry e.act ≡ false → here b ≡ posts (by s past)
  none false h = refl
  none true h = stays e.act (posts (by s past)) h
    where
      stays : (a : acts.Act) (n : ℕ) → is_command_entry a ≡ false → posts_after a n ≡ n
      stays (acts.Act.Post m d) n h = absurd (false≢true (sym h))
      stays a n h = refl

pub not-false : (b : Bool) → not b ≡ true → b ≡ false
not-false true h = absurd (false≢true h)
not-false false h = refl

pub posts-few : (l : Layout) (s : ℕ) (a : Ui) (past : List Entry) (cs : List Command) → performs l s a past cs ≡ true → posts (by s past) ≤ length cs
posts-few l s a [] cs h = omega arith
posts-few l s a (e ∷ past) [] h =
    let two = and_parts (not (is_own_of s e)) (performs l s a past []) h in
    let rest = posts-few l s a past [] two.1 in
    let same = none s e past (e.seat == s) (not-false (is_own_of s e) two.0) in
    omega (arith, rest, same)
posts-few l s a (e ∷ past) (c ∷ cs) h = go (posts-few l s a past cs) (posts-few l s a past (c ∷ cs)) (is_own_of s e) refl h
  where
    go : (performs l s a past cs ≡ true → posts (by s past) ≤ length cs) → (performs l s a past (c ∷ cs) ≡ true → posts (by s past) ≤ length (c ∷ cs)) → (b : Bool) → is_own_of s e ≡ b → cond b (answers l past a c e && performs l s a past cs) (performs l s a past (c ∷ cs)) ≡ true → here s e past (e.seat == s) ≤ length (c ∷ cs)
    go less all true f k =
        let rest = less (and_parts (answers l past a c e) (performs l s a past cs) k).1 in
        let one = most s e past (e.seat == s) in
        by-one (here s e past (e.seat == s)) (posts (by s past)) (length cs) one rest
      where
        by-one : (x y z : ℕ) → x ≤ y + 1 → y ≤ z → x ≤ suc z
        by-one x y z h k = omega arith
    go less all false f k =
        let rest = all k in
        let same = none s e past (e.seat == s) f in
        omega (arith, rest, same)

-- So each task of which all have what they need may be done.

within : (xs : List Seated) (k : ℕ) → k < length xs → (x : Seated) × (slice_get xs k ≡ Some x)
within [] k h = absurd (omega (arith, h))
within (x ∷ xs) zero h = (x, refl)
within (x ∷ xs) (suc k) h = within xs k (omega (arith, h))

or-later : (a b : Bool) → b ≡ true → a || b ≡ true
or-later true b h = refl
or-later false b h = h

module _ (l : Layout) (shape : IsLayout l) (ts : List Task) (es : List Event) (carried : CarryOut l ts es) (may : may_be l es ≡ true) where
  came : (k : ℕ) → k < length (actors_by ts) → (caller : Seated) × (slice_get (schedule l es).callers k ≡ Some caller)
  came k h =
      let mapped = length-map (schedule l es).callers actor_in in
      let all = ap length (callers-after l es) in
      let turned = length-reverse (actors_in es) in
      let same = ap length (carried-actors l ts es carried) in
      within (schedule l es).callers k (omega (arith, h, mapped, all, turned, same))

  posted : (k : ℕ) (caller : Seated) → slice_get (schedule l es).callers k ≡ Some caller → caller.posts ≤ length (commands_in k ts)
  posted k caller found =
      let is = (in-order l es shape may).0.callers k caller found in
      let performed = performs-history l shape es may k caller.actor (ap (option_map actor_in) found) in
      let few = posts-few l k caller.actor (history l es) (commands_of k es) performed in
      let given = ap length (carried-commands l k ts es carried) in
      let number = is.posts in
      omega (arith, few, given, number)

  layout-is : (schedule l es).layout ≡ l
  layout-is = (schedule-keeps l es).layout

  gives : (k : ℕ) (c : Command) → Needs l (length (actors_by ts)) (Do (Act k c)) → (1 ≤ k → length (commands_in k ts) ≤ LOAD_LIMIT) → may_happen (Act k c) (schedule l es) ≡ true
  gives k c needs few =
      let there = came k needs.0 in
      let caller = there.0 in
      ap (λ o. may_give o c) there.1
      ∙ and_from (meets_conditions c && has_body_in_limit c) (has_number_left caller c)
      (and_from (meets_conditions c) (has_body_in_limit c) needs.1.0 needs.1.1.0)
      (number caller there.1 needs.1.1.1)
    where
      number : (caller : Seated) → slice_get (schedule l es).callers k ≡ Some caller → (is_post c ≡ false) ⊎ (1 ≤ k) → has_number_left caller c ≡ true
      number caller found (inl h) = ap (λ b. not b || nat_lt caller.posts (2 ^ 32 - 1)) h
      number caller found (inr h) =
          let at_most = posted k caller found in
          let limit = few h in
          or-later (not (is_post c)) (nat_lt caller.posts (2 ^ 32 - 1)) (lt-ltb caller.posts (2 ^ 32 - 1) (below caller.posts (length (commands_in k ts)) at_most limit))
        where
          below : (a b : ℕ) → a ≤ b → b ≤ LOAD_LIMIT → a < 2 ^ 32 - 1
          below a b h k = omega arith

  happens : (e : Event) → Needs l (length (actors_by ts)) (Do e) → ((k : ℕ) → 1 ≤ k → length (commands_in k ts) ≤ LOAD_LIMIT) → may_happen e (schedule l es) ≡ true
  happens (Enter actor last) needs few =
      and_from (is_actor actor) (has_actor (schedule l es).layout actor) needs.0 (ap (λ (z : Layout). has_actor z actor) layout-is ∙ needs.1)
  happens (Act k c) needs few = gives k c needs (few k)
  happens (Deliver k a b) needs few =
      let n = schedule l es in
      let some = is_some (slice_get n.callers k) in
      let from : has_place n.layout a ≡ true = ap (λ (z : Layout). has_place z a) layout-is ∙ needs.1.0 in
      let to : has_place n.layout b ≡ true = ap (λ (z : Layout). has_place z b) layout-is ∙ needs.1.1.0 in
      and_from (some && has_place n.layout a && has_place n.layout b) (not (a == b))
      (and_from (some && has_place n.layout a) (has_place n.layout b) (and_from some (has_place n.layout a) (ap is_some (came k needs.0).1) from) to)
      (ap not needs.1.1.1)
  happens (See k clock) needs few = ap is_some (came k needs).1

fewer : (k : ℕ) (e : Event) (cs : List Command) → length cs ≤ length (command_in k e cs)
fewer k (Enter actor last) cs = omega arith
fewer k (Deliver s a b) cs = omega arith
fewer k (See s clock) cs = omega arith
fewer k (Act s c) cs = go (s == k)
  where
    go : (b : Bool) → length cs ≤ length (cond b (c ∷ cs) cs)
    go true = omega arith
    go false = omega arith

pub may-all : (l : Layout) → IsLayout l → (ts : List Task) → HasAll l ts → ((k : ℕ) → 1 ≤ k → length (commands_in k ts) ≤ LOAD_LIMIT) → MayAll l ts
may-all l shape [] has few = tt
may-all l shape (Do e ∷ ts) has few =
    let less = λ (k : ℕ) (h : 1 ≤ k). (let a = few k h in let b = fewer k e (commands_in k ts) in bound (length (commands_in k ts)) (length (command_in k e (commands_in k ts))) b a) in
    let rest = may-all l shape ts has.1 less in
    (λ es c. happens l shape ts es c (carried-may l ts es shape rest c) e has.0 less, rest)
  where
    bound : (a b : ℕ) → a ≤ b → b ≤ LOAD_LIMIT → a ≤ LOAD_LIMIT
    bound a b h k = omega arith
may-all l shape (Drain k ∷ ts) has few =
    let rest = may-all l shape ts has.1 few in
    (λ es c. ap is_some (came l shape ts es c (carried-may l ts es shape rest c) k has.0).1, rest)

-- Tasks in their order, where so many callers have come before them.

abbrev pub NeedsOn : Layout → ℕ → List Task → Type 0
NeedsOn l n [] = Unit {0}
NeedsOn l n (Do (Enter actor last) ∷ ts) = Needs l n (Do (Enter actor last)) × NeedsOn l (suc n) ts
NeedsOn l n (Do (Act k c) ∷ ts) = Needs l n (Do (Act k c)) × NeedsOn l n ts
NeedsOn l n (Do (Deliver k a b) ∷ ts) = Needs l n (Do (Deliver k a b)) × NeedsOn l n ts
NeedsOn l n (Do (See k clock) ∷ ts) = Needs l n (Do (See k clock)) × NeedsOn l n ts
NeedsOn l n (Drain k ∷ ts) = Needs l n (Drain k) × NeedsOn l n ts

turn : (t : Task) (ts older : List Task) → reverse (t ∷ ts) ++ older ≡ reverse ts ++ t ∷ older
turn t ts older = ap (λ z. z ++ older) (reverse-append (t ∷ []) ts) ∙ append_assoc (reverse ts) (t ∷ []) older

pub all-of : (l : Layout) (older ts : List Task) → NeedsOn l (length (actors_by older)) ts → HasAll l older → HasAll l (reverse ts ++ older)
all-of l older [] needs has = has
all-of l older (Do (Enter actor last) ∷ ts) needs has =
    let t = Do (Enter actor last) in subst (HasAll l) (sym (turn t ts older)) (all-of l (t ∷ older) ts needs.1 (needs.0, has))
all-of l older (Do (Act k c) ∷ ts) needs has =
    let t = Do (Act k c) in subst (HasAll l) (sym (turn t ts older)) (all-of l (t ∷ older) ts needs.1 (needs.0, has))
all-of l older (Do (Deliver k a b) ∷ ts) needs has =
    let t = Do (Deliver k a b) in subst (HasAll l) (sym (turn t ts older)) (all-of l (t ∷ older) ts needs.1 (needs.0, has))
all-of l older (Do (See k clock) ∷ ts) needs has =
    let t = Do (See k clock) in subst (HasAll l) (sym (turn t ts older)) (all-of l (t ∷ older) ts needs.1 (needs.0, has))
all-of l older (Drain k ∷ ts) needs has =
    let t = Drain k in subst (HasAll l) (sym (turn t ts older)) (all-of l (t ∷ older) ts needs.1 (needs.0, has))

pub on-append : (l : Layout) (n m : ℕ) (ts us : List Task) → m ≡ length (actors_by ts) + n → NeedsOn l n ts → NeedsOn l m us → NeedsOn l n (ts ++ us)
on-append l n m [] us e one two = subst (λ k. NeedsOn l k us) (e ∙ none-more n) two
  where
    none-more : (n : ℕ) → 0 + n ≡ n
    none-more n = omega arith
on-append l n m (Do (Enter actor last) ∷ ts) us e one two = (one.0, on-append l (suc n) m ts us (e ∙ later (length (actors_by ts)) n) one.1 two)
  where
    later : (a n : ℕ) → suc a + n ≡ a + suc n
    later a n = omega arith
on-append l n m (Do (Act k c) ∷ ts) us e one two = (one.0, on-append l n m ts us e one.1 two)
on-append l n m (Do (Deliver k a b) ∷ ts) us e one two = (one.0, on-append l n m ts us e one.1 two)
on-append l n m (Do (See k clock) ∷ ts) us e one two = (one.0, on-append l n m ts us e one.1 two)
on-append l n m (Drain k ∷ ts) us e one two = (one.0, on-append l n m ts us e one.1 two)

-- behind tasks by which nobody comes
pub on-still : (l : Layout) (n : ℕ) (ts us : List Task) → actors_by ts ≡ [] → NeedsOn l n ts → NeedsOn l n us → NeedsOn l n (ts ++ us)
on-still l n ts us e = on-append l n n ts us (let none = ap length e in omega (arith, none))
