-- Awaits of a schedule: each that was given received a message, and what is left of a script waits for what does not come.
-- waits are the numbers of the commands of a script that wait, commands are its commands, told is what answered, the latest first, es are events, the
-- latest first, ms are moves, n is a network, k a seat, i the place of a script. A past has its newest entry first.
use Rattle.std.proofs.Common.{ℕ, zero, suc, ◌≡◌, ◌≤◌, ◌+◌, ◌==◌, Bool, true, false, ◌&&◌, cond, List, [], ◌∷◌, ◌++◌, length, map, take, drop, reverse, option_to_list, Option, Some, None, slice_get, refl, sym, ◌∙◌, ap, subst, arith}
use Rattle.std.specs.List.{filter}
use Rattle.std.specs.Option.{option_map, option_or}
use Rattle.std.proofs.lemmas.Bool.{and_parts, eq-eqb, false≢true}
use Rattle.std.proofs.lemmas.List.{length-map, length-reverse, map-append, reverse-append}
use Rattle.chorus_ui.specs.declared.layout.Layout.{Layout}
use Rattle.chorus_ui.specs.Layout.{IsLayout}
use Rattle.chorus_entry.specs.declared.act.Act as acts
use Rattle.chorus_entry.specs.declared.command.Command.{Command}
use Rattle.chorus_entry.specs.declared.entry.Entry.{Entry}
use Rattle.chorus_entry.specs.Act.{is_command_entry}
use Rattle.chorus_world.specs.Commands.{is_own_of}
use Rattle.chorus_world.specs.Views.{by, is_by}
use Rattle.chorus_calls.specs.Callers.{Seated}
use Rattle.law_awaits.specs.Awaits.{is_taken, own_acts, takes_by}
use Rattle.law_machine.specs.Own.{own}
use Rattle.law_network.specs.Left.{merged_past}
use Rattle.law_network.specs.Network.{NetState, Event, Enter, Act, Deliver, See, schedule, turn_for}
use Rattle.law_network.specs.Schedules.{commands_of, may_be, may_give, may_happen}
use Rattle.law_explore.specs.Alike.{ActAlike, CallerAlike, NetsAlike}
use Rattle.law_explore.specs.declared.moves.Move.{Move}
use Rattle.law_explore.specs.Races.{Order, Told, next_of, own_by, replaying, told_in}
use Rattle.law_explore.specs.Search.{IsHistory}
use Rattle.law_explore.proofs.Alike.{keep_acts}
use Rattle.law_explore.proofs.Nets.{begins}
use Rattle.law_explore.proofs.Settling.{told-alike}
use Rattle.law_moments.specs.Answers.{answer_by, answered_by, settle_in, told_as, told_behind}
use Rattle.law_moments.proofs.Answering.{answers-are-read}
use Rattle.law_replay.specs.Shown.{orders_from, orders_of, race_of}
use Rattle.chorus_scene.specs.Scene.{Scene, Script, is_await}
use Rattle.chorus_report.specs.Awaiting.{AwaitsTake}
use Rattle.chorus_explore.specs.Stages.{position}
use Rattle.chorus_explore.proofs.Happening.{events, left-of}

-- What answered, in order.

abbrev pub acts_told : List Told → List acts.Act
acts_told told = reverse (map (λ (it : Told). it.act) told)

pub acts-append : (xs ys : List Told) → acts_told (xs ++ ys) ≡ acts_told ys ++ acts_told xs
acts-append xs ys =
    ap reverse (map-append (λ (it : Told). it.act) xs ys) ∙ reverse-append (map (λ (it : Told). it.act) xs) (map (λ (it : Told). it.act) ys)

first-take : (waits : List ℕ) (j : ℕ) (xs ys : List acts.Act) → AwaitsTake waits j (xs ++ ys) → AwaitsTake waits j xs
first-take waits j [] ys h = tt
first-take waits j (x ∷ xs) ys h = (h.0, first-take waits (j + 1) xs ys h.1)

last-takes : (waits : List ℕ) (j : ℕ) (xs : List acts.Act) (a : acts.Act) → AwaitsTake waits j (xs ++ a ∷ []) → is_await waits (j + length xs) ≡ true → is_taken a ≡ true
last-takes waits j [] a h e = h.0 (ap (is_await waits) (same j) ∙ e)
  where
    same : (j : ℕ) → j ≡ j + 0
    same j = omega arith
last-takes waits j (x ∷ xs) a h e = last-takes waits (j + 1) xs a h.1 (ap (is_await waits) (later j (length xs)) ∙ e)
  where
    later : (j n : ℕ) → j + 1 + n ≡ j + suc n
    later j n = omega arith

-- as before an event
pub takes-less : (waits : List ℕ) (l : Layout) (k : ℕ) (e : Event) (es : List Event) → AwaitsTake waits 0 (acts_told (answered_by l k (e ∷ es))) → AwaitsTake waits 0 (acts_told (answered_by l k es))
takes-less waits l k e es h =
    let new = answer_by k e (schedule l es) in
    let told = answered_by l k es in
    first-take waits 0 (acts_told told) (acts_told new) (subst (AwaitsTake waits 0) (acts-append new told) h)

-- each command is answered
pub as-many : (l : Layout) (k : ℕ) (es : List Event) → may_be l es ≡ true → length (answered_by l k es) ≡ length (commands_of k es)
as-many l k [] may = refl
as-many l k (e ∷ es) may = (let two = and_parts (may_happen e (schedule l es)) (may_be l es) may in by e two.0 (as-many l k es two.1))
  where
    n : NetState
    n = schedule l es

    go : (o : Option Seated) (d : Command) (b : Bool) → may_give o d ≡ true → length (answered_by l k es) ≡ length (commands_of k es)
        → length (cond b (option_to_list (own_by d n o)) [] ++ answered_by l k es) ≡ length (cond b (d ∷ commands_of k es) (commands_of k es))
    go None d b m ih = absurd (false≢true m)
    go (Some w) d true m ih = ap suc ih
    go (Some w) d false m ih = ih

    by : (e : Event) → may_happen e (schedule l es) ≡ true → length (answered_by l k es) ≡ length (commands_of k es) → length (answered_by l k (e ∷ es)) ≡ length (commands_of k (e ∷ es))
    by (Enter actor last) m ih = ih
    by (See j clock) m ih = ih
    by (Deliver j a b) m ih = ih
    by (Act j d) m ih = go (slice_get n.callers j) d (j == k) m ih

-- an await that was given would be answered by a message then
module _ (waits : List ℕ) (told : List Told) (d : Command) (n : NetState) where
  taken-by : (o : Option Seated) (b : Bool) → b ≡ true → may_give o d ≡ true → AwaitsTake waits 0 (acts_told (cond b (option_to_list (own_by d n o)) [] ++ told)) → is_await waits (length told) ≡ true → takes_by d n o ≡ true
  taken-by None b e may h is = absurd (false≢true may)
  taken-by (Some w) false e may h is = absurd (false≢true e)
  taken-by (Some w) true e may h is =
      last-takes waits 0 (acts_told told) (own d (turn_for d w n)) (subst (AwaitsTake waits 0) (acts-append (told_in d (turn_for d w n) ∷ []) told) h) (ap (is_await waits) many ∙ is)
    where
      many : 0 + length (acts_told told) ≡ length told
      many = (let a = length-reverse (map (λ (it : Told). it.act) told) in let b = length-map told (λ (it : Told). it.act) in omega (arith, a, b))

pub takes-now : (waits : List ℕ) (l : Layout) (i : ℕ) (d : Command) (es : List Event) → may_be l (Act (suc i) d ∷ es) ≡ true → AwaitsTake waits 0 (acts_told (answered_by l (suc i) (Act (suc i) d ∷ es)))
    → is_await waits (length (commands_of (suc i) es)) ≡ true → takes_by d (schedule l es) (slice_get (schedule l es).callers (suc i)) ≡ true
takes-now waits l i d es may h is =
    let two = and_parts (may_happen (Act (suc i) d) (schedule l es)) (may_be l es) may in
    taken-by waits (answered_by l (suc i) es) d (schedule l es) (slice_get (schedule l es).callers (suc i)) (suc i == suc i) (eq-eqb (suc i) (suc i) refl) two.0 h
    (ap (is_await waits) (as-many l (suc i) es two.1) ∙ is)

-- The own acts of a seat are what answered it.

told-acts : (k : ℕ) (settles : Option acts.Act) (past : List Entry) → map (λ (e : Entry). e.act) (filter (is_own_of k) past) ≡ map (λ (it : Told). it.act) (told_behind settles (by k past))
told-acts k settles [] = refl
told-acts k settles (e ∷ past) = go (is_by k e) (is_command_entry e.act) refl (λ s. told-acts k s past)
  where
    rest : List Entry
    rest = by k past

    go : (a b : Bool) → is_command_entry e.act ≡ b → ((s : Option acts.Act) → map (λ (f : Entry). f.act) (filter (is_own_of k) past) ≡ map (λ (it : Told). it.act) (told_behind s (by k past)))
        → map (λ (f : Entry). f.act) (cond (a && b) (e ∷ filter (is_own_of k) past) (filter (is_own_of k) past)) ≡ map (λ (it : Told). it.act) (told_behind settles (cond a (e ∷ by k past) (by k past)))
    go false b is ih = ih settles
    go true true is ih =
        ap (λ xs. e.act ∷ xs) (ih None)
        ∙ sym (ap (λ b. map (λ (it : Told). it.act) (cond b (told_as e.act settles ∷ told_behind None rest) (told_behind (option_or (settle_in e.act) settles) rest))) is)
    go true false is ih =
        ih (option_or (settle_in e.act) settles)
        ∙ sym (ap (λ b. map (λ (it : Told). it.act) (cond b (told_as e.act settles ∷ told_behind None rest) (told_behind (option_or (settle_in e.act) settles) rest))) is)

pub own-told : (l : Layout) (k : ℕ) (es : List Event) → IsLayout l → may_be l es ≡ true → own_acts k (merged_past (schedule l es)) ≡ acts_told (answered_by l k es)
own-told l k es shape may = ap reverse (told-acts k None (merged_past (schedule l es))) ∙ ap acts_told (answers-are-read l es k shape may)

-- and so they are as many as its commands
pub own-many : (l : Layout) (k : ℕ) (es : List Event) → IsLayout l → may_be l es ≡ true → length (own_acts k (merged_past (schedule l es))) ≡ length (commands_of k es)
own-many l k es shape may =
    let told = answered_by l k es in
    ap length (own-told l k es shape may) ∙ length-reverse (map (λ (it : Told). it.act) told) ∙ length-map told (λ (it : Told). it.act) ∙ as-many l k es may

-- Commands of a script as orders.

abbrev pub order : Command → Bool → Order
order d b = record { command = d; waits = b }

plus : (n : ℕ) → 0 + n ≡ n
plus n = omega arith

ordered-from : (waits : List ℕ) (j : ℕ) (commands : List Command) (n : ℕ) (d : Command) → slice_get commands n ≡ Some d → slice_get (orders_from waits j commands) n ≡ Some (order d (is_await waits (j + n)))
ordered-from waits j [] n d e = absurd (cc)
ordered-from waits j (x ∷ commands) zero d e =
    let same : x ≡ d = cc in
    ap (λ (y : Command). Some (order y (is_await waits j))) same ∙ ap (λ (m : ℕ). Some (order d (is_await waits m))) (first j)
  where
    first : (j : ℕ) → j ≡ j + 0
    first j = omega arith
ordered-from waits j (x ∷ commands) (suc n) d e = ordered-from waits (j + 1) commands n d e ∙ ap (λ (m : ℕ). Some (order d (is_await waits m))) (later j n)
  where
    later : (j n : ℕ) → j + 1 + n ≡ j + suc n
    later j n = omega arith

pub ordered : (script : Script) (n : ℕ) (d : Command) → slice_get script.commands n ≡ Some d → slice_get (orders_of script) n ≡ Some (order d (is_await script.waits n))
ordered script n d e = ordered-from script.waits 0 script.commands n d e ∙ ap (λ (m : ℕ). Some (order d (is_await script.waits m))) (plus n)

-- behind the first ones, if there are so many
pub behind-front : (waits : List ℕ) (j n : ℕ) (commands : List Command) → slice_get (orders_from waits j commands) (length (take n commands)) ≡ slice_get (orders_from waits j commands) n
behind-front waits j zero [] = refl
behind-front waits j zero (x ∷ commands) = refl
behind-front waits j (suc n) [] = refl
behind-front waits j (suc n) (x ∷ commands) = behind-front waits (j + 1) n commands

pub past-end : (waits : List ℕ) (j n : ℕ) (commands : List Command) → drop n commands ≡ [] → slice_get (orders_from waits j commands) n ≡ None
past-end waits j zero [] e = refl
past-end waits j zero (x ∷ commands) e = absurd (cc)
past-end waits j (suc n) [] e = refl
past-end waits j (suc n) (x ∷ commands) e = past-end waits (j + 1) n commands e

next-there : (given left : List Order) → slice_get (given ++ left) (length given) ≡ next_of (Some left)
next-there [] [] = refl
next-there [] (x ∷ left) = refl
next-there (y ∷ given) left = next-there given left

-- the next order of a script stands behind the commands that its seat gave
pub next-left : (c : Scene) (i : ℕ) (script : Script) → slice_get c.scripts i ≡ Some script → (ms : List Move) → IsHistory (replaying (race_of c)) ms
    → next_of (slice_get (position c ms).left i) ≡ slice_get (orders_of script) (length (commands_of (suc i) (events c ms)))
next-left c i script there ms h =
    let left = left-of c i script there ms h in
    ap next_of left.is_left ∙ sym (next-there left.given left.left) ∙ ap (λ xs. slice_get xs (length left.given)) (sym left.whole)
    ∙ ap (slice_get (orders_of script)) (sym left.gave)

-- Networks that are alike.

-- a command is answered by the same act
pub same-own : (count k : ℕ) (d : Command) (n m : NetState) → NetsAlike ActAlike count n m → 1 ≤ k → k ≤ count → own_by d m (slice_get m.callers k) ≡ own_by d n (slice_get n.callers k)
same-own count k d n m h low high = by (slice_get n.callers k) (slice_get m.callers k) (h.callers k low high)
  where
    by : (x z : Option Seated) → CallerAlike x z → own_by d m z ≡ own_by d n x
    by None None a = refl
    by None (Some v) a = absurd a
    by (Some w) None a = absurd a
    by (Some w) (Some v) a = ap (λ x. Some x) (sym (told-alike ActAlike keep_acts d (turn_for d w n) (turn_for d v m) (begins ActAlike keep_acts count n m h k d low high w v a)))

-- whose seat it is
pub same-actor : (x z : Option Seated) → CallerAlike x z → option_map (λ (w : Seated). w.actor) x ≡ option_map (λ (w : Seated). w.actor) z
same-actor None None a = refl
same-actor None (Some v) a = absurd a
same-actor (Some w) None a = absurd a
same-actor (Some w) (Some v) a = ap (λ (u : Seated). Some u.actor) (sym a.is)
