-- A schedule that is made of moves is followed: each step does its move, and behind them no script goes on.
-- steps are in order, ms are moves, the latest first, i is the number of a script, from 0 on, k the same from 1 on.
use Rattle.std.proofs.Common.{ℕ, zero, suc, ◌≡◌, ◌+◌, ◌-◌, ◌==◌, Bool, true, false, ◌&&◌, ◌||◌, not, cond, List, [], ◌∷◌, ◌++◌, map, drop, reverse, option_to_list, slice_index_or, Option, Some, None, is_some, slice_get, slice_set, inl, inr, refl, sym, ◌∙◌, ap, subst, arith, append_assoc}
use Rattle.std.specs.Option.{option_map}
use Rattle.std.proofs.lemmas.Bool.{false≢true, and_parts}
use Rattle.std.proofs.lemmas.List.{map-append, reverse-append}
use Rattle.std.proofs.lemmas.Option.{slice_get-map}
use Rattle.chorus_entry.specs.declared.command.Command.{Command}
use Rattle.law_network.specs.Network.{NetState, Event, Act, Deliver, happened, after, schedule}
use Rattle.law_network.specs.Calls.{starting}
use Rattle.law_network.specs.Tasks.{Task, Do, Drain, CarryOut}
use Rattle.law_network.proofs.Draining.Drains.{drain-when-none}
use Rattle.law_awaits.specs.Awaits.{would_take}
use Rattle.law_explore.specs.declared.moves.Move.{Move}
use Rattle.law_explore.specs.declared.moves.Move.TheVariants.{Go, Carry}
use Rattle.law_explore.specs.Search.{IsHistory, state_after}
use Rattle.law_explore.specs.Races.{Race, Order, Position, next_of, behind_next, are_linked, event_of, may_now, is_now, scripts_after, position_after, is_ready_by, seat_0, may_come, replaying}
use Rattle.law_explore.specs.Replays.{events_of}
use Rattle.law_explore.proofs.Showing.{net-after}
use Rattle.chorus_scene.specs.Scene.{Scene, Script, is_await}
use Rattle.chorus_scene.specs.Grammar.{script_at, no_script}
use Rattle.chorus_scene.specs.declared.scenario.Step as step
use Rattle.chorus_scene.specs.declared.scenario.Step.TheVariants as steps
use Rattle.chorus_report.specs.Awaiting.{all_scripts}
use Rattle.chorus_replay.specs.Order.{in_setup, entering}
use Rattle.chorus_replay.specs.Waiting.{Standing, InSchedule, InRound, BehindRound, Follows, Begins, Then, ComesIn, GoesOn, Tells, IsScript, IsOver, done_by, next_command, may_by, may_go_on, one_more, opened}
use Rattle.chorus_replay.proofs.Standings.{ScriptsFit, all-fit, script-at}
use Rattle.law_replay.specs.Shown.{orders_from, orders_of, race_of, step_of, IsEnded}

-- Lists.

snoc : {A : Type 0} (x : A) (xs : List A) → reverse (x ∷ xs) ≡ reverse xs ++ x ∷ []
snoc x xs = reverse-append (x ∷ []) xs

pub map-reverse : {X Y : Type 0} (f : X → Y) (xs : List X) → map f (reverse xs) ≡ reverse (map f xs)
map-reverse f [] = refl
map-reverse f (x ∷ xs) =
    ap (map f) (reverse-append (x ∷ []) xs) ∙ map-append f (reverse xs) (x ∷ []) ∙ ap (λ ys. ys ++ f x ∷ []) (map-reverse f xs)
    ∙ sym (reverse-append (f x ∷ []) (map f xs))

steps-more : (m : Move) (ms : List Move) → map step_of (reverse (m ∷ ms)) ≡ map step_of (reverse ms) ++ step_of m ∷ []
steps-more m ms = ap (map step_of) (snoc m ms) ∙ map-append step_of (reverse ms) (m ∷ [])

get-set : {A : Type 0} (xs : List A) (i j : ℕ) (x : A) → (j == i) ≡ false → slice_get (slice_set xs j x) i ≡ slice_get xs i
get-set [] i j x ne = refl
get-set (y ∷ xs) zero zero x ne = absurd (false≢true (sym ne))
get-set (y ∷ xs) zero (suc j) x ne = refl
get-set (y ∷ xs) (suc i) zero x ne = refl
get-set (y ∷ xs) (suc i) (suc j) x ne = get-set xs i j x (shift i j ne)
  where
    shift : (i j : ℕ) → (suc j == suc i) ≡ false → (j == i) ≡ false
    shift i j ne = grind (arith, ne)

get-same : {A : Type 0} (xs : List A) (i : ℕ) (x y : A) → slice_get xs i ≡ Some y → slice_get (slice_set xs i x) i ≡ Some x
get-same [] i x y e = absurd (cc)
get-same (z ∷ xs) zero x y e = refl
get-same (z ∷ xs) (suc i) x y e = get-same xs i x y e

none-set : {A : Type 0} (xs : List A) (j k : ℕ) (x : A) → slice_get xs k ≡ None → slice_get (slice_set xs j x) k ≡ None
none-set [] j k x e = refl
none-set (y ∷ xs) j zero x e = absurd (cc)
none-set (y ∷ xs) zero (suc k) x e = e
none-set (y ∷ xs) (suc j) (suc k) x e = none-set xs j k x e

pub number-at : (xs : List ℕ) (i n : ℕ) → slice_get xs i ≡ Some n → slice_index_or xs i 0 ≡ n
number-at [] i n e = absurd (cc)
number-at (x ∷ xs) zero n e = cc
number-at (x ∷ xs) (suc i) n e = number-at xs i n e

at-place : (scripts : List Script) (i : ℕ) (script : Script) → slice_get scripts i ≡ Some script → slice_index_or scripts i no_script ≡ script
at-place [] i script e = absurd (cc)
at-place (s ∷ scripts) zero script e = cc
at-place (s ∷ scripts) (suc i) script e = at-place scripts i script e

back : (i : ℕ) → i + 1 - 1 ≡ i
back i = omega arith

one : (i : ℕ) → i + 1 ≡ suc i
one i = omega arith

-- Of the commands of a script as orders.

drop-next : (n : ℕ) (os : List Order) (o : Order) → next_of (Some (drop n os)) ≡ Some o → (slice_get os n ≡ Some o) × (behind_next (Some (drop n os)) ≡ drop (n + 1) os)
drop-next zero [] o e = absurd (cc)
drop-next zero (p ∷ os) o e = (e, refl)
drop-next (suc n) [] o e = absurd (cc)
drop-next (suc n) (p ∷ os) o e = let two = drop-next n os o e in (two.0, two.1 ∙ ap (λ k. drop k (p ∷ os)) (more n))
  where
    more : (n : ℕ) → suc (n + 1) ≡ suc n + 1
    more n = omega arith

drop-none : (n : ℕ) (os : List Order) → next_of (Some (drop n os)) ≡ None → slice_get os n ≡ None
drop-none zero [] e = refl
drop-none zero (p ∷ os) e = absurd (cc)
drop-none (suc n) [] e = refl
drop-none (suc n) (p ∷ os) e = drop-none n os e

pub order-at : (waits : List ℕ) (i : ℕ) (commands : List Command) (n : ℕ) (o : Order) → slice_get (orders_from waits i commands) n ≡ Some o
    → (slice_get commands n ≡ Some o.command) × (o.waits ≡ is_await waits (i + n))
order-at waits i [] n o e = absurd (cc)
order-at waits i (c ∷ commands) zero o e =
    let same : record { command = c; waits = is_await waits i } ≡ o = cc in
    (ap (λ (x : Order). Some x.command) same, sym (ap (λ (x : Order). x.waits) same) ∙ ap (is_await waits) (plus i))
  where
    plus : (i : ℕ) → i ≡ i + 0
    plus i = omega arith
order-at waits i (c ∷ commands) (suc n) o e = let two = order-at waits (i + 1) commands n o e in (two.0, two.1 ∙ ap (is_await waits) (shift i n))
  where
    shift : (i n : ℕ) → i + 1 + n ≡ i + suc n
    shift i n = omega arith

no-order : (waits : List ℕ) (i : ℕ) (commands : List Command) (n : ℕ) → slice_get (orders_from waits i commands) n ≡ None → slice_get commands n ≡ None
no-order waits i [] n e = refl
no-order waits i (c ∷ commands) zero e = absurd (cc)
no-order waits i (c ∷ commands) (suc n) e = no-order waits (i + 1) commands n e

-- how many commands of each script the moves did
abbrev pub done_by_moves : Scene → List Move → List ℕ
done_by_moves c [] = map (λ (script : Script). 0) c.scripts
done_by_moves c (Go i ∷ ms) = one_more (i + 1) (done_by_moves c ms)
done_by_moves c (Carry a b ∷ ms) = done_by_moves c ms

module _ (c : Scene) where
  abbrev r : Race
  r = race_of c

  abbrev at : List Move → Position
  at ms = state_after (replaying r) ms

  -- Of each script what is left stands behind as many commands as were done.
  pub record IsAt (ms : List Move) (i : ℕ) (script : Script) : Type 0 where
    pub number : ℕ
    pub done : slice_get (done_by_moves c ms) i ≡ Some number
    pub left : slice_get (at ms).left i ≡ Some (drop number (orders_of script))

  -- a script that goes is one of the scenario's
  some-left : (ms : List Move) → (i : ℕ) → slice_get c.scripts i ≡ None → slice_get (at ms).left i ≡ None
  some-left [] i h = slice_get-map orders_of c.scripts i ∙ ap (option_map orders_of) h
  some-left (m ∷ ms) i h = by (event_of r.net.layout seat_0 m (at ms).left) m (some-left ms i h)
    where
      by : (o : Option Event) (n : Move) → slice_get (at ms).left i ≡ None → slice_get (position_after o n (at ms)).left i ≡ None
      by None n e = e
      by (Some f) (Go j) e = none-set (at ms).left j i _ e
      by (Some f) (Carry a b) e = e

  ready-of : (m : Move) (ms : List Move) → may_come r.net.layout m (at ms) ≡ true → is_ready_by (event_of r.net.layout seat_0 m (at ms).left) (at ms).net ≡ true
  ready-of m ms h = (and_parts (is_ready_by (event_of r.net.layout seat_0 m (at ms).left) (at ms).net) (is_now m (at ms).left (at ms).net) h).0

  left-step : (m : Move) (ms : List Move) → may_come r.net.layout m (at ms) ≡ true → (at (m ∷ ms)).left ≡ scripts_after m (at ms).left
  left-step m ms h = by (event_of r.net.layout seat_0 m (at ms).left) refl (ready-of m ms h)
    where
      by : (o : Option Event) → event_of r.net.layout seat_0 m (at ms).left ≡ o → is_ready_by o (at ms).net ≡ true → (at (m ∷ ms)).left ≡ scripts_after m (at ms).left
      by None e k = absurd (false≢true k)
      by (Some f) e k = ap (λ o. (position_after o m (at ms)).left) e

  pub go-next : (i : ℕ) (ms : List Move) → may_come r.net.layout (Go i) (at ms) ≡ true → (o : Order) × (next_of (slice_get (at ms).left i) ≡ Some o)
  go-next i ms h = by (next_of (slice_get (at ms).left i)) refl (ready-of (Go i) ms h)
    where
      by : (o : Option Order) → next_of (slice_get (at ms).left i) ≡ o → is_ready_by (option_map (λ (x : Order). Act (suc i) x.command) o) (at ms).net ≡ true → (p : Order) × (next_of (slice_get (at ms).left i) ≡ Some p)
      by None e k = absurd (false≢true k)
      by (Some o) e k = (o, e)

  pub is-at : (ms : List Move) → IsHistory (replaying r) ms → (i : ℕ) (script : Script) → slice_get c.scripts i ≡ Some script → IsAt ms i script
  is-at [] h i script e = record {
    number = 0;
    done = slice_get-map (λ (s : Script). 0) c.scripts i ∙ ap (option_map (λ (s : Script). 0)) e;
    left = slice_get-map orders_of c.scripts i ∙ ap (option_map orders_of) e;
  }
  is-at (Carry a b ∷ ms) h i script e =
      let before = is-at ms h.1 i script e in
      record { number = before.number; done = before.done; left = ap (λ left. slice_get left i) (left-step (Carry a b) ms h.0) ∙ before.left }
  is-at (Go j ∷ ms) h i script e = by (j == i) refl (is-at ms h.1 i script e)
    where
      equal : (a b : ℕ) → (a == b) ≡ true → a ≡ b
      equal a b g = grind (arith, g)

      apart : (i j : ℕ) → (j == i) ≡ false → (j + 1 - 1 == i) ≡ false
      apart i j ne = ap (λ k. k == i) (back j) ∙ ne

      by : (b : Bool) → (j == i) ≡ b → IsAt ms i script → IsAt (Go j ∷ ms) i script
      by true same before =
          let n = before.number in
          let os = orders_of script in
          let did = done_by_moves c ms in
          let is : j ≡ i = equal j i same in
          let place : j + 1 - 1 ≡ i = back j ∙ is in
          let old : slice_get (at ms).left j ≡ Some (drop n os) = ap (slice_get (at ms).left) is ∙ before.left in
          let next = go-next j ms h.0 in
          let two = drop-next n os next.0 (sym (ap next_of old) ∙ next.1) in
          record {
            number = n + 1;
            done = ap (λ k. slice_get (slice_set did k (slice_index_or did k 0 + 1)) i) place
                ∙ get-same did i (slice_index_or did i 0 + 1) n before.done ∙ ap (λ m. Some (m + 1)) (number-at did i n before.done);
            left = ap (λ left. slice_get left i) (left-step (Go j) ms h.0)
                ∙ ap (λ o. slice_get (slice_set (at ms).left j (behind_next o)) i) old
                ∙ ap (λ k. slice_get (slice_set (at ms).left k (behind_next (Some (drop n os)))) i) is
                ∙ get-same (at ms).left i (behind_next (Some (drop n os))) (drop n os) before.left
                ∙ ap (λ x. Some x) two.1;
          }
      by false other before =
          let did = done_by_moves c ms in
          record {
            number = before.number;
            done = get-set did i (j + 1 - 1) (slice_index_or did (j + 1 - 1) 0 + 1) (apart i j other) ∙ before.done;
            left = ap (λ left. slice_get left i) (left-step (Go j) ms h.0)
                ∙ get-set (at ms).left i j (behind_next (slice_get (at ms).left j)) other ∙ before.left;
          }

  -- A script may go on in a replay where it may in the race.
  module _ (ms : List Move) (h : IsHistory (replaying r) ms) (k i : ℕ) (script : Script) (is : k ≡ suc i) (less : k - 1 ≡ i) (e : slice_get c.scripts i ≡ Some script) where
    abbrev here : IsAt ms i script
    here = is-at ms h i script e

    abbrev did : List ℕ
    did = done_by_moves c ms

    pub script-is : script_at k c.scripts ≡ script
    script-is = ap (λ n. slice_index_or c.scripts n no_script) less ∙ at-place c.scripts i script e

    number-is : done_by did k ≡ here.number
    number-is = ap (λ n. slice_index_or did n 0) less ∙ number-at did i here.number here.done

    next-is : (o : Order) → next_of (slice_get (at ms).left i) ≡ Some o → slice_get (orders_of script) here.number ≡ Some o
    next-is o f = (drop-next here.number (orders_of script) o (sym (ap next_of here.left) ∙ f)).0

    pub command-is : (o : Order) → next_of (slice_get (at ms).left i) ≡ Some o → next_command c did k ≡ Some o.command
    command-is o f =
        (λ j. slice_get (script-is j).commands (number-is j)) ∙ (order-at script.waits 0 script.commands here.number o (next-is o f)).0

    pub same-may : (n : NetState) → may_go_on c did k n ≡ (is_some (next_of (slice_get (at ms).left i)) && may_now (next_of (slice_get (at ms).left i)) i n)
    same-may n =
        (λ j. may_by (is_await (script-is j).waits (number-is j)) (is j) (slice_get (script-is j).commands (number-is j)) n)
        ∙ by (next_of (Some (drop here.number (orders_of script)))) refl
        ∙ sym (ap (λ o. is_some o && may_now o i n) (ap next_of here.left))
      where
        by : (o : Option Order) → next_of (Some (drop here.number (orders_of script))) ≡ o
            → may_by (is_await script.waits here.number) (suc i) (slice_get script.commands here.number) n ≡ (is_some o && may_now o i n)
        by None f =
            ap (λ x. may_by (is_await script.waits here.number) (suc i) x n)
            (no-order script.waits 0 script.commands here.number (drop-none here.number (orders_of script) f))
        by (Some o) f =
            let two = order-at script.waits 0 script.commands here.number o (drop-next here.number (orders_of script) o f).0 in
            ap (λ x. may_by (is_await script.waits here.number) (suc i) x n) two.0
            ∙ ap (λ b. not b || would_take (suc i) o.command n) (ap (is_await script.waits) (plus here.number) ∙ sym two.1)
          where
            plus : (n : ℕ) → n ≡ 0 + n
            plus n = omega arith

  -- The tasks so far.

  abbrev pub base : List Event
  base = starting ∷ in_setup c ++ entering c

  abbrev pub tasks_of : List Move → List Task
  tasks_of ms = map Do (events_of r ms) ++ map Do (reverse base)

  abbrev events : List Move → List Event
  events ms = events_of r ms ++ reverse base

  carried : (es fs : List Event) → CarryOut c.layout (map Do es ++ map Do fs) (es ++ fs)
  carried [] [] = refl
  carried [] (f ∷ fs) = (fs, (refl, carried [] fs))
  carried (e ∷ es) fs = (es ++ fs, (refl, carried es fs))

  after-all : (fs es : List Event) → schedule c.layout (fs ++ es) ≡ after fs (schedule c.layout es)
  after-all [] es = refl
  after-all (f ∷ fs) es = ap (happened f) (after-all fs es)

  net-is : (ms : List Move) → schedule c.layout (events ms) ≡ (at ms).net
  net-is ms = after-all (events_of r ms) (reverse base) ∙ sym (net-after r ms)

  -- with these steps as its schedule
  module _ (list : List step.Step) where
    abbrev d : Scene
    d = record c { schedule = list }

    abbrev pub in_steps : List Move → List step.Step → Standing
    in_steps ms ahead = record { tasks = tasks_of ms; done = done_by_moves c ms; phase = InSchedule ahead }

    tells : (ms : List Move) (s : Standing) (k : ℕ) (b : Bool) → s.tasks ≡ tasks_of ms → s.done ≡ done_by_moves c ms → may_go_on c (done_by_moves c ms) k (at ms).net ≡ b → Tells d k s b
    tells ms s k b same counted may = record {
      events = events ms;
      carried = subst (λ (ts : List Task). CarryOut c.layout ts (events ms)) (sym same) (carried (events_of r ms) (reverse base));
      is = (λ j. may_go_on c (counted j) k (net-is ms j)) ∙ may;
    }

    has-script : (i : ℕ) (ms : List Move) → may_come r.net.layout (Go i) (at ms) ≡ true → (script : Script) × (slice_get c.scripts i ≡ Some script)
    has-script i ms h = by (slice_get c.scripts i) refl
      where
        next : (o : Order) × (next_of (slice_get (at ms).left i) ≡ Some o)
        next = go-next i ms h

        by : (o : Option Script) → slice_get c.scripts i ≡ o → (script : Script) × (slice_get c.scripts i ≡ Some script)
        by None e = absurd (let both : None ≡ Some next.0 = sym (ap next_of (some-left ms i e)) ∙ next.1 in cc)
        by (Some script) e = (script, e)

    goes-on : (i : ℕ) (ms : List Move) (ahead : List step.Step) → IsHistory (replaying r) (Go i ∷ ms)
        → GoesOn d (i + 1) [] (in_steps ms (steps.Step (i + 1) ∷ ahead)) (in_steps (Go i ∷ ms) ahead)
    goes-on i ms ahead h =
        let found = has-script i ms h.0 in
        let next = go-next i ms h.0 in
        let command = next.0.command in
        let event : event_of r.net.layout seat_0 (Go i) (at ms).left ≡ Some (Act (suc i) command) = ap (option_map (λ (x : Order). Act (suc i) x.command)) next.1 in
        record {
          command = command;
          is = command-is ms h.1 (i + 1) i found.0 (one i) (back i) found.1 next.0 next.1;
          may = tells ms (in_steps ms (steps.Step (i + 1) ∷ ahead)) (i + 1) true refl refl
              (same-may ms h.1 (i + 1) i found.0 (one i) (back i) found.1 (at ms).net ∙ now next.0 next.1);
          tasks = ap (λ o. map Do (option_to_list o ++ events_of r ms) ++ map Do (reverse base)) event ∙ ap (λ k. Do (Act k command) ∷ tasks_of ms) (sym (one i));
          done = refl;
        }
      where
        now : (o : Order) → next_of (slice_get (at ms).left i) ≡ Some o → (is_some (next_of (slice_get (at ms).left i)) && may_now (next_of (slice_get (at ms).left i)) i (at ms).net) ≡ true
        now o e =
            let both = and_parts (is_ready_by (event_of r.net.layout seat_0 (Go i) (at ms).left) (at ms).net) (is_now (Go i) (at ms).left (at ms).net) h.0 in
            ap (λ x. is_some x && may_now (next_of (slice_get (at ms).left i)) i (at ms).net) e ∙ both.1

    comes : (m : Move) (ms : List Move) (ahead : List step.Step) → IsHistory (replaying r) (m ∷ ms) → ComesIn d (InSchedule (step_of m ∷ ahead)) (in_steps ms (step_of m ∷ ahead)) (in_steps (m ∷ ms) ahead)
    comes (Go i) ms ahead h = (inl (goes-on i ms ahead h), refl)
    comes (Carry a b) ms ahead h = (record { tasks = by (are_linked r.net.layout a b) (ready-of (Carry a b) ms h.0); done = refl }, refl)
      where
        by : (x : Bool) → is_ready_by (cond x (Some (Deliver 0 a b)) None) (at ms).net ≡ true
            → map Do (option_to_list (cond x (Some (Deliver 0 a b)) None) ++ events_of r ms) ++ map Do (reverse base) ≡ Do (Deliver 0 a b) ∷ [] ++ tasks_of ms
        by true k = refl
        by false k = absurd (false≢true k)

    pub follows : (ms : List Move) (ahead : List step.Step) → IsHistory (replaying r) ms → list ≡ map step_of (reverse ms) ++ ahead → Follows d (opened d) (in_steps ms ahead)
    follows [] ahead h e =
        let start : opened d ≡ in_steps [] ahead = λ j. record {
          tasks = sym (map-reverse Do base) j;
          done = map (λ (script : Script). 0) c.scripts;
          phase = InSchedule (e j);
        } in
        subst (λ (s : Standing). Follows d (opened d) s) start Begins
    follows (m ∷ ms) ahead h e =
        Then (in_steps ms (step_of m ∷ ahead)) (in_steps (m ∷ ms) ahead)
        (follows ms (step_of m ∷ ahead) h.1 (e ∙ ap (λ xs. xs ++ ahead) (steps-more m ms) ∙ append_assoc (map step_of (reverse ms)) (step_of m ∷ []) ahead))
        (comes m ms ahead h)

    -- Behind them.
    module _ (ms : List Move) (h : IsHistory (replaying r) ms) (all : list ≡ map step_of (reverse ms)) (ended : IsEnded (at ms)) where
      none-goes : (k : ℕ) → IsScript c k → may_go_on c (done_by_moves c ms) k (at ms).net ≡ false
      none-goes k of =
          let a = script-at c k of in
          same-may ms h k a.place (script_at k c.scripts) a.is a.less a.found (at ms).net ∙ ended.0 a.place

      abbrev in_round : List ℕ → Standing
      in_round ks = record { tasks = tasks_of ms; done = done_by_moves c ms; phase = InRound ks }

      passes : (ks : List ℕ) → ScriptsFit c ks → Follows d (opened d) (in_round ks) → Follows d (opened d) (in_round [])
      passes [] fit f = f
      passes (k ∷ ks) fit f =
          passes ks fit.1
          (Then (in_round (k ∷ ks)) (in_round ks) f
          (inr (tells ms (in_round (k ∷ ks)) k false refl refl (none-goes k fit.0), record { tasks = refl; done = refl }, refl)))

      abbrev pub last : Standing
      last = record { tasks = Drain 0 ∷ tasks_of ms; done = done_by_moves c ms; phase = BehindRound }

      pub comes-last : Follows d (opened d) last
      comes-last =
          let steps_done = follows ms [] h (all ∙ nothing-more (map step_of (reverse ms))) in
          let round = Then (in_steps ms []) (in_round (all_scripts c)) steps_done (record { tasks = refl; done = refl }, refl) in
          Then (in_round []) last (passes (all_scripts c) (all-fit c) round) (record { tasks = refl; done = refl }, refl)
        where
          nothing-more : (xs : List step.Step) → xs ≡ xs ++ []
          nothing-more [] = refl
          nothing-more (x ∷ xs) = ap (λ ys. x ∷ ys) (nothing-more xs)

      drained : CarryOut c.layout last.tasks (events ms)
      drained =
          (events ms, (drain-when-none c.layout 0 0 (events ms) (ap (λ (n : NetState). n.packets) (net-is ms) ∙ ended.1), carried (events_of r ms) (reverse base)))

      pub is-over : IsOver d last
      is-over = record {
        phase = refl;
        none = λ k of. record { events = events ms; carried = drained; is = ap (may_go_on c (done_by_moves c ms) k) (net-is ms) ∙ none-goes k of };
      }
