-- The moves of a history are events that may be.
-- c is a scenario, ms are moves, the latest first, es and fs are events, ts and us tasks, i is the place of a script, k a seat.
use Rattle.std.proofs.Common.{ℕ, zero, suc, ◌≡◌, ◌+◌, ◌-◌, ◌^◌, ◌≤◌, ◌==◌, nat_le, nat_lt, Bool, true, false, ◌&&◌, ◌||◌, not, cond, List, [], ◌∷◌, ◌++◌, length, map, reverse, Option, Some, None, is_some, slice_get, slice_set, option_to_list, refl, sym, ◌∙◌, ap, subst, arith, append_assoc}
use Rattle.std.specs.List.{All, list_all}
use Rattle.std.specs.Option.{option_map}
use Rattle.std.proofs.lemmas.Bool.{and_parts, and_from, ne_eqb, eqb-true, eq-eqb, false≢true, lt-ltb}
use Rattle.std.proofs.lemmas.List.{length-append, reverse-append}
use Rattle.std.proofs.lemmas.List.Elements.{All-nil, All-cons, All-head, All-tail, All-append}
use Rattle.std.proofs.lemmas.Option.{slice_get-map}
use Rattle.chorus_ui.specs.declared.layout.Layout.{Layout}
use Rattle.chorus_ui.specs.Layout.{IsLayout, has_place}
use Rattle.chorus_entry.specs.declared.command.Command.{Command}
use Rattle.chorus_entry.specs.Command.{has_body_in_limit, is_post, meets_conditions}
use Rattle.chorus_calls.specs.Callers.{Seated}
use Rattle.law_network.specs.Network.{NetState, Event, Act, Deliver, after, happened, schedule}
use Rattle.law_network.specs.History.{history}
use Rattle.law_network.specs.Schedules.{has_number_left, may_give, may_happen, may_be, command_in, commands_of}
use Rattle.law_network.specs.Tasks.{Task, Do, Drain, CarryOut, MayAll}
use Rattle.law_network.proofs.Commands.Performing.{performs-history}
use Rattle.law_network.proofs.Events.InOrder.{in-order}
use Rattle.law_explore.specs.declared.moves.Move.{Move}
use Rattle.law_explore.specs.declared.moves.Move.TheVariants.{Go, Carry}
use Rattle.law_explore.specs.Search.{IsHistory}
use Rattle.law_explore.specs.Races.{Order, Position, are_linked, behind_next, event_of, is_ready_by, may_now, next_of, position_after, replaying, seat_0}
use Rattle.law_explore.specs.Replays.{events_of}
use Rattle.law_explore.proofs.Showing.{net-after}
use Rattle.law_replay.specs.Shown.{orders_of, race_of}
use Rattle.chorus_scene.specs.Grammar.{most_bytes}
use Rattle.chorus_scene.specs.Limits.{Keeps, bytes_sent, command_is_of, command_keeps, is_actor_of, is_of_version, script_keeps}
use Rattle.chorus_scene.specs.Scene.{Scene, Script}
use Rattle.chorus_scene.specs.declared.limits.TheConstants.{COMMANDS_LIMIT}
use Rattle.chorus_replay.specs.Order.{entering, in_schedule, in_setup, left_from, order, tasks}
use Rattle.chorus_replay.proofs.May.{all-get, command-fits, tasks-may}
use Rattle.chorus_replay.proofs.Needs.{carried-may, posts-few}
use Rattle.chorus_report.specs.Setup.{setup_commands}
use Rattle.chorus_explore.specs.Stages.{IsNext, goes_on, may_go, position}
use Rattle.chorus_explore.proofs.Moving.{order-next}
use Rattle.chorus_explore.proofs.Staging.{order-command, orders-long}
use Rattle.chorus_explore.proofs.Keeping.{script-keeps}
use Rattle.chorus_explore.proofs.Racing.{CallerAt, base, caller-at, comes, first-at, map-reverse, position-layout, race-layout}

-- The events from the start to where all callers have entered.

suffix : (l : Layout) (ts us : List Task) → MayAll l (ts ++ us) → MayAll l us
suffix l [] us h = h
suffix l (Do e ∷ ts) us h = suffix l ts us h.1
suffix l (Drain k ∷ ts) us h = suffix l ts us h.1

pub carried-all : (l : Layout) (fs : List Event) → CarryOut l (map Do fs) fs
carried-all l [] = refl
carried-all l (f ∷ fs) = (fs, (refl, carried-all l fs))

after-all : (fs es : List Event) (l : Layout) → schedule l (fs ++ es) ≡ after fs (schedule l es)
after-all [] es l = refl
after-all (f ∷ fs) es l = ap (happened f) (after-all fs es l)

module _ (c : Scene) where
  abbrev pub events : List Move → List Event
  events ms = events_of (race_of c) ms ++ reverse (base c)

  pub net-is : (ms : List Move) → schedule c.layout (events ms) ≡ (position c ms).net
  net-is ms = after-all (events_of (race_of c) ms) (reverse (base c)) c.layout ∙ sym (net-after (race_of c) ms)

  pub base-may : IsLayout c.layout → Keeps c → may_be c.layout (reverse (base c)) ≡ true
  base-may shape keeps =
      let front = map Do (base c) in
      let one = in_schedule c.scripts [] c.schedule in
      let two = left_from c.schedule 1 c.scripts in
      let all : order c ≡ map Do (base c) ++ (in_schedule c.scripts [] c.schedule ++ (left_from c.schedule 1 c.scripts ++ Drain 0 ∷ [])) =
      append_assoc (front ++ one) two (Drain 0 ∷ []) ∙ append_assoc front one (two ++ Drain 0 ∷ []) in
      let turned : tasks c ≡ reverse (in_schedule c.scripts [] c.schedule ++ (left_from c.schedule 1 c.scripts ++ Drain 0 ∷ [])) ++ reverse (map Do (base c)) =
      ap reverse all ∙ reverse-append front (one ++ (two ++ Drain 0 ∷ [])) in
      let may = suffix c.layout (reverse (one ++ (two ++ Drain 0 ∷ []))) (reverse front) (subst (MayAll c.layout) turned (tasks-may c shape keeps)) in
      carried-may c.layout (reverse front) (reverse (base c)) shape may
      (subst (λ (ts : List Task). CarryOut c.layout ts (reverse (base c))) (map-reverse Do (base c)) (carried-all c.layout (reverse (base c))))

-- Of the commands of a seat, each is one of its script.

module _ (k : ℕ) where
  abbrev IsSilent : Event → Type 0
  IsSilent e = (cs : List Command) → command_in (suc k) e cs ≡ cs

  silent : (es : List Event) → All IsSilent es → commands_of (suc k) es ≡ []
  silent [] h = refl
  silent (e ∷ es) h = All-head IsSilent e es h (commands_of (suc k) es) ∙ silent es (All-tail IsSilent e es h)

  turned-silent : (es : List Event) → All IsSilent es → All IsSilent (reverse es)
  turned-silent [] h = All-nil IsSilent
  turned-silent (e ∷ es) h =
      subst (All IsSilent) (sym (reverse-append (e ∷ []) es))
      (All-append IsSilent (reverse es) (e ∷ []) (turned-silent es (All-tail IsSilent e es h)) (All-cons IsSilent e [] (All-head IsSilent e es h) (All-nil IsSilent)))

  each : {X : Type 0} (f : X → Event) (xs : List X) → ((x : X) → IsSilent (f x)) → All IsSilent (map f xs)
  each f [] h = All-nil IsSilent
  each f (x ∷ xs) h = All-cons IsSilent (f x) (map f xs) (h x) (each f xs h)

  base-silent : (c : Scene) → commands_of (suc k) (reverse (base c)) ≡ []
  base-silent c =
      silent (reverse (base c)) (turned-silent (base c)
      (All-append IsSilent (Rattle.law_network.specs.Calls.starting ∷ in_setup c) (entering c)
      (All-cons IsSilent Rattle.law_network.specs.Calls.starting (in_setup c) (λ cs. refl) (each (Act 0) (setup_commands c) (λ d cs. ap (λ (b : Bool). cond b (d ∷ cs) cs) (ne_eqb 0 (suc k) (λ e. omega (arith, e))))))
      (each _ c.scripts (λ s cs. refl))))

-- what is left of a script, and the commands that its seat gave
pub record LeftOf (c : Scene) (ms : List Move) (i : ℕ) (script : Script) : Type 0 where
  pub left : List Order
  pub is_left : slice_get (position c ms).left i ≡ Some left
  pub given : List Order
  pub whole : orders_of script ≡ given ++ left
  pub gave : length (commands_of (suc i) (events c ms)) ≡ length given

get-set-same : {X : Type 0} (xs : List X) (i : ℕ) (x y : X) → slice_get xs i ≡ Some x → slice_get (slice_set xs i y) i ≡ Some y
get-set-same [] i x y e = absurd (cc)
get-set-same (z ∷ xs) zero x y e = refl
get-set-same (z ∷ xs) (suc i) x y e = get-set-same xs i x y e

get-set-other : {X : Type 0} (xs : List X) (i j : ℕ) (y : X) → (j ≡ i → ⊥) → slice_get (slice_set xs j y) i ≡ slice_get xs i
get-set-other [] i j y ne = refl
get-set-other (z ∷ xs) zero zero y ne = absurd (ne refl)
get-set-other (z ∷ xs) (suc i) zero y ne = refl
get-set-other (z ∷ xs) zero (suc j) y ne = refl
get-set-other (z ∷ xs) (suc i) (suc j) y ne = get-set-other xs i j y (λ q. ne (ap suc q))

set-none : {X : Type 0} (xs : List X) (i j : ℕ) (y : X) → slice_get xs i ≡ None → slice_get (slice_set xs j y) i ≡ None
set-none [] i j y e = refl
set-none (z ∷ xs) zero j y e = absurd (cc)
set-none (z ∷ xs) (suc i) zero y e = e
set-none (z ∷ xs) (suc i) (suc j) y e = set-none xs i j y e

next-is : (left : List Order) (d : Order) → next_of (Some left) ≡ Some d → (rest : List Order) × ((left ≡ d ∷ rest) × (behind_next (Some left) ≡ rest))
next-is [] d e = absurd (cc)
next-is (x ∷ rest) d e = (rest, (ap (λ (y : Order). y ∷ rest) (let same : x ≡ d = cc in same), refl))

module _ (c : Scene) (i : ℕ) (script : Script) (at : slice_get c.scripts i ≡ Some script) where
  events-more : (m : Move) (ms : List Move) (e : Event) → event_of (race_of c).net.layout seat_0 m (position c ms).left ≡ Some e → events c (m ∷ ms) ≡ e ∷ events c ms
  events-more m ms e is = ap (λ o. (option_to_list o ++ events_of (race_of c) ms) ++ reverse (base c)) is

  pub left-of : (ms : List Move) → IsHistory (replaying (race_of c)) ms → LeftOf c ms i script
  left-of [] h = record {
    left = orders_of script;
    is_left = slice_get-map orders_of c.scripts i ∙ ap (option_map orders_of) at;
    given = [];
    whole = refl;
    gave = ap length (base-silent i c);
  }
  left-of (Carry a b ∷ ms) h =
      let k = comes c (Carry a b) ms h.0 in
      let was = left-of ms h.1 in
      let is : k.event ≡ Deliver 0 a b = by-carry a b ms k.event k.is in
      record {
        left = was.left;
        is_left = ap (λ (p : Position). slice_get p.left i) k.after ∙ was.is_left;
        given = was.given;
        whole = was.whole;
        gave = ap (λ es. length (commands_of (suc i) es)) (events-more (Carry a b) ms k.event k.is ∙ ap (λ e. e ∷ events c ms) is) ∙ was.gave;
      }
    where
      by-carry : (x y : ℕ) (os : List Move) (e : Event) → event_of (race_of c).net.layout seat_0 (Carry x y) (position c os).left ≡ Some e → e ≡ Deliver 0 x y
      by-carry x y os e f = go (are_linked (race_of c).net.layout x y) f
        where
          go : (q : Bool) → cond q (Some (Deliver 0 x y)) None ≡ Some e → e ≡ Deliver 0 x y
          go true g = cc
          go false g = absurd (cc)
  left-of (Go j ∷ ms) h =
      let k = comes c (Go j) ms h.0 in
      let was = left-of ms h.1 in
      by (next_of (slice_get (position c ms).left j)) refl k.event k.is k.after was (suc j == suc i) refl
    where
      by : (o : Option Order) → next_of (slice_get (position c ms).left j) ≡ o → (e : Event) → event_of (race_of c).net.layout seat_0 (Go j) (position c ms).left ≡ Some e
          → position c (Go j ∷ ms) ≡ position_after (Some e) (Go j) (position c ms) → LeftOf c ms i script → (q : Bool) → (suc j == suc i) ≡ q → LeftOf c (Go j ∷ ms) i script
      by None o e is aft was q f = absurd (let none : None ≡ Some e = sym (ap (option_map (λ (x : Order). Act (suc j) x.command)) o) ∙ is in cc)
      by (Some d) o e is aft was true f =
          let same : j ≡ i = (let s = eqb-true (suc j) (suc i) f in omega (arith, s)) in
          let event : e ≡ Act (suc j) d.command = (let some : Some (Act (suc j) d.command) ≡ Some e = sym (ap (option_map (λ (x : Order). Act (suc j) x.command)) o) ∙ is in cc) in
          let next = next-is was.left d (ap next_of (sym was.is_left) ∙ ap (λ (n : ℕ). next_of (slice_get (position c ms).left n)) (sym same) ∙ o) in
          let more = events-more (Go j) ms e is ∙ ap (λ x. x ∷ events c ms) event in
          record {
            left = next.0;
            is_left = ap (λ (p : Position). slice_get p.left i) aft
                ∙ ap (λ (n : ℕ). slice_get (slice_set (position c ms).left n (behind_next (slice_get (position c ms).left n))) i) same
                ∙ get-set-same (position c ms).left i was.left (behind_next (slice_get (position c ms).left i)) was.is_left
                ∙ ap (λ x. Some (behind_next x)) was.is_left ∙ ap Some next.1.1;
            given = was.given ++ d ∷ [];
            whole = was.whole ∙ ap (λ xs. was.given ++ xs) next.1.0 ∙ sym (append_assoc was.given (d ∷ []) next.0);
            gave = ap (λ es. length (commands_of (suc i) es)) more ∙ ap (λ (q : Bool). length (cond q (d.command ∷ commands_of (suc i) (events c ms)) (commands_of (suc i) (events c ms)))) f
                ∙ (let a = was.gave in let b = length-append was.given (d ∷ []) in omega (arith, a, b));
          }
      by (Some d) o e is aft was false f =
          let event : e ≡ Act (suc j) d.command = (let some : Some (Act (suc j) d.command) ≡ Some e = sym (ap (option_map (λ (x : Order). Act (suc j) x.command)) o) ∙ is in cc) in
          let more = events-more (Go j) ms e is ∙ ap (λ x. x ∷ events c ms) event in
          record {
            left = was.left;
            is_left = ap (λ (p : Position). slice_get p.left i) aft
                ∙ get-set-other (position c ms).left i j (behind_next (slice_get (position c ms).left j)) (λ q. false≢true (sym f ∙ eq-eqb (suc j) (suc i) (ap suc q))) ∙ was.is_left;
            given = was.given;
            whole = was.whole;
            gave = ap (λ es. length (commands_of (suc i) es)) more ∙ ap (λ (q : Bool). length (cond q (d.command ∷ commands_of (suc i) (events c ms)) (commands_of (suc i) (events c ms)))) f ∙ was.gave;
          }

-- where there is no script, nothing is left of it
pub left-none : (c : Scene) (i : ℕ) (ms : List Move) → IsHistory (replaying (race_of c)) ms → slice_get c.scripts i ≡ None → slice_get (position c ms).left i ≡ None
left-none c i [] h none = slice_get-map orders_of c.scripts i ∙ ap (option_map orders_of) none
left-none c i (Carry a b ∷ ms) h none =
    ap (λ (p : Position). slice_get p.left i) (comes c (Carry a b) ms h.0).after ∙ left-none c i ms h.1 none
left-none c i (Go j ∷ ms) h none =
    ap (λ (p : Position). slice_get p.left i) (comes c (Go j) ms h.0).after
    ∙ set-none (position c ms).left i j (behind_next (slice_get (position c ms).left j)) (left-none c i ms h.1 none)

-- The next command of a script may be given: its body is within the limit, and its caller gave few before it.

module _ (c : Scene) (shape : IsLayout c.layout) (keeps : Keeps c) where
  fits : (i n : ℕ) (script : Script) (d : Command) → slice_get c.scripts i ≡ Some script → slice_get script.commands n ≡ Some d → has_body_in_limit d ≡ true
  fits i n script d at found =
      let l = c.layout in
      let each = list_all (command_keeps l c.version c.sites) script.commands in
      let whole = and_parts (is_actor_of l c.sites script.actor && nat_le (length script.commands) COMMANDS_LIMIT) each (all-get (script_keeps l c.version c.sites) c.scripts i script keeps.scripts at) in
      let one = all-get (command_keeps l c.version c.sites) script.commands n d whole.1 found in
      let bytes = nat_le (length (bytes_sent d)) (most_bytes c.version) in
      let four = and_parts (meets_conditions d && command_is_of l c.sites d && bytes) (is_of_version c.version d) one in
      command-fits c.version d (and_parts (meets_conditions d && command_is_of l c.sites d) bytes four.0).1

  behind : (given left : List Order) (d : Order) → next_of (Some left) ≡ Some d → slice_get (given ++ left) (length given) ≡ Some d
  behind [] [] d e = absurd (cc)
  behind [] (x ∷ left) d e = e
  behind (y ∷ given) left d e = behind given left d e

  few-left : (given left : List Order) (n : ℕ) → length (given ++ left) ≤ n → length given ≤ n
  few-left given left n h = (let a = length-append given left in omega (arith, a, h))

  module _ (ms : List Move) (h : IsHistory (replaying (race_of c)) ms) where
    number : (i : ℕ) (script : Script) (d : Command) (caller : Seated) → slice_get c.scripts i ≡ Some script → may_be c.layout (events c ms) ≡ true
        → slice_get (position c ms).net.callers (suc i) ≡ Some caller → caller.actor ≡ script.actor → has_number_left caller d ≡ true
    number i script d caller at may found actor =
        let there = ap (λ (z : NetState). slice_get z.callers (suc i)) (net-is c ms) ∙ found in
        let seated = (in-order c.layout (events c ms) shape may).0.callers (suc i) caller there in
        let performed = performs-history c.layout shape (events c ms) may (suc i) caller.actor (ap (option_map (λ (z : Seated). z.actor)) there) in
        let few = posts-few c.layout (suc i) caller.actor (history c.layout (events c ms)) (commands_of (suc i) (events c ms)) performed in
        let left = left-of c i script at ms h in
        let all = (script-keeps c keeps i script at).few in
        let long = orders-long script.waits 0 script.commands in
        let given = few-left left.given left.left COMMANDS_LIMIT (subst (λ xs. length xs ≤ COMMANDS_LIMIT) left.whole (omega (arith, long, all))) in
        let number = seated.posts in
        let gave = left.gave in
        later (not (is_post d)) (nat_lt caller.posts (2 ^ 32 - 1)) (lt-ltb caller.posts (2 ^ 32 - 1) (omega (arith, few, given, number, gave)))
      where
        later : (a b : Bool) → b ≡ true → a || b ≡ true
        later true b e = refl
        later false b e = e

    pub gives : (i : ℕ) (d : Command) → IsNext c ms i d → may_be c.layout (events c ms) ≡ true → may_happen (Act (suc i) d) (position c ms).net ≡ true
    gives i d is_next may = go (slice_get c.scripts i) refl
      where
        o : (x : Order) × ((next_of (slice_get (position c ms).left i) ≡ Some x) × (x.command ≡ d))
        o = order-next c ms i d is_next

        go : (z : Option Script) → slice_get c.scripts i ≡ z → may_happen (Act (suc i) d) (position c ms).net ≡ true
        go None at = absurd (let n = ap next_of (sym (left-none c i ms h at)) ∙ o.1.0 in cc)
        go (Some script) at =
            let w = caller-at c ms h i script at in
            let left = left-of c i script at ms h in
            let order = ap (λ xs. slice_get xs (length left.given)) left.whole ∙ behind left.given left.left o.0 (ap next_of (sym left.is_left) ∙ o.1.0) in
            let found =
            sym (order-command script.waits 0 script.commands (length left.given)) ∙ ap (option_map (λ (x : Order). x.command)) order ∙ ap (λ x. Some x) o.1.1 in
            let meets = (script-keeps c keeps i script at).commands (length left.given) d found in
            ap (λ o. may_give o d) w.is
            ∙ and_from (meets_conditions d && has_body_in_limit d) (has_number_left w.caller d)
            (and_from (meets_conditions d) (has_body_in_limit d) meets (fits i (length left.given) script d at found))
            (number i script d w.caller at may w.is w.actor_is)

  -- each move of a history is an event that may be
  pub history-may : (ms : List Move) → IsHistory (replaying (race_of c)) ms → may_be c.layout (events c ms) ≡ true
  history-may [] h = base-may c shape keeps
  history-may (m ∷ ms) h =
      let k = comes c m ms h.0 in
      let may = history-may ms h.1 in
      let n = (position c ms).net in
      let is : events c (m ∷ ms) ≡ k.event ∷ events c ms = ap (λ o. (option_to_list o ++ events_of (race_of c) ms) ++ reverse (base c)) k.is in
      ap (may_be c.layout) is
      ∙ and_from (may_happen k.event (schedule c.layout (events c ms))) (may_be c.layout (events c ms))
      (ap (may_happen k.event) (net-is c ms) ∙ by m k.event k.is may) may
    where
      by : (m : Move) → (e : Event) → event_of (race_of c).net.layout seat_0 m (position c ms).left ≡ Some e → may_be c.layout (events c ms) ≡ true → may_happen e (position c ms).net ≡ true
      by (Go i) e is may = go (next_of (slice_get (position c ms).left i)) refl is
        where
          go : (o : Option Order) → next_of (slice_get (position c ms).left i) ≡ o → option_map (λ (x : Order). Act (suc i) x.command) o ≡ Some e → may_happen e (position c ms).net ≡ true
          go None next f = absurd (cc)
          go (Some o) next f =
              let same : Act (suc i) o.command ≡ e = cc in
              subst (λ (x : Event). may_happen x (position c ms).net ≡ true) same (gives ms h.1 i o.command (ap (option_map (λ (x : Order). x.command)) next) may)
      by (Carry a b) e is may = go (are_linked (race_of c).net.layout a b) refl is
        where
          go : (q : Bool) → are_linked (race_of c).net.layout a b ≡ q → cond q (Some (Deliver 0 a b)) None ≡ Some e → may_happen e (position c ms).net ≡ true
          go false linked f = absurd (cc)
          go true linked f =
              let same : Deliver 0 a b ≡ e = cc in
              let l = (race_of c).net.layout in
              let n = (position c ms).net in
              let layout : (race_of c).net.layout ≡ (position c ms).net.layout = race-layout c ∙ sym (position-layout c ms h.1) in
              let one = and_parts (has_place l a && has_place l b) (not (a == b)) linked in
              let two = and_parts (has_place l a) (has_place l b) one.0 in
              let from = ap (λ (x : Layout). has_place x a) (sym layout) ∙ two.0 in
              let to = ap (λ (x : Layout). has_place x b) (sym layout) ∙ two.1 in
              let some = is_some (slice_get n.callers 0) in
              subst (λ (x : Event). may_happen x (position c ms).net ≡ true) same
              (and_from (some && has_place n.layout a && has_place n.layout b) (not (a == b))
              (and_from (some && has_place n.layout a) (has_place n.layout b) (and_from some (has_place n.layout a) (first-at c ms h.1) from) to) one.1)

  -- the next command of a script may be given
  pub next-happens : (ms : List Move) → IsHistory (replaying (race_of c)) ms → (i k : ℕ) (d : Command) → k ≡ i + 1 → IsNext c ms i d → may_happen (Act k d) (position c ms).net ≡ true
  next-happens ms h i k d e next =
      let seat : k ≡ suc i = omega (arith, e) in
      ap (λ (s : ℕ). may_happen (Act s d) (position c ms).net) seat ∙ gives ms h i d next (history-may ms h)

-- a script's command that may come is a move that may
pub script-may : (c : Scene) (ms : List Move) → IsHistory (replaying (race_of c)) ms → (i : ℕ) → goes_on c ms i ≡ true → may_go c (Go i) ms ≡ true
script-may c ms h i on = by (slice_get c.scripts i) refl
  where
    by : (o : Option Script) → slice_get c.scripts i ≡ o → may_go c (Go i) ms ≡ true
    by None at = absurd (false≢true (sym (ap (λ o. is_some (next_of o) && may_now (next_of o) i (position c ms).net) (left-none c i ms h at)) ∙ on))
    by (Some script) at = go (next_of (slice_get (position c ms).left i)) on
      where
        w : CallerAt c ms i script.actor
        w = caller-at c ms h i script at

        go : (o : Option Order) → (is_some o && may_now o i (position c ms).net) ≡ true → (is_ready_by (option_map (λ (x : Order). Act (suc i) x.command) o) (position c ms).net && may_now o i (position c ms).net) ≡ true
        go None k = absurd (false≢true k)
        go (Some o) k = and_from (is_ready_by (Some (Act (suc i) o.command)) (position c ms).net) (may_now (Some o) i (position c ms).net) (ap (λ x. is_some x && true) w.is) k
