-- Events behind those where the race begins, whoever delivers and sees entries, are followed by moves that leave a network that is alike.
-- c is a scenario, old are the events where the race begins, fs those behind them, ms are moves, all with the latest first; i is the place of a script, k a
-- seat, d a command.
use Rattle.std.proofs.Common.{ℕ, zero, suc, ◌≡◌, ◌≤◌, ◌==◌, Bool, true, false, ◌&&◌, ◌||◌, not, cond, List, [], ◌∷◌, ◌++◌, length, reverse, option_to_list, Option, Some, None, is_some, slice_get, refl, sym, ◌∙◌, ap, subst, arith, append_assoc}
use Rattle.std.specs.List.{All}
use Rattle.std.specs.Option.{option_map}
use Rattle.std.proofs.lemmas.Bool.{and_parts, and_from, eq-eqb, false≢true}
use Rattle.std.proofs.lemmas.List.{length-append, length-reverse, reverse-append}
use Rattle.std.proofs.lemmas.List.Elements.{All-head, All-tail}
use Rattle.chorus_ui.specs.declared.layout.Layout.{Layout}
use Rattle.chorus_ui.specs.Layout.{has_place}
use Rattle.chorus_entry.specs.declared.command.Command.{Command}
use Rattle.chorus_entry.specs.declared.packet.Packet.{Packet}
use Rattle.chorus_calls.specs.Callers.{Seated}
use Rattle.law_awaits.specs.Awaits.{would_take}
use Rattle.law_arrows.specs.Arrows.{served, served_by, worked_off}
use Rattle.law_network.specs.Network.{NetState, Event, Enter, Act, Deliver, See, happened, one_if, schedule}
use Rattle.law_network.specs.Packets.{first_on}
use Rattle.law_network.specs.Schedules.{may_happen, may_be, command_in, commands_of}
use Rattle.law_network.proofs.Draining.Drains.{idle-event}
use Rattle.law_network.proofs.Places.Layouts.{schedule-keeps}
use Rattle.law_explore.specs.Alike.{ActAlike, NetsAlike}
use Rattle.law_explore.specs.declared.moves.Move.{Move}
use Rattle.law_explore.specs.declared.moves.Move.TheVariants.{Go, Carry}
use Rattle.law_explore.specs.Neighbours.{is_ready}
use Rattle.law_explore.specs.Races.{Order, are_linked, event_of, is_now, is_ready_by, may_now, next_of, position_after, replaying, seat_0}
use Rattle.law_explore.specs.Replays.{events_of}
use Rattle.law_explore.specs.Search.{IsHistory}
use Rattle.law_explore.proofs.Alike.{keep_acts}
use Rattle.law_explore.proofs.Nets.{command-alike, some-too}
use Rattle.law_explore.proofs.Races.{now-same}
use Rattle.law_moments.specs.Answers.{answer_by, answered_by}
use Rattle.law_replay.specs.Shown.{orders_of, race_of}
use Rattle.chorus_scene.specs.Scene.{Scene, Script, is_await}
use Rattle.chorus_report.specs.Awaiting.{AwaitsTake}
use Rattle.chorus_explore.specs.Stages.{position}
use Rattle.chorus_explore.proofs.Happening.{events, net-is}
use Rattle.chorus_explore.proofs.Racing.{base, caller-at, first-at, race-layout}
use Rattle.law_outcomes.specs.Anybody.{IsOfRace}
use Rattle.law_outcomes.proofs.Anybody.{delivers-alike, sees-alike}
use Rattle.law_outcomes.proofs.Awaiting.{acts_told, next-left, order, ordered, same-own, takes-less, takes-now}
use Rattle.law_outcomes.proofs.Counting.{served-one}

at-length : {X : Type 0} (xs : List X) (x : X) (ys : List X) → slice_get (xs ++ x ∷ ys) (length xs) ≡ Some x
at-length [] x ys = refl
at-length (z ∷ xs) x ys = at-length xs x ys

below : {X : Type 0} (xs : List X) (i : ℕ) (x : X) → slice_get xs i ≡ Some x → suc i ≤ length xs
below [] i x e = absurd (cc)
below (y ∷ xs) zero x e = omega arith
below (y ∷ xs) (suc i) x e = (let le = below xs i x e in omega (arith, le))

-- either it does not wait, or it is the time
not-or : (a b : Bool) → (a ≡ true → b ≡ true) → not a || b ≡ true
not-or true b h = h refl
not-or false b h = refl

-- an event gives one command more, or none
command-more : (k : ℕ) (e : Event) (cs : List Command) → (more : List Command) × (command_in k e cs ≡ more ++ cs)
command-more k (Enter actor last) cs = ([], refl)
command-more k (Deliver j a b) cs = ([], refl)
command-more k (See j clock) cs = ([], refl)
command-more k (Act j d) cs = by (j == k)
  where
    by : (q : Bool) → (more : List Command) × (cond q (d ∷ cs) cs ≡ more ++ cs)
    by true = (d ∷ [], refl)
    by false = ([], refl)

pub unserved : (b : ℕ) (o : Option Seated) (q : Option Packet) → is_some q ≡ false → served b o q ≡ []
unserved b None q h = refl
unserved b (Some w) None h = refl
unserved b (Some w) (Some q) h = absurd (false≢true (sym h))

never : (q : Bool) → one_if (q && false) ≡ 0
never true = refl
never false = refl

module _ (c : Scene) (old : List Event) where
  abbrev at : List Event → NetState
  at fs = schedule c.layout (fs ++ old)

  abbrev given-by : ℕ → List Event → List Command
  given-by i fs = commands_of (suc i) (fs ++ old)

  -- the events are followed by moves
  pub record Follows (fs : List Event) : Type 0 where
    pub moves : List Move
    pub history : IsHistory (replaying (race_of c)) moves
    pub nets : NetsAlike ActAlike (length c.scripts) (at fs) (position c moves).net
    pub gave : (i : ℕ) → commands_of (suc i) (events c moves) ≡ given-by i fs
    pub told : (i : ℕ) → answered_by c.layout (suc i) (events c moves) ≡ answered_by c.layout (suc i) (fs ++ old)
    pub served : length (worked_off c.layout (events c moves)) ≡ length (worked_off c.layout (fs ++ old))

  -- what is given of a script is a front of it
  pub record Gives (fs : List Event) : Type 0 where
    pub some : (i : ℕ) (script : Script) → slice_get c.scripts i ≡ Some script → (left : List Command) × (script.commands ≡ reverse (given-by i fs) ++ left)
    pub none : (i : ℕ) → slice_get c.scripts i ≡ None → given-by i fs ≡ []

  -- and each await that is given receives a message
  abbrev pub Takes : List Event → Type 0
  Takes fs = (i : ℕ) (script : Script) → slice_get c.scripts i ≡ Some script → AwaitsTake script.waits 0 (acts_told (answered_by c.layout (suc i) (fs ++ old)))

  none-of : {X : Type 0} (xs ys : List X) → xs ++ ys ≡ [] → ys ≡ []
  none-of [] ys e = e
  none-of (x ∷ xs) ys e = absurd (cc)

  gives-less : (e : Event) (fs : List Event) → Gives (e ∷ fs) → Gives fs
  gives-less e fs g = record {
    some = λ i script there.
        (let one = g.some i script there in
        let more = command-more (suc i) e (given-by i fs) in (
          reverse more.0 ++ one.0,
          one.1 ∙ ap (λ xs. reverse xs ++ one.0) more.1 ∙ ap (λ xs. xs ++ one.0) (reverse-append more.0 (given-by i fs))
              ∙ append_assoc (reverse (given-by i fs)) (reverse more.0) one.0,
        ));
    none = λ i there. (let more = command-more (suc i) e (given-by i fs) in none-of more.0 (given-by i fs) (sym more.1 ∙ g.none i there));
  }

  own-given : (i : ℕ) (d : Command) (fs : List Event) → given-by i (Act (suc i) d ∷ fs) ≡ d ∷ given-by i fs
  own-given i d fs = ap (λ (q : Bool). cond q (d ∷ given-by i fs) (given-by i fs)) (eq-eqb (suc i) (suc i) refl)

  seen : (k clock : ℕ) (fs : List Event) → Follows fs → Follows (See k clock ∷ fs)
  seen k clock fs w = record {
    moves = w.moves;
    history = w.history;
    nets = sees-alike (length c.scripts) (at fs) (position c w.moves).net w.nets k clock;
    gave = w.gave;
    told = w.told;
    served = w.served;
  }

  -- A delivery: one that finds nothing is no move.

  delivered : (k a b : ℕ) (fs : List Event) → may_happen (Deliver k a b) (at fs) ≡ true → Follows fs → (q : Bool) → is_some (first_on a b (at fs).packets) ≡ q → Follows (Deliver k a b ∷ fs)
  delivered k a b fs may w false e =
      let n = at fs in
      let idle : happened (Deliver k a b) (at fs) ≡ at fs =
      idle-event (Deliver k a b) (at fs) (ap (λ (q : Bool). one_if (is_some (slice_get (at fs).callers k) && q)) e ∙ never (is_some (slice_get (at fs).callers k))) in
      record {
        moves = w.moves;
        history = w.history;
        nets = subst (λ (x : NetState). NetsAlike ActAlike (length c.scripts) x (position c w.moves).net) (sym idle) w.nets;
        gave = w.gave;
        told = w.told;
        served = w.served ∙ sym (ap (λ xs. length (xs ++ worked_off c.layout (fs ++ old))) (unserved b (slice_get n.callers k) (first_on a b n.packets) e));
      }
  delivered k a b fs may w true e =
      let n = at fs in
      let s = position c w.moves in
      let l = (race_of c).net.layout in
      let some = is_some (slice_get n.callers k) in
      let three = and_parts (some && has_place n.layout a && has_place n.layout b) (not (a == b)) may in
      let two = and_parts (some && has_place n.layout a) (has_place n.layout b) three.0 in
      let one = and_parts some (has_place n.layout a) two.0 in
      let layout : (at fs).layout ≡ (race_of c).net.layout = (schedule-keeps c.layout (fs ++ old)).layout ∙ sym (race-layout c) in
      let from = ap (λ (x : Layout). has_place x a) (sym layout) ∙ one.1 in
      let to = ap (λ (x : Layout). has_place x b) (sym layout) ∙ two.1 in
      let linked : are_linked (race_of c).net.layout a b ≡ true = and_from (has_place l a && has_place l b) (not (a == b)) (and_from (has_place l a) (has_place l b) from to) three.1 in
      let event : event_of (race_of c).net.layout seat_0 (Carry a b) (position c w.moves).left ≡ Some (Deliver 0 a b) = ap (λ (q : Bool). cond q (Some (Deliver 0 a b)) None) linked in
      let found : is_some (first_on a b (position c w.moves).net.packets) ≡ true = some-too a b (at fs).packets (position c w.moves).net.packets w.nets.packets e in
      let first = first-at c w.moves w.history in
      let ready : is_ready (Deliver 0 a b) (position c w.moves).net ≡ true = and_from (is_some (slice_get s.net.callers 0)) (is_some (first_on a b s.net.packets)) first found in
      let here = served-one b (slice_get n.callers k) (first_on a b n.packets) (and_from some (is_some (first_on a b n.packets)) one.0 e) in
      let there = served-one b (slice_get s.net.callers 0) (first_on a b s.net.packets) (and_from (is_some (slice_get s.net.callers 0)) (is_some (first_on a b s.net.packets)) first found) in
      record {
        moves = Carry a b ∷ w.moves;
        history = (ap (λ o. is_ready_by o s.net && true) event ∙ ap (λ q. q && true) ready, w.history);
        nets = subst (λ o. NetsAlike ActAlike (length c.scripts) (at (Deliver k a b ∷ fs)) (position_after o (Carry a b) (position c w.moves)).net) (sym event)
            (delivers-alike (length c.scripts) (at fs) (position c w.moves).net w.nets k a b one.0 first);
        gave = λ i. ap (λ o. commands_of (suc i) ((option_to_list o ++ events_of (race_of c) w.moves) ++ reverse (base c))) event ∙ w.gave i;
        told = λ i. ap (λ o. answered_by c.layout (suc i) ((option_to_list o ++ events_of (race_of c) w.moves) ++ reverse (base c))) event ∙ w.told i;
        served =
            ap (λ o. length (worked_off c.layout ((option_to_list o ++ events_of (race_of c) w.moves) ++ reverse (base c)))) event
            ∙ ap (λ (x : NetState). length (served_by (Deliver 0 a b) x ++ worked_off c.layout (events c w.moves))) (net-is c w.moves)
            ∙ (let u = length-append (served_by (Deliver 0 a b) (position c w.moves).net) (worked_off c.layout (events c w.moves)) in
            let v = length-append (served_by (Deliver k a b) (at fs)) (worked_off c.layout (fs ++ old)) in
            let same = w.served in
            omega (arith, u, v, here, there, same));
      }

  -- A command is the next one of its script, it is the time for it, and it is answered by the same act.

  acted : (i : ℕ) (d : Command) (fs : List Event) → may_be c.layout (Act (suc i) d ∷ fs ++ old) ≡ true → Gives (Act (suc i) d ∷ fs) → Takes (Act (suc i) d ∷ fs) → Follows fs → (o : Option Script) → slice_get c.scripts i ≡ o
      → Follows (Act (suc i) d ∷ fs)
  acted i d fs may gives takes w None there = absurd (let e = sym (own-given i d fs) ∙ gives.none i there in cc)
  acted i d fs may gives takes w (Some script) there =
      let s = position c w.moves in
      let cs = given-by i fs in
      let given = gives.some i script there in
      let waits = is_await script.waits (length (given-by i fs)) in
      let all : script.commands ≡ reverse (given-by i fs) ++ d ∷ given.0 =
      given.1 ∙ ap (λ xs. reverse xs ++ given.0) (own-given i d fs) ∙ ap (λ xs. xs ++ given.0) (reverse-append (d ∷ []) cs) ∙ append_assoc (reverse cs) (d ∷ []) given.0 in
      let command : slice_get script.commands (length (given-by i fs)) ≡ Some d =
      ap (slice_get script.commands) (sym (length-reverse cs)) ∙ ap (λ xs. slice_get xs (length (reverse cs))) all ∙ at-length (reverse cs) d given.0 in
      let next : next_of (slice_get (position c w.moves).left i) ≡ Some (order d (is_await script.waits (length (given-by i fs)))) =
      next-left c i script there w.moves w.history ∙ ap (λ (xs : List Command). slice_get (orders_of script) (length xs)) (w.gave i) ∙ ordered script (length cs) d command in
      let event : event_of (race_of c).net.layout seat_0 (Go i) (position c w.moves).left ≡ Some (Act (suc i) d) = ap (option_map (λ (x : Order). Act (suc i) x.command)) next in
      let caller = caller-at c w.moves w.history i script there in
      let low : 1 ≤ suc i = omega arith in
      let high : suc i ≤ length c.scripts = below c.scripts i script there in
      let same = same-own (length c.scripts) (suc i) d (at fs) (position c w.moves).net w.nets low high in
      let ready : is_ready_by (event_of (race_of c).net.layout seat_0 (Go i) (position c w.moves).left) (position c w.moves).net ≡ true =
      ap (λ o. is_ready_by o s.net) event ∙ ap (λ o. is_some o && true) caller.is in
      let now : is_now (Go i) (position c w.moves).left (position c w.moves).net ≡ true =
      now-same (race_of c).net.layout seat_0 (Go i) s.left (Act (suc i) d) s.net (at fs) event same ∙ ap (λ o. may_now o i (at fs)) next
      ∙ not-or waits (would_take (suc i) d (at fs)) (takes-now script.waits c.layout i d (fs ++ old) may (takes i script there)) in
      record {
        moves = Go i ∷ w.moves;
        history = (and_from (is_ready_by (event_of (race_of c).net.layout seat_0 (Go i) s.left) s.net) (is_now (Go i) s.left s.net) ready now, w.history);
        nets = subst (λ o. NetsAlike ActAlike (length c.scripts) (at (Act (suc i) d ∷ fs)) (position_after o (Go i) (position c w.moves)).net) (sym event)
            (command-alike ActAlike keep_acts (length c.scripts) (at fs) (position c w.moves).net w.nets (suc i) d low high);
        gave = λ j.
            ap (λ o. commands_of (suc j) ((option_to_list o ++ events_of (race_of c) w.moves) ++ reverse (base c))) event ∙ ap (command_in (suc j) (Act (suc i) d)) (w.gave j);
        told = λ j.
            ap (λ o. answered_by c.layout (suc j) ((option_to_list o ++ events_of (race_of c) w.moves) ++ reverse (base c))) event
            ∙ ap (λ (x : NetState). answer_by (suc j) (Act (suc i) d) x ++ answered_by c.layout (suc j) (events c w.moves)) (net-is c w.moves)
            ∙ ap (λ o. cond (suc i == suc j) (option_to_list o) [] ++ answered_by c.layout (suc j) (events c w.moves)) same
            ∙ ap (λ xs. answer_by (suc j) (Act (suc i) d) (at fs) ++ xs) (w.told j);
        served = ap (λ o. length (worked_off c.layout ((option_to_list o ++ events_of (race_of c) w.moves) ++ reverse (base c)))) event ∙ w.served;
      }

  one-more : (e : Event) (fs : List Event) → may_be c.layout (e ∷ fs ++ old) ≡ true → may_happen e (at fs) ≡ true → IsOfRace e → Gives (e ∷ fs) → Takes (e ∷ fs) → Follows fs → Follows (e ∷ fs)
  one-more (Enter actor last) fs all may racing gives takes w = absurd racing
  one-more (See k clock) fs all may racing gives takes w = seen k clock fs w
  one-more (Act zero d) fs all may racing gives takes w = absurd (omega (arith, racing))
  one-more (Act (suc i) d) fs all may racing gives takes w = acted i d fs all gives takes w (slice_get c.scripts i) refl
  one-more (Deliver k a b) fs all may racing gives takes w = delivered k a b fs may w (is_some (first_on a b (at fs).packets)) refl

  pub follows : (fs : List Event) → may_be c.layout (fs ++ old) ≡ true → All IsOfRace fs → Gives fs → Takes fs → Follows [] → Follows fs
  follows [] may racing gives takes start = start
  follows (e ∷ fs) may racing gives takes start =
      let two = and_parts (may_happen e (at fs)) (may_be c.layout (fs ++ old)) may in
      let before = follows fs two.1 (All-tail IsOfRace e fs racing) (gives-less e fs gives) (λ i script there. takes-less script.waits c.layout (suc i) e (fs ++ old) (takes i script there)) start in
      one-more e fs may two.0 (All-head IsOfRace e fs racing) gives takes before
