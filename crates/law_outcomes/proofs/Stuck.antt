-- At the end of a whole history each await that came received a message, and each script is done, or waits for what does not come.
-- c is a scenario, ms are moves, the latest first, i is the place of a script, waits are the numbers of its commands that wait, n is how many came.
use Rattle.std.proofs.Common.{ℕ, zero, suc, ◌≡◌, ◌+◌, ◌==◌, ◌⊎◌, Bool, true, false, ◌&&◌, ◌||◌, not, cond, List, [], ◌∷◌, ◌++◌, length, map, drop, reverse, option_to_list, Option, Some, None, is_some, slice_get, inl, inr, refl, sym, ◌∙◌, ap, subst, arith}
use Rattle.std.specs.Prelude.{slice_index_or}
use Rattle.std.specs.Option.{option_map}
use Rattle.std.proofs.lemmas.Bool.{and_parts, eqb-true, eq-eqb, false≢true}
use Rattle.std.proofs.lemmas.List.{length-map, length-reverse}
use Rattle.chorus_ui.specs.declared.ui.Ui.{Ui}
use Rattle.chorus_ui.specs.Layout.{IsLayout}
use Rattle.chorus_entry.specs.declared.act.Act as acts
use Rattle.chorus_entry.specs.declared.command.Command.{Command}
use Rattle.law_awaits.specs.Awaits.{is_taken, takes_by, would_take}
use Rattle.law_awaits.proofs.Gives.{would-take-is-gives}
use Rattle.law_machine.specs.Own.{own}
use Rattle.law_network.specs.Left.{merged_past}
use Rattle.law_network.specs.Network.{NetState, Event, Act, Deliver, schedule, turn_for}
use Rattle.law_network.specs.Schedules.{commands_of}
use Rattle.law_network.specs.Stands.{actor_of}
use Rattle.law_explore.specs.declared.moves.Move.{Move}
use Rattle.law_explore.specs.declared.moves.Move.TheVariants.{Go, Carry}
use Rattle.law_explore.specs.Races.{Order, Told, are_linked, event_of, is_now, is_ready_by, may_now, may_script, next_of, own_by, replaying, seat_0, told_in}
use Rattle.law_explore.specs.Replays.{events_of}
use Rattle.law_explore.specs.Search.{IsHistory}
use Rattle.law_moments.specs.Answers.{answered_by}
use Rattle.law_replay.specs.Shown.{orders_of, race_of}
use Rattle.law_replay.proofs.Steps.{done_by_moves, go-next, is-at, number-at, order-at}
use Rattle.chorus_scene.specs.Limits.{Keeps, is_take, waits_keep}
use Rattle.chorus_scene.specs.Scene.{Scene, Script, is_await}
use Rattle.chorus_scene.proofs.Waits.{awaits_take}
use Rattle.chorus_report.specs.Awaiting.{AwaitsTake, IsStuck, StandsAt}
use Rattle.chorus_replay.proofs.May.{all-get}
use Rattle.chorus_explore.specs.Stages.{position}
use Rattle.chorus_explore.proofs.Happening.{events, history-may, net-is}
use Rattle.chorus_explore.proofs.Racing.{actor-at, base, caller-at}
use Rattle.chorus_explore.proofs.Whole.{ended}
use Rattle.law_outcomes.specs.Stuck.{OutcomesTellWhatIsStuck}
use Rattle.law_outcomes.proofs.Awaiting.{acts-append, acts_told, as-many, next-left, order, ordered, own-told}
use Rattle.law_outcomes.proofs.Silent.{silent-first}

-- One act more.
takes-more : (waits : List ℕ) (j : ℕ) (xs : List acts.Act) (a : acts.Act) → AwaitsTake waits j xs → (is_await waits (j + length xs) ≡ true → is_taken a ≡ true) → AwaitsTake waits j (xs ++ a ∷ [])
takes-more waits j [] a h t = (λ e. t (ap (is_await waits) (same j) ∙ e), tt)
  where
    same : (j : ℕ) → j + 0 ≡ j
    same j = omega arith
takes-more waits j (x ∷ xs) a h t = (h.0, takes-more waits (j + 1) xs a h.1 (λ e. t (ap (is_await waits) (later j (length xs)) ∙ e)))
  where
    later : (j n : ℕ) → j + suc n ≡ j + 1 + n
    later j n = omega arith

waits-now : (a b : Bool) → not a || b ≡ true → a ≡ true → b ≡ true
waits-now true b h e = h
waits-now false b h e = absurd (false≢true e)

waits-never : (a b : Bool) → not a || b ≡ false → (a ≡ true) × (b ≡ false)
waits-never true b h = (refl, h)
waits-never false b h = absurd (false≢true (sym h))

is-take : (o : Option Command) → is_take o ≡ true → (port : Ui) × (o ≡ Some (Command.Take port))
is-take (Some (Command.Take port)) h = (port, refl)
is-take _ h = absurd (false≢true h)

none-left : (n : ℕ) (commands : List Command) → slice_get commands n ≡ None → drop n commands ≡ []
none-left zero [] e = refl
none-left zero (x ∷ commands) e = absurd (cc)
none-left (suc n) [] e = refl
none-left (suc n) (x ∷ commands) e = none-left n commands e

next-at : (n : ℕ) (os : List Order) → next_of (Some (drop n os)) ≡ slice_get os n
next-at zero [] = refl
next-at zero (o ∷ os) = refl
next-at (suc n) [] = refl
next-at (suc n) (o ∷ os) = next-at n os

module _ (c : Scene) (shape : IsLayout c.layout) (keeps : Keeps c) (i : ℕ) (script : Script) (there : slice_get c.scripts i ≡ Some script) where
  -- Each await that came received a message.

  abbrev Took : List Move → Type 0
  Took ms = AwaitsTake script.waits 0 (acts_told (answered_by c.layout (suc i) (events c ms)))

  module _ (ms : List Move) (ih : AwaitsTake script.waits 0 (acts_told (answered_by c.layout (suc i) (events c ms)))) where
    abbrev n : NetState
    n = schedule c.layout (events c ms)

    abbrev told : List Told
    told = answered_by c.layout (suc i) (events c ms)

    -- behind the event that a move is
    abbrev After : Option Event → Type 0
    After o = AwaitsTake script.waits 0 (acts_told (answered_by c.layout (suc i) ((option_to_list o ++ events_of (race_of c) ms) ++ reverse (base c))))

    carried : (a b : ℕ) (q : Bool) → After (cond q (Some (Deliver 0 a b)) None)
    carried a b true = ih
    carried a b false = ih

    away : (j : ℕ) (d : Command) → (suc j == suc i) ≡ false → After (Some (Act (suc j) d))
    away j d other =
        subst (AwaitsTake script.waits 0) (sym (ap (λ (b : Bool). acts_told (cond b (option_to_list (own_by d n (slice_get n.callers (suc j)))) [] ++ told)) other)) ih

    went : (h : IsHistory (replaying (race_of c)) (Go i ∷ ms)) → (o : Order) → next_of (slice_get (position c ms).left i) ≡ Some o → After (Some (Act (suc i) o.command))
    went h o next =
        let s = position c ms in
        let d = o.command in
        let w = caller-at c ms h.1 i script there in
        let at : slice_get (schedule c.layout (events c ms)).callers (suc i) ≡ Some w.caller = ap (λ (x : NetState). slice_get x.callers (suc i)) (net-is c ms) ∙ w.is in
        let a = own d (turn_for d w.caller n) in
        let waits = (order-at script.waits 0 script.commands (length (commands_of (suc i) (events c ms))) o (sym (next-left c i script there ms h.1) ∙ next)).1 in
        let now = (and_parts (is_ready_by (event_of (race_of c).net.layout seat_0 (Go i) s.left) s.net) (is_now (Go i) s.left s.net) h.0).1 in
        let many = as-many c.layout (suc i) (events c ms) (history-may c shape keeps ms h.1) in
        let would : not o.waits || would_take (suc i) o.command (schedule c.layout (events c ms)) ≡ true =
        ap (λ (x : NetState). not o.waits || would_take (suc i) o.command x) (net-is c ms) ∙ sym (ap (λ x. may_now x i (position c ms).net) next) ∙ now in
        let reversed = length-reverse (map (λ (it : Told). it.act) told) in
        let mapped = length-map told (λ (it : Told). it.act) in
        let count : 0 + length (acts_told (answered_by c.layout (suc i) (events c ms))) ≡ 0 + length (commands_of (suc i) (events c ms)) = omega (arith, many, reversed, mapped) in
        let more : acts_told (cond (suc i == suc i) (option_to_list (own_by o.command n (slice_get (schedule c.layout (events c ms)).callers (suc i)))) [] ++ told) ≡ acts_told told ++ a ∷ [] =
        ap (λ (b : Bool). acts_told (cond b (option_to_list (own_by d n (slice_get n.callers (suc i)))) [] ++ told)) (eq-eqb (suc i) (suc i) refl)
        ∙ ap (λ x. acts_told (option_to_list (own_by d n x) ++ told)) at ∙ acts-append (told_in d (turn_for d w.caller n) ∷ []) told in
        subst (AwaitsTake script.waits 0) (sym more)
        (takes-more script.waits 0 (acts_told told) a ih
        (λ e. sym (ap (takes_by d n) at) ∙ waits-now o.waits (would_take (suc i) d n) would (waits ∙ ap (is_await script.waits) (sym count) ∙ e)))

  took : (ms : List Move) → IsHistory (replaying (race_of c)) ms → AwaitsTake script.waits 0 (acts_told (answered_by c.layout (suc i) (events c ms)))
  took [] h = subst (AwaitsTake script.waits 0) (sym (ap acts_told (silent-first i c))) tt
  took (Carry a b ∷ ms) h = carried ms (took ms h.1) a b (are_linked (race_of c).net.layout a b)
  took (Go j ∷ ms) h = by (took ms h.1) (suc j == suc i) refl
    where
      next : (o : Order) × (next_of (slice_get (position c ms).left j) ≡ Some o)
      next = go-next c j ms h.0

      event : event_of (race_of c).net.layout seat_0 (Go j) (position c ms).left ≡ Some (Act (suc j) next.0.command)
      event = ap (option_map (λ (x : Order). Act (suc j) x.command)) next.1

      by : AwaitsTake script.waits 0 (acts_told (answered_by c.layout (suc i) (events c ms))) → (b : Bool) → (suc j == suc i) ≡ b → AwaitsTake script.waits 0 (acts_told (answered_by c.layout (suc i) (events c (Go j ∷ ms))))
      by before false e = subst (After ms before) (sym event) (away ms before j next.0.command e)
      by before true e =
          let same : j ≡ i = (let n = eqb-true (suc j) (suc i) e in omega (arith, n)) in
          subst (After ms before) (sym event)
          (subst (λ k. After ms before (Some (Act (suc k) next.0.command))) (sym same)
          (went ms before (subst (λ k. IsHistory (replaying (race_of c)) (Go k ∷ ms)) same h) next.0 (ap (λ k. next_of (slice_get (position c ms).left k)) (sym same) ∙ next.1)))

  -- Where it goes on no more, it is done, or it waits for what does not come.

  module _ (ms : List Move) (h : IsHistory (replaying (race_of c)) ms) (stops : may_script i (position c ms) ≡ false) where
    abbrev es : List Event
    es = events c ms

    left-at : (n : ℕ) → slice_get (position c ms).left i ≡ Some (drop n (orders_of script)) → (drop n script.commands ≡ []) ⊎ IsStuck c.layout script n (merged_past (schedule c.layout (events c ms)))
    left-at n is = by (slice_get script.commands n) refl
      where
        waits : Bool
        waits = is_await script.waits n

        by : (o : Option Command) → slice_get script.commands n ≡ o → (drop n script.commands ≡ []) ⊎ IsStuck c.layout script n (merged_past (schedule c.layout (events c ms)))
        by None e = inl (none-left n script.commands e)
        by (Some d) e =
            let next : next_of (slice_get (position c ms).left i) ≡ Some (order d (is_await script.waits n)) = ap next_of is ∙ next-at n (orders_of script) ∙ ordered script n d e in
            let never = waits-never (is_await script.waits n) (would_take (suc i) d (position c ms).net) (sym (ap (λ o. is_some o && may_now o i (position c ms).net) next) ∙ stops) in
            let take = is-take (slice_get script.commands n) (awaits_take c.version script n (all-get (waits_keep c.version) c.scripts i script keeps.waits there) never.0) in
            let port = take.0 in
            let same : d ≡ Command.Take take.0 = (let both : Some d ≡ Some (Command.Take take.0) = sym e ∙ take.1 in cc) in
            let who : actor_of (schedule c.layout (events c ms)) (suc i) ≡ Some script.actor = ap (λ (x : NetState). actor_of x (suc i)) (net-is c ms) ∙ actor-at c ms h i script there in
            inr (record {
              waits = never.0;
              port = port;
              is = take.1;
              nothing = sym (would-take-is-gives c.layout (events c ms) shape (history-may c shape keeps ms h) (suc i) script.actor port who)
                  ∙ ap (λ x. would_take (suc i) x (schedule c.layout (events c ms))) (sym same) ∙ ap (would_take (suc i) d) (net-is c ms) ∙ never.1;
            })

    stands : StandsAt c.layout script (suc i) (slice_index_or (done_by_moves c ms) i 0) (merged_past (position c ms).net)
    stands =
        let at = is-at c ms h i script there in
        subst (λ (x : NetState). StandsAt c.layout script (suc i) (slice_index_or (done_by_moves c ms) i 0) (merged_past x)) (net-is c ms)
        (subst (λ (n : ℕ). StandsAt c.layout script (suc i) n (merged_past (schedule c.layout (events c ms)))) (sym (number-at (done_by_moves c ms) i at.number at.done))
        (record {
          taken = subst (AwaitsTake script.waits 0) (sym (own-told c.layout (suc i) (events c ms) shape (history-may c shape keeps ms h))) (took ms h);
          left = left-at at.number at.left;
        }))

pub outcomes-tell-what-is-stuck : OutcomesTellWhatIsStuck
outcomes-tell-what-is-stuck c ms shape keeps whole = record {
  done = done_by_moves c ms;
  stands = λ i script there. stands c shape keeps i script there ms whole.0 ((ended c ms whole shape keeps).0 i);
  left = λ i script there.
      (let at = is-at c ms whole.0 i script there in
      at.left ∙ ap (λ (n : ℕ). Some (drop n (orders_of script))) (sym (number-at (done_by_moves c ms) i at.number at.done)));
}
