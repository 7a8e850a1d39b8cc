-- A schedule as threads make it leaves what a whole history comes to.
-- c is a scenario, es are events, ms are moves, both with the latest first, i is the place of a script.
use Rattle.std.proofs.Common.{ℕ, suc, ◌≡◌, ◌≤◌, Bool, true, false, ◌&&◌, ◌||◌, not, cond, List, [], ◌∷◌, ◌++◌, length, map, take, drop, reverse, unwrap_or, Option, Some, None, is_some, slice_get, inl, inr, refl, sym, ◌∙◌, ap, subst, arith}
use Rattle.std.specs.Prelude.{slice_index_or}
use Rattle.std.specs.List.{Contains}
use Rattle.std.specs.Option.{option_map}
use Rattle.std.proofs.lemmas.Bool.{and_parts, false≢true}
use Rattle.std.proofs.lemmas.List.{append-nil, length-reverse, reverse-reverse, take-append-drop}
use Rattle.std.proofs.lemmas.Option.{slice_get_within}
use Rattle.chorus_ui.specs.Layout.{IsLayout}
use Rattle.chorus_entry.specs.declared.command.Command.{Command}
use Rattle.law_machine.specs.declared.outgoing.Outgoing.{Outgoing}
use Rattle.law_awaits.specs.Awaits.{would_take}
use Rattle.law_awaits.proofs.Gives.{would-take-is-gives}
use Rattle.law_arrows.specs.Arrows.{worked_off}
use Rattle.law_history.specs.Journals.{coming}
use Rattle.law_network.specs.Left.{merged_past}
use Rattle.law_network.specs.Network.{Event, Act, Deliver, schedule}
use Rattle.law_network.specs.Packets.{first_on}
use Rattle.law_network.specs.Schedules.{commands_of, may_be}
use Rattle.law_network.specs.Stands.{actor_of}
use Rattle.law_explore.specs.Alike.{ActAlike, NetsAlike, unclocked}
use Rattle.law_explore.specs.declared.moves.Move.{Move}
use Rattle.law_explore.specs.declared.moves.Move.TheVariants.{Go, Carry}
use Rattle.law_explore.specs.Neighbours.{is_ready}
use Rattle.law_explore.specs.Positions.{AskAlike, next_behind}
use Rattle.law_explore.specs.Races.{Order, are_linked, event_of, is_now, is_ready_by, may_come, may_now, may_script, next_of, replaying, seat_0}
use Rattle.law_explore.specs.Search.{IsHistory}
use Rattle.law_explore.proofs.Exploring.{lists-next}
use Rattle.law_explore.proofs.Searching.{here}
use Rattle.law_explore.proofs.Moments.{nets-tell-the-same}
use Rattle.law_explore.proofs.Races.{now-same}
use Rattle.law_explore.proofs.Telling.{acts-tell, outcomes}
use Rattle.law_moments.specs.Answers.{answered_by}
use Rattle.law_replay.specs.Shown.{orders_of, race_of}
use Rattle.law_replay.proofs.Steps.{go-next}
use Rattle.chorus_scene.specs.Scene.{Scene, Script, is_await}
use Rattle.chorus_report.specs.Awaiting.{AwaitsTake, IsStuck}
use Rattle.chorus_report.specs.Setup.{setup_commands}
use Rattle.chorus_explore.specs.Stages.{position}
use Rattle.chorus_explore.proofs.Happening.{events, left-none}
use Rattle.chorus_explore.proofs.Racing.{actor-at}
use Rattle.law_outcomes.specs.Anybody.{ArePlayed, PlaysAreHistories}
use Rattle.law_outcomes.proofs.Asking.{nets-ask, same-acts}
use Rattle.law_outcomes.proofs.Awaiting.{acts_told, behind-front, next-left, order, ordered, own-told, past-end, same-actor, same-own}
use Rattle.law_outcomes.proofs.Beginning.{all-of, come-gives, commands-append, none-given, race-gives, start}
use Rattle.law_outcomes.proofs.Following.{Follows, Gives, Takes, follows}
use Rattle.law_outcomes.proofs.Reading.{reads, script-count}

-- Where no packet is left and no script goes on, nothing may come.

module _ (c : Scene) (ms : List Move) (h : IsHistory (replaying (race_of c)) ms) (empty : (position c ms).net.packets ≡ []) (stops : (i : ℕ) → may_script i (position c ms) ≡ false) where
  none-may : (m : Move) → may_come (race_of c).net.layout m (position c ms) ≡ true → ⊥
  none-may (Go i) may =
      let s = position c ms in
      let both = and_parts (is_ready_by (event_of (race_of c).net.layout seat_0 (Go i) s.left) s.net) (is_now (Go i) s.left s.net) may in
      let next = go-next c i ms may in
      false≢true (sym (stops i) ∙ ap (λ o. is_some o && is_now (Go i) (position c ms).left (position c ms).net) next.1 ∙ both.1)
  none-may (Carry a b) may = by (are_linked (race_of c).net.layout a b) refl
    where
      by : (q : Bool) → are_linked (race_of c).net.layout a b ≡ q → ⊥
      by false e = false≢true (sym (ap (λ (x : Bool). is_ready_by (cond x (Some (Deliver 0 a b)) None) (position c ms).net && true) e) ∙ may)
      by true e =
          let ready = (and_parts (is_ready (Deliver 0 a b) (position c ms).net) true (sym (ap (λ (x : Bool). is_ready_by (cond x (Some (Deliver 0 a b)) None) (position c ms).net && true) e) ∙ may)).0 in
          let two = and_parts (is_some (slice_get (position c ms).net.callers 0)) (is_some (first_on a b (position c ms).net.packets)) ready in
          false≢true (sym (ap (λ us. is_some (first_on a b us)) empty) ∙ two.1)

  none-next : next_behind (race_of c) ms ≡ []
  none-next = by (next_behind (race_of c) ms) refl
    where
      by : (xs : List Move) → next_behind (race_of c) ms ≡ xs → xs ≡ []
      by [] e = refl
      by (m ∷ xs) e = absurd (none-may m ((lists-next (race_of c) (position c ms) m).1 (subst (λ (ys : List Move). Contains ys m) (sym e) (here m xs))))

no-packets : (us : List Outgoing) → map unclocked us ≡ [] → us ≡ []
no-packets [] e = refl
no-packets (u ∷ us) e = absurd (cc)

module _ (c : Scene) (es : List Event) (p : ArePlayed c es) where
  abbrev old : List Event
  old = p.setup ++ reverse (map coming p.comers)

  -- seat 0 performed the setup, and nothing else
  set-up : commands_of 0 p.setup ≡ reverse (setup_commands c)
  set-up =
      let come = reverse (map coming p.comers) in
      sym
      (ap (λ xs. xs ++ commands_of 0 (p.setup ++ come)) (none-given 0 p.race (all-of race-gives p.race p.of_race))
      ∙ commands-append 0 p.setup come ∙ ap (λ xs. commands_of 0 p.setup ++ xs) (come-gives p.comers 0) ∙ append-nil (commands_of 0 p.setup))
      ∙ sym (commands-append 0 p.race (p.setup ++ come)) ∙ ap (commands_of 0) (sym p.is) ∙ p.gave 0

  gave-of : (i : ℕ) (o : Option Script) → slice_get c.scripts i ≡ o → commands_of (suc i) es ≡ reverse (unwrap_or (option_map (λ (s : Script). take (slice_index_or p.done i 0) s.commands) o) [])
  gave-of i o there = p.gave (suc i) ∙ ap (λ x. reverse (unwrap_or (option_map (λ (s : Script). take (slice_index_or p.done i 0) s.commands) x) [])) there

  gives : Gives c old p.race
  gives = record {
    some = λ i script there.
        (let n = slice_index_or p.done i 0 in
        let front : reverse (commands_of (suc i) (p.race ++ old)) ≡ take (slice_index_or p.done i 0) script.commands =
        ap (λ xs. reverse (commands_of (suc i) xs)) (sym p.is) ∙ ap reverse (gave-of i (Some script) there) ∙ reverse-reverse (take n script.commands) in
        (drop n script.commands, sym (take-append-drop n script.commands) ∙ ap (λ xs. xs ++ drop n script.commands) (sym front)));
    none = λ i there. ap (commands_of (suc i)) (sym p.is) ∙ gave-of i None there;
  }

  module _ (shape : IsLayout c.layout) where
    takes : Takes c old p.race
    takes i script there =
        subst (AwaitsTake script.waits 0) (own-told c.layout (suc i) es shape p.may ∙ ap (λ xs. acts_told (answered_by c.layout (suc i) xs)) p.is)
        (p.stands i script there).taken

    followed : Follows c old p.race
    followed = follows c old p.race (subst (λ xs. may_be c.layout xs ≡ true) p.is p.may) p.of_race gives takes (start c p.comers p.setup p.of_setup p.came set-up)

    -- A script goes on no more: none of its commands is left, or the next one waits.
    module _ (ms : List Move) (h : IsHistory (replaying (race_of c)) ms) (nets : NetsAlike ActAlike (length c.scripts) (schedule c.layout es) (position c ms).net)
        (gave : (i : ℕ) → commands_of (suc i) (events c ms) ≡ commands_of (suc i) es) where
      next-is : (i : ℕ) (script : Script) → slice_get c.scripts i ≡ Some script → next_of (slice_get (position c ms).left i) ≡ slice_get (orders_of script) (slice_index_or p.done i 0)
      next-is i script there =
          let n = slice_index_or p.done i 0 in
          next-left c i script there ms h
          ∙ ap (λ (xs : List Command). slice_get (orders_of script) (length xs)) (gave i ∙ gave-of i (Some script) there)
          ∙ ap (slice_get (orders_of script)) (length-reverse (take n script.commands)) ∙ behind-front script.waits 0 n script.commands

      waits : (i : ℕ) (script : Script) → slice_get c.scripts i ≡ Some script → IsStuck c.layout script (slice_index_or p.done i 0) (merged_past (schedule c.layout es)) → may_script i (position c ms) ≡ false
      waits i script there stuck =
          let s = position c ms in
          let n = schedule c.layout es in
          let d = Command.Take stuck.port in
          let is : next_of (slice_get (position c ms).left i) ≡ Some (order (Command.Take stuck.port) (is_await script.waits (slice_index_or p.done i 0))) =
          next-is i script there ∙ ordered script (slice_index_or p.done i 0) d stuck.is in
          let event : event_of (race_of c).net.layout seat_0 (Go i) (position c ms).left ≡ Some (Act (suc i) (Command.Take stuck.port)) = ap (option_map (λ (x : Order). Act (suc i) x.command)) is in
          let low : 1 ≤ suc i = omega arith in
          let high : suc i ≤ length c.scripts = slice_get_within c.scripts i script there in
          let who : actor_of (schedule c.layout es) (suc i) ≡ Some script.actor =
          same-actor (slice_get n.callers (suc i)) (slice_get s.net.callers (suc i)) (nets.callers (suc i) low high) ∙ actor-at c ms h i script there in
          let now : is_now (Go i) (position c ms).left (position c ms).net ≡ false =
          now-same (race_of c).net.layout seat_0 (Go i) s.left (Act (suc i) d) s.net n event (same-own (length c.scripts) (suc i) d n s.net nets low high)
          ∙ ap (λ o. may_now o i (schedule c.layout es)) is ∙ ap (λ b. not b || would_take (suc i) (Command.Take stuck.port) (schedule c.layout es)) stuck.waits
          ∙ would-take-is-gives c.layout es shape p.may (suc i) script.actor stuck.port who ∙ stuck.nothing in
          ap (λ o. is_some o && is_now (Go i) (position c ms).left (position c ms).net) is ∙ now

      stops : (i : ℕ) → may_script i (position c ms) ≡ false
      stops i = by (slice_get c.scripts i) refl
        where
          by : (o : Option Script) → slice_get c.scripts i ≡ o → may_script i (position c ms) ≡ false
          by None there = ap (λ o. is_some (next_of o) && may_now (next_of o) i (position c ms).net) (left-none c i ms h there)
          by (Some script) there =
              elim ((p.stands i script there).left) [
                | inl none ↦ ap (λ o. is_some o && may_now o i (position c ms).net) (next-is i script there ∙ past-end script.waits 0 (slice_index_or p.done i 0) script.commands none)
                | inr stuck ↦ waits i script there stuck
              ]

pub plays-are-histories : PlaysAreHistories
plays-are-histories c es closed shape keeps p left =
    let w = followed c es p shape in
    let n = schedule c.layout es in
    let m = (position c w.moves).net in
    let nets : NetsAlike ActAlike (length c.scripts) (schedule c.layout es) (position c w.moves).net =
    subst (λ xs. NetsAlike ActAlike (length c.scripts) (schedule c.layout xs) (position c w.moves).net) (sym p.is) w.nets in
    let empty : (position c w.moves).net.packets ≡ [] = no-packets (position c w.moves).net.packets (sym nets.packets ∙ ap (map unclocked) p.ended) in
    let gave : (i : ℕ) → commands_of (suc i) (events c w.moves) ≡ commands_of (suc i) es = λ i. w.gave i ∙ ap (commands_of (suc i)) (sym p.is) in
    let told = (position c w.moves).told in
    record {
      moves = w.moves;
      whole = (w.history, none-next c w.moves w.history empty (stops c es p shape w.moves w.history nets gave));
      reads = reads c es shape p.may w.moves closed w.history left (λ i. w.told i ∙ ap (answered_by c.layout (suc i)) (sym p.is)) (w.served ∙ ap (λ xs. length (worked_off c.layout xs)) (sym p.is))
          (outcomes ActAlike acts-tell (race_of c).scripts (position c w.moves).left told n.places m.places nets.places)
          (nets-tell-the-same (race_of c).scripts (position c w.moves).left told n m
          (subst (λ (count : ℕ). NetsAlike (AskAlike true) count n m) (sym (script-count c)) (nets-ask (length c.scripts) n m nets)))
          (same-acts n.places m.places nets.places);
    }
