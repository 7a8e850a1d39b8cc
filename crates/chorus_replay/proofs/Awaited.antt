-- Where a replay is over, each await that was done received a message, and each script that is left is stuck.
-- c is a scenario, k the number of a script, i its place, es are events, the latest first.
use Rattle.std.proofs.Common.{ℕ, zero, suc, ◌≡◌, ◌≢◌, ◌+◌, ◌-◌, ◌==◌, ◌⊎◌, Bool, true, false, not, ◌||◌, List, [], ◌∷◌, ◌++◌, length, take, drop, reverse, get_or, Option, Some, None, slice_get, refl, sym, ◌∙◌, ap, subst, inl, inr, arith}
use Rattle.std.specs.Prelude.{slice_index_or}
use Rattle.std.specs.Option.{option_map}
use Rattle.std.proofs.lemmas.Bool.{and_from, eqb-true, eq-eqb, false≢true}
use Rattle.std.proofs.lemmas.Grind.{get_or-set_at}
use Rattle.std.proofs.lemmas.List.{get_or-set_other, length-append}
use Rattle.std.proofs.lemmas.Option.{get_or_from_slice_get, slice_get-map, slice_get_within}
use Rattle.chorus_ui.specs.declared.ui.Ui.{Ui}
use Rattle.chorus_ui.specs.declared.layout.Layout.{Layout}
use Rattle.chorus_ui.specs.Layout.{IsLayout}
use Rattle.chorus_entry.specs.declared.act.Act as acts
use Rattle.chorus_entry.specs.declared.command.Command.{Command}
use Rattle.chorus_entry.specs.declared.entry.Entry.{Entry}
use Rattle.chorus_entry.specs.Places.{place_for}
use Rattle.chorus_world.specs.Ports.{fate}
use Rattle.chorus_world.specs.Views.{on}
use Rattle.chorus_calls.specs.Callers.{Seated}
use Rattle.law_awaits.specs.Awaits.{is_taken, takes_by, would_take, gives, own_acts}
use Rattle.law_awaits.proofs.Gives.{would-take-is-gives}
use Rattle.law_awaits.proofs.Owned.{own-more, own-still, own-delivered, own-drained, none-given, own-merged}
use Rattle.law_machine.specs.Own.{own}
use Rattle.law_network.specs.History.{history}
use Rattle.law_network.specs.Left.{merged_past}
use Rattle.law_network.specs.Network.{NetState, Event, Act, Deliver, turn_for, schedule}
use Rattle.law_network.specs.Schedules.{may_give, may_happen, may_be, commands_of}
use Rattle.law_network.specs.Stands.{actor_of}
use Rattle.law_network.specs.Tasks.{Task, Do, Drain, CarryOut, MayAll, commands_in}
use Rattle.law_network.proofs.Draining.Drains.{carried-out-once, carried-commands}
use Rattle.law_network.proofs.Events.InOrder.{in-order}
use Rattle.chorus_scene.specs.declared.scenario.Step.TheVariants as steps
use Rattle.chorus_scene.specs.Scene.{Scene, Script, is_await}
use Rattle.chorus_scene.specs.Grammar.{script_at, no_script}
use Rattle.chorus_scene.specs.Limits.{Keeps, is_take, waits_keep}
use Rattle.chorus_scene.proofs.Waits.{awaits_take}
use Rattle.chorus_report.specs.Awaiting.{AwaitsTake, IsStuck, StandsAt}
use Rattle.chorus_report.specs.Headline.{callers_of}
use Rattle.chorus_replay.specs.Waiting.{Phase, InSchedule, InRound, BehindRound, Standing, Follows, Begins, Then, ComesIn, GoesOn, Does, Tells, IsOver, IsScript, done_by, may_by, may_go_on, next_command, one_more, opened}
use Rattle.chorus_replay.proofs.Callers.{AreComers, callers-given}
use Rattle.chorus_replay.proofs.May.{all-get}
use Rattle.chorus_replay.proofs.Needs.{carried-may}
use Rattle.chorus_replay.proofs.Standings.{script-at, Core, PhaseFits, comers-of, core-act, core-may, good, zeros}

-- One act more.

await-push : (waits : List ℕ) (i : ℕ) (ys : List acts.Act) (a : acts.Act) → AwaitsTake waits i ys → (is_await waits (i + length ys) ≡ true → is_taken a ≡ true) → AwaitsTake waits i (ys ++ a ∷ [])
await-push waits i [] a h t = (λ e. t (ap (is_await waits) (same i) ∙ e), tt)
  where
    same : (i : ℕ) → i + 0 ≡ i
    same i = omega arith
await-push waits i (b ∷ bs) a h t = (h.0, await-push waits (i + 1) bs a h.1 (λ e. t (ap (is_await waits) (later i (length bs)) ∙ e)))
  where
    later : (i n : ℕ) → i + suc n ≡ i + 1 + n
    later i n = omega arith

-- what may go on and waits would be answered by a message
waits-taken : (waits : Bool) (k : ℕ) (command : Command) (n : NetState) → may_by waits k (Some command) n ≡ true → waits ≡ true → would_take k command n ≡ true
waits-taken true k command n h e = h
waits-taken false k command n h e = absurd (false≢true e)

some-caller : (o : Option Seated) (c : Command) → may_give o c ≡ true → (x : Seated) × (o ≡ Some x)
some-caller None c h = absurd (false≢true h)
some-caller (Some x) c h = (x, refl)

module _ (c : Scene) (shape : IsLayout c.layout) (keeps : Keeps c) where
  abbrev l : Layout
  l = c.layout

  -- of a script: its own acts are as many as were done, and its awaits received
  pub record Taken (k : ℕ) (done : List ℕ) (es : List Event) : Type 0 where
    pub took : AwaitsTake (script_at k c.scripts).waits 0 (own_acts k (history l es))
    pub many : length (own_acts k (history l es)) ≡ done_by done k

  abbrev AllTaken : List ℕ → List Event → Type 0
  AllTaken done es = (k : ℕ) → IsScript c k → Taken k done es

  same-acts : (k : ℕ) (done : List ℕ) (es fs : List Event) → own_acts k (history l fs) ≡ own_acts k (history l es) → Taken k done es → Taken k done fs
  same-acts k done es fs e h = record {
    took = subst (AwaitsTake (script_at k c.scripts).waits 0) (sym e) h.took;
    many = ap length e ∙ h.many;
  }

  -- a command that may go on
  acts-on : (s : Standing) (core : Core c s.tasks s.done) (k : ℕ) (of : IsScript c k) (command : Command) → next_command c s.done k ≡ Some command → Tells c k s true → MayAll l (Do (Act k command) ∷ s.tasks)
      → (es : List Event) → CarryOut l s.tasks es → AllTaken s.done es → AllTaken (one_more k s.done) (Act k command ∷ es)
  acts-on s core k of command next tells may es out h j in-range = by (k == j) refl
    where
      n : NetState
      n = schedule l es

      may-older : may_be l es ≡ true
      may-older = carried-may l s.tasks es shape may.1 out

      gives-it : may_happen (Act k command) n ≡ true
      gives-it = may.0 es out

      may-now : may_be l (Act k command ∷ es) ≡ true
      may-now = and_from (may_happen (Act k command) n) (may_be l es) gives-it may-older

      goes : may_by (is_await (script_at k c.scripts).waits (done_by s.done k)) k (Some command) n ≡ true
      goes =
          ap (λ o. may_by (is_await (script_at k c.scripts).waits (done_by s.done k)) k o n) (sym next)
          ∙ ap (may_go_on c s.done k) (carried-out-once l s.tasks es tells.events out tells.carried) ∙ tells.is

      caller : (x : Seated) × (slice_get n.callers k ≡ Some x)
      caller = some-caller (slice_get n.callers k) command gives-it

      by : (b : Bool) → (k == j) ≡ b → Taken j (one_more k s.done) (Act k command ∷ es)
      by true e = subst (λ i. Taken i (one_more k s.done) (Act k command ∷ es)) (eqb-true k j e) own-one
        where
          a : acts.Act
          a = own command (turn_for command caller.0 n)

          more : own_acts k (history l (Act k command ∷ es)) ≡ own_acts k (history l es) ++ a ∷ []
          more = own-more l shape es k command caller.0 may-older caller.1

          was : Taken k s.done es
          was = h k of

          count : get_or (one_more k s.done) (k - 1) 0 ≡ done_by s.done k + 1
          count = get_or-set_at s.done (k - 1) (k - 1) (done_by s.done k + 1) 0 refl (let len = core.len in omega (arith, of.0, of.1, len))

          took : is_await (script_at k c.scripts).waits (0 + length (own_acts k (history l es))) ≡ true → is_taken a ≡ true
          took waits =
              let here : 0 + length (own_acts k (history l es)) ≡ done_by s.done k = (let m = was.many in omega (arith, m)) in
              let would = waits-taken (is_await (script_at k c.scripts).waits (done_by s.done k)) k command n goes (ap (is_await (script_at k c.scripts).waits) (sym here) ∙ waits) in
              ap (takes_by command n) (sym caller.1) ∙ would

          own-one : Taken k (one_more k s.done) (Act k command ∷ es)
          own-one = record {
            took = subst (AwaitsTake (script_at k c.scripts).waits 0) (sym more) (await-push (script_at k c.scripts).waits 0 (own_acts k (history l es)) a was.took took);
            many = ap length more ∙ length-append (own_acts k (history l es)) (a ∷ []) ∙ (let m = was.many in omega (arith, m, count));
          }
      by false e =
          let ne : k ≢ j = λ same. false≢true (sym e ∙ eq-eqb k j same) in
          let away : j - 1 ≢ k - 1 = λ same. ne (omega (arith, same, of.0, in-range.0)) in
          let was = h j in-range in
          record {
            took = subst (AwaitsTake (script_at j c.scripts).waits 0) (sym (own-still l shape es j k command may-now ne)) was.took;
            many = ap length (own-still l shape es j k command may-now ne) ∙ was.many ∙ sym (get_or-set_other s.done (k - 1) (j - 1) (done_by s.done k + 1) 0 away);
          }

  delivers-on : (done : List ℕ) (a b : ℕ) (es : List Event) → AllTaken done es → AllTaken done (Deliver 0 a b ∷ es)
  delivers-on done a b es h j of = same-acts j done es (Deliver 0 a b ∷ es) (own-delivered l shape es j 0 a b) (h j of)

  drains-on : (ts : List Task) (done : List ℕ) (es : List Event) → (out : CarryOut l (Drain 0 ∷ ts) es) → AllTaken done out.0 → AllTaken done es
  drains-on ts done es out h j of =
      let d = out.1.0 in
      same-acts j done out.0 es (ap (λ fs. own_acts j (history l fs)) d.rounds ∙ own-drained l shape out.0 j 0 d.count) (h j of)

  abbrev Holds : Standing → Type 0
  Holds s = (es : List Event) → CarryOut l s.tasks es → AllTaken s.done es

  moved : (ts us : List Task) (done new : List ℕ) → us ≡ ts → new ≡ done → ((es : List Event) → CarryOut l ts es → AllTaken done es) → (es : List Event) → CarryOut l us es → AllTaken new es
  moved ts us done new e f h es out = subst (λ d. AllTaken d es) (sym f) (h es (subst (λ z. CarryOut l z es) e out))

  goes-on : (s : Standing) → Core c s.tasks s.done → (k : ℕ) → IsScript c k → (command : Command) → next_command c s.done k ≡ Some command → Tells c k s true → Holds s → (es : List Event) → CarryOut l (Do (Act k command) ∷ s.tasks) es → AllTaken (one_more k s.done) es
  goes-on s core k of command next tells h es out =
      let may = core-may c shape keeps (Do (Act k command) ∷ s.tasks) (one_more k s.done) (core-act c shape keeps s.tasks s.done core k of command next) in
      subst (AllTaken (one_more k s.done)) (sym out.1.0) (acts-on s core k of command next tells may out.0 out.1.1 (h out.0 out.1.1))

  holds-step : (s t : Standing) (phase : Phase) → Core c s.tasks s.done → PhaseFits c phase → ComesIn c phase s t → Holds s → Holds t
  holds-step s t (InSchedule []) core fits x h = moved s.tasks t.tasks s.done t.done x.0.tasks x.0.done h
  holds-step s t (InSchedule (steps.Step k ∷ ahead)) core fits x h = by x.0
    where
      by : GoesOn c k [] s t ⊎ (Tells c k s false × Does [] s t) → Holds t
      by (inl g) = moved (Do (Act k g.command) ∷ s.tasks) t.tasks (one_more k s.done) t.done g.tasks g.done (goes-on s core k fits.0 g.command g.is g.may h)
      by (inr d) = moved s.tasks t.tasks s.done t.done d.1.tasks d.1.done h
  holds-step s t (InSchedule (steps.Deliver a b ∷ ahead)) core fits x h =
      moved (Do (Deliver 0 a b) ∷ s.tasks) t.tasks s.done t.done x.0.tasks x.0.done (λ es out. subst (AllTaken s.done) (sym out.1.0) (delivers-on s.done a b out.0 (h out.0 out.1.1)))
  holds-step s t (InSchedule (steps.Drain ∷ ahead)) core fits x h =
      moved (Drain 0 ∷ s.tasks) t.tasks s.done t.done x.0.tasks x.0.done (λ es out. drains-on s.tasks s.done es out (h out.0 out.1.1))
  holds-step s t (InRound []) core fits x h =
      moved (Drain 0 ∷ s.tasks) t.tasks s.done t.done x.0.tasks x.0.done (λ es out. drains-on s.tasks s.done es out (h out.0 out.1.1))
  holds-step s t (InRound (k ∷ ahead)) core fits (inl g) h =
      let m = g.0 in
      moved (Drain 0 ∷ Do (Act k m.command) ∷ s.tasks) t.tasks (one_more k s.done) t.done m.tasks m.done
      (λ es out. drains-on (Do (Act k m.command) ∷ s.tasks) (one_more k s.done) es out (goes-on s core k fits.0 m.command m.is m.may h out.0 out.1.1))
  holds-step s t (InRound (k ∷ ahead)) core fits (inr d) h = moved s.tasks t.tasks s.done t.done d.1.tasks d.1.done h
  holds-step s t BehindRound core fits x h = moved s.tasks t.tasks s.done t.done x.1.tasks x.1.done h

  opening-holds : Holds (opened c)
  opening-holds es out k of =
      let core = (good c shape keeps (opened c) Begins).core in
      let at = script-at c k of in
      let may = carried-may l (opened c).tasks es shape (core-may c shape keeps (opened c).tasks (opened c).done core) out in
      let zero-done : get_or (opened c).done at.place 0 ≡ 0 = zeros c.scripts at.place in
      let given : commands_of k es ≡ [] = carried-commands l k (opened c).tasks es out ∙ ap (λ j. commands_in j (opened c).tasks) at.is
      ∙ (core.given at.place (script_at k c.scripts) at.found).0 ∙ ap (λ m. reverse (take m (script_at k c.scripts).commands)) zero-done in
      let none = none-given l shape es k may given in
      record {
        took = subst (AwaitsTake (script_at k c.scripts).waits 0) (sym none) tt;
        many = ap length none ∙ sym (ap (λ i. get_or (opened c).done i 0) at.less ∙ zero-done);
      }

  holds : (s : Standing) → Follows c (opened c) s → Holds s
  holds _ Begins = opening-holds
  holds _ (Then t u f x) = (let g = good c shape keeps t f in holds-step t u t.phase g.core g.phase x (holds t f))

  -- What is left.

  not-waits : (b w : Bool) → (not b || w) ≡ false → (b ≡ true) × (w ≡ false)
  not-waits true w h = (refl, h)
  not-waits false w h = absurd (false≢true (sym h))

  is-take : (o : Option Command) → is_take o ≡ true → (port : Ui) × (o ≡ Some (Command.Take port))
  is-take (Some (Command.Take port)) h = (port, refl)
  is-take _ h = absurd (false≢true h)

  past-end : (xs : List Command) (i : ℕ) → slice_get xs i ≡ None → drop i xs ≡ []
  past-end [] zero h = refl
  past-end [] (suc i) h = refl
  past-end (x ∷ xs) zero h = absurd (cc)
  past-end (x ∷ xs) (suc i) h = past-end xs i h

  module _ (s : Standing) (f : Follows c (opened c) s) (over : IsOver c s) (es : List Event) (out : CarryOut l s.tasks es) (past : List Entry) (is : past ≡ merged_past (schedule l es)) where
    abbrev n : NetState
    n = schedule l es

    core : Core c s.tasks s.done
    core = (good c shape keeps s f).core

    may : may_be l es ≡ true
    may = carried-may l s.tasks es shape (core-may c shape keeps s.tasks s.done core) out

    come : AreComers s.tasks (callers_of c)
    come = comers-of c shape keeps s.tasks s.done core

    left-at : (k : ℕ) (of : IsScript c k) → (actor_of n k ≡ Some (script_at k c.scripts).actor) → (drop (done_by s.done k) (script_at k c.scripts).commands ≡ []) ⊎ IsStuck l (script_at k c.scripts) (done_by s.done k) past
    left-at k of who = by (next_command c s.done k) refl
      where
        script : Script
        script = script_at k c.scripts

        d : ℕ
        d = done_by s.done k

        stops : may_go_on c s.done k n ≡ false
        stops = (let t = over.none k of in ap (may_go_on c s.done k) (carried-out-once l s.tasks es t.events out t.carried) ∙ t.is)

        by : (o : Option Command) → next_command c s.done k ≡ o → (drop d script.commands ≡ []) ⊎ IsStuck l script d past
        by None e = inl (past-end script.commands d e)
        by (Some command) e =
            let two = not-waits (is_await script.waits d) (would_take k command n) (ap (λ o. may_by (is_await script.waits d) k o n) (sym e) ∙ stops) in
            let at = script-at c k of in
            let take = is-take (slice_get script.commands d) (awaits_take c.version script d (all-get (waits_keep c.version) c.scripts at.place script keeps.waits at.found) two.0) in
            let port : Ui = take.0 in
            let same : command ≡ Command.Take port = (let both : Some command ≡ Some (Command.Take port) = sym e ∙ take.1 in cc) in
            inr (record {
              waits = two.0;
              port = port;
              is = take.1;
              nothing = ap (λ p. gives (place_for l script.actor (Command.Take port)) script.actor (fate (on port p))) is
                  ∙ sym (would-take-is-gives l es shape may k script.actor port who) ∙ ap (λ x. would_take k x n) (sym same) ∙ two.1;
            })

    pub stands : (i : ℕ) (script : Script) → slice_get c.scripts i ≡ Some script → StandsAt l script (suc i) (slice_index_or s.done i 0) past
    stands i script at =
        let k = suc i in
        let less : k - 1 ≡ i = one-less i in
        let of : IsScript c k = (omega arith, slice_get_within c.scripts i script at) in
        let same : script_at k c.scripts ≡ script = ap (λ m. get_or c.scripts m no_script) less ∙ get_or_from_slice_get c.scripts i script no_script at in
        let t = holds s f es out k of in
        let count : done_by s.done k ≡ get_or s.done i 0 = ap (λ m. get_or s.done m 0) less in
        let who : actor_of n k ≡ Some (script_at k c.scripts).actor =
        callers-given l s.tasks (callers_of c) come es out k ∙ slice_get-map (λ (x : Script). x.actor) c.scripts i
        ∙ ap (option_map (λ (x : Script). x.actor)) at ∙ ap (λ (x : Script). Some x.actor) (sym same) in
        let acts_are : own_acts k past ≡ own_acts k (history l es) = ap (own_acts k) is ∙ own-merged n (history l es) (in-order l es shape may).0 k in
        subst (λ (x : Script). StandsAt l x k (get_or s.done i 0) past) same
        (subst (λ m. StandsAt l (script_at k c.scripts) k m past) count
        (record { taken = subst (AwaitsTake (script_at k c.scripts).waits 0) (sym acts_are) t.took; left = left-at k of who }))
      where
        one-less : (i : ℕ) → suc i - 1 ≡ i
        one-less i = omega arith
