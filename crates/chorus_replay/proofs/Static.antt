-- Where nothing waits, the steps of a replay do the tasks that the scenario alone tells.
-- c is a scenario, k the number of a script, s and t say how far a replay has come.
use Rattle.std.proofs.Common.{ℕ, zero, suc, ◌≡◌, ◌≢◌, ◌<◌, ◌≤◌, ◌+◌, ◌-◌, ◌==◌, ◌⊎◌, nat_le, nat_lt, Bool, true, false, ◌&&◌, List, [], ◌∷◌, ◌++◌, length, drop, reverse, get_or, cond, count_by, option_to_list, Option, Some, None, slice_get, refl, sym, ◌∙◌, ap, subst, inl, inr, append-nil, append_assoc, arith}
use Rattle.std.specs.Prelude.{slice_index_or}
use Rattle.std.specs.List.{flat_map}
use Rattle.std.specs.Option.{option_map}
use Rattle.std.proofs.lemmas.Bool.{and_parts, eqb-true, eq-eqb, false≢true, le-ltb, ltb-true, leb-true}
use Rattle.std.proofs.lemmas.Grind.{get_or-set_at}
use Rattle.std.proofs.lemmas.List.{drop_all, get_or-set_other, reverse-append, reverse-reverse, length-drop, length-map, length-set}
use Rattle.std.proofs.lemmas.Option.{slice_get-get_or, slice_get_past}
use Rattle.chorus_ui.specs.declared.layout.Layout.{Layout}
use Rattle.chorus_ui.specs.Layout.{IsLayout}
use Rattle.chorus_entry.specs.declared.command.Command.{Command}
use Rattle.chorus_net.specs.declared.closed.Closed.{Closed}
use Rattle.law_network.specs.Network.{NetState, Act, Deliver, numbers, schedule}
use Rattle.law_network.specs.Tasks.{Task, Do, Drain}
use Rattle.chorus_show.specs.declared.status.Status.{Status}
use Rattle.chorus_scene.specs.declared.scenario.Step as step
use Rattle.chorus_scene.specs.declared.scenario.Step.TheVariants as steps
use Rattle.chorus_scene.specs.Scene.{Scene, Script, HasNoWait, is_await}
use Rattle.chorus_scene.specs.Grammar.{script_at, is_step}
use Rattle.chorus_scene.specs.Limits.{Keeps, step_keeps, schedule_keeps}
use Rattle.chorus_scene.proofs.Kept.{kept}
use Rattle.chorus_scene.proofs.Law.{printed_again}
use Rattle.chorus_net.specs.Closing.{past_of}
use Rattle.chorus_report.specs.Awaiting.{StandsAt, StandsUnless, all_scripts, left_in, left_of, stuck_of}
use Rattle.chorus_show.specs.declared.stuck.Stuck.{Stuck}
use Rattle.chorus_report.proofs.Awaiting.{all-done, none-at}
use Rattle.chorus_replay.specs.Order.{step_tasks, in_schedule, then_drain, left_from, opening_order, order, tasks}
use Rattle.chorus_replay.specs.Ordered.{IsOrdered, NoneStuckUnless, ReplaysWithoutWaits, StuckUnless}
use Rattle.chorus_replay.specs.Performing.{to_follow}
use Rattle.chorus_replay.specs.Waiting.{Phase, InSchedule, InRound, BehindRound, Standing, Follows, Begins, Then, ComesIn, GoesOn, Does, Tells, IsOver, IsOverUnless, IsScript, done_by, may_by, may_go_on, next_command, one_more, opened}
use Rattle.chorus_replay.proofs.Determined.{worn-more}
use Rattle.chorus_replay.proofs.Given.{count-more}
use Rattle.chorus_replay.proofs.Loops.{drop-next}
use Rattle.chorus_replay.proofs.Standings.{script-at, all-fit, PhaseFits, ScriptsFit, good, zeros}

-- Scripts may go on exactly where they are not done.

goes-or-done : (k : ℕ) (o : Option Command) (n : NetState) (b : Bool) → may_by false k o n ≡ b → (b ≡ false → o ≡ None) × (b ≡ true → (command : Command) × (o ≡ Some command))
goes-or-done k None n b h = (λ e. refl, λ e. absurd (false≢true (h ∙ e)))
goes-or-done k (Some command) n b h = (λ e. absurd (false≢true (sym e ∙ sym h)), λ e. (command, refl))

past-end : (xs : List Command) (i : ℕ) → slice_get xs i ≡ None → length xs ≤ i
past-end [] i h = omega arith
past-end (x ∷ xs) zero h = absurd (cc)
past-end (x ∷ xs) (suc i) h = (let r = past-end xs i h in omega (arith, r))

-- What is left to be done, where nothing waits.

abbrev by_next : ℕ → Option Command → List Task → List Task → List Task
by_next k None more same = same
by_next k (Some command) more same = Do (Act k command) ∷ more

abbrev left_by : Scene → List ℕ → ℕ → List Command
left_by c done k = drop (done_by done k) (script_at k c.scripts).commands

abbrev rounds_of : Scene → List ℕ → List ℕ → List Task
rounds_of c done [] = Drain 0 ∷ []
rounds_of c done (k ∷ ks) = then_drain k (left_by c done k) ++ rounds_of c done ks

abbrev scheduled : Scene → List ℕ → List step.Step → List Task
scheduled c done [] = rounds_of c done (all_scripts c)
scheduled c done (steps.Step k ∷ ahead) = by_next k (next_command c done k) (scheduled c (one_more k done) ahead) (scheduled c done ahead)
scheduled c done (steps.Deliver a b ∷ ahead) = Do (Deliver 0 a b) ∷ scheduled c done ahead
scheduled c done (steps.Drain ∷ ahead) = Drain 0 ∷ scheduled c done ahead

abbrev rest_of : Scene → List ℕ → Phase → List Task
rest_of c done (InSchedule ahead) = scheduled c done ahead
rest_of c done (InRound ahead) = rounds_of c done ahead
rest_of c done BehindRound = []

-- one task moves from what is left to what was done
shift : (t : Task) (ts rest : List Task) → reverse ts ++ (t ∷ rest) ≡ reverse (t ∷ ts) ++ rest
shift t ts rest = sym (ap (λ z. z ++ rest) (reverse-append (t ∷ []) ts) ∙ append_assoc (reverse ts) (t ∷ []) rest)

-- Counts.

one-more-own : (k : ℕ) (done : List ℕ) → 1 ≤ k → k ≤ length done → done_by (one_more k done) k ≡ done_by done k + 1
one-more-own k done low high = get_or-set_at done (k - 1) (k - 1) (done_by done k + 1) 0 refl (omega (arith, low, high))

one-more-other : (k j : ℕ) (done : List ℕ) → 1 ≤ k → 1 ≤ j → j ≢ k → done_by (one_more k done) j ≡ done_by done j
one-more-other k j done low some ne = get_or-set_other done (k - 1) (j - 1) (done_by done k + 1) 0 (λ same. ne (omega (arith, low, some, same)))

module _ (c : Scene) (keeps : Keeps c) (none : HasNoWait c) where
  no-await : (k : ℕ) → IsScript c k → (i : ℕ) → is_await (script_at k c.scripts).waits i ≡ false
  no-await k of i = (let at = script-at c k of in ap (λ (ws : List ℕ). is_await ws i) (none-at c.scripts at.place (script_at k c.scripts) none at.found))

  -- a script that may not go on is done
  is-done : (k : ℕ) (s : Standing) → IsScript c k → Tells c k s false → length (script_at k c.scripts).commands ≤ done_by s.done k
  is-done k s of t =
      past-end (script_at k c.scripts).commands (done_by s.done k)
      ((goes-or-done k (next_command c s.done k) (schedule c.layout t.events) false (ap (λ b. may_by b k (next_command c s.done k) (schedule c.layout t.events)) (sym (no-await k of (done_by s.done k))) ∙ t.is)).0 refl)

  -- Numbers of scripts.

  abbrev N : ℕ
  N = length c.scripts

  -- those below are done
  abbrev DoneBelow : ℕ → List ℕ → Type 0
  DoneBelow p done = (k : ℕ) → IsScript c k → k < p → length (script_at k c.scripts).commands ≤ done_by done k

  abbrev Fits : Phase → List ℕ → Type 0
  Fits (InSchedule ahead) done = Unit {0}
  Fits (InRound ahead) done = (p : ℕ) × ((1 ≤ p) × ((p ≤ N + 1) × ((ahead ≡ numbers (N + 1 - p) p) × DoneBelow p done)))
  Fits BehindRound done = DoneBelow (N + 1) done

  first-of : (m p k : ℕ) (ks : List ℕ) → k ∷ ks ≡ numbers m p → (k ≡ p) × ((less : ℕ) × ((m ≡ suc less) × (ks ≡ numbers less (p + 1))))
  first-of zero p k ks h = absurd (cc)
  first-of (suc m) p k ks h = (cc, (m, (refl, cc)))

  none-of : (m p : ℕ) → [] ≡ numbers m p → m ≡ 0
  none-of zero p h = refl
  none-of (suc m) p h = absurd (cc)

  -- a command more of another script leaves what these have left
  rounds-other : (m p k : ℕ) (done : List ℕ) → 1 ≤ k → k < p → rounds_of c (one_more k done) (numbers m p) ≡ rounds_of c done (numbers m p)
  rounds-other zero p k done low lt = refl
  rounds-other (suc m) p k done low lt =
      ap (λ d. then_drain p (drop d (script_at p c.scripts).commands) ++ rounds_of c (one_more k done) (numbers m (p + 1))) (one-more-other k p done low (omega (arith, low, lt)) (λ same. omega (arith, lt, same)))
      ∙ ap (λ z. then_drain p (left_by c done p) ++ z) (rounds-other m (p + 1) k done low (omega (arith, lt)))

  next-left : (done : List ℕ) (k : ℕ) (command : Command) → next_command c done k ≡ Some command → left_by c done k ≡ command ∷ drop (done_by done k + 1) (script_at k c.scripts).commands
  next-left done k command h = drop-next (script_at k c.scripts).commands (done_by done k) command h

  -- The order is what was done and what is left.

  pub record Whole (s : Standing) : Type 0 where
    pub is : order c ≡ reverse s.tasks ++ rest_of c s.done s.phase
    pub fits : Fits s.phase s.done

  whole-at : (t : Standing) (ts : List Task) (done : List ℕ) (phase : Phase) → t.tasks ≡ ts → t.done ≡ done → t.phase ≡ phase → order c ≡ reverse ts ++ rest_of c done phase → Fits phase done → Whole t
  whole-at t ts done phase a b e is fits =
      let same : t ≡ record { tasks = ts; done = done; phase = phase } = λ i. record { tasks = a i; done = b i; phase = e i } in
      subst Whole (sym same) (record { is = is; fits = fits })

  whole-step : (s t : Standing) (phase : Phase) → length s.done ≡ N → PhaseFits c phase → order c ≡ reverse s.tasks ++ rest_of c s.done phase → Fits phase s.done → ComesIn c phase s t → Whole t
  whole-step s t (InSchedule []) len range is fits x =
      let same : N + 1 - 1 ≡ N = omega arith in
      whole-at t s.tasks s.done (InRound (all_scripts c)) x.0.tasks x.0.done x.1 is
      (1, (omega arith, (omega arith, (ap (λ m. numbers m 1) (sym same), λ k of lt. absurd (omega (arith, lt, of.0))))))
  whole-step s t (InSchedule (steps.Step k ∷ ahead)) len range is fits x = by x.0
    where
      by : GoesOn c k [] s t ⊎ (Tells c k s false × Does [] s t) → Whole t
      by (inl g) =
          whole-at t (Do (Act k g.command) ∷ s.tasks) (one_more k s.done) (InSchedule ahead) g.tasks g.done x.1
          (is ∙ ap (λ o. reverse s.tasks ++ by_next k o (scheduled c (one_more k s.done) ahead) (scheduled c s.done ahead)) g.is
          ∙ shift (Do (Act k g.command)) s.tasks (scheduled c (one_more k s.done) ahead)) tt
      by (inr d) =
          let over = is-done k s range.0 d.0 in
          whole-at t s.tasks s.done (InSchedule ahead) d.1.tasks d.1.done x.1
          (is ∙ ap (λ o. reverse s.tasks ++ by_next k o (scheduled c (one_more k s.done) ahead) (scheduled c s.done ahead)) (slice_get_past (script_at k c.scripts).commands (done_by s.done k) over)) tt
  whole-step s t (InSchedule (steps.Deliver a b ∷ ahead)) len range is fits x =
      whole-at t (Do (Deliver 0 a b) ∷ s.tasks) s.done (InSchedule ahead) x.0.tasks x.0.done x.1 (is ∙ shift (Do (Deliver 0 a b)) s.tasks (scheduled c s.done ahead)) tt
  whole-step s t (InSchedule (steps.Drain ∷ ahead)) len range is fits x =
      whole-at t (Drain 0 ∷ s.tasks) s.done (InSchedule ahead) x.0.tasks x.0.done x.1 (is ∙ shift (Drain 0) s.tasks (scheduled c s.done ahead)) tt
  whole-step s t (InRound []) len range is fits x =
      let p = fits.0 in
      let last = none-of (N + 1 - p) p fits.1.1.1.0 in
      whole-at t (Drain 0 ∷ s.tasks) s.done BehindRound x.0.tasks x.0.done x.1 (is ∙ shift (Drain 0) s.tasks [])
      (λ k of lt. fits.1.1.1.1 k of (let high = fits.1.1.0 in omega (arith, last, lt, high)))
  whole-step s t (InRound (k ∷ ahead)) len range is fits (inl g) =
      let m = g.0 in
      let p = fits.0 in
      let parts = first-of (N + 1 - p) p k ahead fits.1.1.1.0 in
      let same : k ≡ p = parts.0 in
      let less = parts.1.0 in
      let of = range.0 in
      let d = done_by s.done k in
      let cmds = (script_at k c.scripts).commands in
      let own = one-more-own k s.done of.0 (omega (arith, of.1, len)) in
      let others : rounds_of c (one_more k s.done) ahead ≡ rounds_of c s.done ahead =
      ap (rounds_of c (one_more k s.done)) parts.1.1.1 ∙ rounds-other less (p + 1) k s.done of.0 (omega (arith, same)) ∙ sym (ap (rounds_of c s.done) parts.1.1.1) in
      let now : then_drain k (left_by c s.done k) ++ rounds_of c s.done ahead ≡ Do (Act k m.command) ∷ Drain 0 ∷ rounds_of c (one_more k s.done) (k ∷ ahead) =
      ap (λ cs. then_drain k cs ++ rounds_of c s.done ahead) (next-left s.done k m.command m.is)
      ∙ ap (λ z. Do (Act k m.command) ∷ Drain 0 ∷ (then_drain k (drop (d + 1) cmds) ++ z)) (sym others)
      ∙ ap (λ n. Do (Act k m.command) ∷ Drain 0 ∷ (then_drain k (drop n cmds) ++ rounds_of c (one_more k s.done) ahead)) (sym own) in
      whole-at t (Drain 0 ∷ Do (Act k m.command) ∷ s.tasks) (one_more k s.done) (InRound (k ∷ ahead)) m.tasks m.done g.1
      (is ∙ ap (λ z. reverse s.tasks ++ z) now
      ∙ shift (Do (Act k m.command)) s.tasks (Drain 0 ∷ rounds_of c (one_more k s.done) (k ∷ ahead))
      ∙ shift (Drain 0) (Do (Act k m.command) ∷ s.tasks) (rounds_of c (one_more k s.done) (k ∷ ahead))) (
        p,
        (
          fits.1.0,
          (
            fits.1.1.0,
            (
              fits.1.1.1.0,
              λ j in-range lt. subst (λ n. length (script_at j c.scripts).commands ≤ n) (sym (one-more-other k j s.done of.0 in-range.0 (λ e. omega (arith, lt, e, same)))) (fits.1.1.1.1 j in-range lt),
            ),
          ),
        ),
      )
  whole-step s t (InRound (k ∷ ahead)) len range is fits (inr d) =
      let p = fits.0 in
      let parts = first-of (N + 1 - p) p k ahead fits.1.1.1.0 in
      let same : k ≡ p = parts.0 in
      let less = parts.1.0 in
      let over = is-done k s range.0 d.0 in
      let few : N + 1 - (p + 1) ≡ less = (let m = parts.1.1.0 in omega (arith, m)) in
      whole-at t s.tasks s.done (InRound ahead) d.1.tasks d.1.done d.2
      (is ∙ ap (λ cs. reverse s.tasks ++ (then_drain k cs ++ rounds_of c s.done ahead)) (drop_all (done_by s.done k) (script_at k c.scripts).commands over)) (
        p + 1,
        (
          omega arith,
          (
            (let m = parts.1.1.0 in omega (arith, m)),
            (
              parts.1.1.1 ∙ ap (λ m. numbers m (p + 1)) (sym few),
              λ j in-range lt. by j in-range lt (below j),
            ),
          ),
        ),
      )
    where
      below : (j : ℕ) → (j ≡ k) ⊎ (j ≢ k)
      below j = grind arith

      by : (j : ℕ) → IsScript c j → j < fits.0 + 1 → (j ≡ k) ⊎ (j ≢ k) → length (script_at j c.scripts).commands ≤ done_by s.done j
      by j in-range lt (inl e) = subst (λ i. length (script_at i c.scripts).commands ≤ done_by s.done i) (sym e) (is-done k s range.0 d.0)
      by j in-range lt (inr ne) =
          let same : k ≡ fits.0 = (first-of (N + 1 - fits.0) fits.0 k ahead fits.1.1.1.0).0 in
          fits.1.1.1.1 j in-range (less-than j (fits.0) lt (λ e. ne (e ∙ sym same)))
        where
          less-than : (j p : ℕ) → j < p + 1 → j ≢ p → j < p
          less-than j p lt ne = grind arith
  whole-step s t BehindRound len range is fits x =
      let k = x.0.0 in
      let of = x.0.1 in
      let tells = x.0.2 in
      let over = fits k of (let high = of.1 in omega (arith, high)) in
      let n = schedule c.layout tells.events in
      let stops : may_go_on c s.done k n ≡ false = ap (λ o. may_by (is_await (script_at k c.scripts).waits (done_by s.done k)) k o n) (slice_get_past (script_at k c.scripts).commands (done_by s.done k) over) in
      absurd (false≢true (sym stops ∙ tells.is))

  -- What the scenario tells from the schedule on.

  abbrev Counts : List step.Step → List ℕ → Type 0
  Counts before done = (k : ℕ) → IsScript c k → done_by done k ≡ count_by (is_step k) before

  rounds-left : (schedule : List step.Step) (m p : ℕ) (done : List ℕ) → 1 ≤ p → p + m ≡ N + 1 → Counts schedule done → rounds_of c done (numbers m p) ≡ left_from schedule p (drop (p - 1) c.scripts) ++ Drain 0 ∷ []
  rounds-left schedule zero p done low sum counts =
      let over : length c.scripts ≤ p - 1 = omega (arith, low, sum) in
      ap (λ xs. left_from schedule p xs ++ Drain 0 ∷ []) (sym (drop_all (p - 1) c.scripts over))
  rounds-left schedule (suc m) p done low sum counts =
      let of : IsScript c p = (low, omega (arith, sum)) in
      let at = script-at c p of in
      let here : drop (p - 1) c.scripts ≡ script_at p c.scripts ∷ drop p c.scripts =
      drop-next c.scripts (p - 1) (script_at p c.scripts) (ap (slice_get c.scripts) at.less ∙ at.found) ∙ ap (λ n. script_at p c.scripts ∷ drop n c.scripts) (back p low) in
      let rest = rounds-left schedule m (p + 1) done (omega arith) (omega (arith, sum)) counts in
      ap (λ n. then_drain p (drop n (script_at p c.scripts).commands) ++ rounds_of c done (numbers m (p + 1))) (counts p of)
      ∙ ap (λ z. then_drain p (drop (count_by (is_step p) schedule) (script_at p c.scripts).commands) ++ z) (rest ∙ ap (λ n. left_from schedule (p + 1) (drop n c.scripts) ++ Drain 0 ∷ []) (less p))
      ∙ sym (append_assoc (then_drain p (drop (count_by (is_step p) schedule) (script_at p c.scripts).commands)) (left_from schedule (p + 1) (drop p c.scripts)) (Drain 0 ∷ []))
      ∙ ap (λ xs. left_from schedule p xs ++ Drain 0 ∷ []) (sym here)
    where
      back : (p : ℕ) → 1 ≤ p → p - 1 + 1 ≡ p
      back p low = omega (arith, low)

      less : (p : ℕ) → p + 1 - 1 ≡ p
      less p = omega arith

  schedule-left : (before ahead : List step.Step) (done : List ℕ) → length done ≡ N → schedule_keeps c.layout c.sites c.scripts before ahead ≡ true → Counts before done
      → scheduled c done ahead ≡ in_schedule c.scripts before ahead ++ (left_from (before ++ ahead) 1 c.scripts ++ Drain 0 ∷ [])
  schedule-left before [] done len kept counts =
      rounds-left (before ++ []) N 1 done (omega arith) (omega arith) (λ k of. counts k of ∙ ap (count_by (is_step k)) (sym (append-nil before)))
  schedule-left before (s ∷ ahead) done len kept counts = by s (and_parts (step_keeps c.layout c.sites c.scripts before s) (schedule_keeps c.layout c.sites c.scripts (before ++ s ∷ []) ahead) kept).0
      (and_parts (step_keeps c.layout c.sites c.scripts before s) (schedule_keeps c.layout c.sites c.scripts (before ++ s ∷ []) ahead) kept).1 (schedule-left (before ++ s ∷ []) ahead)
    where
      plus : (m : ℕ) → m + 0 ≡ m
      plus m = omega arith

      -- another step counts for no script
      not-counted : (s : step.Step) → ((k : ℕ) → is_step k s ≡ false) → Counts (before ++ s ∷ []) done
      not-counted s other k of = counts k of ∙ sym (count-more (is_step k) before s false (other k) ∙ plus (count_by (is_step k) before))

      behind : (s : step.Step) → in_schedule c.scripts (before ++ s ∷ []) ahead ++ (left_from ((before ++ s ∷ []) ++ ahead) 1 c.scripts ++ Drain 0 ∷ []) ≡ in_schedule c.scripts (before ++ s ∷ []) ahead ++ (left_from (before ++ s ∷ ahead) 1 c.scripts ++ Drain 0 ∷ [])
      behind s = ap (λ xs. in_schedule c.scripts (before ++ s ∷ []) ahead ++ (left_from xs 1 c.scripts ++ Drain 0 ∷ [])) (append_assoc before (s ∷ []) ahead)

      by : (s : step.Step) → step_keeps c.layout c.sites c.scripts before s ≡ true → schedule_keeps c.layout c.sites c.scripts (before ++ s ∷ []) ahead ≡ true
          → ((new : List ℕ) → length new ≡ N → schedule_keeps c.layout c.sites c.scripts (before ++ s ∷ []) ahead ≡ true → Counts (before ++ s ∷ []) new → scheduled c new ahead ≡ in_schedule c.scripts (before ++ s ∷ []) ahead ++ (left_from ((before ++ s ∷ []) ++ ahead) 1 c.scripts ++ Drain 0 ∷ []))
          → scheduled c done (s ∷ ahead) ≡ in_schedule c.scripts before (s ∷ ahead) ++ (left_from (before ++ s ∷ ahead) 1 c.scripts ++ Drain 0 ∷ [])
      by (steps.Deliver a b) one rest ih = ap (λ z. Do (Deliver 0 a b) ∷ z) (ih done len rest (not-counted (steps.Deliver a b) (λ k. refl)) ∙ behind (steps.Deliver a b))
      by steps.Drain one rest ih = ap (λ z. Drain 0 ∷ z) (ih done len rest (not-counted steps.Drain (λ k. refl)) ∙ behind steps.Drain)
      by (steps.Step k) one rest ih =
          let outer = and_parts (nat_le 1 k && nat_le k (length c.scripts)) (nat_lt (count_by (is_step k) before) (length (script_at k c.scripts).commands)) one in
          let inner = and_parts (nat_le 1 k) (nat_le k (length c.scripts)) outer.0 in
          let of : IsScript c k = (leb-true 1 k inner.0, leb-true k (length c.scripts) inner.1) in
          let lt = ltb-true (count_by (is_step k) before) (length (script_at k c.scripts).commands) outer.1 in
          let cmds = (script_at k c.scripts).commands in
          let d = count_by (is_step k) before in
          let command = get_or cmds d Command.Retry in
          let found : slice_get cmds d ≡ Some command = slice_get-get_or cmds d Command.Retry lt in
          let next : next_command c done k ≡ Some command = ap (slice_get cmds) (counts k of) ∙ found in
          let own = one-more-own k done of.0 (let high = of.1 in omega (arith, high, len)) in
          let more : Counts (before ++ steps.Step k ∷ []) (one_more k done) =
          λ j in-range. counted j in-range (k == j) refl of own in
          ap (λ o. by_next k o (scheduled c (one_more k done) ahead) (scheduled c done ahead)) next
          ∙ ap (λ z. Do (Act k command) ∷ z) (ih (one_more k done) (length-set done (k - 1) (done_by done k + 1) ∙ len) rest more ∙ behind (steps.Step k))
          ∙ ap (λ o. option_to_list (option_map (λ (x : Command). Do (Act k x)) o) ++ (in_schedule c.scripts (before ++ steps.Step k ∷ []) ahead ++ (left_from (before ++ steps.Step k ∷ ahead) 1 c.scripts ++ Drain 0 ∷ []))) (sym found)
          ∙ sym (append_assoc (step_tasks c.scripts before (steps.Step k)) (in_schedule c.scripts (before ++ steps.Step k ∷ []) ahead) (left_from (before ++ steps.Step k ∷ ahead) 1 c.scripts ++ Drain 0 ∷ []))
        where
          counted : (j : ℕ) → IsScript c j → (b : Bool) → (k == j) ≡ b → IsScript c k → done_by (one_more k done) k ≡ done_by done k + 1 → done_by (one_more k done) j ≡ count_by (is_step j) (before ++ steps.Step k ∷ [])
          counted j in-range true e of own =
              let same : k ≡ j = eqb-true k j e in
              subst (λ i. done_by (one_more k done) i ≡ count_by (is_step i) (before ++ steps.Step k ∷ [])) same
              (own ∙ ap (λ n. n + 1) (counts k of) ∙ sym (count-more (is_step k) before (steps.Step k) true (eq-eqb k k refl)))
          counted j in-range false e of own =
              one-more-other k j done of.0 in-range.0 (λ same. false≢true (sym e ∙ eq-eqb k j (sym same)))
              ∙ counts j in-range ∙ sym (count-more (is_step j) before (steps.Step k) false e ∙ plus (count_by (is_step j) before))

  order-parts : order c ≡ opening_order c ++ to_follow c
  order-parts =
      let steps_ = in_schedule c.scripts [] c.schedule in
      let left = left_from c.schedule 1 c.scripts in
      append_assoc (opening_order c ++ steps_) left (Drain 0 ∷ []) ∙ append_assoc (opening_order c) steps_ (left ++ Drain 0 ∷ [])

  opening-whole : Whole (opened c)
  opening-whole = record {
    is = order-parts ∙ ap (λ z. z ++ to_follow c) (sym (reverse-reverse (opening_order c)))
        ∙ ap (λ z. reverse (opened c).tasks ++ z) (sym (schedule-left [] c.schedule (opened c).done (length-map c.scripts (λ (script : Script). 0)) keeps.schedule (λ k of. zeros c.scripts (k - 1))));
    fits = tt;
  }

  whole : (shape : IsLayout c.layout) (s : Standing) → Follows c (opened c) s → Whole s
  whole shape _ Begins = opening-whole
  whole shape _ (Then t u f x) =
      let g = good c shape keeps t f in
      let w = whole shape t f in
      whole-step t u t.phase g.core.len g.phase w.is w.fits x

  -- so the tasks of one that is over are those of the scenario
  over-tasks : (shape : IsLayout c.layout) (s : Standing) → Follows c (opened c) s → IsOver c s → tasks c ≡ s.tasks
  over-tasks shape s f over =
      let w = whole shape s f in
      ap reverse (w.is ∙ ap (λ p. reverse s.tasks ++ rest_of c s.done p) over.phase ∙ append-nil (reverse s.tasks)) ∙ reverse-reverse s.tasks

  worn-tasks : (shape : IsLayout c.layout) (s : Standing) → Follows c (opened c) s → (newer : List Task) × (tasks c ≡ newer ++ s.tasks)
  worn-tasks shape s f =
      let w = whole shape s f in
      let rest = rest_of c s.done s.phase in
      (reverse rest, ap reverse w.is ∙ reverse-append (reverse s.tasks) rest ∙ ap (λ z. reverse rest ++ z) (reverse-reverse s.tasks))

  pub ordered-so : (shape : IsLayout c.layout) (s : Standing) (status : Status) (closed : Closed) → Follows c (opened c) s → IsOverUnless status c s → IsOrdered c.layout s.tasks status closed → IsOrdered c.layout (tasks c) status closed
  ordered-so shape s Status.Done closed f over h = subst (λ ts. IsOrdered c.layout ts Status.Done closed) (sym (over-tasks shape s f over)) h
  ordered-so shape s Status.Usage closed f over h = subst (λ ts. IsOrdered c.layout ts Status.Usage closed) (sym (over-tasks shape s f over)) h
  ordered-so shape s (Status.Scenario line reason) closed f over h = subst (λ ts. IsOrdered c.layout ts (Status.Scenario line reason) closed) (sym (over-tasks shape s f over)) h
  ordered-so shape s Status.ReadFault closed f over h = subst (λ ts. IsOrdered c.layout ts Status.ReadFault closed) (sym (over-tasks shape s f over)) h
  ordered-so shape s Status.WriteFault closed f over h = subst (λ ts. IsOrdered c.layout ts Status.WriteFault closed) (sym (over-tasks shape s f over)) h
  ordered-so shape s Status.Memory closed f over h = subst (λ ts. IsOrdered c.layout ts Status.Memory closed) (sym (over-tasks shape s f over)) h
  ordered-so shape s (Status.Worn clock) closed f over h = (let more = worn-tasks shape s f in worn-more c.layout more.0 s.tasks (tasks c) clock closed more.1 h)

-- And no script is stuck.

nothing-in : (c : Scene) (f : ℕ → List Stuck) (ks : List ℕ) → ScriptsFit c ks → ((k : ℕ) → IsScript c k → f k ≡ []) → flat_map f ks ≡ []
nothing-in c f [] fit none = refl
nothing-in c f (k ∷ ks) fit none = ap (λ xs. xs ++ flat_map f ks) (none k fit.0) ∙ nothing-in c f ks fit.1 none

-- of a script that was done to its end nothing is left
nothing-of : (k n : ℕ) (script : Script) → drop n script.commands ≡ [] → left_of k script n ≡ []
nothing-of k n script e =
    let over : length (drop n script.commands) ≡ 0 = ap length e in
    let less = length-drop n script.commands in
    ap (λ b. cond b (record { script = k; command = n + 1 } ∷ []) []) (le-ltb n (length script.commands) (omega (arith, over, less)))

module _ (l : Layout) (c : Scene) (none : HasNoWait c) (done : List ℕ) (closed : Closed) where
  none-of-them : ((i : ℕ) (script : Script) → slice_get c.scripts i ≡ Some script → StandsAt l script (suc i) (slice_index_or done i 0) (past_of closed)) → (stuck : List Stuck) → stuck ≡ stuck_of c done → stuck ≡ []
  none-of-them stands stuck is =
      is ∙ nothing-in c (left_in c done) (all_scripts c) (all-fit c)
      (λ k of.
      (let at = script-at c k of in
      nothing-of k (slice_index_or done (k - 1) 0) (script_at k c.scripts) (ap (λ i. drop (slice_index_or done i 0) (script_at k c.scripts).commands) at.less ∙ all-done l c none done closed stands at.place (script_at k c.scripts) at.found)))

  none-stuck : (status : Status) (stuck : List Stuck) → StandsUnless status l c done (past_of closed) → StuckUnless status c done stuck → NoneStuckUnless status stuck
  none-stuck Status.Done stuck stands is = none-of-them stands stuck is
  none-stuck Status.Usage stuck stands is = none-of-them stands stuck is
  none-stuck (Status.Scenario line reason) stuck stands is = none-of-them stands stuck is
  none-stuck Status.ReadFault stuck stands is = none-of-them stands stuck is
  none-stuck Status.WriteFault stuck stands is = none-of-them stands stuck is
  none-stuck Status.Memory stuck stands is = none-of-them stands stuck is
  none-stuck (Status.Worn clock) stuck stands is = tt

pub replays-without-waits : ReplaysWithoutWaits
replays-without-waits l told stuck status closed shape r none =
    let c = r.runs.scene in
    let g = r.runs.given in
    let same : c.layout ≡ l = (printed_again l g.bytes c g.given).0 in (
      subst (λ m. IsOrdered m (tasks c) status closed) same
          (ordered-so c (kept l g.bytes c g.given) none (subst IsLayout (sym same) shape) r.standing status closed r.follows r.over (subst (λ m. IsOrdered m r.standing.tasks status closed) (sym same) r.ordered)),
      none-stuck l c none r.runs.done closed status stuck r.runs.stands r.stuck_is,
    )
