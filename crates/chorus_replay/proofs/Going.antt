-- A replay goes on by a step, or stops at a clock that is worn.
-- c is a scenario, k the number of a script, ts are tasks, the latest first, n and m are networks.
use Rattle.std.proofs.Common.{ℕ, ◌≡◌, ◌≤◌, ◌+◌, Bool, true, false, List, [], ◌∷◌, ◌++◌, length, map, drop, reverse, Some, slice_get, refl, sym, ◌∙◌, ap, subst, append-nil, append_assoc, inl, inr}
use Rattle.std.proofs.lemmas.List.{reverse-append, reverse-reverse, append_cancel_right}
use Rattle.chorus_ui.specs.declared.layout.Layout.{Layout}
use Rattle.chorus_ui.specs.declared.limits.TheConstants.{CLOCK_LIMIT}
use Rattle.chorus_ui.specs.Layout.{IsLayout}
use Rattle.chorus_entry.specs.declared.command.Command.{Command}
use Rattle.law_network.specs.Calls.{delivering}
use Rattle.law_network.specs.Network.{NetState, Act, Deliver, happened, schedule}
use Rattle.law_network.specs.Tasks.{Task, Do, Drain, CarryOut, MayAll}
use Rattle.chorus_net.specs.Drains.{Drains}
use Rattle.chorus_net.specs.Sites.{AreTwoPlaces}
use Rattle.chorus_net.specs.Worn.{compared_by, IsUnworn, IsWornIn}
use Rattle.chorus_scene.specs.declared.scenario.Step as step
use Rattle.chorus_scene.specs.declared.scenario.Step.TheVariants as steps
use Rattle.chorus_scene.specs.Scene.{Scene}
use Rattle.chorus_scene.specs.Limits.{Keeps}
use Rattle.chorus_report.specs.Awaiting.{all_scripts}
use Rattle.chorus_report.specs.Setup.{setup_command}
use Rattle.chorus_replay.specs.Order.{entering, in_schedule, left_from, opening_order, order}
use Rattle.chorus_replay.specs.Waiting.{Phase, InSchedule, InRound, BehindRound, Standing, Follows, Begins, Then, ComesIn, GoesOn, Tells, IsScript, may_go_on, next_command, one_more, opened}
use Rattle.chorus_replay.specs.Performing.{AreDone, AreLeft, AreStopped, GoesIf, IsAt, IsBefore, MayAllDo, OpensWorn, SomeGoes, StopsAt, Waits, Wears, Went, to_follow}
use Rattle.chorus_replay.specs.Worn.{ComesNext}
use Rattle.chorus_replay.proofs.Loops.{drop-next, setup_from}
use Rattle.chorus_replay.proofs.Standings.{Core, PhaseFits, core-act, core-deliver, core-drain, core-may, good}
use Rattle.chorus_replay.proofs.Stepping.{CanBe, comes-more, step-may, step-done, step-worn, drain-done, drain-worn, deliver-may, act-done, act-worn}

-- One task more.

opens-next : (l : Layout) (ts : List Task) (t : Task) (n : NetState) → AreDone l ts n → AreLeft l (reverse ts ++ t ∷ []) (t ∷ []) n
opens-next l ts t n b = record {
  done = b.done;
  whole = ap (λ z. z ++ t ∷ []) (b.whole ∙ append-nil b.done);
  events = b.events;
  is = b.is;
  carried = b.carried;
  may = b.may;
  unworn = b.unworn;
  clocks = b.clocks;
}

turns : (t : Task) (ts : List Task) → reverse ts ++ t ∷ [] ≡ reverse (t ∷ ts)
turns t ts = sym (reverse-append (t ∷ []) ts)

closes-next : (l : Layout) (ts : List Task) (t : Task) (n : NetState) → AreLeft l (reverse ts ++ t ∷ []) [] n → AreDone l (t ∷ ts) n
closes-next l ts t n b = subst (λ all. AreLeft l all [] n) (turns t ts) b

stops-next : (l : Layout) (ts : List Task) (t : Task) (clock : ℕ) (n : NetState) → AreStopped l (reverse ts ++ t ∷ []) clock n → AreStopped l (reverse (t ∷ ts)) clock n
stops-next l ts t clock n b = subst (λ all. AreStopped l all clock n) (turns t ts) b

-- where a clock was worn, tasks may stand behind
stops-more : (l : Layout) (ts : List Task) (t : Task) (clock : ℕ) (n : NetState) → AreStopped l (reverse ts) clock n → AreStopped l (reverse (t ∷ ts)) clock n
stops-more l ts t clock n b = record {
  events = b.events;
  is = b.is;
  may = b.may;
  unworn = b.unworn;
  clocks = b.clocks;
  worn = record {
    next = b.worn.next;
    comes = subst (λ us. ComesNext l us b.worn.next b.events) (sym (reverse-reverse (t ∷ ts))) (comes-more l (t ∷ []) ts b.worn.next b.events (subst (λ us. ComesNext l us b.worn.next b.events) (reverse-reverse ts) b.worn.comes));
    is = b.worn.is;
    worn = b.worn.worn;
  };
}

module _ (l : Layout) (shape : IsLayout l) (ts : List Task) (t : Task) (may : MayAll l (t ∷ ts)) where
  pub can-next : CanBe l (reverse ts ++ t ∷ [])
  can-next = record { shape = shape; may = subst (MayAll l) (sym (ap reverse (turns t ts) ∙ reverse-reverse (t ∷ ts))) may }

module _ (c : Scene) (shape : IsLayout c.layout) (keeps : Keeps c) where
  abbrev l : Layout
  l = c.layout

  pub core-at : (phase : Phase) (done : List ℕ) (n : NetState) (h : IsAt c phase done n) → Core c h.standing.tasks done
  core-at phase done n h = subst (Core c h.standing.tasks) h.done_is (good c shape keeps h.standing h.follows).core

  phase-at : (phase : Phase) (done : List ℕ) (n : NetState) → IsAt c phase done n → PhaseFits c phase
  phase-at phase done n h = subst (PhaseFits c) h.phase_is (good c shape keeps h.standing h.follows).phase

  pub counted : (phase : Phase) (done : List ℕ) (n : NetState) → IsAt c phase done n → length done ≡ length c.scripts
  counted phase done n h = (core-at phase done n h).len

  -- what the tasks tell of a script is what the network tells
  tells : (phase : Phase) (done : List ℕ) (n : NetState) (h : IsAt c phase done n) (k : ℕ) (b : Bool) → may_go_on c done k n ≡ b → Tells c k h.standing b
  tells phase done n h k b is = record {
    events = h.tasks.events;
    carried = subst (λ us. CarryOut l us h.tasks.events) (ap reverse (sym (append-nil h.tasks.done) ∙ sym h.tasks.whole) ∙ reverse-reverse h.standing.tasks) h.tasks.carried;
    is = ap (λ d. may_go_on c d k (schedule l h.tasks.events)) h.done_is ∙ ap (may_go_on c done k) (sym h.tasks.is) ∙ is;
  }

  -- the next command of a script may be given
  may-act : (phase : Phase) (done : List ℕ) (n : NetState) (h : IsAt c phase done n) (k : ℕ) → IsScript c k → (command : Command) → next_command c done k ≡ Some command → MayAll l (Do (Act k command) ∷ h.standing.tasks)
  may-act phase done n h k of command next =
      core-may c shape keeps (Do (Act k command) ∷ h.standing.tasks) (one_more k done) (core-act c shape keeps h.standing.tasks done (core-at phase done n h) k of command next)

  pub may-do : (phase : Phase) (done : List ℕ) (n : NetState) → IsAt c phase done n → MayAllDo c done n
  may-do phase done n h k of command next =
      let may = may-act phase done n h k of command next in
      step-may (can-next l shape h.standing.tasks (Do (Act k command)) may) (Act k command) [] n (opens-next l h.standing.tasks (Do (Act k command)) n h.tasks)

  -- One step.

  next : (s : Standing) → Follows c (opened c) s → (phase : Phase) → s.phase ≡ phase → (t : Standing) → ComesIn c phase s t → Follows c (opened c) t
  next s f phase e t x = Then s t f (subst (λ p. ComesIn c p s t) (sym e) x)

  -- the tasks with a command more
  acted : (phase : Phase) (done : List ℕ) (n : NetState) (h : IsAt c phase done n) (k : ℕ) → IsScript c k → (after : List ℕ) (m : NetState) (w : Went c k done after n m) → AreDone l (Do (Act k w.command) ∷ h.standing.tasks) m
  acted phase done n h k of after m w =
      let t = Do (Act k w.command) in
      closes-next l h.standing.tasks t m
      (act-done (can-next l shape h.standing.tasks t (may-act phase done n h k of w.command w.is)) k w.command [] n m (opens-next l h.standing.tasks t n h.tasks) w.happens w.unworn)

  goes : (phase : Phase) (done : List ℕ) (n : NetState) (h : IsAt c phase done n) (k : ℕ) (after : List ℕ) (m : NetState) (w : Went c k done after n m) (behind : List Task) (to : Phase)
      → GoesOn c k behind h.standing (record { tasks = behind ++ Do (Act k w.command) ∷ h.standing.tasks; done = after; phase = to })
  goes phase done n h k after m w behind to = record {
    command = w.command;
    is = ap (λ d. next_command c d k) h.done_is ∙ w.is;
    may = tells phase done n h k true w.may;
    tasks = refl;
    done = w.done ∙ ap (one_more k) (sym h.done_is);
  }

  -- a step of the schedule goes on, or does nothing
  pub stepped : (k : ℕ) (ahead : List step.Step) (done : List ℕ) (n : NetState) → IsAt c (InSchedule (steps.Step k ∷ ahead)) done n → (went : Bool) (after : List ℕ) (m : NetState) → GoesIf went c k done after n m
      → IsAt c (InSchedule ahead) after m
  stepped k ahead done n h true after m w =
      let p = InSchedule (steps.Step k ∷ ahead) in
      let of = (phase-at p done n h).0 in
      let t : Standing = record { tasks = Do (Act k w.command) ∷ h.standing.tasks; done = after; phase = InSchedule ahead } in
      record { standing = t; follows = next h.standing h.follows p h.phase_is t (inl (goes p done n h k after m w [] (InSchedule ahead)), refl); phase_is = refl; done_is = refl; tasks = acted p done n h k of after m w }
  stepped k ahead done n h false after m w =
      let p = InSchedule (steps.Step k ∷ ahead) in
      let t : Standing = record { tasks = h.standing.tasks; done = after; phase = InSchedule ahead } in
      record {
        standing = t;
        follows = next h.standing h.follows p h.phase_is t (inr (tells p done n h k false w.may, record { tasks = refl; done = w.done ∙ sym h.done_is }), refl);
        phase_is = refl;
        done_is = refl;
        tasks = subst (AreDone l h.standing.tasks) (sym w.same) h.tasks;
      }

  -- with its first step, where it stands in the schedule
  pub at-next : (i : ℕ) (s : step.Step) (done : List ℕ) (n : NetState) → slice_get c.schedule i ≡ Some s → IsAt c (InSchedule (drop i c.schedule)) done n → IsAt c (InSchedule (s ∷ drop (i + 1) c.schedule)) done n
  at-next i s done n at h = subst (λ xs. IsAt c (InSchedule xs) done n) (drop-next c.schedule i s at) h

  pub step-of : (k : ℕ) (ahead : List step.Step) (done : List ℕ) (n : NetState) → IsAt c (InSchedule (steps.Step k ∷ ahead)) done n → IsScript c k
  step-of k ahead done n h = (phase-at (InSchedule (steps.Step k ∷ ahead)) done n h).0

  pub script-of : (k : ℕ) (ahead : List ℕ) (done : List ℕ) (n : NetState) → IsAt c (InRound (k ∷ ahead)) done n → IsScript c k
  script-of k ahead done n h = (phase-at (InRound (k ∷ ahead)) done n h).0

  -- a clock is worn by a command
  act-stops : (phase : Phase) (done : List ℕ) (n : NetState) (h : IsAt c phase done n) (k : ℕ) → IsScript c k → (clock : ℕ) (m : NetState) (w : Wears c k clock done n m) → AreStopped l (reverse (Do (Act k w.command) ∷ h.standing.tasks)) clock m
  act-stops phase done n h k of clock m w =
      let t = Do (Act k w.command) in
      stops-next l h.standing.tasks t clock m
      (act-worn (can-next l shape h.standing.tasks t (may-act phase done n h k of w.command w.is)) k w.command [] n m clock (opens-next l h.standing.tasks t n h.tasks) w.same (subst (λ z. CLOCK_LIMIT ≤ z) w.compares w.worn, w.compares))

  stops-goes : (phase : Phase) (done : List ℕ) (n : NetState) (h : IsAt c phase done n) (k clock : ℕ) (m : NetState) (w : Wears c k clock done n m) (behind : List Task) (to : Phase)
      → GoesOn c k behind h.standing (record { tasks = behind ++ Do (Act k w.command) ∷ h.standing.tasks; done = one_more k h.standing.done; phase = to })
  stops-goes phase done n h k clock m w behind to = record {
    command = w.command;
    is = ap (λ d. next_command c d k) h.done_is ∙ w.is;
    may = tells phase done n h k true w.may;
    tasks = refl;
    done = refl;
  }

  pub step-stops : (k : ℕ) (ahead : List step.Step) (done : List ℕ) (n : NetState) → IsAt c (InSchedule (steps.Step k ∷ ahead)) done n → (clock : ℕ) (m : NetState) → Wears c k clock done n m → StopsAt c clock m
  step-stops k ahead done n h clock m w =
      let p = InSchedule (steps.Step k ∷ ahead) in
      let t : Standing = record { tasks = Do (Act k w.command) ∷ h.standing.tasks; done = one_more k h.standing.done; phase = InSchedule ahead } in
      record {
        standing = t;
        follows = next h.standing h.follows p h.phase_is t (inl (stops-goes p done n h k clock m w [] (InSchedule ahead)), refl);
        stopped = act-stops p done n h k (phase-at p done n h).0 clock m w;
      }

  -- deliveries and drains of the schedule
  may-deliver : (a b : ℕ) (ahead : List step.Step) (done : List ℕ) (n : NetState) (h : IsAt c (InSchedule (steps.Deliver a b ∷ ahead)) done n) → MayAll l (Do (Deliver 0 a b) ∷ h.standing.tasks)
  may-deliver a b ahead done n h =
      let p = InSchedule (steps.Deliver a b ∷ ahead) in
      core-may c shape keeps (Do (Deliver 0 a b) ∷ h.standing.tasks) done (core-deliver c shape keeps h.standing.tasks done a b (phase-at p done n h).0 (core-at p done n h))

  may-drain : (phase : Phase) (done : List ℕ) (n : NetState) (h : IsAt c phase done n) → MayAll l (Drain 0 ∷ h.standing.tasks)
  may-drain phase done n h = core-may c shape keeps (Drain 0 ∷ h.standing.tasks) done (core-drain c shape keeps h.standing.tasks done (core-at phase done n h))

  pub delivers-may : (a b : ℕ) (ahead : List step.Step) (done : List ℕ) (n : NetState) → IsAt c (InSchedule (steps.Deliver a b ∷ ahead)) done n → AreTwoPlaces n.layout a b
  delivers-may a b ahead done n h =
      let t = Do (Deliver 0 a b) in
      deliver-may (can-next l shape h.standing.tasks t (may-deliver a b ahead done n h)) a b [] n (opens-next l h.standing.tasks t n h.tasks)

  pub delivered : (a b : ℕ) (ahead : List step.Step) (done : List ℕ) (n m : NetState) → IsAt c (InSchedule (steps.Deliver a b ∷ ahead)) done n → m ≡ happened (delivering a b) n → IsUnworn (compared_by (delivering a b) n) → IsAt c (InSchedule ahead) done m
  delivered a b ahead done n m h is unworn =
      let p = InSchedule (steps.Deliver a b ∷ ahead) in
      let task = Do (Deliver 0 a b) in
      let t : Standing = record { tasks = task ∷ h.standing.tasks; done = done; phase = InSchedule ahead } in
      record {
        standing = t;
        follows = next h.standing h.follows p h.phase_is t (record { tasks = refl; done = sym h.done_is }, refl);
        phase_is = refl;
        done_is = refl;
        tasks = closes-next l h.standing.tasks task m (step-done (can-next l shape h.standing.tasks task (may-deliver a b ahead done n h)) (delivering a b) [] n m (opens-next l h.standing.tasks task n h.tasks) is unworn (λ past k. tt));
      }

  pub deliver-stops : (a b : ℕ) (ahead : List step.Step) (done : List ℕ) (n m : NetState) (clock : ℕ) → IsAt c (InSchedule (steps.Deliver a b ∷ ahead)) done n → m ≡ n → compared_by (delivering a b) n ≡ Some clock → CLOCK_LIMIT ≤ clock → StopsAt c clock m
  deliver-stops a b ahead done n m clock h same compares worn =
      let p = InSchedule (steps.Deliver a b ∷ ahead) in
      let task = Do (Deliver 0 a b) in
      let t : Standing = record { tasks = task ∷ h.standing.tasks; done = done; phase = InSchedule ahead } in
      record {
        standing = t;
        follows = next h.standing h.follows p h.phase_is t (record { tasks = refl; done = sym h.done_is }, refl);
        stopped = stops-next l h.standing.tasks task clock m (step-worn (can-next l shape h.standing.tasks task (may-deliver a b ahead done n h)) (delivering a b) [] n m clock (opens-next l h.standing.tasks task n h.tasks) same compares worn);
      }

  module _ (ts : List Task) (n m : NetState) (b : AreDone l ts n) (may : MayAll l (Drain 0 ∷ ts)) where
    drains : (number : ℕ) → Drains n.layout n m number → AreDone l (Drain 0 ∷ ts) m
    drains number d = closes-next l ts (Drain 0) m (drain-done (can-next l shape ts (Drain 0) may) [] n m number (opens-next l ts (Drain 0) n b) d)

    drain-stops : (clock : ℕ) → IsWornIn clock n m → AreStopped l (reverse (Drain 0 ∷ ts)) clock m
    drain-stops clock w = stops-next l ts (Drain 0) clock m (drain-worn (can-next l shape ts (Drain 0) may) [] n m clock (opens-next l ts (Drain 0) n b) w)

  pub drained : (ahead : List step.Step) (done : List ℕ) (n m : NetState) (number : ℕ) → IsAt c (InSchedule (steps.Drain ∷ ahead)) done n → Drains n.layout n m number → IsAt c (InSchedule ahead) done m
  drained ahead done n m number h d =
      let p = InSchedule (steps.Drain ∷ ahead) in
      let t : Standing = record { tasks = Drain 0 ∷ h.standing.tasks; done = done; phase = InSchedule ahead } in
      record {
        standing = t;
        follows = next h.standing h.follows p h.phase_is t (record { tasks = refl; done = sym h.done_is }, refl);
        phase_is = refl;
        done_is = refl;
        tasks = drains h.standing.tasks n m h.tasks (may-drain p done n h) number d;
      }

  pub drain-step-stops : (ahead : List step.Step) (done : List ℕ) (n m : NetState) (clock : ℕ) → IsAt c (InSchedule (steps.Drain ∷ ahead)) done n → IsWornIn clock n m → StopsAt c clock m
  drain-step-stops ahead done n m clock h w =
      let p = InSchedule (steps.Drain ∷ ahead) in
      let t : Standing = record { tasks = Drain 0 ∷ h.standing.tasks; done = done; phase = InSchedule ahead } in
      record {
        standing = t;
        follows = next h.standing h.follows p h.phase_is t (record { tasks = refl; done = sym h.done_is }, refl);
        stopped = drain-stops h.standing.tasks n m h.tasks (may-drain p done n h) clock w;
      }

  -- Rounds.

  -- a command and the drain behind it
  module _ (k : ℕ) (ahead : List ℕ) (done : List ℕ) (n : NetState) (h : IsAt c (InRound (k ∷ ahead)) done n) (after : List ℕ) (o : NetState) (w : Went c k done after n o) where
    abbrev phase : Phase
    phase = InRound (k ∷ ahead)

    of : IsScript c k
    of = (phase-at phase done n h).0

    abbrev behind : Standing
    behind = record { tasks = Drain 0 ∷ Do (Act k w.command) ∷ h.standing.tasks; done = after; phase = phase }

    comes : Follows c (opened c) behind
    comes = next h.standing h.follows phase h.phase_is behind (inl (goes phase done n h k after o w (Drain 0 ∷ []) phase, refl))

    round-may : MayAll l (Drain 0 ∷ Do (Act k w.command) ∷ h.standing.tasks)
    round-may = core-may c shape keeps behind.tasks after (good c shape keeps behind comes).core

    pub round-goes : (m : NetState) (number : ℕ) → Drains o.layout o m number → IsAt c (InRound (k ∷ ahead)) after m
    round-goes m number d = record {
      standing = behind;
      follows = comes;
      phase_is = refl;
      done_is = refl;
      tasks = drains (Do (Act k w.command) ∷ h.standing.tasks) o m (acted phase done n h k of after o w) round-may number d;
    }

    pub round-drain-stops : (m : NetState) (clock : ℕ) → IsWornIn clock o m → StopsAt c clock m
    round-drain-stops m clock worn = record {
      standing = behind;
      follows = comes;
      stopped = drain-stops (Do (Act k w.command) ∷ h.standing.tasks) o m (acted phase done n h k of after o w) round-may clock worn;
    }

  pub round-act-stops : (k : ℕ) (ahead : List ℕ) (done : List ℕ) (n : NetState) → IsAt c (InRound (k ∷ ahead)) done n → (clock : ℕ) (m : NetState) → Wears c k clock done n m → StopsAt c clock m
  round-act-stops k ahead done n h clock m w =
      let p = InRound (k ∷ ahead) in
      let t : Standing = record { tasks = Drain 0 ∷ Do (Act k w.command) ∷ h.standing.tasks; done = one_more k h.standing.done; phase = p } in
      record {
        standing = t;
        follows = next h.standing h.follows p h.phase_is t (inl (stops-goes p done n h k clock m w (Drain 0 ∷ []) p, refl));
        stopped = stops-more l (Do (Act k w.command) ∷ h.standing.tasks) (Drain 0) clock m (act-stops p done n h k (phase-at p done n h).0 clock m w);
      }

  -- a script that may not go on is passed by
  pub passes : (k : ℕ) (ahead : List ℕ) (done after : List ℕ) (n m : NetState) → IsAt c (InRound (k ∷ ahead)) done n → Waits c k done after n m → IsAt c (InRound ahead) after m
  passes k ahead done after n m h w =
      let p = InRound (k ∷ ahead) in
      let t : Standing = record { tasks = h.standing.tasks; done = after; phase = InRound ahead } in
      record {
        standing = t;
        follows = next h.standing h.follows p h.phase_is t (inr (tells p done n h k false w.may, record { tasks = refl; done = w.done ∙ sym h.done_is }, refl));
        phase_is = refl;
        done_is = refl;
        tasks = subst (AreDone l h.standing.tasks) (sym w.same) h.tasks;
      }

  -- the end of a round
  pub round-ends : (done : List ℕ) (n m : NetState) (number : ℕ) → IsAt c (InRound []) done n → Drains n.layout n m number → IsAt c BehindRound done m
  round-ends done n m number h d =
      let p = InRound [] in
      let t : Standing = record { tasks = Drain 0 ∷ h.standing.tasks; done = done; phase = BehindRound } in
      record {
        standing = t;
        follows = next h.standing h.follows p h.phase_is t (record { tasks = refl; done = sym h.done_is }, refl);
        phase_is = refl;
        done_is = refl;
        tasks = drains h.standing.tasks n m h.tasks (may-drain p done n h) number d;
      }

  pub round-end-stops : (done : List ℕ) (n m : NetState) (clock : ℕ) → IsAt c (InRound []) done n → IsWornIn clock n m → StopsAt c clock m
  round-end-stops done n m clock h w =
      let p = InRound [] in
      let t : Standing = record { tasks = Drain 0 ∷ h.standing.tasks; done = done; phase = BehindRound } in
      record {
        standing = t;
        follows = next h.standing h.follows p h.phase_is t (record { tasks = refl; done = sym h.done_is }, refl);
        stopped = drain-stops h.standing.tasks n m h.tasks (may-drain p done n h) clock w;
      }

  -- the first round, and a further one
  pub rounds-begin : (done : List ℕ) (n : NetState) → IsAt c (InSchedule []) done n → IsAt c (InRound (all_scripts c)) done n
  rounds-begin done n h =
      let t : Standing = record { tasks = h.standing.tasks; done = done; phase = InRound (all_scripts c) } in
      record {
        standing = t;
        follows = next h.standing h.follows (InSchedule []) h.phase_is t (record { tasks = refl; done = sym h.done_is }, refl);
        phase_is = refl;
        done_is = refl;
        tasks = h.tasks;
      }

  pub rounds-again : (done : List ℕ) (n : NetState) → IsAt c BehindRound done n → SomeGoes c done n → IsAt c (InRound (all_scripts c)) done n
  rounds-again done n h some =
      let t : Standing = record { tasks = h.standing.tasks; done = done; phase = InRound (all_scripts c) } in
      record {
        standing = t;
        follows = next h.standing h.follows BehindRound h.phase_is t ((some.0, some.1, tells BehindRound done n h some.0 true some.2), record { tasks = refl; done = sym h.done_is }, refl);
        phase_is = refl;
        done_is = refl;
        tasks = h.tasks;
      }

  -- The beginning.

  order-parts : order c ≡ opening_order c ++ to_follow c
  order-parts =
      let steps_ = in_schedule c.scripts [] c.schedule in
      let left = left_from c.schedule 1 c.scripts in
      append_assoc (opening_order c ++ steps_) left (Drain 0 ∷ []) ∙ append_assoc (opening_order c) steps_ (left ++ Drain 0 ∷ [])

  -- what is left of the opening, where all behind it is left too
  pub opening-left : (rest : List Task) (n : NetState) → IsBefore c (rest ++ to_follow c) n → AreLeft l (opening_order c) rest n
  opening-left rest n b = record {
    done = b.done;
    whole = append_cancel_right (opening_order c) (b.done ++ rest) (to_follow c) (sym order-parts ∙ b.whole ∙ sym (append_assoc b.done rest (to_follow c)));
    events = b.events;
    is = b.is;
    carried = b.carried;
    may = b.may;
    unworn = b.unworn;
    clocks = b.clocks;
  }

  -- with the next command of the setup
  pub opening-next : (i : ℕ) (command : Command) (n : NetState) → IsBefore c (Do (Act 0 command) ∷ setup_from c i) n
      → AreLeft l (opening_order c) (Do (Act 0 command) ∷ (map Do (map (Act 0) (map setup_command (drop i c.setup))) ++ map Do (entering c))) n
  opening-next i command n b =
      let commands = map Do (map (Act 0) (map setup_command (drop i c.setup))) in
      opening-left (Do (Act 0 command) ∷ (commands ++ map Do (entering c))) n (subst (λ ts. IsBefore c (Do (Act 0 command) ∷ ts) n) (sym (append_assoc commands (map Do (entering c)) (to_follow c))) b)

  pub opening-can : CanBe l (opening_order c)
  opening-can = record { shape = shape; may = core-may c shape keeps (reverse (opening_order c)) (opened c).done (good c shape keeps (opened c) Begins).core }

  pub opens-at : (done : List ℕ) (n : NetState) → done ≡ (opened c).done → IsBefore c (to_follow c) n → IsAt c (InSchedule c.schedule) done n
  opens-at done n same b = record {
    standing = opened c;
    follows = Begins;
    phase_is = refl;
    done_is = sym same;
    tasks = subst (λ all. AreLeft l all [] n) (sym (reverse-reverse (opening_order c))) (opening-left [] n b);
  }

  pub opens-worn : (clock : ℕ) (n : NetState) → OpensWorn c clock n → StopsAt c clock n
  opens-worn clock n h = record {
    standing = opened c;
    follows = Begins;
    stopped = subst (λ all. AreStopped l all clock n) (sym (reverse-reverse (opening_order c))) h;
  }
