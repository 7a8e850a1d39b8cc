-- How far a replay has come: what so many commands of each script, and the tasks so far, keep along its steps.
-- c is a scenario, k the number of a script, i its place, ts are tasks, the latest first.
use Rattle.std.proofs.Common.{ℕ, zero, suc, ◌≡◌, ◌≢◌, ◌<◌, ◌≤◌, ◌+◌, ◌-◌, ◌==◌, ◌⊎◌, nat_le, Bool, true, false, not, ◌&&◌, cond, List, [], ◌∷◌, ◌++◌, length, map, take, reverse, get_or, Option, Some, None, slice_get, refl, sym, ◌∙◌, ap, subst, inl, inr, append-nil, arith}
use Rattle.std.proofs.lemmas.Bool.{and_parts, eqb-true, eq-eqb, ne_eqb, leb-true, false≢true}
use Rattle.std.proofs.lemmas.Grind.{get_or-set_at}
use Rattle.std.proofs.lemmas.List.{map-append, reverse-append, reverse-reverse, length-reverse, length-map, length-set, get_or-set_other, length-take-le}
use Rattle.std.proofs.lemmas.Option.{slice_get-get_or, slice_get_within, get_or_from_slice_get}
use Rattle.chorus_ui.specs.Layout.{IsLayout, has_place}
use Rattle.chorus_entry.specs.declared.command.Command.{Command}
use Rattle.law_network.specs.Calls.{first_actor}
use Rattle.law_network.specs.Network.{Act, Deliver, numbers}
use Rattle.law_network.specs.Tasks.{Task, Do, Drain, MayAll, commands_in}
use Rattle.chorus_scene.specs.declared.scenario.Step as step
use Rattle.chorus_scene.specs.declared.scenario.Step.TheVariants as steps
use Rattle.chorus_scene.specs.Scene.{Scene, Script}
use Rattle.chorus_scene.specs.Grammar.{script_at, no_script}
use Rattle.chorus_scene.specs.Limits.{Keeps, is_place_of, command_keeps, script_keeps, step_keeps, schedule_keeps}
use Rattle.chorus_report.specs.Awaiting.{all_scripts}
use Rattle.chorus_report.specs.Headline.{callers_of}
use Rattle.chorus_report.specs.Setup.{setup_commands}
use Rattle.chorus_replay.specs.declared.loading.TheConstants.{LOAD_LIMIT}
use Rattle.chorus_replay.specs.Order.{in_setup, entering, opening_order}
use Rattle.chorus_replay.specs.Waiting.{Phase, InSchedule, InRound, BehindRound, Standing, Follows, Begins, Then, ComesIn, GoesOn, Does, Tells, IsScript, done_by, next_command, one_more, opened}
use Rattle.chorus_replay.proofs.Callers.{AreComers, actors_by, actors-reverse, actors-opening}
use Rattle.chorus_replay.proofs.Given.{commands-append, commands-reverse, own-acts, other-acts, no-entering}
use Rattle.chorus_replay.proofs.May.{all-get, place-fits, command-needs, few-scripts, script-commands, opening-needs}
use Rattle.chorus_replay.proofs.Needs.{Needs, HasAll, not-false, all-of, may-all}

-- Scripts by their numbers.

pub record At (c : Scene) (k : ℕ) : Type 0 where
  pub place : ℕ
  pub is : k ≡ suc place
  pub less : k - 1 ≡ place
  pub found : slice_get c.scripts place ≡ Some (script_at k c.scripts)

pub script-at : (c : Scene) (k : ℕ) → IsScript c k → At c k
script-at c k h =
    let lt : k - 1 < length c.scripts = omega (arith, h.0, h.1) in
    record { place = k - 1; is = omega (arith, h.0); less = refl; found = slice_get-get_or c.scripts (k - 1) no_script lt }

-- What a phase has ahead.

abbrev pub StepFits : Scene → step.Step → Type 0
StepFits c (steps.Step k) = IsScript c k
StepFits c (steps.Deliver a b) = (has_place c.layout a ≡ true) × ((has_place c.layout b ≡ true) × ((a == b) ≡ false))
StepFits c steps.Drain = Unit {0}

abbrev pub StepsFit : Scene → List step.Step → Type 0
StepsFit c [] = Unit {0}
StepsFit c (s ∷ ahead) = StepFits c s × StepsFit c ahead

abbrev pub ScriptsFit : Scene → List ℕ → Type 0
ScriptsFit c [] = Unit {0}
ScriptsFit c (k ∷ ahead) = IsScript c k × ScriptsFit c ahead

abbrev pub PhaseFits : Scene → Phase → Type 0
PhaseFits c (InSchedule ahead) = StepsFit c ahead
PhaseFits c (InRound ahead) = ScriptsFit c ahead
PhaseFits c BehindRound = Unit {0}

step-fits : (c : Scene) → Keeps c → (before : List step.Step) (s : step.Step) → step_keeps c.layout c.sites c.scripts before s ≡ true → StepFits c s
step-fits c keeps before (steps.Step k) h =
    let outer = and_parts (nat_le 1 k && nat_le k (length c.scripts)) _ h in
    let inner = and_parts (nat_le 1 k) (nat_le k (length c.scripts)) outer.0 in
    (leb-true 1 k inner.0, leb-true k (length c.scripts) inner.1)
step-fits c keeps before (steps.Deliver a b) h =
    let outer = and_parts (is_place_of c.layout c.sites a && is_place_of c.layout c.sites b) (not (a == b)) h in
    let inner = and_parts (is_place_of c.layout c.sites a) (is_place_of c.layout c.sites b) outer.0 in
    (place-fits c.layout c.sites a keeps.sites_of_layout inner.0, (place-fits c.layout c.sites b keeps.sites_of_layout inner.1, not-false (a == b) outer.1))
step-fits c keeps before steps.Drain h = tt

steps-fit : (c : Scene) → Keeps c → (before ahead : List step.Step) → schedule_keeps c.layout c.sites c.scripts before ahead ≡ true → StepsFit c ahead
steps-fit c keeps before [] h = tt
steps-fit c keeps before (s ∷ ahead) h =
    let two = and_parts (step_keeps c.layout c.sites c.scripts before s) (schedule_keeps c.layout c.sites c.scripts (before ++ s ∷ []) ahead) h in
    (step-fits c keeps before s two.0, steps-fit c keeps (before ++ s ∷ []) ahead two.1)

numbers-fit : (c : Scene) (m p : ℕ) → 1 ≤ p → p + m ≤ length c.scripts + 1 → ScriptsFit c (numbers m p)
numbers-fit c zero p low high = tt
numbers-fit c (suc m) p low high = ((low, omega (arith, high)), numbers-fit c m (p + 1) (omega arith) (omega (arith, high)))

pub all-fit : (c : Scene) → ScriptsFit c (all_scripts c)
all-fit c = numbers-fit c (length c.scripts) 1 (omega arith) (omega arith)

-- What the tasks and the counts keep.

pub record Core (c : Scene) (ts : List Task) (done : List ℕ) : Type 0 where
  pub has : HasAll c.layout ts
  pub actors : actors_by ts ≡ actors_by (reverse (opening_order c))
  pub len : length done ≡ length c.scripts
  pub setup : commands_in 0 ts ≡ reverse (setup_commands c)
  pub given : (i : ℕ) (script : Script) → slice_get c.scripts i ≡ Some script →
      (commands_in (suc i) ts ≡ reverse (take (get_or done i 0) script.commands)) × (get_or done i 0 ≤ length script.commands)
  pub none : (i : ℕ) → slice_get c.scripts i ≡ None → commands_in (suc i) ts ≡ []

pub zeros : (scripts : List Script) (i : ℕ) → ◌≡◌ {A = ℕ} (get_or (map (λ (script : Script). 0) scripts) i 0) 0
zeros [] i = refl
zeros (s ∷ scripts) zero = refl
zeros (s ∷ scripts) (suc i) = zeros scripts i

module _ (c : Scene) (shape : IsLayout c.layout) (keeps : Keeps c) where
  opening-has : HasAll c.layout (reverse (opening_order c))
  opening-has = subst (HasAll c.layout) (append-nil (reverse (opening_order c))) (all-of c.layout [] (opening_order c) (opening-needs c shape keeps) tt)

  opening-commands : (k : ℕ) → commands_in k (opening_order c) ≡ commands_in k (map Do (in_setup c))
  opening-commands k =
      ap (commands_in k) (map-append Do (in_setup c) (entering c)) ∙ commands-append k (map Do (in_setup c)) (map Do (entering c))
      ∙ ap (λ z. commands_in k (map Do (in_setup c)) ++ z) (no-entering k _ c.scripts) ∙ append-nil (commands_in k (map Do (in_setup c)))

  opening-none : (i : ℕ) → commands_in (suc i) (reverse (opening_order c)) ≡ []
  opening-none i =
      commands-reverse (suc i) (opening_order c)
      ∙ ap reverse (opening-commands (suc i) ∙ other-acts (suc i) 0 (setup_commands c) (ne_eqb 0 (suc i) (λ e. omega (arith, e))))

  core-opened : Core c (opened c).tasks (opened c).done
  core-opened = record {
    has = opening-has;
    actors = refl;
    len = length-map c.scripts (λ (script : Script). 0);
    setup = commands-reverse 0 (opening_order c) ∙ ap reverse (opening-commands 0 ∙ own-acts 0 0 (setup_commands c) refl);
    given = λ i script at.
        let z = zeros c.scripts i in
        (opening-none i ∙ ap (λ n. reverse (take n script.commands)) (sym z), subst (λ n. n ≤ length script.commands) (sym z) (omega arith));
    none = λ i at. opening-none i;
  }

  -- the callers that have come
  pub comers-of : (ts : List Task) (done : List ℕ) → Core c ts done → AreComers ts (callers_of c)
  comers-of ts done h k =
      ap (λ z. slice_get z k) (ap reverse (h.actors ∙ actors-reverse (opening_order c)) ∙ reverse-reverse (actors_by (opening_order c)) ∙ actors-opening c)

  -- and how many
  seats : (ts : List Task) (done : List ℕ) → Core c ts done → length (actors_by ts) ≡ suc (length c.scripts)
  seats ts done h =
      ap length (h.actors ∙ actors-reverse (opening_order c) ∙ ap reverse (actors-opening c))
      ∙ length-reverse (first_actor ∷ map (λ (script : Script). script.actor) c.scripts) ∙ ap suc (length-map c.scripts (λ (script : Script). script.actor))

  -- a delivery, and a drain
  pub core-deliver : (ts : List Task) (done : List ℕ) (a b : ℕ) → StepFits c (steps.Deliver a b) → Core c ts done → Core c (Do (Deliver 0 a b) ∷ ts) done
  core-deliver ts done a b fits h =
      let many = seats ts done h in
      record { has = ((omega (arith, many), fits), h.has); actors = h.actors; len = h.len; setup = h.setup; given = h.given; none = h.none }

  pub core-drain : (ts : List Task) (done : List ℕ) → Core c ts done → Core c (Drain 0 ∷ ts) done
  core-drain ts done h =
      let many = seats ts done h in
      record { has = (omega (arith, many), h.has); actors = h.actors; len = h.len; setup = h.setup; given = h.given; none = h.none }

  -- a command of a script
  module _ (ts : List Task) (done : List ℕ) (h : Core c ts done) (k : ℕ) (of : IsScript c k) (command : Command) (next : next_command c done k ≡ Some command) where
    abbrev script : Script
    script = script_at k c.scripts

    abbrev so_far : ℕ
    so_far = done_by done k

    abbrev place : At c k
    place = script-at c k of

    below : so_far < length script.commands
    below = slice_get_within script.commands so_far command next

    in-done : k - 1 < length done
    in-done = (let len = h.len in omega (arith, of.0, of.1, len))

    command-has : Needs c.layout (length (actors_by ts)) (Do (Act k command))
    command-has =
        let many = seats ts done h in
        let l = c.layout in
        let all = script-commands l c.version c.sites (length (actors_by ts)) (omega (arith, many)) script (all-get (script_keeps l c.version c.sites) c.scripts place.place script keeps.scripts place.found) in
        command-needs l c.version c.sites (length (actors_by ts)) (omega (arith, many)) k command (omega (arith, many, of.1)) of.0 (all-get (command_keeps l c.version c.sites) script.commands so_far command all next)

    -- one command more of this script, and no more of the others
    own-more : commands_in k (Do (Act k command) ∷ ts) ≡ reverse (take (so_far + 1) script.commands)
    own-more =
        let was = (h.given place.place script place.found).0 in
        let same : get_or done place.place 0 ≡ so_far = ap (λ i. get_or done i 0) (sym place.less) in
        ap (λ b. cond b (command ∷ commands_in k ts) (commands_in k ts)) (eq-eqb k k refl)
        ∙ ap (λ cs. command ∷ cs) (ap (λ j. commands_in j ts) place.is ∙ was ∙ ap (λ n. reverse (take n script.commands)) same)
        ∙ sym (ap reverse (take-next script.commands so_far command next) ∙ reverse-append (take so_far script.commands) (command ∷ []))
      where
        take-next : (xs : List Command) (i : ℕ) (x : Command) → slice_get xs i ≡ Some x → take (i + 1) xs ≡ take i xs ++ x ∷ []
        take-next [] i x e = absurd (cc)
        take-next (y ∷ ys) zero x e = (let same : y ≡ x = cc in ap (λ z. z ∷ []) same)
        take-next (y ∷ ys) (suc i) x e = ap (λ m. take m (y ∷ ys)) (up i) ∙ ap (λ z. y ∷ z) (take-next ys i x e)
          where
            up : (i : ℕ) → suc i + 1 ≡ suc (i + 1)
            up i = omega arith

    other-same : (j : ℕ) → j ≢ k → commands_in j (Do (Act k command) ∷ ts) ≡ commands_in j ts
    other-same j ne = ap (λ b. cond b (command ∷ commands_in j ts) (commands_in j ts)) (ne_eqb k j (λ e. ne (sym e)))

    done-own : get_or (one_more k done) (k - 1) 0 ≡ so_far + 1
    done-own = get_or-set_at done (k - 1) (k - 1) (so_far + 1) 0 refl in-done

    done-other : (i : ℕ) → i ≢ k - 1 → get_or (one_more k done) i 0 ≡ get_or done i 0
    done-other i ne = get_or-set_other done (k - 1) i (so_far + 1) 0 ne

    given-more : (i : ℕ) (other : Script) → slice_get c.scripts i ≡ Some other → (commands_in (suc i) (Do (Act k command) ∷ ts) ≡ reverse (take (get_or (one_more k done) i 0) other.commands)) × (get_or (one_more k done) i 0 ≤ length other.commands)
    given-more i other at = by (suc i == k) refl
      where
        by : (b : Bool) → (suc i == k) ≡ b → (commands_in (suc i) (Do (Act k command) ∷ ts) ≡ reverse (take (get_or (one_more k done) i 0) other.commands)) × (get_or (one_more k done) i 0 ≤ length other.commands)
        by true e =
            let same : suc i ≡ k = eqb-true (suc i) k e in
            let here : i ≡ k - 1 = omega (arith, same) in
            let is : script ≡ other = get_or_from_slice_get c.scripts (k - 1) other no_script (ap (slice_get c.scripts) (sym here) ∙ at) in
            let count : get_or (one_more k done) i 0 ≡ so_far + 1 = ap (λ j. get_or (one_more k done) j 0) here ∙ done-own in
            let less : so_far < length other.commands = subst (λ (s : Script). so_far < length s.commands) is below in (
              ap (λ j. commands_in j (Do (Act k command) ∷ ts)) same ∙ own-more ∙ ap (λ (s : Script). reverse (take (so_far + 1) s.commands)) is ∙ ap (λ n. reverse (take n other.commands)) (sym count),
              omega (arith, count, less),
            )
        by false e =
            let ne : suc i ≢ k = λ same. false≢true (sym e ∙ eq-eqb (suc i) k same) in
            let away : i ≢ k - 1 = λ same. ne (omega (arith, same, of.0)) in
            let was = h.given i other at in
            let count = done-other i away in (
              other-same (suc i) ne ∙ was.0 ∙ ap (λ n. reverse (take n other.commands)) (sym count),
              subst (λ n. n ≤ length other.commands) (sym count) was.1,
            )

    none-more : (i : ℕ) → slice_get c.scripts i ≡ None → commands_in (suc i) (Do (Act k command) ∷ ts) ≡ []
    none-more i at =
        let ne : suc i ≢ k = λ same. (let bad : None ≡ Some script = sym at ∙ ap (slice_get c.scripts) (omega (arith, same, place.is)) ∙ place.found in cc) in
        other-same (suc i) ne ∙ h.none i at

    pub core-act : Core c (Do (Act k command) ∷ ts) (one_more k done)
    core-act = record {
      has = (command-has, h.has);
      actors = h.actors;
      len = length-set done (k - 1) (so_far + 1) ∙ h.len;
      setup = other-same 0 (λ e. omega (arith, e, of.0)) ∙ h.setup;
      given = given-more;
      none = none-more;
    }

  -- Along the steps.

  pub record Good (s : Standing) : Type 0 where
    pub core : Core c s.tasks s.done
    pub phase : PhaseFits c s.phase

  moved : (ts us : List Task) (done new : List ℕ) → us ≡ ts → new ≡ done → Core c ts done → Core c us new
  moved ts us done new e f h = subst (λ z. Core c z new) (sym e) (subst (Core c ts) (sym f) h)

  at-phase : (s t : Phase) → t ≡ s → PhaseFits c s → PhaseFits c t
  at-phase s t e h = subst (PhaseFits c) (sym e) h

  does-nothing : (s t : Standing) → Core c s.tasks s.done → Does [] s t → Core c t.tasks t.done
  does-nothing s t h d = moved s.tasks t.tasks s.done t.done d.tasks d.done h

  goes-behind : (s t : Standing) (k : ℕ) → IsScript c k → Core c s.tasks s.done → GoesOn c k [] s t → Core c t.tasks t.done
  goes-behind s t k of h g = moved (Do (Act k g.command) ∷ s.tasks) t.tasks (one_more k s.done) t.done g.tasks g.done (core-act s.tasks s.done h k of g.command g.is)

  goes-drained : (s t : Standing) (k : ℕ) → IsScript c k → Core c s.tasks s.done → GoesOn c k (Drain 0 ∷ []) s t → Core c t.tasks t.done
  goes-drained s t k of h g =
      moved (Drain 0 ∷ Do (Act k g.command) ∷ s.tasks) t.tasks (one_more k s.done) t.done g.tasks g.done
      (core-drain (Do (Act k g.command) ∷ s.tasks) (one_more k s.done) (core-act s.tasks s.done h k of g.command g.is))

  good-step : (s t : Standing) (phase : Phase) → Core c s.tasks s.done → PhaseFits c phase → ComesIn c phase s t → Good t
  good-step s t (InSchedule []) h f x = record { core = does-nothing s t h x.0; phase = at-phase (InRound (all_scripts c)) t.phase x.1 (all-fit c) }
  good-step s t (InSchedule (steps.Step k ∷ ahead)) h f x = record { core = by x.0; phase = at-phase (InSchedule ahead) t.phase x.1 f.1 }
    where
      by : GoesOn c k [] s t ⊎ (Tells c k s false × Does [] s t) → Core c t.tasks t.done
      by (inl g) = goes-behind s t k f.0 h g
      by (inr d) = does-nothing s t h d.1
  good-step s t (InSchedule (steps.Deliver a b ∷ ahead)) h f x =
      record { core = moved (Do (Deliver 0 a b) ∷ s.tasks) t.tasks s.done t.done x.0.tasks x.0.done (core-deliver s.tasks s.done a b f.0 h); phase = at-phase (InSchedule ahead) t.phase x.1 f.1 }
  good-step s t (InSchedule (steps.Drain ∷ ahead)) h f x =
      record { core = moved (Drain 0 ∷ s.tasks) t.tasks s.done t.done x.0.tasks x.0.done (core-drain s.tasks s.done h); phase = at-phase (InSchedule ahead) t.phase x.1 f.1 }
  good-step s t (InRound []) h f x =
      record { core = moved (Drain 0 ∷ s.tasks) t.tasks s.done t.done x.0.tasks x.0.done (core-drain s.tasks s.done h); phase = at-phase BehindRound t.phase x.1 tt }
  good-step s t (InRound (k ∷ ahead)) h f (inl g) = record { core = goes-drained s t k f.0 h g.0; phase = at-phase (InRound (k ∷ ahead)) t.phase g.1 f }
  good-step s t (InRound (k ∷ ahead)) h f (inr d) = record { core = does-nothing s t h d.1; phase = at-phase (InRound ahead) t.phase d.2 f.1 }
  good-step s t BehindRound h f x = record { core = does-nothing s t h x.1; phase = at-phase (InRound (all_scripts c)) t.phase x.2 (all-fit c) }

  pub good : (s : Standing) → Follows c (opened c) s → Good s
  good _ Begins = record { core = core-opened; phase = steps-fit c keeps [] c.schedule keeps.schedule }
  good _ (Then t u f x) = (let g = good t f in good-step t u t.phase g.core g.phase x)

  -- So each task may be done.

  few : (ts : List Task) (done : List ℕ) → Core c ts done → (k : ℕ) → 1 ≤ k → length (commands_in k ts) ≤ LOAD_LIMIT
  few ts done h zero low = absurd (omega (arith, low))
  few ts done h (suc i) low = go (slice_get c.scripts i) refl
    where
      go : (o : Option Script) → slice_get c.scripts i ≡ o → length (commands_in (suc i) ts) ≤ LOAD_LIMIT
      go None e = (let none = ap length (h.none i e) in omega (arith, none))
      go (Some script) e =
          let given = h.given i script e in
          let all = ap length given.0 in
          let turned = length-reverse (take (get_or done i 0) script.commands) in
          let front = length-take-le (get_or done i 0) script.commands given.1 in
          let most = given.1 in
          let limit = few-scripts c.layout c.version c.sites i c.scripts script keeps.scripts e in
          omega (arith, all, turned, front, most, limit)

  pub core-may : (ts : List Task) (done : List ℕ) → Core c ts done → MayAll c.layout ts
  core-may ts done h = may-all c.layout shape ts h.has (few ts done h)
