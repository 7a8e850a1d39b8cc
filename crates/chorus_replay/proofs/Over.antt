-- What was closed where a replay was over, or where a clock was worn, plays its scenario as far as it came.
-- c is a scenario, s says how far a replay has come.
use Rattle.std.proofs.Common.{ℕ, zero, suc, ◌≡◌, List, [], ◌∷◌, take, reverse, get_or, Option, Some, None, slice_get, refl, sym, ◌∙◌, ap, inl, inr}
use Rattle.std.specs.Option.{option_map}
use Rattle.chorus_ui.specs.Layout.{IsLayout}
use Rattle.chorus_entry.specs.declared.command.Command.{Command}
use Rattle.chorus_net.specs.declared.closed.Closed.{Closed}
use Rattle.chorus_net.specs.Closing.{past_of}
use Rattle.law_network.specs.Tasks.{Task, Drain, commands_in}
use Rattle.chorus_show.specs.declared.status.Status.{Status}
use Rattle.chorus_scene.specs.declared.scenario.Step.TheVariants as steps
use Rattle.chorus_scene.specs.Scene.{Scene, Script}
use Rattle.chorus_scene.specs.Limits.{Keeps}
use Rattle.chorus_report.specs.Awaiting.{fronts_of, StandsUnless}
use Rattle.chorus_report.specs.Headline.{Plays, callers_of}
use Rattle.chorus_report.specs.Setup.{setup_commands}
use Rattle.chorus_report.proofs.Playing.{past-is}
use Rattle.chorus_replay.proofs.Callers.{AreComers}
use Rattle.chorus_replay.specs.Ordered.{IsOrdered}
use Rattle.chorus_replay.specs.Waiting.{Phase, InSchedule, InRound, BehindRound, Standing, Follows, Begins, Then, ComesIn, IsOver, IsOverUnless, opened}
use Rattle.chorus_replay.proofs.Awaited.{stands}
use Rattle.chorus_replay.proofs.Determined.{worn-more}
use Rattle.chorus_replay.proofs.Plays.{AreOf, plays}
use Rattle.chorus_replay.proofs.Standings.{Core, comers-of, good}

-- a drain ends a round
ends-drained : (c : Scene) (phase : Phase) (s t : Standing) → ComesIn c phase s t → t.phase ≡ BehindRound → (before : List Task) × (t.tasks ≡ Drain 0 ∷ before)
ends-drained c (InSchedule []) s t x e = absurd (let bad : InRound _ ≡ BehindRound = sym x.1 ∙ e in cc)
ends-drained c (InSchedule (steps.Step k ∷ ahead)) s t x e = absurd (let bad : InSchedule ahead ≡ BehindRound = sym x.1 ∙ e in cc)
ends-drained c (InSchedule (steps.Deliver a b ∷ ahead)) s t x e = absurd (let bad : InSchedule ahead ≡ BehindRound = sym x.1 ∙ e in cc)
ends-drained c (InSchedule (steps.Drain ∷ ahead)) s t x e = absurd (let bad : InSchedule ahead ≡ BehindRound = sym x.1 ∙ e in cc)
ends-drained c (InRound []) s t x e = (s.tasks, x.0.tasks)
ends-drained c (InRound (k ∷ ahead)) s t (inl g) e = absurd (let bad : InRound (k ∷ ahead) ≡ BehindRound = sym g.1 ∙ e in cc)
ends-drained c (InRound (k ∷ ahead)) s t (inr d) e = absurd (let bad : InRound ahead ≡ BehindRound = sym d.2 ∙ e in cc)
ends-drained c BehindRound s t x e = absurd (let bad : InRound _ ≡ BehindRound = sym x.2 ∙ e in cc)

last-drain : (c : Scene) (s : Standing) → Follows c (opened c) s → s.phase ≡ BehindRound → (before : List Task) × (s.tasks ≡ Drain 0 ∷ before)
last-drain c _ Begins e = absurd (let bad : InSchedule c.schedule ≡ BehindRound = e in cc)
last-drain c _ (Then t u f x) e = ends-drained c t.phase t u x e

module _ (c : Scene) (shape : IsLayout c.layout) (keeps : Keeps c) (s : Standing) (f : Follows c (opened c) s) where
  abbrev core : Core c s.tasks s.done
  core = (good c shape keeps s f).core

  gives : (k : ℕ) (given : List Command) → fronts_of c s.done k ≡ Some given → commands_in k s.tasks ≡ reverse given
  gives zero given h = (let same : setup_commands c ≡ given = cc in core.setup ∙ ap reverse same)
  gives (suc i) given h = go (slice_get c.scripts i) refl h
    where
      go : (o : Option Script) → slice_get c.scripts i ≡ o → option_map (λ (script : Script). take (get_or s.done i 0) script.commands) o ≡ Some given → commands_in (suc i) s.tasks ≡ reverse given
      go None e k = absurd (cc)
      go (Some script) e k = (let same : take (get_or s.done i 0) script.commands ≡ given = cc in (core.given i script e).0 ∙ ap reverse same)

  -- the tasks, or these and a drain
  are-of : (ts before : List Task) → ts ≡ Drain 0 ∷ before → ((k : ℕ) → commands_in k ts ≡ commands_in k s.tasks) → AreComers ts (callers_of c) → AreOf ts (callers_of c) (fronts_of c s.done)
  are-of ts before last same come = record { come = come; first = refl; give = λ k given h. same k ∙ gives k given h; before = before; last = last }

  plays-over : (status : Status) (closed : Closed) → IsOver c s → IsOrdered c.layout s.tasks status closed → Plays c.layout (callers_of c) (fronts_of c s.done) status closed
  plays-over status closed over h =
      let last = last-drain c s f over.phase in
      plays c.layout s.tasks (callers_of c) (fronts_of c s.done) (are-of s.tasks last.0 last.1 (λ k. refl) (comers-of c shape keeps s.tasks s.done core)) shape status closed h

  plays-worn : (clock : ℕ) (closed : Closed) → IsOrdered c.layout s.tasks (Status.Worn clock) closed → Plays c.layout (callers_of c) (fronts_of c s.done) (Status.Worn clock) closed
  plays-worn clock closed h =
      let ts = Drain 0 ∷ s.tasks in
      plays c.layout ts (callers_of c) (fronts_of c s.done) (are-of ts s.tasks refl (λ k. refl) (comers-of c shape keeps s.tasks s.done core)) shape (Status.Worn clock) closed
      (worn-more c.layout (Drain 0 ∷ []) s.tasks ts clock closed refl h)

  pub plays-so-far : (status : Status) (closed : Closed) → IsOverUnless status c s → IsOrdered c.layout s.tasks status closed → Plays c.layout (callers_of c) (fronts_of c s.done) status closed
  plays-so-far Status.Done closed over h = plays-over Status.Done closed over h
  plays-so-far Status.Usage closed over h = plays-over Status.Usage closed over h
  plays-so-far (Status.Scenario line reason) closed over h = plays-over (Status.Scenario line reason) closed over h
  plays-so-far Status.ReadFault closed over h = plays-over Status.ReadFault closed over h
  plays-so-far Status.WriteFault closed over h = plays-over Status.WriteFault closed over h
  plays-so-far Status.Memory closed over h = plays-over Status.Memory closed over h
  plays-so-far (Status.Worn clock) closed over h = plays-worn clock closed h

  -- and what is left is stuck
  pub stands-over : (status : Status) (closed : Closed) → IsOverUnless status c s → IsOrdered c.layout s.tasks status closed → StandsUnless status c.layout c s.done (past_of closed)
  stands-over Status.Done closed over h = stands c shape keeps s f over h.events h.carried (past_of closed) (past-is c.layout shape closed h.events h.may h.closes.left)
  stands-over Status.Usage closed over h = stands c shape keeps s f over h.events h.carried (past_of closed) (past-is c.layout shape closed h.events h.may h.closes.left)
  stands-over (Status.Scenario line reason) closed over h = stands c shape keeps s f over h.events h.carried (past_of closed) (past-is c.layout shape closed h.events h.may h.closes.left)
  stands-over Status.ReadFault closed over h = stands c shape keeps s f over h.events h.carried (past_of closed) (past-is c.layout shape closed h.events h.may h.closes.left)
  stands-over Status.WriteFault closed over h = stands c shape keeps s f over h.events h.carried (past_of closed) (past-is c.layout shape closed h.events h.may h.closes.left)
  stands-over Status.Memory closed over h = stands c shape keeps s f over h.events h.carried (past_of closed) (past-is c.layout shape closed h.events h.may h.closes.left)
  stands-over (Status.Worn clock) closed over h = tt
