-- The steps of a replay are one: what comes next is told, so of two replays one is as far as the other, or farther.
-- c is a scenario, s, t, u and v say how far a replay has come.
use Rattle.std.proofs.Common.{ℕ, ◌≡◌, ◌⊎◌, true, false, List, [], ◌∷◌, ◌++◌, Some, refl, sym, ◌∙◌, ap, subst, inl, inr, append_assoc}
use Rattle.std.proofs.lemmas.Bool.{false≢true}
use Rattle.chorus_ui.specs.declared.layout.Layout.{Layout}
use Rattle.chorus_net.specs.declared.closed.Closed.{Closed}
use Rattle.law_network.specs.Network.{Act, Deliver}
use Rattle.law_network.specs.Tasks.{Task, Do, Drain}
use Rattle.law_network.proofs.Draining.Drains.{carried-out-once}
use Rattle.chorus_show.specs.declared.status.Status.{Status}
use Rattle.chorus_scene.specs.declared.scenario.Step.TheVariants as steps
use Rattle.chorus_scene.specs.Scene.{Scene}
use Rattle.chorus_replay.specs.Ordered.{IsOrdered}
use Rattle.chorus_replay.specs.Waiting.{Phase, InSchedule, InRound, BehindRound, Standing, Follows, Begins, Then, ComesIn, GoesOn, Does, Tells, IsOver, IsOverUnless, may_go_on}
use Rattle.chorus_replay.proofs.Stepping.{comes-more}

-- Two standings with the same parts are one.

same-standing : (s t : Standing) → s.tasks ≡ t.tasks → s.done ≡ t.done → s.phase ≡ t.phase → s ≡ t
same-standing s t a b d = λ i. record { tasks = a i; done = b i; phase = d i }

module _ (c : Scene) where
  -- a script may go on or not
  not-both : (k : ℕ) (s : Standing) → Tells c k s true → Tells c k s false → ⊥
  not-both k s a b =
      false≢true (sym b.is ∙ ap (may_go_on c s.done k) (carried-out-once c.layout s.tasks b.events a.events b.carried a.carried) ∙ a.is)

  goes-once : (k : ℕ) (behind : List Task) (s t u : Standing) → GoesOn c k behind s t → GoesOn c k behind s u → (t.tasks ≡ u.tasks) × (t.done ≡ u.done)
  goes-once k behind s t u a b =
      let same : a.command ≡ b.command = (let both : Some a.command ≡ Some b.command = sym a.is ∙ b.is in cc) in
      (a.tasks ∙ ap (λ x. behind ++ Do (Act k x) ∷ s.tasks) same ∙ sym b.tasks, a.done ∙ sym b.done)

  does-once : (ts : List Task) (s t u : Standing) → Does ts s t → Does ts s u → (t.tasks ≡ u.tasks) × (t.done ≡ u.done)
  does-once ts s t u a b = (a.tasks ∙ sym b.tasks, a.done ∙ sym b.done)

  once : (phase : Phase) (s t u : Standing) → ComesIn c phase s t → ComesIn c phase s u → t ≡ u
  once (InSchedule []) s t u a b = (let d = does-once [] s t u a.0 b.0 in same-standing t u d.0 d.1 (a.1 ∙ sym b.1))
  once (InSchedule (steps.Step k ∷ ahead)) s t u a b = by a.0 b.0
    where
      by : GoesOn c k [] s t ⊎ (Tells c k s false × Does [] s t) → GoesOn c k [] s u ⊎ (Tells c k s false × Does [] s u) → t ≡ u
      by (inl x) (inl y) = (let d = goes-once k [] s t u x y in same-standing t u d.0 d.1 (a.1 ∙ sym b.1))
      by (inl x) (inr y) = absurd (not-both k s x.may y.0)
      by (inr x) (inl y) = absurd (not-both k s y.may x.0)
      by (inr x) (inr y) = (let d = does-once [] s t u x.1 y.1 in same-standing t u d.0 d.1 (a.1 ∙ sym b.1))
  once (InSchedule (steps.Deliver x y ∷ ahead)) s t u a b = (let d = does-once (Do (Deliver 0 x y) ∷ []) s t u a.0 b.0 in same-standing t u d.0 d.1 (a.1 ∙ sym b.1))
  once (InSchedule (steps.Drain ∷ ahead)) s t u a b = (let d = does-once (Drain 0 ∷ []) s t u a.0 b.0 in same-standing t u d.0 d.1 (a.1 ∙ sym b.1))
  once (InRound []) s t u a b = (let d = does-once (Drain 0 ∷ []) s t u a.0 b.0 in same-standing t u d.0 d.1 (a.1 ∙ sym b.1))
  once (InRound (k ∷ ahead)) s t u (inl x) (inl y) = (let d = goes-once k (Drain 0 ∷ []) s t u x.0 y.0 in same-standing t u d.0 d.1 (x.1 ∙ sym y.1))
  once (InRound (k ∷ ahead)) s t u (inl x) (inr y) = absurd (not-both k s x.0.may y.0)
  once (InRound (k ∷ ahead)) s t u (inr x) (inl y) = absurd (not-both k s y.0.may x.0)
  once (InRound (k ∷ ahead)) s t u (inr x) (inr y) = (let d = does-once [] s t u x.1 y.1 in same-standing t u d.0 d.1 (x.2 ∙ sym y.2))
  once BehindRound s t u a b = (let d = does-once [] s t u a.1 b.1 in same-standing t u d.0 d.1 (a.2 ∙ sym b.2))

  -- the first step of those that follow
  abbrev First : Standing → Standing → Type 0
  First s t = (s ≡ t) ⊎ ((v : Standing) × (ComesIn c s.phase s v × Follows c v t))

  first : (s t : Standing) → Follows c s t → First s t
  first s _ Begins = inl refl
  first s _ (Then t u f x) = by (first s t f)
    where
      by : First s t → First s u
      by (inl e) = inr (u, (subst (λ (z : Standing). ComesIn c z.phase z u) (sym e) x, Begins))
      by (inr h) = inr (h.0, (h.1.0, Then t u h.1.1 x))

  -- one is as far as the other, or farther
  pub either : (s t u : Standing) → Follows c s t → Follows c s u → Follows c t u ⊎ Follows c u t
  either s _ u Begins g = inl g
  either s _ u (Then t v f x) g = by (either s t u f g)
    where
      by-first : First t u → Follows c v u ⊎ Follows c u v
      by-first (inl e) = inr (subst (λ z. Follows c z v) e (Then t v Begins x))
      by-first (inr h) = inl (subst (λ z. Follows c z u) (once t.phase t h.0 v h.1.0 x) h.1.1)

      by : Follows c t u ⊎ Follows c u t → Follows c v u ⊎ Follows c u v
      by (inl h) = by-first (first t u h)
      by (inr h) = inr (Then t v h x)

  -- nothing comes behind one that is over
  none-behind : (s t : Standing) → IsOver c s → ComesIn c s.phase s t → ⊥
  none-behind s t over x =
      let y : ComesIn c BehindRound s t = subst (λ p. ComesIn c p s t) over.phase x in
      not-both y.0.0 s y.0.2 (over.none y.0.0 y.0.1)

  pub ends-there : (s t : Standing) → IsOver c s → Follows c s t → s ≡ t
  ends-there s t over f = by (first s t f)
    where
      by : First s t → s ≡ t
      by (inl e) = e
      by (inr h) = absurd (none-behind s h.0 over h.1.0)

  -- what comes behind has its tasks in front
  more-step : (phase : Phase) (s t : Standing) → ComesIn c phase s t → (newer : List Task) × (t.tasks ≡ newer ++ s.tasks)
  more-step (InSchedule []) s t x = ([], x.0.tasks)
  more-step (InSchedule (steps.Step k ∷ ahead)) s t x = by x.0
    where
      by : GoesOn c k [] s t ⊎ (Tells c k s false × Does [] s t) → (newer : List Task) × (t.tasks ≡ newer ++ s.tasks)
      by (inl g) = (Do (Act k g.command) ∷ [], g.tasks)
      by (inr d) = ([], d.1.tasks)
  more-step (InSchedule (steps.Deliver a b ∷ ahead)) s t x = (Do (Deliver 0 a b) ∷ [], x.0.tasks)
  more-step (InSchedule (steps.Drain ∷ ahead)) s t x = (Drain 0 ∷ [], x.0.tasks)
  more-step (InRound []) s t x = (Drain 0 ∷ [], x.0.tasks)
  more-step (InRound (k ∷ ahead)) s t (inl g) = (Drain 0 ∷ Do (Act k g.0.command) ∷ [], g.0.tasks)
  more-step (InRound (k ∷ ahead)) s t (inr d) = ([], d.1.tasks)
  more-step BehindRound s t x = ([], x.1.tasks)

  pub more-tasks : (s t : Standing) → Follows c s t → (newer : List Task) × (t.tasks ≡ newer ++ s.tasks)
  more-tasks s _ Begins = ([], refl)
  more-tasks s _ (Then t u f x) =
      let one = more-step t.phase t u x in
      let less = more-tasks s t f in
      (one.0 ++ less.0, one.1 ∙ ap (λ ts. one.0 ++ ts) less.1 ∙ sym (append_assoc one.0 less.0 s.tasks))

-- a clock that is worn at one of the tasks is so where tasks stand behind
pub worn-more : (l : Layout) (newer ts us : List Task) (clock : ℕ) (closed : Closed) → us ≡ newer ++ ts → IsOrdered l ts (Status.Worn clock) closed → IsOrdered l us (Status.Worn clock) closed
worn-more l newer ts us clock closed e h = subst (λ zs. IsOrdered l zs (Status.Worn clock) closed) (sym e) (record {
  events = h.events;
  may = h.may;
  unworn = h.unworn;
  carried = record { next = h.carried.next; comes = comes-more l newer ts h.carried.next h.events h.carried.comes; is = h.carried.is; worn = h.carried.worn };
  closes = h.closes;
})

-- so what was closed in the order of one was closed in that of what comes behind, which is none where it was over
pub ordered-behind : (c : Scene) (s t : Standing) (status : Status) (closed : Closed) → Follows c s t → IsOverUnless status c s → IsOrdered c.layout s.tasks status closed → IsOrdered c.layout t.tasks status closed
ordered-behind c s t Status.Done closed f over h = subst (λ (z : Standing). IsOrdered c.layout z.tasks Status.Done closed) (ends-there c s t over f) h
ordered-behind c s t Status.Usage closed f over h = subst (λ (z : Standing). IsOrdered c.layout z.tasks Status.Usage closed) (ends-there c s t over f) h
ordered-behind c s t (Status.Scenario line reason) closed f over h = subst (λ (z : Standing). IsOrdered c.layout z.tasks (Status.Scenario line reason) closed) (ends-there c s t over f) h
ordered-behind c s t Status.ReadFault closed f over h = subst (λ (z : Standing). IsOrdered c.layout z.tasks Status.ReadFault closed) (ends-there c s t over f) h
ordered-behind c s t Status.WriteFault closed f over h = subst (λ (z : Standing). IsOrdered c.layout z.tasks Status.WriteFault closed) (ends-there c s t over f) h
ordered-behind c s t Status.Memory closed f over h = subst (λ (z : Standing). IsOrdered c.layout z.tasks Status.Memory closed) (ends-there c s t over f) h
ordered-behind c s t (Status.Worn clock) closed f over h = (let more = more-tasks c s t f in worn-more c.layout more.0 s.tasks t.tasks clock closed more.1 h)
