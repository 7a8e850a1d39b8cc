-- The order of a replay, step by step, since what is done next depends on what came of it: an await comes only where it
-- may. A schedule is followed first, and then the scripts go on in rounds.
-- c is a scenario, k the number of a script and of its seat, s and t say how far a replay has come, n is a network.
use Rattle.std.specs.Prelude.{ℕ, ◌≡◌, ◌≤◌, ◌⊎◌, ◌+◌, ◌-◌, Bool, true, false, not, ◌||◌, List, [], ◌∷◌, ◌++◌, map, reverse, length, slice_get, slice_index_or, slice_set, Option, Some, None}
use Rattle.chorus_entry.specs.declared.command.Command.{Command}
use Rattle.law_awaits.specs.Awaits.{would_take}
use Rattle.law_network.specs.Network.{NetState, Event, Act, Deliver, schedule}
use Rattle.law_network.specs.Tasks.{Task, Do, Drain, CarryOut}
use Rattle.chorus_show.specs.declared.status.Status.{Status}
use Rattle.chorus_show.specs.declared.status.Status.TheVariants.{Worn}
use Rattle.chorus_scene.specs.Scene.{Scene, Script, is_await}
use Rattle.chorus_scene.specs.Grammar.{script_at}
use Rattle.chorus_scene.specs.declared.scenario.Step as step
use Rattle.chorus_scene.specs.declared.scenario.Step.TheVariants as steps
use Rattle.chorus_report.specs.Awaiting.{all_scripts}
use Rattle.chorus_replay.specs.Order.{opening_order}

-- the schedule is followed, with these steps ahead; the scripts go on, one after the other, with these ahead in the
-- round; or a round is over
pub data Phase : Type 0 where
  InSchedule : (ahead : List step.Step) → Phase
  InRound : (ahead : List ℕ) → Phase
  BehindRound : Phase

-- the tasks so far, the latest first; of each script how many commands were done; and the phase
pub record Standing : Type 0 where
  pub tasks : List Task
  pub done : List ℕ
  pub phase : Phase

-- Whether a script's next command may come: an await only where a message would be received.

abbrev pub done_by : List ℕ → ℕ → ℕ
done_by done k = slice_index_or done (k - 1) 0

abbrev pub next_command : Scene → List ℕ → ℕ → Option Command
next_command c done k = slice_get (script_at k c.scripts).commands (done_by done k)

abbrev pub may_by : Bool → ℕ → Option Command → NetState → Bool
may_by waits k None n = false
may_by waits k (Some command) n = not waits || would_take k command n

abbrev pub may_go_on : Scene → List ℕ → ℕ → NetState → Bool
may_go_on c done k n =
    may_by (is_await (script_at k c.scripts).waits (done_by done k)) k (next_command c done k) n

-- it may, or not, on the network that events leave which carry out the tasks so far
pub record Tells (c : Scene) (k : ℕ) (s : Standing) (b : Bool) : Type 0 where
  pub events : List Event
  pub carried : CarryOut c.layout s.tasks events
  pub is : may_go_on c s.done k (schedule c.layout events) ≡ b

-- What is done in a step.

abbrev pub one_more : ℕ → List ℕ → List ℕ
one_more k done = slice_set done (k - 1) (done_by done k + 1)

-- script k does its next command, which may come, and these tasks stand behind it
pub record GoesOn (c : Scene) (k : ℕ) (behind : List Task) (s t : Standing) : Type 0 where
  pub command : Command
  pub is : next_command c s.done k ≡ Some command
  pub may : Tells c k s true
  pub tasks : t.tasks ≡ behind ++ Do (Act k command) ∷ s.tasks
  pub done : t.done ≡ one_more k s.done

-- these tasks are done, and no command of a script
pub record Does (ts : List Task) (s t : Standing) : Type 0 where
  pub tasks : t.tasks ≡ ts ++ s.tasks
  pub done : t.done ≡ s.done

abbrev pub IsScript : Scene → ℕ → Type 0
IsScript c k = (1 ≤ k) × (k ≤ length c.scripts)

-- A step of the schedule does the next command of its script, or nothing where that is an await that may not come. In a
-- round each script goes on, with a drain behind each command, until it is done or its await may not come; a drain ends
-- the round. As long as then some script may go on, a further round follows.
abbrev pub ComesIn : Scene → Phase → Standing → Standing → Type 0
ComesIn c (InSchedule []) s t = Does [] s t × (t.phase ≡ InRound (all_scripts c))
ComesIn c (InSchedule (steps.Step k ∷ ahead)) s t =
    (GoesOn c k [] s t ⊎ (Tells c k s false × Does [] s t)) × (t.phase ≡ InSchedule ahead)
ComesIn c (InSchedule (steps.Deliver a b ∷ ahead)) s t =
    Does (Do (Deliver 0 a b) ∷ []) s t × (t.phase ≡ InSchedule ahead)
ComesIn c (InSchedule (steps.Drain ∷ ahead)) s t = Does (Drain 0 ∷ []) s t × (t.phase ≡ InSchedule ahead)
ComesIn c (InRound []) s t = Does (Drain 0 ∷ []) s t × (t.phase ≡ BehindRound)
ComesIn c (InRound (k ∷ ahead)) s t =
    (GoesOn c k (Drain 0 ∷ []) s t × (t.phase ≡ InRound (k ∷ ahead)))
    ⊎ (Tells c k s false × Does [] s t × (t.phase ≡ InRound ahead))
ComesIn c BehindRound s t =
    ((k : ℕ) × IsScript c k × Tells c k s true) × Does [] s t × (t.phase ≡ InRound (all_scripts c))

-- t comes so, step by step, behind s
pub data Follows (c : Scene) (s : Standing) : Standing → Type 0 where
  Begins : Follows c s s
  Then : (t u : Standing) → Follows c s t → ComesIn c t.phase t u → Follows c s u

-- where the sites were started, the setup was done and the callers of the scripts came
abbrev pub opened : Scene → Standing
opened c =
    record {
      tasks = reverse (opening_order c);
      done = map (λ (script : Script). 0) c.scripts;
      phase = InSchedule c.schedule;
    }

-- a round is over, and no script may go on
pub record IsOver (c : Scene) (s : Standing) : Type 0 where
  pub phase : s.phase ≡ BehindRound
  pub none : (k : ℕ) → IsScript c k → Tells c k s false

abbrev pub IsOverUnless : Status → Scene → Standing → Type 0
IsOverUnless (Worn clock) c s = Unit {0}
IsOverUnless status c s = IsOver c s
