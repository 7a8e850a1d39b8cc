-- Tasks: an event, or a drain. A drain is whole rounds of deliveries, so many that one more would serve nothing.
-- l is a layout, es are events and ts are tasks, both with the latest first, o is a packet with the place that it goes
-- to.
use Rattle.std.specs.Prelude.{ℕ, ◌≡◌, ◌⊎◌, true, List, [], ◌∷◌, ◌++◌, Some, is_some, slice_get}
use Rattle.std.specs.List.{All}
use Rattle.chorus_ui.specs.declared.ui.Ui.{Ui}
use Rattle.chorus_ui.specs.declared.layout.Layout.{Layout}
use Rattle.chorus_ui.specs.Layout.{IsLayout}
use Rattle.chorus_entry.specs.declared.command.Command.{Command}
use Rattle.chorus_world.specs.Commands.{performs}
use Rattle.law_network.specs.Network.{Event, Deliver, schedule, round, rounds, served, drained}
use Rattle.law_network.specs.Stands.{actor_of}
use Rattle.law_network.specs.Schedules.{command_in, commands_of, may_happen, may_be, OfSchedules}
use Rattle.law_network.specs.Left.{packets_left, merged_past}
use Rattle.law_network.specs.Quiet.{IsQuiet}

pub data Task : Type 0 where
  Do : (event : Event) → Task
  Drain : (seat : ℕ) → Task

-- the events are those older ones and then whole rounds of the seat, and one more round would serve nothing
pub record IsDrain (l : Layout) (seat : ℕ) (older es : List Event) : Type 0 where
  pub count : ℕ
  pub rounds : es ≡ rounds l seat count ++ older
  pub dry : served (round l seat) (schedule l es) ≡ 0

-- the events carry out the tasks
abbrev pub CarryOut : Layout → List Task → List Event → Type 0
CarryOut l [] es = es ≡ []
CarryOut l (Do event ∷ ts) es = (older : List Event) × ((es ≡ event ∷ older) × CarryOut l ts older)
CarryOut l (Drain seat ∷ ts) es = (older : List Event) × (IsDrain l seat older es × CarryOut l ts older)

-- the commands that the tasks give for a seat, the latest first
abbrev pub commands_in : ℕ → List Task → List Command
commands_in seat [] = []
commands_in seat (Do event ∷ ts) = command_in seat event (commands_in seat ts)
commands_in seat (Drain drainer ∷ ts) = commands_in seat ts

-- whatever number of rounds, what the tasks leave is one network
abbrev pub CarriedOutOnce : Type 0
CarriedOutOnce = (l : Layout) (ts : List Task) (es fs : List Event) → CarryOut l ts es → CarryOut l ts fs →
    schedule l es ≡ schedule l fs

-- each event may happen when the tasks before it are carried out, and who drains has come by then
abbrev pub MayAll : Layout → List Task → Type 0
MayAll l [] = Unit {0}
MayAll l (Do event ∷ ts) =
    ((es : List Event) → CarryOut l ts es → may_happen event (schedule l es) ≡ true) × MayAll l ts
MayAll l (Drain seat ∷ ts) =
    ((es : List Event) → CarryOut l ts es → is_some (slice_get (schedule l es).callers seat) ≡ true) × MayAll l ts

-- then there are events that carry out the tasks, and that may be
abbrev pub TasksCarriedOut : Type 0
TasksCarriedOut =
    (l : Layout) (ts : List Task) → IsLayout l → MayAll l ts →
    (es : List Event) × (CarryOut l ts es × (may_be l es ≡ true))

-- some number of rounds leaves no packet
abbrev pub DrainsEnd : Type 0
DrainsEnd = OfSchedules (λ l es n. (seat : ℕ) → is_some (slice_get n.callers seat) ≡ true →
    (most : ℕ) × ((drained seat most n).packets ≡ []))

-- so a drain leaves no packet
abbrev pub DrainsLeaveNothing : Type 0
DrainsLeaveNothing =
    (l : Layout) (seat : ℕ) (older es : List Event) → IsLayout l → may_be l es ≡ true →
    is_some (slice_get (schedule l es).callers seat) ≡ true → IsDrain l seat older es → (schedule l es).packets ≡ []

-- and after a last drain nothing is left to be done
abbrev pub DrainsRest : Type 0
DrainsRest =
    (l : Layout) (seat : ℕ) (ts : List Task) (es : List Event) → IsLayout l → may_be l es ≡ true →
    CarryOut l (Drain seat ∷ ts) es →
    is_some (slice_get (schedule l es).callers seat) ≡ true →
    IsQuiet l (merged_past (schedule l es)) (packets_left (schedule l es))

-- Where a call stops before its tasks are carried out, a front of them was.

-- deliveries of the seat
abbrev pub AreDeliveries : ℕ → List Event → Type 0
AreDeliveries seat es = All (λ (e : Event). (a : ℕ) × ((b : ℕ) × (e ≡ Deliver seat a b))) es

-- the events carry out the first of the tasks, and of a drain behind these some deliveries
abbrev pub CarryFront : Layout → List Task → List Event → Type 0
CarryFront l [] es = es ≡ []
CarryFront l (Do event ∷ ts) es = CarryOut l (Do event ∷ ts) es ⊎ CarryFront l ts es
CarryFront l (Drain seat ∷ ts) es =
    ((done : List Event) × ((older : List Event) × ((es ≡ done ++ older) × AreDeliveries seat done ×
    CarryOut l ts older))) ⊎ CarryFront l ts es

-- so the commands that the events gave are the first of those of the tasks, and the merge performs them; both with the
-- latest first
pub record PerformsFront (l : Layout) (ts : List Task) (es : List Event) (seat : ℕ) (actor : Ui) : Type 0 where
  pub later : List Command
  pub front : commands_in seat ts ≡ later ++ commands_of seat es
  pub performed : performs l seat actor (merged_past (schedule l es)) (commands_of seat es) ≡ true

abbrev pub FrontsPerformed : Type 0
FrontsPerformed =
    (l : Layout) (ts : List Task) (es : List Event) (seat : ℕ) (actor : Ui) → IsLayout l → may_be l es ≡ true →
    CarryFront l ts es →
    actor_of (schedule l es) seat ≡ Some actor → PerformsFront l ts es seat actor
