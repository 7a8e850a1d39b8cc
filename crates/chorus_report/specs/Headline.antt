-- What a top call promises of what it closed.
-- l is a layout, c a scenario, k a seat.
use Rattle.std.specs.Prelude.{ℕ, ◌≡◌, ◌+◌, ◌⊎◌, true, List, [], ◌∷◌, ◌++◌, length, map, reverse, Option, Some, Ok, slice_get}
use Rattle.chorus_ui.specs.declared.ui.Ui.{Ui}
use Rattle.chorus_ui.specs.declared.layout.Layout.{Layout}
use Rattle.chorus_ui.specs.Layout.{places}
use Rattle.chorus_entry.specs.declared.entry.Entry.{Entry}
use Rattle.chorus_entry.specs.declared.command.Command.{Command}
use Rattle.chorus_world.specs.Views.{at}
use Rattle.chorus_world.specs.Runs.{is_run}
use Rattle.chorus_world.specs.Commands.{performs}
use Rattle.chorus_world.specs.Always.{Always}
use Rattle.chorus_world.specs.AcceptedLaws.{ReceivesInOrder}
use Rattle.chorus_net.specs.declared.closed.Closed.{Closed}
use Rattle.chorus_net.specs.Closing.{closed_journals, holdings_of, merge_of, past_of}
use Rattle.law_network.specs.Calls.{first_actor}
use Rattle.law_network.specs.Holdings.{StandsFor}
use Rattle.law_network.specs.Quiet.{IsQuiet}
use Rattle.chorus_show.specs.Bounds.{AreWithin}
use Rattle.chorus_show.specs.declared.status.Status.{Status}
use Rattle.chorus_show.specs.declared.status.Status.TheVariants.{Worn}
use Rattle.chorus_scene.specs.Scene.{Scene, Script, HasNoWait}
use Rattle.law_network.specs.Fates.{HoldsByFate, WorldHolds}
use Rattle.chorus_report.specs.Setup.{setup_commands}
use Rattle.chorus_report.specs.Awaiting.{fronts_of, StandsUnless}
use Rattle.chorus_report.specs.Reading.{IsGiven, IsGivenNoWait}

-- an entry of the list has this clock
abbrev pub HasClock : ℕ → List Entry → Type 0
HasClock clock [] = ⊥
HasClock clock (e ∷ es) = (e.clock ≡ clock) ⊎ HasClock clock es

-- it performs these commands of a seat, each once and in their order, by the entry that answers it
abbrev pub PerformsAll : Layout → ℕ → Ui → Closed → List Command → Type 0
PerformsAll l k actor closed commands = performs l k actor (past_of closed) (reverse commands) ≡ true

-- or the first of them, where a clock was worn
abbrev pub PerformsFirst : Layout → ℕ → Ui → Closed → List Command → Type 0
PerformsFirst l k actor closed commands =
    (done : List Command) × ((rest : List Command) × ((commands ≡ done ++ rest) × PerformsAll l k actor closed done))

abbrev pub PerformsUnless : Status → Layout → ℕ → Ui → Closed → List Command → Type 0
PerformsUnless (Worn clock) l k actor closed commands = PerformsFirst l k actor closed commands
PerformsUnless status l k actor closed commands = PerformsAll l k actor closed commands

-- nothing is left to be done, unless a clock was worn
abbrev pub IsQuietUnless : Status → Layout → Closed → Type 0
IsQuietUnless (Worn clock) l closed = Unit {0}
IsQuietUnless status l closed = IsQuiet l (past_of closed) closed.rest.items

-- What was closed plays what these callers give: the merge of the journals is a run of the world for the callers that
-- performs their commands; at each moment of it each port gave out what it accepted first, in order, and each accepted
-- message was received, or discarded with its port, or waits in one record or Transfer of the world, once; at its end
-- it does so in the records and packets that are left, which stand for its ports; there is a journal for each place,
-- with what the merge has at it; and nothing is left to be done.
pub record Plays (l : Layout) (callers : ℕ → Option Ui) (commands : ℕ → Option (List Command)) (status : Status)
    (closed : Closed) : Type 0 where
  pub run : is_run l callers (past_of closed) ≡ true
  pub performed : (k : ℕ) (actor : Ui) (given : List Command) → callers k ≡ Some actor → commands k ≡ Some given →
      PerformsUnless status l k actor closed given
  pub receives : Always ReceivesInOrder (past_of closed)
  pub holds : Always WorldHolds (past_of closed)
  pub left : HoldsByFate (past_of closed) (holdings_of l closed)
  pub stands : StandsFor (past_of closed) (holdings_of l closed)
  pub places_are : length (closed_journals closed) ≡ places l
  pub journals : (p : ℕ) (journal : List Entry) → slice_get (closed_journals closed) p ≡ Some journal →
      journal ≡ reverse (at (p + 1) (past_of closed))
  pub quiet : IsQuietUnless status l closed

-- What a scenario gives.

-- the callers: seat 0 in the first actor, and seat k in the actor of script k
abbrev pub callers_of : Scene → ℕ → Option Ui
callers_of c k = slice_get (first_actor ∷ map (λ (script : Script). script.actor) c.scripts) k

-- all commands of each seat: those of the setup for seat 0, and those of script k for seat k
abbrev pub commands_by : Scene → ℕ → Option (List Command)
commands_by c k = slice_get (setup_commands c ∷ map (λ (script : Script). script.commands) c.scripts) k

-- each entry is within the bounds of a line, unless a clock was worn: then none was printed
abbrev pub AreWithinUnless : Status → Closed → Type 0
AreWithinUnless (Worn clock) closed = Unit {0}
AreWithinUnless status closed = AreWithin (merge_of closed)

-- There is a scenario that the source gives. What was closed plays it: of each script its first commands, so many as
-- were done, each await by a message that came; and what is left of a script waits for what will not come. Its entries
-- have lines.
pub record Runs (l : Layout) (told : Option (List ℕ)) (status : Status) (closed : Closed) : Type 0 where
  pub scene : Scene
  pub given : IsGiven l told (Ok scene)
  pub done : List ℕ
  pub plays : Plays l (callers_of scene) (fronts_of scene done) status closed
  pub stands : StandsUnless status l scene done (past_of closed)
  pub within : AreWithinUnless status closed

-- The same of a call that takes no awaits: there is a scenario that the source gives, in which nothing waits, and what
-- was closed plays all of it.
pub record RunsWhole (l : Layout) (told : Option (List ℕ)) (status : Status) (closed : Closed) : Type 0 where
  pub scene : Scene
  pub given : IsGivenNoWait l told (Ok scene)
  pub plays : Plays l (callers_of scene) (commands_by scene) status closed
  pub within : AreWithinUnless status closed

-- it runs, and nothing waits in its scenario
abbrev pub WholeRuns : Type 0
WholeRuns =
    (l : Layout) (told : Option (List ℕ)) (status : Status) (closed : Closed) → RunsWhole l told status closed →
    (r : Runs l told status closed) × HasNoWait r.scene

-- where nothing waits, it is played whole
abbrev pub RunsWithoutWaits : Type 0
RunsWithoutWaits =
    (l : Layout) (told : Option (List ℕ)) (status : Status) (closed : Closed) (r : Runs l told status closed) →
    HasNoWait r.scene → Plays l (callers_of r.scene) (commands_by r.scene) status closed
