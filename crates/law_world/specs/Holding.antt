-- Holding: where a port is that an actor holds, and what NotHere says. l is a layout, past what stands before the entry e,
-- q is a port, a an actor.
use Rattle.std.specs.Prelude.{ℕ, ◌≡◌, ◌↔◌, Bool, true, false, List, ◌∷◌, Option, Some, None}
use Rattle.chorus_ui.specs.declared.ui.Ui.{Ui}
use Rattle.chorus_ui.specs.declared.layout.Layout.{Layout}
use Rattle.chorus_ui.specs.Layout.{IsLayout, place_at}
use Rattle.chorus_entry.specs.declared.command.Command.{Command}
use Rattle.chorus_entry.specs.declared.command.Command.TheVariants as commands
use Rattle.chorus_entry.specs.declared.entry.Entry.{Entry}
use Rattle.chorus_entry.specs.declared.act.Act.TheVariants.{NotHere}
use Rattle.chorus_world.specs.declared.spot.Spot.TheVariants.{Held}
use Rattle.chorus_world.specs.Views.{on}
use Rattle.chorus_world.specs.Ports.{PortState, fate, last_of}
use Rattle.chorus_world.specs.Steps.{is_legal}
use Rattle.chorus_world.specs.Runs.{is_held_by, is_run}
use Rattle.chorus_world.specs.Commands.{answers}

-- Where a port is.

-- a port that an actor holds is at the port's place on the site of the actor
abbrev pub IsAtActorsSite : Type 0
IsAtActorsSite =
    (l : Layout) (past : List Entry) (q a : Ui) (f : PortState) → IsLayout l → is_legal l past ≡ true →
    fate (on q past) ≡ Some f → f.spot ≡ Held a → last_of 0 f.path ≡ place_at l a.site q

-- the actor holds the port, at whatever place
abbrev pub holds : Ui → Option PortState → Bool
holds a None = false
holds a (Some f) = is_held_by a f.spot

-- the port that a command wants its caller's actor to hold: to receive from it, to move it or to delete it
abbrev pub port_wanted : Command → Option Ui
port_wanted (commands.Take q) = Some q
port_wanted (commands.Move q a) = Some q
port_wanted (commands.Delete q) = Some q
port_wanted _ = None

-- In a run, NotHere answers such a command exactly where the actor of its caller does not hold the port. That the
-- answer stands at the place of the command is all that this needs of the place.
abbrev pub NotHereMeansNotHeld : Type 0
NotHereMeansNotHeld =
    (l : Layout) (callers : ℕ → Option Ui) (past : List Entry) (e : Entry) (a q : Ui) (c : Command) →
    IsLayout l → is_run l callers (e ∷ past) ≡ true → callers e.seat ≡ Some a →
    answers l past a c e ≡ true → port_wanted c ≡ Some q →
    (e.act ≡ NotHere q) ↔ (holds a (fate (on q past)) ≡ false)
