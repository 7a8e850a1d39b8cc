-- Answering: exactly one act answers a command in a run. A past has its newest entry first.
use Rattle.std.specs.Prelude.{ℕ, ◌≡◌, ◌<◌, true, List, Option, Some, None}
use Rattle.chorus_ui.specs.declared.ui.Ui.{Ui}
use Rattle.chorus_ui.specs.declared.layout.Layout.{Layout}
use Rattle.chorus_ui.specs.Layout.{IsLayout, has_actor, place_at}
use Rattle.chorus_entry.specs.declared.entry.Entry.{Entry}
use Rattle.chorus_entry.specs.declared.act.Act.{Act}
use Rattle.chorus_entry.specs.declared.command.Command.{Command}
use Rattle.chorus_entry.specs.Command.{meets_conditions}
use Rattle.chorus_ui.specs.NameKind.{is_actor}
use Rattle.chorus_entry.specs.Places.{place_for}
use Rattle.chorus_world.specs.Views.{at, by}
use Rattle.chorus_world.specs.Places.{last_clock, just_taken}
use Rattle.chorus_world.specs.Seats.{posts_stay}
use Rattle.chorus_world.specs.Steps.{may}
use Rattle.chorus_world.specs.Runs.{is_run, may_run}
use Rattle.chorus_world.specs.Commands.{answers}
use Rattle.chorus_world.specs.Answer.{answer_for}

-- each caller is in an actor of the layout and posted at its home place alone
abbrev pub AreAtHome : Layout → (ℕ → Option Ui) → List Entry → Type 0
AreAtHome l callers past = (seat : ℕ) (actor : Ui) → callers seat ≡ Some actor →
    (has_actor l actor ≡ true) × (is_actor actor ≡ true) × (posts_stay (place_at l actor.site actor)
    (by seat past) ≡ true)

-- the act, as an entry of this seat in this actor with this clock, answers the command and gives a run again
pub record Fits (l : Layout) (callers : ℕ → Option Ui) (past : List Entry) (number : ℕ) (actor : Ui) (command : Command)
    (time : ℕ) (this : Act) : Type 0 where
  pub answers : answers l past actor command (record {
    clock = time;
    place = place_for l actor command;
    seat = number;
    act = this;
  }) ≡ true
  pub comes_next : may l past (record { clock = time; place = place_for l actor command; seat = number; act = this })
      ≡ true
  pub runs : may_run callers past (record {
    clock = time;
    place = place_for l actor command;
    seat = number;
    act = this;
  }) ≡ true

-- the act fits, and no other does
pub record IsOnly (l : Layout) (callers : ℕ → Option Ui) (past : List Entry) (number : ℕ) (actor : Ui)
    (command : Command) (time : ℕ) (this : Act) : Type 0 where
  pub fits : Fits l callers past number actor command time this
  pub only : (other : Act) → Fits l callers past number actor command time other → other ≡ this

-- in any past and at any clock at most one act fits: the one that the views tell
abbrev pub OneActAtMost : Type 0
OneActAtMost =
    (l : Layout) (callers : ℕ → Option Ui) (past : List Entry) (seat : ℕ) (actor : Ui) (command : Command) (clock : ℕ)
    (act : Act) →
    callers seat ≡ Some actor → Fits l callers past seat actor command clock act →
    act ≡ answer_for l past seat actor command

-- and it does fit in a run, at each clock that is above the last ones of place and caller, unless the last entry at the
-- place is the Take of a reply
abbrev pub OneActAnswers : Type 0
OneActAnswers =
    (l : Layout) (callers : ℕ → Option Ui) (past : List Entry) (seat : ℕ) (actor : Ui) (command : Command) (clock : ℕ) →
    IsLayout l → is_run l callers past ≡ true → AreAtHome l callers past → callers seat ≡ Some actor →
    meets_conditions command ≡ true →
    just_taken past (at (place_for l actor command) past) ≡ None →
    last_clock (at (place_for l actor command) past) < clock → last_clock (by seat past) < clock →
    IsOnly l callers past seat actor command clock (answer_for l past seat actor command)
