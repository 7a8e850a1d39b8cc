-- Looks: what a receive tells of its port. q is a port, e an entry of a caller in the actor a, older what stands before
-- it.
use Rattle.std.specs.Prelude.{ℕ, ◌≡◌, true, false, List, ◌∷◌, ◌++◌, length, Option, Some, slice_get}
use Rattle.chorus_ui.specs.declared.ui.Ui.{Ui}
use Rattle.chorus_ui.specs.declared.layout.Layout.{Layout}
use Rattle.chorus_ui.specs.Layout.{IsLayout}
use Rattle.chorus_entry.specs.declared.entry.Entry.{Entry}
use Rattle.chorus_entry.specs.declared.id.MsgId.{MsgId}
use Rattle.chorus_entry.specs.declared.act.Act.TheVariants.{Take, Empty, NotHere}
use Rattle.chorus_entry.specs.declared.command.Command.{Command}
use Rattle.chorus_world.specs.Views.{on}
use Rattle.chorus_world.specs.Ports.{fate}
use Rattle.chorus_world.specs.AcceptedLaws.{accepted_by, taken_by}
use Rattle.chorus_world.specs.Runs.{is_run}
use Rattle.chorus_world.specs.Commands.{performs}
use Rattle.law_world.specs.Holding.{holds}

-- Take tells that the actor held the port, and the message was the first that waited; Empty that the actor held it, and
-- none waited; NotHere that the actor did not hold it, at whatever place. Of these three at most one can be so.
pub record TellsWhatWaited (q a : Ui) (e : Entry) (older : List Entry) : Type 0 where
  pub taken : (n : ℕ) (x : MsgId) → e.act ≡ Take q n x → (holds a (fate (on q older)) ≡ true)
      × (n ≡ taken_by q older) × (slice_get (accepted_by q older) n ≡ Some x)
  pub empty : e.act ≡ Empty q → (holds a (fate (on q older)) ≡ true)
      × (taken_by q older ≡ length (accepted_by q older))
  pub elsewhere : e.act ≡ NotHere q → holds a (fate (on q older)) ≡ false

-- so does each entry of a seat whose commands are performed, in each run
abbrev pub LooksTellWhatWaited : Type 0
LooksTellWhatWaited =
    (l : Layout) (callers : ℕ → Option Ui) (newer older : List Entry) (e : Entry) (q a : Ui) (commands : List Command) →
    IsLayout l → is_run l callers (newer ++ e ∷ older) ≡ true → callers e.seat ≡ Some a →
    performs l e.seat a (newer ++ e ∷ older) commands ≡ true → TellsWhatWaited q a e older
