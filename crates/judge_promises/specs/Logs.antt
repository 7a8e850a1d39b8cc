-- The words of a log's contracts.
use Rattle.std.specs.Prelude.{◌≡◌, List, Some}
use Rattle.chorus_ui.specs.declared.layout.Layout.{Layout}
use Rattle.chorus_entry.specs.declared.entry.Entry.{Entry}
use Rattle.chorus_world.specs.Steps.{State}
use Rattle.judge_promises.specs.declared.log.LogFault.{LogFault}
use Rattle.judge_promises.specs.declared.log.LogFault.TheVariants.{Broken, Memory}
use Rattle.judge_promises.specs.declared.kept.Kept.{Kept}
use Rattle.judge_promises.specs.Blames.{blame_by, IsKept}

-- the entry breaks a promise, and this is said of it; or memory was wanting
abbrev pub IsRefused : State → Entry → LogFault → Type 0
IsRefused w e (Broken blame) = blame_by w.layout w.past e ≡ Some blame
IsRefused w e (Memory fault) = Unit {0}

-- of these entries, the oldest first, those of the log are kept for the layout
pub record Keeps (l : Layout) (es : List Entry) (k : Kept) : Type 0 where
  pub layout_is : k.log.layout ≡ l
  pub kept : IsKept l es k.log.past k.blame
