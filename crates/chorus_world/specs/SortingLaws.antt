-- The laws of sorting: what is legal, and a run, in some order is so in the order by clock and place.
use Rattle.std.specs.Prelude.{ℕ, ◌≡◌, ◌⊎◌, true, false, List, Option}
use Rattle.std.specs.List.{All}
use Rattle.chorus_ui.specs.declared.ui.Ui.{Ui}
use Rattle.chorus_ui.specs.declared.layout.Layout.{Layout}
use Rattle.chorus_ui.specs.Layout.{IsLayout, has_site}
use Rattle.chorus_entry.specs.declared.entry.Entry.{Entry}
use Rattle.chorus_entry.specs.declared.id.MsgId.{MsgId}
use Rattle.chorus_entry.specs.declared.act.Act.{Act}
use Rattle.chorus_entry.specs.declared.act.Act.TheVariants.{NoGroup}
use Rattle.chorus_entry.specs.declared.command.Command.{Command}
use Rattle.chorus_world.specs.Views.{at, by, about, on}
use Rattle.chorus_world.specs.Groups.{is_group_place}
use Rattle.chorus_world.specs.Steps.{is_legal}
use Rattle.chorus_world.specs.Runs.{is_run}
use Rattle.chorus_world.specs.Commands.{answers}
use Rattle.chorus_world.specs.Order.{IsCausal, sort}
use Rattle.chorus_entry.specs.Order.{IsRising}

-- a NoGroup stands at the group's place, or the layout has no such site
abbrev pub LooksAtHome : Layout → ℕ → Act → Type 0
LooksAtHome l p (NoGroup g) = (is_group_place l g p ≡ true) ⊎ (has_site l g.site ≡ false)
LooksAtHome l p _ = Unit {0}

abbrev pub AllLookAtHome : Layout → List Entry → Type 0
AllLookAtHome l past = All (λ (e : Entry). LooksAtHome l e.place e.act) past

-- a legal list along whose views clock and place rise is legal when it is sorted
abbrev pub SortsLegally : Type 0
SortsLegally =
    (l : Layout) (past : List Entry) → IsLayout l → IsCausal past → AllLookAtHome l past → is_legal l past ≡ true →
    is_legal l (sort past) ≡ true

-- and a run for the same callers where it was one
abbrev pub SortsRuns : Type 0
SortsRuns =
    (l : Layout) (callers : ℕ → Option Ui) (past : List Entry) → IsLayout l → IsCausal past → AllLookAtHome l past →
    is_run l callers past ≡ true → is_run l callers (sort past) ≡ true

-- each view of the sorted list is the view as it was
pub record SortsViews (past : List Entry) : Type 0 where
  pub places : (p : ℕ) → at p (sort past) ≡ at p past
  pub seats : (s : ℕ) → by s (sort past) ≡ by s past
  pub messages : (x : MsgId) → about x (sort past) ≡ about x past
  pub ports : (q : Ui) → on q (sort past) ≡ on q past

abbrev pub KeepsViews : Type 0
KeepsViews = (past : List Entry) → IsCausal past → SortsViews past

-- and the sorted list is in order: clock and place rise from older to newer
abbrev pub SortsInOrder : Type 0
SortsInOrder = (past : List Entry) → IsCausal past → IsRising (sort past)

-- a NoGroup that answers a command looks at home
abbrev pub AnswersLookAtHome : Type 0
AnswersLookAtHome =
    (l : Layout) (past : List Entry) (a : Ui) (c : Command) (e : Entry) → answers l past a c e ≡ true →
    LooksAtHome l e.place e.act
