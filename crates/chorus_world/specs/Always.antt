-- Always: what holds at each moment of a list, and of each entry in the world before it. A past has its newest entry
-- first. P is a property of a past, or of an entry and the past before it.
use Rattle.std.specs.Prelude.{ℕ, ◌≡◌, true, List, ◌∷◌, ◌++◌, Option}
use Rattle.chorus_ui.specs.declared.ui.Ui.{Ui}
use Rattle.chorus_ui.specs.declared.layout.Layout.{Layout}
use Rattle.chorus_ui.specs.Layout.{IsLayout}
use Rattle.chorus_entry.specs.declared.entry.Entry.{Entry}
use Rattle.chorus_world.specs.Steps.{is_legal}
use Rattle.chorus_world.specs.Runs.{is_run}

-- the property holds of the past and of each older one
abbrev pub Always : (List Entry → Type 0) → List Entry → Type 0
Always P past = (newer older : List Entry) → past ≡ newer ++ older → P older

-- each entry has the property in the world before it
abbrev pub EachEntry : (List Entry → Entry → Type 0) → List Entry → Type 0
EachEntry P past = (newer older : List Entry) (e : Entry) → past ≡ newer ++ e ∷ older → P older e

-- The forms of the laws: it always holds of a legal list, of one over a layout that may be, and of a run over such a
-- layout; and each entry of a legal list has it.
abbrev pub LegalAlways : (List Entry → Type 0) → Type 0
LegalAlways P = (l : Layout) (past : List Entry) → is_legal l past ≡ true → Always P past

abbrev pub LayoutAlways : (List Entry → Type 0) → Type 0
LayoutAlways P = (l : Layout) (past : List Entry) → IsLayout l → is_legal l past ≡ true → Always P past

abbrev pub RunAlways : (List Entry → Type 0) → Type 0
RunAlways P =
    (l : Layout) (callers : ℕ → Option Ui) (past : List Entry) → IsLayout l → is_run l callers past ≡ true →
    Always P past

abbrev pub LegalEntries : (Layout → List Entry → Entry → Type 0) → Type 0
LegalEntries P = (l : Layout) (past : List Entry) → is_legal l past ≡ true → EachEntry (P l) past

abbrev pub LayoutEntries : (Layout → List Entry → Entry → Type 0) → Type 0
LayoutEntries P = (l : Layout) (past : List Entry) → IsLayout l → is_legal l past ≡ true → EachEntry (P l) past

-- a run is a legal list
abbrev pub RunsAreLegal : Type 0
RunsAreLegal =
    (l : Layout) (callers : ℕ → Option Ui) (past : List Entry) → is_run l callers past ≡ true → is_legal l past ≡ true
