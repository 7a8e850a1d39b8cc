-- What it means that all entries stand: some callers make them a run, with these actors.
use Rattle.std.specs.Prelude.{◌≡◌, ◌↔◌, ℕ, ◌+◌, true, List, ◌∷◌, ◌++◌, length, Option, Some, None}
use Rattle.chorus_ui.specs.declared.ui.Ui.{Ui}
use Rattle.chorus_ui.specs.declared.layout.Layout.{Layout}
use Rattle.chorus_ui.specs.Layout.{has_actor}
use Rattle.chorus_ui.specs.NameKind.{is_actor}
use Rattle.chorus_entry.specs.declared.entry.Entry.{Entry}
use Rattle.chorus_world.specs.Runs.{is_run}
use Rattle.chorus_world.specs.Steps.{is_legal}
use Rattle.judge_seats.specs.Seats.{first_out, sits}

-- each caller is in an actor of the layout, and for these callers the entries are a run
pub record IsRunFor (l : Layout) (past : List Entry) (callers : ℕ → Option Ui) : Type 0 where
  pub actors : (s : ℕ) (a : Ui) → callers s ≡ Some a → is_actor a ≡ true
  pub of_layout : (s : ℕ) (a : Ui) → callers s ≡ Some a → has_actor l a ≡ true
  pub run : is_run l callers past ≡ true

-- for some callers
abbrev pub MayBeRun : Layout → List Entry → Type 0
MayBeRun l past = (callers : ℕ → Option Ui) × IsRunFor l past callers

-- the entry at this line is the first that no callers allow: those before it are a run for some, and with it for none
pub record IsFirstOut (l : Layout) (past : List Entry) (line : ℕ) : Type 0 where
  pub newer : List Entry
  pub entry : Entry
  pub older : List Entry
  pub is : past ≡ newer ++ entry ∷ older
  pub line_is : line ≡ length older + 2
  pub before : MayBeRun l older
  pub none : MayBeRun l (entry ∷ older) → ⊥

-- where no entry is out, the actors that are told make the list a run
abbrev pub ToldSeatsMakeARun : Type 0
ToldSeatsMakeARun =
    (l : Layout) (past : List Entry) → is_legal l past ≡ true → first_out l past ≡ None → IsRunFor l past (sits l past)

-- and so it is wherever some actors do
abbrev pub RunsHaveNoneOut : Type 0
RunsHaveNoneOut = (l : Layout) (past : List Entry) → MayBeRun l past → first_out l past ≡ None

-- where one is, it is the first that no callers allow
abbrev pub OutIsTheFirst : Type 0
OutIsTheFirst =
    (l : Layout) (past : List Entry) (line : ℕ) → is_legal l past ≡ true → first_out l past ≡ Some line →
    IsFirstOut l past line
