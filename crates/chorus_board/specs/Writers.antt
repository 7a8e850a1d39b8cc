-- What a publish asks of what is shown and pending, and what it leaves.
use Rattle.std.specs.Prelude.{◌≡◌, List, [], length, fold}
use Rattle.chorus_board.specs.declared.rule.Home.{Home}
use Rattle.chorus_board.specs.declared.table.Table.{Table}
use Rattle.chorus_board.specs.declared.table.Publish.{Publish}
use Rattle.chorus_board.specs.Table.{applied_to, Fine}
use Rattle.chorus_board.specs.Rule.{home_of}

abbrev pub after_all : Table → List Publish → Table
after_all table pending = fold applied_to table pending

-- what is shown next stands for all that it has seen, and is of the same history, layout and place
abbrev pub IsReady : Table → List Publish → Type 0
IsReady table pending = Fine (after_all table pending) × ((after_all table pending).seen.book ≡ table.seen.book)
    × ((after_all table pending).hints.layout ≡ table.hints.layout) × ((after_all table pending).place ≡ table.place)

-- the table that is shown stands for all that it has seen, nothing is pending, and the writer knows whose history it is
pub record IsSettled (table : Table) (pending : List Publish) (v : Home) : Type 0 where
  pub fine : Fine table
  pub none_pending : length pending ≡ 0
  pub knows : v ≡ home_of table.seen.book table.hints.layout table.place

-- `next` is shown, nothing is pending, and the writer knows whose history it is
abbrev pub IsShown : Table → Table → List Publish → Home → Type 0
IsShown next shown pending v =
    (shown ≡ next) × (pending ≡ []) × (v ≡ home_of next.seen.book next.hints.layout next.place)
