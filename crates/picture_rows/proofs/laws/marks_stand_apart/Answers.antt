use Rattle.picture_rows.proofs.StandApart.{columns_stand_apart, entries_have_columns, rows_go_down}
use Rattle.picture_rows.proofs.laws.marks_stand_apart.Goals as goal

pub returns-clause-rows : goal.returns-clause-rows
returns-clause-rows c = rows_go_down

pub returns-clause-columns : goal.returns-clause-columns
returns-clause-columns c = entries_have_columns

pub returns-clause-apart : goal.returns-clause-apart
returns-clause-apart c = columns_stand_apart
