-- Where a record stands in a table.
use Rattle.std.specs.Prelude.{ℕ, ◌+◌, if◌then◌else◌, List, [], ◌∷◌}
use Rattle.chorus_ui.specs.declared.ui.Ui.{Ui}
use Rattle.chorus_ui.specs.Name.{same_ui}
use Rattle.chorus_entry.specs.declared.record.PortRecord.{PortRecord}

-- the position of the port's record, counted from 0: the length where it has none
abbrev pub row_of : Ui → List PortRecord → ℕ
row_of port [] = 0
row_of port (r ∷ rs) = if same_ui r.ui port then 0 else row_of port rs + 1
