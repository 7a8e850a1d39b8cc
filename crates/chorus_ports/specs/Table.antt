-- The table of the ports that a place holds: their records in table order, and how many more fit.
use Rattle.std.specs.Prelude.{◌≡◌, ℕ, ◌+◌, ◌-◌, MatchOption, Bool, true, ◌&&◌, not, if◌then◌else◌, Option, Some, None, is_some, List, [], ◌∷◌, ◌++◌}
use Rattle.chorus_ui.specs.declared.ui.Ui.{Ui}
use Rattle.chorus_ui.specs.Name.{same_ui}
use Rattle.chorus_entry.specs.declared.record.PortRecord.{PortRecord}

pub record Table : Type 0 where
  pub records : List PortRecord
  pub spare : ℕ

-- no port, and room for this many
abbrev pub empty_table : ℕ → Table
empty_table most = record { records = []; spare = most }

-- the record of the port
abbrev pub find : Ui → List PortRecord → Option PortRecord
find port [] = None
find port (r ∷ rs) = if same_ui r.ui port then Some r else find port rs

-- the records with that of the port replaced, at its position, by what f makes of it
abbrev pub replace : Ui → (PortRecord → PortRecord) → List PortRecord → List PortRecord
replace port f [] = []
replace port f (r ∷ rs) = if same_ui r.ui port then f r ∷ rs else r ∷ replace port f rs

-- the table with that record replaced
abbrev pub changed : Ui → (PortRecord → PortRecord) → Table → Table
changed port f table = record table { records = replace port f table.records }

-- the records without that of the port, in their order
abbrev pub without : Ui → List PortRecord → List PortRecord
without port [] = []
without port (r ∷ rs) = if same_ui r.ui port then rs else r ∷ without port rs

-- each port has one record
abbrev pub are_distinct : List PortRecord → Bool
are_distinct [] = true
are_distinct (r ∷ rs) = not (is_some (find r.ui rs)) && are_distinct rs

-- the room of a record that leaves, where one does, is spare again
abbrev pub GivesRoomBack : Option PortRecord → Table → Table → Type 0
GivesRoomBack gone before after =
    MatchOption gone (after.spare ≡ before.spare) (λ _. after.spare ≡ before.spare + 1)

-- the table with one record more, the last, where room was spare
abbrev pub added : Table → PortRecord → Table
added table port = record { records = table.records ++ port ∷ []; spare = table.spare - 1 }
