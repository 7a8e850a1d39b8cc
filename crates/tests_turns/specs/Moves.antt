-- The entries for which the publishes of the tests stand.
use Rattle.std.specs.Prelude.{ℕ, zero, suc, ◌≡◌, ◌+◌, ◌%◌, List, [], ◌∷◌, ◌++◌}
use Rattle.chorus_ui.specs.declared.ui.Ui.{Ui}
use Rattle.chorus_entry.specs.declared.act.Act.{Act}
use Rattle.chorus_entry.specs.declared.act.Act.TheVariants.{NoCall, Depart}
use Rattle.chorus_entry.specs.declared.entry.Entry.{Entry}
use Rattle.chorus_board.specs.declared.board.Board.{Board}
use Rattle.chorus_board.specs.Boards.{entries_published, entries_begun, place_of}

-- an entry of place 1
abbrev pub entry_of : ℕ → Act → Entry
entry_of clock act = record { clock = clock; place = 1; seat = 0; act = act }

-- a port departs from place 1, between two entries that tell nothing
abbrev pub departure : Ui → ℕ → ℕ → List Entry
departure port place hop =
    entry_of 1 NoCall ∷ entry_of 2 (Depart port place port hop) ∷ entry_of 3 NoCall ∷ []

-- a port departs from place 1 by the hops from 1 on, to places 1 and 2 in turn
unfoldable pub departures : Ui → ℕ → List Entry
departures port zero = []
departures port (suc n) = departures port n ++ entry_of (n + 1) (Depart port ((n + 1) % 2 + 1) port (n + 1)) ∷ []

-- on the board of place 1 so many departures are published, and no more were begun
abbrev pub HasDeparted : Board → Ui → ℕ → Type 0
HasDeparted board port n =
    (entries_begun board ≡ departures port n) × (entries_published board ≡ departures port n) × (place_of board ≡ 1)
