-- What a place knows of where ports are: for each port that its layout can make, the pair of place and hop that is
-- kept.
use Rattle.std.specs.Prelude.{ℕ, nat_lt, ◌&&◌, if◌then◌else◌, Option, Some, None, List, replicate, slice_index_or, slice_set}
use Rattle.chorus_ui.specs.declared.layout.Layout.{Layout}
use Rattle.chorus_ui.specs.declared.ui.Ui.{Ui}
use Rattle.chorus_ui.specs.Layout.{creation_place, names_port, ports_of, port_row}
use Rattle.chorus_ui.specs.Name.{same_ui}

-- the pairs stand by site and then by number
pub record Known : Type 0 where
  pub layout : Layout
  pub pairs : List (Option (ℕ × ℕ))

-- the pair that is kept of a port
abbrev pub kept : Known → Ui → Option (ℕ × ℕ)
kept known q = if names_port known.layout q then slice_index_or known.pairs (port_row q) None else None

-- the kept pair, and where nothing is kept the creation place with hop 0
abbrev pub newest_of : Layout → Ui → Option (ℕ × ℕ) → ℕ × ℕ
newest_of layout q None = (creation_place layout q, 0)
newest_of layout q (Some pair) = pair

abbrev pub newest : Known → Ui → ℕ × ℕ
newest known q = newest_of known.layout q (kept known q)

-- the pair that is kept of each port
abbrev pub Pairs : Type 0
Pairs = Ui → Option (ℕ × ℕ)

-- the hop of the kept pair, and 0 where nothing is kept
abbrev pub hop_of : Option (ℕ × ℕ) → ℕ
hop_of None = 0
hop_of (Some pair) = pair.1

-- a greater hop is kept, with its place, in place of the pair that was, and the pairs of the other ports stay
abbrev pub learned : Ui → ℕ → ℕ → Pairs → Pairs
learned port place hop pairs q =
    if nat_lt (hop_of (pairs port)) hop && same_ui port q then Some (place, hop) else pairs q

-- nothing is kept, and there is room for each port that the layout can make
abbrev pub nothing_known : Layout → Known
nothing_known layout = record { layout = layout; pairs = replicate (ports_of layout) None }

-- the same, as one value: the pair of the port is put where it stands
abbrev pub known_after : Known → Ui → ℕ → ℕ → Known
known_after known port place hop =
    if nat_lt (hop_of (kept known port)) hop
    then record known { pairs = slice_set known.pairs (port_row port) (Some (place, hop)) }
    else known
