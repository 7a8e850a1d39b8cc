-- Pieces: what is appended at once of the shapes of a row, whose definitions are in Shapes.
use Rattle.std.specs.Prelude.{ℕ, ◌+◌, ◌==◌, if◌then◌else◌, List, ◌++◌, codes, decimal}
use Rattle.law_picture.specs.declared.row.PacketKind.{PacketKind}
use Rattle.picture_rows.specs.declared.mark.Mark.{Mark}
use Rattle.picture_rows.specs.Marks.{mark_name, packet_name}

-- An entry: before its title, between that and the place of its mark, the place, and what stands with its clock and its
-- caller, before its act.

abbrev pub mark_open : Mark → List ℕ
mark_open m = codes "<g class='" ++ mark_name m ++ codes "'><title>"

abbrev pub mark_use : Mark → List ℕ
mark_use m = codes "</title><use href='#" ++ mark_name m ++ codes "' x='"

abbrev pub spot_piece : ℕ → ℕ → List ℕ
spot_piece x y = decimal x ++ ((codes "' y='" ++ decimal y) ++ codes "'/><text x='8' y='")

abbrev pub texts_piece : ℕ → ℕ → List ℕ → List ℕ → List ℕ
texts_piece right y clock seat =
    decimal y ++ ((codes "'>" ++ clock) ++ ((codes "</text><text x='" ++ decimal (right + 12)) ++ ((codes "' y='" ++ decimal y)
    ++ ((codes "'>" ++ seat) ++ ((codes "</text><text class='act' x='" ++ decimal (right + 72)) ++ ((codes "' y='" ++ decimal y)
    ++ codes "'>"))))))

-- An arrow: before its way, the way, between that and the lines that it joins, and these.

abbrev pub packet_open : PacketKind → List ℕ
packet_open kind = codes "<path class='" ++ packet_name kind ++ codes "' d='M"

abbrev pub way_piece : ℕ → ℕ → ℕ → ℕ → ℕ → List ℕ
way_piece start top turn stop y =
    decimal start ++ ((codes " " ++ decimal top) ++ ((codes "H" ++ decimal turn) ++ ((codes "L" ++ decimal stop)
    ++ (codes " " ++ decimal y))))

abbrev pub packet_title : PacketKind → List ℕ
packet_title kind = codes "'><title>" ++ packet_name kind ++ codes ", line "

abbrev pub ends_piece : ℕ → ℕ → List ℕ
ends_piece from to = decimal from ++ ((codes " to line " ++ decimal to) ++ codes "</title></path>\n")

-- A bar: before its title.

abbrev pub bar_open : ℕ → List ℕ
bar_open waits = if waits == 0 then codes "<g class='idle'><title>" else codes "<g class='waits'><title>"
