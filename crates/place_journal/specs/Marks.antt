-- The ports that are marked at a place: a mark for each port that its layout can make.
use Rattle.std.specs.Prelude.{Bool, false, if◌then◌else◌, List, slice_index_or}
use Rattle.chorus_ui.specs.declared.layout.Layout.{Layout}
use Rattle.chorus_ui.specs.declared.ui.Ui.{Ui}
use Rattle.chorus_ui.specs.Layout.{names_port, port_row}

-- the marks stand by site and then by number
pub record Marks : Type 0 where
  pub layout : Layout
  pub flags : List Bool

abbrev pub is_marked : Marks → Ui → Bool
is_marked marks q = if names_port marks.layout q then slice_index_or marks.flags (port_row q) false else false
