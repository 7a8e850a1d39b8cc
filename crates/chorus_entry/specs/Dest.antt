-- Where a post goes to.
use Rattle.std.specs.Prelude.{ℕ, Bool, false, ◌&&◌, ◌==◌, Option, Some, None}
use Rattle.chorus_ui.specs.declared.ui.Ui.{Ui}
use Rattle.chorus_ui.specs.Name.{same_ui}
use Rattle.chorus_entry.specs.declared.dest.Dest.{Dest}
use Rattle.chorus_entry.specs.declared.dest.Dest.TheVariants.{Port, All, One, OneAt}

-- the port, where it is posted to a port
abbrev pub port_in : Dest → Option Ui
port_in (Port q) = Some q
port_in (All g) = None
port_in (One g) = None
port_in (OneAt g s) = None

-- the group, where it is posted to a group
abbrev pub group_in : Dest → Option Ui
group_in (Port q) = None
group_in (All g) = Some g
group_in (One g) = Some g
group_in (OneAt g s) = Some g

-- the site that is demanded, where it is functional at a site
abbrev pub site_in : Dest → Option ℕ
site_in (Port q) = None
site_in (All g) = None
site_in (One g) = None
site_in (OneAt g s) = Some s

-- the two destinations are one
abbrev pub same_dest : Dest → Dest → Bool
same_dest (Port q) (Port r) = same_ui q r
same_dest (All g) (All h) = same_ui g h
same_dest (One g) (One h) = same_ui g h
same_dest (OneAt g s) (OneAt h t) = same_ui g h && (s == t)
same_dest _ _ = false
