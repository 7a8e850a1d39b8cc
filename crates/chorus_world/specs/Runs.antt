-- Runs: the legal lists in which each caller holds the ports that it receives from, moves and deletes.
use Rattle.std.specs.Prelude.{ℕ, nat_lt, Bool, true, false, ◌&&◌, not, List, [], ◌∷◌, Option, Some, None}
use Rattle.chorus_ui.specs.declared.ui.Ui.{Ui}
use Rattle.chorus_ui.specs.Name.{same_ui}
use Rattle.chorus_ui.specs.declared.layout.Layout.{Layout}
use Rattle.chorus_entry.specs.declared.entry.Entry.{Entry}
use Rattle.chorus_entry.specs.declared.act.Act.{Act}
use Rattle.chorus_entry.specs.declared.act.Act.TheVariants.{Take, Empty, NotHere, Rehome, Depart, Delete}
use Rattle.chorus_world.specs.declared.spot.Spot.{Spot}
use Rattle.chorus_world.specs.declared.spot.Spot.TheVariants.{Held}
use Rattle.chorus_world.specs.Views.{by, on}
use Rattle.chorus_world.specs.Ports.{PortState, fate, is_last}
use Rattle.chorus_world.specs.Places.{last_clock}
use Rattle.chorus_world.specs.Steps.{may}

abbrev pub is_held_by : Ui → Spot → Bool
is_held_by a (Held b) = same_ui a b
is_held_by a _ = false

-- the port is held at the place p by the actor
abbrev pub is_held_at_by : ℕ → Ui → Option PortState → Bool
is_held_at_by p a None = false
is_held_at_by p a (Some f) = is_held_by a f.spot && is_last p f

-- what an act of a caller in this actor needs besides
abbrev pub fits_caller : List Entry → ℕ → Ui → Act → Bool
fits_caller past p a (Take q n x) = is_held_at_by p a (fate (on q past))
fits_caller past p a (Empty q) = is_held_at_by p a (fate (on q past))
fits_caller past p a (NotHere q) = not (is_held_at_by p a (fate (on q past)))
fits_caller past p a (Rehome q b) = is_held_at_by p a (fate (on q past))
fits_caller past p a (Depart q to b hop) = is_held_at_by p a (fate (on q past))
fits_caller past p a (Delete q xs) = is_held_at_by p a (fate (on q past))
fits_caller past p a _ = true

abbrev pub fits_callers : List Entry → ℕ → Option Ui → Act → Bool
fits_callers past p None act = false
fits_callers past p (Some a) act = fits_caller past p a act

-- the entry may come next in a run: its seat is a caller, and its clock is above the last one of that seat
abbrev pub may_run : (ℕ → Option Ui) → List Entry → Entry → Bool
may_run callers past e =
    nat_lt (last_clock (by e.seat past)) e.clock && fits_callers past e.place (callers e.seat) e.act

-- a run for callers, each seat with the actor in which it runs
abbrev pub is_run : Layout → (ℕ → Option Ui) → List Entry → Bool
is_run l callers [] = true
is_run l callers (e ∷ past) = may l past e && may_run callers past e && is_run l callers past
