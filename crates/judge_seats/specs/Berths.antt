-- Where each port is, by the entries so far, the newest first; and what an act asks of the actor of its caller. p is a
-- place, q a port, a and b are actors.
use Rattle.std.specs.Prelude.{ℕ, ◌≡◌, ◌==◌, cond, List, Option, Some, None, if◌then◌else◌}
use Rattle.std.specs.HashMap.{HashMap, get}
use Rattle.chorus_ui.specs.declared.ui.Ui.{Ui}
use Rattle.chorus_ui.specs.Name.{same_ui}
use Rattle.chorus_entry.specs.declared.entry.Entry.{Entry}
use Rattle.chorus_entry.specs.declared.act.Act.{Act}
use Rattle.chorus_entry.specs.declared.act.Act.TheVariants.{Make, Take, Empty, NotHere, Rehome, Depart, Arrive, Delete}
use Rattle.chorus_world.specs.declared.spot.Spot.{Spot}
use Rattle.chorus_world.specs.declared.spot.Spot.TheVariants.{Held, Ended, Moving}
use Rattle.chorus_world.specs.Views.{is_on, on}
use Rattle.chorus_world.specs.Ports.{PortState, arrived, fate, last_of}
use Rattle.checker_rows.specs.Keys.{same_port}
use Rattle.checker_rows.specs.declared.keys.PortKey.{PortKey}
use Rattle.judge_seats.specs.declared.berths.Berth.{Berth}

-- where a port is by its state: the last place of its path, and its spot
abbrev pub berth_of : Option PortState → Option Berth
berth_of None = None
berth_of (Some f) = Some (record { place = last_of 0 f.path; spot = f.spot })

-- where the port is
abbrev pub berth : List Entry → Ui → Option Berth
berth past q = berth_of (fate (on q past))

abbrev pub with_spot : Spot → Option Berth → Option Berth
with_spot s None = None
with_spot s (Some b) = Some (record { place = b.place; spot = s })

abbrev pub gone_to : ℕ → Ui → Option Berth → Option Berth
gone_to p a None = None
gone_to p a (Some b) = Some (record { place = p; spot = Moving a })

abbrev pub come : Option Berth → Option Berth
come None = None
come (Some b) = Some (record { place = b.place; spot = arrived b.spot })

-- where it is after an act on its line at the place p
abbrev pub berth_after : ℕ → Act → Option Berth → Option Berth
berth_after p (Make q a c) b = Some (record { place = p; spot = Held a })
berth_after p (Rehome q a) b = with_spot (Held a) b
berth_after p (Depart q to a hop) b = gone_to to a b
berth_after p (Arrive q hop) b = come b
berth_after p (Delete q xs) b = with_spot Ended b
berth_after p _ b = b

-- the port whose berth an act changes
abbrev pub moved : Act → Option Ui
moved (Make q a c) = Some q
moved (Rehome q a) = Some q
moved (Depart q to a hop) = Some q
moved (Arrive q hop) = Some q
moved (Delete q xs) = Some q
moved _ = None

-- the actor that holds it at the place p
abbrev pub holder : Spot → Option Ui
holder (Held a) = Some a
holder _ = None

abbrev pub holder_at : ℕ → Option Berth → Option Ui
holder_at p None = None
holder_at p (Some b) = if b.place == p then holder b.spot else None

-- The actor in which the caller of an act has to be: that which holds the port; and the one in which it cannot be: that
-- which holds the port that it does not find. `ports` says where each port is.
abbrev pub needed_in : (Ui → Option Berth) → ℕ → Act → Option Ui
needed_in ports p (Take q n x) = holder_at p (ports q)
needed_in ports p (Empty q) = holder_at p (ports q)
needed_in ports p (Rehome q a) = holder_at p (ports q)
needed_in ports p (Depart q to a hop) = holder_at p (ports q)
needed_in ports p (Delete q xs) = holder_at p (ports q)
needed_in ports p _ = None

abbrev pub missed_in : (Ui → Option Berth) → ℕ → Act → Option Ui
missed_in ports p (NotHere q) = holder_at p (ports q)
missed_in ports p _ = None

abbrev pub needed : List Entry → Entry → Option Ui
needed past e = needed_in (berth past) e.place e.act

abbrev pub missed : List Entry → Entry → Option Ui
missed past e = missed_in (berth past) e.place e.act

-- the table of ports
abbrev pub berth_in : {S : Type 0} → HashMap PortKey Berth S → Ui → Option Berth
berth_in t q = get same_port t (record { port = q })

-- the new table has this berth for the port, and is else as it was
abbrev pub IsBerthed : Ui → Berth → (Ui → Option Berth) → (Ui → Option Berth) → Type 0
IsBerthed port b old new = (q : Ui) → new q ≡ cond (same_ui port q) (Some b) (old q)

-- the berths after an entry
abbrev pub BerthsAfter : Entry → (Ui → Option Berth) → (Ui → Option Berth) → Type 0
BerthsAfter e old new = (q : Ui) → new q ≡ cond (is_on (Some q) e) (berth_after e.place e.act (old q)) (old q)
