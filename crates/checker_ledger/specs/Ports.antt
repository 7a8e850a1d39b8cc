-- Ports: what the table has of each port, and what an entry makes of it.
use Rattle.std.specs.Prelude.{ℕ, ◌≡◌, ◌<◌, ◌≤◌, cond, true, List, length, Option, Some}
use Rattle.std.specs.Option.{option_map}
use Rattle.std.specs.HashMap.{HashMap, get}
use Rattle.chorus_ui.specs.declared.ui.Ui.{Ui}
use Rattle.chorus_ui.specs.declared.limits.TheConstants.{PENDING_LIMIT}
use Rattle.chorus_ui.specs.Name.{same_ui}
use Rattle.chorus_entry.specs.declared.entry.Entry.{Entry}
use Rattle.chorus_entry.specs.declared.id.MsgId.{MsgId}
use Rattle.chorus_entry.specs.declared.act.Act.{Act}
use Rattle.chorus_entry.specs.declared.act.Act.TheVariants.{Make, Take}
use Rattle.chorus_world.specs.declared.spot.Spot.{Spot}
use Rattle.chorus_world.specs.Views.{is_on}
use Rattle.chorus_world.specs.Ports.{PortState, changed, fate_after}
use Rattle.checker_rows.specs.Keys.{same_port}
use Rattle.checker_rows.specs.declared.keys.PortKey.{PortKey}

-- what the fields of a port stand for
abbrev pub port_state : ℕ → List MsgId → ℕ → List ℕ → Spot → PortState
port_state capacity accepted taken path spot =
    record { capacity = capacity; accepted = accepted; taken = taken; path = path; spot = spot }

-- no more were received than accepted, and there is room for 1 to 64
abbrev pub PortFits : ℕ → List MsgId → ℕ → Type 0
PortFits capacity accepted taken = (taken ≤ length accepted) × (1 ≤ capacity) × (capacity ≤ PENDING_LIMIT)

-- the port's fate in the table
abbrev pub fate_in : {S : Type 0} → HashMap PortKey PortState S → Ui → Option PortState
fate_in t q = get same_port t (record { port = q })

-- a Make has a capacity
abbrev pub MakeFits : Act → Type 0
MakeFits (Make q a c) = (1 ≤ c) × (c ≤ PENDING_LIMIT)
MakeFits _ = Unit {0}

-- a Take finds a message that was accepted and not received
abbrev pub TakeFits : Act → PortState → Type 0
TakeFits (Take q n x) f = f.taken < length f.accepted
TakeFits _ f = Unit {0}

-- and so where the entry stands on the line of a port of the table
abbrev pub TakesFit : Entry → (Ui → Option PortState) → Type 0
TakesFit e ports = (q : Ui) (f : PortState) → is_on (Some q) e ≡ true → ports q ≡ Some f → TakeFits e.act f

-- the same, of the port alone
abbrev pub ChangeFits : Act → Option PortState → Type 0
ChangeFits act o = (f : PortState) → o ≡ Some f → TakeFits act f

-- the new table has this fate for the port, and is else as it was
abbrev pub IsSet : Ui → PortState → (Ui → Option PortState) → (Ui → Option PortState) → Type 0
IsSet port f old new = (q : Ui) → new q ≡ cond (same_ui port q) (Some f) (old q)

-- the act changed the port, where it is in the table, and nothing else
abbrev pub IsChanged : Ui → Act → (Ui → Option PortState) → (Ui → Option PortState) → Type 0
IsChanged port act old new = (q : Ui) → new q ≡ cond (same_ui port q) (option_map (changed act) (old q)) (old q)

-- the ports after an entry
abbrev pub PortsAfter : Entry → (Ui → Option PortState) → (Ui → Option PortState) → Type 0
PortsAfter e old new =
    (q : Ui) → new q ≡ cond (is_on (Some q) e) (fate_after e.place e.act (old q)) (old q)

abbrev pub PortsStay : (Ui → Option PortState) → (Ui → Option PortState) → Type 0
PortsStay old new = (q : Ui) → new q ≡ old q
