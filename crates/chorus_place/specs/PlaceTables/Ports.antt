-- The steps of ports, each with one entry.
-- q is a port, t the turn.
use Rattle.std.specs.Prelude.{◌≡◌, ◌≤◌, true, List, map, IsNone, All}
use Rattle.chorus_ui.specs.declared.kind.Kind.TheVariants as kinds
use Rattle.chorus_ui.specs.Layout.{can_make_port, creation_place}
use Rattle.chorus_entry.specs.declared.record.PortRecord.{PortRecord}
use Rattle.chorus_world.specs.Places.{is_made_here}
use Rattle.chorus_ports.specs.Limits.{IsWithinLimits}
use Rattle.chorus_entry.specs.declared.id.MsgId.{MsgId}
use Rattle.chorus_entry.specs.declared.message.Message.{Message}
use Rattle.chorus_ui.specs.declared.ui.Ui.{Ui}
use Rattle.chorus_entry.specs.declared.tag.Tag.{Tag}
use Rattle.chorus_entry.specs.declared.tag.Tag.TheVariants as tags
use Rattle.chorus_ports.specs.declared.taking.Taken.{Taken}
use Rattle.chorus_ports.specs.declared.taking.Taken.TheVariants as takes
use Rattle.chorus_ports.specs.Table.{find, replace}
use Rattle.chorus_ports.specs.Taking.{after_take}
use Rattle.law_machine.specs.PlaceState.{Turn, greatest_clock}
use Rattle.law_machine.specs.Own.{take_act}
use Rattle.law_machine.specs.Doing.{with_ports}
use Rattle.chorus_place.specs.PlaceTables.Tables.{IsSound, end_of}

-- a request has a number from 1 on, and its reply goes to a port
abbrev pub HasNumber : Tag → Type 0
HasNumber tags.Plain = Unit {0}
HasNumber (tags.Request number back) = (1 ≤ number) × (back.kind ≡ kinds.Port)
HasNumber (tags.Reply client number) = Unit {0}

-- an actor took this from the port
abbrev pub takes_from : Ui → Taken → Turn → Turn
takes_from q taken t = with_ports (take_act q taken) (replace q (after_take t.caller.actor) t.place.ports) t

-- a message that was taken is within its ranges
abbrev pub IsSoundTaken : Taken → Type 0
IsSoundTaken (takes.Message position m) = IsSound m
IsSoundTaken _ = Unit {0}

-- the ids of messages, in order
abbrev pub ids_of : List Message → List MsgId
ids_of ms = map (λ m. m.id) ms

-- a port may be held here from this turn on: one that the layout can make, that is not held, and that was made here
-- where this is its creation place; its record keeps the limits, and neither its next position nor its hop is above the
-- clocks
pub record MayArrive (r : PortRecord) (t : Turn) : Type 0 where
  pub kind : r.ui.kind ≡ kinds.Port
  pub can_make : can_make_port t.place.layout r.ui ≡ true
  pub absent : IsNone (find r.ui t.place.ports)
  pub own : creation_place t.place.layout r.ui ≡ t.place.number → is_made_here r.ui t.place.journal ≡ true
  pub limits : IsWithinLimits r
  pub pending : All IsSound r.pending
  pub position : end_of r ≤ greatest_clock t
  pub hop : r.hop ≤ greatest_clock t
