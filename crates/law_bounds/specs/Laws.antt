-- What a place keeps stays within its ranges, and each packet that it puts has them.
-- l is a layout, p a place's number, c a command, k a packet, t the turn.
use Rattle.std.specs.Prelude.{ℕ, ◌≡◌, ◌≤◌, true}
use Rattle.chorus_ui.specs.declared.layout.Layout.{Layout}
use Rattle.chorus_ui.specs.Layout.{IsLayout, has_place}
use Rattle.chorus_entry.specs.declared.command.Command.{Command}
use Rattle.chorus_entry.specs.declared.packet.Packet.{Packet}
use Rattle.chorus_entry.specs.Command.{meets_conditions, has_body_in_limit}
use Rattle.law_machine.specs.PlaceState.{Turn, started, greatest_clock}
use Rattle.law_machine.specs.PlaceMachine.{act, work}
use Rattle.law_machine.specs.Lawful.{is_lawful}
use Rattle.law_bounds.specs.Bounds.{IsWithin, IsCallerWithin, IsTurnWithin}

-- a place on which nothing happened yet
abbrev pub StartsWithin : Type 0
StartsWithin = (l : Layout) (p : ℕ) → IsLayout l → has_place l p ≡ true → IsWithin (started l p)

-- a turn with a command
abbrev pub ActsStayWithin : Type 0
ActsStayWithin =
    (c : Command) (t : Turn) → meets_conditions c ≡ true → has_body_in_limit c ≡ true → IsCallerWithin t.caller →
    IsTurnWithin t
    → IsTurnWithin (act c t)

-- a turn with a lawful packet, whose clock the turn's is not below
abbrev pub WorksStayWithin : Type 0
WorksStayWithin =
    (k : Packet) (t : Turn) → is_lawful k.from k t.place ≡ true → k.clock ≤ greatest_clock t → IsTurnWithin t →
    IsTurnWithin (work k t)
